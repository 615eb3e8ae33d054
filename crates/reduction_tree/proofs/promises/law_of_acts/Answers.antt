use Rattle.std.proofs.Common.{subst}
use Rattle.reduction_tree.proofs.Acts.{sends-is-takes, takes-is-sends, Within, act-within}
use Rattle.reduction_tree.proofs.promises.law_of_acts.Goals as goal

pub returns-clause-matched : goal.returns-clause-matched
returns-clause-matched c nodes round p q in-p in-q = (sends-is-takes nodes round p.0 q.0 in-p in-q, takes-is-sends nodes round p.0 q.0 in-p in-q)

pub returns-clause-sends_inside : goal.returns-clause-sends_inside
returns-clause-sends_inside c nodes round p q in-p is = subst (Within nodes) is (act-within nodes round p.0 in-p)

pub returns-clause-takes_inside : goal.returns-clause-takes_inside
returns-clause-takes_inside c nodes round p q in-p is = subst (Within nodes) is (act-within nodes round p.0 in-p)
