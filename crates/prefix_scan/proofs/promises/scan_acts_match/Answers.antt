use Rattle.std.proofs.Common.{◌+◌, ◌^◌}
use Rattle.reduction_tree.specs.Tree.{node_id}
use Rattle.prefix_scan.proofs.Acts.{sends-is-takes, takes-is-sends, sends-within, takes-within, first-sends, over-now}
use Rattle.prefix_scan.proofs.promises.scan_acts_match.Goals as goal

pub returns-clause-matched : goal.returns-clause-matched
returns-clause-matched c nodes round p q in' = (sends-is-takes nodes round p.0 q.0, takes-is-sends nodes round p.0 q.0 in')

pub returns-clause-sends_inside : goal.returns-clause-sends_inside
returns-clause-sends_inside c nodes round p q is = sends-within nodes round p.0 q.0 is

pub returns-clause-takes_inside : goal.returns-clause-takes_inside
returns-clause-takes_inside c nodes round p q in' is = takes-within nodes round p.0 q.0 in' is

pub returns-clause-needed : goal.returns-clause-needed
returns-clause-needed c nodes round lt = let e = first-sends nodes round lt in (node_id 0, node_id (0 + 2 ^ round), e.0, e.1)

pub returns-clause-over : goal.returns-clause-over
returns-clause-over c nodes round p = over-now nodes round p.0
