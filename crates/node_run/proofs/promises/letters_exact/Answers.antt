use Rattle.node_run.proofs.PairLetters.{letters-exact, none-past}
use Rattle.node_run.proofs.promises.letters_exact.Goals as goal

pub returns-clause-pairs : goal.returns-clause-pairs
returns-clause-pairs g c faults meaning count made shapes m none first valid whole over run p q lp lq =
    letters-exact faults meaning count p q lp lq made shapes m none first valid whole over run

pub returns-clause-others : goal.returns-clause-others
returns-clause-others g c faults meaning count m run p q past = none-past faults meaning count m run p q past
