use Rattle.std.proofs.Common.{[], ◌∷◌, pos}
use Rattle.nest_order.proofs.Examples.{is_parallel, nine_acts}
use Rattle.nest_order.proofs.example.example_is_parallel.Goals as goal

pub returns-clause-fine : goal.returns-clause-fine
returns-clause-fine c = is_parallel (pos 3 ∷ pos 2 ∷ pos 1 ∷ pos 4 ∷ [])

pub returns-clause-faulty : goal.returns-clause-faulty
returns-clause-faulty c = is_parallel (pos 1 ∷ pos 0 ∷ pos 2 ∷ pos 0 ∷ [])

pub returns-clause-parts : goal.returns-clause-parts
returns-clause-parts c = nine_acts
