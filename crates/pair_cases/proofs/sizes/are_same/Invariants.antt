use Rattle.std.proofs.Common.{◌≡◌, take}
use Rattle.machine_steps.specs.Layout.{sizes}
use Rattle.pair_cases.proofs.sizes.are_same.Given as goal

abbrev pub invariant-loop-row : goal.invariant-loop-row
invariant-loop-row l = take l.row (sizes l.before.layouts) ≡ take l.row (sizes l.after.layouts)
