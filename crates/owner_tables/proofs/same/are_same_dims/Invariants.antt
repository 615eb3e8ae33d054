use Rattle.std.proofs.Common.{◌≡◌, drop}
use Rattle.std.specs.Cmp.Lexicographic.{pointwise}
use Rattle.machine_steps.specs.SameLayouts.{is_same_dim}
use Rattle.owner_tables.proofs.same.are_same_dims.Given as goal

-- the dimensions so far are the same
abbrev pub invariant-loop-k : goal.invariant-loop-k
invariant-loop-k l = pointwise is_same_dim l.one l.other ≡ pointwise is_same_dim (drop l.k l.one) (drop l.k l.other)
