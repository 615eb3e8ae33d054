use Rattle.std.proofs.Common.{◌≡◌, drop}
use Rattle.std.specs.List.{list_all}
use Rattle.forall_conditions.specs.Linears.{is_short_in_limits}
use Rattle.forall_conditions.proofs.forall_limits.are_indices_in_limits.Given as goal

abbrev pub invariant-loop-p : goal.invariant-loop-p
invariant-loop-p l = list_all is_short_in_limits l.axes ≡ list_all is_short_in_limits (drop l.p-index l.axes)
