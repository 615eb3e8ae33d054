use Rattle.std.proofs.Common.{◌≡◌, drop}
use Rattle.std.specs.List.{list_all}
use Rattle.array_meaning.specs.Forall.{is_index_in_limits}
use Rattle.interference.proofs.limits.are_indices_in_limits.Given as goal

-- so far all are
abbrev pub invariant-loop-p : goal.invariant-loop-p
invariant-loop-p l = list_all is_index_in_limits l.axes ≡ list_all is_index_in_limits (drop l.p-index l.axes)
