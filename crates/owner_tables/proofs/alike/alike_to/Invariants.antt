use Rattle.std.proofs.Common.{◌≡◌, filter}
use Rattle.std.specs.List.{range_with_len}
use Rattle.owner_tables.specs.Alike.{is_alike}
use Rattle.owner_tables.proofs.alike.alike_to.Given as goal

-- those of the nodes so far
abbrev pub invariant-loop-other : goal.invariant-loop-other
invariant-loop-other l = l.alike.items ≡ filter (is_alike l.mapping l.fn.node) (range_with_len 0 l.other)
