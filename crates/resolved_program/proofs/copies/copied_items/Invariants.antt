use Rattle.std.proofs.Common.{◌≡◌, ◌++◌, drop, map}
use Rattle.resolved_program.specs.Resolved.{item}
use Rattle.resolved_program.proofs.copies.copied_items.Given as goal

-- what is made so far, before what is left, is all
abbrev pub invariant-loop-i : goal.invariant-loop-i
invariant-loop-i l = map item l.made.items ++ map item (drop l.i-index l.items) ≡ map item l.items
