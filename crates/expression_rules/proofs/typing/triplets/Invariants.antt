use Rattle.std.proofs.Common.{◌≡◌, ◌+◌, ◌≤◌, drop}
use Rattle.syntax_tree.specs.Expression.{parts_of}
use Rattle.expression_rules.specs.Types.{triplets}
use Rattle.expression_rules.proofs.typing.triplets.Given as goal

abbrev pub invariant-loop-part : goal.invariant-loop-part
invariant-loop-part l = (l.count + triplets (parts_of (drop l.part-index l.parts)) ≡ triplets (parts_of l.parts)) × (l.count ≤ l.part-index)
