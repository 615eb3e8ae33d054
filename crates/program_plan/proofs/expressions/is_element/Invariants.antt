use Rattle.std.proofs.Common.{◌≡◌, drop}
use Rattle.std.specs.Prelude.{◌&&◌}
use Rattle.syntax_tree.specs.Expression.{parts_of}
use Rattle.array_meaning.specs.Resolution.{is_element}
use Rattle.program_plan.proofs.expressions.is_element.Given as goal

abbrev pub invariant-loop-part : goal.invariant-loop-part
invariant-loop-part l = (l.all && is_element (parts_of (drop l.part-index l.parts))) ≡ is_element (parts_of l.parts)
