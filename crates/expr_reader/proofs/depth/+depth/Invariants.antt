use Rattle.std.proofs.Common.{◌≤◌, ◌↔◌, drop}
use Rattle.syntax_tree.specs.Spelling.{list_depth}
use Rattle.syntax_tree.specs.Expression.{arguments_of, parts_of}
use Rattle.expr_reader.proofs.depth.+depth.Given as goal

abbrev pub invariant-parts_fit-loop-part : goal.invariant-parts_fit-loop-part
invariant-parts_fit-loop-part l = (list_depth (parts_of l.parts) ≤ l.levels) ↔ (list_depth (parts_of (drop l.part-index l.parts)) ≤ l.levels)

abbrev pub invariant-arguments_fit-loop-argument : goal.invariant-arguments_fit-loop-argument
invariant-arguments_fit-loop-argument l = (list_depth (arguments_of l.arguments) ≤ l.levels) ↔ (list_depth (arguments_of (drop l.argument-index l.arguments)) ≤ l.levels)
