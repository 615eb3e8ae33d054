use Rattle.std.proofs.Common.{◌≡◌, ◌++◌, true}
use Rattle.syntax_tree.specs.Expression.{arguments_of, parts_of}
use Rattle.expr_reader.specs.Reading.{are_arguments}
use Rattle.expr_reader.proofs.reading.expressions.Given as goal

abbrev pub invariant-loop-part : goal.invariant-loop-part
invariant-loop-part l = record {
  split : l.fn.parts.items ≡ l.yielded ++ l.part-iterator.rest.items;
  each : are_arguments (parts_of l.yielded) ≡ true;
  same : arguments_of l.expressions.items ≡ parts_of l.yielded;
}
