use Rattle.std.proofs.Common.{◌≡◌, drop, true}
use Rattle.std.specs.Prelude.{◌&&◌}
use Rattle.syntax_tree.specs.Expression.{arguments_of, parts_of}
use Rattle.expression_rules.specs.Types.{are_integer_scalars, types_and_ranks, are_subscripts, conforming, inquired_from, common}
use Rattle.expression_rules.proofs.typing.+typing.Given as goal

abbrev pub invariant-are_integer_scalars-loop-argument : goal.invariant-are_integer_scalars-loop-argument
invariant-are_integer_scalars-loop-argument l =
    (l.all && are_integer_scalars (types_and_ranks l.context l.scope (arguments_of (drop l.argument-index l.arguments))))
    ≡ are_integer_scalars (types_and_ranks l.context l.scope (arguments_of l.arguments))

abbrev pub invariant-are_inquired-loop-argument : goal.invariant-are_inquired-loop-argument
invariant-are_inquired-loop-argument l =
    (l.all && inquired_from l.first (types_and_ranks l.context l.scope (arguments_of (drop l.argument-index l.arguments))))
    ≡ inquired_from true (types_and_ranks l.context l.scope (arguments_of l.arguments))

abbrev pub invariant-are_subscripts-loop-part : goal.invariant-are_subscripts-loop-part
invariant-are_subscripts-loop-part l =
    (l.all && are_subscripts l.context l.scope (parts_of (drop l.part-index l.parts))) ≡ are_subscripts l.context l.scope (parts_of l.parts)

abbrev pub invariant-conforming-loop-argument : goal.invariant-conforming-loop-argument
invariant-conforming-loop-argument l =
    common l.rank (conforming l.data_type (types_and_ranks l.context l.scope (arguments_of (drop l.argument-index l.arguments))))
    ≡ conforming l.data_type (types_and_ranks l.context l.scope (arguments_of l.arguments))
