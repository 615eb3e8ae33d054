use Rattle.std.proofs.Common.{ap, sym, ◌∙◌}
use Rattle.syntax_tree.specs.Expression.{parts_of}
use Rattle.expression_rules.specs.Symbols.{rank_of}
use Rattle.expression_rules.specs.Types.{are_subscripts, count_of, subscripted, triplets}
use Rattle.expression_rules.proofs.Typings.{call_type, element_type, conforming_next}
use Rattle.expression_rules.proofs.typing.+typing.Goals as goal

pub type_and_rank-returns-in_ok-type_and_rank-in-Call : goal.type_and_rank-returns-in_ok-type_and_rank-in-Call
type_and_rank-returns-in_ok-type_and_rank-in-Call t c =
    c.in_ok-type_and_rank-in-Call.ensures
    ∙ sym (call_type c.args.context c.args.scope.now c.args.e.now c.in-Call.op c.in-Call.arguments c.deref-in-Call.result.now c.in-Call.is c.deref-in-Call.ensures.value)

pub reference_type-returns-in_ok-good-in-Some : goal.reference_type-returns-in_ok-good-in-Some
reference_type-returns-in_ok-good-in-Some t c =
    let rank = c.rank_of-rank.ensures ∙ ap rank_of c.find.ensures in
    let count = c.part_count.ensures ∙ ap (λ l. count_of (parts_of l)) c.deref-in-Some.ensures.value in
    let good = c.in_ok-good-in-Some.ensures ∙ ap (λ l. are_subscripts c.args.context c.args.scope.now (parts_of l)) c.deref.ensures.value in
    let more = c.triplets.ensures ∙ ap (λ l. triplets (parts_of l)) c.deref-in-Some-2.ensures.value in
    c.subscripted.ensures
    ∙ (λ i. subscripted (rank i) (count i) (good i) (more i))
    ∙ sym (element_type c.args.context c.args.scope.now c.args.reference.now.name c.args.reference.now.subs c.in-Some.parts c.in-Some.is)

pub conforming-loop-argument-preserved : goal.conforming-loop-argument-preserved
conforming-loop-argument-preserved t c =
    conforming_next c.args.data_type c.args.context c.args.scope.now c.args.arguments.now c.loop-argument.argument-index c.argument-item.result
    c.loop-argument.rank c.common-rank.result c.rank_in.result c.in_ok-type_and_rank.type_and_rank
    c.loop-argument-test.true c.argument-item.is c.in_ok-type_and_rank.ensures c.rank_in.ensures c.common-rank.ensures c.loop-argument.invariant
