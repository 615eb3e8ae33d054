use Rattle.std.proofs.Common.{rules}
use Rattle.gap_table.proofs.Spans.{below_zero}
use Rattle.owned_places.proofs.BoundsSpans.{span-falling, span-rising}
use Rattle.owned_places.proofs.spans.span_of.Goals as goal

pub returns-then-step-gt0-clause-places : goal.returns-then-step-gt0-clause-places
returns-then-step-gt0-clause-places c = λ x below.
    span-rising c.args.dim c.args.first c.args.step c.above.result c.past.result c.unsigned_abs-size.result x _ _ (search rules) (search rules) (search rules) (search rules)
    (c.span_between.ensures.places x below)

pub returns-else-step-gt0-clause-places : goal.returns-else-step-gt0-clause-places
returns-else-step-gt0-clause-places c = λ x below.
    span-falling c.args.dim c.args.first c.args.step c.above-else-step-gt0.result c.past-else-step-gt0.result c.unsigned_abs-size.result x _ _
    (below_zero c.args.step (search rules) (search rules)) (search rules) (search rules) (search rules) (c.span_between-else-step-gt0.ensures.places x below)
