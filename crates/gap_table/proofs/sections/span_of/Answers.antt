use Rattle.std.proofs.Common.{rules}
use Rattle.gap_table.proofs.Spans.{below_zero, section_rising, section_falling}
use Rattle.gap_table.proofs.sections.span_of.Goals as goal

pub returns-then-stride-gt0-clause-places : goal.returns-then-stride-gt0-clause-places
returns-then-stride-gt0-clause-places c = λ j below.
    let s = c.args.section in
    section_rising c.args.first c.args.last s.start c.saturating_sub.result c.saturating_sub-then-stride-gt0.result c.unsigned_abs-size.result j _ _ s.stride
    (search rules) (search rules) (search rules) (search rules) (c.span_between.ensures.places j below)

pub returns-else-stride-gt0-clause-places : goal.returns-else-stride-gt0-clause-places
returns-else-stride-gt0-clause-places c = λ j below.
    let s = c.args.section in
    section_falling c.args.first c.args.last s.start c.saturating_sub-else-stride-gt0.result c.saturating_sub-else-stride-gt0-2.result
    c.unsigned_abs-size.result j _ _ s.stride c.requires.first (below_zero s.stride (search rules) (search rules)) (c.requires.section.inside j below)
    (search rules) (search rules) (search rules) (c.span_between-else-stride-gt0.ensures.places j below)
