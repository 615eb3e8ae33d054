use Rattle.std.proofs.Common.{◌≡◌, rules, sym, ◌∙◌, ap, map, ◌-◌, [], ◌∷◌}
use Rattle.std.specs.List.{range_with_len}
use Rattle.mappings.specs.Positions.{in_section}
use Rattle.std.specs.Prelude.{unsigned_abs}
use Rattle.gap_table.specs.GapTable.{place_at}
use Rattle.gap_table.specs.OwnedSequence.{position_of}
use Rattle.gap_table.proofs.Spans.{filter-span, places_span}
use Rattle.gap_table.proofs.sections.section_table.Goals as goal

pub returns-clause-places : goal.returns-clause-places
returns-clause-places g c =
    let begin = c.span_of-begin.result.begin in
    let end = c.span_of-begin.result.end in
    let one : c.push.new.self.items ≡ 0 ∷ [] = search rules in
    ap (λ os. map (place_at begin 1 os) (range_with_len 0 (end - begin))) one ∙ places_span begin (end - begin)
    ∙ sym (filter-span (λ j. in_section c.args.first c.args.last (unsigned_abs (position_of c.args.section.start c.args.section.stride j))) begin end c.args.section.count
    c.span_of-begin.ensures.order c.span_of-begin.ensures.within c.span_of-begin.ensures.places)
