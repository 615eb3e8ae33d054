use Rattle.std.proofs.Common.{ap, ◌∙◌}
use Rattle.std.proofs.lemmas.Bool.{ne_eqb}
use Rattle.source_lines.specs.PhysicalLines.{parts}
use Rattle.source_lines.proofs.PartLaws.{parts-comment, parts-part}
use Rattle.source_lines.proofs.parts.next_part.Goals as goal

pub returns-then-first-eq33-clause-whole : goal.returns-then-first-eq33-clause-whole
returns-then-first-eq33-clause-whole c =
    ap parts c.in-Some.ensures.cases.0 ∙ parts-comment c.in-Some.first.now c.in-Some.field-0-1.now c.if-first-eq33.true

pub returns-clause-whole : goal.returns-clause-whole
returns-clause-whole c =
    let whole = c.in-Some.ensures.cases.0 in
    let e = parts-part c.in-Some.first.now c.in-Some.field-0-1.now (ne_eqb _ _ c.if-first-eq33.false) in
    rw (c.split_at.ensures.front, c.split_at.ensures.back, c.first_part.ensures, whole) e
