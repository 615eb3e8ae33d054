use Rattle.std.proofs.Common.{◌≡◌, ◌<◌, ◌≤◌, ◌^◌, length, ap, sym, subst, ◌∙◌, arith}
use Rattle.std.specs.Prelude.{All, not}
use Rattle.std.specs.List.{flat_map}
use Rattle.std.proofs.lemmas.List.Elements.{All-filter}
use Rattle.hpf_base.specs.Refusal.{IsFirstBreach, NoBreach}
use Rattle.source_lines.specs.declared.limits.TheConstants.{MAX_LOGICAL_LINE_BYTES}
use Rattle.source_lines.specs.PhysicalLines.{PhysicalLine}
use Rattle.source_lines.specs.Breaches.{IsBreachIn, IsLineBreach, is_passed, standing}
use Rattle.source_lines.specs.LogicalLines.{groups, lines_of_group, logical_lines}
use Rattle.source_lines.proofs.BreachLaws.{few_lines, fine_numbers, length-numbered_lines, lines_numbered}
use Rattle.source_lines.proofs.ShortLaws.{lines_short}
use Rattle.source_lines.proofs.text.logical_lines.Goals as goal

pub returns-in-Some-clause-refused : goal.returns-in-Some-clause-refused
returns-in-Some-clause-refused c =
    subst (λ lines. IsFirstBreach (IsBreachIn lines) c.in-Some.refusal) (c.deref.ensures.value ∙ c.in_ok-physical.ensures) c.in-Some.ensures

pub overflow_cast-line_count : goal.overflow_cast-line_count
overflow_cast-line_count c =
    let fine : NoBreach (IsLineBreach c.args.text.now) = subst (λ lines. NoBreach (IsBreachIn lines)) (c.deref.ensures.value ∙ c.in_ok-physical.ensures) c.in_default.ensures in
    omega (arith, few_lines c.args.text.now fine, ap length c.in_ok-physical.ensures)

pub lines_in-requires : goal.lines_in-requires
lines_in-requires c =
    let P : PhysicalLine → Type 0 = λ line. line.number < 2 ^ 32 in
    let lines = c.in_ok-physical.physical.items in
    let fine = subst (λ lines. NoBreach (IsBreachIn lines)) c.deref.ensures.value c.in_default.ensures in
    let small = fine_numbers lines (lines_numbered lines (c.args.text.now, c.in_ok-physical.ensures)) fine in
    subst (All P) (sym (c.deref-2.ensures.value ∙ c.standing.ensures)) (All-filter (λ line. not (is_passed line.kind)) P lines small)

pub returns-clause-fine : goal.returns-clause-fine
returns-clause-fine c =
    subst (λ lines. NoBreach (IsBreachIn lines)) (c.deref.ensures.value ∙ c.in_ok-physical.ensures) c.in_default.ensures

pub returns-clause-count : goal.returns-clause-count
returns-clause-count c = omega (arith, c.len-line_count.ensures, ap length c.in_ok-physical.ensures, length-numbered_lines c.args.text.now)

pub returns-clause-short : goal.returns-clause-short
returns-clause-short c =
    let fine : NoBreach (IsLineBreach c.args.text.now) = subst (λ lines. NoBreach (IsBreachIn lines)) (c.deref.ensures.value ∙ c.in_ok-physical.ensures) c.in_default.ensures in
    let same : c.in_ok-lines.lines.items ≡ logical_lines c.args.text.now =
    c.in_ok-lines.ensures ∙ ap (λ lines. flat_map lines_of_group (groups lines)) (c.deref-2.ensures.value ∙ c.standing.ensures ∙ ap standing c.in_ok-physical.ensures) in
    subst (All (λ line. length line.bytes ≤ MAX_LOGICAL_LINE_BYTES)) (sym same) (lines_short c.args.text.now fine)
