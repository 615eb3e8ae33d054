use Rattle.std.proofs.Common.{◌≡◌, ◌≤◌, length, drop, ap, ◌∙◌, arith}
use Rattle.std.proofs.lemmas.List.{take_rest, length-drop}
use Rattle.source_lines.specs.PhysicalLines.{first_part}
use Rattle.source_lines.proofs.PartLaws.{first_part-within}
use Rattle.source_lines.proofs.LineLaws.{between-start, between-more}
use Rattle.source_lines.proofs.statements.statement_len.Goals as goal

pub loop-done-init : goal.loop-done-init
loop-done-init c = record { within = omega arith; parts = between-start c.args.bytes.now }

pub loop-done-preserved : goal.loop-done-preserved
loop-done-preserved c =
    let bytes = c.args.bytes.now in
    let done = c.loop-done.done in
    let n = c.first_part-done.result in
    let part : n ≡ first_part (drop done bytes) = c.first_part-done.ensures ∙ ap first_part (take_rest bytes done) in
    let within : n ≤ length (drop done bytes) = rw part (first_part-within (drop done bytes)) in record {
      within = omega (arith, within, length-drop done bytes);
      parts = between-more bytes done n c.loop-done-test.true c.if-bytes-done-ne59.true part c.loop-done.invariant.parts;
    }
