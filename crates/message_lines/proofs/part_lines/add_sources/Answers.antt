use Rattle.std.proofs.Common.{ℕ, List, ◌++◌, sym, ◌∙◌, ap, append_assoc}
use Rattle.std.specs.List.{flat_map, range_with_len}
use Rattle.part_steps.specs.Parts.{part_of}
use Rattle.part_steps.specs.Views.{part_view}
use Rattle.run_report.proofs.Lines.{lines_more}
use Rattle.message_lines.specs.RowLines.{source_lines}
use Rattle.message_lines.proofs.part_lines.add_sources.Goals as goal

pub loop-from-preserved : goal.loop-from-preserved
loop-from-preserved c =
    let lines : ℕ → List ℕ = source_lines c.args.rows.now (part_of (part_view c.args.part.now)) c.args.head.now in
    let text = c.args.text.now.items in
    let from = c.loop-from.from in
    c.in_ok-add_source.ensures ∙ ap (λ t. t ++ lines from) c.loop-from.invariant ∙ append_assoc text (flat_map lines (range_with_len 0 from)) (lines from)
    ∙ ap (λ ls. text ++ ls) (sym (lines_more lines from))
