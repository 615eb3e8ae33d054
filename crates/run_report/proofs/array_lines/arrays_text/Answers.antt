use Rattle.std.proofs.Common.{◌++◌, [], ℕ, map, slice_get, slice_index_or, sym, ◌∙◌, ap}
use Rattle.run_report.specs.ArraysText.{entry_line}
use Rattle.run_report.proofs.Lines.{lines_more}
use Rattle.run_report.proofs.array_lines.arrays_text.Goals as goal

pub loop-place-preserved : goal.loop-place-preserved
loop-place-preserved c =
    let line = λ (k : ℕ). entry_line (slice_get c.args.names.now k) (slice_index_or (map (λ a. a.items) c.args.arrays.now) k []) in
    c.in_ok-add_entry.ensures ∙ ap (λ text. text ++ line c.loop-place.place) c.loop-place.invariant ∙ sym (lines_more line c.loop-place.place)
