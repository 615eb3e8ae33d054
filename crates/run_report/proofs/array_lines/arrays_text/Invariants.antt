use Rattle.std.proofs.Common.{◌≡◌, [], map, slice_get, slice_index_or}
use Rattle.std.specs.List.{flat_map, range_with_len}
use Rattle.run_report.specs.ArraysText.{entry_line}
use Rattle.run_report.proofs.array_lines.arrays_text.Given as goal

-- the lines of the names so far
abbrev pub invariant-loop-place : goal.invariant-loop-place
invariant-loop-place l =
    l.text.items ≡ flat_map (λ k. entry_line (slice_get l.names k) (slice_index_or (map (λ a. a.items) l.arrays) k [])) (range_with_len 0 l.place)
