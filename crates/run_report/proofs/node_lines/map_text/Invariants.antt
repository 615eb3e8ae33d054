use Rattle.std.proofs.Common.{◌≡◌, ◌++◌, drop}
use Rattle.std.specs.List.{flat_map}
use Rattle.run_report.specs.MapText.{array_lines}
use Rattle.run_report.proofs.node_lines.map_text.Given as goal

-- the lines so far, before those that are left
abbrev pub invariant-loop-array : goal.invariant-loop-array
invariant-loop-array l =
    l.text.items ++ flat_map (array_lines l.nodes) (drop l.array-index l.array-items) ≡ flat_map (array_lines l.nodes) l.array-items
