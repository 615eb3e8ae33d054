-- Of the claim.
-- The text of a program's start mappings.
use Rattle.std.specs.Prelude.{ℕ, List, ◌++◌, codes, decimal, Option, Some, None}
use Rattle.std.specs.List.{flat_map, range_with_len}
use Rattle.mappings.specs.LocalOrder.{local_elements}
use Rattle.local_address.specs.declared.spans.Span.{Span}
use Rattle.local_address.specs.Spans.{span_of}
use Rattle.array_maps.specs.declared.maps.ArrayMap.{ArrayMap}
use Rattle.run_report.specs.TupleText.{tuple_text}

-- how many elements and, where there are any, the first and the last
abbrev pub span_text : Option Span → List ℕ
span_text None = codes " 0\n"
span_text (Some span) = codes " " ++ decimal span.count ++ codes " " ++ tuple_text span.first ++ codes " " ++ tuple_text span.last ++ codes "\n"

-- the line of an array and a node: both by name, and what the node owns of the array
abbrev pub node_line : List ℕ → ℕ → Option Span → List ℕ
node_line name node span = name ++ codes " " ++ decimal node ++ span_text span

-- an array's lines, a line a node
abbrev pub array_lines : ℕ → ArrayMap → List ℕ
array_lines nodes array = flat_map (λ node. node_line array.name node (span_of (local_elements array.start array.shape node))) (range_with_len 0 nodes)

-- the lines of all arrays, in the order of the declarations, on so many nodes
abbrev pub map_text : ℕ → List ArrayMap → List ℕ
map_text nodes arrays = flat_map (array_lines nodes) arrays
