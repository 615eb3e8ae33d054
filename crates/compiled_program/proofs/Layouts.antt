-- How the names lie from a place on.
use Rattle.std.proofs.Common.{◌≡◌, ℕ, ◌+◌, List, [], ◌∷◌, ◌++◌, All, append_assoc, drop, slice_get, Some, ap, sym, ◌∙◌}
use Rattle.std.proofs.lemmas.List.Elements.{All-tail}
use Rattle.name_table.specs.declared.names.Entry.{Entry}
use Rattle.name_table.specs.declared.names.What.{What}
use Rattle.name_table.specs.declared.names.What.TheVariants as what
use Rattle.array_maps.specs.declared.maps.ArrayMap.{ArrayMap}
use Rattle.array_maps.specs.Maps.{IsArrayMap}
use Rattle.machine_steps.specs.Layout.{Layout}
use Rattle.owner_tables.specs.Layouts.{IsLaid}
use Rattle.nodes_lowered.specs.ProgramLayouts.{layout_by, maps_after, program_layouts}
use Rattle.compiled_program.proofs.Entries.{drop-entry}

pub array-laid : (nodes : ℕ) (m : ArrayMap) → IsArrayMap nodes m → IsLaid nodes (record { shape = m.shape; mapping = m.start })
array-laid nodes m h = record { shape = h.shape; mapping = h.start.valid; inside = h.start.inside; grid = h.start.onto }

pub all-after : (nodes : ℕ) (w : What) (maps : List ArrayMap) → All (IsArrayMap nodes) maps → All (IsArrayMap nodes) (maps_after w maps)
all-after nodes (what.Array ds v) [] h = h
all-after nodes (what.Array ds v) (m ∷ maps) h = All-tail (IsArrayMap nodes) m maps h
all-after nodes (what.Scalar v) maps h = h
all-after nodes (what.Constant v) maps h = h
all-after nodes what.Template maps h = h
all-after nodes what.Arrangement maps h = h

-- one more name lies, before those that are left
pub next-layout : (nodes room : ℕ) (es : List Entry) (n : ℕ) (e : Entry) (made all : List Layout) (maps : List ArrayMap) → slice_get es n ≡ Some e
    → made ++ program_layouts nodes room (drop n es) maps ≡ all
    → (made ++ layout_by nodes e.what maps ∷ []) ++ program_layouts nodes room (drop (n + 1) es) (maps_after e.what maps) ≡ all
next-layout nodes room es n e made all maps at before =
    append_assoc made (layout_by nodes e.what maps ∷ []) (program_layouts nodes room (drop (n + 1) es) (maps_after e.what maps))
    ∙ ap (λ l. made ++ program_layouts nodes room l maps) (sym (drop-entry es n e at)) ∙ before
