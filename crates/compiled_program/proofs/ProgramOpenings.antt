-- The machine at the start, over the texts of a program, is the one whose rows have one value each.
use Rattle.std.proofs.Common.{◌≡◌, ℕ, zero, suc, ℤ, pos, None, List, [], ◌∷◌, ◌++◌, length, map, replicate, refl, sym, ap, subst, ◌∙◌}
use Rattle.std.proofs.lemmas.List.{length-replicate}
use Rattle.std.proofs.lemmas.Simd.{map-map}
use Rattle.syntax_tree.specs.MainProgram.{MainProgram}
use Rattle.expression_rules.specs.declared.dims.Dim.{Dim}
use Rattle.name_table.specs.Entries.{entries}
use Rattle.name_table.specs.declared.names.Entry.{Entry}
use Rattle.name_table.specs.declared.names.What.{What}
use Rattle.name_table.specs.declared.names.What.TheVariants as what
use Rattle.storage.specs.Storage.{Storage}
use Rattle.array_meaning.specs.Faults.{Fault}
use Rattle.array_meaning.specs.Resolution.{initial_array, initial_scalar, resolved_block}
use Rattle.array_meaning.specs.State.{Array}
use Rattle.array_meaning.specs.Statements.{Block}
use Rattle.array_maps.specs.declared.maps.ArrayMap.{ArrayMap}
use Rattle.mappings.specs.declared.mapping.Mapping.{Mapping}
use Rattle.machine_steps.specs.Instr.{Running}
use Rattle.machine_steps.specs.Layout.{Layout, size_of}
use Rattle.machine_steps.specs.Machine.{Machine}
use Rattle.node_code.specs.Instructions.{Instruction, NewMapping}
use Rattle.code_meaning.specs.ProgramText.{Text, texts}
use Rattle.nodes_lowered.specs.StatementCode.{block_slots, program_code}
use Rattle.node_program.specs.Openings.{opening_machine, start_rows}
use Rattle.nodes_lowered.specs.OnNodes.{AreUnmade, LieAsDeclared, LiesAsDeclared, program_copies}
use Rattle.nodes_lowered.specs.ProgramLayouts.{empty_layout, maps_after, program_layouts}
use Rattle.nodes_lowered.specs.ProgramRuns.{program_shapes, text_opening}
use Rattle.nodes_lowered.proofs.Laid.{array-size}
use Rattle.compiled_program.specs.Starts.{start_of}

-- ---- rows

row-is : (nodes : ℕ) (w : What) (layout : Layout) → LiesAsDeclared nodes w layout → replicate (size_of layout) (start_of w) ≡ (initial_array w).elements
row-is nodes (what.Array ds v) layout h = ap (λ k. replicate k v) (sym (array-size ds layout h.0))
row-is nodes (what.Scalar v) layout h = ap (λ k. replicate k (pos 0)) h
row-is nodes (what.Constant v) layout h = ap (λ k. replicate k (pos 0)) h
row-is nodes what.Template layout h = ap (λ k. replicate k (pos 0)) h
row-is nodes what.Arrangement layout h = ap (λ k. replicate k (pos 0)) h

abbrev values_of : ℕ → List Entry → List ℤ
values_of room es = map (λ (e : Entry). start_of e.what) es ++ replicate room (pos 0)

-- copies that aren't made
abbrev unmade : ℕ → Storage
unmade room = replicate room []

abbrev elements_of : ℕ → List Entry → Storage
elements_of room es = map (λ (a : Array). a.elements) (map (λ (e : Entry). initial_array e.what) es) ++ unmade room

unmade-are : (room : ℕ) (copies : List Layout) → AreUnmade room copies → start_rows copies (replicate room (pos 0)) ≡ unmade room
unmade-are zero [] h = refl
unmade-are zero (copy ∷ copies) h = absurd h
unmade-are (suc room) [] h = absurd h
unmade-are (suc room) (copy ∷ copies) h =
    ap (λ k. replicate k (pos 0) ∷ start_rows copies (replicate room (pos 0))) h.0 ∙ ap (λ (rows : Storage). [] ∷ rows) (unmade-are room copies h.1)

rows-are : (nodes room : ℕ) (es : List Entry) (layouts : List Layout) → LieAsDeclared nodes room es layouts → start_rows layouts (values_of room es) ≡ elements_of room es
rows-are nodes room [] copies h = unmade-are room copies h
rows-are nodes room (e ∷ es) [] h = absurd h
rows-are nodes room (e ∷ es) (layout ∷ layouts) h =
    ap (λ row. row ∷ start_rows layouts (values_of room es)) (row-is nodes e.what layout h.0)
    ∙ ap (λ rows. (initial_array e.what).elements ∷ rows) (rows-are nodes room es layouts h.1)

-- ---- the machine

abbrev machine : List Layout → List Text → List ℤ → Storage → Machine Text Fault
machine layouts code slots rows = record {
  code = code;
  control = record { at = 0; slots = slots; status = Running };
  substep = 0;
  rows = rows;
  layouts = layouts;
  kept = None;
  parts = 0;
  joined = pos 0;
  line = [];
  printed = [];
}

module _ (nodes : ℕ) (p : MainProgram) (maps : List Mapping) (moves : ℕ → List NewMapping) (layouts : List Layout) (is : List Instruction) (hidden : ℕ)
    (shapes : List (List Dim)) (slots values : List ℤ) where
  abbrev Opens : List Entry → Type 0
  Opens names =
      LieAsDeclared nodes (program_copies p) names layouts → is ≡ program_code (length names) moves (resolved_block names p.body) → hidden ≡ block_slots (resolved_block names p.body)
      → shapes ≡ map (λ (e : Entry). (initial_array e.what).dims) names → slots ≡ map (λ (e : Entry). initial_scalar e.what) names ++ replicate hidden (pos 0)
      → values ≡ values_of (program_copies p) names → opening_machine (texts nodes maps shapes is) slots layouts values ≡ text_opening nodes p maps moves layouts

  opens : Opens (entries p)
  opens laid code slots-after dims first starts =
      let es : List Entry = entries p in
      let block : Block = resolved_block es p.body in
      let scalars : List ℤ = map (λ (e : Entry). initial_scalar e.what) es in
      let shaped : shapes ≡ program_shapes p = dims ∙ sym (map-map (λ (a : Array). a.dims) (λ (e : Entry). initial_array e.what) es) in
      ap (λ t. machine layouts t slots (start_rows layouts values)) (ap (λ s. texts nodes maps s is) shaped ∙ ap (texts nodes maps (program_shapes p)) code)
      ∙ ap (λ s. machine layouts (texts nodes maps (program_shapes p) (program_code (length es) moves block)) s (start_rows layouts values))
      (first ∙ ap (λ k. scalars ++ replicate k (pos 0)) slots-after)
      ∙ ap (machine layouts (texts nodes maps (program_shapes p) (program_code (length es) moves block)) (scalars ++ replicate (block_slots block) (pos 0)))
      (ap (start_rows layouts) starts ∙ rows-are nodes (program_copies p) es layouts laid)

  pub opening-is : (names : List Entry) → names ≡ entries p → Opens names
  opening-is names same = subst Opens (sym same) opens

-- each row has a value
pub values-count : (nodes room : ℕ) (es : List Entry) (maps : List ArrayMap) → length (values_of room es) ≡ length (program_layouts nodes room es maps)
values-count nodes room [] maps = length-replicate room (pos 0) ∙ sym (length-replicate room (empty_layout nodes))
values-count nodes room (e ∷ es) maps = ap suc (values-count nodes room es (maps_after e.what maps))
