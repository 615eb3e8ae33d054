-- Programs that fit rows, and what keeps them so.
use Rattle.std.proofs.Common.{◌≡◌, ℕ, zero, suc, ℤ, ◌<◌, ◌≤◌, Bool, true, nat_le, nat_lt, List, [], ◌∷◌, length, map, get_or, set, Some, option_map, IfSome, refl, sym, ◌∙◌, ap, subst, arith}
use Rattle.std.proofs.lemmas.Bool.{and_from, and_parts, leb-true, ltb-true}
use Rattle.std.proofs.lemmas.List.{map-set}
use Rattle.std.proofs.lemmas.Option.{slice_get-map}
use Rattle.std.specs.List.{list_all, slice_get}
use Rattle.hpf_base.specs.declared.index.Shape.{Shape}
use Rattle.hpf_base.specs.declared.limits.TheConstants.{MAX_RANK}
use Rattle.mappings.specs.declared.mapping.Mapping.{Mapping}
use Rattle.expression_rules.specs.declared.dims.Dim.{Dim}
use Rattle.array_meaning.specs.Faults.{Fault}
use Rattle.array_meaning.specs.Sections.{extents}
use Rattle.machine_steps.specs.Instr.{Instr, Remapping}
use Rattle.machine_steps.specs.Instr as machine
use Rattle.machine_steps.specs.Layout.{Layout, size_of, sizes}
use Rattle.machine_steps.specs.Machine.{instr_at, remapped, with_mapping}
use Rattle.node_code.specs.Forms.{Sub, SubAt, SubAlong}
use Rattle.code_meaning.specs.Forms.{selections_at}
use Rattle.node_code.specs.Instructions.{Instruction, NewMapping, Par, ParForall, ParNest, MakeCopies, ParCopy, ParForallCopy, Reduce, MakeCopy, Remap}
use Rattle.code_meaning.specs.Instructions.{meaning_of}
use Rattle.code_meaning.specs.ProgramText.{table_on, text_meaning, texts}
use Rattle.node_code.specs.Texts.{instructions, new_mapping}
use Rattle.node_code.specs.declared.instruction.NewMapping.{NewMapping as HeldMapping}
use Rattle.owner_tables.specs.Views.{TableView}
use Rattle.owner_tables.proofs.SameLayouts.{same_shapes}
use Rattle.node_program.specs.Fits.{FitsRows, fits_row, fits_rows, is_shaped_by, shapes_of}
use Rattle.node_program.specs.Programs.{code_of, mappings_of}
use Rattle.node_program.specs.declared.program.NodeProgram.{NodeProgram}

-- ---- one of a list

-- one of a list, seen by a map
all-mapped-at : {X Y : Type 0} (p : Y → Bool) (v : X → Y) (xs : List X) (k : ℕ) (d : X) → k < length xs → list_all p (map v xs) ≡ true → p (v (get_or xs k d)) ≡ true
all-mapped-at p v [] k d lt h = absurd (omega (arith, lt))
all-mapped-at p v (x ∷ xs) zero d lt h = (and_parts (p (v x)) (list_all p (map v xs)) h).0
all-mapped-at p v (x ∷ xs) (suc k) d lt h = all-mapped-at p v xs k d (omega (arith, lt)) (and_parts (p (v x)) (list_all p (map v xs)) h).1

pub all-mapped : {X Y : Type 0} (p : Y → Bool) (v : X → Y) (xs : List X) (k : ℕ) (x : X) → k < length xs → x ≡ get_or xs k x → list_all p (map v xs) ≡ true
    → p (v x) ≡ true
all-mapped p v xs k x lt e h = ap (λ y. p (v y)) e ∙ all-mapped-at p v xs k x lt h

-- ---- the table of a new mapping

module _ (tables : List TableView) (k : ℕ) (t : TableView) (lt : k < length tables) (e : t ≡ get_or tables k t) where
  table-there : slice_get tables k ≡ Some t
  table-there = got tables k lt e
    where
      got : (ts : List TableView) (k : ℕ) → k < length ts → t ≡ get_or ts k t → slice_get ts k ≡ Some t
      got [] k lt e = absurd (omega (arith, lt))
      got (x ∷ ts) zero lt e = ap Some (sym e)
      got (x ∷ ts) (suc k) lt e = got ts k (omega (arith, lt)) e

  pub row-shaped : (layouts : List Layout) (new : NewMapping) → new.map ≡ k → fits_row tables (shapes_of layouts) new ≡ true
      → IfSome (slice_get layouts new.array) (λ l. l.shape ≡ t.layout.shape)
  row-shaped layouts new at h = by_row layouts new.array (sym (ap (λ o. is_shaped_by o (slice_get (shapes_of layouts) new.array)) (ap (slice_get tables) at ∙ table-there)) ∙ h)
    where
      by_row : (ls : List Layout) (row : ℕ) → is_shaped_by (Some t) (slice_get (shapes_of ls) row) ≡ true → IfSome (slice_get ls row) (λ l. l.shape ≡ t.layout.shape)
      by_row [] row h = tt
      by_row (l ∷ ls) zero h = same_shapes l.shape t.layout.shape h
      by_row (l ∷ ls) (suc row) h = by_row ls row h

  -- the mapping of its number
  pub mapping-there : slice_get (mappings_of tables) k ≡ Some t.layout.mapping
  mapping-there = slice_get-map (λ (t : TableView). t.layout.mapping) tables k ∙ ap (option_map (λ (t : TableView). t.layout.mapping)) table-there

-- ---- the dimensions of a space

pub extents-few : (slots : List ℤ) (over : List Sub) → length (extents (selections_at slots [] over)) ≤ length over
extents-few slots [] = omega arith
extents-few slots (SubAt f ∷ over) = let few = extents-few slots over in omega (arith, few)
extents-few slots (SubAlong v ∷ over) = let few = extents-few slots over in omega (arith, few)

-- ---- new mappings change no shapes

mapped-shapes : (layouts : List Layout) (row : ℕ) (mapping : Mapping) → shapes_of (with_mapping layouts row mapping) ≡ shapes_of layouts
mapped-shapes [] row mapping = refl
mapped-shapes (l ∷ layouts) zero mapping = refl
mapped-shapes (l ∷ layouts) (suc row) mapping = ap (λ shapes. l.shape ∷ shapes) (mapped-shapes layouts row mapping)

pub remapped-shapes : (new : List Remapping) (layouts : List Layout) → shapes_of (remapped new layouts) ≡ shapes_of layouts
remapped-shapes [] layouts = refl
remapped-shapes (first ∷ new) layouts = remapped-shapes new (with_mapping layouts first.row first.mapping) ∙ mapped-shapes layouts first.row first.mapping

size-mapped : (layout : Layout) (mapping : Mapping) → size_of (record layout { mapping = mapping }) ≡ size_of layout
unfolding size_of
size-mapped layout mapping = refl

mapped-sizes : (layouts : List Layout) (row : ℕ) (mapping : Mapping) → sizes (with_mapping layouts row mapping) ≡ sizes layouts
mapped-sizes [] row mapping = refl
mapped-sizes (l ∷ layouts) zero mapping = ap (λ n. n ∷ sizes layouts) (size-mapped l mapping)
mapped-sizes (l ∷ layouts) (suc row) mapping = ap (λ ns. size_of l ∷ ns) (mapped-sizes layouts row mapping)

pub remapped-sizes : (new : List Remapping) (layouts : List Layout) → sizes (remapped new layouts) ≡ sizes layouts
remapped-sizes [] layouts = refl
remapped-sizes (first ∷ new) layouts = remapped-sizes new (with_mapping layouts first.row first.mapping) ∙ mapped-sizes layouts first.row first.mapping

-- one of the new mappings, where the rows have the shapes that they had
pub one-fits : (tables : List TableView) (before after : List Layout) (new : List HeldMapping) (k : ℕ) (d : HeldMapping) → k < length new → shapes_of after ≡ shapes_of before
    → list_all (fits_row tables (shapes_of before)) (map new_mapping new) ≡ true → fits_row tables (shapes_of after) (new_mapping (get_or new k d)) ≡ true
one-fits tables before after new k d lt same h =
    ap (λ rows. fits_row tables rows (new_mapping (get_or new k d))) same ∙ all-mapped-at (fits_row tables (shapes_of before)) new_mapping new k d lt h

pub same-shapes-fit : (p : NodeProgram) (before after : List Layout) → shapes_of after ≡ shapes_of before → FitsRows p before → FitsRows p after
same-shapes-fit p before after same fits = record {
  nodes = fits.nodes;
  code = ap (λ rows. list_all (fits_rows (length p.shapes.items) p.tables.items rows) (instructions p.code.items)) same ∙ fits.code;
}

-- ---- a copy is made

-- its row stands after those of the declared names
abbrev copy_row : Instr Fault → ℕ
copy_row (machine.MakeCopy copy layout start) = copy
copy_row i = 0

module _ (nodes : ℕ) (maps : List Mapping) (shapes : List (List Dim)) (tables : List TableView) (rows : List Shape) where
  made-after : (i : Instruction) (copy : ℕ) (layout : List Layout → List ℤ → Layout) (start : List ℤ → ℤ)
      → meaning_of (table_on nodes maps shapes) i ≡ machine.MakeCopy copy layout start → fits_rows (length shapes) tables rows i ≡ true → length shapes ≤ copy
  made-after (MakeCopy copy' p) copy layout start e h =
      let le : length shapes ≤ copy' = leb-true (length shapes) copy' (and_parts (nat_le (length shapes) copy') (nat_le (length p.over) MAX_RANK) h).0 in
      subst (λ k. length shapes ≤ k) (ap copy_row e) le
  made-after (MakeCopies copy' over first beside) copy layout start e h =
      let le : length shapes ≤ copy' = leb-true (length shapes) copy' (and_parts (nat_le (length shapes) copy') (nat_le (length over) MAX_RANK) h).0 in
      subst (λ k. length shapes ≤ k) (ap copy_row e) le
  made-after i copy layout start e h = cc

  made-after-all : (xs : List Instruction) (at copy : ℕ) (layout : List Layout → List ℤ → Layout) (start : List ℤ → ℤ)
      → instr_at text_meaning (texts nodes maps shapes xs) at ≡ machine.MakeCopy copy layout start → list_all (fits_rows (length shapes) tables rows) xs ≡ true
      → length shapes ≤ copy
  made-after-all [] at copy layout start e h = cc
  made-after-all (x ∷ xs) zero copy layout start e h = made-after x copy layout start e (and_parts (fits_rows (length shapes) tables rows x) _ h).0
  made-after-all (x ∷ xs) (suc at) copy layout start e h = made-after-all xs at copy layout start e (and_parts (fits_rows (length shapes) tables rows x) _ h).1

-- another row
other-row : {X : Type 0} (xs : List X) (k row : ℕ) (x : X) → row < k → slice_get (set xs k x) row ≡ slice_get xs row
other-row [] k row x lt = refl
other-row (y ∷ xs) zero row x lt = absurd (omega (arith, lt))
other-row (y ∷ xs) (suc k) zero x lt = refl
other-row (y ∷ xs) (suc k) (suc row) x lt = other-row xs k row x (omega (arith, lt))

module _ (declared : ℕ) (tables : List TableView) (rows : List Shape) (copy : ℕ) (shape : Shape) (after : declared ≤ copy) where
  mappings-kept : (new : List NewMapping) → list_all (λ n. nat_lt n.array declared) new ≡ true → list_all (fits_row tables rows) new ≡ true
      → list_all (fits_row tables (set rows copy shape)) new ≡ true
  mappings-kept [] below h = refl
  mappings-kept (n ∷ new) below h =
      let b = and_parts (nat_lt n.array declared) (list_all (λ n. nat_lt n.array declared) new) below in
      let f = and_parts (fits_row tables rows n) (list_all (fits_row tables rows) new) h in
      let lt : n.array < declared = ltb-true n.array declared b.0 in
      and_from _ _ (ap (is_shaped_by (slice_get tables n.map)) (other-row rows copy n.array shape (omega (arith, lt, after))) ∙ f.0) (mappings-kept new b.1 f.1)

  instruction-kept : (i : Instruction) → fits_rows declared tables rows i ≡ true → fits_rows declared tables (set rows copy shape) i ≡ true
  instruction-kept (Remap line new) h =
      let both = and_parts (list_all (λ n. nat_lt n.array declared) new) (list_all (fits_row tables rows) new) h in
      and_from _ _ both.0 (mappings-kept new both.0 both.1)
  instruction-kept (MakeCopy k p) h = h
  instruction-kept (MakeCopies k over start beside) h = h
  instruction-kept (Par p) h = h
  instruction-kept (ParForall p) h = h
  instruction-kept (ParNest p) h = h
  instruction-kept (ParCopy k p) h = h
  instruction-kept (ParForallCopy k p) h = h
  instruction-kept (Reduce p r x) h = h
  instruction-kept i h = refl

  instructions-kept : (xs : List Instruction) → list_all (fits_rows declared tables rows) xs ≡ true → list_all (fits_rows declared tables (set rows copy shape)) xs ≡ true
  instructions-kept [] h = refl
  instructions-kept (x ∷ xs) h =
      let both = and_parts (fits_rows declared tables rows x) (list_all (fits_rows declared tables rows) xs) h in
      and_from _ _ (instruction-kept x both.0) (instructions-kept xs both.1)

pub copy-fits : (p : NodeProgram) (layouts : List Layout) (at copy : ℕ) (layout : List Layout → List ℤ → Layout) (start : List ℤ → ℤ) (new : Layout)
    → instr_at text_meaning (code_of p) at ≡ machine.MakeCopy copy layout start → FitsRows p layouts → FitsRows p (set layouts copy new)
copy-fits p layouts at copy layout start new e fits =
    let declared = length p.shapes.items in
    let tables = p.tables.items in
    let after : declared ≤ copy = made-after-all p.nodes _ p.shapes.items tables (shapes_of layouts) (instructions p.code.items) at copy layout start e fits.code in
    record {
      nodes = fits.nodes;
      code = ap (λ rows. list_all (fits_rows declared tables rows) (instructions p.code.items)) (map-set (λ (l : Layout). l.shape) layouts copy new)
          ∙ instructions-kept declared tables (shapes_of layouts) copy new.shape after (instructions p.code.items) fits.code;
    }
