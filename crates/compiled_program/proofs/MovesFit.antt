-- What the redistributions of a program move fits its rows.
use Rattle.std.proofs.Common.{◌≡◌, ℕ, zero, suc, ◌+◌, ◌<◌, ◌==◌, Bool, true, false, nat_lt, eq-eqb, List, [], ◌∷◌, ◌++◌, length, map, take, All, Option, Some, None, append_assoc, refl, sym, ap, ◌∙◌, subst, arith}
use Rattle.std.specs.Prelude.{if◌then◌else◌, nat_eq}
use Rattle.std.specs.Cmp.{first_so}
use Rattle.std.specs.List.{flat_map, list_all, slice_get}
use Rattle.std.proofs.lemmas.Bool.{and_from, and_parts, lt-ltb}
use Rattle.std.proofs.lemmas.List.{length-append, length-map, map-append}
use Rattle.std.proofs.lemmas.List.Elements.{All-head, All-tail}
use Rattle.std.proofs.lemmas.Option.{get_or_from_slice_get}
use Rattle.hpf_base.specs.declared.index.Shape.{Shape}
use Rattle.mappings.specs.declared.mapping.Mapping.{Mapping}
use Rattle.name_table.specs.declared.names.Entry.{Entry}
use Rattle.array_maps.specs.Maps.{AreNewMaps, IsNewMap}
use Rattle.array_maps.specs.declared.maps.ArrayMap.{ArrayMap}
use Rattle.array_maps.specs.declared.maps.NewMap.{NewMap}
use Rattle.array_maps.specs.declared.maps.Redistribution.{Redistribution}
use Rattle.machine_steps.specs.Layout.{Layout}
use Rattle.machine_steps.specs.SameLayouts.{is_same_shape}
use Rattle.node_code.specs.Instructions.{NewMapping}
use Rattle.owner_tables.specs.Views.{TableView}
use Rattle.owner_tables.proofs.SameLayouts.{layout_itself}
use Rattle.node_program.specs.Fits.{fits_row, is_shaped_by, shapes_of}
use Rattle.nodes_lowered.specs.NewMappings.{array_place, array_places, numbered, numbered_at}
use Rattle.nodes_lowered.specs.ProgramLayouts.{program_layouts}
use Rattle.nodes_lowered.proofs.MovesDealt.{has-place}
use Rattle.compiled_program.specs.NewTables.{moved_shape, new_table, new_tables}
use Rattle.compiled_program.proofs.Numbering.{moved-shaped}

-- ---- lists

-- what stands after so many others has their number
at-length : {A : Type 0} (before : List A) (x : A) (after : List A) → slice_get (before ++ x ∷ after) (length before) ≡ Some x
at-length [] x after = refl
at-length (y ∷ before) x after = at-length before x after

-- what stands among the first stands there among all
at-first : {A B : Type 0} (f : A → B) (xs : List A) (k row : ℕ) (y : B) → slice_get (map f (take k xs)) row ≡ Some y → slice_get (map f xs) row ≡ Some y
at-first f [] zero row y h = h
at-first f [] (suc k) row y h = h
at-first f (x ∷ xs) zero row y h = let g : None ≡ Some y = h in cc
at-first f (x ∷ xs) (suc k) zero y h = h
at-first f (x ∷ xs) (suc k) (suc row) y h = at-first f xs k row y h

all-both : {A : Type 0} (p : A → Bool) (xs ys : List A) → list_all p xs ≡ true → list_all p ys ≡ true → list_all p (xs ++ ys) ≡ true
all-both p [] ys h g = g
all-both p (x ∷ xs) ys h g =
    let parts = and_parts (p x) (list_all p xs) h in
    and_from (p x) (list_all p (xs ++ ys)) parts.0 (all-both p xs ys parts.1 g)

none-there : {A : Type 0} (xs : List A) (k : ℕ) → k < length xs → slice_get xs k ≡ None → ⊥
none-there [] k lt e = omega (arith, lt)
none-there (x ∷ xs) zero lt e = cc
none-there (x ∷ xs) (suc k) lt e = none-there xs k (omega (arith, lt)) e

shape-itself : (shape : Shape) (mapping : Mapping) → is_same_shape shape shape ≡ true
shape-itself shape mapping = first_so (is_same_shape shape shape) _ (layout_itself (record { shape = shape; mapping = mapping }))

-- ---- the arrays of a program

module _ (nodes room : ℕ) (es : List Entry) (arrays : List ArrayMap) (many : length arrays ≡ length (array_places 0 es)) where
  abbrev places : List ℕ
  places = array_places 0 es

  abbrev rows : List Shape
  rows = shapes_of (program_layouts nodes room es arrays)

  -- an array has its place among the rows, with its shape
  abbrev Stands : NewMap → ℕ → Type 0
  Stands new place = (place < length es) × (slice_get rows place ≡ Some (moved_shape arrays new))

  within-names : {A B : Type 0} (f : A → B) (xs : List A) (k row : ℕ) (y : B) → slice_get (map f (take k xs)) row ≡ Some y → row < k
  within-names f [] zero row y h = let g : None ≡ Some y = h in cc
  within-names f [] (suc k) row y h = let g : None ≡ Some y = h in cc
  within-names f (x ∷ xs) zero row y h = let g : None ≡ Some y = h in cc
  within-names f (x ∷ xs) (suc k) zero y h = omega arith
  within-names f (x ∷ xs) (suc k) (suc row) y h = let lt = within-names f xs k row y h in omega (arith, lt)

  stands : (new : NewMap) → IsNewMap nodes arrays new → Stands new (array_place places new.array.0)
  stands new is = by (slice_get arrays new.array.0) refl
    where
      by : (o : Option ArrayMap) → slice_get arrays new.array.0 ≡ o → Stands new (array_place places new.array.0)
      by None e = absurd (none-there arrays new.array.0 is.array e)
      by (Some a) e =
          let p = has-place nodes room 0 es arrays new.array.0 a e (omega (arith, is.array, many)) in
          let at : array_place places new.array.0 ≡ p.0 = p.1 ∙ omega arith in
          let lt : p.0 < length es = within-names (λ (l : Layout). l.shape) (program_layouts nodes room es arrays) (length es) p.0 a.shape p.2 in
          let shaped : a.shape ≡ moved_shape arrays new = moved-shaped nodes arrays new a is.array (sym (get_or_from_slice_get arrays new.array.0 a a e)) in
          let there : slice_get rows p.0 ≡ Some a.shape = at-first (λ (l : Layout). l.shape) (program_layouts nodes room es arrays) (length es) p.0 a.shape p.2 in
          (omega (arith, lt, at), ap (slice_get rows) at ∙ there ∙ ap Some shaped)

  -- ---- by their numbers

  abbrev kind : NewMap → TableView
  kind = new_table nodes arrays

  abbrev Fit : List TableView → List NewMapping → Type 0
  Fit tables new = (list_all (λ m. nat_lt m.array (length es)) new ≡ true) × (list_all (fits_row tables rows) new ≡ true)

  one-fits : (tables : List TableView) (number : ℕ) (new : NewMap) → slice_get tables number ≡ Some (kind new) → IsNewMap nodes arrays new
      → fits_row tables rows (record { array = array_place places new.array.0; map = number }) ≡ true
  one-fits tables number new at is =
      (λ i. is_shaped_by (at i) ((stands new is).1 i)) ∙ shape-itself (moved_shape arrays new) new.map

  numbered-fit : (before : List TableView) (news : List NewMap) (after : List TableView) → All (IsNewMap nodes arrays) news
      → Fit (before ++ (map kind news ++ after)) (numbered places (length before) news)
  numbered-fit before [] after all = (refl, refl)
  numbered-fit before (new ∷ news) after all =
      let is : IsNewMap nodes arrays new = All-head (IsNewMap nodes arrays) new news all in
      let more : List TableView = before ++ kind new ∷ [] in
      let tables : List TableView = before ++ kind new ∷ (map kind news ++ after) in
      let next : length more ≡ suc (length before) = length-append before (kind new ∷ []) ∙ omega arith in
      let joined : more ++ (map kind news ++ after) ≡ tables = append_assoc before (kind new ∷ []) (map kind news ++ after) in
      let rest : Fit tables (numbered places (suc (length before)) news) =
      subst (λ k. Fit tables (numbered places k news)) next
      (subst (λ ts. Fit ts (numbered places (length more) news)) joined (numbered-fit more news after (All-tail (IsNewMap nodes arrays) new news all))) in (
        and_from _ _ (lt-ltb (array_place places new.array.0) (length es) (stands new is).0) rest.0,
        and_from _ _ (one-fits tables (length before) new (at-length before (kind new) (map kind news ++ after)) is) rest.1,
      )

  both-fit : (tables : List TableView) (xs ys : List NewMapping) → Fit tables xs → Fit tables ys → Fit tables (xs ++ ys)
  both-fit tables xs ys h g = (all-both _ xs ys h.0 g.0, all-both _ xs ys h.1 g.1)

  abbrev AreNew : Redistribution → Type 0
  AreNew r = AreNewMaps nodes arrays r.maps

  abbrev LineFits : List TableView → List Redistribution → ℕ → Type 0
  LineFits before moves line = Fit (before ++ new_tables nodes arrays moves) (numbered_at places (length before) moves line)

  -- one redistribution more, where those after it fit
  one-more : (before : List TableView) (r : Redistribution) (rs : List Redistribution) (line : ℕ) → AreNew r → LineFits (before ++ map kind r.maps) rs line
      → LineFits before (r ∷ rs) line
  one-more before r rs line is after = by (nat_eq r.line line)
    where
      more : List TableView
      more = before ++ map kind r.maps

      tables : List TableView
      tables = before ++ new_tables nodes arrays (r ∷ rs)

      parts : map kind r.maps ++ new_tables nodes arrays rs ≡ new_tables nodes arrays (r ∷ rs)
      parts = sym (map-append kind r.maps (flat_map (λ (x : Redistribution). x.maps) rs))

      here : Fit tables (numbered places (length before) r.maps)
      here = subst (λ l. Fit (before ++ l) (numbered places (length before) r.maps)) parts (numbered-fit before r.maps (new_tables nodes arrays rs) is.each)

      next : length more ≡ length before + length r.maps
      next = length-append before (map kind r.maps) ∙ ap (λ k. length before + k) (length-map r.maps kind)

      joined : more ++ new_tables nodes arrays rs ≡ tables
      joined = append_assoc before (map kind r.maps) (new_tables nodes arrays rs) ∙ ap (λ l. before ++ l) parts

      rest : Fit tables (numbered_at places (length before + length r.maps) rs line)
      rest = subst (λ k. Fit tables (numbered_at places k rs line)) next (subst (λ ts. Fit ts (numbered_at places (length more) rs line)) joined after)

      by : (b : Bool) → Fit tables ((if b then numbered places (length before) r.maps else []) ++ numbered_at places (length before + length r.maps) rs line)
      by true = both-fit tables (numbered places (length before) r.maps) (numbered_at places (length before + length r.maps) rs line) here rest
      by false = rest

  line-fits : (before : List TableView) (moves : List Redistribution) (line : ℕ) → All AreNew moves → LineFits before moves line
  line-fits before [] line all = (refl, refl)
  line-fits before (r ∷ rs) line all =
      one-more before r rs line (All-head AreNew r rs all) (line-fits (before ++ map kind r.maps) rs line (All-tail AreNew r rs all))

  pub lines-fit : (moves : List Redistribution) (line : ℕ) → All AreNew moves → Fit (new_tables nodes arrays moves) (numbered_at places 0 moves line)
  lines-fit = line-fits []

-- ---- their tables

-- they are for as many nodes
pub tables-on : (nodes : ℕ) (arrays : List ArrayMap) (news : List NewMap) → list_all (λ (t : TableView). t.nodes == nodes) (map (new_table nodes arrays) news) ≡ true
tables-on nodes arrays [] = refl
tables-on nodes arrays (new ∷ news) = and_from _ _ (eq-eqb nodes nodes refl) (tables-on nodes arrays news)
