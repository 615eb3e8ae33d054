-- New mappings and their numbers, redistribution by redistribution.
use Rattle.std.proofs.Common.{◌≡◌, ℕ, suc, ◌+◌, ◌<◌, List, [], ◌∷◌, ◌++◌, All, Some, slice_get, append_assoc, arith, drop, get_or, length, map, refl, subst, sym, ap, ◌∙◌}
use Rattle.std.specs.Prelude.{nat_eq, if◌then◌else◌}
use Rattle.std.specs.List.{flat_map}
use Rattle.std.proofs.lemmas.Grind.{flat_map-append}
use Rattle.std.proofs.lemmas.List.{append-nil, get_or-map, length-map, length-append, map-append}
use Rattle.std.proofs.lemmas.Option.{slice_get_read}
use Rattle.expression_rules.proofs.Lists.{drop_item}
use Rattle.mappings.specs.declared.mapping.Mapping.{Mapping}
use Rattle.name_table.specs.declared.names.Entry.{Entry}
use Rattle.name_table.specs.declared.names.What.{What}
use Rattle.name_table.specs.declared.names.What.TheVariants as what
use Rattle.array_maps.specs.declared.maps.ArrayMap.{ArrayMap}
use Rattle.array_maps.specs.declared.maps.NewMap.{NewMap}
use Rattle.array_maps.specs.declared.maps.Redistribution.{Redistribution}
use Rattle.array_maps.specs.Maps.{IsArrayMap, IsMapOf, IsNewMap}
use Rattle.node_code.specs.declared.instruction.NewMapping.{NewMapping as HeldMapping}
use Rattle.node_code.specs.Instructions.{NewMapping}
use Rattle.node_code.specs.Texts.{new_mapping}
use Rattle.node_codegen.specs.declared.moves.LineMoves.{LineMoves}
use Rattle.node_codegen.specs.Moves.{moves_by, moves_of_line}
use Rattle.owner_tables.specs.Layouts.{IsLaid}
use Rattle.owner_tables.specs.Views.{TableView}
use Rattle.node_program.specs.Programs.{mappings_of}
use Rattle.nodes_lowered.specs.NewMappings.{array_place, array_places, numbered, numbered_at, with_place}
use Rattle.compiled_program.specs.NewTables.{moved_shape, new_table, new_tables, no_shape}
use Rattle.compiled_program.proofs.Entries.{drop-entry}

abbrev mapping_of : NewMap → Mapping
mapping_of new = new.map

-- ---- the tables

module _ (nodes : ℕ) (arrays : List ArrayMap) where
  -- those of one more
  pub tables_next : (before after all : List TableView) (rs : List Redistribution) (n : ℕ) (r : Redistribution) → n < length rs → r ≡ get_or rs n r
      → after ≡ before ++ map (new_table nodes arrays) r.maps → before ++ new_tables nodes arrays (drop n rs) ≡ all → after ++ new_tables nodes arrays (drop (n + 1) rs) ≡ all
  tables_next before after all rs n r within is made so_far =
      let rest : List Redistribution = drop (n + 1) rs in
      ap (λ l. l ++ new_tables nodes arrays rest) made
      ∙ append_assoc before (map (new_table nodes arrays) r.maps) (new_tables nodes arrays rest)
      ∙ ap (λ l. before ++ l) (sym (map-append (new_table nodes arrays) r.maps (flat_map (λ (x : Redistribution). x.maps) rest)))
      ∙ ap (λ l. before ++ new_tables nodes arrays l) (sym (drop_item rs n r within is))
      ∙ so_far

  -- there are as many more as new mappings
  pub count_next : (before after : List TableView) (news : List NewMap) → after ≡ before ++ map (new_table nodes arrays) news → length after ≡ length before + length news
  count_next before after news made =
      ap length made ∙ length-append before (map (new_table nodes arrays) news) ∙ ap (λ k. length before + k) (length-map news (new_table nodes arrays))

  -- they have the mappings
  pub mappings_are : (news : List NewMap) → mappings_of (map (new_table nodes arrays) news) ≡ map mapping_of news
  mappings_are [] = refl
  mappings_are (new ∷ news) = ap (λ l. new.map ∷ l) (mappings_are news)

  -- the table of an array has its shape
  pub moved-shaped : (new : NewMap) (a : ArrayMap) → new.array.0 < length arrays → a ≡ get_or arrays new.array.0 a → a.shape ≡ moved_shape arrays new
  moved-shaped new a within at =
      ap (λ (x : ArrayMap). x.shape) at ∙ sym (get_or-map (λ (x : ArrayMap). x.shape) arrays new.array.0 a no_shape within)

-- what a line moves with one more
pub moves_next : (places : List ℕ) (made more : List LineMoves) (one : LineMoves) (k k' : ℕ) (rs : List Redistribution) (n : ℕ) (r : Redistribution)
    → n < length rs → r ≡ get_or rs n r → more ≡ made ++ one ∷ [] → one.line ≡ r.line → map new_mapping one.maps.items ≡ numbered places k r.maps → k' ≡ k + length r.maps
    → (line : ℕ) → moves_by made line ++ numbered_at places k (drop n rs) line ≡ numbered_at places 0 rs line
    → moves_by more line ++ numbered_at places k' (drop (n + 1) rs) line ≡ numbered_at places 0 rs line
moves_next places made more one k k' rs n r within is pushed line-is maps-are next line so_far =
    let rest : List Redistribution = drop (n + 1) rs in
    let after : List NewMapping = numbered_at places (k + length r.maps) rest line in
    let added : moves_by more line ≡ moves_by made line ++ moves_of_line one line =
    ap (λ ms. moves_by ms line) pushed ∙ flat_map-append (λ m. moves_of_line m line) made (one ∷ [])
    ∙ ap (λ l. moves_by made line ++ l) (append-nil (moves_of_line one line)) in
    let parts : moves_of_line one line ++ after ≡ numbered_at places k (r ∷ rest) line = λ i. (if nat_eq (line-is i) line then maps-are i else []) ++ after in
    (λ i. added i ++ numbered_at places (next i) rest line)
    ∙ append_assoc (moves_by made line) (moves_of_line one line) after
    ∙ ap (λ l. moves_by made line ++ l) parts
    ∙ ap (λ l. moves_by made line ++ numbered_at places k l line) (sym (drop_item rs n r within is))
    ∙ so_far

abbrev new_at : ℕ → ℕ → NewMapping
new_at row number = record { array = row; map = number }

-- one number more
pub numbered_next : (places : List ℕ) (made more : List HeldMapping) (k k' place : ℕ) (news : List NewMap) (n : ℕ) (x : NewMap) (whole : List NewMapping)
    → n < length news → x ≡ get_or news n x → more ≡ made ++ record { array = place; map = k } ∷ [] → place ≡ array_place places x.array.0 → k' ≡ suc k
    → map new_mapping made ++ numbered places k (drop n news) ≡ whole → map new_mapping more ++ numbered places k' (drop (n + 1) news) ≡ whole
numbered_next places made more k k' place news n x whole within is pushed place-is next so_far =
    let rest : List NewMap = drop (n + 1) news in
    let after : List NewMapping = numbered places (suc k) rest in
    let one : HeldMapping = record { array = place; map = k } in
    let added : map new_mapping more ≡ map new_mapping made ++ new_mapping one ∷ [] = ap (map new_mapping) pushed ∙ map-append new_mapping made (one ∷ []) in
    let parts : new_mapping one ∷ after ≡ numbered places k (x ∷ rest) = ap (λ row. new_at row k ∷ after) place-is in
    (λ i. added i ++ numbered places (next i) rest)
    ∙ append_assoc (map new_mapping made) (new_mapping one ∷ []) after
    ∙ ap (λ l. map new_mapping made ++ l) parts
    ∙ ap (λ l. map new_mapping made ++ numbered places k l) (sym (drop_item news n x within is))
    ∙ so_far

-- one name more
with-more : (at : ℕ) (w : What) (places : List ℕ) → with_place at w places ≡ with_place at w [] ++ places
with-more at (what.Array ds v) places = refl
with-more at (what.Scalar v) places = refl
with-more at (what.Constant v) places = refl
with-more at what.Template places = refl
with-more at what.Arrangement places = refl

pub places_next : (es : List Entry) (n : ℕ) (e : Entry) (made more whole : List ℕ) → slice_get es n ≡ Some e → more ≡ made ++ with_place n e.what []
    → made ++ array_places n (drop n es) ≡ whole → more ++ array_places (n + 1) (drop (n + 1) es) ≡ whole
places_next es n e made more whole at added so_far =
    let rest : List Entry = drop (n + 1) es in
    let next : n + 1 ≡ suc n = omega arith in
    (λ i. added i ++ array_places (next i) rest)
    ∙ append_assoc made (with_place n e.what []) (array_places (suc n) rest)
    ∙ ap (λ l. made ++ l) (sym (with-more n e.what (array_places (suc n) rest)))
    ∙ ap (λ l. made ++ array_places n l) (sym (drop-entry es n e at))
    ∙ so_far

-- what holds of all holds of one
pub holds_of : {A : Type 0} (P : A → Type 0) (xs : List A) (n : ℕ) (x : A) → All P xs → n < length xs → x ≡ get_or xs n x → P x
holds_of P xs n x all within is = subst P (sym is) (all n x within)

-- an array lies with its new mapping
pub new-laid : (nodes : ℕ) (arrays : List ArrayMap) (new : NewMap) (a : ArrayMap) → All (IsArrayMap nodes) arrays → IsNewMap nodes arrays new
    → a ≡ get_or arrays new.array.0 a → IsLaid nodes (record { shape = a.shape; mapping = new.map })
new-laid nodes arrays new a shapes is at =
    let good : IsMapOf nodes a.shape new.map = is.map a (slice_get_read arrays (length arrays) new.array.0 a refl is.array at) in
    record {
      shape = (holds_of (IsArrayMap nodes) arrays new.array.0 a shapes is.array at).shape;
      mapping = good.valid;
      inside = good.inside;
      grid = good.onto;
    }
