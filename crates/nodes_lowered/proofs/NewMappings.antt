-- What a line moves by numbers is what it moves.
use Rattle.std.proofs.Common.{◌≡◌, ℕ, suc, ◌+◌, Bool, true, false, List, [], ◌∷◌, ◌++◌, length, map, append_assoc, length-append, refl, sym, ap, ◌∙◌, arith}
use Rattle.std.specs.Prelude.{nat_eq, if◌then◌else◌, Option, Some, None}
use Rattle.std.specs.List.{flat_map, slice_get}
use Rattle.std.proofs.lemmas.List.{length-map, map-append}
use Rattle.mappings.specs.declared.mapping.Mapping.{Mapping}
use Rattle.array_maps.specs.declared.maps.NewMap.{NewMap}
use Rattle.array_maps.specs.declared.maps.Redistribution.{Redistribution}
use Rattle.array_maps.specs.Lines.{moves_at}
use Rattle.machine_steps.specs.Instr.{Remapping}
use Rattle.node_code.specs.Instructions.{NewMapping}
use Rattle.code_meaning.specs.Instructions.{remapping_by, remappings}
use Rattle.nodes_lowered.specs.NewMappings.{array_place, new_mappings, numbered, numbered_at, remapping}

abbrev mapping_of : NewMap → Mapping
mapping_of new = new.map

-- what stands after so many others has their number
has-number : {A : Type 0} (before : List A) (x : A) (after : List A) → slice_get (before ++ x ∷ after) (length before) ≡ Some x
has-number [] x after = refl
has-number (y ∷ before) x after = has-number before x after

by_append : (row : ℕ) (o : Option Mapping) (rest more : List Remapping) → remapping_by row o (rest ++ more) ≡ remapping_by row o rest ++ more
by_append row None rest more = refl
by_append row (Some mapping) rest more = refl

remappings-append : (maps : List Mapping) (xs ys : List NewMapping) → remappings maps (xs ++ ys) ≡ remappings maps xs ++ remappings maps ys
remappings-append maps [] ys = refl
remappings-append maps (x ∷ xs) ys =
    ap (remapping_by x.array (slice_get maps x.map)) (remappings-append maps xs ys)
    ∙ by_append x.array (slice_get maps x.map) (remappings maps xs) (remappings maps ys)

module _ (places : List ℕ) where
  -- those of one redistribution
  one-moves : (before : List Mapping) (news : List NewMap) (after : List Mapping)
      → remappings (before ++ (map mapping_of news ++ after)) (numbered places (length before) news) ≡ map (remapping places) news
  one-moves before [] after = refl
  one-moves before (new ∷ news) after =
      let row : ℕ = array_place places new.array.0 in
      let more : List Mapping = before ++ new.map ∷ [] in
      let all : List Mapping = before ++ new.map ∷ (map mapping_of news ++ after) in
      let next : suc (length before) ≡ length more = omega arith ∙ sym (length-append before (new.map ∷ [])) in
      let same : all ≡ more ++ (map mapping_of news ++ after) = sym (append_assoc before (new.map ∷ []) (map mapping_of news ++ after)) in
      ap (λ o. remapping_by row o (remappings all (numbered places (suc (length before)) news))) (has-number before new.map (map mapping_of news ++ after))
      ∙ ap (λ l. remapping places new ∷ l)
      ((λ i. remappings (same i) (numbered places (next i) news)) ∙ one-moves more news after)

  -- one redistribution more, where those after it move so
  abbrev Move : List Mapping → List Redistribution → ℕ → Type 0
  Move before moves line = remappings (before ++ new_mappings moves) (numbered_at places (length before) moves line) ≡ map (remapping places) (moves_at moves line)

  one-more : (before : List Mapping) (r : Redistribution) (rs : List Redistribution) (line : ℕ) → Move (before ++ map mapping_of r.maps) rs line → Move before (r ∷ rs) line
  one-more before r rs line after = by (nat_eq r.line line)
    where
      more : List Mapping
      more = before ++ map mapping_of r.maps

      maps : List Mapping
      maps = before ++ new_mappings (r ∷ rs)

      parts : new_mappings (r ∷ rs) ≡ map mapping_of r.maps ++ new_mappings rs
      parts = map-append mapping_of r.maps (flat_map (λ (x : Redistribution). x.maps) rs)

      here : remappings maps (numbered places (length before) r.maps) ≡ map (remapping places) r.maps
      here = ap (λ l. remappings (before ++ l) (numbered places (length before) r.maps)) parts ∙ one-moves before r.maps (new_mappings rs)

      next : length before + length r.maps ≡ length more
      next = ap (λ n. length before + n) (sym (length-map r.maps mapping_of)) ∙ sym (length-append before (map mapping_of r.maps))

      same : maps ≡ more ++ new_mappings rs
      same = ap (λ l. before ++ l) parts ∙ sym (append_assoc before (map mapping_of r.maps) (new_mappings rs))

      rest : remappings maps (numbered_at places (length before + length r.maps) rs line) ≡ map (remapping places) (moves_at rs line)
      rest = (λ i. remappings (same i) (numbered_at places (next i) rs line)) ∙ after

      by : (b : Bool)
          → remappings maps ((if b then numbered places (length before) r.maps else []) ++ numbered_at places (length before + length r.maps) rs line)
          ≡ map (remapping places) ((if b then r.maps else []) ++ moves_at rs line)
      by false = rest
      by true =
          remappings-append maps (numbered places (length before) r.maps) (numbered_at places (length before + length r.maps) rs line)
          ∙ (λ i. here i ++ rest i)
          ∙ sym (map-append (remapping places) r.maps (moves_at rs line))

  all-move : (before : List Mapping) (moves : List Redistribution) (line : ℕ) → Move before moves line
  all-move before [] line = refl
  all-move before (r ∷ rs) line = one-more before r rs line (all-move (before ++ map mapping_of r.maps) rs line)

  pub moves-numbered : (moves : List Redistribution) (line : ℕ)
      → remappings (new_mappings moves) (numbered_at places 0 moves line) ≡ map (remapping places) (moves_at moves line)
  moves-numbered = all-move []
