-- By slots that agree on what copies lie beside, they lie beside the same.
use Rattle.std.proofs.Common.{◌≡◌, List, [], ◌∷◌, ℤ, pos, true, Option, Some, None, Ok, refl, ap, map}
use Rattle.std.specs.List.{list_all}
use Rattle.std.specs.Result.{result_unwrap_or}
use Rattle.array_meaning.specs.Elementals.{operated}
use Rattle.array_meaning.specs.Expressions.{value, values}
use Rattle.array_meaning.specs.Faults.{◌>>=◌, with_more}
use Rattle.array_meaning.specs.Forall.{linear, linears, linear_by, without_index}
use Rattle.node_code.specs.Flat.{Flat, Int, Slot, Axis, Read, Operated, Flats, NoFlat, AndFlat}
use Rattle.node_code.specs.Forms.{Sub}
use Rattle.node_code.specs.Anchors.{AnchorSub, AnchorAt, AnchorAlong, FlatAnchor}
use Rattle.node_code.specs.NestStatements.{NestStatement}
use Rattle.node_code.specs.Parallel.{Assignment, Evaluation}
use Rattle.code_meaning.specs.Anchors.{LinearValue, TripletValue, anchor_by, anchor_in, anchor_value}
use Rattle.code_meaning.specs.Flat.{or_zero}
use Rattle.code_meaning.specs.ForallLimits.{sequences_of, slots_state, term_of, terms_of}
use Rattle.part_steps.specs.Agreement.{agree_on_flat, agree_on_flats, agree_on_subs, agree_on_form, agree_on_left, agree_on_anchor_sub, agree_on_beside, agree_on_assignment, agree_on_evaluation, agree_on_nest}
use Rattle.part_steps.proofs.SameParts.{both, slot_same, flat_same, selections_same}

module _ (old new : List ℤ) where
  -- ---- expressions as terms over the slots

  mutual
    value_same : (f : Flat) → agree_on_flat old new f ≡ true → value [] (slots_state old) (term_of f) ≡ value [] (slots_state new) (term_of f)
    value_same (Int v) is = refl
    value_same (Slot k) is = ap Ok (slot_same old new k is)
    value_same (Axis k) is = refl
    value_same (Read k) is = refl
    value_same (Operated o fs) is = ap (λ r. r >>= operated o) (values_same fs is)

    values_same : (fs : Flats) → agree_on_flats old new fs ≡ true → values [] (slots_state old) (terms_of fs) ≡ values [] (slots_state new) (terms_of fs)
    values_same NoFlat is = refl
    values_same (AndFlat f fs) is = λ i. with_more (value_same f (both _ _ is).0 i) (values_same fs (both _ _ is).1 i)

  mutual
    linear_same : (f : Flat) → agree_on_flat old new f ≡ true → linear (slots_state old) (term_of f) ≡ linear (slots_state new) (term_of f)
    linear_same (Int v) is = refl
    linear_same (Slot k) is = ap without_index (slot_same old new k is)
    linear_same (Axis k) is = refl
    linear_same (Read k) is = refl
    linear_same (Operated o fs) is =
        λ i. linear_by o (linears_same fs is i) (without_index (result_unwrap_or (values_same fs is i >>= operated o) (pos 0)))

    linears_same : (fs : Flats) → agree_on_flats old new fs ≡ true → linears (slots_state old) (terms_of fs) ≡ linears (slots_state new) (terms_of fs)
    linears_same NoFlat is = refl
    linears_same (AndFlat f fs) is = λ i. linear_same f (both _ _ is).0 i ∷ linears_same fs (both _ _ is).1 i

  -- ---- what copies lie beside

  subscripts_same : (xs : List AnchorSub) → list_all (agree_on_anchor_sub old new) xs ≡ true → map (anchor_value old) xs ≡ map (anchor_value new) xs
  subscripts_same [] is = refl
  subscripts_same (AnchorAt f ∷ xs) is = λ i. LinearValue (linear_same f (both _ _ is).0 i) ∷ subscripts_same xs (both _ _ is).1 i
  subscripts_same (AnchorAlong first stride ∷ xs) is =
      λ i. TripletValue (or_zero (flat_same old new [] first (both _ _ (both _ _ is).0).0 i)) (or_zero (flat_same old new [] stride (both _ _ (both _ _ is).0).1 i))
      ∷ subscripts_same xs (both _ _ is).1 i

  pub anchor_same : (over : List Sub) (beside : Option FlatAnchor) → agree_on_subs old new over ≡ true → agree_on_beside old new beside ≡ true
      → anchor_in old over beside ≡ anchor_in new over beside
  anchor_same over None overs is = refl
  anchor_same over (Some a) overs is = λ i. anchor_by a.array (sequences_of (selections_same old new [] over overs i)) (subscripts_same a.subscripts is i)

  pub assignment_anchor : (p : Assignment) → agree_on_assignment old new p ≡ true → anchor_in old p.over p.beside ≡ anchor_in new p.over p.beside
  assignment_anchor p is =
      let space = both (agree_on_subs old new p.over) _ is in
      let left = both (agree_on_subs old new p.left) _ space.1 in
      anchor_same p.over p.beside space.0 (both (agree_on_form old new p.right) _ left.1).1

  pub evaluation_anchor : (p : Evaluation) → agree_on_evaluation old new p ≡ true → anchor_in old p.over p.beside ≡ anchor_in new p.over p.beside
  evaluation_anchor p is =
      let space = both (agree_on_subs old new p.over) _ is in
      anchor_same p.over p.beside space.0 (both (agree_on_form old new p.form) _ space.1).1

  pub nest_anchor : (p : NestStatement) → agree_on_nest old new p ≡ true → anchor_in old p.over p.beside ≡ anchor_in new p.over p.beside
  nest_anchor p is =
      let space = both (agree_on_subs old new p.over) _ is in
      let left = both (agree_on_left old new p.left) _ space.1 in
      anchor_same p.over p.beside space.0 (both (agree_on_form old new p.right) _ left.1).1
