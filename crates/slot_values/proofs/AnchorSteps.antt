-- What copies lie beside, subscript by subscript.
use Rattle.std.proofs.Common.{◌≡◌, ◌∙◌, ◌+ℤ◌, ◌-ℤ◌, ◌*ℤ◌, ℕ, suc, ℤ, Bool, true, false, List, [], ◌∷◌, ◌++◌, append_assoc, Option, Some, None, refl, ap, sym, arith}
use Rattle.std.specs.Prelude.{◌&&◌, not, if◌then◌else◌}
use Rattle.std.specs.Option.{is_some}
use Rattle.std.proofs.lemmas.Bool.{false≢true}
use Rattle.std.proofs.lemmas.Int.{ints}
use Rattle.std.proofs.lemmas.List.{append-nil}
use Rattle.std.proofs.lemmas.Option.{same_Some}
use Rattle.std.proofs.Math.IntN.{*ℤ_comm}
use Rattle.hpf_base.proofs.Integers.{sum-*ℤ}
use Rattle.op_tables.specs.Operators.{is_zero}
use Rattle.mappings.specs.declared.mapping.AlignDim.{AlignDim}
use Rattle.mappings.specs.declared.mapping.AlignDim.TheVariants.{Linear}
use Rattle.aligned_copies.specs.Beside.{Anchor}
use Rattle.array_meaning.specs.declared.sections.Sequence.{Sequence}
use Rattle.node_code.specs.Anchors.{AnchorSub, AnchorAt, AnchorAlong}
use Rattle.code_meaning.specs.Anchors.{AnchorValue, anchor_value, by_positions, have_strides}
use Rattle.code_meaning.specs.Flat.{slots_value}
use Rattle.slot_values.specs.Anchors.{anchor_from, axis_after, subscript_of}

module _ (row : ℕ) (axes : List Sequence) where
  abbrev with_subscripts : Bool → List AlignDim → Option Anchor
  with_subscripts strides subscripts = if strides then Some (record { row = row; subscripts = subscripts }) else None

  one_more : (made : List AlignDim) (d e : AlignDim) (rest : List AlignDim) → e ≡ d → made ++ (e ∷ rest) ≡ (made ++ d ∷ []) ++ rest
  one_more made d e rest is = ap (λ x. made ++ (x ∷ rest)) is ∙ sym (append_assoc made (d ∷ []) rest)

  triplet_next : (made : List AlignDim) (axis : ℕ) (first stride : ℤ) (xs : List AnchorValue) (d : AlignDim) (zero : Bool)
      → (if zero then None else Some (Linear axis stride (first -ℤ stride))) ≡ Some d
      → with_subscripts (not zero && have_strides xs) (made ++ (Linear axis stride (first -ℤ stride) ∷ by_positions axes (suc axis) xs))
      ≡ anchor_from row axes (made ++ d ∷ []) (suc axis) xs
  triplet_next made axis first stride xs d true is = absurd (false≢true (ap is_some is))
  triplet_next made axis first stride xs d false is =
      ap (with_subscripts (have_strides xs)) (one_more made d (Linear axis stride (first -ℤ stride)) (by_positions axes (suc axis) xs) (same_Some _ _ is))

  triplet_stops : (made : List AlignDim) (axis : ℕ) (first stride : ℤ) (xs : List AnchorValue) (zero : Bool)
      → (if zero then None else Some (Linear axis stride (first -ℤ stride))) ≡ None
      → with_subscripts (not zero && have_strides xs) (made ++ (Linear axis stride (first -ℤ stride) ∷ by_positions axes (suc axis) xs))
      ≡ None
  triplet_stops made axis first stride xs true is = refl
  triplet_stops made axis first stride xs false is = absurd (false≢true (sym (ap is_some is)))

  module _ (slots : List ℤ) where
    -- one subscript more
    pub anchor_next : (made : List AlignDim) (axis : ℕ) (x : AnchorSub) (xs : List AnchorValue) (d : AlignDim) → subscript_of axes axis (anchor_value slots x) ≡ Some d
        → anchor_from row axes made axis (anchor_value slots x ∷ xs) ≡ anchor_from row axes (made ++ d ∷ []) (axis_after axis x) xs
    anchor_next made axis (AnchorAt f) xs d is = ap (with_subscripts (have_strides xs)) (one_more made d _ (by_positions axes axis xs) (same_Some _ _ is))
    anchor_next made axis (AnchorAlong first stride) xs d is =
        triplet_next made axis (slots_value slots first) (slots_value slots stride) xs d (is_zero (slots_value slots stride)) is

    -- a triplet with a stride of 0
    pub anchor_stops : (made : List AlignDim) (axis : ℕ) (x : AnchorSub) (xs : List AnchorValue) → subscript_of axes axis (anchor_value slots x) ≡ None
        → anchor_from row axes made axis (anchor_value slots x ∷ xs) ≡ None
    anchor_stops made axis (AnchorAt f) xs is = absurd (false≢true (sym (ap is_some is)))
    anchor_stops made axis (AnchorAlong first stride) xs is =
        triplet_stops made axis (slots_value slots first) (slots_value slots stride) xs (is_zero (slots_value slots stride)) is

  -- no subscript more
  pub anchor_made : (made : List AlignDim) (axis : ℕ) → anchor_from row axes made axis [] ≡ Some (record { row = row; subscripts = made })
  anchor_made made axis = ap (λ subscripts. Some (record { row = row; subscripts = subscripts })) (append-nil made)

-- a factor times an index, from its first value on
pub from_first : (factor first step offset : ℤ) → ((factor *ℤ first) +ℤ offset) -ℤ (factor *ℤ step) ≡ (factor *ℤ (first -ℤ step)) +ℤ offset
from_first factor first step offset =
    let whole : ((first -ℤ step) +ℤ step) *ℤ factor ≡ ((first -ℤ step) *ℤ factor) +ℤ (step *ℤ factor) = sum-*ℤ (first -ℤ step) step factor in
    let same : (first -ℤ step) +ℤ step ≡ first = omega (arith, ints) in
    let product : first *ℤ factor ≡ ((first -ℤ step) *ℤ factor) +ℤ (step *ℤ factor) = ap (λ x. x *ℤ factor) (sym same) ∙ whole in
    let one : factor *ℤ first ≡ first *ℤ factor = *ℤ_comm factor first in
    let two : factor *ℤ step ≡ step *ℤ factor = *ℤ_comm factor step in
    let three : factor *ℤ (first -ℤ step) ≡ (first -ℤ step) *ℤ factor = *ℤ_comm factor (first -ℤ step) in
    omega (arith, ints, product, one, two, three)
