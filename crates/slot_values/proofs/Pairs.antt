-- The values of two expressions over slots.
use Rattle.std.proofs.Common.{◌≡◌, ◌∙◌, List, [], ◌∷◌, length, ℤ, ap, Ok, arith}
use Rattle.std.specs.Prelude.{slice_index_or}
use Rattle.array_meaning.specs.Faults.{with_more}
use Rattle.node_code.specs.declared.flat.Flat.{Flat as HeldFlat}
use Rattle.code_meaning.specs.Flat.{flat_value, flat_values}
use Rattle.node_code.specs.Texts.{flat, flats_of}
use Rattle.term_values.specs.declared.stops.Stop.{Stop}
use Rattle.term_values.specs.declared.stops.Stop.TheVariants.{Fault, Memory}
use Rattle.term_values.specs.Stops.{IsStop}

module _ (slots axes : List ℤ) where
  pub pair_values : (fs : List HeldFlat) (d : HeldFlat) (a b : ℤ) → length fs ≡ 2 → flat_value slots axes [] (flat (slice_index_or fs 0 d)) ≡ Ok a →
      flat_value slots axes [] (flat (slice_index_or fs 1 d)) ≡ Ok b → flat_values slots axes [] (flats_of fs) ≡ Ok (a ∷ b ∷ [])
  pair_values [] d a b h first second = let f : ⊥ = omega (arith, h) in absurd f
  pair_values (x ∷ []) d a b h first second = let f : ⊥ = omega (arith, h) in absurd f
  pair_values (x ∷ y ∷ z ∷ fs) d a b h first second = let f : ⊥ = omega (arith, h) in absurd f
  pair_values (x ∷ y ∷ []) d a b h first second =
      ap (λ r. with_more r (with_more (flat_value slots axes [] (flat y)) (Ok []))) first ∙ ap (λ r. with_more (Ok a) (with_more r (Ok []))) second

  pub first_stops : (fs : List HeldFlat) (d : HeldFlat) (e : Stop) → length fs ≡ 2 → IsStop (flat_value slots axes [] (flat (slice_index_or fs 0 d))) e →
      IsStop (flat_values slots axes [] (flats_of fs)) e
  first_stops fs d Memory h stop = tt {0}
  first_stops [] d (Fault c) h stop = let f : ⊥ = omega (arith, h) in absurd f
  first_stops (x ∷ fs) d (Fault c) h stop = ap (λ r. with_more r (flat_values slots axes [] (flats_of fs))) stop

  pub second_stops : (fs : List HeldFlat) (d : HeldFlat) (a : ℤ) (e : Stop) → length fs ≡ 2 → flat_value slots axes [] (flat (slice_index_or fs 0 d)) ≡ Ok a →
      IsStop (flat_value slots axes [] (flat (slice_index_or fs 1 d))) e → IsStop (flat_values slots axes [] (flats_of fs)) e
  second_stops fs d a Memory h first stop = tt {0}
  second_stops [] d a (Fault c) h first stop = let f : ⊥ = omega (arith, h) in absurd f
  second_stops (x ∷ []) d a (Fault c) h first stop = let f : ⊥ = omega (arith, h) in absurd f
  second_stops (x ∷ y ∷ fs) d a (Fault c) h first stop =
      ap (λ r. with_more r (with_more (flat_value slots axes [] (flat y)) (flat_values slots axes [] (flats_of fs)))) first
      ∙ ap (λ r. with_more (Ok a) (with_more r (flat_values slots axes [] (flats_of fs)))) stop
