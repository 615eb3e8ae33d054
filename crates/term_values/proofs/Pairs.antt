-- The values of two expressions, and of two operands at a tuple.
use Rattle.std.proofs.Common.{◌≡◌, ◌∙◌, List, [], ◌∷◌, length, ℤ, ap, Ok, arith}
use Rattle.std.specs.Prelude.{slice_index_or}
use Rattle.array_meaning.specs.Elementals.{value_at, values_at}
use Rattle.array_meaning.specs.Expressions.{value, values}
use Rattle.array_meaning.specs.Faults.{with_more}
use Rattle.array_meaning.specs.State.{State}
use Rattle.resolved_program.specs.declared.terms.Term.{Term as HeldTerm}
use Rattle.resolved_program.specs.Resolved.{term, terms_of}
use Rattle.term_values.specs.declared.array_values.Elemental.{Elemental as HeldElemental}
use Rattle.term_values.specs.declared.stops.Stop.{Stop}
use Rattle.term_values.specs.declared.stops.Stop.TheVariants.{Fault, Memory}
use Rattle.term_values.specs.Stops.{IsStop}
use Rattle.term_values.specs.Views.{elemental, elementals_of}

module _ (indices : List ℤ) (s : State) where
  pub pair_values : (ts : List HeldTerm) (d : HeldTerm) (a b : ℤ) → length ts ≡ 2 → value indices s (term (slice_index_or ts 0 d)) ≡ Ok a → value indices s (term (slice_index_or ts 1 d)) ≡ Ok b →
      values indices s (terms_of ts) ≡ Ok (a ∷ b ∷ [])
  pair_values [] d a b h first second = let f : ⊥ = omega (arith, h) in absurd f
  pair_values (x ∷ []) d a b h first second = let f : ⊥ = omega (arith, h) in absurd f
  pair_values (x ∷ y ∷ z ∷ ts) d a b h first second = let f : ⊥ = omega (arith, h) in absurd f
  pair_values (x ∷ y ∷ []) d a b h first second =
      ap (λ r. with_more r (with_more (value indices s (term y)) (Ok []))) first ∙ ap (λ r. with_more (Ok a) (with_more r (Ok []))) second

  pub first_stops : (ts : List HeldTerm) (d : HeldTerm) (e : Stop) → length ts ≡ 2 → IsStop (value indices s (term (slice_index_or ts 0 d))) e → IsStop (values indices s (terms_of ts)) e
  first_stops ts d Memory h stop = tt {0}
  first_stops [] d (Fault c) h stop = let f : ⊥ = omega (arith, h) in absurd f
  first_stops (x ∷ ts) d (Fault c) h stop = ap (λ r. with_more r (values indices s (terms_of ts))) stop

  pub second_stops : (ts : List HeldTerm) (d : HeldTerm) (a : ℤ) (e : Stop) → length ts ≡ 2 → value indices s (term (slice_index_or ts 0 d)) ≡ Ok a → IsStop (value indices s (term (slice_index_or ts 1 d))) e →
      IsStop (values indices s (terms_of ts)) e
  second_stops ts d a Memory h first stop = tt {0}
  second_stops [] d a (Fault c) h first stop = let f : ⊥ = omega (arith, h) in absurd f
  second_stops (x ∷ []) d a (Fault c) h first stop = let f : ⊥ = omega (arith, h) in absurd f
  second_stops (x ∷ y ∷ ts) d a (Fault c) h first stop =
      ap (λ r. with_more r (with_more (value indices s (term y)) (values indices s (terms_of ts)))) first ∙ ap (λ r. with_more (Ok a) (with_more r (values indices s (terms_of ts)))) stop

-- ---- at a tuple

module _ (s : State) (tuple : List ℤ) where
  pub pair_values_at : (xs : List HeldElemental) (d : HeldElemental) (a b : ℤ) → length xs ≡ 2 → value_at s tuple (elemental (slice_index_or xs 0 d)) ≡ Ok a →
      value_at s tuple (elemental (slice_index_or xs 1 d)) ≡ Ok b → values_at s tuple (elementals_of xs) ≡ Ok (a ∷ b ∷ [])
  pair_values_at [] d a b h first second = let f : ⊥ = omega (arith, h) in absurd f
  pair_values_at (x ∷ []) d a b h first second = let f : ⊥ = omega (arith, h) in absurd f
  pair_values_at (x ∷ y ∷ z ∷ xs) d a b h first second = let f : ⊥ = omega (arith, h) in absurd f
  pair_values_at (x ∷ y ∷ []) d a b h first second =
      ap (λ r. with_more r (with_more (value_at s tuple (elemental y)) (Ok []))) first ∙ ap (λ r. with_more (Ok a) (with_more r (Ok []))) second

  pub first_stops_at : (xs : List HeldElemental) (d : HeldElemental) (e : Stop) → length xs ≡ 2 → IsStop (value_at s tuple (elemental (slice_index_or xs 0 d))) e → IsStop (values_at s tuple (elementals_of xs)) e
  first_stops_at xs d Memory h stop = tt {0}
  first_stops_at [] d (Fault c) h stop = let f : ⊥ = omega (arith, h) in absurd f
  first_stops_at (x ∷ xs) d (Fault c) h stop = ap (λ r. with_more r (values_at s tuple (elementals_of xs))) stop

  pub second_stops_at : (xs : List HeldElemental) (d : HeldElemental) (a : ℤ) (e : Stop) → length xs ≡ 2 → value_at s tuple (elemental (slice_index_or xs 0 d)) ≡ Ok a →
      IsStop (value_at s tuple (elemental (slice_index_or xs 1 d))) e → IsStop (values_at s tuple (elementals_of xs)) e
  second_stops_at xs d a Memory h first stop = tt {0}
  second_stops_at [] d a (Fault c) h first stop = let f : ⊥ = omega (arith, h) in absurd f
  second_stops_at (x ∷ []) d a (Fault c) h first stop = let f : ⊥ = omega (arith, h) in absurd f
  second_stops_at (x ∷ y ∷ xs) d a (Fault c) h first stop =
      ap (λ r. with_more r (with_more (value_at s tuple (elemental y)) (values_at s tuple (elementals_of xs)))) first
      ∙ ap (λ r. with_more (Ok a) (with_more r (values_at s tuple (elementals_of xs)))) stop
