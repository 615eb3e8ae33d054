-- The values of two operands.
use Rattle.std.proofs.Common.{◌≡◌, ◌∙◌, List, [], ◌∷◌, length, ℤ, ap, Ok, arith}
use Rattle.std.specs.Prelude.{slice_index_or}
use Rattle.storage.specs.Storage.{Spot}
use Rattle.array_meaning.specs.Faults.{with_more}
use Rattle.node_code.specs.declared.form.ArrayForm.{ArrayForm as HeldForm}
use Rattle.node_code.specs.Texts.{form, forms_of}
use Rattle.term_values.specs.declared.stops.Stop.{Stop}
use Rattle.term_values.specs.declared.stops.Stop.TheVariants.{Fault, Memory}
use Rattle.term_values.specs.Stops.{IsStop}
use Rattle.tuple_values.specs.declared.here.Here.{Here}
use Rattle.tuple_values.specs.Here.{value_here, values_here}

module _ (h : Here) (get : Spot → ℤ) where
  pub pair_values : (fs : List HeldForm) (d : HeldForm) (a b : ℤ) → length fs ≡ 2 → value_here h get (form (slice_index_or fs 0 d)) ≡ Ok a
      → value_here h get (form (slice_index_or fs 1 d)) ≡ Ok b → values_here h get (forms_of fs) ≡ Ok (a ∷ b ∷ [])
  pair_values [] d a b two first second = let f : ⊥ = omega (arith, two) in absurd f
  pair_values (x ∷ []) d a b two first second = let f : ⊥ = omega (arith, two) in absurd f
  pair_values (x ∷ y ∷ z ∷ fs) d a b two first second = let f : ⊥ = omega (arith, two) in absurd f
  pair_values (x ∷ y ∷ []) d a b two first second =
      ap (λ r. with_more r (with_more (value_here h get (form y)) (Ok []))) first ∙ ap (λ r. with_more (Ok a) (with_more r (Ok []))) second

  pub first_stops : (fs : List HeldForm) (d : HeldForm) (e : Stop) → length fs ≡ 2 → IsStop (value_here h get (form (slice_index_or fs 0 d))) e
      → IsStop (values_here h get (forms_of fs)) e
  first_stops fs d Memory two stop = tt {0}
  first_stops [] d (Fault c) two stop = let f : ⊥ = omega (arith, two) in absurd f
  first_stops (x ∷ fs) d (Fault c) two stop = ap (λ r. with_more r (values_here h get (forms_of fs))) stop

  pub second_stops : (fs : List HeldForm) (d : HeldForm) (a : ℤ) (e : Stop) → length fs ≡ 2 → value_here h get (form (slice_index_or fs 0 d)) ≡ Ok a
      → IsStop (value_here h get (form (slice_index_or fs 1 d))) e → IsStop (values_here h get (forms_of fs)) e
  second_stops fs d a Memory two first stop = tt {0}
  second_stops [] d a (Fault c) two first stop = let f : ⊥ = omega (arith, two) in absurd f
  second_stops (x ∷ []) d a (Fault c) two first stop = let f : ⊥ = omega (arith, two) in absurd f
  second_stops (x ∷ y ∷ fs) d a (Fault c) two first stop =
      ap (λ r. with_more r (with_more (value_here h get (form y)) (values_here h get (forms_of fs)))) first
      ∙ ap (λ r. with_more (Ok a) (with_more r (values_here h get (forms_of fs)))) stop
