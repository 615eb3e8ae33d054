-- Stores to rows of a nest, each at its place among the machine's rows.
use Rattle.std.proofs.Common.{◌≡◌, ℕ, zero, suc, ◌<◌, ◌≤◌, ◌⊎◌, inl, inr, List, [], ◌∷◌, length, replicate, ℤ, pos, Bool, true, refl, sym, ap, ◌∙◌, subst, arith, slice_set, get_or-set_same, get_or-set_other, ⊎_elim}
use Rattle.std.proofs.lemmas.Bool.{cases_eq, cases_lt}
use Rattle.storage.specs.Storage.{Storage, Spot, row_of, write}
use Rattle.storage.specs.Effect.{Effect, Skip, Put, Fail, apply, scatter}
use Rattle.nest_machine.specs.Placed.{Placed, IsPlace, placed_spot, placed_effect, IsOfRow}
use Rattle.nest_machine.proofs.Rows.{row-beyond, write-here, write-other, puts-here, puts-other, fill-all}

abbrev puts_zero : (F : Type 0) → ℕ → ℕ → Effect F
puts_zero F r i = Put (record { row = r; at = i }) (pos 0)

module _ (place : ℕ → ℕ) (is_row : ℕ → Bool) (one_place : IsPlace place is_row) where
  placed-write : (m rows : Storage) (spot : Spot) (v : ℤ) → Placed place is_row m rows → is_row spot.row ≡ true → Placed place is_row (write m spot v) (write rows (placed_spot place spot) v)
  placed-write m rows spot v h is r row = ⊎_elim
      (λ (e : r ≡ spot.row). subst (λ x. row_of (write rows (placed_spot place spot) v) (place x) ≡ row_of (write m spot v) x) (sym e)
      (write-here rows (place spot.row) spot.at v ∙ ap (λ xs. slice_set xs spot.at v) (h spot.row is) ∙ sym (write-here m spot.row spot.at v)))
      (λ (ne : r ≡ spot.row → ⊥). write-other rows (placed_spot place spot) v (place r) (λ z. ne (one_place r spot.row row is z)) ∙ h r row ∙ sym (write-other m spot v r ne))
      (cases_eq r spot.row)

  module _ {F : Type 0} where
    placed-apply : (e : Effect F) (m rows : Storage) → Placed place is_row m rows → IsOfRow is_row e → Placed place is_row (apply e m) (apply (placed_effect place e) rows)
    placed-apply Skip m rows h is = h
    placed-apply (Put spot v) m rows h is = placed-write m rows spot v h is
    placed-apply (Fail f) m rows h is = h

    pub placed-scatter : (e : ℕ → Effect F) (t : ℕ) (m rows : Storage) → Placed place is_row m rows → ((i : ℕ) → IsOfRow is_row (e i))
        → Placed place is_row (scatter e t m) (scatter (λ i. placed_effect place (e i)) t rows)
    placed-scatter e zero m rows h is = h
    placed-scatter e (suc t) m rows h is = placed-apply (e t) (scatter e t m) (scatter (λ i. placed_effect place (e i)) t rows) (placed-scatter e t m rows h is) (is t)

    -- what is stored in no row of the nest doesn't count
    pub placed-off : (e : ℕ → Effect F) (q : ℕ) → ((r : ℕ) → is_row r ≡ true → place r ≡ q → ⊥) → (t : ℕ) (m rows : Storage)
        → ((i : ℕ) → (e i ≡ Skip) ⊎ ((v : ℤ) × (e i ≡ Put (record { row = q; at = i }) v))) → Placed place is_row m rows → Placed place is_row m (scatter e t rows)
    placed-off e q off zero m rows each h r row = h r row
    placed-off e q off (suc t) m rows each h r row =
        let now : Storage = scatter e t rows in
        let before : row_of now (place r) ≡ row_of m r = placed-off e q off t m rows each h r row in ⊎_elim
        (λ (is : e t ≡ Skip). ap (λ x. row_of (apply x now) (place r)) is ∙ before)
        (λ (w : (v : ℤ) × (e t ≡ Put (record { row = q; at = t }) v)).
        ap (λ x. row_of (apply x now) (place r)) w.1 ∙ write-other now (record { row = q; at = t }) w.0 (place r) (off r row) ∙ before)
        (each t)

  pub placed-made : (F : Type 0) (r n : ℕ) (m rows : Storage) → Placed place is_row m rows → is_row r ≡ true → length (row_of m r) ≡ n
      → Placed place is_row (scatter (puts_zero F r) n m) (slice_set rows (place r) (replicate n (pos 0)))
  placed-made F r n m rows h is long q row = ⊎_elim
      (λ (e : q ≡ r). subst (λ x. row_of (slice_set rows (place r) (replicate n (pos 0))) (place x) ≡ row_of (scatter (puts_zero F r) n m) x) (sym e)
      (here (cases_lt (place r) (length rows)) ∙ sym (puts-here F r (pos 0) n m ∙ fill-all (pos 0) n (row_of m r) long)))
      (λ (ne : q ≡ r → ⊥). get_or-set_other rows (place r) (place q) (replicate n (pos 0)) [] (λ z. ne (one_place q r row is z)) ∙ h q row ∙ sym (puts-other F r (pos 0) n m q ne))
      (cases_eq q r)
    where
      none : n ≡ 0 → replicate n (pos 0) ≡ []
      none e = ap (λ k. replicate k (pos 0)) e

      beyond : (xs : Storage) (i : ℕ) (v : List ℤ) → length xs ≤ i → slice_set xs i v ≡ xs
      beyond [] i v le = refl
      beyond (x ∷ xs) zero v le = absurd (omega (arith, le))
      beyond (x ∷ xs) (suc i) v le = ap (λ ys. x ∷ ys) (beyond xs i v (omega (arith, le)))

      here : (place r < length rows) ⊎ (length rows ≤ place r) → row_of (slice_set rows (place r) (replicate n (pos 0))) (place r) ≡ replicate n (pos 0)
      here (inl lt) = get_or-set_same rows (place r) (replicate n (pos 0)) [] lt
      here (inr ge) =
          let empty : row_of rows (place r) ≡ [] = row-beyond rows (place r) ge in
          let zero_long : n ≡ 0 = sym long ∙ ap length (sym (h r is) ∙ empty) in
          ap (λ xs. row_of xs (place r)) (beyond rows (place r) (replicate n (pos 0)) ge) ∙ empty ∙ sym (none zero_long)
