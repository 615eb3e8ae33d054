-- Loops that put a number at each place of a strip.
use Rattle.std.proofs.Common.{◌≡◌, ℕ, ◌+◌, ◌<◌, ◌≤◌, ◌≢◌, ◌⊎◌, inl, inr, List, length, ℤ, pos, Result, Ok, ap, sym, ◌∙◌, arith, get_or-set_other, get_or-set_same}
use Rattle.std.specs.Prelude.{slice_index_or, slice_set}
use Rattle.std.proofs.lemmas.Bool.{cases_lt}

-- one place more
pub put_more : {E : Type 0} (f : ℕ → ℤ → Result ℤ E) (xs zs us : List ℤ) (i : ℕ) (v : ℤ) → i < length zs → us ≡ slice_set zs i v → f i (slice_index_or zs i (pos 0)) ≡ Ok v
    → ((k : ℕ) → k < i → f k (slice_index_or xs k (pos 0)) ≡ Ok (slice_index_or zs k (pos 0))) → ((k : ℕ) → i ≤ k → slice_index_or zs k (pos 0) ≡ slice_index_or xs k (pos 0))
    → ((k : ℕ) → k < i + 1 → f k (slice_index_or xs k (pos 0)) ≡ Ok (slice_index_or us k (pos 0))) × ((k : ℕ) → i + 1 ≤ k → slice_index_or us k (pos 0) ≡ slice_index_or xs k (pos 0))
put_more f xs zs us i v lt is here before behind = (done, left) where
  at_i : slice_index_or us i (pos 0) ≡ v
  at_i = ap (λ l. slice_index_or l i (pos 0)) is ∙ get_or-set_same zs i v (pos 0) lt

  other : (k : ℕ) → k ≢ i → slice_index_or us k (pos 0) ≡ slice_index_or zs k (pos 0)
  other k ne = ap (λ l. slice_index_or l k (pos 0)) is ∙ get_or-set_other zs i k v (pos 0) ne

  by_place : (k : ℕ) → k < i + 1 → (k < i) ⊎ (i ≤ k) → f k (slice_index_or xs k (pos 0)) ≡ Ok (slice_index_or us k (pos 0))
  by_place k less (inl low) = before k low ∙ ap Ok (sym (other k (omega (arith, low))))
  by_place k less (inr high) =
      let e : k ≡ i = omega (arith, less, high) in
      ap (λ k. f k (slice_index_or xs k (pos 0))) e ∙ ap (f i) (sym (behind i (omega arith))) ∙ here ∙ ap Ok (sym at_i) ∙ ap (λ k. Ok (slice_index_or us k (pos 0))) (sym e)

  done : (k : ℕ) → k < i + 1 → f k (slice_index_or xs k (pos 0)) ≡ Ok (slice_index_or us k (pos 0))
  done k less = by_place k less (cases_lt k i)

  left : (k : ℕ) → i + 1 ≤ k → slice_index_or us k (pos 0) ≡ slice_index_or xs k (pos 0)
  left k high = other k (omega (arith, high)) ∙ behind k (omega (arith, high))
