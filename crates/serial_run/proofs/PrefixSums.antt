-- The sums of the elements up to each place.
use Rattle.std.proofs.Common.{◌≡◌, ◌⊎◌, inl, inr, ℕ, ◌+◌, ◌<◌, ◌≤◌, List, [], ◌∷◌, ◌++◌, length, take, ℤ, pos, ◌+ℤ◌, w64, SFits, sym, ap, ◌∙◌, subst, arith}
use Rattle.std.specs.Prelude.{slice_index_or}
use Rattle.std.specs.List.{fold}
use Rattle.std.proofs.Math.ListN.{get_or-eq_default}
use Rattle.std.proofs.lemmas.Bool.{cases_lt}
use Rattle.std.proofs.lemmas.Int.{int_wrap_fits, ints}
use Rattle.std.proofs.lemmas.List.{take_all}
use Rattle.std.proofs.lemmas.List.FromFn.{map-range_with_len_more}
use Rattle.std.proofs.lemmas.List.Sums.{fold_more}
use Rattle.op_tables.specs.Joins.{join, unit}
use Rattle.op_tables.specs.Operators.{wrapped}
use Rattle.op_tables.specs.declared.join.Join.TheVariants.{Sum}
use Rattle.serial_run.specs.TransformedValues.{sums_of}

module _ (xs : List ℤ) where
  -- of so many elements
  abbrev pub sum_of : ℕ → ℤ
  sum_of n = fold (join Sum) (unit Sum) (take n xs)

  -- and of one more, which is 0 where there is none
  sum_more : (n : ℕ) → SFits w64 (sum_of n) → join Sum (sum_of n) (slice_index_or xs n (pos 0)) ≡ sum_of (n + 1)
  sum_more n fits = by_length (cases_lt n (length xs)) where
    by_length : (n < length xs) ⊎ (length xs ≤ n) → join Sum (sum_of n) (slice_index_or xs n (pos 0)) ≡ sum_of (n + 1)
    by_length (inl inside) = sym (fold_more (join Sum) (unit Sum) xs n (pos 0) inside)
    by_length (inr past) =
        let nothing : sum_of n +ℤ pos 0 ≡ sum_of n = omega (arith, ints) in
        ap (join Sum (sum_of n)) (get_or-eq_default xs (pos 0) past)
        ∙ ap wrapped nothing
        ∙ int_wrap_fits w64 (sum_of n) fits
        ∙ ap (fold (join Sum) (unit Sum)) (take_all n xs past ∙ sym (take_all (n + 1) xs (omega (arith, past))))

  pub next_sum : (n : ℕ) (so_far v sum : ℤ) → so_far ≡ sum_of n → SFits w64 so_far → v ≡ slice_index_or xs n (pos 0) → sum ≡ join Sum so_far v → sum ≡ sum_of (n + 1)
  next_sum n so_far v sum here fits at is =
      is ∙ (λ i. join Sum (here i) (at i)) ∙ sum_more n (subst (SFits w64) here fits)

  -- one more sum
  pub sums_more : (n : ℕ) (made new : List ℤ) (sum : ℤ) → new ≡ made ++ sum ∷ [] → made ≡ sums_of xs n → sum ≡ sum_of (n + 1) → new ≡ sums_of xs (n + 1)
  sums_more n made new sum adds so_far is =
      let next : 0 + n ≡ n = omega arith in
      adds ∙ (λ i. so_far i ++ is i ∷ []) ∙ sym (map-range_with_len_more (λ t. sum_of (t + 1)) 0 n n next)
