-- The storage at a nest's entry, with rows for its conditions.
use Rattle.std.proofs.Common.{◌≡◌, ℕ, zero, suc, ◌+◌, ◌-◌, ◌<◌, ◌≤◌, [], ◌∷◌, length, get_or, replicate, true, ap, sym, ◌∙◌, subst, ℤ, pos, arith, ⊎_elim, FitsSigned, w64}
use Rattle.std.proofs.lemmas.Bool.{cases_lt}
use Rattle.std.proofs.lemmas.List.{get_or_past, get_or-append-add, get_or_append_left, get_or-replicate, length-replicate}
use Rattle.storage.specs.Storage.{row_of}
use Rattle.nest_syntax.specs.NestKinds.{Kind, Shared, has_copies}
use Rattle.nest_order.specs.Scalars.{AllFit}
use Rattle.nest_order.proofs.Copying.{shared_of}
use Rattle.array_meaning.specs.State.{State, scalar, array}
use Rattle.nest_items.specs.StateStorage.{storage_of}
use Rattle.nest_items.specs.NestEnds.{IsOpening}
use Rattle.nest_parts.specs.NestParts.{IsGood, opened}
use Rattle.nest_items.proofs.Storing.{entry-state, row-at, rows-length, if_so, if_not, by_cases}
use Rattle.nest_items.proofs.IndexFits.{zero_fits}

module _ (kinds : ℕ → Kind) (s : State) (even : length s.scalars ≡ length s.arrays) (below : (k : ℕ) → has_copies (kinds k) ≡ true → k < length s.arrays) (conditions n : ℕ) where
  first_rows : (i : ℕ) → i < length s.arrays → row_of (opened kinds s conditions n) i ≡ row_of (storage_of kinds s) i
  first_rows i lt = get_or_append_left (storage_of kinds s) (replicate conditions (replicate n (pos 0))) [] i (omega (arith, lt, rows-length kinds s 0 s.arrays))

  later_rows : (number : ℕ) → row_of (opened kinds s conditions n) (length s.arrays + number) ≡ get_or (replicate conditions (replicate n (pos 0))) number []
  later_rows number = subst (λ l. row_of (opened kinds s conditions n) (l + number) ≡ get_or (replicate conditions (replicate n (pos 0))) number []) (rows-length kinds s 0 s.arrays)
      (get_or-append-add (storage_of kinds s) (replicate conditions (replicate n (pos 0))) number [])

  pub opening : IsOpening kinds s (opened kinds s conditions n)
  opening = record {
    state = entry-state kinds s (opened kinds s conditions n) first_rows even;
    rows = λ k t. ap length (first_rows k (below k t) ∙ row-at kinds s k (below k t) ∙ if_so (has_copies (kinds k)) (scalar s k ∷ []) (array s k).elements t);
  }

  pub condition_rows : (number : ℕ) → number < conditions → (kinds (length s.arrays + number) ≡ Shared) × (length (row_of (opened kinds s conditions n) (length s.arrays + number)) ≡ n)
  condition_rows number lt = (
    by_cases (has_copies (kinds (length s.arrays + number)))
        (λ t. let z : length s.arrays + number < length s.arrays = below (length s.arrays + number) t in absurd (omega (arith, z)))
        (λ f. shared_of (kinds (length s.arrays + number)) f),
    ap length (later_rows number ∙ get_or-replicate conditions number (replicate n (pos 0)) [] lt) ∙ length-replicate n (pos 0),
  )

  zeros : (k : ℕ) → FitsSigned w64 (get_or (replicate n (pos 0)) k (pos 0))
  zeros k = ⊎_elim
      (λ lt. subst (FitsSigned w64) (sym (get_or-replicate n k (pos 0) (pos 0) lt)) zero_fits)
      (λ le. subst (FitsSigned w64) (sym (get_or_past (replicate n (pos 0)) k (pos 0) (omega (arith, le, length-replicate n (pos 0))))) zero_fits)
      (cases_lt k n)

  condition_fits : (number k : ℕ) → FitsSigned w64 (get_or (get_or (replicate conditions (replicate n (pos 0))) number []) k (pos 0))
  condition_fits number k = ⊎_elim
      (λ lt. subst (λ r. FitsSigned w64 (get_or r k (pos 0))) (sym (get_or-replicate conditions number (replicate n (pos 0)) [] lt)) (zeros k))
      (λ le. subst (λ r. FitsSigned w64 (get_or r k (pos 0))) (sym (get_or_past (replicate conditions (replicate n (pos 0))) number [] (omega (arith, le, length-replicate conditions (replicate n (pos 0)))))) zero_fits)
      (cases_lt number conditions)

  one_fits : (v : ℤ) → FitsSigned w64 v → (k : ℕ) → FitsSigned w64 (get_or (v ∷ []) k (pos 0))
  one_fits v f zero = f
  one_fits v f (suc k) = zero_fits

  pub opened_fits : IsGood kinds s → ((a k : ℕ) → FitsSigned w64 (get_or (array s a).elements k (pos 0))) → AllFit (opened kinds s conditions n)
  opened_fits good elements spot = ⊎_elim
      (λ lt. subst (λ r. FitsSigned w64 (get_or r spot.at (pos 0))) (sym (first_rows spot.row lt ∙ row-at kinds s spot.row lt)) (by_cases (has_copies (kinds spot.row))
      (λ t. subst (λ r. FitsSigned w64 (get_or r spot.at (pos 0))) (sym (if_so (has_copies (kinds spot.row)) (scalar s spot.row ∷ []) (array s spot.row).elements t)) (one_fits (scalar s spot.row) (good.fit spot.row) spot.at))
      (λ f. subst (λ r. FitsSigned w64 (get_or r spot.at (pos 0))) (sym (if_not (has_copies (kinds spot.row)) (scalar s spot.row ∷ []) (array s spot.row).elements f)) (elements spot.row spot.at))))
      (λ le. let d = difference (length s.arrays) spot.row le in
      subst (λ q. FitsSigned w64 (get_or (row_of (opened kinds s conditions n) q) spot.at (pos 0))) d.1
      (subst (λ r. FitsSigned w64 (get_or r spot.at (pos 0))) (sym (later_rows d.0)) (condition_fits d.0 spot.at)))
      (cases_lt spot.row (length s.arrays))
    where
      difference : (a b : ℕ) → a ≤ b → (d : ℕ) × (a + d ≡ b)
      difference a b le = (b - a, omega (arith, le))
