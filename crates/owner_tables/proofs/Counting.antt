-- How many of the first numbers have each value of a function, with one number more.
use Rattle.std.proofs.Common.{◌≡◌, ℕ, ◌+◌, ◌<◌, ◌≤◌, Bool, ◌==◌, cond, List, [], ◌∷◌, get_or, set, length, map, filter, refl, sym, ◌∙◌, ap, arith, eq-eqb}
use Rattle.std.proofs.lemmas.Bool.{ne_eqb}
use Rattle.std.proofs.lemmas.List.{length-append}
use Rattle.std.proofs.lemmas.List.FromFn.{get_or-map-range_with_len, length-range_with_len}
use Rattle.std.proofs.lemmas.List.Sums.{count_by-le-length, length-filter}
use Rattle.std.specs.List.{range_with_len}
use Rattle.owner_tables.proofs.Ranges.{filter-range_push, set-range}

abbrev pub count : (ℕ → ℕ) → ℕ → ℕ → ℕ
count f n c = length (filter (λ k. f k == c) (range_with_len 0 n))

pub count-push : (P : ℕ → Bool) (n : ℕ) → length (filter P (range_with_len 0 (n + 1))) ≡ length (filter P (range_with_len 0 n)) + length (filter P (n ∷ []))
count-push P n =
    ap length (sym (filter-range_push P (filter P (range_with_len 0 n)) _ n refl refl)) ∙ length-append (filter P (range_with_len 0 n)) (filter P (n ∷ []))

pub count-few : (P : ℕ → Bool) (n : ℕ) → length (filter P (range_with_len 0 n)) ≤ n
count-few P n = omega (arith, length-filter P (range_with_len 0 n), count_by-le-length P (range_with_len 0 n), length-range_with_len 0 n)

module _ (f : ℕ → ℕ) (values at : ℕ) (within : f at < values) (counts : List ℕ) (is : counts ≡ map (count f at) (range_with_len 0 values)) where
  pub count-here : get_or counts (f at) 0 ≡ count f at (f at)
  count-here = ap (λ l. get_or l (f at) 0) is ∙ get_or-map-range_with_len (count f at) 0 values (f at) (f at) 0 within (omega arith)

  counted : count f (at + 1) (f at) ≡ get_or counts (f at) 0 + 1
  counted =
      let one : length (filter (λ k. f k == f at) (at ∷ [])) ≡ 1 = ap (λ b. length (cond b (at ∷ []) [])) (eq-eqb (f at) (f at) refl) in
      omega (arith, count-push (λ k. f k == f at) at, one, count-here)

  others : (c : ℕ) → (c ≡ f at → ⊥) → count f at c ≡ count f (at + 1) c
  others c other =
      let none : length (filter (λ k. f k == c) (at ∷ [])) ≡ 0 = ap (λ b. length (cond b (at ∷ []) [])) (ne_eqb (f at) c (λ e. other (sym e))) in
      omega (arith, count-push (λ k. f k == c) at, none)

  pub counts-next : set counts (f at) (get_or counts (f at) 0 + 1) ≡ map (count f (at + 1)) (range_with_len 0 values)
  counts-next =
      ap (λ l. set l (f at) (get_or counts (f at) 0 + 1)) is
      ∙ set-range (count f at) (count f (at + 1)) 0 values (f at) (f at) (get_or counts (f at) 0 + 1) (omega arith) within counted others
