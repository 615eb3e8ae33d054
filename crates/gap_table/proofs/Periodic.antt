-- What passes a test that repeats.
use Rattle.std.proofs.Common.{◌≡◌, ℕ, zero, suc, ◌+◌, ◌-◌, ◌*◌, ◌/◌, ◌%◌, ◌<◌, ◌≤◌, ◌⊎◌, inl, inr, Bool, List, [], ◌++◌, refl, sym, ◌∙◌, ap, arith, length, length-append, map, get_or}
use Rattle.std.proofs.Math.ListN.{get_or-append}
use Rattle.std.proofs.Math.Nat.{mod-eq_of_lt, div-eq_of_lt, add-div_left, add-mod_left}
use Rattle.std.proofs.lemmas.Grind.{same_number_lists}
use Rattle.std.proofs.lemmas.List.{append-nil, get_or-map, length-map, map-append}
use Rattle.std.proofs.lemmas.Bool.{cases_lt}
use Rattle.std.proofs.lemmas.List.Elements.{filter-append}
use Rattle.std.proofs.lemmas.List.FromFn.{length-map-range_with_len, get_or-map-range_with_len}
use Rattle.std.specs.Prelude.{filter}
use Rattle.std.specs.List.{range_with_len}
use Rattle.hpf_base.proofs.Ranges.{range_with_len-add}
use Rattle.distribution.proofs.Repeats.{filter-shifted}
use Rattle.gap_table.specs.GapTable.{place_at}

-- the first places of a table are its offsets
first_places : (T : ℕ) (xs ys : List ℕ) → map (place_at 0 T (xs ++ ys)) (range_with_len 0 (length xs)) ≡ xs
first_places T xs ys = same_number_lists _ _ (length-map-range_with_len (place_at 0 T (xs ++ ys)) 0 (length xs)) (λ k below.
    let inside : k < length xs = omega (arith, length-map-range_with_len (place_at 0 T (xs ++ ys)) 0 (length xs)) in
    let whole : k < length (xs ++ ys) = omega (arith, length-append xs ys) in
    get_or-map-range_with_len (place_at 0 T (xs ++ ys)) 0 (length xs) k k 0 inside (omega arith)
    ∙ at k inside whole)
  where
    at : (k : ℕ) → k < length xs → k < length (xs ++ ys) → place_at 0 T (xs ++ ys) k ≡ get_or xs k 0
    at k inside whole =
        let m : k % length (xs ++ ys) ≡ k = mod-eq_of_lt whole in
        let d : k / length (xs ++ ys) ≡ 0 = div-eq_of_lt whole in
        let front : get_or (xs ++ ys) k 0 ≡ get_or xs k 0 = get_or-append xs ys 0 k inside in
        rw (m, d) (omega (arith, front))

-- a range in two parts, filtered
pub split : (P : ℕ → Bool) (r T : ℕ) → r ≤ T → filter P (range_with_len 0 T) ≡ filter P (range_with_len 0 r) ++ filter P (range_with_len (0 + r) (T - r))
split P r T below =
    let e : T ≡ r + (T - r) = omega arith in
    ap (λ n. filter P (range_with_len 0 n)) e ∙ ap (filter P) (range_with_len-add 0 r (T - r)) ∙ filter-append P (range_with_len 0 r) (range_with_len (0 + r) (T - r))

-- the places a period further
places_shifted : (T : ℕ) (os : List ℕ) (l : ℕ) → (length os ≡ 0 → l ≡ 0)
    → map (place_at 0 T os) (range_with_len (length os) l) ≡ map (λ j. j + T) (map (place_at 0 T os) (range_with_len 0 l))
places_shifted T os l none = same_number_lists _ _ (long ∙ sym long') (λ k below.
    let inside : k < l = omega (arith, long, below) in
    let inside' : k < length (map (place_at 0 T os) (range_with_len 0 l)) = omega (arith, inside, length-map-range_with_len (place_at 0 T os) 0 l) in
    get_or-map-range_with_len (place_at 0 T os) (length os) l k (length os + k) 0 inside refl
    ∙ at k (some k inside)
    ∙ sym (get_or-map (λ j. j + T) (map (place_at 0 T os) (range_with_len 0 l)) k 0 0 inside' ∙ ap (λ x. x + T)
    (get_or-map-range_with_len (place_at 0 T os) 0 l k k 0 inside (omega arith))))
  where
    long : length (map (place_at 0 T os) (range_with_len (length os) l)) ≡ l
    long = length-map-range_with_len (place_at 0 T os) (length os) l

    long' : length (map (λ j. j + T) (map (place_at 0 T os) (range_with_len 0 l))) ≡ l
    long' = length-map (map (place_at 0 T os) (range_with_len 0 l)) (λ j. j + T) ∙ length-map-range_with_len (place_at 0 T os) 0 l

    some : (k : ℕ) → k < l → 0 < length os
    some k inside = by_case (cases_lt 0 (length os))
      where
        by_case : (0 < length os) ⊎ (length os ≤ 0) → 0 < length os
        by_case (inl h) = h
        by_case (inr h) = let e : length os ≡ 0 = omega (arith, h) in let z = none e in absurd (omega (arith, z, inside))

    at : (k : ℕ) → 0 < length os → place_at 0 T os (length os + k) ≡ place_at 0 T os k + T
    at k some =
        let m : (length os + k) % length os ≡ k % length os = add-mod_left (length os) k in
        let d : (length os + k) / length os ≡ k / length os + 1 = add-div_left k some in
        rw (m, d) (omega arith)

pub filter-periodic-step : (P : ℕ → Bool) (T : ℕ) → ((j : ℕ) → P (j + T) ≡ P j) → (q r : ℕ) → r ≤ T → (os : List ℕ) → os ≡ filter P (range_with_len 0 T)
    → filter P (range_with_len 0 (q * T + r)) ≡ map (place_at 0 T os) (range_with_len 0 (q * length os + length (filter P (range_with_len 0 r))))
filter-periodic-step P T repeats zero r below os is =
    let r-is : zero * T + r ≡ r = omega arith in
    let l-is : zero * length os + length (filter P (range_with_len 0 r)) ≡ length (filter P (range_with_len 0 r)) = omega arith in
    let parts : os ≡ filter P (range_with_len 0 r) ++ filter P (range_with_len (0 + r) (T - r)) = is ∙ split P r T below in
    ap (λ n. filter P (range_with_len 0 n)) r-is
    ∙ sym (first_places T (filter P (range_with_len 0 r)) (filter P (range_with_len (0 + r) (T - r))))
    ∙ ap (λ os. map (place_at 0 T os) (range_with_len 0 (length (filter P (range_with_len 0 r))))) (sym parts)
    ∙ ap (λ n. map (place_at 0 T os) (range_with_len 0 n)) (sym l-is)
filter-periodic-step P T repeats (suc q) r below os is =
    let l = q * length os + length (filter P (range_with_len 0 r)) in
    let n-is : suc q * T + r ≡ T + (q * T + r) = omega arith in
    let l-is : suc q * length os + length (filter P (range_with_len 0 r)) ≡ length os + l = omega arith in
    let none : length os ≡ 0 → l ≡ 0 = λ e. none_of e in
    ap (λ n. filter P (range_with_len 0 n)) n-is
    ∙ ap (filter P) (range_with_len-add 0 T (q * T + r)) ∙ filter-append P (range_with_len 0 T) (range_with_len (0 + T) (q * T + r))
    ∙ ap (λ ys. ys ++ filter P (range_with_len (0 + T) (q * T + r))) (sym is)
    ∙ ap (λ ys. os ++ ys) (filter-shifted P T 0 (λ j low. repeats j) 0 (q * T + r) (omega arith) ∙ ap (map (λ j. j + T)) (filter-periodic-step P T repeats q r below os is) ∙ sym (places_shifted T os l none))
    ∙ ap (λ xs. xs ++ map (place_at 0 T os) (range_with_len (length os) l))
    (sym (first_places T os []) ∙ ap (λ o. map (place_at 0 T o) (range_with_len 0 (length os))) (append-nil os))
    ∙ sym (map-append (place_at 0 T os) (range_with_len 0 (length os)) (range_with_len (length os) l))
    ∙ ap (map (place_at 0 T os)) (ap (λ a. range_with_len 0 (length os) ++ range_with_len a l) (let e : length os ≡ 0 + length os = omega arith in e) ∙ sym
    (range_with_len-add 0 (length os) l))
    ∙ ap (λ n. map (place_at 0 T os) (range_with_len 0 n)) (sym l-is)
  where
    none_of : length os ≡ 0 → q * length os + length (filter P (range_with_len 0 r)) ≡ 0
    none_of e =
        let whole = length-append (filter P (range_with_len 0 r)) (filter P (range_with_len (0 + r) (T - r))) in
        let long : length os ≡ length (filter P (range_with_len 0 r) ++ filter P (range_with_len (0 + r) (T - r))) = ap length (is ∙ split P r T below) in
        rw e (omega (arith, whole, long, e))
