-- The offsets of a period, put in order.
use Rattle.std.proofs.Common.{◌≡◌, ℕ, ◌+◌, ◌-◌, ◌*◌, ◌/◌, ◌%◌, ◌<◌, ◌≤◌, ◌⊎◌, inl, inr, ◌==◌, Bool, List, sym, ◌∙◌, ap, subst, arith, map, eq-eqb}
use Rattle.std.proofs.Math.Nat.{mod-mod, mod-add-mod, mul-le-mul_right}
use Rattle.std.proofs.lemmas.Bool.{eqb-true, cases_lt}
use Rattle.std.proofs.Math.Dec.{eqb}
use Rattle.std.specs.List.{dedup}
use Rattle.std.proofs.lemmas.List.Sorted.{Contains-permutation, IsPermutation-sym}
use Rattle.std.proofs.lemmas.List.Kept.{Contains-from_dedup, Contains-dedup_nat}
use Rattle.std.specs.Prelude.{filter}
use Rattle.std.specs.List.{range_with_len}
use Rattle.std.specs.List.Sorted.{IsStrictlyIncreasing, IsPermutation}
use Rattle.mappings.specs.declared.mapping.Form.TheVariants.{Cyclic}
use Rattle.mappings.specs.Owner.{coordinate_under}
use Rattle.congruences.specs.Naturals.{IsInverse}
use Rattle.gap_table.proofs.Residues.{residues}
use Rattle.gap_table.proofs.AscendingLists.{In, one_list, rising-from, filter-rising, in-filter, filter-in, in-map_range, map_range-in, in-contains, contains-in}

-- the first offset, and the next one
pub first_offset : (x t u : ℕ) → x % t ≡ (x % t + 0 * u) % t
first_offset x t u = let e : x % t + 0 * u ≡ x % t = omega arith in sym (ap (λ y. y % t) e ∙ mod-mod x t)

pub next_offset : (o first n u t : ℕ) → o ≡ (first + n * u) % t → (o + u) % t ≡ (first + (n + 1) * u) % t
next_offset o first n u t is =
    let e : first + n * u + u ≡ first + (n + 1) * u = omega arith in
    ap (λ x. (x + u) % t) is ∙ mod-add-mod (first + n * u) t u ∙ ap (λ x. x % t) e

-- in order they are the places that a filter of the period gives
pub offsets_filtered : (k procs q start d g t u n first : ℕ) (offsets : List ℕ) → 1 ≤ k → q < procs → 1 ≤ start → 0 < t → IsInverse d (k * procs) g t u
    → first ≡ (t - ((start + k * procs) - (q * k + 1)) / g * u % t) % t
    → k ≤ ((start + k * procs) - (q * k + 1)) % g + n * g → ((i : ℕ) → i < n → ((start + k * procs) - (q * k + 1)) % g + i * g < k)
    → IsStrictlyIncreasing offsets
    → ((j : ℕ) → In j offsets → In j (map (λ i. (first + i * u) % t) (range_with_len 0 n)))
    → ((j : ℕ) → In j (map (λ i. (first + i * u) % t) (range_with_len 0 n)) → In j offsets)
    → offsets ≡ filter (λ j. coordinate_under (Cyclic k) procs (start + d * j) == q) (range_with_len 0 t)
offsets_filtered k procs q start d g t u n first offsets some inside begins period is is-first ends each rises to from =
    one_list 0 offsets (filter owned (range_with_len 0 t)) (rising-from 0 offsets rises (λ h. omega arith)) (filter-rising owned 0 t) forth back
  where
    owned : ℕ → Bool
    owned j = coordinate_under (Cyclic k) procs (start + d * j) == q

    distance : ℕ
    distance = (start + k * procs) - (q * k + 1)

    place : ℕ → ℕ
    place i = (first + i * u) % t

    at_first : (i : ℕ) → place i ≡ ((t - distance / g * u % t) % t + i * u) % t
    at_first i = ap (λ f. (f + i * u) % t) is-first

    forth : (j : ℕ) → In j offsets → In j (filter owned (range_with_len 0 t))
    forth j i =
        let at = in-map_range place 0 n j (to j i) in
        let b = at.2 in
        let solved = (residues k procs q start d g t u some inside begins is j).1 (at.0, each at.0 (omega (arith, b)), at.3 ∙ at_first at.0) in
        let c = solved.0 in
        filter-in owned 0 t j (omega arith) (omega (arith, c)) (eq-eqb _ _ solved.1)

    back : (j : ℕ) → In j (filter owned (range_with_len 0 t)) → In j offsets
    back j i =
        let at = in-filter owned 0 t j i in
        let b = at.1 in
        let led = (residues k procs q start d g t u some inside begins is j).0 (omega (arith, b), eqb-true _ _ at.2) in
        let below : distance % g + led.0 * g < k = led.1 in
        from j (subst (λ x. In x (map place (range_with_len 0 n))) (sym (led.2 ∙ sym (at_first led.0))) (map_range-in place 0 n led.0 (omega arith) (fewer led.0 below)))
      where
        fewer : (i : ℕ) → distance % g + i * g < k → i < 0 + n
        fewer i below = by_case (cases_lt i n)
          where
            by_case : (i < n) ⊎ (n ≤ i) → i < 0 + n
            by_case (inl h) = omega (arith, h)
            by_case (inr h) = let more : n * g ≤ i * g = mul-le-mul_right g h in absurd (omega (arith, more, below, ends))

-- the list that was sorted, of which repetitions were dropped
pub in_sorted : (xs ys zs : List ℕ) → IsPermutation xs ys → zs ≡ dedup eqb ys → (j : ℕ) → In j zs → In j xs
in_sorted xs ys zs p is j i =
    contains-in j xs (Contains-permutation ys xs j (IsPermutation-sym xs ys p) (Contains-from_dedup eqb ys j (in-contains j (dedup eqb ys) (subst (λ l. In j l) is i))))

pub sorted_in : (xs ys zs : List ℕ) → IsPermutation xs ys → zs ≡ dedup eqb ys → (j : ℕ) → In j xs → In j zs
sorted_in xs ys zs p is j i =
    subst (λ l. In j l) (sym is) (contains-in j (dedup eqb ys) (Contains-dedup_nat ys j (Contains-permutation xs ys j p (in-contains j xs i))))
