-- How many places of a table are at most a place, and the next one.
use Rattle.std.proofs.Common.{◌≡◌, ℕ, zero, suc, ◌+◌, ◌-◌, ◌*◌, ◌/◌, ◌%◌, ◌<◌, ◌≤◌, ◌⊎◌, inl, inr, nat_lt, Bool, true, false, cond, sym, ◌∙◌, ap, arith, length, map, get_or, min}
use Rattle.std.proofs.Math.Nat.{mod-add-div, mul-le-mul_left}
use Rattle.std.proofs.lemmas.Nat.{mod_below}
use Rattle.std.proofs.lemmas.Bool.{cases_lt}
use Rattle.std.proofs.lemmas.Bool.Decides.{nat_tests}
use Rattle.std.specs.Prelude.{find, Some, None, if◌then◌else◌}
use Rattle.std.specs.List.{range_with_len}
use Rattle.std.specs.List.Sorted.{IsPartitionPoint}
use Rattle.gap_table.specs.GapTable.{IsCountUpTo, GapView, IsGapTable, nth_of, next}
use Rattle.gap_table.proofs.Tables.{lt_true, lt_false}

is_less : (r m : ℕ) → r < m → nat_lt r m ≡ true
is_less r m h = grind (arith, nat_tests)

not_less : (r m : ℕ) → m ≤ r → nat_lt r m ≡ false
not_less r m h = grind (arith, nat_tests)

find-range : (f : ℕ → ℕ) (P : ℕ → Bool) (a n r : ℕ) → a ≤ r → r ≤ a + n → ((i : ℕ) → a ≤ i → i < r → P (f i) ≡ false) → ((i : ℕ) → r ≤ i → i < a + n → P (f i) ≡ true)
    → find P (map f (range_with_len a n)) ≡ (if nat_lt r (a + n) then Some (f r) else None)
find-range f P a zero r low high before after =
    let t : nat_lt r (a + zero) ≡ false = not_less r (a + zero) (omega (arith, low)) in
    sym (ap (λ b. if b then Some (f r) else None) t)
find-range f P a (suc n) r low high before after = by_case (cases_lt a r)
    (λ more. find-range f P (a + 1) n r more (omega (arith, high)) (λ i l h. before i (omega (arith, l)) h) (λ i l h. after i l (omega (arith, h))))
  where
    by_case : (a < r) ⊎ (r ≤ a) → (a + 1 ≤ r → find P (map f (range_with_len (a + 1) n)) ≡ (if nat_lt r (a + 1 + n) then Some (f r) else None))
        → cond (P (f a)) (Some (f a)) (find P (map f (range_with_len (a + 1) n))) ≡ (if nat_lt r (a + suc n) then Some (f r) else None)
    by_case (inl less) rest =
        let e : a + 1 + n ≡ a + suc n = omega arith in
        ap (λ b. cond b (Some (f a)) (find P (map f (range_with_len (a + 1) n)))) (before a (omega arith) less)
        ∙ rest (omega (arith, less)) ∙ ap (λ m. if nat_lt r m then Some (f r) else None) e
    by_case (inr here) rest =
        let e : r ≡ a = omega (arith, here, low) in
        let t : nat_lt r (a + suc n) ≡ true = is_less r (a + suc n) (omega (arith, e)) in
        ap (λ b. cond b (Some (f a)) (find P (map f (range_with_len (a + 1) n)))) (after a (omega (arith, here)) (omega arith))
        ∙ ap (λ i. Some (f i)) (sym e) ∙ sym (ap (λ b. if b then Some (f r) else None) t)

offset_upto : (base T E tau rho in_last a b off j : ℕ) → base + (rho + T * tau) ≡ j → off < T → b + E * a < tau * E + in_last → in_last ≤ E → (b < in_last → off ≤ rho)
    → base + (off + T * a) ≤ j
offset_upto base T E tau rho in_last a b off j is below less upto low = by_case (cases_lt a tau) (cases_lt tau a)
  where
    by_case : (a < tau) ⊎ (tau ≤ a) → (tau < a) ⊎ (a ≤ tau) → base + (off + T * a) ≤ j
    by_case (inl lower) _ = let turns : T * (a + 1) ≤ T * tau = mul-le-mul_left T (let e : a + 1 ≤ tau = omega (arith, lower) in e) in omega (arith, is, below, turns)
    by_case (inr _) (inl higher) =
        let turns : E * (tau + 1) ≤ E * a = mul-le-mul_left E (let e : tau + 1 ≤ a = omega (arith, higher) in e) in
        absurd (omega (arith, less, upto, turns))
    by_case (inr l) (inr h) =
        let e : a ≡ tau = omega (arith, l, h) in
        let ea : E * a ≡ E * tau = ap (λ x. E * x) e in
        let ta : T * a ≡ T * tau = ap (λ x. T * x) e in
        let off-low = low (let k : b < in_last = omega (arith, less, ea) in k) in
        omega (arith, is, off-low, ta)

offset_above : (base T E tau rho in_last a b off j : ℕ) → base + (rho + T * tau) ≡ j → rho < T → b < E → tau * E + in_last ≤ b + E * a → (in_last ≤ b → rho < off)
    → j < base + (off + T * a)
offset_above base T E tau rho in_last a b off j is below inside more high = by_case (cases_lt a tau) (cases_lt tau a)
  where
    by_case : (a < tau) ⊎ (tau ≤ a) → (tau < a) ⊎ (a ≤ tau) → j < base + (off + T * a)
    by_case (inl lower) _ = let turns : E * (a + 1) ≤ E * tau = mul-le-mul_left E (let e : a + 1 ≤ tau = omega (arith, lower) in e) in absurd (omega (arith, more, inside, turns))
    by_case (inr _) (inl higher) = let turns : T * (tau + 1) ≤ T * a = mul-le-mul_left T (let e : tau + 1 ≤ a = omega (arith, higher) in e) in omega (arith, is, below, turns)
    by_case (inr l) (inr h) =
        let e : a ≡ tau = omega (arith, l, h) in
        let ea : E * a ≡ E * tau = ap (λ x. E * x) e in
        let ta : T * a ≡ T * tau = ap (λ x. T * x) e in
        let off-high = high (let k : in_last ≤ b = omega (arith, more, ea) in k) in
        omega (arith, is, off-high, ta)

pub up_to_laws : (t : GapView) → IsGapTable t → (j in_last count : ℕ) → t.base ≤ j → in_last ≤ length t.offsets
    → IsPartitionPoint (λ x. nat_lt x ((j - t.base) % t.period + 1) ≡ true) (λ x. nat_lt x ((j - t.base) % t.period + 1) ≡ false) t.offsets in_last
    → count ≡ min ((j - t.base) / t.period * length t.offsets + in_last) t.len → IsCountUpTo t j count
up_to_laws t is j in_last count above upto point count-is = record {
  within = omega (arith, count-is);
  before = λ n less.
      let some : 0 < length t.offsets = is.filled (omega (arith, less, count-is)) in
      let inside : n % length t.offsets < length t.offsets = mod_below n (length t.offsets) some in
      offset_upto t.base t.period (length t.offsets) ((j - t.base) / t.period) ((j - t.base) % t.period) in_last (n / length t.offsets) (n % length t.offsets)
      (get_or t.offsets (n % length t.offsets) 0) j
      whole (is.below (n % length t.offsets) 0 inside) (let e = mod-add-div n (length t.offsets) in omega (arith, e, less, count-is)) upto
      (λ k. let h = lt_true _ _ (point.0 (n % length t.offsets) 0 (omega arith) k) in omega (arith, h));
  after = λ n more below.
      let some : 0 < length t.offsets = is.filled (omega (arith, below)) in
      let inside : n % length t.offsets < length t.offsets = mod_below n (length t.offsets) some in
      offset_above t.base t.period (length t.offsets) ((j - t.base) / t.period) ((j - t.base) % t.period) in_last (n / length t.offsets) (n % length t.offsets)
      (get_or t.offsets (n % length t.offsets) 0) j
      whole (mod_below (j - t.base) t.period is.some) inside (let e = mod-add-div n (length t.offsets) in omega (arith, e, more, below, count-is))
      (λ k. let h = lt_false _ _ (point.1 (n % length t.offsets) 0 k inside) in omega (arith, h));
}
  where
    whole : t.base + ((j - t.base) % t.period + t.period * ((j - t.base) / t.period)) ≡ j
    whole = let e = mod-add-div (j - t.base) t.period in omega (arith, e, above)

pub next_is : (t : GapView) (j count : ℕ) → IsCountUpTo t j count → (if nat_lt count t.len then Some (nth_of t count) else None) ≡ next t j
next_is t j count upto =
    let e : 0 + t.len ≡ t.len = omega arith in
    sym (find-range (nth_of t) (λ i. nat_lt j i) 0 t.len count (omega arith) (omega (arith, upto.within))
    (λ i low less. not_less j (nth_of t i) (upto.before i less)) (λ i more below. is_less j (nth_of t i) (upto.after i more (omega (arith, below))))
    ∙ ap (λ n. if nat_lt count n then Some (nth_of t count) else None) e)
