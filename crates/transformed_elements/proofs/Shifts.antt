-- How far a circular shift turns: numbers modulo the first extent.
use Rattle.std.proofs.Common.{◌≡◌, ◌⊎◌, inl, inr, ℕ, suc, ◌+◌, ◌-◌, ◌*◌, ◌/◌, ◌%◌, ◌^◌, ◌<◌, ◌≤◌, Bool, true, false, if◌then◌else◌, ℤ, pos, negsuc, ◌+ℤ◌, ◌-ℤ◌, ◌*ℤ◌, neg_ℤ, unsigned_abs, int_le, int_rem, nat_le, refl, sym, ap, ◌∙◌, arith}
use Rattle.std.proofs.Math.Nat.{mod-add-div, mod-eq_of_lt, add-mod-mod, add-mod_right, add-mul-mod_self_left}
use Rattle.std.proofs.lemmas.Bool.{cases_lt, le-ltb, leb-true, leb-false}
use Rattle.std.proofs.lemmas.Bool.Decides.{Decides-int_eq}
use Rattle.std.proofs.lemmas.Int.{ints, fits_signed_from_abs, int_rem_euclid_is, int_wrap_fits}
use Rattle.std.proofs.lemmas.Nat.{mod_below}
use Rattle.std.specs.Int.{int_rem_euclid, w64}
use Rattle.std.specs.Ordering.{int_eq}
use Rattle.op_tables.specs.Operators.{modulo, magnitude, truth, wrapped}

-- ---- numbers of 64 bits

pub small : (z : ℤ) → unsigned_abs z < 2 ^ 63 → wrapped z ≡ z
small z few = int_wrap_fits w64 z (fits_signed_from_abs w64 z few)

-- ---- the number of places

-- the number below n that is of the class of k modulo n
abbrev pub residue : ℤ → ℕ → ℕ
residue k n = unsigned_abs (int_rem_euclid k (pos n))

pub residue-below : (k : ℤ) (n : ℕ) → 0 < n → residue k n < n
residue-below (pos a) n some = mod_below a n some
residue-below (negsuc a) n some = omega (arith, some)

-- one more than a number: its remainder is one more, or 0
next-remainder : (a n : ℕ) → 0 < n → ((suc a % n ≡ 0) × (suc (a % n) ≡ n)) ⊎ (suc a % n ≡ suc (a % n))
next-remainder a n some = by_order (cases_lt (suc (a % n)) n)
  where
    parts : a % n + n * (a / n) ≡ a
    parts = mod-add-div a n

    by_order : (suc (a % n) < n) ⊎ (n ≤ suc (a % n)) → ((suc a % n ≡ 0) × (suc (a % n) ≡ n)) ⊎ (suc a % n ≡ suc (a % n))
    by_order (inl lt) =
        let whole : suc a ≡ suc (a % n) + n * (a / n) = omega (arith, parts) in
        inr (ap (λ m. m % n) whole ∙ add-mul-mod_self_left (suc (a % n)) n (a / n) ∙ mod-eq_of_lt lt)
    by_order (inr le) =
        let last : suc (a % n) ≡ n = omega (arith, le, mod_below a n some) in
        let whole : suc a ≡ 0 + n * (a / n + 1) = omega (arith, parts, last) in
        inl (ap (λ m. m % n) whole ∙ add-mul-mod_self_left 0 n (a / n + 1) ∙ mod-eq_of_lt some, last)

-- a remainder r, or one more divisor where it isn't the number z
abbrev righted : (z r n : ℤ) → ℤ
righted z r n = if int_eq z r then r else r +ℤ n

-- it is MODULO
pub modulo-is : (k : ℤ) (n : ℕ) → 0 < n → modulo k (pos n) ≡ pos (residue k n)
modulo-is k n some =
    let r = int_rem k (pos n) in
    ap (λ b. righted (if b then neg_ℤ (magnitude r) else magnitude r) r (pos n)) (le-ltb n 0 (omega arith)) ∙ by_sign k
  where
    by_remainder : (a : ℕ) → ((suc a % n ≡ 0) × (suc (a % n) ≡ n)) ⊎ (suc a % n ≡ suc (a % n))
        → righted (magnitude (neg_ℤ (pos (suc a % n)))) (neg_ℤ (pos (suc a % n))) (pos n) ≡ pos (n - 1 - a % n)
    by_remainder a (inl (none, last)) =
        let rest : 0 ≡ n - 1 - a % n = omega (arith, last) in
        ap (λ m. righted (magnitude (neg_ℤ (pos m))) (neg_ℤ (pos m)) (pos n)) none ∙ ap pos rest
    by_remainder a (inr more) =
        ap (λ m. righted (magnitude (neg_ℤ (pos m))) (neg_ℤ (pos m)) (pos n)) more ∙ (let low = mod_below a n some in omega (arith, ints, low))

    by_sign : (k : ℤ) → righted (magnitude (int_rem k (pos n))) (int_rem k (pos n)) (pos n) ≡ pos (residue k n)
    by_sign (pos a) = ap (λ b. if b then pos (a % n) else pos (a % n) +ℤ pos n) ((Decides-int_eq (pos (a % n)) (pos (a % n))).1 refl)
    by_sign (negsuc a) = by_remainder a (next-remainder a n some)

-- ---- the places

-- the place in a dimension of n that is so many places on
pub turned-place : (k : ℤ) (n q : ℕ) → q < n → unsigned_abs (int_rem_euclid (pos q +ℤ k) (pos n)) ≡ (q + residue k n) % n
turned-place (pos a) n q below = sym (add-mod-mod q a n)
turned-place (negsuc a) n q below =
    let some : 0 < n = omega (arith, below) in
    let sum : (pos q +ℤ negsuc a) +ℤ pos ((a / n + 1) * n) ≡ pos (q + (n - 1 - a % n)) = omega (arith, ints, mod-add-div a n, mod_below a n some) in
    ap unsigned_abs (int_rem_euclid_is (pos q +ℤ negsuc a) (pos n) n (a / n + 1) (q + (n - 1 - a % n)) some refl sum)

-- a number below 2n, less n where it isn't below n
less-is : (v m : ℕ) → m ≤ v → v < 2 ^ 63 → wrapped (pos v -ℤ wrapped (pos m)) ≡ pos (v - m)
less-is v m le few =
    let rest : pos v -ℤ pos m ≡ pos (v - m) = omega (arith, ints, le) in
    ap (λ z. wrapped (pos v -ℤ z)) (small (pos m) (omega (arith, le, few))) ∙ ap wrapped rest ∙ small (pos (v - m)) (omega (arith, few))

pub turned-number : (n v : ℕ) → v < n + n → n < 2 ^ 62 → wrapped (pos v -ℤ wrapped (pos n *ℤ truth (int_le (pos n) (pos v)))) ≡ pos (v % n)
turned-number n v below few = by_test (nat_le n v) refl
  where
    by_test : (b : Bool) → nat_le n v ≡ b → wrapped (pos v -ℤ wrapped (pos n *ℤ truth b)) ≡ pos (v % n)
    by_test true e =
        let le = leb-true n v e in
        let whole : pos n *ℤ pos 1 ≡ pos n = omega (arith, ints) in
        let back : v - n + n ≡ v = omega (arith, le) in
        let left : v % n ≡ v - n = ap (λ m. m % n) (sym back) ∙ add-mod_right (v - n) n ∙ mod-eq_of_lt (omega (arith, below, le)) in
        ap (λ z. wrapped (pos v -ℤ wrapped z)) whole ∙ less-is v n le (omega (arith, few, below)) ∙ ap pos (sym left)
    by_test false e =
        let lt = leb-false n v e in
        let none : pos n *ℤ pos 0 ≡ pos 0 = omega (arith, ints) in
        let left : v - 0 ≡ v % n = omega (arith, mod-eq_of_lt lt) in
        ap (λ z. wrapped (pos v -ℤ wrapped z)) none ∙ less-is v 0 (omega arith) (omega (arith, few, below)) ∙ ap pos left
