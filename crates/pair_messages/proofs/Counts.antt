-- Products that end at the greatest number of 64 bits.
use Rattle.std.proofs.Common.{◌≡◌, ℕ, zero, suc, ◌+◌, ◌-◌, ◌*◌, ◌^◌, ◌<◌, ◌≤◌, List, drop, length, get_or, sym, ap, ◌∙◌, ⊎_elim, arith}
use Rattle.std.specs.Prelude.{min}
use Rattle.std.proofs.Math.Nat.{min-eq_left, min-eq_right, mul-one, mul-zero}
use Rattle.std.proofs.Math.ListN.{drop_of_length-le}
use Rattle.std.proofs.lemmas.Bool.{cases_lt}
use Rattle.hpf_base.specs.ElementOrder.{product}
use Rattle.hpf_base.proofs.ElementOrder.{product-drop_more}
use Rattle.pair_messages.specs.Counts.{saturated}

at-most : (n c : ℕ) → n ≤ n * suc c
at-most n c = omega arith

min-times : (n c m : ℕ) → min (min n m * c) m ≡ min (n * c) m
min-times n zero m = ap (λ k. min k m) (mul-zero (min n m) ∙ sym (mul-zero n))
min-times n (suc c) m = ⊎_elim
    (λ lt. ap (λ k. min (k * suc c) m) (min-eq_left (let le : n ≤ m = omega (arith, lt) in le)))
    (λ le. ap (λ k. min (k * suc c) m) (min-eq_right le)
    ∙ min-eq_right (at-most m c)
    ∙ sym (min-eq_right (let more : m ≤ n * suc c = omega (arith, le, at-most n c) in more)))
    (cases_lt n m)

-- one factor more
pub count_next : (ns : List ℕ) (k n m : ℕ) → k < length ns → m ≡ saturated (n * get_or ns k 0)
    → saturated (m * product (drop (k + 1) ns)) ≡ saturated (n * product (drop k ns))
count_next ns k n m within is =
    ap (λ c. saturated (c * product (drop (k + 1) ns))) is
    ∙ min-times (n * get_or ns k 0) (product (drop (k + 1) ns)) (2 ^ 64 - 1)
    ∙ ap saturated (sym (product-drop_more ns n k within))

pub count_all : (ns : List ℕ) (k n whole : ℕ) → length ns ≤ k → n ≤ 2 ^ 64 - 1 → saturated (n * product (drop k ns)) ≡ whole → n ≡ whole
count_all ns k n whole end small so_far =
    sym (min-eq_left small) ∙ ap saturated (sym (mul-one n)) ∙ ap (λ l. saturated (n * product l)) (sym (drop_of_length-le ns end)) ∙ so_far

-- a product that isn't too great
pub few-counted : (n : ℕ) → n ≤ 2 ^ 32 → saturated n ≡ n
few-counted n few = min-eq_left (let small : n ≤ 2 ^ 64 - 1 = omega (arith, few) in small)
