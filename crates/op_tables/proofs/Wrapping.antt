-- What `wrapping_div` and `wrapping_pow` of 64 bits leave of the quotient and of the power.
use Rattle.std.proofs.Common.{◌≡◌, ℕ, zero, suc, ◌*◌, ◌/◌, ◌%◌, ◌^◌, ◌≤◌, ℤ, pos, negsuc, ◌*ℤ◌, neg_ℤ, unsigned_abs, int_div, FitsSigned, to_z, of_z, w64, refl, sym, ap, ◌∙◌, arith, rules}
use Rattle.std.proofs.Math.IntN.{pos-*ℤ-negsuc, zero-*ℤ}
use Rattle.std.proofs.Math.Nat.{div-le_self, mod-eq_of_lt, mod-lt, pow-suc, pow-zero, zero-mul}
use Rattle.std.proofs.lemmas.Int.{int_wrap_fits, int_wrap-mul_left, wrapping_mul_onto}
use Rattle.std.proofs.lemmas.Nat.{mul-mod_first}
use Rattle.std.specs.Int.Signed.{nat_abs-le}
use Rattle.std.specs.Int.{int_pow, int_wrap, int_wrapping_div, int_wrapping_pow}
use Rattle.op_tables.specs.Operators.{wrapped}

-- the bits of a number of at most 2 ^ 63 in magnitude
wrapped_bits : (z : ℤ) → unsigned_abs z ≤ 2 ^ 63 → to_z w64 (of_z w64 z) ≡ wrapped z
unfolding int_wrap
wrapped_bits (pos n) h = ap (to_z w64) (sym (mod-eq_of_lt (omega arith)))
wrapped_bits (negsuc n) h = ap (to_z w64) (let e : n % 2 ^ 64 ≡ n = mod-eq_of_lt (omega arith) in omega arith)

negated_size : (n : ℕ) → unsigned_abs (neg_ℤ (pos n)) ≡ n
negated_size zero = refl
negated_size (suc n) = refl

quotient_size : (a b : ℤ) → unsigned_abs (int_div a b) ≤ unsigned_abs a
quotient_size (pos a) (pos b) = div-le_self a b
quotient_size (pos a) (negsuc b) = omega (arith, negated_size (a / suc b), div-le_self a (suc b))
quotient_size (negsuc a) (pos b) = omega (arith, negated_size (suc a / b), div-le_self (suc a) b)
quotient_size (negsuc a) (negsuc b) = div-le_self (suc a) (suc b)

pub wrapping_div_is : (a b : ℤ) → FitsSigned w64 a → int_wrapping_div w64 a b ≡ wrapped (int_div a b)
wrapping_div_is a b fits = wrapped_bits _ (omega (arith, quotient_size a b, nat_abs-le a fits.sfits))

-- one factor more
odd_power_more : (x a : ℕ) → neg_ℤ (pos x) *ℤ negsuc a ≡ pos (x * suc a)
odd_power_more zero a = zero-*ℤ (negsuc a) ∙ sym (ap pos (zero-mul (suc a)))
odd_power_more (suc x) a = refl

int_pow-zero : (a : ℤ) → int_pow a 0 ≡ pos 1
int_pow-zero (pos a) = ap pos (pow-zero a)
int_pow-zero (negsuc a) = ap pos (pow-zero (suc a))

int_pow-suc : (a : ℤ) (n : ℕ) → int_pow a (suc n) ≡ int_pow a n *ℤ a
int_pow-suc (pos a) n = ap pos (pow-suc a n)
int_pow-suc (negsuc a) n =
    let more = pow-suc (suc a) n in
    let even = pos-*ℤ-negsuc (suc a ^ n) a in
    let odd = odd_power_more (suc a ^ n) a in
    grind (arith, more, even, odd)

pub wrapping_pow_is : (a : ℤ) (n : ℕ) → FitsSigned w64 a → int_wrapping_pow w64 a n ≡ wrapped (int_pow a n)
wrapping_pow_is a zero fits =
    ap (λ x. to_z w64 (x % 2 ^ 64)) (pow-zero (of_z w64 a))
    ∙ sym (int_wrap_fits w64 (pos 1) (search rules))
    ∙ ap wrapped (sym (int_pow-zero a))
wrapping_pow_is a (suc n) fits =
    let u = of_z w64 a in
    ap (to_z w64) (ap (λ x. x % 2 ^ 64) (pow-suc u n) ∙ sym (mul-mod_first (u ^ n) u (2 ^ 64)))
    ∙ wrapping_mul_onto w64 ((u ^ n) % 2 ^ 64) a (mod-lt _ (omega arith)) fits
    ∙ ap (λ z. wrapped (z *ℤ a)) (wrapping_pow_is a n fits)
    ∙ int_wrap-mul_left w64 (int_pow a n) a
    ∙ ap wrapped (sym (int_pow-suc a n))
