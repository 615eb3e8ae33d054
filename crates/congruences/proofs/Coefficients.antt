-- The coefficients that give a greatest common divisor, and what the code's products and quotients are.
use Rattle.std.proofs.Common.{◌≡◌, ℕ, zero, suc, ℤ, pos, negsuc, ◌+ℤ◌, ◌-ℤ◌, ◌*ℤ◌, neg_ℤ, unsigned_abs, ◌+◌, ◌-◌}
use Rattle.std.proofs.Common.{◌*◌, ◌/◌, ◌%◌, ◌<◌, ◌≤◌, refl, sym, ◌∙◌, ap, subst, arith, FitsSigned, of_z, to_z, min}
use Rattle.std.proofs.Math.Nat.{add-mul-mod_self_left, mul-mod_right, div-le_self, mul-le-mul, le_of_mul-le-mul_left}
use Rattle.std.proofs.Math.Facts.{to_z_pos}
use Rattle.std.proofs.Math.IntN.{*ℤ_comm}
use Rattle.std.proofs.lemmas.Int.{ints, quot-rem, fits_signed_from_abs, fits_signed_mul, to_z-of_z, unsigned_abs-mul}
use Rattle.std.proofs.lemmas.Nat.Gcd.{IsGcd-from_zero}
use Rattle.std.specs.Int.{IsGcd, int_signum, w128}
use Rattle.std.specs.Prelude.{int_div, int_rem}
use Rattle.congruences.specs.Naturals.{AreCongruentNaturals, IsInverse}
use Rattle.congruences.specs.Bezout.{IsBezout}
use Rattle.congruences.specs.Congruences.{AreCongruent, residue_of}
use Rattle.congruences.proofs.Divisors.{gcd_by_residue, gcd_of_inverse}
use Rattle.congruences.proofs.Remainders.{residue, scaled}

pub scaled_residue : (a : ℤ) (n x g : ℕ) → 0 < n → AreCongruentNaturals n (residue_of a n * x) g → AreCongruent n (a *ℤ pos x) (pos g)
scaled_residue a n x g some (s, t, same) =
    let f = residue a n some in
    let h = scaled a (residue_of a n) n x f.0 f.1 f.2 in
    let left_is : n * (f.0 * x + s) ≡ n * (f.0 * x) + n * s = omega arith in
    let right_is : n * (f.1 * x + t) ≡ n * (f.1 * x) + n * t = omega arith in (
      f.0 * x + s,
      f.1 * x + t,
      ap (λ k. (a *ℤ pos x) +ℤ pos k) left_is
          ∙ plain (a *ℤ pos x) (residue_of a n * x) (n * s) (n * t) (n * (f.0 * x)) (n * (f.1 * x)) same h ∙ sym (ap (λ k. pos g +ℤ pos k) right_is),
    )
  where
    plain : (z : ℤ) (p s t u v : ℕ) → p + s ≡ g + t → z +ℤ pos u ≡ pos p +ℤ pos v → z +ℤ pos (u + s) ≡ pos g +ℤ pos (v + t)
    plain z p s t u v e h = omega (arith, ints, e, h)

nothing_left : (z : ℤ) (n s t : ℕ) → z +ℤ pos (n * t) ≡ pos (n * s) → unsigned_abs z % n ≡ 0
nothing_left (pos m) n s t h =
    let e : m + n * t ≡ n * s = omega (arith, ints, h) in
    sym (add-mul-mod_self_left m n t) ∙ ap (λ x. x % n) e ∙ mul-mod_right n s
nothing_left (negsuc m) n s t h =
    let e : suc m + n * s ≡ n * t = omega (arith, ints, h) in
    sym (add-mul-mod_self_left (suc m) n s) ∙ ap (λ x. x % n) e ∙ mul-mod_right n t

no_remainder : (z b : ℤ) → unsigned_abs z % unsigned_abs b ≡ 0 → int_rem z b ≡ pos 0
no_remainder (pos m) b h = ap pos h
no_remainder (negsuc m) b h = ap (λ n. neg_ℤ (pos n)) h

exact : (z b : ℤ) → unsigned_abs z % unsigned_abs b ≡ 0 → int_div z b *ℤ b ≡ z
exact z b h = plain (int_div z b *ℤ b) (int_rem z b) (quot-rem z b) (no_remainder z b h)
  where
    plain : (y r : ℤ) → y +ℤ r ≡ z → r ≡ pos 0 → y ≡ z
    plain y r e f = omega (arith, ints, e, f)

-- the second coefficient
pub second_coefficient : (p b : ℤ) (g : ℕ) → AreCongruent (unsigned_abs b) p (pos g) → p +ℤ (b *ℤ int_div (pos g -ℤ p) b) ≡ pos g
second_coefficient p b g (s, t, same) =
    plain (b *ℤ int_div (pos g -ℤ p) b) (*ℤ_comm b (int_div (pos g -ℤ p) b)
    ∙ exact (pos g -ℤ p) b (nothing_left (pos g -ℤ p) (unsigned_abs b) s t (moved (unsigned_abs b * s) (unsigned_abs b * t) same)))
  where
    moved : (s t : ℕ) → p +ℤ pos s ≡ pos g +ℤ pos t → (pos g -ℤ p) +ℤ pos t ≡ pos s
    moved s t e = omega (arith, ints, e)

    plain : (y : ℤ) → y ≡ pos g -ℤ p → p +ℤ y ≡ pos g
    plain y e = omega (arith, ints, e)

negated_size : (n : ℕ) → unsigned_abs (neg_ℤ (pos n)) ≡ n
negated_size zero = refl
negated_size (suc n) = refl

quotient_size : (a b : ℤ) → unsigned_abs (int_div a b) ≤ unsigned_abs a
quotient_size (pos a) (pos b) = div-le_self a b
quotient_size (pos a) (negsuc b) = omega (arith, negated_size (a / suc b), div-le_self a (suc b))
quotient_size (negsuc a) (pos b) = omega (arith, negated_size (suc a / b), div-le_self (suc a) b)
quotient_size (negsuc a) (negsuc b) = div-le_self (suc a) (suc b)

pub quotient_fits : (a b : ℤ) → unsigned_abs a ≤ 2 * 4611686018427387904 * 4611686018427387904 → FitsSigned w128 (int_div a b)
quotient_fits a b most =
    let q : unsigned_abs (int_div a b) ≤ unsigned_abs a = quotient_size a b in
    fits_signed_from_abs w128 (int_div a b) (omega (arith, q, most))

pub nonzero : (z : ℤ) → FitsSigned w128 z → (z ≡ pos 0 → ⊥) → 0 < of_z w128 z
nonzero (pos zero) fits some = absurd (some refl)
nonzero (pos (suc n)) fits some = omega arith
nonzero (negsuc n) fits some = let f = fits.sfits in omega (arith, f)

pub by_sign : (a : ℤ) → (a *ℤ int_signum a) ≡ pos (unsigned_abs a)
by_sign (pos zero) = refl
by_sign (pos (suc n)) = ap (λ k. pos (suc n * k)) (let e : min (suc n) 1 ≡ 1 = omega arith in e) ∙ ap pos (let e : suc n * 1 ≡ suc n = omega arith in e)
by_sign (negsuc n) = omega (arith, ints)

pub product_is : (a x : ℤ) → FitsSigned w128 a → FitsSigned w128 x → unsigned_abs a ≤ 4611686018427387904 → unsigned_abs x ≤ 4611686018427387904
    → to_z w128 (of_z w128 (to_z w128 (of_z w128 a) *ℤ to_z w128 (of_z w128 x))) ≡ a *ℤ x
product_is a x f g p q =
    (λ i. to_z w128 (of_z w128 (to_z-of_z w128 a f i *ℤ to_z-of_z w128 x g i)))
    ∙ to_z-of_z w128 (a *ℤ x) (fits_signed_mul w128 a x 4611686018427387904 4611686018427387904 p q (omega arith))

pub product_small : (a x : ℤ) → unsigned_abs a ≤ 4611686018427387904 → unsigned_abs x ≤ 4611686018427387904
    → unsigned_abs (a *ℤ x) ≤ 4611686018427387904 * 4611686018427387904
product_small a x p q = subst (λ n. n ≤ 4611686018427387904 * 4611686018427387904) (sym (unsigned_abs-mul a x)) (mul-le-mul p q)

pub alone_is : (a g x : ℤ) → unsigned_abs a ≤ 4611686018427387904 → g ≡ pos (unsigned_abs a) → x ≡ int_signum a
    → IsBezout a (pos 0) (record { g = to_z w128 (of_z w128 g); x = to_z w128 (of_z w128 x); y = pos 0 })
alone_is a g x small g-is x-is =
    let there : to_z w128 (of_z w128 g) ≡ pos (unsigned_abs a) =
    ap (λ z. to_z w128 (of_z w128 z)) g-is ∙ to_z-of_z w128 (pos (unsigned_abs a)) (record { sfits = omega (arith, small) }) in
    let sign : to_z w128 (of_z w128 x) ≡ int_signum a = ap (λ z. to_z w128 (of_z w128 z)) x-is ∙ to_z-of_z w128 (int_signum a) (sign_fits a) in
    (unsigned_abs a, there, IsGcd-from_zero (unsigned_abs a) 0 refl, ap (λ z. (a *ℤ z) +ℤ pos 0) sign ∙ plain (a *ℤ int_signum a) (by_sign a) ∙ sym there)
  where
    plain : (z : ℤ) → z ≡ pos (unsigned_abs a) → z +ℤ pos 0 ≡ pos (unsigned_abs a)
    plain z e = omega (arith, ints, e)

    sign_fits : (z : ℤ) → FitsSigned w128 (int_signum z)
    sign_fits (pos n) = record { sfits = omega arith }
    sign_fits (negsuc n) = record { sfits = omega arith }

pub bezout_in_code : (a b y : ℤ) (modulus f g t u : ℕ) → modulus ≡ unsigned_abs b → 0 < modulus → modulus ≤ 4611686018427387904 → f ≡ residue_of a modulus
    → IsInverse f modulus g t u → g ≤ modulus → u < modulus → y ≡ int_div (to_z w128 g -ℤ (a *ℤ to_z w128 u)) b
    → IsBezout a b (record { g = to_z w128 g; x = to_z w128 u; y = y })
bezout_in_code a b y modulus f g t u same some small f-is is g-most u-most y-is =
    let there : to_z w128 g ≡ pos g = to_z_pos w128 (omega (arith, g-most, small)) in
    let number : to_z w128 u ≡ pos u = to_z_pos w128 (omega (arith, u-most, small)) in
    let is' : IsInverse (residue_of a modulus) modulus g t u = subst (λ n. IsInverse n modulus g t u) f-is is in
    let gcd = gcd_by_residue a modulus g some (gcd_of_inverse (residue_of a modulus) modulus g t u is') in
    let near = subst (λ n. AreCongruent n (a *ℤ pos u) (pos g)) same (scaled_residue a modulus u g some is'.inverse) in
    let sum = second_coefficient (a *ℤ pos u) b g near in (
      g,
      there,
      subst (λ n. IsGcd (unsigned_abs a) n g) same gcd,
      ap (λ z. (a *ℤ to_z w128 u) +ℤ (b *ℤ z)) y-is ∙ (λ i. (a *ℤ number i) +ℤ (b *ℤ int_div (there i -ℤ (a *ℤ number i)) b)) ∙ sum ∙ sym there,
    )

sign_size : (a : ℤ) → unsigned_abs (int_signum a) ≤ 1
sign_size (pos n) = omega arith
sign_size (negsuc n) = omega arith

pub sign_small : (a x : ℤ) → x ≡ int_signum a → unsigned_abs (to_z w128 (of_z w128 x)) ≤ 1
sign_small a x e =
    let small : unsigned_abs x ≤ 1 = subst (λ z. unsigned_abs z ≤ 1) (sym e) (sign_size a) in
    subst (λ z. unsigned_abs z ≤ 1) (sym (to_z-of_z w128 x (fits_signed_from_abs w128 x (omega (arith, small))))) small

rest_size : (p z : ℤ) (g : ℕ) → p +ℤ z ≡ pos g → unsigned_abs z ≤ g + unsigned_abs p
rest_size (pos m) (pos n) g e = omega (arith, ints, e)
rest_size (pos m) (negsuc n) g e = omega (arith, ints, e)
rest_size (negsuc m) (pos n) g e = omega (arith, ints, e)
rest_size (negsuc m) (negsuc n) g e = omega (arith, ints, e)

-- the second coefficient is no greater than the first number may be
pub second_small : (a b x y : ℤ) (g : ℕ) → (a *ℤ x) +ℤ (b *ℤ y) ≡ pos g → unsigned_abs a ≤ 4611686018427387904 → unsigned_abs b ≤ 4611686018427387904
    → g ≤ unsigned_abs b → unsigned_abs x < unsigned_abs b → unsigned_abs y ≤ 4611686018427387904
second_small a b x y g e a-small b-small g-small x-small =
    let rest : unsigned_abs (b *ℤ y) ≤ g + unsigned_abs (a *ℤ x) = rest_size (a *ℤ x) (b *ℤ y) g e in
    let first : unsigned_abs a * unsigned_abs x ≤ 4611686018427387904 * (unsigned_abs b - 1) =
    mul-le-mul a-small (let w : unsigned_abs x ≤ unsigned_abs b - 1 = omega (arith, x-small) in w) in
    let times : unsigned_abs b * unsigned_abs y ≤ unsigned_abs b * 4611686018427387904 =
    omega (arith, rest, first, unsigned_abs-mul a x, unsigned_abs-mul b y, b-small, g-small, x-small) in
    le_of_mul-le-mul_left times (omega (arith, x-small))

module _ (a b y : ℤ) (modulus f g t u : ℕ) (same : modulus ≡ unsigned_abs b) (some : 0 < modulus) (small : modulus ≤ 4611686018427387904) (u-most : u < modulus) where
  pub first_in_code : unsigned_abs (to_z w128 u) ≤ 4611686018427387904
  first_in_code =
      let number : to_z w128 u ≡ pos u = to_z_pos w128 (omega (arith, u-most, small)) in
      subst (λ z. unsigned_abs z ≤ 4611686018427387904) (sym number) (omega (arith, u-most, small))

  pub second_in_code : unsigned_abs a ≤ 4611686018427387904 → f ≡ residue_of a modulus → IsInverse f modulus g t u → g ≤ modulus
      → y ≡ int_div (to_z w128 g -ℤ (a *ℤ to_z w128 u)) b → unsigned_abs y ≤ 4611686018427387904
  second_in_code a-small f-is is g-most y-is =
      let there : to_z w128 g ≡ pos g = to_z_pos w128 (omega (arith, g-most, small)) in
      let number : to_z w128 u ≡ pos u = to_z_pos w128 (omega (arith, u-most, small)) in
      let sum = (bezout_in_code a b y modulus f g t u same some small f-is is g-most u-most y-is).3 in
      second_small a b (to_z w128 u) y g (sum ∙ there) a-small (omega (arith, same, small)) (omega (arith, same, g-most))
      (subst (λ z. unsigned_abs z < unsigned_abs b) (sym number) (omega (arith, same, u-most)))
