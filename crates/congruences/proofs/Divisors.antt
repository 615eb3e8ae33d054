-- The greatest common divisor of an integer and a modulus, by what remains of the integer, and whether it divides the right side.
use Rattle.std.proofs.Common.{◌≡◌, ℕ, suc, ℤ, pos, negsuc, unsigned_abs, ◌+◌, ◌-◌, ◌*◌, ◌/◌, ◌%◌, ◌<◌, sym, subst, arith}
use Rattle.std.proofs.Math.Nat.{mod-add-div, dvd-add, dvd-add_iff_left, dvd-add_iff_right, dvd-mul_right, dvd-mul_right_of_dvd, dvd-mod_iff, dvd_of_mod-eq-zero, mod-eq-zero_of_dvd}
use Rattle.std.proofs.lemmas.Nat.{mod_below}
use Rattle.std.proofs.lemmas.Nat.Gcd.{IsGcd-from_mod, same_from_IsGcd}
use Rattle.std.specs.Int.{IsGcd}
use Prim.Native.Nat.{◌∣◌}
use Rattle.congruences.specs.Naturals.{IsInverse}
use Rattle.congruences.specs.Congruences.{DividesSide, residue_of}

pub gcd_of_inverse : (f n g t u : ℕ) → IsInverse f n g t u → IsGcd n f g
gcd_of_inverse f n g t u is = (
  subst (λ m. g ∣ m) is.period (dvd-mul_right g t),
  subst (λ m. g ∣ m) is.factor.1 (dvd-mul_right g is.factor.0),
  λ d p q. (dvd-add_iff_left d {m = g} {n = n * is.inverse.1} (dvd-mul_right_of_dvd d p is.inverse.1)).1
      (subst (λ m. d ∣ m) is.inverse.2 (dvd-add d (dvd-mul_right_of_dvd d q u) (dvd-mul_right_of_dvd d p is.inverse.0))),
)

first_of_sum : (d k r n m : ℕ) → d ∣ n → k + r ≡ n * m → d ∣ r → d ∣ k
first_of_sum d k r n m p e q = (dvd-add_iff_left d {m = k} {n = r} q).1 (subst (λ x. d ∣ x) (sym e) (dvd-mul_right_of_dvd d p m))

second_of_sum : (d k r n m : ℕ) → d ∣ n → k + r ≡ n * m → d ∣ k → d ∣ r
second_of_sum d k r n m p e q = (dvd-add_iff_right d {m = k} {n = r} q).1 (subst (λ x. d ∣ x) (sym e) (dvd-mul_right_of_dvd d p m))

pub gcd_by_residue : (a : ℤ) (n g : ℕ) → 0 < n → IsGcd n (residue_of a n) g → IsGcd (unsigned_abs a) n g
gcd_by_residue (pos k) n g some h = IsGcd-from_mod k n g h
gcd_by_residue (negsuc k) n g some h =
    let e : suc k + (n - 1 - k % n) ≡ n * (k / n + 1) = (let split = mod-add-div k n in let low = mod_below k n some in omega (arith, split, low)) in
    (first_of_sum g (suc k) (n - 1 - k % n) n (k / n + 1) h.0 e h.1, h.0, λ d p q. h.2 d q (second_of_sum d (suc k) (n - 1 - k % n) n (k / n + 1) q e p))

by_residue : (b : ℤ) (n g : ℕ) → 0 < n → g ∣ n → (g ∣ unsigned_abs b → g ∣ residue_of b n) × (g ∣ residue_of b n → g ∣ unsigned_abs b)
by_residue (pos k) n g some p = ((dvd-mod_iff g {m = k} {n = n} p).1, (dvd-mod_iff g {m = k} {n = n} p).0)
by_residue (negsuc k) n g some p =
    let e : suc k + (n - 1 - k % n) ≡ n * (k / n + 1) = (let split = mod-add-div k n in let low = mod_below k n some in omega (arith, split, low)) in
    (second_of_sum g (suc k) (n - 1 - k % n) n (k / n + 1) p e, first_of_sum g (suc k) (n - 1 - k % n) n (k / n + 1) p e)

module _ (a b m : ℤ) (modulus f side g t u : ℕ) (same : modulus ≡ unsigned_abs m) (some : 0 < modulus) (f-is : f ≡ residue_of a modulus)
    (side-is : side ≡ residue_of b modulus) (is : IsInverse f modulus g t u) where
  divisor : IsGcd (unsigned_abs a) (unsigned_abs m) g
  divisor = subst (λ n. IsGcd (unsigned_abs a) n g) same
      (gcd_by_residue a modulus g some (gcd_of_inverse (residue_of a modulus) modulus g t u (subst (λ n. IsInverse n modulus g t u) f-is is)))

  divides_modulus : g ∣ modulus
  divides_modulus = subst (λ n. g ∣ n) (sym same) divisor.1

  pub side_divided : side % g ≡ 0 → DividesSide a b m
  side_divided none = λ k gcd. subst (λ n. n ∣ unsigned_abs b) (same_from_IsGcd (unsigned_abs a) (unsigned_abs m) g k divisor gcd)
      ((by_residue b modulus g some divides_modulus).1 (subst (λ n. g ∣ n) side-is (dvd_of_mod-eq-zero g none)))

  pub side_not_divided : (side % g ≡ 0 → ⊥) → DividesSide a b m → ⊥
  side_not_divided ne divides = ne (mod-eq-zero_of_dvd g (subst (λ n. g ∣ n) (sym side-is) ((by_residue b modulus g some divides_modulus).0 (divides g divisor))))
