-- Congruences of integers by their remainders.
use Rattle.std.proofs.Common.{◌≡◌, ℕ, suc, ℤ, pos, negsuc, ◌+ℤ◌, ◌≤ℤ◌, ◌*ℤ◌, neg_ℤ, unsigned_abs, ◌+◌, ◌*◌, ◌/◌, ◌%◌, ◌<◌, ◌≤◌, refl, sym, ◌∙◌, ap, subst, arith}
use Rattle.std.proofs.Math.Nat.{mod-add-div, mod-le, mod-eq_of_lt, mul-le-mul_right}
use Rattle.std.proofs.Math.IntN.{pos-*ℤ-pos, negsuc-*ℤ-pos}
use Rattle.std.proofs.lemmas.Int.{ints}
use Rattle.std.proofs.lemmas.Nat.{mod_below, mul-mod_first}
use Rattle.std.specs.Prelude.{Some, None}
use Rattle.std.specs.Int.{int_rem_euclid}
use Rattle.congruences.specs.Naturals.{AreCongruentNaturals, IsInverse}
use Rattle.congruences.proofs.Solutions.{solved}
use Rattle.congruences.specs.Congruences.{IsSolved, AreCongruent, SolvedByRemainders, residue_of}

pub residue : (z : ℤ) (n : ℕ) → 0 < n → AreCongruent n z (pos (unsigned_abs (int_rem_euclid z (pos n))))
residue (pos a) n some = (0, a / n, (let e = mod-add-div a n in omega (arith, ints, e)))
residue (negsuc a) n some = (a / n + 1, 0, (let e = mod-add-div a n in let b = mod_below a n some in omega (arith, ints, e, b)))

pub scaled : (a : ℤ) (r n x s t : ℕ) → a +ℤ pos (n * s) ≡ pos r +ℤ pos (n * t) → (a *ℤ pos x) +ℤ pos (n * (s * x)) ≡ pos (r * x) +ℤ pos (n * (t * x))
scaled (pos k) r n x s t h =
    let plain : k + n * s ≡ r + n * t = omega (arith, ints, h) in
    let times : (k + n * s) * x ≡ (r + n * t) * x = ap (λ y. y * x) plain in
    let sum : k * x + n * (s * x) ≡ r * x + n * (t * x) = omega (arith, times) in
    ap (λ z. z +ℤ pos (n * (s * x))) (pos-*ℤ-pos k x) ∙ ap pos sum
scaled (negsuc k) r n x s t h =
    let plain : n * s ≡ r + n * t + suc k = omega (arith, ints, h) in
    let times : n * s * x ≡ (r + n * t + suc k) * x = ap (λ y. y * x) plain in
    let sum : n * (s * x) ≡ r * x + n * (t * x) + suc k * x = omega (arith, times) in
    ap (λ z. z +ℤ pos (n * (s * x))) (negsuc-*ℤ-pos k x) ∙ less (suc k * x) (n * (s * x)) (r * x + n * (t * x)) sum
  where
    less : (y m r : ℕ) → m ≡ r + y → neg_ℤ (pos y) +ℤ pos m ≡ pos r
    less y m r e = omega (arith, ints, e)

module _ (a b : ℤ) (n : ℕ) (some : 0 < n) where
  abbrev factor : ℕ
  factor = unsigned_abs (int_rem_euclid a (pos n))

  abbrev rest : ℕ
  rest = unsigned_abs (int_rem_euclid b (pos n))

  pub to_natural : (x : ℕ) → AreCongruent n (a *ℤ pos x) b → AreCongruentNaturals n (factor * x) rest
  to_natural x (s, t, same) =
      let f = residue a n some in
      let r = residue b n some in
      let h = scaled a factor n x f.0 f.1 f.2 in
      let sum = plain (a *ℤ pos x) b (factor * x) rest (n * s) (n * t) (n * (f.0 * x)) (n * (f.1 * x)) (n * r.0) (n * r.1) same h r.2 in
      (f.1 * x + s + r.0, r.1 + t + f.0 * x, omega (arith, sum))
    where
      plain : (z b : ℤ) (p q s t u v w y : ℕ) → z +ℤ pos s ≡ b +ℤ pos t → z +ℤ pos u ≡ pos p +ℤ pos v → b +ℤ pos w ≡ pos q +ℤ pos y → p + (v + s + w) ≡ q + (y + t + u)
      plain z b p q s t u v w y h k l = omega (arith, ints, h, k, l)

  pub from_natural : (x : ℕ) → AreCongruentNaturals n (factor * x) rest → AreCongruent n (a *ℤ pos x) b
  from_natural x (s, t, same) =
      let f = residue a n some in
      let r = residue b n some in
      let h = scaled a factor n x f.0 f.1 f.2 in
      let left_is : n * (f.0 * x + s + r.1) ≡ n * (f.0 * x) + n * s + n * r.1 = omega arith in
      let right_is : n * (f.1 * x + t + r.0) ≡ n * (f.1 * x) + n * t + n * r.0 = omega arith in (
        f.0 * x + s + r.1,
        f.1 * x + t + r.0,
        ap (λ k. (a *ℤ pos x) +ℤ pos k) left_is
            ∙ plain (a *ℤ pos x) b (factor * x) rest (n * s) (n * t) (n * (f.0 * x)) (n * (f.1 * x)) (n * r.0) (n * r.1) same h r.2
            ∙ sym (ap (λ k. b +ℤ pos k) right_is),
      )
    where
      plain : (z b : ℤ) (p q s t u v w y : ℕ) → p + s ≡ q + t → z +ℤ pos u ≡ pos p +ℤ pos v → b +ℤ pos w ≡ pos q +ℤ pos y → z +ℤ pos (u + s + y) ≡ b +ℤ pos (v + t + w)
      plain z b p q s t u v w y h k l = omega (arith, ints, h, k, l)

pub by_remainders : SolvedByRemainders
by_remainders a b n g t u some period is = (found, missed)
  where
    x : ℕ
    x = (residue_of b n / g * u) % t

    below : x < t
    below = mod_below (residue_of b n / g * u) t period

    found : residue_of b n % g ≡ 0 → IsSolved a b n (Some (pos ((residue_of b n / g * u) % t)))
    found none =
        let more : 1 * t ≤ g * t = mul-le-mul_right t (let e : 1 ≤ g = omega (arith, is.some) in e) in
        let low : (residue_of b n / g * u) % t < t = mod_below (residue_of b n / g * u) t period in
        let there = (solved (residue_of a n) n g t u (residue_of b n) ((residue_of b n / g * u) % t) period is).1 (none, mod-eq_of_lt low) in (
          (residue_of b n / g * u) % t,
          refl,
          omega (arith, more, low, is.period),
          from_natural a b n some ((residue_of b n / g * u) % t) there,
          λ y same. let w = (solved (residue_of a n) n g t u (residue_of b n) y period is).0 (to_natural a b n some y same) in
              subst (λ z. z ≤ y) w.1 (mod-le y t),
        )

    missed : (residue_of b n % g ≡ 0 → ⊥) → IsSolved a b n None
    missed ne = λ y same. ne ((solved (residue_of a n) n g t u (residue_of b n) y period is).0 (to_natural a b n some y same)).0

-- what remains by one modulus remains by an equal one
inverse_by : (a : ℤ) (n modulus f g t u : ℕ) → modulus ≡ n → f ≡ residue_of a modulus → IsInverse f modulus g t u → IsInverse (residue_of a n) n g t u
inverse_by a n modulus f g t u same f-is is = subst (λ m. IsInverse (residue_of a m) m g t u) same (subst (λ y. IsInverse y modulus g t u) f-is is)

module _ (a b : ℤ) (n modulus f side g t u : ℕ) (same : modulus ≡ n) (some : 0 < n) (f-is : f ≡ residue_of a modulus) (side-is : side ≡ residue_of b modulus)
    (period : 0 < t) (is : IsInverse f modulus g t u) where
  abbrev side_by : side ≡ residue_of b n
  side_by = side-is ∙ ap (λ m. residue_of b m) same

  pub found_in_code : side % g ≡ 0 → IsSolved a b n (Some (pos (side / g % t * u % t)))
  found_in_code none =
      let s = (by_remainders a b n g t u some period (inverse_by a n modulus f g t u same f-is is)).0 (sym (ap (λ y. y % g) side_by) ∙ none) in
      subst (λ z. IsSolved a b n (Some (pos z))) (ap (λ y. (y / g * u) % t) (sym side_by) ∙ sym (mul-mod_first (side / g) u t)) s

  pub missed_in_code : (side % g ≡ 0 → ⊥) → IsSolved a b n None
  missed_in_code ne = (by_remainders a b n g t u some period (inverse_by a n modulus f g t u same f-is is)).1 (λ none. ne (ap (λ y. y % g) side_by ∙ none))

pub some_modulus : (m : ℤ) → pos 1 ≤ℤ m → 0 < unsigned_abs m
some_modulus m least = omega (arith, ints, least)

pub at_most : (m : ℤ) → pos 1 ≤ℤ m → m ≤ℤ pos 4611686018427387904 → unsigned_abs m ≤ 4611686018427387904
at_most m least most = omega (arith, ints, least, most)
