-- The same members with stride 1 where there is one, and how far they reach.
use Rattle.std.proofs.Common.{◌≡◌, ℕ, zero, suc, ◌+◌, ◌-◌, ◌*◌, ◌<◌, ◌≤◌, refl, sym, ◌∙◌, ap, subst, arith}
use Rattle.std.proofs.Math.Nat.{mul-le-mul_left, mul-le-mul_right}
use Rattle.std.specs.Prelude.{Some}
use Rattle.congruences.specs.declared.natural_meeting.NaturalProgression.{NaturalProgression}
use Rattle.congruences.specs.NaturalProgressions.{AreCommonNaturals}
use Rattle.congruences.specs.Shifts.{IsNarrow, last_of}

-- a stride that may differ where there is one member leads to the same members
agrees : (count stride other : ℕ) → 1 ≤ stride → 1 ≤ count → (count ≡ 1 → other ≡ 1) → ((count ≡ 1 → ⊥) → other ≡ stride)
    → (1 ≤ other) × ((n : ℕ) → n < count → other * n ≡ stride * n)
agrees zero stride other s c one more = absurd (omega (arith, c))
agrees (suc zero) stride other s c one more =
    let e : other ≡ 1 = one refl in (
      omega (arith, e),
      λ n less. let z : n ≡ 0 = omega (arith, less) in ap (λ k. other * k) z ∙ (let w : other * 0 ≡ stride * 0 = omega arith in w) ∙ sym (ap (λ k. stride * k) z),
    )
agrees (suc (suc k)) stride other s c one more =
    let e : other ≡ stride = more (λ w. omega (arith, w)) in
    (omega (arith, e, s), λ n less. ap (λ m. m * n) e)

stride_most : (count stride most : ℕ) → 1 ≤ count → (count ≡ 1 → stride ≡ 1) → 1 ≤ most → stride * (count - 1) ≤ most → stride ≤ most
stride_most zero stride most c one some h = absurd (omega (arith, c))
stride_most (suc zero) stride most c one some h = (let e : stride ≡ 1 = one refl in omega (arith, e, some))
stride_most (suc (suc k)) stride most c one some h =
    let e : stride * 1 ≤ stride * (suc (suc k) - 1) = mul-le-mul_left stride (let w : 1 ≤ suc (suc k) - 1 = omega arith in w) in
    omega (arith, e, h)

-- common members reach no further than the first progression
pub reach : (p q r : NaturalProgression) → AreCommonNaturals p q (Some r) → last_of r ≤ last_of p
reach p q r h =
    let m = ((h.2 (last_of r)).0 (r.count - 1, (let some = h.0 in omega (arith, some)), refl)).0 in
    let order : p.stride * m.0 ≤ p.stride * (p.count - 1) = mul-le-mul_left p.stride (let less = m.1 in let e : m.0 ≤ p.count - 1 = omega (arith, less) in e) in
    let at : last_of r ≡ p.first + p.stride * m.0 = m.2 in
    omega (arith, at, order)

module _ (p q r s : NaturalProgression) (h : AreCommonNaturals p q (Some r)) (first : s.first ≡ r.first) (one : s.count ≡ 1 → s.stride ≡ 1)
    (more : (s.count ≡ 1 → ⊥) → s.stride ≡ r.stride) (count : s.count ≡ r.count) where
  abbrev some : 1 ≤ s.count
  some = subst (λ n. 1 ≤ n) (sym count) h.0

  abbrev same : (1 ≤ s.stride) × ((n : ℕ) → n < s.count → s.stride * n ≡ r.stride * n)
  same = agrees s.count r.stride s.stride h.1 some one more

  pub still_common : AreCommonNaturals p q (Some s)
  still_common = (
    some,
    same.0,
    λ x. (
      (λ (n, less, at). (h.2 x).0 (n, subst (λ c. n < c) count less, at ∙ (λ i. first i + same.1 n less i))),
      (λ both. let m = (h.2 x).1 both in
          let less : m.0 < s.count = subst (λ c. m.0 < c) (sym count) m.1 in
          (m.0, less, m.2 ∙ sym (λ i. first i + same.1 m.0 less i))),
    ),
  )

  pub narrow : last_of p ≤ 9223372036854775808 → IsNarrow s
  narrow most =
      let far : s.first + s.stride * (s.count - 1) ≤ last_of p = reach p q s still_common in
      let each : 1 * (s.count - 1) ≤ s.stride * (s.count - 1) = mul-le-mul_right (s.count - 1) same.0 in
      record {
        first = omega (arith, far, most);
        steps = stride_most s.count s.stride 9223372036854775808 some one (omega arith) (omega (arith, far, most));
        count = omega (arith, far, most, each);
        one = one;
      }
