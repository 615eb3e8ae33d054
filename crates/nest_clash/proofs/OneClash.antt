-- There is one first clash.
use Rattle.std.proofs.Common.{◌≡◌, ℕ, ⊎_elim, List, Option, Some, None, refl, ap, arith}
use Rattle.array_meaning.specs.Touches.{Touch}
use Rattle.array_meaning.specs.Clashes.{Clash}
use Rattle.nest_clash.specs.FirstClash.{NotAfter, IsFirstClash}

module _ (touched : ℕ → List Touch) (n : ℕ) where
  -- none of the two comes after the other
  one_of_both : (c d : Clash) → NotAfter touched c d.earlier d.later d.name d.place → NotAfter touched d c.earlier c.later c.name c.place → c ≡ d
  one_of_both c d h g = ⊎_elim
      (λ l. ⊎_elim (λ m. absurd (omega (arith, l, m))) (λ m. let e : d.earlier ≡ c.earlier = m.0 in absurd (omega (arith, l, e))) g)
      (λ r. let e : c.earlier ≡ d.earlier = r.0 in
      ⊎_elim (λ m. absurd (omega (arith, m, e)))
      (λ m. ⊎_elim
      (λ l. ⊎_elim (λ k. absurd (omega (arith, l, k))) (λ k. let f : d.later ≡ c.later = k.0 in absurd (omega (arith, l, f))) m.1)
      (λ s. let f : c.later ≡ d.later = s.0 in
      ⊎_elim (λ k. absurd (omega (arith, k, f)))
      (λ k. ⊎_elim
      (λ l. ⊎_elim (λ q. absurd (omega (arith, l, q))) (λ q. let x : d.name ≡ c.name = q.0 in absurd (omega (arith, l, x))) k.1)
      (λ t. let x : c.name ≡ d.name = t.0 in
      ⊎_elim (λ q. absurd (omega (arith, q, x)))
      (λ q. let y : c.place ≡ d.place = omega (arith, t.1, q.1) in λ i. record { earlier = e i; later = f i; name = x i; place = y i })
      k.1)
      s.1)
      m.1)
      r.1)
      g)
      h

  pub one_clash : (r q : Option Clash) → IsFirstClash touched n r → IsFirstClash touched n q → r ≡ q
  one_clash None None h g = refl
  one_clash None (Some d) h g = absurd (h d.earlier d.later d.name d.place g.order g.below g.interfere)
  one_clash (Some c) None h g = absurd (g c.earlier c.later c.name c.place h.order h.below h.interfere)
  one_clash (Some c) (Some d) h g =
      ap Some (one_of_both c d (h.first d.earlier d.later d.name d.place g.order g.below g.interfere) (g.first c.earlier c.later c.name c.place h.order h.below h.interfere))
