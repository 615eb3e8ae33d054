-- The extents of copies.
use Rattle.std.proofs.Common.{◌≡◌, ◌≢◌, ℕ, zero, suc, ◌*◌, ◌<◌, ◌≤◌, ◌==◌, Bool, true, false, if◌then◌else◌, List, [], ◌∷◌, All, get_or, length, map, nat_le, replicate, refl, sym, ◌∙◌, ap, subst, arith, eq-eqb, lit≤}
use Rattle.std.proofs.Math.Nat.{mul-le-mul_left, zero-mul}
use Rattle.std.proofs.lemmas.Bool.{leb-true, ne_eqb, true≢false}
use Rattle.std.proofs.lemmas.Nat.{mul-le}
use Rattle.std.proofs.lemmas.Simd.{splat_is_map}
use Rattle.hpf_base.specs.declared.limits.TheConstants.{MAX_ELEMENTS}
use Rattle.array_meaning.specs.declared.limits.TheConstants.{MAX_TUPLES}
use Rattle.hpf_base.specs.ElementOrder.{product}
use Rattle.hpf_base.proofs.ElementOrder.{factor_some}
use Rattle.machine_steps.specs.CopyLayout.{copy_extents}
use Rattle.machine_steps.specs.Space.{space_count}

-- where the space is empty
pub extents-none : (ns : List ℕ) → space_count ns ≡ 0 → replicate (length ns) 0 ≡ copy_extents ns
extents-none ns none = splat_is_map ns (length ns) 0 refl ∙ sym (ap (λ b. if b then map (λ n. 0) ns else ns) (eq-eqb (space_count ns) 0 none))

-- where it isn't
module _ (ns : List ℕ) (some : space_count ns ≡ 0 → ⊥) where
  pub extents-some : ns ≡ copy_extents ns
  extents-some = sym (ap (λ b. if b then map (λ n. 0) ns else ns) (ne_eqb (space_count ns) 0 some))

  within : (1 ≤ product ns) × (product ns ≤ MAX_TUPLES)
  within = by_limit (nat_le (product ns) MAX_TUPLES) refl some
    where
      by_limit : (b : Bool) → nat_le (product ns) MAX_TUPLES ≡ b → ((if b then product ns else 0) ≡ 0 → ⊥) → (1 ≤ product ns) × (product ns ≤ MAX_TUPLES)
      by_limit true is other = (omega (arith, other), leb-true (product ns) MAX_TUPLES is)
      by_limit false is other = absurd (other refl)

  size-within : product ns ≤ MAX_ELEMENTS
  size-within = omega (arith, within.1)

  -- no extent is greater than their product
  pub extent-within : (k d : ℕ) → k < length ns → get_or ns k d ≤ MAX_TUPLES
  extent-within k d at = let few = factor ns k at within.0 in omega (arith, few, within.1)
    where
      factor : (es : List ℕ) (k : ℕ) → k < length es → 1 ≤ product es → get_or es k d ≤ product es
      factor [] k at some = absurd (omega arith)
      factor (zero ∷ es) k at some = let none : 0 * product es ≡ 0 = zero-mul (product es) in absurd (omega (arith, none, some))
      factor (suc e ∷ es) zero at some =
          let grows : suc e * 1 ≤ suc e * product es = mul-le-mul_left (suc e) (factor_some (suc e) (product es) some) in omega (arith, grows)
      factor (suc e ∷ es) (suc k) at some =
          let rest = factor es k (omega arith) (factor_some (suc e) (product es) some) in
          let grows : 1 * product es ≤ suc e * product es = mul-le 1 (product es) (suc e) (product es) (omega arith) (omega arith) in
          omega (arith, rest, grows)

-- the extents of every copy
pub copy-each : (ns extents : List ℕ) → extents ≡ copy_extents ns → All (λ extent. extent ≤ MAX_ELEMENTS) extents
copy-each ns extents is = subst (All (λ extent. extent ≤ MAX_ELEMENTS)) (sym is) (by_test (space_count ns == 0) refl)
  where
    none-each : (es : List ℕ) → All (λ extent. extent ≤ MAX_ELEMENTS) (map (λ e. 0) es)
    none-each [] k d within = absurd (omega arith)
    none-each (e ∷ es) zero d within = omega arith
    none-each (e ∷ es) (suc k) d within = none-each es k d (omega arith)

    by_test : (b : Bool) → (space_count ns == 0) ≡ b → All (λ extent. extent ≤ MAX_ELEMENTS) (if b then map (λ n. 0) ns else ns)
    by_test true is = none-each ns
    by_test false is = λ k d within. let few = extent-within ns (λ e. true≢false (sym (eq-eqb (space_count ns) 0 e) ∙ is)) k d within in omega (arith, few)

pub copy-size : (ns extents : List ℕ) → extents ≡ copy_extents ns → product extents ≤ MAX_ELEMENTS
copy-size ns extents is = subst (λ es. product es ≤ MAX_ELEMENTS) (sym is) (by_test (space_count ns == 0) refl)
  where
    none-size : (es : List ℕ) → product (map (λ e. 0) es) ≤ MAX_ELEMENTS
    none-size [] = omega arith
    none-size (e ∷ es) = let none : 0 * product (map (λ e. 0) es) ≡ 0 = zero-mul (product (map (λ e. 0) es)) in omega (arith, none)

    by_test : (b : Bool) → (space_count ns == 0) ≡ b → product (if b then map (λ n. 0) ns else ns) ≤ MAX_ELEMENTS
    by_test true is = none-size ns
    by_test false is = size-within ns (λ e. true≢false (sym (eq-eqb (space_count ns) 0 e) ∙ is))
