-- The number of tuples of a space.
use Rattle.std.proofs.Common.{◌≡◌, ℕ, zero, suc, ◌*◌, ◌<◌, ◌≤◌, true, List, [], ◌∷◌, refl, sym, ap, ◌∙◌, arith}
use Rattle.std.proofs.lemmas.Bool.Decides.{nat_tests}
use Rattle.std.specs.Prelude.{nat_le, ◌&&◌}
use Rattle.std.specs.List.{list_all}
use Rattle.array_meaning.specs.declared.limits.TheConstants.{MAX_TUPLES}
use Rattle.hpf_base.specs.ElementOrder.{product}
use Rattle.array_meaning.specs.Terms.{Term}
use Rattle.array_meaning.specs.State.{State}
use Rattle.array_meaning.specs.declared.sections.Sequence.{Sequence}
use Rattle.array_meaning.specs.Forall.{index_extents, is_forall_in_limits, is_index_in_limits}
use Rattle.forall_conditions.specs.Linears.{are_in_limits, is_short_in_limits}

-- a factor of a product that isn't 0 is no greater than it
first_factor : (c q : ℕ) → 0 < c * q → c ≤ c * q
first_factor c zero some = absurd (omega arith)
first_factor c (suc q) some = omega arith

second_factor : (c q : ℕ) → 0 < c * q → q ≤ c * q
second_factor zero q some = absurd (omega arith)
second_factor (suc c) q some = omega arith

at_most : (c n : ℕ) → c ≤ n → nat_le c n ≡ true
at_most c n h = grind (arith, nat_tests)

-- where there are few tuples, each index takes few values
short_indices : (axes : List Sequence) → 0 < product (index_extents axes) → product (index_extents axes) ≤ MAX_TUPLES →
    list_all is_short_in_limits axes ≡ list_all is_index_in_limits axes
short_indices [] some few = refl
short_indices (p ∷ ps) some few =
    let rest = product (index_extents ps) in
    let left = first_factor p.count rest some in
    let right = second_factor p.count rest some in
    ap (λ b. b && is_index_in_limits p && list_all is_short_in_limits ps) (at_most p.count MAX_TUPLES (omega (arith, left, few)))
    ∙ ap (λ b. is_index_in_limits p && b) (short_indices ps (factor_some p.count rest some) (omega (arith, right, few))) where
      factor_some : (c q : ℕ) → 0 < c * q → 0 < q
      factor_some c zero some = absurd (omega arith)
      factor_some c (suc q) some = omega arith

pub forall_limits : (s : State) (axes : List Sequence) (ts : List Term) → 0 < product (index_extents axes) → product (index_extents axes) ≤ MAX_TUPLES →
    (list_all is_short_in_limits axes && are_in_limits s ts) ≡ is_forall_in_limits s axes ts
forall_limits s axes ts some few =
    ap (λ b. b && are_in_limits s ts) (short_indices axes some few)
    ∙ ap (λ b. b && list_all is_index_in_limits axes && are_in_limits s ts) (sym (at_most (product (index_extents axes)) MAX_TUPLES few))
