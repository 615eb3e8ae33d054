-- Counts of tuples that end at the greatest number of 128 bits.
use Rattle.std.proofs.Common.{◌≡◌, ℕ, zero, suc, ◌+◌, ◌-◌, ◌*◌, ◌^◌, ◌<◌, ◌≤◌, List, ◌∷◌, drop, length, get_or, false, refl, sym, ap, ◌∙◌, ⊎_elim, arith}
use Rattle.std.specs.Prelude.{min, nat_le, ◌&&◌, ◌||◌, ◌==◌}
use Rattle.std.proofs.Math.Nat.{min-eq_left, min-eq_right, mul_assoc, mul-one, mul-zero}
use Rattle.std.proofs.Math.ListN.{drop_of_length-le}
use Rattle.std.proofs.Math.Seq.{drop-cons}
use Rattle.std.proofs.lemmas.Bool.{cases_lt}
use Rattle.std.proofs.lemmas.Bool.Decides.{nat_tests}
use Rattle.array_meaning.specs.declared.limits.TheConstants.{MAX_TUPLES}
use Rattle.hpf_base.specs.ElementOrder.{product}
use Rattle.array_meaning.specs.Statements.{Block, Done, Then, Statement, AssignScalar, AssignElement, If, Do, Arms, NoArm, Arm}
use Rattle.array_meaning.specs.State.{State}
use Rattle.array_meaning.specs.declared.sections.Sequence.{Sequence}
use Rattle.array_meaning.specs.Forall.{index_extents, is_index_in_limits, subscripts_in}
use Rattle.array_meaning.specs.Iterations.{values_of}
use Rattle.array_meaning.specs.NestLimits.{are_arms_in_limits, are_linear_in_limits, is_block_in_limits, is_in_limits}
use Rattle.interference.specs.Limits.{saturated}

factor_at_most : (n c : ℕ) → n ≤ n * suc c
factor_at_most n c = omega arith

min_times : (n c m : ℕ) → min (min n m * c) m ≡ min (n * c) m
min_times n zero m = ap (λ k. min k m) (mul-zero (min n m) ∙ sym (mul-zero n))
min_times n (suc c) m = ⊎_elim
    (λ lt. ap (λ k. min (k * suc c) m) (min-eq_left (let le : n ≤ m = omega (arith, lt) in le)))
    (λ le. ap (λ k. min (k * suc c) m) (min-eq_right le)
    ∙ min-eq_right (factor_at_most m c)
    ∙ sym (min-eq_right (let more : m ≤ n * suc c = omega (arith, le, factor_at_most n c) in more)))
    (cases_lt n m)

pub saturated_times : (n c : ℕ) → saturated (saturated n * c) ≡ saturated (n * c)
saturated_times n c = min_times n c (2 ^ 128 - 1)

-- ---- the tuples of indices

pub tuples_next : (ps : List Sequence) (k n m : ℕ) (z : Sequence) → k < length ps → m ≡ saturated (n * (get_or ps k z).count) →
    saturated (m * product (index_extents (drop (k + 1) ps))) ≡ saturated (n * product (index_extents (drop k ps)))
tuples_next ps k n m z lt is =
    let p = get_or ps k z in
    let rest = product (index_extents (drop (k + 1) ps)) in
    let next : k + 1 ≡ suc k = omega arith in
    ap (λ c. saturated (c * rest)) is
    ∙ saturated_times (n * p.count) rest
    ∙ ap saturated (mul_assoc n p.count rest)
    ∙ ap (λ j. saturated (n * (p.count * product (index_extents (drop j ps))))) next
    ∙ ap (λ qs. saturated (n * product (index_extents qs))) (sym (drop-cons ps k z lt))

pub tuples_all : (ps : List Sequence) (k n whole : ℕ) → length ps ≤ k → n ≤ 2 ^ 128 - 1 → saturated (n * product (index_extents (drop k ps))) ≡ whole → n ≡ whole
tuples_all ps k n whole end small so_far =
    sym (min-eq_left small)
    ∙ ap saturated (sym (mul-one n))
    ∙ ap (λ qs. saturated (n * product (index_extents qs))) (sym (drop_of_length-le ps end))
    ∙ so_far

-- ---- the limits of statements

at_most_saturated : (n : ℕ) → nat_le (saturated n) MAX_TUPLES ≡ nat_le n MAX_TUPLES
at_most_saturated n = ⊎_elim
    (λ lt. ap (λ k. nat_le k MAX_TUPLES) (min-eq_left (let le : n ≤ 2 ^ 128 - 1 = omega (arith, lt) in le)))
    (λ le. ap (λ k. nat_le k MAX_TUPLES) (min-eq_right le) ∙ sym (let many : nat_le n MAX_TUPLES ≡ false = grind (arith, nat_tests) in many))
    (cases_lt n (2 ^ 128 - 1))

-- by how many tuples there are, as far as 128 bits have them
mutual
  pub block_saturated : (indices : List ℕ) (s : State) (n : ℕ) (b : Block) → is_block_in_limits indices s (saturated n) b ≡ is_block_in_limits indices s n b
  block_saturated indices s n Done = refl
  block_saturated indices s n (Then line st rest) = λ i.
      at_most_saturated n i && statement_saturated indices s n st i && block_saturated indices s n rest i

  statement_saturated : (indices : List ℕ) (s : State) (n : ℕ) (st : Statement) → is_in_limits indices s (saturated n) st ≡ is_in_limits indices s n st
  statement_saturated indices s n (AssignScalar k right) = refl
  statement_saturated indices s n (AssignElement a subscripts right) = refl
  statement_saturated indices s n (If arms other) = λ i. arms_saturated indices s n arms i && block_saturated indices s n other i
  statement_saturated indices s n (Do mark loop body) =
      let count = (values_of s loop).count in
      ap (λ b. (count == 0 || is_index_in_limits (values_of s loop)) && b)
      (sym (block_saturated (loop.index ∷ indices) s (saturated n * count) body)
      ∙ ap (λ m. is_block_in_limits (loop.index ∷ indices) s m body) (saturated_times n count)
      ∙ block_saturated (loop.index ∷ indices) s (n * count) body)
  statement_saturated indices s n st = refl

  arms_saturated : (indices : List ℕ) (s : State) (n : ℕ) (as' : Arms) → are_arms_in_limits indices s (saturated n) as' ≡ are_arms_in_limits indices s n as'
  arms_saturated indices s n NoArm = refl
  arms_saturated indices s n (Arm line t body as') = λ i.
      are_linear_in_limits indices s (subscripts_in t) && block_saturated indices s n body i && arms_saturated indices s n as' i
