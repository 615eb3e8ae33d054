-- The check of a nest at its entry.
use Rattle.std.proofs.Common.{◌≡◌, ℕ, zero, suc, ◌≤◌, Bool, true, false, if◌then◌else◌, List, [], ◌∷◌, ◌++◌, length, Option, None, Result, Ok, refl, sym, ap, ◌∙◌, arith}
use Rattle.std.specs.Prelude.{nat_lt, nat_le, ◌&&◌, ◌==◌}
use Rattle.std.specs.List.{list_all}
use Rattle.std.specs.Option.{option_or}
use Rattle.std.proofs.lemmas.Bool.{and_parts}
use Rattle.std.proofs.lemmas.Bool.Decides.{nat_tests}
use Rattle.array_meaning.specs.declared.limits.TheConstants.{MAX_TUPLES}
use Rattle.hpf_base.specs.ElementOrder.{product}
use Rattle.resolved_program.specs.declared.statements.Loop.{Loop as HeldLoop}
use Rattle.resolved_program.specs.declared.statements.Nest.{Nest as HeldNest}
use Rattle.resolved_program.specs.declared.statements.Statement.{Statement as HeldStatement}
use Rattle.resolved_program.specs.Resolved.{block_of, statement}
use Rattle.array_meaning.specs.declared.faults.FaultKind.TheVariants.{SpaceLimit}
use Rattle.array_meaning.specs.declared.sections.Sequence.{Sequence}
use Rattle.array_meaning.specs.Faults.{Cause, fails}
use Rattle.array_meaning.specs.Statements.{Block}
use Rattle.array_meaning.specs.State.{State}
use Rattle.array_meaning.specs.Forall.{index_extents, indices_at, is_index_in_limits}
use Rattle.array_meaning.specs.Iterations.{iteration_count, nest_axes, nest_indices, with_indices}
use Rattle.array_meaning.specs.Touches.{assigned_in, touches}
use Rattle.array_meaning.specs.Clashes.{Clash, clash_of, first_clash, first_of}
use Rattle.array_meaning.specs.NestLimits.{is_block_in_limits, is_in_limits}
use Rattle.array_meaning.specs.NestEntry.{check_nest, unless_clash}
use Rattle.interference.specs.declared.indices.IterationSpace.{IterationSpace}
use Rattle.interference.specs.IterationSpaces.{IsSpaceOf, iterations_in, nest_of}
use Rattle.interference.specs.Limits.{is_space_in_limits, saturated}
use Rattle.interference.specs.Entry.{check_space}

-- ---- without a statement

first_none : {A : Type 0} (n : ℕ) (f : ℕ → Option A) → ((i : ℕ) → f i ≡ None) → first_of n f ≡ None
first_none zero f none = refl
first_none (suc n) f none = λ i. option_or (first_none n f none i) (none n i)

no_pair : (b : Bool) (x : Option Clash) → x ≡ None → (if b then x else None) ≡ None
no_pair true x none = none
no_pair false x none = refl

no_clash : (n : ℕ) → first_clash (λ i. []) n ≡ None
no_clash n = first_none n (λ i. first_of n (clash_of (λ i. []) i)) (λ i. first_none n (clash_of (λ i. []) i) (λ j. no_pair (nat_lt i j) None refl))

-- what has no statement touches nothing
pub empty_enters : (nest : HeldNest) (space : IterationSpace) (body : List HeldStatement) (s : State) → length body ≡ 0 → is_space_in_limits space (block_of body) s ≡ true →
    check_space nest space (block_of body) s ≡ Ok s
empty_enters nest space [] s empty limits =
    ap (λ b. if b then unless_clash s space.axes.items (first_clash (λ i. []) (iterations_in space)) else fails SpaceLimit) limits
    ∙ ap (unless_clash s space.axes.items) (no_clash (iterations_in space))
empty_enters nest space (x ∷ xs) s empty limits = absurd (omega arith)

-- ---- with a statement there are few iterations

pub few_iterations : (space : IterationSpace) (body : List HeldStatement) (s : State) → (length body ≡ 0 → ⊥) → is_space_in_limits space (block_of body) s ≡ true →
    iterations_in space ≤ MAX_TUPLES
few_iterations space [] s some limits = absurd (some refl)
few_iterations space (x ∷ xs) s some limits =
    let n = iterations_in space in
    let block : is_block_in_limits space.indices.items s n (block_of (x ∷ xs)) ≡ true = (and_parts (list_all is_index_in_limits space.axes.items) _ limits).1 in
    let few : nat_le n MAX_TUPLES ≡ true =
    (and_parts (nat_le n MAX_TUPLES) (is_in_limits space.indices.items s n (statement x.what))
    (and_parts (nat_le n MAX_TUPLES && is_in_limits space.indices.items s n (statement x.what)) (is_block_in_limits space.indices.items s n (block_of xs)) block).0).0 in
    grind (arith, nat_tests)

-- ---- by the space of the nest

pub check_is : (nest : HeldNest) (l : HeldLoop) (body : List HeldStatement) (block : Block) (space : IterationSpace) (s : State) (n : ℕ) → IsSpaceOf (nest_of nest l body) s space →
    n ≡ saturated (iterations_in space) → (n ≡ 0 → ⊥) → check_space nest space block s ≡ check_nest (nest_of nest l body) block s
check_is nest l body block space s n h is some =
    (λ i. by (h.indices i) (h.axes i))
    ∙ ap (λ b. if b then Ok s else by (nest_indices (nest_of nest l body)) (nest_axes s (nest_of nest l body))) (sym iterations) where
      by : List ℕ → List Sequence → Result State Cause
      by indices axes =
          if list_all is_index_in_limits axes && is_block_in_limits indices s (product (index_extents axes)) block
          then unless_clash s axes (first_clash (λ i. touches (assigned_in block) (nest.new.items ++ nest.reduction.items ++ indices) (with_indices indices (indices_at axes i) s) block) (product (index_extents axes)))
          else fails SpaceLimit

      some_iteration : (k : ℕ) → (k ≡ 0 → ⊥) → (k == 0) ≡ false
      some_iteration k some = grind (arith, nat_tests)

      iterations : (iteration_count (nest_of nest l body) s == 0) ≡ false
      iterations =
          ap (λ axes. product (index_extents axes) == 0) (sym h.axes)
          ∙ some_iteration (iterations_in space) (λ e. some (is ∙ ap saturated e))
