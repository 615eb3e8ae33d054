-- Of private clauses.
-- The parts of a FORALL.
use Rattle.std.specs.Prelude.{◌≡◌, ℕ, ◌+◌, ◌%◌, ◌==◌, nat_lt, Bool, false, List, [], ◌∷◌, ℤ, Option, Result, if◌then◌else◌}
use Rattle.hpf_base.specs.ElementOrder.{product}
use Rattle.array_meaning.specs.Terms.{Term, Terms}
use Rattle.array_meaning.specs.Statements.{ElementAssignment}
use Rattle.array_meaning.specs.Faults.{Cause, ◌>>=◌}
use Rattle.array_meaning.specs.declared.sections.Store.{Store}
use Rattle.array_meaning.specs.declared.sections.Sequence.{Sequence}
use Rattle.array_meaning.specs.State.{State}
use Rattle.array_meaning.specs.Runs.{Run, normal, then_do, with_value, one_step}
use Rattle.array_meaning.specs.Elementals.{each}
use Rattle.array_meaning.specs.Expressions.{value, values}
use Rattle.array_meaning.specs.ArrayAssignments.{Mask, if_true, store_at}
use Rattle.array_meaning.specs.Forall.{all_subscripts, assign_all_forall, check_limits, check_one_to_one, index_extents, indices_at, mask_over}
use Rattle.serial_run.specs.declared.index_tuples.IndexTuple.{IndexTuple}
use Rattle.serial_run.specs.SectionStores.{kept_of}

-- ---- index tuples

-- the position of the first index, from 0, at the tuple with a number
abbrev pub first_place : List Sequence → ℕ → ℕ
first_place [] t = 0
first_place (p ∷ ps) t = t % p.count

-- whether the first index has a value after that at a position
abbrev pub has_next : List Sequence → ℕ → Bool
has_next [] place = false
has_next (p ∷ ps) place = nat_lt (place + 1) p.count

-- the tuple with a number
pub record IsTuple (axes : List Sequence) (t : ℕ) (x : IndexTuple) : Type 0 where
  pub place : x.place ≡ first_place axes t
  pub values : x.values.items ≡ indices_at axes t

-- ---- assignments

-- what an assignment to an element stores at a tuple
abbrev pub element_store : State → ℕ → Terms → Term → List ℤ → Result (Option Store) Cause
element_store s a subscripts right x = values x s subscripts >>= (λ is. store_at s a is (value x s right))

abbrev pub forall_store : State → ElementAssignment → List ℤ → Result (Option Store) Cause
forall_store s b x = element_store s b.array b.subscripts b.right x

-- what an assignment to an element stores at a tuple with a number, where the mask is true
abbrev pub masked_forall_store : State → Mask → ElementAssignment → ℕ → List ℤ → Result (Option Store) Cause
masked_forall_store s mask b t x = if_true (mask t) (forall_store s b x)

-- at the first tuples
abbrev pub forall_stores : List Sequence → ℕ → Mask → ElementAssignment → State → Result (List Store) Cause
forall_stores axes n mask b s = kept_of (each (indices_at axes) (λ t. masked_forall_store s mask b t (indices_at axes t)) n)

-- ---- the statement

-- once the mask is to be evaluated
abbrev pub forall_masked : ℕ → List Sequence → ℕ → Option Term → List ElementAssignment → State → Run
forall_masked line axes n mask body s = with_value line s (mask_over s axes n mask) (λ m. assign_all_forall axes n m body s)

-- within the limits
abbrev pub forall_within : ℕ → List Sequence → ℕ → Option Term → List ElementAssignment → State → Run
forall_within line axes n mask body s = then_do (check_one_to_one (index_extents axes) body s) (forall_masked line axes n mask body)

-- after the header
abbrev pub forall_over : ℕ → List Sequence → Option Term → List ElementAssignment → State → Run
forall_over line axes mask body s =
    if product (index_extents axes) == 0 then normal s else
    then_do (one_step line s (check_limits axes (all_subscripts mask body) s)) (forall_within line axes (product (index_extents axes)) mask body)
