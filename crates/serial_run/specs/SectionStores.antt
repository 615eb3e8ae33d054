-- Of private clauses.
-- What assignments to sections store, before anything is stored.
use Rattle.std.specs.Prelude.{◌≡◌, ℕ, ℤ, List, [], ◌∷◌, ◌++◌, fold, true, Option, Some, None, Result, Ok}
use Rattle.array_meaning.specs.Terms.{Term, SectionSubscripts}
use Rattle.array_meaning.specs.Statements.{SectionAssignment}
use Rattle.array_meaning.specs.Faults.{Cause, ◌>>=◌}
use Rattle.array_meaning.specs.declared.sections.Selection.{Selection}
use Rattle.array_meaning.specs.declared.sections.Store.{Store}
use Rattle.array_meaning.specs.State.{State, store}
use Rattle.array_meaning.specs.Sections.{extents, positions, space_size, subscripts_at}
use Rattle.array_meaning.specs.Elementals.{Elemental, each, sections, value_at}
use Rattle.array_meaning.specs.Expressions.{elemental, selections}
use Rattle.array_meaning.specs.ArrayAssignments.{Mask, if_true, mask_of, negated_mask, store_at}
use Rattle.serial_run.specs.declared.section_stores.Branch.{Branch}
use Rattle.serial_run.specs.declared.section_stores.Branch.TheVariants.{Unmasked, Where, Elsewhere}

-- the mask of the assignments of a branch
abbrev pub branch_mask : Branch → List ℤ → Mask
branch_mask Unmasked values = λ t. true
branch_mask Where values = mask_of values
branch_mask Elsewhere values = negated_mask values

-- the stores of the tuples at which the mask is true
abbrev pub kept : List (Option Store) → List Store
kept [] = []
kept (None ∷ os) = kept os
kept (Some st ∷ os) = st ∷ kept os

abbrev pub kept_of : Result (List (Option Store)) Cause → Result (List Store) Cause
kept_of r = r >>= (λ os. Ok (kept os))

-- a store more, or none
abbrev pub Keeps : Result (Option Store) Cause → List Store → List Store → Type 0
Keeps r old new = (o : Option Store) × (r ≡ Ok o) × (new ≡ with_kept old o) where
  with_kept : List Store → Option Store → List Store
  with_kept stores None = stores
  with_kept stores (Some st) = stores ++ st ∷ []

-- what is stored at a tuple
abbrev pub tuple_store : State → ℕ → List Selection → Elemental → List ℤ → Result (Option Store) Cause
tuple_store s a ds x tuple = store_at s a (subscripts_at ds tuple) (value_at s tuple x)

-- what is stored at the tuple with a number, where the mask is true
abbrev pub masked_store : State → List ℕ → Mask → ℕ → List Selection → Elemental → ℕ → Result (Option Store) Cause
masked_store s ns mask a ds x t = if_true (mask t) (tuple_store s a ds x (positions ns t))

-- at all tuples of a space
abbrev pub space_stores : List ℕ → Mask → ℕ → List Selection → Elemental → State → Result (List Store) Cause
space_stores ns mask a ds x s = space_size ns (ds ∷ sections x) >>= (λ n. kept_of (each (positions ns) (masked_store s ns mask a ds x) n))

-- once the left side is evaluated
abbrev pub right_stores : List ℕ → Mask → ℕ → List Selection → Term → State → Result (List Store) Cause
right_stores ns mask a ds right s = elemental [] s right >>= (λ x. space_stores ns mask a ds x s)

-- of an array assignment, and of one in a WHERE
abbrev pub section_stores : ℕ → SectionSubscripts → Term → State → Result (List Store) Cause
section_stores a subs right s = selections [] s subs >>= (λ ds. right_stores (extents ds) (λ t. true) a ds right s)

abbrev pub where_stores : List ℕ → Mask → SectionAssignment → State → Result (List Store) Cause
where_stores ns mask b s = selections [] s b.subscripts >>= (λ ds. right_stores ns mask b.array ds b.right s)

-- values that were all taken before are stored, in order
abbrev pub stored_each : State → ℕ → List Store → State
stored_each s a stores = fold (λ s st. store s a st.place st.value) s stores
