-- Of a promise.
-- Scalars that a nest assigns: each is one object in Fortran's loops, and has a copy for each iteration where the nest is taken
-- apart (HPF 2.0, section 5.1).
use Rattle.std.specs.Prelude.{ℕ, suc, List, [], ◌∷◌, slice_index_or, replicate, ℤ, pos, Option, Some, None, if◌then◌else◌}
use Rattle.op_tables.specs.Joins.{unit}
use Rattle.storage.specs.Storage.{Storage, Spot}
use Rattle.storage.specs.Effect.{Effect, Skip, Put, Fail}
use Rattle.nest_syntax.specs.NestKinds.{Kind, Shared, New, Assigned, Reduced, has_copies}
use Rattle.nest_order.specs.Items.{Items, Done, Then, If, Repeat, Branches, EndIf, Branch}
use Rattle.nest_order.specs.Nest.{Interpretation}
use Rattle.nest_order.specs.LastValue.{copy_at}

-- a scalar as one object: a row of one element
abbrev pub scalar_at : ℕ → Spot
scalar_at row = record { row = row; at = 0 }

-- the rows of a storage, each made anew by its number, of which the first is given
abbrev pub each_row : (ℕ → List ℤ → List ℤ) → ℕ → Storage → Storage
each_row change number [] = []
each_row change number (elements ∷ rest) = change number elements ∷ each_row change (suc number) rest

-- a scalar's copies at the nest's entry: a REDUCTION variable's have its operator's unit, and any other's the scalar's value
abbrev pub entry_copies : Kind → ℕ → List ℤ → List ℤ
entry_copies Shared n elements = elements
entry_copies New n elements = replicate n (slice_index_or elements 0 (pos 0))
entry_copies Assigned n elements = replicate n (slice_index_or elements 0 (pos 0))
entry_copies (Reduced op) n elements = replicate n (unit op)

-- a text that stands in an iteration
pub record InIteration (T : Type 0) : Type 0 where
  pub iteration : ℕ
  pub text : T

abbrev pub in_iteration : {T : Type 0} → ℕ → T → InIteration T
in_iteration i text = record { iteration = i; text = text }

-- a branch's condition, as a text of the iteration. ELSE has none
abbrev pub condition_in : {C : Type 0} → ℕ → Option C → Option (InIteration C)
condition_in i None = None
condition_in i (Some condition) = Some (in_iteration i condition)

module _ {A C : Type 0} (i : ℕ) where
  abbrev mutual
    -- the statements of an iteration, each with its number
    pub items_in : Items A C → Items (InIteration A) (InIteration C)
    items_in Done = Done
    items_in (Then action rest) = Then (in_iteration i action) (items_in rest)
    items_in (If branches rest) = If (branches_in branches) (items_in rest)
    items_in (Repeat trips body rest) = Repeat trips (λ x. items_in (body x)) (items_in rest)

    pub branches_in : Branches A C → Branches (InIteration A) (InIteration C)
    branches_in EndIf = EndIf
    branches_in (Branch test body others) = Branch (condition_in i test) (items_in body) (branches_in others)

-- `kinds` are the kinds of the rows
module _ (kinds : ℕ → Kind) where
  -- the storage as iteration i sees it: its own copy of a scalar is the scalar, and no other is there
  abbrev pub seen_by : ℕ → Storage → Storage
  seen_by i m = each_row (λ row elements. if has_copies (kinds row) then slice_index_or elements i (pos 0) ∷ [] else elements) 0 m

  -- where iteration i stores what it stores to a spot: a scalar in its own copy
  abbrev pub own_spot : ℕ → Spot → Spot
  own_spot i spot = if has_copies (kinds spot.row) then copy_at spot.row i else spot

  abbrev pub own_effect : {F : Type 0} → ℕ → Effect F → Effect F
  own_effect i Skip = Skip
  own_effect i (Put spot value) = Put (own_spot i spot) value
  own_effect i (Fail fault) = Fail fault

  -- the storage with copies for n iterations at the nest's entry
  abbrev pub with_copies : ℕ → Storage → Storage
  with_copies n start = each_row (λ row. entry_copies (kinds row) n) 0 start

  -- the same texts over a storage with copies: each reads and assigns its iteration's copies
  abbrev pub copied : {A C F : Type 0} → Interpretation A C F → Interpretation (InIteration A) (InIteration C) F
  copied one = record {
    effect = λ action m. own_effect action.iteration (one.effect action.text (seen_by action.iteration m));
    condition = λ condition m. one.condition condition.text (seen_by condition.iteration m);
  }
