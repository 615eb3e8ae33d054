-- Of a promise.
-- What the texts of a nest read and write in the storage, and its reduction statements.
use Rattle.std.specs.Prelude.{ℕ, nat_eq, List, [], ◌∷◌, ◌++◌, map, ℤ, pos, Bool, false, if◌then◌else◌, Option, Some, None, Result, Ok, Err}
use Rattle.op_tables.specs.declared.op.Op.{Op}
use Rattle.op_tables.specs.declared.op.Op.TheVariants as op
use Rattle.storage.specs.Storage.{Spot}
use Rattle.nest_order.specs.Listed.{Names}
use Rattle.nest_order.specs.Reduction as reduction
use Rattle.nest_order.specs.Reduction.{OnRight, OnLeft, Subtracted}
use Rattle.nest_order.specs.Scalars.{Reducing}
use Rattle.nest_syntax.specs.NestKinds.{Kind, Reduced, is_read}
use Rattle.nest_order.specs.Copies.{scalar_at, InIteration, own_spot}
use Rattle.array_meaning.specs.Terms.{Term, Number, Scalar, Index, Element, Section, Apply, Reduce, Terms, NoTerm, More}
use Rattle.array_meaning.specs.Faults.{Cause, Fault, ◌>>=◌}
use Rattle.array_meaning.specs.State.{State, place_in}
use Rattle.array_meaning.specs.Expressions.{value, values}
use Rattle.array_meaning.specs.Touches.{known_truth}
use Rattle.nest_items.specs.StateStorage.{state_of}
use Rattle.nest_items.specs.NestItems.{fault_of, Action, Condition}
use Rattle.nest_syntax.specs.Assigning.{Assigning, ToScalar, ToElement}

-- ---- reduction statements

-- the variable alone
abbrev pub is_scalar : ℕ → Term → Bool
is_scalar k (Scalar j) = nat_eq j k
is_scalar k t = false

-- with the variable on the left
abbrev pub on_right : Op → ℤ → reduction.Statement
on_right op.Sub v = Subtracted v
on_right o v = OnRight v

-- a reduction statement, by the value of its expression
abbrev pub statement_of : ℕ → (ℤ → reduction.Statement) → Result ℤ Cause → Result reduction.Statement Fault
statement_of line f (Ok v) = Ok (f v)
statement_of line f (Err c) = Err (fault_of line c)

-- that of a variable with this right side; what has another form is asked nowhere
abbrev pub reduction_statement : ℕ → State → ℕ → Term → Result reduction.Statement Fault
reduction_statement line s k (Apply o (More a (More b NoTerm))) =
    if is_scalar k a then statement_of line (on_right o) (value [] s b) else statement_of line OnLeft (value [] s a)
reduction_statement line s k t = Ok (OnRight (pos 0))

-- ---- spots

-- an element out of bounds has none
abbrev pub element_spot : ℕ → Result ℕ Cause → List Spot
element_spot a (Ok p) = record { row = a; at = p } ∷ []
element_spot a (Err c) = []

-- `kinds` says what each name is to the nest
module _ (kinds : ℕ → Kind) where
  abbrev mutual
    -- what an expression reads in the storage. The variable of a reduction statement isn't among it
    pub spots_in : State → Term → List Spot
    spots_in s (Number v) = []
    spots_in s (Scalar k) = if is_read (kinds k) then scalar_at k ∷ [] else []
    spots_in s (Index k) = []
    spots_in s (Element a ts) = element_spot a (values [] s ts >>= place_in s a)
    spots_in s (Section a subs) = []
    spots_in s (Apply o ts) = all_spots s ts
    spots_in s (Reduce o t) = []

    pub all_spots : State → Terms → List Spot
    all_spots s NoTerm = []
    all_spots s (More t ts) = spots_in s t ++ all_spots s ts

  abbrev pub spots_read : State → Assigning → List Spot
  spots_read s (ToScalar k t) = spots_in s t
  spots_read s (ToElement a ts t) = spots_in s t

  abbrev pub spots_written : State → Assigning → List Spot
  spots_written s (ToScalar k t) = scalar_at k ∷ []
  spots_written s (ToElement a ts t) = element_spot a (values [] s ts >>= place_in s a)

  abbrev pub written_by : Action → List Spot
  written_by x = spots_written x.entry x.text

  -- what an assignment to a scalar of a kind is as a reduction statement
  abbrev pub reducing_by : ℕ → State → ℕ → Term → Kind → Option (Reducing Fault)
  reducing_by line s k t (Reduced op) = Some record { row = k; statement = λ m. reduction_statement line (state_of kinds s m) k t }
  reducing_by line s k t kind = None

  abbrev pub reducing_in : ℕ → State → Assigning → Option (Reducing Fault)
  reducing_in line s (ToScalar k t) = reducing_by line s k t (kinds k)
  reducing_in line s (ToElement a ts t) = None

  abbrev pub reducing : Action → Option (Reducing Fault)
  reducing x = reducing_in x.line x.entry x.text

  -- ---- what is listed for an iteration, with the conditions that are known where these scalars are assigned

  -- what is read
  abbrev pub reads : List ℕ → Names Action Condition Spot
  reads assigned = record {
    of_action = λ x. spots_read x.entry x.text;
    of_condition = λ x. spots_in x.entry x.text;
    known = λ x. known_truth assigned x.entry x.text;
  }

  -- what is read or written, where each iteration has copies
  abbrev pub touched_in : List ℕ → Names (InIteration Action) (InIteration Condition) Spot
  touched_in assigned = record {
    of_action = λ x. map (own_spot kinds x.iteration) (spots_read x.text.entry x.text.text ++ written_by x.text);
    of_condition = λ x. map (own_spot kinds x.iteration) (spots_in x.text.entry x.text.text);
    known = λ x. known_truth assigned x.text.entry x.text.text;
  }

  -- what is written, where each iteration has copies
  abbrev pub written_in : InIteration Action → List Spot
  written_in x = map (own_spot kinds x.iteration) (written_by x.text)

  -- what is written, or what is read or written
  abbrev pub names_of : List ℕ → Bool → Names Action Condition Spot
  names_of assigned w = record {
    of_action = λ x. (if w then [] else spots_read x.entry x.text) ++ written_by x;
    of_condition = λ x. if w then [] else spots_in x.entry x.text;
    known = λ x. known_truth assigned x.entry x.text;
  }
