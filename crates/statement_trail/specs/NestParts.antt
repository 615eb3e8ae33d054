-- Of the claim.
-- The parts of a nest of INDEPENDENT loops (HPF 2.0, 5.1): each is done at all iterations before the next one. An iteration has copies of its own of the scalars
-- that the nest assigns, and its own stored conditions.
use Rattle.std.specs.Prelude.{ℕ, zero, suc, ◌+◌, nat_eq, List, [], ◌∷◌, ◌++◌, Bool, true, false, if◌then◌else◌, Option, Some, None, unwrap_or, length}
use Rattle.nest_syntax.specs.Terms.{Term, Scalar, Element, Apply, Terms, NoTerm, More}
use Rattle.nest_syntax.specs.Statements.{Nest, Block, Done, Then, Statement, AssignScalar, AssignElement, If, Do, Arms, NoArm, Arm}
use Rattle.nest_syntax.specs.State.{State, set_scalar}
use Rattle.nest_syntax.specs.Sequence.{Sequence}
use Rattle.nest_syntax.specs.Iterations.{is_in, values_of, nest_axes, nest_indices, turn_value}
use Rattle.nest_syntax.specs.Touches.{assigned_in}
use Rattle.statement_trail.specs.Anchors.{AnchorText, block_anchor}

-- A nest that is entered: its indices, the innermost loop's first, and the values that they take; the scalars that it assigns, as declared; how many
-- conditions are stored; and what its copies lie beside
pub record EnteredNest : Type 0 where
  pub indices : List ℕ
  pub axes : List Sequence
  pub assigned : List ℕ
  pub conditions : ℕ
  pub beside : Option AnchorText

-- an assignment to a scalar, or to an element of an array; or a condition that is stored under a number: that of an arm, or, for ELSE, that it is reached
pub data NestPart : Type 0 where
  ScalarPart : ℕ → Term → NestPart
  ElementPart : ℕ → Terms → Term → NestPart
  ConditionPart : (number : ℕ) → Option Term → NestPart

-- ---- scalars and their copies

-- of so many numbers from one on, those that are among others
abbrev pub among_from : List ℕ → (first count : ℕ) → List ℕ
among_from ks k zero = []
among_from ks k (suc count) = if is_in k ks then k ∷ among_from ks (suc k) count else among_from ks (suc k) count

-- each number of a list once
abbrev pub each_once : List ℕ → List ℕ
each_once [] = []
each_once (k ∷ ks) = if is_in k ks then each_once ks else k ∷ each_once ks

-- those of a list that are among others
abbrev pub of_these : List ℕ → List ℕ → List ℕ
of_these these [] = []
of_these these (k ∷ ks) = if is_in k these then k ∷ of_these these ks else of_these these ks

-- the first place of a number in a list, counted from j
abbrev pub index_in : List ℕ → ℕ → ℕ → Option ℕ
index_in [] j k = None
index_in (x ∷ xs) j k = if nat_eq x k then Some j else index_in xs (suc j) k

-- the scalars in an expression
abbrev mutual
  pub scalars_in : Term → List ℕ
  scalars_in (Scalar k) = k ∷ []
  scalars_in (Element a ts) = all_scalars_in ts
  scalars_in (Apply o ts) = all_scalars_in ts
  scalars_in t = []

  pub all_scalars_in : Terms → List ℕ
  all_scalars_in NoTerm = []
  all_scalars_in (More t ts) = scalars_in t ++ all_scalars_in ts

-- those of these scalars, each once, that an expression names: they are read in their copies
abbrev pub copied_in : List ℕ → Term → List ℕ
copied_in assigned t = each_once (of_these assigned (scalars_in t))

-- ---- stored conditions

-- whether a block has a statement but CONTINUE. An ELSE that has none is no branch
abbrev pub has_statement : Block → Bool
has_statement Done = false
has_statement (Then line (AssignScalar k t) rest) = true
has_statement (Then line (AssignElement a ts t) rest) = true
has_statement (Then line (If arms other) rest) = true
has_statement (Then line (Do mark loop body) rest) = true
has_statement (Then line statement rest) = has_statement rest

abbrev mutual
  -- how many conditions a block stores: one for each branch of an IF
  pub conditions_in : Block → ℕ
  conditions_in Done = 0
  conditions_in (Then line statement rest) = conditions_by statement + conditions_in rest

  pub conditions_by : Statement → ℕ
  conditions_by (If arms other) = conditions_in_arms arms (if has_statement other then 1 + conditions_in other else 0)
  conditions_by (Do mark loop body) = conditions_in body
  conditions_by statement = 0

  pub conditions_in_arms : Arms → ℕ → ℕ
  conditions_in_arms NoArm other = other
  conditions_in_arms (Arm line t body arms) other = 1 + conditions_in body + conditions_in_arms arms other

-- ---- inner loops

-- The state in a trip of an inner loop, which all iterations make at a time, where `after` is what the loop's body does to indices. With the number of all trips it
-- is the state after the loop (Fortran 95, 8.1.4.4)
abbrev pub in_trip : (after : State → State) → (index : ℕ) → Sequence → State → ℕ → State
in_trip after index p s zero = set_scalar s index (turn_value p 0)
in_trip after index p s (suc x) = set_scalar (after (in_trip after index p s x)) index (turn_value p (suc x))

abbrev mutual
  -- the state after a block, as far as the indices of its loops go. In an IF there is no loop
  pub indices_after : Block → State → State
  indices_after Done s = s
  indices_after (Then line statement rest) s = indices_after rest (indices_by statement s)

  pub indices_by : Statement → State → State
  indices_by (Do mark loop body) s = in_trip (indices_after body) loop.index (values_of s loop) s (values_of s loop).count
  indices_by statement s = s

-- ---- copies

-- their numbers, from 0: the copies of scalars come first, as declared, and then the conditions
abbrev pub scalar_copy : EnteredNest → ℕ → ℕ
scalar_copy nest k = unwrap_or (index_in nest.assigned 0 k) 0

abbrev pub condition_copy : EnteredNest → ℕ → ℕ
condition_copy nest k = length nest.assigned + k

-- ---- at the entry

-- what the copies of a nest lie beside, by its text
abbrev pub nest_anchor : Nest → Block → Option AnchorText
nest_anchor nest body = block_anchor (index_in (nest_indices nest) 0) body

abbrev pub entered_nest : Nest → Block → State → EnteredNest
entered_nest nest body s = record {
  indices = nest_indices nest;
  axes = nest_axes s nest;
  assigned = among_from (assigned_in body) 0 (length s.scalars);
  conditions = conditions_in body;
  beside = nest_anchor nest body;
}
