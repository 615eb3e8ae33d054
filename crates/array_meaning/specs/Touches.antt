-- Of the claim.
-- What an iteration of a nest touches (HPF 2.0, 5.1): the scalars and the elements that it reads or writes, but for those that each iteration
-- has of its own.
use Rattle.std.specs.Prelude.{ℕ, List, [], ◌∷◌, ◌++◌, ℤ, Bool, true, false, ◌&&◌, not, if◌then◌else◌, Option, Some, None, Result, Ok, Err}
use Rattle.name_table.specs.Operators.{is_true}
use Rattle.array_meaning.specs.Terms.{Term, Number, Scalar, Element, Apply, Terms, NoTerm, More}
use Rattle.array_meaning.specs.Statements.{Nest, Block, Done, Then, Statement, AssignScalar, AssignElement, If, Do, Arms, NoArm, Arm}
use Rattle.array_meaning.specs.Faults.{Cause, ◌>>=◌}
use Rattle.array_meaning.specs.State.{State, set_scalar, place_in}
use Rattle.array_meaning.specs.Expressions.{value, values}
use Rattle.array_meaning.specs.Iterations.{is_in, values_of, nest_indices, at_iteration, turn_value, in_turns}

-- an object that is read or written: a scalar, whose place is 0, or an element of an array by its place
pub record Touch : Type 0 where
  pub name : ℕ
  pub place : ℕ
  pub writes : Bool

-- hidden scalars are those of NEW and REDUCTION lists and the indices of loops
abbrev pub scalar_touch : List ℕ → Bool → ℕ → List Touch
scalar_touch hidden writes k = if is_in k hidden then [] else record { name = k; place = 0; writes = writes } ∷ []

-- an element out of bounds is none
abbrev pub element_touch : Bool → ℕ → Result ℕ Cause → List Touch
element_touch writes a (Ok k) = record { name = a; place = k; writes = writes } ∷ []
element_touch writes a (Err c) = []

-- the references in an expression; what stands in subscripts isn't assigned in a nest
abbrev mutual
  pub reads : List ℕ → State → Term → List Touch
  reads hidden s (Scalar k) = scalar_touch hidden false k
  reads hidden s (Element a ts) = element_touch false a (values [] s ts >>= place_in s a)
  reads hidden s (Apply o ts) = all_reads hidden s ts
  reads hidden s t = []

  pub all_reads : List ℕ → State → Terms → List Touch
  all_reads hidden s NoTerm = []
  all_reads hidden s (More t ts) = reads hidden s t ++ all_reads hidden s ts

-- the scalars that are assigned in a block
abbrev mutual
  pub assigned_in : Block → List ℕ
  assigned_in Done = []
  assigned_in (Then line statement rest) = assigned_by statement ++ assigned_in rest

  pub assigned_by : Statement → List ℕ
  assigned_by (AssignScalar k right) = k ∷ []
  assigned_by (If arms other) = assigned_in_arms arms ++ assigned_in other
  assigned_by (Do mark loop body) = assigned_in body
  assigned_by statement = []

  pub assigned_in_arms : Arms → List ℕ
  assigned_in_arms NoArm = []
  assigned_in_arms (Arm line t body arms) = assigned_in body ++ assigned_in_arms arms

-- an expression without arrays and without these scalars
abbrev mutual
  pub is_known : List ℕ → Term → Bool
  is_known assigned (Number n) = true
  is_known assigned (Scalar k) = not (is_in k assigned)
  is_known assigned (Apply o ts) = are_known assigned ts
  is_known assigned t = false

  pub are_known : List ℕ → Terms → Bool
  are_known assigned NoTerm = true
  are_known assigned (More t ts) = is_known assigned t && are_known assigned ts

-- whether a condition with this value is true
abbrev pub truth_of : Result ℤ Cause → Option Bool
truth_of (Ok v) = Some (is_true v)
truth_of (Err c) = None

-- whether a condition is true, where that is known at the entry; one that divides by zero isn't known
abbrev pub known_truth : List ℕ → State → Term → Option Bool
known_truth assigned s t = if is_known assigned t then truth_of (value [] s t) else None

-- of a branch and what stands after it: by a condition that is known one of them counts, and else both
abbrev pub counted : Option Bool → List Touch → List Touch → List Touch
counted (Some true) taken later = taken
counted (Some false) taken later = later
counted None taken later = taken ++ later

-- in the state at the entry, with the indices as they are in the iteration
abbrev mutual
  pub touches : List ℕ → List ℕ → State → Block → List Touch
  touches assigned hidden s Done = []
  touches assigned hidden s (Then line statement rest) = touches_in assigned hidden s statement ++ touches assigned hidden s rest

  pub touches_in : List ℕ → List ℕ → State → Statement → List Touch
  touches_in assigned hidden s (AssignScalar k right) = reads hidden s right ++ scalar_touch hidden true k
  touches_in assigned hidden s (AssignElement a subscripts right) = reads hidden s right ++ element_touch true a (values [] s subscripts >>= place_in s a)
  touches_in assigned hidden s (If arms other) = touches_in_arms assigned hidden s arms (touches assigned hidden s other)
  touches_in assigned hidden s (Do mark loop body) =
      in_turns (values_of s loop).count (λ x. touches assigned (loop.index ∷ hidden) (set_scalar s loop.index (turn_value (values_of s loop) x)) body)
  touches_in assigned hidden s statement = []

  pub touches_in_arms : List ℕ → List ℕ → State → Arms → List Touch → List Touch
  touches_in_arms assigned hidden s NoArm other = other
  touches_in_arms assigned hidden s (Arm line t body arms) other =
      reads hidden s t ++ counted (known_truth assigned s t) (touches assigned hidden s body) (touches_in_arms assigned hidden s arms other)

-- the scalars of which each iteration has its own
abbrev pub hidden_scalars : Nest → List ℕ
hidden_scalars nest = nest.new ++ nest.reduction ++ nest_indices nest

-- what the iteration of a number touches, from 0
abbrev pub iteration_touches : Nest → Block → State → ℕ → List Touch
iteration_touches nest body s i = touches (assigned_in body) (hidden_scalars nest) (at_iteration nest s i) body
