-- Of a promise.
-- The statements of a nest as those of the law of nests (`nest_order`), over the storage of a state.
use Rattle.std.specs.Prelude.{ℕ, [], ℤ, Bool, Some, None, Result, Ok, Err}
use Rattle.op_tables.specs.Operators.{is_true}
use Rattle.storage.specs.Effect.{Effect, Put, Fail}
use Rattle.nest_order.specs.Items as items
use Rattle.nest_order.specs.Items.{Items, Branches, EndIf, Branch, Repeat}
use Rattle.nest_order.specs.Nest.{Interpretation}
use Rattle.nest_syntax.specs.NestKinds.{Kind}
use Rattle.nest_order.specs.Copies.{scalar_at}
use Rattle.array_meaning.specs.Terms.{Term}
use Rattle.array_meaning.specs.Statements.{Nest, Block, Done, Then, Statement, AssignScalar, AssignElement, If, Do, Arms, NoArm, Arm}
use Rattle.array_meaning.specs.Faults.{Cause, Fault, ◌>>=◌}
use Rattle.array_meaning.specs.State.{State, set_scalar, place_in}
use Rattle.array_meaning.specs.Expressions.{value, values}
use Rattle.array_meaning.specs.Iterations.{values_of, turn_value, at_iteration}
use Rattle.nest_syntax.specs.Assigning.{Assigning, ToScalar, ToElement}
use Rattle.nest_items.specs.StateStorage.{state_of}

-- ---- texts

-- a text of a line in an iteration: the state at the entry, with the values of the indices that are round it. A scalar that no row of the
-- storage has, as an index, is read there
pub record TextAt (T : Type 0) : Type 0 where
  pub line : ℕ
  pub entry : State
  pub text : T

abbrev pub fault_of : ℕ → Cause → Fault
fault_of line c = record { line = line; kind = c.kind; at = c.at }

-- what an assignment does, by the value of its right side
abbrev pub scalar_effect : ℕ → ℕ → Result ℤ Cause → Effect Fault
scalar_effect line k (Ok v) = Put (scalar_at k) v
scalar_effect line k (Err c) = Fail (fault_of line c)

-- by the place of the element too: its fault comes first
abbrev pub element_effect : ℕ → ℕ → Result ℕ Cause → Result ℤ Cause → Effect Fault
element_effect line a (Ok k) (Ok v) = Put (record { row = a; at = k }) v
element_effect line a (Ok k) (Err c) = Fail (fault_of line c)
element_effect line a (Err c) right = Fail (fault_of line c)

abbrev pub effect_in : ℕ → Assigning → State → Effect Fault
effect_in line (ToScalar k t) s = scalar_effect line k (value [] s t)
effect_in line (ToElement a ts t) s = element_effect line a (values [] s ts >>= place_in s a) (value [] s t)

abbrev pub truth_or_fault : ℕ → Result ℤ Cause → Result Bool Fault
truth_or_fault line (Ok v) = Ok (is_true v)
truth_or_fault line (Err c) = Err (fault_of line c)

-- what texts do to a storage: what they do to its state
abbrev pub one : (ℕ → Kind) → Interpretation (TextAt Assigning) (TextAt Term) Fault
one kinds = record {
  effect = λ x m. effect_in x.line x.text (state_of kinds x.entry m);
  condition = λ x m. truth_or_fault x.line (value [] (state_of kinds x.entry m) x.text);
}

-- ---- statements

abbrev pub Action : Type 0
Action = TextAt Assigning

abbrev pub Condition : Type 0
Condition = TextAt Term

abbrev pub text_at : {T : Type 0} → ℕ → State → T → TextAt T
text_at line s t = record { line = line; entry = s; text = t }

-- the last branch of an IF, which has no condition. An ELSE without statements is none: it reads nothing and does nothing
abbrev pub else_of : Items Action Condition → Branches Action Condition
else_of items.Done = EndIf
else_of body = Branch None body EndIf

-- from the state at the entry with the indices round a block. An inner loop sets its index in that state turn by turn, and CONTINUE is nothing
abbrev mutual
  pub items_of : State → Block → Items Action Condition
  items_of s Done = items.Done
  items_of s (Then line statement rest) = items_in line s statement (items_of s rest)

  pub items_in : ℕ → State → Statement → Items Action Condition → Items Action Condition
  items_in line s (AssignScalar k t) rest = items.Then (text_at line s (ToScalar k t)) rest
  items_in line s (AssignElement a ts t) rest = items.Then (text_at line s (ToElement a ts t)) rest
  items_in line s (If arms other) rest = items.If (branches_of s arms (items_of s other)) rest
  items_in line s (Do mark loop body) rest =
      Repeat (values_of s loop).count (λ x. items_of (set_scalar s loop.index (turn_value (values_of s loop) x)) body) rest
  items_in line s statement rest = rest

  pub branches_of : State → Arms → Items Action Condition → Branches Action Condition
  branches_of s NoArm other = else_of other
  branches_of s (Arm line t body arms) other = Branch (Some (text_at line s t)) (items_of s body) (branches_of s arms other)

-- the statements of the iteration of a number
abbrev pub iteration_items : Nest → Block → State → ℕ → Items Action Condition
iteration_items nest body s i = items_of (at_iteration nest s i) body
