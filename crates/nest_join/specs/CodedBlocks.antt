-- Of a promise.
-- The innermost block of a nest as a body of texts for the machine.
use Rattle.std.specs.Prelude.{◌≡◌, ℕ, ◌<◌, nat_eq, List, [], ◌∷◌, Bool, true, false, ◌&&◌, Some, None, if◌then◌else◌}
use Rattle.op_tables.specs.Operators.{wrapped}
use Rattle.array_meaning.specs.Terms.{Term}
use Rattle.array_meaning.specs.State.{State}
use Rattle.array_meaning.specs.Statements.{Loop, Block, Done, Then, Statement, AssignScalar, AssignElement, If, Do, Unmarked, Continue, Arms, NoArm, Arm}
use Rattle.array_meaning.specs.Iterations.{values_of}
use Rattle.program_code.specs.ExpressionCode.{index_flat}
use Rattle.lowered_expressions.specs.WellFormed.{IsSubscript}
use Rattle.nest_syntax.specs.Assigning.{ToScalar, ToElement}
use Rattle.nest_items.specs.Naming.{IsNaming}
use Rattle.nest_items.specs.Standing.{has_no_loop, have_no_loop}
use Rattle.nest_items.specs.NestForm.{IsStep}
use Rattle.program_code.specs.NestInstructions as forms
use Rattle.program_code.specs.NestInstructions.{FlatBounds, NestBody, NestArms}
use Rattle.statement_trail.specs.NestParts.{index_in}
use Rattle.program_code.specs.NestCode.{step_flat}
use Rattle.nest_join.specs.NestNames.{NestNames, indices_of, IsTextTerm, IsText}
use Rattle.nest_join.specs.NestTexts.{NestAction, NestCondition}

-- the indices of loops but for those of the loops round a place
abbrev pub hidden_in : (ℕ → Bool) → List ℕ → ℕ → Bool
hidden_in is_index [] k = is_index k
hidden_in is_index (x ∷ round) k = if nat_eq x k then false else hidden_in is_index round k

module _ (w : NestNames) where
  -- ---- which blocks have code

  -- a bound names scalars that are no indices, and no operator in it divides
  abbrev pub IsBoundName : List ℕ → ℕ → Type 0
  IsBoundName round k = (k < w.count) × (w.is_index k ≡ false) × (index_in (indices_of w) 0 k ≡ None) × (index_in round 0 k ≡ None)

  abbrev pub IsBound : List ℕ → Term → Type 0
  IsBound round t = IsSubscript w.count t × IsNaming (IsBoundName round) (λ a. ⊥) t

  -- an inner loop: its index is that of no loop round it, and its step is a constant other than 0
  pub record IsCodedLoop (s : State) (round : List ℕ) (loop : Loop) : Type 0 where
    pub index : hidden_in w.is_index round loop.index ≡ true
    pub below : loop.index < w.count
    pub first : IsBound round loop.control.first
    pub last : IsBound round loop.control.last
    pub step : IsStep loop.control.step
    pub fits : wrapped (values_of s loop).first ≡ (values_of s loop).first

  module _ (s : State) where
    abbrev mutual
      pub IsCodedBlock : List ℕ → Block → Type 0
      IsCodedBlock round Done = Unit {0}
      IsCodedBlock round (Then line statement rest) = IsCodedStatement round statement × IsCodedBlock round rest

      pub IsCodedStatement : List ℕ → Statement → Type 0
      IsCodedStatement round (AssignScalar k t) = IsText w round (w.copied_in t) (ToScalar k t)
      IsCodedStatement round (AssignElement a ts t) = IsText w round (w.copied_in t) (ToElement a ts t)
      IsCodedStatement round (If arms other) = AreCodedArms round arms × IsCodedBlock round other × ((have_no_loop arms && has_no_loop other) ≡ true)
      IsCodedStatement round (Do Unmarked loop body) = IsCodedLoop s round loop × IsCodedBlock (loop.index ∷ round) body
      IsCodedStatement round Continue = Unit {0}
      IsCodedStatement round statement = ⊥

      pub AreCodedArms : List ℕ → Arms → Type 0
      AreCodedArms round NoArm = Unit {0}
      AreCodedArms round (Arm line t body arms) = IsTextTerm w round (w.copied_in t) t × IsCodedBlock round body × AreCodedArms round arms

  -- ---- their code

  abbrev pub CodedBody : Type 0
  CodedBody = NestBody (NestAction w) (NestCondition w)

  abbrev pub CodedArms : Type 0
  CodedArms = NestArms (NestAction w) (NestCondition w)

  abbrev pub loop_bounds : Loop → FlatBounds
  loop_bounds loop = record {
    index = loop.index;
    first = index_flat loop.control.first;
    last = index_flat loop.control.last;
    step = step_flat loop.control.step;
  }

  -- an ELSE without statements is none
  abbrev pub else_arm : CodedBody → CodedArms
  else_arm forms.NoText = forms.NoArm
  else_arm block = forms.AndArm None block forms.NoArm

  module _ (s : State) where
    abbrev mutual
      pub coded : (round : List ℕ) (block : Block) → IsCodedBlock s round block → CodedBody
      coded round Done ok = forms.NoText
      coded round (Then line statement rest) ok = coded_in line round statement ok.0 (coded round rest ok.1)

      pub coded_in : (line : ℕ) (round : List ℕ) (statement : Statement) → IsCodedStatement s round statement → CodedBody → CodedBody
      coded_in line round (AssignScalar k t) ok rest =
          forms.AndText (record { action = record { line = line; text = ToScalar k t; round = round; copies = w.copied_in t }; named = ok }) rest
      coded_in line round (AssignElement a ts t) ok rest =
          forms.AndText (record { action = record { line = line; text = ToElement a ts t; round = round; copies = w.copied_in t }; named = ok }) rest
      coded_in line round (If arms other) ok rest = forms.AndIf (coded_arms round arms ok.0 (else_arm (coded round other ok.1))) rest
      coded_in line round (Do Unmarked loop inner) ok rest = forms.AndLoop (loop_bounds loop) (coded (loop.index ∷ round) inner ok.1) rest
      coded_in line round statement ok rest = rest

      pub coded_arms : (round : List ℕ) (arms : Arms) → AreCodedArms s round arms → CodedArms → CodedArms
      coded_arms round NoArm ok other = other
      coded_arms round (Arm line t block arms) ok other =
          forms.AndArm (Some (record { condition = record { line = line; text = t; round = round; copies = w.copied_in t }; named = ok.0 })) (coded round block ok.1)
          (coded_arms round arms ok.2 other)
