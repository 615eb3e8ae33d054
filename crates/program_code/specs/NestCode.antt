-- Of the claim.
-- The code of nests of INDEPENDENT loops (HPF 2.0, 5.1): each statement at all iterations, over copies of the scalars that the nest assigns.
use Rattle.std.specs.Prelude.{ℕ, ◌+◌, ◌*◌, List, [], ◌∷◌, ◌++◌, length, map, pos, Option, Some, None, option_map, if◌then◌else◌, unwrap_or}
use Rattle.op_tables.specs.declared.join.Join.{Join}
use Rattle.op_tables.specs.declared.join.Join.TheVariants.{Sum}
use Rattle.op_tables.specs.declared.op.Op.TheVariants as op
use Rattle.op_tables.specs.Reductions.{joined_by}
use Rattle.array_meaning.specs.Terms.{Term, Apply}
use Rattle.array_meaning.specs.Statements.{Loop, Nest, Block, Done, Then, Statement, AssignScalar, AssignElement, If, Do, Arms, NoArm, Arm}
use Rattle.array_meaning.specs.Iterations.{is_in, nest_indices}
use Rattle.array_meaning.specs.Touches.{assigned_in}
use Rattle.node_code.specs.Flat.{Flat, Int, Slot, Operated, NoFlat, AndFlat}
use Rattle.node_code.specs.Anchors.{FlatAnchor}
use Rattle.node_code.specs.Forms.{Sub, SubAlong}
use Rattle.node_code.specs.NestStatements.{ElementLeft, CopyLeft}
use Rattle.node_code.specs.Instructions.{Instruction, Set, Trips}
use Rattle.program_code.specs.ExpressionCode.{index_flat, index_subs, index_form, anchor_code}
use Rattle.statement_trail.specs.NestKinds.{Kind, kind_of}
use Rattle.statement_trail.specs.ClosedTerms.{closed_value}
use Rattle.statement_trail.specs.Assigning.{Assigning, ToScalar, ToElement}
use Rattle.statement_trail.specs.Finals.{Final}
use Rattle.program_code.specs.NestTexts.{NestText, NestTest}
use Rattle.program_code.specs.NestInstructions as forms
use Rattle.program_code.specs.NestInstructions.{FlatBounds, NestBody, NestArms, count_nest, slots_of_nest, nest_instructions}
use Rattle.statement_trail.specs.NestParts as parts
use Rattle.statement_trail.specs.NestParts.{among_from, index_in, nest_anchor}
use Rattle.statement_trail.specs.NestTerms.{indexed, all_indexed}
use Rattle.program_code.specs.Places.{conditions_from, place_of, marks_of, finals_of}

-- ---- the innermost block as a body of texts

-- an assignment or a condition, with its line
pub record Lined (T : Type 0) : Type 0 where
  pub line : ℕ
  pub text : T

abbrev pub PlainBody : Type 0
PlainBody = NestBody (Lined Assigning) (Lined Term)

abbrev pub PlainArms : Type 0
PlainArms = NestArms (Lined Assigning) (Lined Term)

-- a step, which is a constant
abbrev pub step_flat : Term → Flat
step_flat t = Int (unwrap_or (closed_value t) (pos 0))

abbrev pub bounds_in : Loop → FlatBounds
bounds_in loop = record {
  index = loop.index;
  first = index_flat loop.control.first;
  last = index_flat loop.control.last;
  step = step_flat loop.control.step;
}

-- an ELSE without statements is none
abbrev pub plain_else : PlainBody → PlainArms
plain_else forms.NoText = forms.NoArm
plain_else block = forms.AndArm None block forms.NoArm

abbrev mutual
  pub plain : Block → PlainBody
  plain Done = forms.NoText
  plain (Then line statement rest) = plain_in line statement (plain rest)

  pub plain_in : ℕ → Statement → PlainBody → PlainBody
  plain_in line (AssignScalar k t) rest = forms.AndText (record { line = line; text = ToScalar k t }) rest
  plain_in line (AssignElement a ts t) rest = forms.AndText (record { line = line; text = ToElement a ts t }) rest
  plain_in line (If arms other) rest = forms.AndIf (plain_arms arms (plain_else (plain other))) rest
  plain_in line (Do mark loop inner) rest = forms.AndLoop (bounds_in loop) (plain inner) rest
  plain_in line statement rest = rest

  pub plain_arms : Arms → PlainArms → PlainArms
  plain_arms NoArm other = other
  plain_arms (Arm line t block arms) other = forms.AndArm (Some (record { line = line; text = t })) (plain block) (plain_arms arms other)

-- ---- the scalars that a nest assigns

-- the right sides of a scalar's assignments, in the order of the text
abbrev mutual
  pub rights_of : ℕ → Block → List Term
  rights_of k Done = []
  rights_of k (Then line statement rest) = rights_in k statement ++ rights_of k rest

  pub rights_in : ℕ → Statement → List Term
  rights_in k (AssignScalar x t) = if is_in k (x ∷ []) then t ∷ [] else []
  rights_in k (If arms other) = rights_in_arms k arms ++ rights_of k other
  rights_in k (Do mark loop body) = rights_of k body
  rights_in k statement = []

  pub rights_in_arms : ℕ → Arms → List Term
  rights_in_arms k NoArm = []
  rights_in_arms k (Arm line t block arms) = rights_of k block ++ rights_in_arms k arms

-- what joins the copies of a REDUCTION variable: the operator of its first reduction statement. A sum where there is none
abbrev pub operator_by : List Term → Join
operator_by (Apply o ts ∷ rights) = unwrap_or (joined_by o) Sum
operator_by rights = Sum

abbrev pub operator_in : Block → ℕ → Join
operator_in body k = operator_by (rights_of k body)

-- ---- where copies lie

-- the nest and the innermost block, where n names are declared
module _ (n : ℕ) (nest : Nest) (body : Block) where
  abbrev pub kinds_in : ℕ → Kind
  kinds_in = kind_of (operator_in body) nest body

  -- as declared
  abbrev pub scalars : List ℕ
  scalars = among_from (assigned_in body) 0 n

  -- how many stored conditions there are
  abbrev pub conditions : ℕ
  conditions = count_nest (plain body)

  -- how many rows the nest takes after the declared names: the copies of its scalars, its conditions, and the marks
  abbrev pub nest_rows : ℕ
  nest_rows = length scalars + conditions + length scalars

  abbrev pub stored : ℕ
  stored = conditions_from n scalars conditions

  abbrev pub place_in : ℕ → ℕ
  place_in = place_of n scalars conditions

  abbrev pub finals : List Final
  finals = finals_of n scalars conditions kinds_in

  -- ---- texts

  -- the scalars whose copies an expression reads
  abbrev pub copied_in : Term → List ℕ
  copied_in = parts.copied_in scalars

  -- a name as an index of a form: an index of the nest, or after those a scalar whose copy is read
  abbrev pub axis_in : List ℕ → ℕ → Option ℕ
  axis_in copies = index_in (nest_indices nest ++ copies) 0

  abbrev pub text_in : Lined Assigning → NestText
  text_in a = by_side a.line a.text where
    by_side : ℕ → Assigning → NestText
    by_side line (ToScalar k t) = record {
      line = line;
      copies = map place_in (copied_in t);
      names = copied_in t;
      left = CopyLeft (place_in k);
      right = index_form (indexed (axis_in (copied_in t)) t);
      mark = marks_of n scalars conditions kinds_in k;
    }
    by_side line (ToElement a ts t) = record {
      line = line;
      copies = map place_in (copied_in t);
      names = copied_in t;
      left = ElementLeft a (index_subs (all_indexed (axis_in (copied_in t)) ts));
      right = index_form (indexed (axis_in (copied_in t)) t);
      mark = None;
    }

  abbrev pub test_in : Lined Term → NestTest
  test_in c = record {
    line = c.line;
    copies = map place_in (copied_in c.text);
    names = copied_in c.text;
    form = index_form (indexed (axis_in (copied_in c.text)) c.text);
  }

-- ---- the loops of a nest, each with four slots from v on: the first value, the last value, the step, and how many trips are left after the first

-- the values of the indices, the innermost loop's first
abbrev pub along : ℕ → List Loop → List Sub
along v [] = []
along v (l ∷ ls) = along (v + 4) ls ++ SubAlong v ∷ []

-- the bounds of loops
abbrev pub bounds_code : ℕ → ℕ → List Loop → List Instruction
bounds_code line v [] = []
bounds_code line v (l ∷ ls) =
    Set line v (index_flat l.control.first) ∷ Set line (v + 1) (index_flat l.control.last) ∷ Set line (v + 2) (step_flat l.control.step)
    ∷ bounds_code line (v + 4) ls

-- the run goes on at a target where a loop makes no trip
abbrev pub trips_code : ℕ → ℕ → (target : ℕ) → List Loop → List Instruction
trips_code line v target [] = []
trips_code line v target (l ∷ ls) = Trips line v (v + 1) (v + 2) (v + 3) target ∷ trips_code line (v + 4) target ls

-- each index has its value after the loop (Fortran 95, 8.1.4.4.4); inside a loop that makes no trip no loop begins, and the run goes on at a target
abbrev pub indices_code : ℕ → ℕ → (target : ℕ) → List Loop → List Instruction
indices_code line v target [] = []
indices_code line v target (l ∷ ls) =
    Set line l.index (Slot v) ∷ Trips line v (v + 1) (v + 2) (v + 3) target
    ∷ Set line l.index (Operated op.Add (AndFlat (Slot v)
    (AndFlat (Operated op.Mul (AndFlat (Operated op.Add (AndFlat (Slot (v + 3)) (AndFlat (Int (pos 1)) NoFlat))) (AndFlat (Slot (v + 2)) NoFlat))) NoFlat)))
    ∷ indices_code line (v + 4) target ls

-- ---- nests

-- what its copies lie beside
abbrev pub nest_beside : Nest → Block → Option FlatAnchor
nest_beside nest body = option_map anchor_code (nest_anchor nest body)

-- how many slots a nest takes from those of the bounds of its outermost loop on
abbrev pub nest_slots : Nest → Block → ℕ
nest_slots nest body = 4 * length nest.loops + slots_of_nest (plain body)

-- the bounds of the loops in it
abbrev pub inner_bounds : ℕ → ℕ → List Loop → List Instruction
inner_bounds line v [] = []
inner_bounds line v (l ∷ ls) = bounds_code line (v + 4) ls

-- The nest of a line at a place, after the bounds of the outermost loop are in the slots from v on and the entry is checked. One without an iteration
-- sets indices alone, and runs no loop inside
abbrev pub nest_code : (n line : ℕ) → Nest → Block → (v pc : ℕ) → List Instruction
nest_code n line nest body v pc =
    let bounds = inner_bounds line v nest.loops in
    let from : ℕ = pc + length bounds + length nest.loops in
    let over = along v nest.loops in
    let statements = nest_instructions line over (nest_beside nest body) (text_in n nest body) (test_in n nest body) (stored n nest body) (finals n nest body) (plain body)
    (v + 4 * length nest.loops) from in
    let after : ℕ = from + length statements in
    bounds ++ (trips_code line v after nest.loops ++ (statements ++ indices_code line v (after + 3 * length nest.loops) nest.loops))
