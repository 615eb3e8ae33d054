-- Of a promise.
-- Programs all of whose numbers are of 64 bits, and states all of whose values are. The abstract syntax and the states of the meaning have integers
-- of any size.
use Rattle.std.specs.Prelude.{ℕ, List, Option, Some, None, slice_index_or, pos, FitsSigned}
use Rattle.std.specs.Int.{w64}
use Rattle.std.specs.List.{AllByRecursion}
use Rattle.syntax_tree.specs.MainProgram.{MainProgram}
use Rattle.array_meaning.specs.Entries.{entries}
use Rattle.array_meaning.specs.Entry.{Entry}
use Rattle.array_meaning.specs.What.{What}
use Rattle.array_meaning.specs.What.TheVariants as what
use Rattle.array_meaning.specs.Terms.{Term, Number, Element, Section, Apply, Reduce, Terms, NoTerm, More, SectionSubscripts, NoSubscript, Subscript, Triplet, Control}
use Rattle.array_meaning.specs.Statements.{SectionAssignment, ElementAssignment, Transformation, CircularShift, Transposition, PrefixSum, Block, Done, Then, Statement, AssignScalar, AssignElement, AssignSection, Transform, If, Do, Where, Forall, Mark, Unmarked, Outermost, Arms, NoArm, Arm}
use Rattle.array_meaning.specs.State.{State, scalar, array}
use Rattle.array_meaning.specs.Resolution.{resolved_block}

-- ---- states

-- every scalar and every element is of 64 bits; what isn't there is 0
pub record StateFits (s : State) : Type 0 where
  pub scalars : (k : ℕ) → FitsSigned w64 (scalar s k)
  pub elements : (a p : ℕ) → FitsSigned w64 (slice_index_or (array s a).elements p (pos 0))

-- the initial value of a declared name
abbrev pub InitialValueFits : What → Type 0
InitialValueFits (what.Scalar v) = FitsSigned w64 v
InitialValueFits (what.Array ds v) = FitsSigned w64 v
InitialValueFits w = Unit {0}

abbrev pub InitialValuesFit : List Entry → Type 0
InitialValuesFit names = AllByRecursion (λ e. InitialValueFits e.what) names

-- ---- expressions

abbrev mutual
  pub TermFits : Term → Type 0
  TermFits (Number v) = FitsSigned w64 v
  TermFits (Element a ts) = TermsFit ts
  TermFits (Section a subs) = SubscriptsFit subs
  TermFits (Apply o ts) = TermsFit ts
  TermFits (Reduce o t) = TermFits t
  TermFits t = Unit {0}

  pub TermsFit : Terms → Type 0
  TermsFit NoTerm = Unit {0}
  TermsFit (More t ts) = TermFits t × TermsFit ts

  -- the subscripts of a section
  pub SubscriptsFit : SectionSubscripts → Type 0
  SubscriptsFit NoSubscript = Unit {0}
  SubscriptsFit (Subscript t subs) = TermFits t × SubscriptsFit subs
  SubscriptsFit (Triplet first last step subs) = TermFits first × TermFits last × TermFits step × SubscriptsFit subs

abbrev pub ControlFits : Control → Type 0
ControlFits c = TermFits c.first × TermFits c.last × TermFits c.step

-- ---- statements. What PRINT evaluates is stored nowhere

-- the mask of a FORALL, where there is one
abbrev pub MaskFits : Option Term → Type 0
MaskFits None = Unit {0}
MaskFits (Some t) = TermFits t

-- an assignment of a WHERE, and one of a FORALL
abbrev pub SectionAssignmentFits : SectionAssignment → Type 0
SectionAssignmentFits b = SubscriptsFit b.subscripts × TermFits b.right

abbrev pub ElementAssignmentFits : ElementAssignment → Type 0
ElementAssignmentFits b = TermsFit b.subscripts × TermFits b.right

-- the number of places of a circular shift
abbrev pub TransformationFits : Transformation → Type 0
TransformationFits (CircularShift by) = TermFits by
TransformationFits Transposition = Unit {0}
TransformationFits PrefixSum = Unit {0}

abbrev mutual
  pub BlockFits : Block → Type 0
  BlockFits Done = Unit {0}
  BlockFits (Then line statement rest) = StatementFits statement × BlockFits rest

  pub StatementFits : Statement → Type 0
  StatementFits (AssignScalar k right) = TermFits right
  StatementFits (AssignElement a subscripts right) = TermsFit subscripts × TermFits right
  StatementFits (AssignSection a subs right) = SubscriptsFit subs × TermFits right
  StatementFits (Transform x y how) = TransformationFits how
  StatementFits (If arms other) = ArmsFit arms × BlockFits other
  StatementFits (Do mark loop body) = MarkFits mark × ControlFits loop.control × BlockFits body
  StatementFits (Where mask body others) = TermFits mask × AllByRecursion SectionAssignmentFits body × AllByRecursion SectionAssignmentFits others
  StatementFits (Forall controls mask body) = AllByRecursion ControlFits controls × MaskFits mask × AllByRecursion ElementAssignmentFits body
  StatementFits statement = Unit {0}

  -- a nest names its loops and its innermost block again
  pub MarkFits : Mark → Type 0
  MarkFits Unmarked = Unit {0}
  MarkFits (Outermost nest innermost) = AllByRecursion (λ l. ControlFits l.control) nest.loops × BlockFits innermost

  pub ArmsFit : Arms → Type 0
  ArmsFit NoArm = Unit {0}
  ArmsFit (Arm line t body arms) = TermFits t × BlockFits body × ArmsFit arms

-- ---- programs

-- the initial values of its names, and its statements
abbrev pub ProgramFits : MainProgram → Type 0
ProgramFits p = InitialValuesFit (entries p) × BlockFits (resolved_block (entries p) p.body)
