-- Of private clauses.
-- That the numbers of a program are of 64 bits has one proof at most, so a type may keep it.
use Rattle.std.specs.Prelude.{List, [], ◌∷◌, Option, Some, None}
use Rattle.std.proofs.Props.{props}
use Rattle.std.specs.List.{AllByRecursion}
use Rattle.syntax_tree.specs.MainProgram.{MainProgram}
use Rattle.array_meaning.specs.Entries.{entries}
use Rattle.array_meaning.specs.Entry.{Entry}
use Rattle.array_meaning.specs.What.{What}
use Rattle.array_meaning.specs.What.TheVariants as what
use Rattle.array_meaning.specs.Terms.{Term, Number, Scalar, Index, Element, Section, Apply, Reduce, Terms, NoTerm, More, SectionSubscripts, NoSubscript, Subscript, Triplet, Control}
use Rattle.array_meaning.specs.Statements.{SectionAssignment, ElementAssignment, Transformation, CircularShift, Transposition, PrefixSum, Loop, Block, Done, Then, Statement, AssignScalar, AssignElement, AssignSection, Transform, If, Do, Where, Forall, Print, Stop, Exit, Cycle, Continue, Redistribute, Mark, Unmarked, Outermost, Arms, NoArm, Arm}
use Rattle.array_meaning.specs.Resolution.{resolved_block}
use Rattle.fitting_states.specs.FittingStates.{InitialValueFits, InitialValuesFit, TermFits, TermsFit, SubscriptsFit, ControlFits, MaskFits, SectionAssignmentFits, ElementAssignmentFits, TransformationFits, BlockFits, StatementFits, MarkFits, ArmsFit, ProgramFits}

unit-prop : IsProp (Unit {0})
unit-prop = Prim.hlevel props

two-prop : {A B : Type 0} → IsProp A → IsProp B → IsProp (A × B)
two-prop a b x y i = (a x.0 y.0 i, b x.1 y.1 i)

three-prop : {A B C : Type 0} → IsProp A → IsProp B → IsProp C → IsProp (A × B × C)
three-prop a b c x y i = (a x.0 y.0 i, b x.1 y.1 i, c x.2 y.2 i)

four-prop : {A B C D : Type 0} → IsProp A → IsProp B → IsProp C → IsProp D → IsProp (A × B × C × D)
four-prop a b c d x y i = (a x.0 y.0 i, b x.1 y.1 i, c x.2 y.2 i, d x.3 y.3 i)

all-prop : {A : Type 0} (P : A → Type 0) → ((a : A) → IsProp (P a)) → (as' : List A) → IsProp (AllByRecursion P as')
all-prop P h [] = unit-prop
all-prop P h (a ∷ as') = two-prop (h a) (all-prop P h as')

mutual
  term-prop : (t : Term) → IsProp (TermFits t)
  term-prop (Number v) = Prim.hlevel props
  term-prop (Scalar k) = unit-prop
  term-prop (Index k) = unit-prop
  term-prop (Element a ts) = terms-prop ts
  term-prop (Section a subs) = subscripts-prop subs
  term-prop (Apply o ts) = terms-prop ts
  term-prop (Reduce o t) = term-prop t

  terms-prop : (ts : Terms) → IsProp (TermsFit ts)
  terms-prop NoTerm = unit-prop
  terms-prop (More t ts) = two-prop (term-prop t) (terms-prop ts)

  subscripts-prop : (subs : SectionSubscripts) → IsProp (SubscriptsFit subs)
  subscripts-prop NoSubscript = unit-prop
  subscripts-prop (Subscript t subs) = two-prop (term-prop t) (subscripts-prop subs)
  subscripts-prop (Triplet first last step subs) = four-prop (term-prop first) (term-prop last) (term-prop step) (subscripts-prop subs)

control-prop : (c : Control) → IsProp (ControlFits c)
control-prop c = three-prop (term-prop c.first) (term-prop c.last) (term-prop c.step)

mask-prop : (mask : Option Term) → IsProp (MaskFits mask)
mask-prop None = unit-prop
mask-prop (Some t) = term-prop t

sections-prop : (bs : List SectionAssignment) → IsProp (AllByRecursion SectionAssignmentFits bs)
sections-prop = all-prop SectionAssignmentFits (λ b. two-prop (subscripts-prop b.subscripts) (term-prop b.right))

elements-prop : (bs : List ElementAssignment) → IsProp (AllByRecursion ElementAssignmentFits bs)
elements-prop = all-prop ElementAssignmentFits (λ b. two-prop (terms-prop b.subscripts) (term-prop b.right))

transformation-prop : (how : Transformation) → IsProp (TransformationFits how)
transformation-prop (CircularShift by) = term-prop by
transformation-prop Transposition = unit-prop
transformation-prop PrefixSum = unit-prop

mutual
  block-prop : (b : Block) → IsProp (BlockFits b)
  block-prop Done = unit-prop
  block-prop (Then line st rest) = two-prop (statement-prop st) (block-prop rest)

  statement-prop : (st : Statement) → IsProp (StatementFits st)
  statement-prop (AssignScalar k t) = term-prop t
  statement-prop (AssignElement a ts t) = two-prop (terms-prop ts) (term-prop t)
  statement-prop (AssignSection a subs t) = two-prop (subscripts-prop subs) (term-prop t)
  statement-prop (Transform x y how) = transformation-prop how
  statement-prop (If arms other) = two-prop (arms-prop arms) (block-prop other)
  statement-prop (Do mark loop body) = three-prop (mark-prop mark) (control-prop loop.control) (block-prop body)
  statement-prop (Where mask body others) = three-prop (term-prop mask) (sections-prop body) (sections-prop others)
  statement-prop (Forall controls mask body) = three-prop (all-prop ControlFits control-prop controls) (mask-prop mask) (elements-prop body)
  statement-prop (Print items) = unit-prop
  statement-prop Stop = unit-prop
  statement-prop Exit = unit-prop
  statement-prop Cycle = unit-prop
  statement-prop Continue = unit-prop
  statement-prop Redistribute = unit-prop

  mark-prop : (mark : Mark) → IsProp (MarkFits mark)
  mark-prop Unmarked = unit-prop
  mark-prop (Outermost nest innermost) = two-prop (all-prop (λ (l : Loop). ControlFits l.control) (λ l. control-prop l.control) nest.loops) (block-prop innermost)

  arms-prop : (arms : Arms) → IsProp (ArmsFit arms)
  arms-prop NoArm = unit-prop
  arms-prop (Arm line t body arms) = three-prop (term-prop t) (block-prop body) (arms-prop arms)

value-prop : (w : What) → IsProp (InitialValueFits w)
value-prop (what.Scalar v) = Prim.hlevel props
value-prop (what.Array ds v) = Prim.hlevel props
value-prop (what.Constant v) = unit-prop
value-prop what.Template = unit-prop
value-prop what.Arrangement = unit-prop

values-prop : (names : List Entry) → IsProp (InitialValuesFit names)
values-prop = all-prop (λ (e : Entry). InitialValueFits e.what) (λ e. value-prop e.what)

pub program-prop : (p : MainProgram) → IsProp (ProgramFits p)
program-prop p = two-prop (values-prop (entries p)) (block-prop (resolved_block (entries p) p.body))
