-- Of the claim.
-- What a program with its names resolved stands for, apart from where it lies in memory.
use Rattle.std.specs.Prelude.{ℕ, suc, List, [], ◌∷◌, map, Option, Some, None, option_map}
use Rattle.resolved_program.specs.declared.terms.Term.{Term as HeldTerm}
use Rattle.resolved_program.specs.declared.terms.SectionSubscript.{SectionSubscript as HeldSubscript}
use Rattle.resolved_program.specs.declared.terms.SectionSubscript.TheBlock.{Number as Number', Scalar as Scalar', Index as Index', Element', Section', Apply', Reduce', Subscript as Subscript', Triplet as Triplet', Row_of-Term, end_of-Term, more_of-Term, Row_of-SectionSubscript, end_of-SectionSubscript, more_of-SectionSubscript}
use Rattle.resolved_program.specs.declared.statements.Control.{Control as HeldControl}
use Rattle.resolved_program.specs.declared.statements.Loop.{Loop as HeldLoop}
use Rattle.resolved_program.specs.declared.statements.Nest.{Nest as HeldNest}
use Rattle.resolved_program.specs.declared.statements.SectionAssignment.{SectionAssignment as HeldSectionAssignment}
use Rattle.resolved_program.specs.declared.statements.ElementAssignment.{ElementAssignment as HeldElementAssignment}
use Rattle.resolved_program.specs.declared.statements.WholeArray.{WholeArray as HeldWholeArray}
use Rattle.resolved_program.specs.declared.statements.Transformation.{Transformation as HeldTransformation}
use Rattle.resolved_program.specs.declared.statements.Transformation.TheVariants as how
use Rattle.resolved_program.specs.declared.statements.Item.{Item as HeldItem}
use Rattle.resolved_program.specs.declared.statements.Item.TheVariants as held
use Rattle.resolved_program.specs.declared.statements.Arm.{Arm as HeldArm}
use Rattle.resolved_program.specs.declared.statements.Statement.{Statement as HeldStatement}
use Rattle.resolved_program.specs.declared.statements.Action.{Action}
use Rattle.resolved_program.specs.declared.statements.Action.TheBlock.{AssignScalar as AssignScalar', AssignElement as AssignElement', AssignSection as AssignSection', Transform as Transform', If', Do', Where as Where', Forall as Forall', Print as Print', Stop as Stop', Exit as Exit', Cycle as Cycle', Continue as Continue', Redistribute as Redistribute', struct-Arm, Row_of-Statement, end_of-Statement, more_of-Statement, Row_of-Arm, end_of-Arm, more_of-Arm}
use Rattle.array_meaning.specs.Terms.{Term, Number, Scalar, Index, Element, Section, Apply, Reduce, Terms, NoTerm, More, SectionSubscripts, NoSubscript, Subscript, Triplet, Control}
use Rattle.array_meaning.specs.Statements.{SectionAssignment, ElementAssignment, WholeArray, Transformation, CircularShift, Transposition, PrefixSum, Item, Text, Value, Elements, Loop, Block, Done, Then, Statement, AssignScalar, AssignElement, AssignSection, Transform, If, Do, Where, Forall, Print, Stop, Exit, Cycle, Continue, Redistribute, Mark, Unmarked, Outermost, Arms, NoArm, Arm}

-- ---- expressions

abbrev mutual
  pub term : HeldTerm → Term
  term (Number' n) = Number n
  term (Scalar' k) = Scalar k
  term (Index' k) = Index k
  term (Element' a shape row) = Element a (terms row)
  term (Section' a shape row) = Section a (subscripts row)
  term (Apply' o shape row) = Apply o (terms row)
  term (Reduce' o p t) = Reduce o (term t)

  pub terms : {m : _} → Row_of-Term m → Terms
  terms end_of-Term = NoTerm
  terms (more_of-Term t row) = More (term t) (terms row)

  pub subscripts : {m : _} → Row_of-SectionSubscript m → SectionSubscripts
  subscripts end_of-SectionSubscript = NoSubscript
  subscripts (more_of-SectionSubscript d row) = with_subscript d (subscripts row)

  pub with_subscript : HeldSubscript → SectionSubscripts → SectionSubscripts
  with_subscript (Subscript' t) rest = Subscript (term t) rest
  with_subscript (Triplet' first last step) rest = Triplet (term first) (term last) (term step) rest

-- lists of terms and of section subscripts
abbrev pub terms_of : List HeldTerm → Terms
terms_of [] = NoTerm
terms_of (t ∷ ts) = More (term t) (terms_of ts)

abbrev pub subscripts_of : List HeldSubscript → SectionSubscripts
subscripts_of [] = NoSubscript
subscripts_of (d ∷ ds) = with_subscript d (subscripts_of ds)

-- ---- parts of statements

abbrev pub control : HeldControl → Control
control c = record { first = term c.first; last = term c.last; step = term c.step }

abbrev pub loop_of : HeldLoop → Loop
loop_of l = record { index = l.index; control = control l.control }

abbrev pub section_assignment : HeldSectionAssignment → SectionAssignment
section_assignment b = record { line = b.line; array = b.array; subscripts = subscripts_of b.subscripts.items; right = term b.right }

abbrev pub element_assignment : HeldElementAssignment → ElementAssignment
element_assignment b = record { line = b.line; array = b.array; subscripts = terms_of b.subscripts.items; right = term b.right }

abbrev pub whole_array : HeldWholeArray → WholeArray
whole_array w = record { array = w.array; dims = w.dims }

abbrev pub transformation : HeldTransformation → Transformation
transformation (how.CircularShift by) = CircularShift (term by)
transformation how.Transposition = Transposition
transformation how.PrefixSum = PrefixSum

abbrev pub item : HeldItem → Item
item (held.Text bytes) = Text bytes.items
item (held.Value t) = Value (term t)
item (held.Elements a ds) = Elements a (subscripts_of ds.items)

-- ---- nests

-- so many loops, each of which is the whole body of the one before: the loops, and the body of the last one
abbrev pub inner_loops : ℕ → Block → List Loop
inner_loops (suc n) (Then line (Do mark loop body) Done) = loop ∷ inner_loops n body
inner_loops n block = []

abbrev pub innermost : ℕ → Block → Block
innermost (suc n) (Then line (Do mark loop body) Done) = innermost n body
innermost n block = block

-- the mark of a loop, by how many loops its nest has
abbrev pub mark : Option HeldNest → Loop → Block → Mark
mark None loop body = Unmarked
mark (Some nest) loop body =
    Outermost record { line = nest.line; loops = loop ∷ inner_loops (nest.inner_loops) body; new = nest.new.items; reduction = nest.reduction.items } (innermost nest.inner_loops body)

abbrev pub do_loop : Option HeldNest → Loop → Block → Statement
do_loop nest loop body = Do (mark nest loop body) loop body

-- ---- statements

abbrev mutual
  pub statement : Action → Statement
  statement (AssignScalar' k t) = AssignScalar k (term t)
  statement (AssignElement' a ts t) = AssignElement a (terms_of ts.items) (term t)
  statement (AssignSection' a ds t) = AssignSection a (subscripts_of ds.items) (term t)
  statement (Transform' x y how) = Transform (whole_array x) (whole_array y) (transformation how)
  statement (If' shape arms' shape' row) = If (arms arms') (block row)
  statement (Do' nest loop shape row) = do_loop nest (loop_of loop) (block row)
  statement (Where' mask body others) = Where (term mask) (map section_assignment body.items) (map section_assignment others.items)
  statement (Forall' controls mask body) = Forall (map control controls.items) (option_map term mask) (map element_assignment body.items)
  statement (Print' items) = Print (map item items.items)
  statement Stop' = Stop
  statement Exit' = Exit
  statement Cycle' = Cycle
  statement Continue' = Continue
  statement Redistribute' = Redistribute

  pub block : {m : _} → Row_of-Statement m → Block
  block end_of-Statement = Done
  block (more_of-Statement n what row) = Then n (statement what) (block row)

  pub arms : {m : _} → Row_of-Arm m → Arms
  arms end_of-Arm = NoArm
  arms (more_of-Arm (struct-Arm n condition shape row) rest) = Arm n (term condition) (block row) (arms rest)

-- lists of statements and of arms
abbrev pub block_of : List HeldStatement → Block
block_of [] = Done
block_of (s ∷ ss) = Then s.line (statement s.what) (block_of ss)

abbrev pub with_arm : HeldArm → Arms → Arms
with_arm (struct-Arm n condition shape row) rest = Arm n (term condition) (block row) rest

abbrev pub arms_of : List HeldArm → Arms
arms_of [] = NoArm
arms_of (a ∷ rest) = with_arm a (arms_of rest)
