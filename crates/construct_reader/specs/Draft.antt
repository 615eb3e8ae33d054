-- Of private clauses.
-- No public clause cites this file. The lines of a draft, and what may stand after them.
use Rattle.std.specs.Prelude.{◌≡◌, ℕ, Bool, true, false, ◌||◌, List, [], ◌∷◌, ◌++◌, Option, Some, None, IfSome, is_some, option_map}
use Rattle.syntax_tree.specs.declared.decl.EndForm.{EndForm}
use Rattle.syntax_tree.specs.declared.stmt.Arm.{Arm as HeldArm}
use Rattle.syntax_tree.specs.declared.stmt.Stmt.{Stmt}
use Rattle.syntax_tree.specs.declared.stmt.Mark.{Mark as HeldMark}
use Rattle.syntax_tree.specs.Expression.{expression}
use Rattle.statement_reader.specs.declared.kind.Kind.TheVariants as kind
use Rattle.statement_reader.specs.Forms as statements
use Rattle.statement_reader.specs.Views.{do_of, forall_of}
use Rattle.directive_reader.specs.Views.{names_in}
use Rattle.construct_rules.specs.declared.role.Clauses.{Clauses}
use Rattle.construct_rules.specs.declared.role.Construct.{Construct}
use Rattle.construct_rules.specs.declared.role.Construct.TheVariants as construct
use Rattle.construct_rules.specs.declared.role.Role.{Role}
use Rattle.construct_rules.specs.declared.role.Role.TheVariants as role
use Rattle.construct_rules.specs.ProgramLine.{OfStatement, ProgramLine}
use Rattle.construct_rules.specs.Roles.{clauses_of, role_of}
use Rattle.construct_rules.specs.NestState.{Open, opens_after, is_end, is_statement}
use Rattle.construct_rules.specs.Rules.{closes_wrongly, is_independent_target}
use Rattle.construct_reader.specs.declared.draft.Draft.{Draft}
use Rattle.construct_reader.specs.declared.draft.Open.{Open as HeldOpen}
use Rattle.construct_reader.specs.declared.draft.Opened.{Opened}
use Rattle.construct_reader.specs.declared.draft.Opened.TheVariants as opened
use Rattle.construct_reader.specs.Views.{spelled_if_blocks, spelled_block, spelled_end, spelled_independent, spelled_statement}
use Rattle.construct_reader.specs.Build.{are_begun}
use Rattle.construct_reader.specs.SpelledProgram.{SpelledBlock, SpelledStatement}
use Rattle.construct_reader.specs.Formed.{IsBlock, IsStatement, AreArms}
use Rattle.construct_reader.specs.ProgramLines.{Entry, AreEntriesOf, unnumbered, independent_lines, bare_independent_lines, block_lines, if_lines, statement_lines, else_if, end_if, end_do, end_where, end_forall, end_line}

-- the line of INDEPENDENT before a statement, where it stands there
abbrev pub mark_lines : Option HeldMark → List Entry
mark_lines mark = independent_lines (option_map spelled_independent mark)

-- the lines of an open construct before its innermost block
abbrev pub opened_lines : Opened → List Entry
opened_lines (opened.If n cond) = (Some n, OfStatement (statements.Plain kind.IfThen (expression cond))) ∷ []
opened_lines (opened.ElseIf first arms n cond glued) = if_lines (spelled_if_blocks arms.items) ++ (Some n, OfStatement (else_if glued (expression cond))) ∷ []
opened_lines (opened.Else first arms) = if_lines (spelled_if_blocks arms.items) ++ unnumbered (OfStatement (statements.Plain kind.Else tt)) ∷ []
opened_lines (opened.Do n head mark) = mark_lines mark ++ (Some n, OfStatement (statements.Plain kind.Do (do_of head))) ∷ []
opened_lines (opened.Where n mask) = (Some n, OfStatement (statements.Plain kind.Where (expression mask, None))) ∷ []
opened_lines (opened.ElseWhere n mask body) =
    (Some n, OfStatement (statements.Plain kind.Where (expression mask, None)))
    ∷ (block_lines (spelled_block body.items) ++ unnumbered (OfStatement (statements.Plain (kind.ElseWhere true) tt)) ∷ [])
opened_lines (opened.Forall n head marked) = bare_independent_lines marked ++ (Some n, OfStatement (statements.Plain kind.Forall (forall_of head, None))) ∷ []

abbrev pub opens_lines : List HeldOpen → List Entry
opens_lines [] = []
opens_lines (o ∷ os) = (block_lines (spelled_block o.before.items) ++ opened_lines o.what) ++ opens_lines os

abbrev pub end_lines : Option EndForm → List Entry
end_lines None = []
end_lines (Some e) = end_line (spelled_end e) ∷ []

-- the lines before an INDEPENDENT that is pending, and before END
abbrev pub base_lines : Draft → List Entry
base_lines d = opens_lines d.opens.items ++ block_lines (spelled_block d.block.items)

abbrev pub draft_lines : Draft → List Entry
draft_lines d = base_lines d ++ (mark_lines d.mark ++ end_lines d.end)

-- the open constructs, the innermost one first
abbrev pub open_of : Opened → Open
open_of (opened.If n cond) = record { construct = construct.If; otherwise = false }
open_of (opened.ElseIf first arms n cond glued) = record { construct = construct.If; otherwise = false }
open_of (opened.Else first arms) = record { construct = construct.If; otherwise = true }
open_of (opened.Do n head mark) = record { construct = construct.Do; otherwise = false }
open_of (opened.Where n mask) = record { construct = construct.Where; otherwise = false }
open_of (opened.ElseWhere n mask body) = record { construct = construct.Where; otherwise = true }
open_of (opened.Forall n head marked) = record { construct = construct.Forall; otherwise = false }

abbrev pub shape : List HeldOpen → List Open
shape [] = []
shape (o ∷ os) = shape os ++ open_of o.what ∷ []

-- the END part of a construct
abbrev pub end_part : Construct → Bool → statements.StatementForm
end_part construct.If glued = end_if glued
end_part construct.Do glued = end_do glued
end_part construct.Where glued = end_where glued
end_part construct.Forall glued = end_forall glued

abbrev pub innermost : List Open → Construct
innermost [] = construct.If
innermost (o ∷ os) = o.construct

-- what a program's lines ask before and after them
abbrev pub IsOpened : Opened → Type 0
IsOpened (opened.ElseIf first arms n cond glued) = (are_begun first arms.items ≡ true) × AreArms (spelled_if_blocks arms.items)
IsOpened (opened.Else first arms) = (are_begun first arms.items ≡ true) × AreArms (spelled_if_blocks arms.items)
IsOpened (opened.ElseWhere n mask body) = IsBlock (spelled_block body.items)
IsOpened o = Unit {0}

abbrev pub AreOpen : List HeldOpen → Type 0
AreOpen [] = Unit {0}
AreOpen (o ∷ os) = (IsBlock (spelled_block o.before.items) × IsOpened o.what) × AreOpen os

-- after END nothing is open
abbrev pub IsDraft : Draft → Type 0
IsDraft d = AreOpen d.opens.items × IsBlock (spelled_block d.block.items) × IfSome d.end (λ e. (d.opens.items ≡ []) × (d.mark ≡ None))

-- whether INDEPENDENT has a clause
abbrev pub clauses_in : HeldMark → Clauses
clauses_in m = clauses_of (is_some (names_in m.new) || is_some (names_in m.reduction))

-- what a draft is to the lines after it
pub record Status : Type 0 where
  pub opens : List Open
  pub pending : Option Clauses
  pub ended : Bool

abbrev pub status : Draft → Status
status d = record { opens = shape d.opens.items; pending = option_map clauses_in d.mark; ended = is_some d.end }

-- a line may stand after INDEPENDENT
abbrev pub fits_mark : Option Clauses → Role → Bool
fits_mark None r = true
fits_mark (Some cs) r = is_independent_target cs (r ∷ [])

abbrev pub is_inner : Role → Bool
is_inner role.Redistribute = true
is_inner (role.Independent cs) = true
is_inner r = is_statement r

-- a line may stand after a draft
pub record Takes (s : Status) (r : Role) : Type 0 where
  pub inner : is_inner r ≡ true
  pub going : s.ended ≡ false
  pub placed : closes_wrongly s.opens r ≡ false
  pub marks : fits_mark s.pending r ≡ true

abbrev pub pending_after : Role → Option Clauses
pending_after (role.Independent cs) = Some cs
pending_after r = None

abbrev pub status_after : Status → Role → Status
status_after s r = record { opens = opens_after r s.opens; pending = pending_after r; ended = is_end r }

-- a draft is another with a line after it
pub record IsAfter (d : Draft) (l : ProgramLine) (b : Draft) : Type 0 where
  pub lines : (ls : List ProgramLine) → AreEntriesOf (draft_lines d) ls → AreEntriesOf (draft_lines b) (ls ++ l ∷ [])
  pub sound : IsDraft b
  pub stands : status b ≡ status_after (status d) (role_of l.what)

-- a statement is an open construct with its innermost block and its END part
pub record IsEnded (w : Opened) (b : SpelledBlock) (glued : Bool) (s : SpelledStatement) : Type 0 where
  pub lines : statement_lines s ≡ (opened_lines w ++ block_lines b) ++ unnumbered (OfStatement (end_part (open_of w).construct glued)) ∷ []
  pub sound : IsStatement s

-- arms are those of an open IF, with its innermost block
pub record AreFinished (w : Opened) (b : SpelledBlock) (first : ℕ) (arms : List HeldArm) : Type 0 where
  pub lines : if_lines (spelled_if_blocks arms) ≡ opened_lines w ++ block_lines b
  pub begun : are_begun first arms ≡ true
  pub sound : AreArms (spelled_if_blocks arms)

-- a draft in which a construct has just been opened, after statements of the block round it
pub record IsNested (os : List HeldOpen) (ss : List Stmt) (w : Opened) (d : Draft) : Type 0 where
  pub lines : draft_lines d ≡ (opens_lines os ++ block_lines (spelled_block ss)) ++ opened_lines w
  pub sound : IsDraft d
  pub stands : status d ≡ record { opens = open_of w ∷ shape os; pending = None; ended = false }

-- a draft with one more statement
pub record IsAppended (os : List HeldOpen) (ss : List Stmt) (s : Stmt) (d : Draft) : Type 0 where
  pub lines : draft_lines d ≡ (opens_lines os ++ block_lines (spelled_block ss)) ++ statement_lines (spelled_statement s)
  pub sound : IsDraft d
  pub stands : status d ≡ record { opens = shape os; pending = None; ended = false }
