-- Of the claim.
-- The lines of a program, and which lines spell it.
use Rattle.std.specs.Prelude.{◌≡◌, ℕ, Bool, true, false, not, ◌&&◌, ◌||◌, if◌then◌else◌, IfSome, List, [], ◌∷◌, ◌++◌, map, Option, Some, None}
use Rattle.std.specs.List.{filter}
use Rattle.syntax_tree.specs.Expression.{Expression}
use Rattle.statement_reader.specs.declared.kind.Kind.TheVariants as kind
use Rattle.statement_reader.specs.Forms as statements
use Rattle.directive_reader.specs.declared.kind.Kind.TheVariants as directive
use Rattle.directive_reader.specs.Forms as directives
use Rattle.directive_reader.specs.Views.{names_in}
use Rattle.construct_rules.specs.declared.role.Role.{Role}
use Rattle.construct_rules.specs.declared.role.Role.TheVariants as role
use Rattle.construct_rules.specs.ProgramLine.{LineContent, OfStatement, OfDirective, ProgramLine}
use Rattle.construct_rules.specs.Roles.{role_of}
use Rattle.construct_rules.specs.NestState.{is_passed}
use Rattle.construct_reader.specs.SpelledProgram.{SpelledIndependent, SpelledBlock, EmptyBlock, StatementThen, SpelledStatement, SimpleStatement, IndependentForall, IfConstruct, DoConstruct, WhereConstruct, ForallConstruct, IfBlocks, NoIfBlock, IfBlock, ElsePart, NoElse, Else, ProgramEnd, SpelledProgram}

-- a line, with its number where a tree keeps that
abbrev pub Entry : Type 0
Entry = Option ℕ × LineContent

abbrev pub numbered : ProgramLine → Entry
numbered l = (Some l.number, l.what)

-- the lines of INDEPENDENT
abbrev pub independent_lines : Option SpelledIndependent → List Entry
independent_lines None = []
independent_lines (Some m) = (Some m.number, OfDirective (directives.Known directive.Independent (names_in m.new, names_in m.reduction))) ∷ []

abbrev pub bare_independent_lines : Bool → List Entry
bare_independent_lines true = (None, OfDirective (directives.Known directive.Independent (None, None))) ∷ []
bare_independent_lines false = []

-- a line whose number a tree doesn't keep
abbrev pub unnumbered : LineContent → Entry
unnumbered w = (None, w)

-- END parts and ELSE IF, as one word or two
abbrev pub end_if : Bool → statements.StatementForm
end_if true = statements.Plain (kind.EndIf true) tt
end_if false = statements.Plain (kind.EndIf false) tt

abbrev pub end_do : Bool → statements.StatementForm
end_do true = statements.Plain (kind.EndDo true) tt
end_do false = statements.Plain (kind.EndDo false) tt

abbrev pub end_where : Bool → statements.StatementForm
end_where true = statements.Plain (kind.EndWhere true) tt
end_where false = statements.Plain (kind.EndWhere false) tt

abbrev pub end_forall : Bool → statements.StatementForm
end_forall true = statements.Plain (kind.EndForall true) tt
end_forall false = statements.Plain (kind.EndForall false) tt

abbrev pub else_if : Bool → Expression → statements.StatementForm
else_if true cond = statements.Plain (kind.ElseIf true) cond
else_if false cond = statements.Plain (kind.ElseIf false) cond

abbrev mutual
  pub block_lines : SpelledBlock → List Entry
  block_lines EmptyBlock = []
  block_lines (StatementThen s b) = statement_lines s ++ block_lines b

  pub statement_lines : SpelledStatement → List Entry
  statement_lines (SimpleStatement l) = numbered l ∷ []
  statement_lines (IndependentForall l) = bare_independent_lines true ++ numbered l ∷ []
  statement_lines (IfConstruct arms other glued) =
      if_lines arms ++ else_lines (OfStatement (statements.Plain kind.Else tt)) other ++ unnumbered (OfStatement (end_if glued)) ∷ []
  statement_lines (DoConstruct mark number head body glued) =
      independent_lines mark ++ (Some number, OfStatement (statements.Plain kind.Do head)) ∷ (block_lines body ++ unnumbered (OfStatement (end_do glued)) ∷ [])
  statement_lines (WhereConstruct number mask body other glued) =
      (Some number, OfStatement (statements.Plain kind.Where (mask, None)))
      ∷ (block_lines body ++ else_lines (OfStatement (statements.Plain (kind.ElseWhere true) tt)) other ++ unnumbered (OfStatement (end_where glued)) ∷ [])
  statement_lines (ForallConstruct marked number head body glued) =
      bare_independent_lines marked ++ (Some number, OfStatement (statements.Plain kind.Forall (head, None)))
      ∷ (block_lines body ++ unnumbered (OfStatement (end_forall glued)) ∷ [])

  pub if_lines : IfBlocks → List Entry
  if_lines NoIfBlock = []
  if_lines (IfBlock number cond body glued arms) = (Some number, OfStatement (statements.Plain kind.IfThen cond)) ∷ (block_lines body ++ else_if_lines arms)

  pub else_if_lines : IfBlocks → List Entry
  else_if_lines NoIfBlock = []
  else_if_lines (IfBlock number cond body glued arms) = (Some number, OfStatement (else_if glued cond)) ∷ (block_lines body ++ else_if_lines arms)

  pub else_lines : LineContent → ElsePart → List Entry
  else_lines w NoElse = []
  else_lines w (Else body) = unnumbered w ∷ block_lines body

abbrev pub name_lines : Option (List ℕ) → List Entry
name_lines None = []
name_lines (Some name) = unnumbered (OfStatement (statements.Plain kind.Program name)) ∷ []

abbrev pub end_line : ProgramEnd → Entry
end_line e = (Some e.number, OfStatement (statements.Plain kind.End e.what))

-- the lines of a program
abbrev pub program_lines : SpelledProgram → List Entry
program_lines p = name_lines p.name ++ map numbered p.declarations ++ block_lines p.body ++ end_line p.finish ∷ []

-- the lines without directives that are passed over
abbrev pub without_passed : List ProgramLine → List ProgramLine
without_passed ls = filter (λ l. not (is_passed (role_of l.what))) ls

-- a declaration, or a directive that is passed over
abbrev pub is_declared : Role → Bool
is_declared role.Declaration = true
is_declared role.SpecificationDirective = true
is_declared role.Passed = true
is_declared r = false

-- a tree keeps what is passed over among the declarations alone: after PROGRAM, and before anything else
abbrev pub kept_after_name : List ProgramLine → List ProgramLine
kept_after_name [] = []
kept_after_name (l ∷ ls) = if is_declared (role_of l.what) then l ∷ kept_after_name ls else without_passed (l ∷ ls)

-- PROGRAM is the first line that isn't passed over
abbrev pub is_program : Role → Bool
is_program role.Program = true
is_program r = false

abbrev pub has_name : List ProgramLine → Bool
has_name [] = false
has_name (l ∷ ls) = is_program (role_of l.what) || (is_passed (role_of l.what) && has_name ls)

abbrev pub from_name : List ProgramLine → List ProgramLine
from_name [] = []
from_name (l ∷ ls) = if is_passed (role_of l.what) then from_name ls else l ∷ kept_after_name ls

-- the lines that a tree keeps
abbrev pub kept_lines : List ProgramLine → List ProgramLine
kept_lines ls = if has_name ls then from_name ls else kept_after_name ls

-- a line is one that a tree says: the same, and with the number that the tree keeps
abbrev pub IsEntryOf : Entry → ProgramLine → Type 0
IsEntryOf e l = (e.1 ≡ l.what) × IfSome e.0 (λ n. n ≡ l.number)

abbrev pub AreEntriesOf : List Entry → List ProgramLine → Type 0
AreEntriesOf [] [] = Unit {0}
AreEntriesOf [] (l ∷ ls) = ⊥
AreEntriesOf (e ∷ es) [] = ⊥
AreEntriesOf (e ∷ es) (l ∷ ls) = IsEntryOf e l × AreEntriesOf es ls

-- the lines spell the program
abbrev pub IsSpelled : List ProgramLine → SpelledProgram → Type 0
IsSpelled ls p = AreEntriesOf (program_lines p) (kept_lines ls)
