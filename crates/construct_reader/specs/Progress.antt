-- Of private clauses.
-- No public clause cites this file. How far a program has been read.
use Rattle.std.specs.Prelude.{◌≡◌, ℕ, true, false, List, [], ◌∷◌, ◌++◌, map, Option, Some, None, ◌⊎◌, if◌then◌else◌}
use Rattle.hpf_base.specs.Refusal.{NoBreach}
use Rattle.statement_reader.specs.declared.kind.Kind.TheVariants as kind
use Rattle.statement_reader.specs.Forms as statements
use Rattle.construct_rules.specs.declared.role.Clauses.{Clauses}
use Rattle.construct_rules.specs.declared.role.Role.{Role}
use Rattle.construct_rules.specs.Breaches.{BreachFrom, roles}
use Rattle.construct_rules.specs.Rules.{declaration_comes, is_independent_target}
use Rattle.construct_rules.specs.ProgramLine.{ProgramLine, line_of}
use Rattle.construct_rules.specs.Roles.{role_of}
use Rattle.construct_rules.specs.NestState.{NestState}
use Rattle.construct_reader.specs.declared.progress.Progress.{Progress}
use Rattle.construct_reader.specs.declared.progress.LineClass.{LineClass}
use Rattle.construct_reader.specs.declared.progress.LineClass.TheVariants as sort
use Rattle.construct_reader.specs.Views.{declaration_line}
use Rattle.construct_reader.specs.Formed.{AreDeclared}
use Rattle.construct_reader.specs.ProgramLines.{Entry, AreEntriesOf, from_name, has_name, kept_after_name, kept_lines, name_lines, numbered, without_passed}
use Rattle.construct_reader.specs.Draft.{IsDraft, draft_lines, is_inner, status}
use Rattle.construct_reader.specs.NextLine.{statement_line}

abbrev pub IsInner : ProgramLine → Type 0
IsInner l = is_inner (role_of l.what) ≡ true

abbrev pub IsClassOf : ProgramLine → LineClass → Type 0
IsClassOf l (sort.Name x) = statement_line l.number (statements.Plain kind.Program x) ≡ l
IsClassOf l (sort.Decl d) = declaration_line d ≡ l
IsClassOf l (sort.Inner i) = (line_of i ≡ l) × IsInner (line_of i)

abbrev pub front_lines : Progress → List Entry
front_lines p = name_lines p.name ++ map numbered (map declaration_line p.decls.items)

-- the lines that a tree keeps are some so far, and then those of the rest: before PROGRAM and the declarations, among
-- them, or after them
pub data IsPhase (s : NestState) (p : Progress) (ls rest kept : List ProgramLine) : Type 0 where
  Before : p.over ≡ false → s.begun ≡ false → p.name ≡ None → draft_lines p.draft ≡ []
      → kept_lines ls ≡ (if has_name rest then from_name rest else kept ++ kept_after_name rest) → IsPhase s p ls rest kept
  Among : p.over ≡ false → s.begun ≡ true → draft_lines p.draft ≡ [] → kept_lines ls ≡ kept ++ kept_after_name rest → IsPhase s p ls rest kept
  Over : p.over ≡ true → s.begun ≡ true → (s.stated ≡ true) ⊎ (declaration_comes (roles rest) ≡ false)
      → kept_lines ls ≡ kept ++ without_passed rest → IsPhase s p ls rest kept

-- what a pending INDEPENDENT asks of the lines after it
abbrev pub IsMarked : Option Clauses → List Role → Type 0
IsMarked None rs = Unit {0}
IsMarked (Some cs) rs = is_independent_target cs rs ≡ true

-- the lines `ls` have been read up to `rest`
pub record IsProgress (ls : List ProgramLine) (last : ℕ) (p : Progress) (rest : List ProgramLine) : Type 0 where
  pub state : NestState
  pub free : NoBreach (BreachFrom state last rest)
  pub opens : state.opens ≡ (status p.draft).opens
  pub ended : state.ended ≡ (status p.draft).ended
  pub marks : IsMarked (status p.draft).pending (roles rest)
  pub sound : IsDraft p.draft
  pub declared : AreDeclared (map declaration_line p.decls.items)
  pub kept : List ProgramLine
  pub lines : AreEntriesOf (front_lines p ++ draft_lines p.draft) kept
  pub phase : IsPhase state p ls rest kept

-- the lines of some text have been read up to this one
abbrev pub IsBefore : Progress → ProgramLine → Type 0
IsBefore p l = (ls : List ProgramLine) × (last : ℕ) × (rest : List ProgramLine) × IsProgress ls last p (l ∷ rest)

-- where they have been read up to this line, they have now been read up to those after it
abbrev pub GoesPast : Progress → ProgramLine → Progress → Type 0
GoesPast p l q = (ls : List ProgramLine) (last : ℕ) (rest : List ProgramLine) → IsProgress ls last p (l ∷ rest) → IsProgress ls last q rest
