-- Of the claim.
-- Which programs are ones that their lines can spell.
use Rattle.std.specs.Prelude.{◌≡◌, Bool, true, false, List, [], ◌∷◌}
use Rattle.construct_rules.specs.declared.role.Construct.TheVariants as construct
use Rattle.construct_rules.specs.declared.role.Role.{Role}
use Rattle.construct_rules.specs.declared.role.Role.TheVariants as role
use Rattle.construct_rules.specs.ProgramLine.{ProgramLine}
use Rattle.construct_rules.specs.Roles.{role_of}
use Rattle.construct_reader.specs.SpelledProgram.{SpelledBlock, EmptyBlock, StatementThen, SpelledStatement, SimpleStatement, IndependentForall, IfConstruct, DoConstruct, WhereConstruct, ForallConstruct, IfBlocks, NoIfBlock, IfBlock, ElsePart, NoElse, Else, SpelledProgram}
use Rattle.construct_reader.specs.ProgramLines.{is_declared}

-- a statement or a REDISTRIBUTE that is whole in its line: an assignment, IF with an action, WHERE or FORALL with one
-- assignment, PRINT, STOP, EXIT, CYCLE or CONTINUE
abbrev pub is_whole : Role → Bool
is_whole role.Assign = true
is_whole (role.One c) = true
is_whole role.Jump = true
is_whole role.Plain = true
is_whole role.Redistribute = true
is_whole r = false

-- an IF construct has an arm at least, and no ELSE before the first one
abbrev mutual
  pub IsBlock : SpelledBlock → Type 0
  IsBlock EmptyBlock = Unit {0}
  IsBlock (StatementThen s b) = IsStatement s × IsBlock b

  pub IsStatement : SpelledStatement → Type 0
  IsStatement (SimpleStatement l) = is_whole (role_of l.what) ≡ true
  IsStatement (IndependentForall l) = role_of l.what ≡ role.One construct.Forall
  IsStatement (IfConstruct arms other glued) = AreArms arms × IsOtherwise other
  IsStatement (DoConstruct mark number head body glued) = IsBlock body
  IsStatement (WhereConstruct number mask body other glued) = IsBlock body × IsOtherwise other
  IsStatement (ForallConstruct marked number head body glued) = IsBlock body

  pub AreArms : IfBlocks → Type 0
  AreArms NoIfBlock = ⊥
  AreArms (IfBlock number cond body glued arms) = (glued ≡ false) × IsBlock body × AreMore arms

  pub AreMore : IfBlocks → Type 0
  AreMore NoIfBlock = Unit {0}
  AreMore (IfBlock number cond body glued arms) = IsBlock body × AreMore arms

  pub IsOtherwise : ElsePart → Type 0
  IsOtherwise NoElse = Unit {0}
  IsOtherwise (Else b) = IsBlock b

abbrev pub AreDeclared : List ProgramLine → Type 0
AreDeclared [] = Unit {0}
AreDeclared (l ∷ ls) = (is_declared (role_of l.what) ≡ true) × AreDeclared ls

-- the declarations of a program are declarations and directives that are passed over
abbrev pub IsProgram : SpelledProgram → Type 0
IsProgram p = AreDeclared p.declarations × IsBlock p.body
