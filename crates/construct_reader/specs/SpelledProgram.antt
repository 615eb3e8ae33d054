-- Of the claim.
-- Programs as their lines spell them, with each choice of spelling that a tree keeps (Fortran 95, 2.1, 7.5, 8.1 and 11.1;
-- HPF 2.0, 5.1). What a program says is its abstract syntax, which `meant` gives.
use Rattle.std.specs.Prelude.{ℕ, Bool, List, Option}
use Rattle.syntax_tree.specs.Expression.{Expression}
use Rattle.line_forms.specs.Grammar.{Value}
use Rattle.statement_reader.specs.Forms.{do_head, forall_head}
use Rattle.construct_rules.specs.ProgramLine.{ProgramLine}

-- INDEPENDENT: the number of its line, and the names of its NEW and REDUCTION clauses
pub record SpelledIndependent : Type 0 where
  pub number : ℕ
  pub new : List (List ℕ)
  pub reduction : List (List ℕ)

mutual
  -- statements one after the other
  pub data SpelledBlock : Type 0 where
    EmptyBlock : SpelledBlock
    StatementThen : SpelledStatement → SpelledBlock → SpelledBlock

  pub data SpelledStatement : Type 0 where
    -- a statement or a REDISTRIBUTE that is whole in its line
    SimpleStatement : ProgramLine → SpelledStatement
    -- FORALL with one assignment, where INDEPENDENT stands before it
    IndependentForall : ProgramLine → SpelledStatement
    -- the IF construct (8.1.2); END IF is one word where the last is true, and so on
    IfConstruct : IfBlocks → ElsePart → Bool → SpelledStatement
    -- the DO construct (8.1.4): INDEPENDENT before it, the number of its line, its header and its block
    DoConstruct : Option SpelledIndependent → ℕ → Value do_head → SpelledBlock → Bool → SpelledStatement
    -- the WHERE construct (7.5.3): the number of its line, its mask, its block, and that of ELSEWHERE
    WhereConstruct : ℕ → Expression → SpelledBlock → ElsePart → Bool → SpelledStatement
    -- the FORALL construct (7.5.4); INDEPENDENT stands before it where the first is true
    ForallConstruct : Bool → ℕ → Value forall_head → SpelledBlock → Bool → SpelledStatement

  -- IF and its ELSE IFs, each with its line, its condition, its block, and whether ELSE IF is one word
  pub data IfBlocks : Type 0 where
    NoIfBlock : IfBlocks
    IfBlock : ℕ → Expression → SpelledBlock → Bool → IfBlocks → IfBlocks

  -- the block of ELSE or ELSEWHERE
  pub data ElsePart : Type 0 where
    NoElse : ElsePart
    Else : SpelledBlock → ElsePart

-- the END of a program: what stands after it, and the number of its line
pub record ProgramEnd : Type 0 where
  pub what : Option (Option (List ℕ))
  pub number : ℕ

-- the name after PROGRAM, the lines of the declarations, the statements, and END
pub record SpelledProgram : Type 0 where
  pub name : Option (List ℕ)
  pub declarations : List ProgramLine
  pub body : SpelledBlock
  pub finish : ProgramEnd
