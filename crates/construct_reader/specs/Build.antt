-- Of private clauses.
-- No public clause cites this file. Blocks, arms and single statements of trees, as lines spell them.
use Rattle.std.specs.Prelude.{ℕ, nat_eq, Bool, true, false, not, ◌&&◌, List, [], ◌∷◌, Option, Some, None, Vec}
use Rattle.std.proofs.Common.{Global}
use Rattle.syntax_tree.specs.declared.stmt.Arm.{Arm as HeldArm}
use Rattle.syntax_tree.specs.declared.stmt.Stmt.{Stmt}
use Rattle.syntax_tree.specs.declared.stmt.StatementKind.TheBlock.{struct-Arm}
use Rattle.syntax_tree.specs.Expression.{Expression}
use Rattle.line_forms.specs.Grammar.{Value}
use Rattle.statement_reader.specs.Forms as statements
use Rattle.statement_reader.specs.declared.kind.Kind.TheVariants as kind
use Rattle.statement_reader.specs.Forms.{assignment}
use Rattle.statement_reader.specs.Views.{IsOfKind}
use Rattle.construct_rules.specs.ProgramLine.{OfStatement}
use Rattle.construct_reader.specs.SpelledProgram.{SpelledStatement, SimpleStatement, IndependentForall, ElsePart, NoElse, Else}
use Rattle.construct_reader.specs.Views.{assignment_at, spelled_block}

-- the one assignment of a list, in the line of this number
abbrev pub one_assignment : ℕ → List Stmt → Option (Value assignment)
one_assignment n (s ∷ []) = assignment_at n s.line s.what
one_assignment n ss = None

abbrev pub arm_begins : ℕ → HeldArm → Bool
arm_begins n (struct-Arm m cond shape row glued) = nat_eq m n && not glued

-- the arms of an IF construct begin with that of its own line
abbrev pub are_begun : ℕ → List HeldArm → Bool
are_begun n [] = false
are_begun n (a ∷ arms) = arm_begins n a

-- a statement of a kind, with one that may have INDEPENDENT before it
abbrev pub single_of : ℕ → IsOfKind → SpelledStatement
single_of n a = SimpleStatement record { number = n; what = OfStatement (statements.Plain a.0 a.1) }

abbrev pub forall_of_line : Bool → ℕ → Value statements.forall_head → Value assignment → SpelledStatement
forall_of_line true n head a = IndependentForall record { number = n; what = OfStatement (statements.Plain kind.Forall (head, Some a)) }
forall_of_line false n head a = SimpleStatement record { number = n; what = OfStatement (statements.Plain kind.Forall (head, Some a)) }

abbrev pub if_one_of : ℕ → Expression → IsOfKind → SpelledStatement
if_one_of n cond a = SimpleStatement record { number = n; what = OfStatement (statements.IfOne cond a.0 a.1) }

-- the block of ELSE or ELSEWHERE
abbrev pub spelled_else_of : Option (Vec Stmt Global) → ElsePart
spelled_else_of None = NoElse
spelled_else_of (Some v) = Else (spelled_block v.items)
