-- Of a promise.
-- The program that the lines of a tree spell.
use Rattle.std.specs.Prelude.{ℕ, nat_eq, Bool, true, false, not, ◌&&◌, if◌then◌else◌, List, [], ◌∷◌, map, Option, Some, None, option_map}
use Rattle.syntax_tree.specs.declared.decl.Decl.{Decl}
use Rattle.syntax_tree.specs.declared.decl.DeclKind.{DeclKind}
use Rattle.syntax_tree.specs.declared.decl.DeclKind.TheVariants as declared
use Rattle.syntax_tree.specs.declared.decl.EndForm.{EndForm}
use Rattle.syntax_tree.specs.declared.decl.Tree.{Tree}
use Rattle.syntax_tree.specs.declared.stmt.Arm.{Arm as HeldArm}
use Rattle.syntax_tree.specs.declared.stmt.Mark.{Mark as HeldMark}
use Rattle.syntax_tree.specs.declared.stmt.Stmt.{Stmt}
use Rattle.syntax_tree.specs.declared.stmt.StatementKind.{StatementKind as HeldKind}
use Rattle.syntax_tree.specs.declared.stmt.StatementKind.TheBlock.{Assign, IfOne', If', Do, Where', Forall', Print, Stop, Exit, Cycle, Continue, Redistribute, struct-Arm, struct-DoLoop, Row_of-Stmt, end_of-Stmt, more_of-Stmt, Row_of-Arm, end_of-Arm, more_of-Arm, Held-StatementKind-If-1, None', Some'}
use Rattle.syntax_tree.specs.Expression.{Expression, expression}
use Rattle.line_forms.specs.Grammar.{Value}
use Rattle.line_forms.specs.Parts.{variable_of}
use Rattle.statement_reader.specs.declared.kind.Kind.TheVariants as kind
use Rattle.statement_reader.specs.Forms as statements
use Rattle.statement_reader.specs.Forms.{assignment}
use Rattle.statement_reader.specs.Views.{IsOfKind, axis_of, constant_of, declaration_of, items_of, end_of}
use Rattle.directive_reader.specs.declared.kind.Kind.TheVariants as directive
use Rattle.directive_reader.specs.Forms as directives
use Rattle.directive_reader.specs.Views.{mapping_of, distribution_of}
use Rattle.construct_rules.specs.ProgramLine.{LineContent, OfStatement, OfDirective, ProgramLine}
use Rattle.construct_reader.specs.SpelledProgram.{SpelledIndependent, SpelledBlock, EmptyBlock, StatementThen, SpelledStatement, SimpleStatement, IndependentForall, IfConstruct, DoConstruct, WhereConstruct, ForallConstruct, IfBlocks, NoIfBlock, IfBlock, ElsePart, NoElse, Else, ProgramEnd, SpelledProgram}

-- what is no statement: no lines spell it
abbrev pub no_statement : SpelledStatement
no_statement = IfConstruct NoIfBlock NoElse false

-- an assignment of line `m` in a statement of line `n`
abbrev pub assignment_at : ℕ → ℕ → HeldKind → Option (Value assignment)
assignment_at n m (Assign left right) = if nat_eq m n then Some (variable_of left, expression right) else None
assignment_at n m k = None

-- a block that is one assignment, in the line of this number
abbrev pub assignment_in : ℕ → {m : _} → Row_of-Stmt m → Option (Value assignment)
assignment_in n (more_of-Stmt m k end_of-Stmt) = assignment_at n m k
assignment_in n row = None

abbrev pub where_one : Expression → Value assignment → IsOfKind
where_one mask a = (kind.Where, (mask, Some a))

abbrev pub forall_one : Value statements.forall_head → Value assignment → IsOfKind
forall_one head a = (kind.Forall, (head, Some a))

-- a statement that may be the action of an IF, in the line of this number
abbrev pub action_in : ℕ → HeldKind → Option IsOfKind
action_in n (Assign left right) = Some (kind.Assign, (variable_of left, expression right))
action_in n (Where' mask shape row None' true false) = option_map (where_one (expression mask)) (assignment_in n row)
action_in n (Forall' axes mask shape row true false false) = option_map (forall_one (map axis_of axes.items, option_map expression mask)) (assignment_in n row)
action_in n (Print items) = Some (kind.Print, items_of items.items)
action_in n Stop = Some (kind.Stop, tt)
action_in n Exit = Some (kind.Exit, tt)
action_in n Cycle = Some (kind.Cycle, tt)
action_in n Continue = Some (kind.Continue, tt)
action_in n k = None

abbrev pub single : ℕ → Option IsOfKind → SpelledStatement
single n None = no_statement
single n (Some a) = SimpleStatement record { number = n; what = OfStatement (statements.Plain a.0 a.1) }

-- the action of an IF has the number of its line
abbrev pub if_one : ℕ → Expression → ℕ → Option IsOfKind → SpelledStatement
if_one n cond m None = no_statement
if_one n cond m (Some a) = if nat_eq m n then SimpleStatement record { number = n; what = OfStatement (statements.IfOne cond a.0 a.1) } else no_statement

abbrev pub marked_one : ℕ → Value statements.forall_head → Option (Value assignment) → SpelledStatement
marked_one n head None = no_statement
marked_one n head (Some a) = IndependentForall record { number = n; what = OfStatement (statements.Plain kind.Forall (head, Some a)) }

-- an IF construct begins with the arm of its own line, which has no ELSE
abbrev pub begins : ℕ → {m : _} → Row_of-Arm m → Bool
begins n end_of-Arm = false
begins n (more_of-Arm (struct-Arm m cond shape row glued) arms) = nat_eq m n && not glued

abbrev pub spelled_independent : HeldMark → SpelledIndependent
spelled_independent m = record { number = m.line; new = m.new; reduction = m.reduction }

abbrev mutual
  pub spelled_kind : ℕ → HeldKind → SpelledStatement
  spelled_kind n (IfOne' cond box m k) = if_one n (expression cond) m (action_in n k)
  spelled_kind n (If' shape arms rest glued) = if begins n arms then IfConstruct (spelled_arms arms) (spelled_else rest) glued else no_statement
  spelled_kind n (Do d) = spelled_do n d
  spelled_kind n (Where' mask shape row rest false glued) = WhereConstruct n (expression mask) (spelled_row row) (spelled_else rest) glued
  spelled_kind n (Forall' axes mask shape row false glued marked) = ForallConstruct marked n (map axis_of axes.items, option_map expression mask) (spelled_row row) glued
  spelled_kind n (Forall' axes mask shape row true false true) = marked_one n (map axis_of axes.items, option_map expression mask) (assignment_in n row)
  spelled_kind n (Redistribute d) = SimpleStatement record { number = n; what = OfDirective (directives.Known (directive.Redistribute d.colons) (distribution_of d.colons d)) }
  spelled_kind n k = single n (action_in n k)

  pub spelled_do : ℕ → Rattle.syntax_tree.specs.declared.stmt.DoLoop.DoLoop → SpelledStatement
  spelled_do n (struct-DoLoop index first last step mark shape row glued) =
      DoConstruct (option_map spelled_independent mark) n (index, (expression first, (expression last, option_map expression step))) (spelled_row row) glued

  pub spelled_row : {m : _} → Row_of-Stmt m → SpelledBlock
  spelled_row end_of-Stmt = EmptyBlock
  spelled_row (more_of-Stmt n k row) = StatementThen (spelled_kind n k) (spelled_row row)

  pub spelled_else : Held-StatementKind-If-1 → ElsePart
  spelled_else None' = NoElse
  spelled_else (Some' shape row) = Else (spelled_row row)

  pub spelled_arms : {m : _} → Row_of-Arm m → IfBlocks
  spelled_arms end_of-Arm = NoIfBlock
  spelled_arms (more_of-Arm (struct-Arm n cond shape row glued) arms) = IfBlock n (expression cond) (spelled_row row) glued (spelled_arms arms)

abbrev pub spelled_statement : Stmt → SpelledStatement
spelled_statement s = spelled_kind s.line s.what

-- statements one after the other
abbrev pub spelled_block : List Stmt → SpelledBlock
spelled_block [] = EmptyBlock
spelled_block (s ∷ ss) = StatementThen (spelled_statement s) (spelled_block ss)

-- an arm before others
abbrev pub arm_before : HeldArm → IfBlocks → IfBlocks
arm_before (struct-Arm n cond shape row glued) arms = IfBlock n (expression cond) (spelled_row row) glued arms

abbrev pub spelled_if_blocks : List HeldArm → IfBlocks
spelled_if_blocks [] = NoIfBlock
spelled_if_blocks (a ∷ arms) = arm_before a (spelled_if_blocks arms)

abbrev pub declared_of : DeclKind → LineContent
declared_of declared.ImplicitNone = OfStatement (statements.Plain kind.ImplicitNone tt)
declared_of (declared.Integer d) = OfStatement (statements.Plain kind.Integer (declaration_of d))
declared_of (declared.Parameter cs) = OfStatement (statements.Plain kind.Parameter (map constant_of cs.items))
declared_of (declared.Directive d) = OfDirective (mapping_of d)

abbrev pub declaration_line : Decl → ProgramLine
declaration_line d = record { number = d.line; what = declared_of d.what }

abbrev pub spelled_end : EndForm → ProgramEnd
spelled_end e = record { what = end_of e.word e.name; number = e.line }

abbrev pub spelled_program : Tree → SpelledProgram
spelled_program t = record {
  name = t.name;
  declarations = map declaration_line t.decls.items;
  body = spelled_block t.body.items;
  finish = spelled_end t.end;
}
