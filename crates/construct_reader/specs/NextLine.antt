-- Of private clauses.
-- No public clause cites this file. The lines of which a draft gets one more.
use Rattle.std.specs.Prelude.{ℕ, Bool, true, false}
use Rattle.syntax_tree.specs.declared.decl.EndForm.{EndForm}
use Rattle.syntax_tree.specs.declared.directive.DistSpec.{DistSpec}
use Rattle.syntax_tree.specs.declared.expr.Expr.{Expr}
use Rattle.syntax_tree.specs.declared.stmt.Mark.{Mark}
use Rattle.syntax_tree.specs.Expression.{expression}
use Rattle.statement_reader.specs.declared.kind.Kind.TheVariants as kind
use Rattle.statement_reader.specs.declared.statement.Action.{Action}
use Rattle.statement_reader.specs.Forms as statements
use Rattle.statement_reader.specs.Views.{action_of, end_of}
use Rattle.directive_reader.specs.declared.kind.Kind.TheVariants as directive
use Rattle.directive_reader.specs.Forms as directives
use Rattle.directive_reader.specs.Views.{distribution_of, names_in}
use Rattle.construct_rules.specs.ProgramLine.{OfStatement, OfDirective, ProgramLine}
use Rattle.construct_reader.specs.SpelledProgram.{SpelledStatement, SimpleStatement, IndependentForall}

abbrev pub statement_line : ℕ → statements.StatementForm → ProgramLine
statement_line n f = record { number = n; what = OfStatement f }

abbrev pub directive_line : ℕ → directives.DirectiveForm → ProgramLine
directive_line n f = record { number = n; what = OfDirective f }

abbrev pub action_line : ℕ → Action → ProgramLine
action_line n a = statement_line n (statements.Plain (action_of a).0 (action_of a).1)

abbrev pub if_line : ℕ → Expr → Action → ProgramLine
if_line n cond a = statement_line n (statements.IfOne (expression cond) (action_of a).0 (action_of a).1)

abbrev pub redistribute_line : ℕ → DistSpec → ProgramLine
redistribute_line n d = record { number = n; what = OfDirective (directives.Known (directive.Redistribute d.colons) (distribution_of d.colons d)) }

abbrev pub independent_line : Mark → ProgramLine
independent_line m = record { number = m.line; what = OfDirective (directives.Known directive.Independent (names_in m.new, names_in m.reduction)) }

abbrev pub finish_line : EndForm → ProgramLine
finish_line e = statement_line e.line (statements.Plain kind.End (end_of e.word e.name))

-- INDEPENDENT stands before it, or not
abbrev pub single_or_marked : Bool → ProgramLine → SpelledStatement
single_or_marked true l = IndependentForall l
single_or_marked false l = SimpleStatement l
