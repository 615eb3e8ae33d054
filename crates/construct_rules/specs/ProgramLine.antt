-- Of the claim.
-- The lines of a program as statements and directives.
use Rattle.std.specs.Prelude.{ℕ, List, map}
use Rattle.statement_reader.specs.Forms as statements
use Rattle.statement_reader.specs.Views as statement_views
use Rattle.directive_reader.specs.Forms as directives
use Rattle.directive_reader.specs.Views as directive_views
use Rattle.construct_rules.specs.declared.program_line.ProgramLine.{ProgramLine as HeldLine}
use Rattle.construct_rules.specs.declared.program_line.LineContent.{LineContent as HeldContent}
use Rattle.construct_rules.specs.declared.program_line.LineContent.TheVariants as held

-- what a line of a program is
pub data LineContent : Type 0 where
  OfStatement : statements.StatementForm → LineContent
  OfDirective : directives.DirectiveForm → LineContent

-- a statement or a directive, with the number of its line
pub record ProgramLine : Type 0 where
  pub number : ℕ
  pub what : LineContent

abbrev pub content_of : HeldContent → LineContent
content_of (held.Statement s) = OfStatement (statement_views.form_of s)
content_of (held.Directive d) = OfDirective (directive_views.form_of d)

abbrev pub line_of : HeldLine → ProgramLine
line_of l = record { number = l.number; what = content_of l.what }

abbrev pub lines_of : List HeldLine → List ProgramLine
lines_of ls = map line_of ls
