use Rattle.std.proofs.Common.{sym, ◌∙◌}
use Rattle.syntax_tree.specs.Lexeme.{lexemes}
use Rattle.directive_reader.specs.Views.{form_of}
use Rattle.directive_reader.proofs.Parted.{left_over}
use Rattle.directive_reader.proofs.read.directive.Goals as goal

pub returns-then-not-is_empty : goal.returns-then-not-is_empty
returns-then-not-is_empty c h =
    left_over c.args.depths c.in-Some.kind (lexemes c.args.tokens.now) (form_of c.in_ok-line.line) c.in_ok-line.rest.now
    (sym c.is_passed.ensures ∙ c.if-is_passed.false) (sym c.directive_kind.ensures ∙ c.in-Some.is) c.in_ok-line.ensures c.if-not-is_empty.ensures
