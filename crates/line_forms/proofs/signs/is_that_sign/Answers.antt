use Rattle.std.proofs.Common.{◌∙◌, sym}
use Rattle.syntax_tree.specs.Lexeme.{lexeme_of}
use Rattle.line_forms.proofs.Marks.{with_sign}
use Rattle.line_forms.proofs.signs.is_that_sign.Goals as goal

pub returns-in-Some : goal.returns-in-Some
returns-in-Some c = c.eq.ensures ∙ with_sign c.args.sign c.in-Some.there (lexeme_of c.args.kind.now) (sym c.in-Some.is ∙ c.sign_of.ensures)
