use Rattle.std.proofs.Common.{◌∙◌, sym}
use Rattle.syntax_tree.specs.Lexeme.{lexemes}
use Rattle.directive_reader.specs.Views.{form_of}
use Rattle.directive_reader.proofs.Verdicts.{fine, is_directive}
use Rattle.directive_reader.proofs.read.read_directive.Goals as goal

pub returns-in-Ok-clause-read : goal.returns-in-Ok-clause-read
returns-in-Ok-clause-read c = is_directive (lexemes c.args.tokens.now) (form_of c.in-Ok.read) c.in-Ok.ensures

pub returns-in-Ok-clause-fine : goal.returns-in-Ok-clause-fine
returns-in-Ok-clause-fine c = fine (lexemes c.args.tokens.now) (form_of c.in-Ok.read) (sym c.is_left_out.ensures ∙ c.if-is_left_out.false) c.in-Ok.ensures
