use Rattle.syntax_tree.specs.Lexeme.{lexemes}
use Rattle.directive_reader.specs.Views.{distribution_spec_of}
use Rattle.directive_reader.proofs.Parted.{distributed}
use Rattle.directive_reader.proofs.read.distribute.Goals as goal

pub returns : goal.returns
returns c =
    distributed c.args.depths c.args.many (lexemes c.args.tokens.now) (lexemes c.in_ok-rest.rest.now) (distribution_spec_of c.in_ok-spec.spec)
    (lexemes c.in_ok-spec.rest.now) c.in_ok-rest.ensures c.in_ok-spec.ensures
