use Rattle.std.proofs.Common.{sym, ◌∙◌}
use Rattle.syntax_tree.specs.Lexeme.{lexemes}
use Rattle.directive_reader.proofs.Lists.{perhaps_named}
use Rattle.directive_reader.proofs.specifications.names_after.Goals as goal

pub returns : goal.returns
returns c =
    perhaps_named c.args.depths c.args.word.now (lexemes c.args.tokens.now) (lexemes c.skip.result.now) c.in_ok-names.names.items c.new-2.result (lexemes c.in_ok-names.rest.now)
    (sym c.attribute.ensures.value ∙ c.if-not-attribute.false) c.skip.ensures c.in_ok-names.ensures c.new-2.ensures
