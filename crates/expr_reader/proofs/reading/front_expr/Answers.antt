use Rattle.std.proofs.Common.{◌∙◌, drop, sym, ap, Some}
use Rattle.syntax_tree.specs.Expression.{expression}
use Rattle.syntax_tree.specs.Lexeme.{lexemes}
use Rattle.expr_reader.specs.Reading.{◌>>=◌}
use Rattle.expr_reader.specs.TokenReading.{viewed}
use Rattle.expr_reader.specs.Front.{front}
use Rattle.expr_reader.proofs.Steps.{lexemes_after}
use Rattle.expr_reader.proofs.reading.front_expr.Goals as goal

pub returns : goal.returns
unfolding front
returns c =
    ap (λ l. Some (expression c.in-Some.tree, l)) (ap lexemes c.skip.ensures ∙ sym (lexemes_after c.in-Some.taken c.args.tokens.now))
    ∙ ap (λ o. o >>= λ x. Some (x.0, drop x.1 (lexemes c.args.tokens.now))) (ap (viewed expression) (sym c.in-Some.is) ∙ c.in_ok-tree.ensures.value)
