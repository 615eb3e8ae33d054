use Rattle.std.proofs.Common.{◌∙◌, arith}
use Rattle.expr_reader.proofs.Steps.{head_past, head_within}
use Rattle.expr_reader.proofs.signs.sign_at.Goals as goal

pub returns-then-place-tokens-clause-value : goal.returns-then-place-tokens-clause-value
returns-then-place-tokens-clause-value c = head_past _ _ c.if-place-tokens.true

pub returns-clause-value : goal.returns-clause-value
returns-clause-value c = c.sign_of.ensures ∙ head_within c.args.tokens.now c.args.place _ (omega arith)
