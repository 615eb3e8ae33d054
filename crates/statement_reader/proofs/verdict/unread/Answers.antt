use Rattle.std.proofs.Common.{sym, ap, ◌∙◌, subst}
use Rattle.hpf_base.specs.Refusal.{IsRefusalBy}
use Rattle.line_forms.specs.Reading.{Stopped}
use Rattle.statement_reader.specs.Breaches.{IsBreachOn}
use Rattle.statement_reader.specs.Gives.{Tells}
use Rattle.statement_reader.specs.LeftOut.{IsLeftOut}
use Rattle.statement_reader.proofs.Theorem.{deep_first, unread_first, unread_left_out}
use Rattle.statement_reader.proofs.verdict.unread.Goals as goal

pub returns-then-left_out : goal.returns-then-left_out
returns-then-left_out c = λ ts h t.
    subst (IsRefusalBy (IsBreachOn c.args.line ts)) (sym c.at-then-left_out.ensures)
    (unread_left_out c.args.line ts (h (λ m. cc) ∙ ap Stopped c.in-Malformed.is) (subst (λ b. Tells b (IsLeftOut ts)) c.if-left_out.true t))

pub returns-in-TooDeep : goal.returns-in-TooDeep
returns-in-TooDeep c = λ ts h t. subst (IsRefusalBy (IsBreachOn c.args.line ts)) (sym c.at.ensures) (deep_first c.args.line ts (h (λ m. cc) ∙ ap Stopped c.in-TooDeep.is))

pub returns-else-left_out : goal.returns-else-left_out
returns-else-left_out c = λ ts h t.
    subst (IsRefusalBy (IsBreachOn c.args.line ts)) (sym c.at-in-Malformed.ensures)
    (unread_first c.args.line ts (h (λ m. cc) ∙ ap Stopped c.in-Malformed.is) (subst (λ b. Tells b (IsLeftOut ts)) c.if-left_out.false t))
