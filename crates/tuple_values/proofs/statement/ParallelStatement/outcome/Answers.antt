use Rattle.std.proofs.Common.{◌≡◌, ◌∙◌, sym, subst, IfOk}
use Rattle.tuple_values.specs.Outcomes.{outcome_view}
use Rattle.tuple_values.specs.Views.{statement}
use Rattle.tuple_values.proofs.ByReads.{where_asked, where_not_asked}
use Rattle.tuple_values.proofs.statement.ParallelStatement.outcome.Goals as goal

pub returns-then-is_asked : goal.returns-then-is_asked
returns-then-is_asked g c =
    subst (λ r. IfOk c.asked_outcome.result (λ o. outcome_view o ≡ r))
    (where_asked (statement c.args.self.now) (g.E.Elements.get c.args.elements.now) c.args.tuple (sym c.is_asked.ensures ∙ c.if-is_asked.true)) c.asked_outcome.ensures

pub returns-else-is_asked : goal.returns-else-is_asked
returns-else-is_asked g c =
    where_not_asked (statement c.args.self.now) (g.E.Elements.get c.args.elements.now) c.args.tuple (sym c.is_asked.ensures ∙ c.if-is_asked.false)
