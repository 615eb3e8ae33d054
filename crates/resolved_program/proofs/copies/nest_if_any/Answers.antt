use Rattle.std.proofs.Common.{sym, ap, ◌∙◌}
use Rattle.resolved_program.specs.Resolved.{mark}
use Rattle.resolved_program.proofs.copies.nest_if_any.Goals as goal

pub returns-in_ok-nest-in-Some : goal.returns-in_ok-nest-in-Some
returns-in_ok-nest-in-Some c = λ l body. c.in_ok-nest-in-Some.ensures l body ∙ ap (λ n. mark n l body) (sym c.in-Some.is)
