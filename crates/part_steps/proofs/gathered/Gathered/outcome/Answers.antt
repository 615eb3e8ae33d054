use Rattle.std.proofs.Common.{◌≡◌, IfOk, subst}
use Rattle.tuple_values.specs.Outcomes.{outcome_view}
use Rattle.part_steps.specs.Gathered.{after_of}
use Rattle.part_steps.proofs.Computed.{outcome-is}
use Rattle.part_steps.proofs.gathered.Gathered.outcome.Goals as goal

pub returns : goal.returns
returns c =
    subst (λ r. IfOk c.outcome.result (λ o. outcome_view o ≡ r)) (outcome-is (after_of c.args.self.now) c.args.tuple c.requires.computed) c.outcome.ensures
