use Rattle.std.proofs.Common.{refl, subst, sym}
use Rattle.std.specs.Prelude.{IfSome}
use Rattle.node_code.specs.Texts.{instruction}
use Rattle.part_steps.specs.KeptExchanges.{IsKeptExchange}
use Rattle.part_steps.proofs.KeptExchangeLaws.{serving_exchange}
use Rattle.part_steps.proofs.kept_exchanges.KeptExchanges.find.Goals as goal

pub returns : goal.returns
returns c = λ code id table are is.
    serving_exchange code id table c.in_ok-kept.kept.now c.args.at (instruction c.args.i.now) c.args.slots.now c.args.owners.now (c.if-not-serves.ensures refl) is
    (subst (λ p. IfSome p (IsKeptExchange code id c.args.at)) (sym c.in_ok-kept.ensures.value) (are.all c.args.at))
