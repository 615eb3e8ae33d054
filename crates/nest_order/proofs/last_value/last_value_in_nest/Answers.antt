use Rattle.std.proofs.Common.{ℤ, Ok, ap, ◌∙◌}
use Rattle.nest_order.specs.Nest.{nest_act, touches_of}
use Rattle.nest_order.specs.LastValue.{note_scalar}
use Rattle.nest_order.specs.Stores.{Observed}
use Rattle.nest_order.proofs.Acting.{parts_apart}
use Rattle.nest_order.proofs.LastCopy.{last_copy, not_noted}
use Rattle.nest_order.proofs.Observing.{stores_noted}
use Rattle.nest_order.proofs.last_value.last_value_in_nest.Goals as goal

pub returns : goal.returns
returns g c interpretation names written start conditions n parts items row entry free enough before within none =
    let act = nest_act interpretation conditions items in
    let h =
    stores_noted interpretation names written start conditions n items free parts enough (note_scalar row)
    (λ i spot value old after. not_noted row conditions i spot value old before after) entry none in
    let last =
    last_copy act start n parts (touches_of interpretation names written start conditions n items)
    (parts_apart interpretation names written start conditions n items free parts) row within entry in
    let seen : ℤ → Observed ℤ = λ v. record { storage = h.0; noted_so_far = v } in
    (h.0, h.1 ∙ ap (λ v. Ok (seen v)) last, h.2)
