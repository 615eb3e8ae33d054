use Rattle.std.proofs.Common.{◌≡◌, ◌∷◌, [], ◌∙◌}
use Rattle.machine_steps.specs.Layout.{least_owner_of}
use Rattle.machine_steps.specs.Node.{local_read, parcel}
use Rattle.storage.specs.Spots.{spot_of}
use Rattle.node_machine.proofs.FetchLaws.{fetch-idle}
use Rattle.node_machine.proofs.fetches.fetch_outbox.Goals as goal

pub returns-then-least_owner-id-clause-items : goal.returns-then-least_owner-id-clause-items
returns-then-least_owner-id-clause-items c =
    let owners = c.args.owners.now in
    let other : least_owner_of owners.nodes owners.layouts (spot_of c.args.spot) ≡ c.args.id → ⊥ = λ e. c.if-least_owner-id.true (c.least_owner.ensures.value ∙ e) in
    c.new.ensures.items ∙ fetch-idle owners.nodes owners.layouts (spot_of c.args.spot) (parcel (λ q. local_read owners.layouts c.args.id c.args.pieces.now (spot_of c.args.spot) ∷ [])) c.args.id other
