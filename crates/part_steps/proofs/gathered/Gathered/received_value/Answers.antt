use Rattle.std.proofs.Common.{w64, SFits, map, ◌∙◌, rules}
use Rattle.std.proofs.lemmas.Int.{to_z-of_z}
use Rattle.machine_steps.specs.Message.{message}
use Rattle.storage.specs.Spots.{spot_of}
use Rattle.part_steps.specs.Parts.{part_of}
use Rattle.part_steps.specs.Views.{part_view}
use Rattle.owner_tables.proofs.Listed.{is-listed}
use Rattle.part_steps.proofs.Messages.{ascends, received-is}
use Rattle.part_steps.proofs.gathered.Gathered.received_value.Goals as goal

pub with-requires : goal.with-requires
with-requires c =
    let self = c.args.self.now in
    let owners = self.part.now.owners.now in
    is-listed self.exchange.now.incoming (λ p. message owners.nodes owners.layouts (part_of (part_view self.part.now)) p self.id) owners.nodes self.exchanged.incoming
    c.sender-source.result c.sender-source.ensures.below

pub value_in-requires : goal.value_in-requires
value_in-requires c =
    let self = c.args.self.now in
    let owners = self.part.now.owners.now in
    ascends owners.nodes owners.layouts (part_of (part_view self.part.now)) self.id self.exchange.now.incoming self.exchanged.incoming c.sender-source.result (map spot_of c.with.result.now) c.with.ensures

pub returns : goal.returns
returns c =
    let self = c.args.self.now in
    let owners = self.part.now.owners.now in
    let fits : SFits w64 c.value_in.result = search rules in
    to_z-of_z w64 c.value_in.result fits ∙ c.value_in.ensures
    ∙ received-is owners.nodes owners.layouts (part_of (part_view self.part.now)) self.id self.exchange.now.incoming self.exchanged.incoming self.received.now (spot_of c.args.spot)
    c.sender-source.result (map spot_of c.with.result.now) c.values_from.result.now c.sender-source.ensures.value c.sender-source.ensures.below c.with.ensures c.values_from.ensures
