use Rattle.std.proofs.Common.{◌≡◌, ℕ, List, [], length, map, ◌∙◌, ap, arith}
use Rattle.std.proofs.lemmas.List.FromFn.{length-map-range_with_len}
use Rattle.storage.specs.Storage.{Spot}
use Rattle.storage.specs.Spots.{spot_of}
use Rattle.machine_steps.specs.Message.{message}
use Rattle.owner_tables.proofs.Listed.{listed-is}
use Rattle.tuple_values.specs.Views.{statement}
use Rattle.statement_messages.specs.Assigning.{assigning}
use Rattle.statement_messages.proofs.messages.message_among.Goals as goal

pub with-message-requires : goal.with-message-requires
with-message-requires c =
    let owners = c.args.owners.now in
    let f : ℕ → List Spot = λ to. message owners.nodes owners.layouts (assigning owners (statement c.args.statement.now)) c.args.from to in
    let long : length c.args.exchange.now.outgoing ≡ owners.nodes =
    ap length c.requires.exchange.outgoing ∙ length-map-range_with_len f 0 owners.nodes in
    omega (arith, long, c.requires.to)

pub returns : goal.returns
returns c =
    let owners = c.args.owners.now in
    let f : ℕ → List Spot = λ to. message owners.nodes owners.layouts (assigning owners (statement c.args.statement.now)) c.args.from to in
    ap (map spot_of) (c.in_ok-spots.ensures.items_if_clones_equal (λ x y e. e)) ∙ c.with-message.ensures
    ∙ listed-is c.args.exchange.now.outgoing f owners.nodes c.requires.exchange.outgoing c.args.to c.requires.to []
