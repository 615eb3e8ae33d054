use Rattle.std.proofs.Common.{◌≡◌, ◌<◌, false, get_or, map, nat_lt, sym, ◌∙◌, rules}
use Rattle.std.proofs.lemmas.Bool.{lt-ltb, true≢false}
use Rattle.std.specs.List.{range_with_len}
use Rattle.machine_steps.specs.Layout.{sizes}
use Rattle.machine_steps.specs.Message.{fetch_part, message}
use Rattle.machine_steps.specs.Node.{local_read, parcel}
use Rattle.storage.specs.Spots.{spot_of}
use Rattle.node_machine.proofs.FetchLaws.{fetch-parcels, nowhere-parcels}
use Rattle.node_machine.proofs.node.Node.fetch_outbox.Goals as goal

pub returns-then-not-is_in_bounds-clause-items : goal.returns-then-not-is_in_bounds-clause-items
returns-then-not-is_in_bounds-clause-items c =
    let a = c.args.self.now in
    let spot = spot_of c.args.spot in
    let none : nat_lt c.args.spot.at (get_or (sizes a.layouts) c.args.spot.row 0) ≡ false = search rules in
    c.new.ensures.items
    ∙ nowhere-parcels a.nodes a.layouts spot (λ below. true≢false (sym (lt-ltb c.args.spot.at (get_or (sizes a.layouts) c.args.spot.row 0) below) ∙ none))
    (parcel (λ q. map (local_read a.layouts a.id a.pieces) (message a.nodes a.layouts (fetch_part spot) a.id q))) a.id (range_with_len 0 a.nodes)

pub returns-clause-items : goal.returns-clause-items
returns-clause-items c =
    let a = c.args.self.now in
    let inside : c.args.spot.at < get_or (sizes a.layouts) c.args.spot.row 0 = search rules in
    c.in_ok-outbox.ensures.items ∙ fetch-parcels a.nodes a.layouts (spot_of c.args.spot) inside a.id a.pieces (range_with_len 0 a.nodes)
