use Rattle.std.proofs.Common.{◌≡◌, ◌<◌, false, get_or, nat_lt, sym, ◌∙◌, rules}
use Rattle.std.proofs.lemmas.Bool.{lt-ltb, true≢false}
use Rattle.std.specs.List.{range_with_len}
use Rattle.machine_steps.specs.Layout.{sizes}
use Rattle.storage.specs.Spots.{spot_of}
use Rattle.node_machine.proofs.FetchLaws.{fetch-sources, nowhere-sources}
use Rattle.node_machine.proofs.node.Node.fetch_inbox.Goals as goal

pub returns-then-not-is_in_bounds-clause-items : goal.returns-then-not-is_in_bounds-clause-items
returns-then-not-is_in_bounds-clause-items c =
    let a = c.args.self.now in
    let none : nat_lt c.args.spot.at (get_or (sizes a.layouts) c.args.spot.row 0) ≡ false = search rules in
    c.new.ensures.items
    ∙ nowhere-sources a.nodes a.layouts (spot_of c.args.spot) (λ below. true≢false (sym (lt-ltb c.args.spot.at (get_or (sizes a.layouts) c.args.spot.row 0) below) ∙ none))
    a.id (range_with_len 0 a.nodes)

pub returns-clause-items : goal.returns-clause-items
returns-clause-items c =
    let a = c.args.self.now in
    let inside : c.args.spot.at < get_or (sizes a.layouts) c.args.spot.row 0 = search rules in
    c.in_ok-inbox.ensures.items ∙ fetch-sources a.nodes a.layouts (spot_of c.args.spot) inside a.id (range_with_len 0 a.nodes)
