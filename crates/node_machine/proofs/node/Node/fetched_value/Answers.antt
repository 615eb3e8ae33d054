use Rattle.std.proofs.Common.{◌≡◌, ◌∷◌, [], false, get_or, nat_lt, sym, ap, ◌∙◌, rules}
use Rattle.std.proofs.lemmas.Bool.{lt-ltb, true≢false}
use Rattle.machine_steps.specs.Layout.{sizes}
use Rattle.storage.specs.Spots.{spot_of}
use Rattle.node_machine.proofs.FetchLaws.{nowhere-received}
use Rattle.node_machine.proofs.node.Node.fetched_value.Goals as goal

pub returns-else-is_in_bounds : goal.returns-else-is_in_bounds
returns-else-is_in_bounds c =
    let a = c.args.self.now in
    let none : nat_lt c.args.spot.at (get_or (sizes a.layouts) c.args.spot.row 0) ≡ false = search rules in
    ap (λ v. v ∷ [])
    (nowhere-received a.nodes a.layouts (spot_of c.args.spot)
    (λ below. true≢false (sym (lt-ltb c.args.spot.at (get_or (sizes a.layouts) c.args.spot.row 0) below) ∙ none)) a.id a.pieces a.received)
