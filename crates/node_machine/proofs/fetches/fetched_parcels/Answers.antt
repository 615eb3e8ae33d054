use Rattle.std.proofs.Common.{◌≡◌, ◌++◌, ◌∷◌, [], if◌then◌else◌, not, refl, sym, ◌∙◌, ap, arith}
use Rattle.machine_steps.specs.Node.{parcel}
use Rattle.storage.specs.Spots.{spot_of}
use Rattle.node_machine.specs.Fetches.{fetch_sends}
use Rattle.node_machine.proofs.FetchLaws.{fetch-sent}
use Rattle.node_machine.proofs.Picks.{parcels-below, picked-more}
use Rattle.node_machine.proofs.fetches.fetched_parcels.Goals as goal

pub loop-node-preserved : goal.loop-node-preserved
loop-node-preserved c =
    let owners = c.args.owners.now in
    let P = fetch_sends owners.nodes owners.layouts (spot_of c.args.spot) c.args.id in
    let f = parcel (λ q. c.args.values.now) in
    let s : not c.owns.result ≡ P c.loop-node.node = ap not c.owns.ensures ∙ fetch-sent owners.nodes owners.layouts (spot_of c.args.spot) c.args.id c.loop-node.node c.requires.least in (
      c.in_ok-add_parcel.ensures
          ∙ (λ i. c.loop-node.invariant.0 i ++ (if s i then f c.loop-node.node ∷ [] else []))
          ∙ sym (picked-more f P c.loop-node.node),
      omega (arith, c.loop-node-test.true, c.nodes-node-end.ensures.value),
    )

pub returns-clause-items : goal.returns-clause-items
returns-clause-items c =
    let e : c.loop-node.node ≡ c.args.owners.now.nodes = omega (arith, c.loop-node-test.false, c.loop-node.invariant.1, c.nodes-node-end.ensures.value) in
    c.loop-node.invariant.0 ∙ rw e refl

pub returns-clause-below : goal.returns-clause-below
returns-clause-below c =
    let owners = c.args.owners.now in
    let e : c.loop-node.node ≡ owners.nodes = omega (arith, c.loop-node-test.false, c.loop-node.invariant.1, c.nodes-node-end.ensures.value) in
    parcels-below (parcel (λ q. c.args.values.now)) (λ q. refl) (fetch_sends owners.nodes owners.layouts (spot_of c.args.spot) c.args.id) owners.nodes c.loop-node.outbox.items (c.loop-node.invariant.0 ∙ rw e refl)
