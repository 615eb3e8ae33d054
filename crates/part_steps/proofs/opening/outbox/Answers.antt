use Rattle.std.proofs.Common.{◌≡◌, ℕ, ℤ, ◌<◌, ◌==◌, ◌&&◌, not, Bool, [], List, map, filter, ◌∙◌, ap, arith}
use Rattle.std.proofs.lemmas.Bool.{and_parts, eqb-true}
use Rattle.std.specs.List.{range_with_len}
use Rattle.storage.specs.Storage.{Spot}
use Rattle.machine_steps.specs.Layout.{least_owner_of, owns_spot}
use Rattle.machine_steps.specs.Message.{message, needs}
use Rattle.machine_steps.specs.Node.{parcel, part_sends, local_read}
use Rattle.storage.specs.Spots.{spot_of}
use Rattle.part_steps.specs.Parts.{part_of}
use Rattle.part_steps.specs.Views.{part_view}
use Rattle.owner_tables.proofs.Listed.{is-listed, listed-is}
use Rattle.part_steps.proofs.OpeningLaws.{parcels-more}
use Rattle.owner_tables.proofs.Senders.{listed-owned, sent-owned}
use Rattle.comm_sets.proofs.Parcels.{targets-below}
use Rattle.part_steps.proofs.opening.outbox.Goals as goal

pub with-spots-requires : goal.with-spots-requires
with-spots-requires c =
    let owners = c.args.part.now.owners.now in
    let to : ℕ → List Spot = λ q. message owners.nodes owners.layouts (part_of (part_view c.args.part.now)) c.args.id q in
    let below : c.loop-target.target < owners.nodes = omega (arith, c.loop-target-test.true, c.nodes-target-end.ensures.value) in
    is-listed c.args.exchange.now.outgoing to owners.nodes c.requires.exchange.outgoing c.loop-target.target below

pub push_parcel-requires-clause-owner : goal.push_parcel-requires-clause-owner
push_parcel-requires-clause-owner c =
    let owners = c.args.part.now.owners.now in
    let part = part_of (part_view c.args.part.now) in
    let to : ℕ → List Spot = λ q. message owners.nodes owners.layouts part c.args.id q in
    let below : c.loop-target.target < owners.nodes = omega (arith, c.loop-target-test.true, c.nodes-target-end.ensures.value) in
    listed-owned owners.layouts c.args.id c.with-spots.result.now (to c.loop-target.target)
    (c.with-spots.ensures ∙ listed-is c.args.exchange.now.outgoing to owners.nodes c.requires.exchange.outgoing c.loop-target.target below [])
    (sent-owned owners.nodes owners.layouts c.are_dealt.ensures
    (λ spot. needs part c.loop-target.target spot && (not (owns_spot owners.layouts c.loop-target.target spot) && (least_owner_of owners.nodes owners.layouts spot == c.args.id)))
    c.args.id (λ spot h. eqb-true _ _ (and_parts _ _ (and_parts _ _ h).1).1))

pub loop-target-preserved : goal.loop-target-preserved
loop-target-preserved c =
    let owners = c.args.part.now.owners.now in
    let to : ℕ → List Spot = λ q. message owners.nodes owners.layouts (part_of (part_view c.args.part.now)) c.args.id q in
    let below : c.loop-target.target < owners.nodes = omega (arith, c.loop-target-test.true, c.nodes-target-end.ensures.value) in
    parcels-more to c.loop-target.target (map spot_of c.with-spots.result.now)
    (c.with-spots.ensures ∙ listed-is c.args.exchange.now.outgoing to owners.nodes c.requires.exchange.outgoing c.loop-target.target below []) (local_read owners.layouts c.args.id c.args.pieces.now)
    c.loop-target.outbox.items c.push_parcel.new.outbox.items c.in_ok-push_parcel.ensures c.loop-target.invariant

pub returns-clause-targets : goal.returns-clause-targets
returns-clause-targets c =
    let owners = c.args.part.now.owners.now in
    let part = part_of (part_view c.args.part.now) in
    let sends : ℕ → Bool = part_sends owners.nodes owners.layouts part c.args.id in
    let body : ℕ → List ℤ = λ q. map (local_read owners.layouts c.args.id c.args.pieces.now) (message owners.nodes owners.layouts part c.args.id q) in
    let done : c.loop-target.target ≡ owners.nodes = omega (arith, c.loop-target-test.false, c.loop-target.auto.target-end, c.nodes-target-end.ensures.value) in
    targets-below sends body owners.nodes c.loop-target.outbox.items (c.loop-target.invariant ∙ ap (λ n. map (parcel body) (filter sends (range_with_len 0 n))) done)
