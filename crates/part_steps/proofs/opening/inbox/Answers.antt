use Rattle.std.proofs.Common.{◌≡◌, ℕ, ◌<◌, Bool, [], List, map, filter, ◌∙◌, ap, arith}
use Rattle.std.specs.List.{range_with_len}
use Rattle.storage.specs.Storage.{Spot}
use Rattle.machine_steps.specs.Message.{message}
use Rattle.machine_steps.specs.Node.{part_sends}
use Rattle.storage.specs.Spots.{spot_of}
use Rattle.part_steps.specs.Parts.{part_of}
use Rattle.part_steps.specs.Views.{part_view}
use Rattle.owner_tables.proofs.Listed.{is-listed, listed-is}
use Rattle.part_steps.proofs.OpeningLaws.{sources-more}
use Rattle.comm_sets.proofs.Parcels.{sources-below}
use Rattle.part_steps.proofs.opening.inbox.Goals as goal

pub with-requires : goal.with-requires
with-requires c =
    let owners = c.args.part.now.owners.now in
    let from : ℕ → List Spot = λ p. message owners.nodes owners.layouts (part_of (part_view c.args.part.now)) p c.args.id in
    let below : c.loop-source.source < owners.nodes = omega (arith, c.loop-source-test.true, c.nodes-source-end.ensures.value) in
    is-listed c.args.exchange.now.incoming from owners.nodes c.requires.exchange.incoming c.loop-source.source below

pub loop-source-preserved : goal.loop-source-preserved
loop-source-preserved c =
    let owners = c.args.part.now.owners.now in
    let from : ℕ → List Spot = λ p. message owners.nodes owners.layouts (part_of (part_view c.args.part.now)) p c.args.id in
    let below : c.loop-source.source < owners.nodes = omega (arith, c.loop-source-test.true, c.nodes-source-end.ensures.value) in
    sources-more from c.loop-source.source (map spot_of c.with.result.now) (c.with.ensures ∙ listed-is c.args.exchange.now.incoming from owners.nodes c.requires.exchange.incoming c.loop-source.source below [])
    c.loop-source.inbox.items c.push_source.new.inbox.items c.in_ok-push_source.ensures c.loop-source.invariant

pub returns-clause-below : goal.returns-clause-below
returns-clause-below c =
    let owners = c.args.part.now.owners.now in
    let sends : ℕ → Bool = λ p. part_sends owners.nodes owners.layouts (part_of (part_view c.args.part.now)) p c.args.id in
    let done : c.loop-source.source ≡ owners.nodes = omega (arith, c.loop-source-test.false, c.loop-source.auto.source-end, c.nodes-source-end.ensures.value) in
    sources-below sends owners.nodes c.loop-source.inbox.items (c.loop-source.invariant ∙ ap (λ n. filter sends (range_with_len 0 n)) done)
