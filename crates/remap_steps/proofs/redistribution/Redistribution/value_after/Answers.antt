use Rattle.std.proofs.Common.{◌≡◌, ◌<◌, false, w64, SFits, map, sym, ◌∙◌, arith, rules}
use Rattle.std.proofs.lemmas.Int.{to_z-of_z}
use Rattle.machine_steps.specs.Layout.{least_owner_of, owns_spot}
use Rattle.storage.specs.Spots.{spot_of}
use Rattle.owner_tables.proofs.Listed.{is-listed}
use Rattle.remap_steps.specs.Redistributions.{message_between}
use Rattle.remap_steps.proofs.Made.{seen}
use Rattle.remap_steps.proofs.Moved.{received-ascends, received-is}
use Rattle.remap_steps.proofs.redistribution.Redistribution.value_after.Goals as goal

pub with-requires : goal.with-requires
with-requires c =
    let v = c.args.self.now in
    let s = seen c.self.inside v c.self.view_is c.self.invariant in
    let below : c.least_owner-source.result < v.nodes = omega (arith, c.least_owner-source.ensures.below, s.nodes) in
    is-listed c.args.incoming.now (λ from. message_between v from v.id) v.nodes c.requires.incoming c.least_owner-source.result below

pub value_in-requires : goal.value_in-requires
value_in-requires c =
    let v = c.args.self.now in
    let s = seen c.self.inside v c.self.view_is c.self.invariant in
    let below : c.least_owner-source.result < v.nodes = omega (arith, c.least_owner-source.ensures.below, s.nodes) in
    received-ascends v c.args.pieces.now c.args.received.now c.args.incoming.now c.requires.incoming c.least_owner-source.result below
    (map spot_of c.with.result.now) c.with.ensures

pub returns : goal.returns
returns c =
    let v = c.args.self.now in
    let s = seen c.self.inside v c.self.view_is c.self.invariant in
    let spot = spot_of c.args.spot in
    let below : c.least_owner-source.result < v.nodes = omega (arith, c.least_owner-source.ensures.below, s.nodes) in
    let fits : SFits w64 c.value_in.result = search rules in
    let least : c.least_owner-source.result ≡ least_owner_of v.nodes v.old spot = c.least_owner-source.ensures.value ∙ (λ i. least_owner_of (s.nodes i) (s.old i) spot) in
    let owns : owns_spot v.old v.id spot ≡ false = sym (λ i. owns_spot (s.old i) (s.id i) spot) ∙ sym c.if-owns.ensures in
    to_z-of_z w64 c.value_in.result fits ∙ c.value_in.ensures
    ∙ received-is v c.args.pieces.now c.args.received.now c.args.incoming.now c.requires.incoming c.least_owner-source.result below
    (map spot_of c.with.result.now) c.with.ensures spot c.values_from.result.now least c.values_from.ensures owns
