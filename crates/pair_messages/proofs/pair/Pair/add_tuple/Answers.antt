use Rattle.std.proofs.Common.{◌&&◌, ◌||◌, ◌∙◌, map, take, ap, sym}
use Rattle.std.proofs.lemmas.List.{take_all}
use Rattle.storage.specs.Spots.{spot_of}
use Rattle.message_elements.specs.Elements.{is_among, is_sent}
use Rattle.message_elements.proofs.AllSpots.{both-tests}
use Rattle.course_forms.specs.Views.{named_of, names_of}
use Rattle.pair_messages.specs.Sent.{is_named_by, is_named_of}
use Rattle.pair_messages.proofs.Anys.{any-next}
use Rattle.pair_messages.proofs.Walks.{or-assoc}
use Rattle.pair_messages.proofs.pair.Pair.add_tuple.Goals as goal

pub returns-then-not-computes : goal.returns-then-not-computes
returns-then-not-computes c s =
    let self = c.args.self.now in
    ap (λ b. ((b && is_named_of self.extents.now (names_of c.args.reads.now) c.args.tuple s) && is_sent self.owners.now.nodes self.owners.now.layouts self.from self.to s)
    || is_among (map spot_of c.args.spots.now.items) s) (sym (c.if-not-computes.true) ∙ c.computes.ensures)

pub loop-read-preserved : goal.loop-read-preserved
loop-read-preserved c s =
    let self = c.args.self.now in
    let ns = self.extents.now in
    let t = c.args.tuple in
    let n = c.loop-read.read-index in
    let sent = is_sent self.owners.now.nodes self.owners.now.layouts self.from self.to s in
    let here = is_named_by ns (named_of c.read-item.result) t s in
    let so_far = is_named_of ns (names_of (take n c.args.reads.now)) t s in
    let before = is_among (map spot_of c.args.spots.now.items) s in
    c.in_ok-add_read.ensures s ∙ ap (λ b. (here && sent) || b) (c.loop-read.invariant s)
    ∙ or-assoc (here && sent) (so_far && sent) before
    ∙ ap (λ b. b || before) (both-tests here so_far sent
    ∙ ap (λ b. b && sent) (sym (any-next (λ r. is_named_by ns r t s) named_of c.args.reads.now n c.read-item.result c.loop-read-test.true c.read-item.is)))

pub returns : goal.returns
returns c s =
    let self = c.args.self.now in
    let ns = self.extents.now in
    let sent = is_sent self.owners.now.nodes self.owners.now.layouts self.from self.to s in
    let before = is_among (map spot_of c.args.spots.now.items) s in
    c.loop-read.invariant s
    ∙ ap (λ rs. (is_named_of ns (names_of rs) c.args.tuple s && sent) || before) (take_all c.loop-read.read-index c.args.reads.now c.loop-read-test.false)
    ∙ ap (λ b. ((b && is_named_of ns (names_of c.args.reads.now) c.args.tuple s) && sent) || before) (sym (c.if-not-computes.false) ∙ c.computes.ensures)
