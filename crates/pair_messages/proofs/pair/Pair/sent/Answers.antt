use Rattle.std.proofs.Common.{◌||◌, sym, ◌∙◌, ap}
use Rattle.axis_products.specs.Tests.{Test}
use Rattle.course_forms.specs.Views.{named_of}
use Rattle.visited_tuples.specs.Owned.{Lies, owns_named}
use Rattle.pair_messages.specs.Sent.{is_sent_of}
use Rattle.pair_messages.proofs.Anys.{any-next}
use Rattle.pair_messages.proofs.Items.{all-item}
use Rattle.pair_messages.proofs.pair.Pair.sent.Goals as goal

pub add_sent-requires-clause-lies : goal.add_sent-requires-clause-lies
add_sent-requires-clause-lies c =
    all-item (Lies c.args.self.now.extents.now c.args.self.now.owners.now.layouts) named_of c.args.reads.now c.loop-read.read-index c.read-item.result
    c.requires.lie c.loop-read-test.true c.read-item.is

pub loop-read-preserved : goal.loop-read-preserved
loop-read-preserved c s =
    let self = c.args.self.now in
    let computed : Test = owns_named self.takers.now.layouts self.to (named_of self.left.now) in
    let n = c.loop-read.read-index in
    c.in_ok-add_sent.ensures s
    ∙ ap (λ b. is_sent_of self.owners.now.nodes self.owners.now.layouts self.extents.now computed self.from self.to (named_of c.read-item.result) s || b) (c.loop-read.invariant s)
    ∙ sym (any-next (λ r. is_sent_of self.owners.now.nodes self.owners.now.layouts self.extents.now computed self.from self.to r s) named_of c.args.reads.now n c.read-item.result
    c.loop-read-test.true c.read-item.is)
