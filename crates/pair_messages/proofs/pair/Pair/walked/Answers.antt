use Rattle.std.proofs.Common.{◌≡◌, ◌&&◌, ◌||◌, ◌∙◌, Bool, ap, arith, ℕ}
use Rattle.hpf_base.specs.ElementOrder.{product}
use Rattle.machine_steps.specs.Message.{any_below}
use Rattle.message_elements.specs.Elements.{is_sent}
use Rattle.course_forms.specs.Views.{named_of, names_of}
use Rattle.pair_messages.specs.Sent.{computes_named, is_named_of}
use Rattle.pair_messages.proofs.Walks.{one-below}
use Rattle.pair_messages.proofs.pair.Pair.walked.Goals as goal

pub loop-tuple-preserved : goal.loop-tuple-preserved
loop-tuple-preserved c s =
    let self = c.args.self.now in
    let sent = is_sent self.owners.now.nodes self.owners.now.layouts self.from self.to s in
    let P : ℕ → Bool = λ t. computes_named self.takers.now.layouts self.extents.now (named_of self.left.now) self.to t
    && is_named_of self.extents.now (names_of c.args.reads.now) t s in
    c.in_ok-add_tuple.ensures s ∙ ap (λ b. (P c.loop-tuple.tuple && sent) || b) (c.loop-tuple.invariant s) ∙ one-below P c.loop-tuple.tuple sent

pub returns : goal.returns
returns c s =
    let self = c.args.self.now in
    let done : c.loop-tuple.tuple ≡ product self.extents.now = omega (arith, c.tuples-tuple-end.ensures.value) in
    c.loop-tuple.invariant s
    ∙ ap (λ n. any_below (λ t. computes_named self.takers.now.layouts self.extents.now (named_of self.left.now) self.to t
    && is_named_of self.extents.now (names_of c.args.reads.now) t s) n && is_sent self.owners.now.nodes self.owners.now.layouts self.from self.to s) done
