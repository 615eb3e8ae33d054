use Rattle.std.proofs.Common.{◌∙◌, map}
use Rattle.storage.specs.Spots.{spot_of}
use Rattle.course_forms.specs.Views.{named_of, names_of}
use Rattle.pair_messages.specs.Sent.{computes_named}
use Rattle.pair_messages.proofs.Whole.{is-message}
use Rattle.pair_messages.proofs.messages.message.Goals as goal

pub returns : goal.returns
returns c part of =
    let layouts = c.args.owners.now.layouts in
    let ns = c.args.extents.now in
    is-message c.args.owners.now.nodes layouts ns (names_of c.args.reads.now) c.args.from c.args.to (computes_named layouts ns (named_of c.args.left.now)) part of
    (map spot_of c.arrange_list.new.list.items) c.arrange_list.ensures.ascends (λ s. c.arrange_list.ensures.among s ∙ c.in_ok-spots.ensures s)
