use Rattle.std.proofs.Common.{◌==◌, ◌&&◌, not, nat_lt, slice_index_or, ◌∙◌, map}
use Rattle.storage.specs.Spots.{spot_of}
use Rattle.machine_steps.specs.Layout.{least_owner_of, owns_spot, sizes}
use Rattle.message_elements.proofs.AllSpots.{is-filter}
use Rattle.pair_messages.proofs.Moving.{regrouped}
use Rattle.pair_messages.proofs.remapping.remap_message.Goals as goal

pub returns : goal.returns
returns c =
    let nodes = c.args.before.now.nodes in
    let old = c.args.before.now.layouts in
    let new = c.args.after.now.layouts in
    let from = c.args.from in
    let to = c.args.to in
    is-filter (λ s. owns_spot new to s && (not (owns_spot old to s) && (least_owner_of nodes old s == from))) old (map spot_of c.arrange_list.new.list.items)
    c.arrange_list.ensures.ascends
    (λ s. c.arrange_list.ensures.among s ∙ c.in_ok-spots.ensures s
    ∙ regrouped (nat_lt s.at (slice_index_or (sizes old) s.row 0)) (not (owns_spot old to s) && (least_owner_of nodes old s == from)) (owns_spot new to s))
