use Rattle.std.proofs.Common.{◌<◌, ◌∙◌, slice_index_or, subst, sym}
use Rattle.storage.specs.Spots.{spot_of}
use Rattle.pair_messages.proofs.Moving.{sent-inside}
use Rattle.pair_messages.proofs.remapping.Ends.moves.Goals as goal

pub owns-requires-clause-at : goal.owns-requires-clause-at
owns-requires-clause-at c =
    let self = c.args.self.now in
    subst (λ sizes. c.args.spot.at < slice_index_or sizes c.args.spot.row 0) self.sizes
    (sent-inside self.before.now.nodes self.before.now.layouts self.from self.to (spot_of c.args.spot) (sym c.sends_element.ensures ∙ c.if-not-sends_element.false))
