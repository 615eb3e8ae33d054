use Rattle.std.proofs.Common.{◌||◌, ◌∙◌, map, ap, sym}
use Rattle.storage.specs.Spots.{spot_of}
use Rattle.message_elements.specs.Elements.{is_among}
use Rattle.pair_messages.specs.Moved.{is_moved}
use Rattle.pair_messages.proofs.Walks.{same-fails, same-passes}
use Rattle.pair_messages.proofs.remapping.Ends.add_element.Goals as goal

pub returns-then-not-moves : goal.returns-then-not-moves
returns-then-not-moves c s =
    let self = c.args.self.now in
    sym (ap (λ b. b || is_among (map spot_of c.args.spots.now.items) s)
    (same-fails (is_moved self.before.now.nodes self.before.now.layouts self.after.now.layouts self.from self.to) (spot_of c.args.spot) s
    (sym c.moves.ensures ∙ c.if-not-moves.true)))

pub returns : goal.returns
returns c s =
    let self = c.args.self.now in
    c.in_ok-note.ensures s
    ∙ sym (ap (λ b. b || is_among (map spot_of c.args.spots.now.items) s)
    (same-passes (is_moved self.before.now.nodes self.before.now.layouts self.after.now.layouts self.from self.to) (spot_of c.args.spot) s
    (sym c.moves.ensures ∙ c.if-not-moves.false)))
