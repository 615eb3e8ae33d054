use Rattle.std.proofs.Common.{◌||◌, ◌∙◌, map, ap, sym}
use Rattle.storage.specs.Spots.{spot_of}
use Rattle.message_elements.specs.Elements.{is_among, is_sent}
use Rattle.pair_messages.proofs.Walks.{same-fails, same-passes}
use Rattle.pair_messages.proofs.pair.Pair.add_element.Goals as goal

pub returns-then-not-sends_element : goal.returns-then-not-sends_element
returns-then-not-sends_element c s =
    let self = c.args.self.now in
    sym (ap (λ b. b || is_among (map spot_of c.args.spots.now.items) s)
    (same-fails (is_sent self.owners.now.nodes self.owners.now.layouts self.from self.to) (spot_of c.args.spot) s
    (sym c.sends_element.ensures ∙ c.if-not-sends_element.true)))

pub returns : goal.returns
returns c s =
    let self = c.args.self.now in
    c.in_ok-note.ensures s
    ∙ sym (ap (λ b. b || is_among (map spot_of c.args.spots.now.items) s)
    (same-passes (is_sent self.owners.now.nodes self.owners.now.layouts self.from self.to) (spot_of c.args.spot) s
    (sym c.sends_element.ensures ∙ c.if-not-sends_element.false)))
