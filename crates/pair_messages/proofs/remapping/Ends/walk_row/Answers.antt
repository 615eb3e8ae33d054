use Rattle.std.proofs.Common.{◌&&◌, ◌||◌, ◌<◌, nat_eq, get_or, length, map, take, ◌∙◌, ap, arith}
use Rattle.std.proofs.lemmas.List.{take_all}
use Rattle.std.specs.List.{list_any}
use Rattle.storage.specs.Spots.{spot_of}
use Rattle.message_elements.specs.Elements.{is_among}
use Rattle.pair_messages.specs.Moved.{is_moved}
use Rattle.pair_messages.proofs.Moving.{all-elements, element-more}
use Rattle.pair_messages.proofs.Walks.{or-assoc}
use Rattle.pair_messages.proofs.remapping.Ends.walk_row.Goals as goal

pub loop-at-preserved : goal.loop-at-preserved
loop-at-preserved c s =
    let self = c.args.self.now in
    let moved = is_moved self.before.now.nodes self.before.now.layouts self.after.now.layouts self.from self.to s in
    let row = c.args.row in
    let ps = c.deref-at-items.result.now in
    let i = c.loop-at.at-index in
    let inside : i < length ps = omega arith in
    let here = (nat_eq row s.row && nat_eq (get_or ps i 0) s.at) && moved in
    let so_far = (nat_eq row s.row && list_any (λ at. nat_eq at s.at) (take i ps)) && moved in
    let before = is_among (map spot_of c.args.spots.now.items) s in
    c.in_ok-add_element.ensures s ∙ ap (λ b. here || b) (c.loop-at.invariant s) ∙ or-assoc here so_far before ∙ ap (λ b. b || before) (element-more ps i row s moved inside)

pub returns : goal.returns
returns c s =
    let self = c.args.self.now in
    let moved = is_moved self.before.now.nodes self.before.now.layouts self.after.now.layouts self.from self.to s in
    let row = c.args.row in
    let ps = c.deref-at-items.result.now in
    let before = is_among (map spot_of c.args.spots.now.items) s in
    c.loop-at.invariant s
    ∙ ap (λ xs. ((nat_eq row s.row && list_any (λ at. nat_eq at s.at) xs) && moved) || before)
    (take_all c.loop-at.at-index ps (omega arith) ∙ c.deref-at-items.ensures.value ∙ c.in_ok-positions.ensures)
    ∙ ap (λ b. b || before) (all-elements self.before.now.nodes self.before.now.layouts self.after.now.layouts self.from self.to row s c.requires)
