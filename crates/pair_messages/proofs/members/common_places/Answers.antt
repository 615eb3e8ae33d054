use Rattle.std.proofs.Common.{◌&&◌, ℕ, Bool, filter, ◌∙◌, ap}
use Rattle.courses.proofs.Sections.{both}
use Rattle.gap_table.proofs.AscendingLists.{contains-in, in-contains}
use Rattle.owned_places.specs.Holdings.{test_of}
use Rattle.pair_messages.proofs.Ascending.{same-part}
use Rattle.pair_messages.proofs.ClassLaws.{some-below}
use Rattle.pair_messages.proofs.members.common_places.Goals as goal

pub returns : goal.returns
returns c =
    let axis = c.args.axis in
    let extent = c.args.extent in
    let members = c.in_ok-members.members.items in
    let classes = c.args.classes.now in
    let one : ℕ → Bool = (test_of c.args.one.now).at axis in
    let other : ℕ → Bool = (test_of c.args.other.now).at axis in
    let passes : ℕ → Bool = λ x. one x && other x in
    c.in_ok-places.ensures ∙ ap (filter passes) c.deref.ensures.value
    ∙ same-part passes extent members c.in_ok-members.ensures.ascend
    (λ x i. some-below extent classes x c.requires.classes.below (c.in_ok-members.ensures.within x (in-contains x members i)))
    (λ x small held. let h = both (one x) (other x) held in
    contains-in x members (c.in_ok-members.ensures.every x (c.requires.classes.every x small h.0 h.1)))
