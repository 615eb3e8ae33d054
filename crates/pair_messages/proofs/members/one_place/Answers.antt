use Rattle.std.proofs.Common.{◌++◌, ◌∷◌, [], inr, ◌∙◌, ap}
use Rattle.pair_messages.proofs.ClassLaws.{some-below}
use Rattle.pair_messages.proofs.members.one_place.Goals as goal

pub returns : goal.returns
returns c =
    let h = c.in-Some.ensures.some in
    inr (
      c.in-Some.place,
      c.in_ok-push.ensures.items ∙ ap (λ l. l ++ c.in-Some.place ∷ []) c.new-places.ensures.items,
      some-below c.args.extent c.args.classes.now c.in-Some.place c.requires.classes.below h.0,
      h.1,
    )
