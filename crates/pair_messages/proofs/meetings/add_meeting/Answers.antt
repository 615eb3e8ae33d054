use Rattle.std.proofs.Common.{◌∷◌, [], All, sym, subst}
use Rattle.pair_messages.specs.Classes.{AreCommonPlaces, InSome, IsBelow}
use Rattle.pair_messages.proofs.ClassLaws.{below-within, push-all, some-last, some-left}
use Rattle.pair_messages.proofs.meetings.add_meeting.Goals as goal

pub returns-in_ok-push-clause-kept : goal.returns-in_ok-push-clause-kept
returns-in_ok-push-clause-kept c x i =
    subst (λ cs. InSome cs x) (sym c.in_ok-push.ensures.items) (some-left c.args.classes.now.items (c.in-Some.common ∷ []) x i)

pub returns-in_ok-push-clause-every : goal.returns-in_ok-push-clause-every
returns-in_ok-push-clause-every c x i j =
    let common = subst (AreCommonPlaces c.args.a c.args.b) c.in-Some.is c.meet_classes.ensures in
    subst (λ cs. InSome cs x) (sym c.in_ok-push.ensures.items) (some-last c.args.classes.now.items c.in-Some.common x (common.1 x i j))

pub returns-in_ok-push-clause-below : goal.returns-in_ok-push-clause-below
returns-in_ok-push-clause-below c extent one all =
    let common = subst (AreCommonPlaces c.args.a c.args.b) c.in-Some.is c.meet_classes.ensures in
    subst (All (IsBelow extent)) (sym c.in_ok-push.ensures.items)
    (push-all (IsBelow extent) c.args.classes.now.items c.in-Some.common all (below-within extent c.args.a c.in-Some.common common.0 one))

pub returns-in_default-clause-every : goal.returns-in_default-clause-every
returns-in_default-clause-every c x i j = absurd (subst (AreCommonPlaces c.args.a c.args.b) c.in_default.is c.meet_classes.ensures x i j)
