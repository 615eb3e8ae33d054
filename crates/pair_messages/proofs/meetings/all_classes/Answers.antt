use Rattle.std.proofs.Common.{◌∷◌, [], All, inl, inr, sym, subst}
use Rattle.pair_messages.specs.Classes.{InSome, IsBelow}
use Rattle.pair_messages.proofs.ClassLaws.{class-below, next-first, push-all, some-last, some-left}
use Rattle.pair_messages.proofs.meetings.all_classes.Goals as goal

pub loop-class-preserved : goal.loop-class-preserved
loop-class-preserved c = record {
  every = λ x first. subst (λ cs. InSome cs x) (sym c.in_ok-push.ensures.items)
      (elim (next-first c.args.places.now c.loop-class.class c.class_of.result c.class_of.ensures.value x first) [
        | inl h ↦ some-left c.loop-class.classes.items (c.class_of.result ∷ []) x (c.loop-class.invariant.every x h)
        | inr h ↦ some-last c.loop-class.classes.items c.class_of.result x h
      ]);
  below = λ passes extent are. subst (All (IsBelow extent)) (sym c.in_ok-push.ensures.items)
      (push-all (IsBelow extent) c.loop-class.classes.items c.class_of.result (c.loop-class.invariant.below passes extent are)
      (class-below passes extent c.args.places.now c.loop-class.class c.class_of.result c.class_of.ensures.value are));
}
