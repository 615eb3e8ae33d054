use Rattle.std.proofs.Common.{ℕ, Bool}
use Rattle.owned_places.specs.Holdings.{test_of}
use Rattle.pair_messages.proofs.ClassLaws.{passing-place}
use Rattle.pair_messages.proofs.meetings.common_classes.Goals as goal

pub returns : goal.returns
returns c =
    let p : ℕ → Bool = (test_of c.args.one.now).at c.args.axis in
    let q : ℕ → Bool = (test_of c.args.other.now).at c.args.axis in
    let extent = c.args.extent in
    record {
      below = c.in_ok-classes.ensures.below p q extent c.in_ok-a.ensures c.in_ok-b.ensures;
      every = λ x small one other. c.in_ok-classes.ensures.every x (passing-place p extent c.in_ok-a.a x c.in_ok-a.ensures small one)
          (passing-place q extent c.in_ok-b.b x c.in_ok-b.ensures small other);
    }
