use Rattle.std.proofs.Common.{◌≡◌, true, IfSome, subst}
use Rattle.course_forms.specs.Views.{named_of}
use Rattle.owned_places.specs.Holdings.{test_of}
use Rattle.visited_tuples.specs.Owned.{owns_in}
use Rattle.pair_messages.proofs.places.holding_of.Goals as goal

pub returns-in-Some-clause-some : goal.returns-in-Some-clause-some
returns-in-Some-clause-some c =
    subst (λ o. IfSome c.new.result (λ h. (test_of h ≡ owns_in o c.args.node (named_of c.args.reference.now)) × ((test_of h).always ≡ true))) c.in-Some.ensures.layout
    c.new.ensures.some
