use Rattle.std.proofs.Common.{◌≡◌, ℕ, ◌<◌, ◌&&◌, false, length, slice_index_or, IfNone, sym, ◌∙◌, subst}
use Rattle.axis_products.specs.Products.{places_at}
use Rattle.axis_products.specs.Tests.{Test, and_test, holds}
use Rattle.course_forms.specs.Views.{named_of}
use Rattle.owned_places.specs.Holdings.{test_of}
use Rattle.visited_tuples.specs.Owned.{owns_named}
use Rattle.pair_messages.proofs.BothTests.{none-first, none-on, none-second}
use Rattle.pair_messages.proofs.pair.Pair.places.Goals as goal

pub returns-in_default : goal.returns-in_default
returns-in_default c =
    let self = c.args.self.now in
    let computed : Test = owns_named self.takers.now.layouts self.to (named_of self.left.now) in
    let owned : Test = owns_named self.owners.now.layouts self.from (named_of c.args.read.now) in
    none-first computed owned self.extents.now
    (subst (λ o. IfNone o ((t : ℕ) → holds computed (places_at self.extents.now t) ≡ false)) c.in_default.is c.holding_of.ensures.none)

pub returns-in_default-holding_of : goal.returns-in_default-holding_of
returns-in_default-holding_of c =
    let self = c.args.self.now in
    let computed : Test = owns_named self.takers.now.layouts self.to (named_of self.left.now) in
    let owned : Test = owns_named self.owners.now.layouts self.from (named_of c.args.read.now) in
    none-second computed owned self.extents.now
    (subst (λ o. IfNone o ((t : ℕ) → holds owned (places_at self.extents.now t) ≡ false)) c.in_default-holding_of.is c.holding_of-2.ensures.none)

pub returns-in_default-2 : goal.returns-in_default-2
returns-in_default-2 c =
    let self = c.args.self.now in
    let ns = self.extents.now in
    let computed : Test = owns_named self.takers.now.layouts self.to (named_of self.left.now) in
    let owned : Test = owns_named self.owners.now.layouts self.from (named_of c.args.read.now) in
    let one : Test = test_of c.in-Some.computed in
    let other : Test = test_of c.in-Some-holding_of.owned in
    let computed-is : one ≡ computed = c.in-Some.ensures.some.0 in
    let owned-is : other ≡ owned = c.in-Some-holding_of.ensures.some.0 in
    let h = subst (λ o. IfNone o ((axis : ℕ) × (axis < length ns) × ((x : ℕ) → x < slice_index_or ns axis 0 → (one.at axis x && other.at axis x) ≡ false)))
    c.in_default-2.is c.in_ok-classes.ensures.none in
    none-on (and_test computed owned) ns h.0 h.1 (λ x small. (λ i. (sym computed-is i).at h.0 x && (sym owned-is i).at h.0 x) ∙ h.2 x small)
