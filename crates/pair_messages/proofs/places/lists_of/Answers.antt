use Rattle.std.proofs.Common.{◌≡◌, take, ◌+◌, ◌<◌, ◌≤◌, ◌++◌, ◌&&◌, ℕ, Bool, [], ◌∷◌, get_or, map, length, ◌∙◌, sym, ap, subst, arith}
use Rattle.std.proofs.lemmas.List.{length-map, length-take, map-append, take_all, take_more}
use Rattle.axis_products.specs.Tests.{Test}
use Rattle.owned_places.specs.Holdings.{test_of}
use Rattle.course_forms.specs.Views.{courses_of}
use Rattle.pair_messages.specs.Classes.{AreCommonOn}
use Rattle.pair_messages.specs.Enough.{AreEnoughFrom, IsEnough, moves_on}
use Rattle.pair_messages.proofs.AxisClasses.{common-long, common-on}
use Rattle.pair_messages.proofs.Items.{get-map}
use Rattle.pair_messages.proofs.Enough.{enough-more}
use Rattle.pair_messages.proofs.places.lists_of.Goals as goal

pub bounds-extents-axis : goal.bounds-extents-axis
bounds-extents-axis c =
    let long = common-long 0 c.args.extents.now (test_of c.args.one.now) (test_of c.args.other.now) (map (λ v. v.items) c.args.classes.now) c.requires.classes in
    omega (arith, c.loop-axis-test.true, long, length-map c.args.classes.now (λ v. v.items))

pub places_on-requires-clause-classes : goal.places_on-requires-clause-classes
places_on-requires-clause-classes c =
    let axis = c.loop-axis.axis in
    let ns = c.args.extents.now in
    let one : Test = test_of c.args.one.now in
    let other : Test = test_of c.args.other.now in
    let lists = map (λ v. v.items) c.args.classes.now in
    let long = common-long 0 ns one other lists c.requires.classes in
    subst (AreCommonOn (get_or ns axis 0) axis one other)
    (sym (c.deref.ensures.value ∙ get-map (λ v. v.items) c.args.classes.now axis c.index-classes-axis.result [] c.loop-axis-test.true c.index-classes-axis.is))
    (common-on ns one other lists axis c.requires.classes (omega (arith, c.loop-axis-test.true, long, length-map c.args.classes.now (λ v. v.items))))

pub loop-axis-preserved : goal.loop-axis-preserved
loop-axis-preserved c =
    let axis = c.loop-axis.axis in
    let ns = c.args.extents.now in
    let one : Test = test_of c.args.one.now in
    let other : Test = test_of c.args.other.now in
    let asked : ℕ → Bool = moves_on (courses_of c.args.courses.now) in
    let both : ℕ → ℕ → Bool = λ k x. one.at k x && other.at k x in
    let extent = get_or ns axis 0 in
    let lists = c.loop-axis.lists.items in
    let places = c.in_ok-places.places in
    let long = common-long 0 ns one other (map (λ v. v.items) c.args.classes.now) c.requires.classes in
    let within : axis < length ns = omega (arith, c.loop-axis-test.true, long, length-map c.args.classes.now (λ v. v.items)) in
    let at : axis ≡ 0 + length (take axis ns) = omega (arith, within, length-take axis ns) in
    let enough : IsEnough (asked axis) (both axis) extent places.items =
    subst (λ a. IsEnough a (both axis) extent places.items) c.moves_on-is_asked.ensures c.in_ok-places.ensures in
    subst (λ es. AreEnoughFrom asked both 0 es (map (λ v. v.items) c.push.new.self.items)) (sym (take_more ns axis 0 within))
    (subst (AreEnoughFrom asked both 0 (take axis ns ++ extent ∷ []))
    (sym (ap (map (λ v. v.items)) c.in_ok-push.ensures.items ∙ map-append (λ v. v.items) lists (places ∷ [])))
    (enough-more asked both 0 (take axis ns) (map (λ v. v.items) lists) extent places.items c.loop-axis.invariant
    (subst (λ n. IsEnough (asked n) (both n) extent places.items) at enough)))

pub returns : goal.returns
returns c =
    let axis = c.loop-axis.axis in
    let ns = c.args.extents.now in
    let one : Test = test_of c.args.one.now in
    let other : Test = test_of c.args.other.now in
    let both : ℕ → ℕ → Bool = λ k x. one.at k x && other.at k x in
    let long = common-long 0 ns one other (map (λ v. v.items) c.args.classes.now) c.requires.classes in
    let past : length ns ≤ axis = omega (arith, c.loop-axis-test.false, long, length-map c.args.classes.now (λ v. v.items)) in
    subst (λ es. AreEnoughFrom (moves_on (courses_of c.args.courses.now)) both 0 es (map (λ v. v.items) c.loop-axis.lists.items)) (take_all axis ns past) c.loop-axis.invariant
