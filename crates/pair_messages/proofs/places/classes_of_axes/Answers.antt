use Rattle.std.proofs.Common.{◌≡◌, ◌+◌, ◌<◌, ◌++◌, ◌∷◌, [], get_or, length, map, take, sym, ◌∙◌, ap, subst, arith}
use Rattle.std.proofs.lemmas.List.{length-take, map-append, take_more}
use Rattle.axis_products.specs.Tests.{Test}
use Rattle.owned_places.specs.Holdings.{test_of}
use Rattle.pair_messages.specs.Classes.{AreCommonFrom, AreCommonOn}
use Rattle.pair_messages.proofs.AxisClasses.{common-more, no-class, none-common}
use Rattle.pair_messages.proofs.places.classes_of_axes.Goals as goal

pub returns-then-len-eq0-clause-none : goal.returns-then-len-eq0-clause-none
returns-then-len-eq0-clause-none c =
    let axis = c.loop-axis.axis in
    let extent = get_or c.args.extents.now axis 0 in
    let one : Test = test_of c.args.one.now in
    let other : Test = test_of c.args.other.now in (
      axis,
      c.loop-axis-test.true,
      none-common extent axis one other
          (subst (AreCommonOn extent axis one other)
          (no-class c.in_ok-classes.classes.items (omega (arith, c.len.ensures, c.if-len-eq0.true, c.in_ok-classes.classes.ok))) c.in_ok-classes.ensures),
    )

pub loop-axis-preserved : goal.loop-axis-preserved
loop-axis-preserved c =
    let axis = c.loop-axis.axis in
    let ns = c.args.extents.now in
    let extent = get_or ns axis 0 in
    let one : Test = test_of c.args.one.now in
    let other : Test = test_of c.args.other.now in
    let lists = c.loop-axis.lists.items in
    let classes = c.in_ok-classes.classes in
    let within : axis < length ns = c.loop-axis-test.true in
    let at : axis ≡ 0 + length (take axis ns) = omega (arith, within, length-take axis ns) in
    subst (λ es. AreCommonFrom 0 es one other (map (λ v. v.items) c.push.new.self.items)) (sym (take_more ns axis 0 within))
    (subst (AreCommonFrom 0 (take axis ns ++ extent ∷ []) one other)
    (sym (ap (map (λ v. v.items)) c.in_ok-push.ensures.items ∙ map-append (λ v. v.items) lists (classes ∷ [])))
    (common-more 0 (take axis ns) one other (map (λ v. v.items) lists) extent classes.items c.loop-axis.invariant
    (subst (λ n. AreCommonOn extent n one other classes.items) at c.in_ok-classes.ensures)))
