use Rattle.std.proofs.Common.{◌≡◌, ◌+◌, ◌<◌, ◌++◌, ◌&&◌, ℕ, Bool, [], ◌∷◌, drop, filter, get_or, map, length, ◌∙◌, sym, ap, arith}
use Rattle.std.proofs.lemmas.List.{append-nil, drop_all, length-map, map-append}
use Rattle.std.specs.List.{range_with_len}
use Rattle.axis_products.specs.Products.{passing}
use Rattle.part_visits.proofs.AxisLists.{get-map, get-list, length-passing, one-more, passing-from}
use Rattle.part_visits.proofs.lists.common_lists.Goals as goal

pub loop-axis-preserved : goal.loop-axis-preserved
loop-axis-preserved c a b ns is-one is-other =
    let axis = c.loop-axis.axis in
    let both : ℕ → ℕ → Bool = λ k x. a k x && b k x in
    let rest = passing both (axis + 1) (drop (axis + 1) ns) in
    let long : length c.args.one.now ≡ length ns = sym (length-map c.args.one.now (λ v. v.items)) ∙ ap length is-one ∙ length-passing a 0 ns in
    let within : axis < length ns = omega (arith, c.loop-axis-test.true, long) in
    let one : c.deref.result.now ≡ filter (a axis) (range_with_len 0 (get_or ns axis 0)) =
    c.deref.ensures.value ∙ get-map (λ v. v.items) c.args.one.now axis c.index-one-axis.result [] c.loop-axis-test.true c.index-one-axis.is ∙ ap (λ l. get_or l axis []) is-one ∙ get-list a ns axis within in
    let other : c.deref-in-loop-axis.result.now ≡ filter (b axis) (range_with_len 0 (get_or ns axis 0)) =
    c.deref-in-loop-axis.ensures.value ∙ get-map (λ v. v.items) c.args.other.now axis c.index-other-axis.result [] (omega (arith, c.loop-axis-test.true, c.requires)) c.index-other-axis.is ∙ ap (λ l. get_or l axis []) is-other
    ∙ get-list b ns axis within in
    ap (λ l. map (λ v. v.items) l ++ rest) c.in_ok-push.ensures.items
    ∙ ap (λ l. l ++ rest) (map-append (λ v. v.items) c.loop-axis.lists.items (c.in_ok-places.places ∷ []))
    ∙ one-more (map (λ v. v.items) c.loop-axis.lists.items) (passing both axis (drop axis ns)) c.in_ok-places.places.items rest (passing both 0 ns)
    (passing-from both axis ns within ∙ ap (λ x. x ∷ rest) (sym (c.in_ok-places.ensures.value (a axis) (b axis) (get_or ns axis 0) one other)))
    (c.loop-axis.invariant a b ns is-one is-other)

pub returns : goal.returns
returns c a b ns is-one is-other =
    let axis = c.loop-axis.axis in
    let both : ℕ → ℕ → Bool = λ k x. a k x && b k x in
    let long : length c.args.one.now ≡ length ns = sym (length-map c.args.one.now (λ v. v.items)) ∙ ap length is-one ∙ length-passing a 0 ns in
    sym (append-nil (map (λ v. v.items) c.loop-axis.lists.items))
    ∙ ap (λ l. map (λ v. v.items) c.loop-axis.lists.items ++ passing both axis l) (sym (drop_all axis ns (omega (arith, c.loop-axis-test.false, long))))
    ∙ c.loop-axis.invariant a b ns is-one is-other
