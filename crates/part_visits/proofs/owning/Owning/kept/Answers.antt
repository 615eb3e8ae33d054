use Rattle.std.proofs.Common.{◌≡◌, ◌+◌, ◌<◌, ◌++◌, ◌&&◌, ℕ, Bool, [], ◌∷◌, drop, filter, get_or, map, length, refl, ◌∙◌, sym, ap, arith}
use Rattle.std.proofs.lemmas.List.{append-nil, drop_all, length-map, map-append}
use Rattle.std.specs.List.{range_with_len}
use Rattle.axis_products.specs.Products.{passing}
use Rattle.axis_walks.proofs.Tests.{filter-filter}
use Rattle.part_visits.specs.Owning.{owns_if_at}
use Rattle.part_visits.proofs.AxisLists.{get-map, get-list, length-passing, one-more, passing-from}
use Rattle.part_visits.proofs.owning.Owning.kept.Goals as goal

pub loop-axis-preserved : goal.loop-axis-preserved
loop-axis-preserved c a ns is =
    let axis = c.loop-axis.axis in
    let test : ℕ → ℕ → Bool = owns_if_at c.args.self.now in
    let both : ℕ → ℕ → Bool = λ k x. a k x && test k x in
    let rest = passing both (axis + 1) (drop (axis + 1) ns) in
    let long : length c.args.lists.now ≡ length ns = sym (length-map c.args.lists.now (λ v. v.items)) ∙ ap length is ∙ length-passing a 0 ns in
    let within : axis < length ns = omega (arith, c.loop-axis-test.true, long) in
    let here : c.deref.result.now ≡ filter (a axis) (range_with_len 0 (get_or ns axis 0)) =
    c.deref.ensures.value ∙ get-map (λ v. v.items) c.args.lists.now axis c.index-lists-axis.result [] c.loop-axis-test.true c.index-lists-axis.is
    ∙ ap (λ l. get_or l axis []) is ∙ get-list a ns axis within in
    ap (λ l. map (λ v. v.items) l ++ rest) c.in_ok-push.ensures.items
    ∙ ap (λ l. l ++ rest) (map-append (λ v. v.items) c.loop-axis.kept.items (c.in_ok-places.places ∷ []))
    ∙ one-more (map (λ v. v.items) c.loop-axis.kept.items) (passing both axis (drop axis ns)) c.in_ok-places.places.items rest (passing both 0 ns)
    (passing-from both axis ns within ∙ ap (λ x. x ∷ rest)
    (sym (c.in_ok-places.ensures ∙ ap (filter (test axis)) here ∙ filter-filter (a axis) (test axis) (test axis) 0 (get_or ns axis 0) (λ k ge lt. refl))))
    (c.loop-axis.invariant a ns is)

pub returns : goal.returns
returns c a ns is =
    let axis = c.loop-axis.axis in
    let both : ℕ → ℕ → Bool = λ k x. a k x && owns_if_at c.args.self.now k x in
    let long : length c.args.lists.now ≡ length ns = sym (length-map c.args.lists.now (λ v. v.items)) ∙ ap length is ∙ length-passing a 0 ns in
    sym (append-nil (map (λ v. v.items) c.loop-axis.kept.items))
    ∙ ap (λ l. map (λ v. v.items) c.loop-axis.kept.items ++ passing both axis l) (sym (drop_all axis ns (omega (arith, c.loop-axis-test.false, long))))
    ∙ c.loop-axis.invariant a ns is
