use Rattle.std.proofs.Common.{◌+◌, ◌++◌, [], ◌∷◌, drop, get_or, map, true, ◌∙◌, sym, ap}
use Rattle.std.proofs.lemmas.List.{map-append}
use Rattle.axis_products.specs.Products.{passing}
use Rattle.part_visits.proofs.AxisLists.{filter-all, one-more, passing-from}
use Rattle.part_visits.proofs.lists.all_places.Goals as goal

pub loop-extent-preserved : goal.loop-extent-preserved
loop-extent-preserved c =
    let ns = c.args.extents.now in
    let axis = c.loop-extent.extent-index in
    let rest = passing (λ k x. true) (axis + 1) (drop (axis + 1) ns) in
    ap (λ l. map (λ v. v.items) l ++ rest) c.in_ok-push.ensures.items
    ∙ ap (λ l. l ++ rest) (map-append (λ v. v.items) c.loop-extent.lists.items (c.in_ok-places.places ∷ []))
    ∙ one-more (map (λ v. v.items) c.loop-extent.lists.items) (passing (λ k x. true) axis (drop axis ns)) c.in_ok-places.places.items rest (passing (λ k x. true) 0 ns)
    (passing-from (λ k x. true) axis ns c.loop-extent-test.true ∙ ap (λ x. x ∷ rest) (filter-all (get_or ns axis 0) 0 ∙ sym c.in_ok-places.ensures))
    c.loop-extent.invariant
