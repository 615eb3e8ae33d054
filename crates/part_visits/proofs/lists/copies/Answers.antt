use Rattle.std.proofs.Common.{◌≡◌, ◌+◌, ◌<◌, ◌++◌, [], ◌∷◌, drop, get_or, map, length, ◌∙◌, sym, ap, arith}
use Rattle.std.proofs.lemmas.List.{length-map, map-append}
use Rattle.part_visits.proofs.AxisLists.{drop-get, get-map, one-more}
use Rattle.part_visits.proofs.lists.copies.Goals as goal

pub loop-list-preserved : goal.loop-list-preserved
loop-list-preserved c =
    let n = c.loop-list.list-index in
    let whole = map (λ v. v.items) c.args.lists.now in
    let rest = drop (n + 1) whole in
    let within : n < length whole = omega (arith, c.loop-list-test.true, length-map c.args.lists.now (λ v. v.items)) in
    let item : c.in_ok-copy.copy.items ≡ get_or whole n [] =
    c.in_ok-copy.ensures.items_if_clones_equal (λ y h same. same) ∙ c.deref.ensures.value
    ∙ get-map (λ v. v.items) c.args.lists.now n c.list-item.result [] c.loop-list-test.true c.list-item.is in
    ap (λ l. map (λ v. v.items) l ++ rest) c.in_ok-push.ensures.items
    ∙ ap (λ l. l ++ rest) (map-append (λ v. v.items) c.loop-list.copies.items (c.in_ok-copy.copy ∷ []))
    ∙ one-more (map (λ v. v.items) c.loop-list.copies.items) (drop n whole) c.in_ok-copy.copy.items rest whole
    (drop-get whole n [] within ∙ ap (λ x. x ∷ rest) (sym item)) c.loop-list.invariant
