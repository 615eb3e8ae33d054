use Rattle.std.proofs.Common.{◌≡◌, ◌+◌, ◌*◌, ◌++◌, ◌∷◌, [], ◌<◌, ◌^◌, All, length, map, drop, get_or, sym, ◌∙◌, ap, subst, arith}
use Rattle.std.proofs.lemmas.List.{map-append}
use Rattle.tuple_numbers.specs.Sums.{scaled}
use Rattle.tuple_numbers.proofs.Products.{next-room, next-scaled, one-more, room-most}
use Rattle.tuple_numbers.proofs.product.far_lists.Goals as goal

pub scaled-requires : goal.scaled-requires
scaled-requires c =
    let l = c.loop-axis in
    let axes = c.requires.axes in
    let room = next-room (λ v. v.items) c.args.lists.now c.args.extents.now l.axis c.index-lists-axis.result c.loop-axis-test.true (omega (arith, axes, c.loop-axis-test.true)) c.index-lists-axis.is
    l.factor l.invariant.room in
    subst (All (λ p. l.factor * p < 2 ^ 32)) (sym c.deref.ensures.value) room.1

pub overflow_mul-factor : goal.overflow_mul-factor
overflow_mul-factor c =
    let l = c.loop-axis in
    let axes = c.requires.axes in
    let room = next-room (λ v. v.items) c.args.lists.now c.args.extents.now l.axis c.index-lists-axis.result c.loop-axis-test.true (omega (arith, axes, c.loop-axis-test.true)) c.index-lists-axis.is
    l.factor l.invariant.room in
    let most = room-most (l.factor * get_or c.args.extents.now l.axis 0) (drop (l.axis + 1) c.args.extents.now) (drop (l.axis + 1) (map (λ v. v.items) c.args.lists.now)) room.2 in
    omega (arith, most)

pub loop-axis-preserved : goal.loop-axis-preserved
loop-axis-preserved c =
    let l = c.loop-axis in
    let axes = c.requires.axes in
    let inside : l.axis < length c.args.lists.now = omega (arith, axes, c.loop-axis-test.true) in
    let room = next-room (λ v. v.items) c.args.lists.now c.args.extents.now l.axis c.index-lists-axis.result c.loop-axis-test.true inside c.index-lists-axis.is l.factor l.invariant.room in
    let rest = scaled (l.factor * get_or c.args.extents.now l.axis 0) (drop (l.axis + 1) c.args.extents.now) (drop (l.axis + 1) (map (λ v. v.items) c.args.lists.now)) in
    let here : c.in_ok-list.list.items ≡ map (λ p. l.factor * p) c.index-lists-axis.result.items = c.in_ok-list.ensures ∙ ap (map (λ p. l.factor * p)) c.deref.ensures.value in
    record {
      axes = omega (arith, c.loop-axis-test.true);
      room = room.2;
      lists = ap (λ vs. map (λ v. v.items) vs ++ rest) c.in_ok-push.ensures.items
          ∙ ap (λ ls. ls ++ rest) (map-append (λ v. v.items) l.far.items (c.in_ok-list.list ∷ []))
          ∙ one-more (map (λ v. v.items) l.far.items) (scaled l.factor (drop l.axis c.args.extents.now) (drop l.axis (map (λ v. v.items) c.args.lists.now))) rest
          (scaled (get_or c.args.extents.now 0 0) (drop 1 c.args.extents.now) (drop 1 (map (λ v. v.items) c.args.lists.now))) c.in_ok-list.list.items
          (next-scaled (λ v. v.items) c.args.lists.now c.args.extents.now l.axis c.index-lists-axis.result c.loop-axis-test.true inside c.index-lists-axis.is l.factor ∙ ap (λ x. x ∷ rest) (sym here))
          l.invariant.lists;
    }
