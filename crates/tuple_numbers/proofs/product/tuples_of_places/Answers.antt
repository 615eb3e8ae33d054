use Rattle.std.proofs.Common.{◌≡◌, ◌∷◌, [], ◌<◌, ◌^◌, All, length, map, get_or, sym, ◌∙◌, ap, subst, arith}
use Rattle.std.proofs.lemmas.List.{get_or_default, get_or-map, length-map, nil_from_length}
use Rattle.std.specs.List.{range_with_len}
use Rattle.axis_products.specs.Products.{combined, number_at}
use Rattle.tuple_numbers.specs.Sums.{AreRoom, sums}
use Rattle.tuple_numbers.proofs.Products.{IsProduct, all-some, combined-none, first-number, is-product, length-passing, room}
use Rattle.tuple_numbers.proofs.product.tuples_of_places.Goals as goal

pub returns-then-has_empty : goal.returns-then-has_empty
returns-then-has_empty c =
    c.below.ensures ∙ ap (map (number_at c.args.extents.now)) (sym (combined-none (λ v. v.items) c.args.lists.now (sym c.has_empty.ensures ∙ c.if-has_empty.true)))

pub returns-then-lists-eq0 : goal.returns-then-lists-eq0
returns-then-lists-eq0 c =
    let none = nil_from_length c.args.lists.now c.if-lists-eq0.true in
    c.below-then-lists-eq0.ensures ∙ sym (ap (λ n. n ∷ []) (first-number c.args.extents.now)) ∙ ap (λ vs. map (number_at c.args.extents.now) (combined (map (λ v. v.items) vs))) (sym none)

pub far_lists-requires-clause-some : goal.far_lists-requires-clause-some
far_lists-requires-clause-some c =
    let same = sym (length-map c.args.lists.now (λ v. v.items)) ∙ ap length c.requires.places.1 ∙ length-passing c.requires.places.0 0 c.args.extents.now in
    let some = c.if-lists-eq0.false in
    omega (arith, same, some)

pub far_lists-requires-clause-axes : goal.far_lists-requires-clause-axes
far_lists-requires-clause-axes c = sym (length-map c.args.lists.now (λ v. v.items)) ∙ ap length c.requires.places.1 ∙ length-passing c.requires.places.0 0 c.args.extents.now

pub far_lists-requires-clause-room : goal.far_lists-requires-clause-room
far_lists-requires-clause-room c =
    let ns = c.args.extents.now in
    let is = c.requires.places.1 in
    let filled : All (λ ps. 0 < length ps) (map (λ v. v.items) c.args.lists.now) = all-some (λ v. v.items) c.args.lists.now (sym c.has_empty.ensures ∙ c.if-has_empty.false) in
    let few = c.requires.few in
    subst (AreRoom 1 ns) (sym is) (room c.requires.places.0 0 1 ns (subst (All (λ ps. 0 < length ps)) is filled) (omega (arith, few))).1

pub summed-requires-clause-some : goal.summed-requires-clause-some
summed-requires-clause-some c =
    let ns = c.args.extents.now in
    let lists = map (λ v. v.items) c.args.lists.now in
    let near = c.index-lists-0.result.items in
    let far = map (λ v. v.items) c.in_ok-far.far.items in
    let long = length-map c.args.lists.now (λ v. v.items) in
    let differ = c.if-lists-eq0.false in
    let inside : 0 < length c.args.lists.now = omega (arith, differ) in
    let filled : All (λ ps. 0 < length ps) lists = all-some (λ v. v.items) c.args.lists.now (sym c.has_empty.ensures ∙ c.if-has_empty.false) in
    let first : near ≡ get_or lists 0 near = ap (λ v. v.items) c.index-lists-0.is ∙ sym (get_or-map (λ v. v.items) c.args.lists.now 0 c.index-lists-0.result near inside) in
    let all : IsProduct ns near lists far = is-product c.requires.places.0 ns near lists far (omega (arith, long, inside)) filled c.requires.few c.requires.places.1 first c.in_ok-far.ensures in
    all.some

pub summed-requires-clause-few : goal.summed-requires-clause-few
summed-requires-clause-few c =
    let ns = c.args.extents.now in
    let lists = map (λ v. v.items) c.args.lists.now in
    let near = c.index-lists-0.result.items in
    let far = map (λ v. v.items) c.in_ok-far.far.items in
    let long = length-map c.args.lists.now (λ v. v.items) in
    let differ = c.if-lists-eq0.false in
    let inside : 0 < length c.args.lists.now = omega (arith, differ) in
    let filled : All (λ ps. 0 < length ps) lists = all-some (λ v. v.items) c.args.lists.now (sym c.has_empty.ensures ∙ c.if-has_empty.false) in
    let first : near ≡ get_or lists 0 near = ap (λ v. v.items) c.index-lists-0.is ∙ sym (get_or-map (λ v. v.items) c.args.lists.now 0 c.index-lists-0.result near inside) in
    let all : IsProduct ns near lists far = is-product c.requires.places.0 ns near lists far (omega (arith, long, inside)) filled c.requires.few c.requires.places.1 first c.in_ok-far.ensures in
    let place : 0 < length near = subst (λ ps. 0 < length ps) (sym first) (filled 0 near (omega (arith, long, inside))) in
    let one : c.index.result.now ≡ get_or near 0 0 = c.index.ensures ∙ sym (get_or_default near 0 0 c.index.result.now place) in
    let many : c.len.result ≡ length near = c.len.ensures ∙ c.index-lists-0.result.ok.0 in
    let row : near ≡ range_with_len (get_or near 0 0) (length near) = sym c.deref.ensures.value ∙ c.is_row.ensures c.if-is_row.true ∙ ap (λ xs. range_with_len (get_or xs 0 0) (length xs)) c.deref.ensures.value in
    let is : range_with_len c.index.result.now c.len.result ≡ near = (λ i. range_with_len (one i) (many i)) ∙ sym row in
    subst (λ ps. length (sums (ps ∷ far)) < 2 ^ 64) (sym is) all.few

pub summed-requires-clause-small : goal.summed-requires-clause-small
summed-requires-clause-small c =
    let ns = c.args.extents.now in
    let lists = map (λ v. v.items) c.args.lists.now in
    let near = c.index-lists-0.result.items in
    let far = map (λ v. v.items) c.in_ok-far.far.items in
    let long = length-map c.args.lists.now (λ v. v.items) in
    let differ = c.if-lists-eq0.false in
    let inside : 0 < length c.args.lists.now = omega (arith, differ) in
    let filled : All (λ ps. 0 < length ps) lists = all-some (λ v. v.items) c.args.lists.now (sym c.has_empty.ensures ∙ c.if-has_empty.false) in
    let first : near ≡ get_or lists 0 near = ap (λ v. v.items) c.index-lists-0.is ∙ sym (get_or-map (λ v. v.items) c.args.lists.now 0 c.index-lists-0.result near inside) in
    let all : IsProduct ns near lists far = is-product c.requires.places.0 ns near lists far (omega (arith, long, inside)) filled c.requires.few c.requires.places.1 first c.in_ok-far.ensures in
    all.small

pub returns-then-is_row : goal.returns-then-is_row
returns-then-is_row c =
    let ns = c.args.extents.now in
    let lists = map (λ v. v.items) c.args.lists.now in
    let near = c.index-lists-0.result.items in
    let far = map (λ v. v.items) c.in_ok-far.far.items in
    let long = length-map c.args.lists.now (λ v. v.items) in
    let differ = c.if-lists-eq0.false in
    let inside : 0 < length c.args.lists.now = omega (arith, differ) in
    let filled : All (λ ps. 0 < length ps) lists = all-some (λ v. v.items) c.args.lists.now (sym c.has_empty.ensures ∙ c.if-has_empty.false) in
    let first : near ≡ get_or lists 0 near = ap (λ v. v.items) c.index-lists-0.is ∙ sym (get_or-map (λ v. v.items) c.args.lists.now 0 c.index-lists-0.result near inside) in
    let all : IsProduct ns near lists far = is-product c.requires.places.0 ns near lists far (omega (arith, long, inside)) filled c.requires.few c.requires.places.1 first c.in_ok-far.ensures in
    let place : 0 < length near = subst (λ ps. 0 < length ps) (sym first) (filled 0 near (omega (arith, long, inside))) in
    let one : c.index.result.now ≡ get_or near 0 0 = c.index.ensures ∙ sym (get_or_default near 0 0 c.index.result.now place) in
    let many : c.len.result ≡ length near = c.len.ensures ∙ c.index-lists-0.result.ok.0 in
    let row : near ≡ range_with_len (get_or near 0 0) (length near) = sym c.deref.ensures.value ∙ c.is_row.ensures c.if-is_row.true ∙ ap (λ xs. range_with_len (get_or xs 0 0) (length xs)) c.deref.ensures.value in
    let is : range_with_len c.index.result.now c.len.result ≡ near = (λ i. range_with_len (one i) (many i)) ∙ sym row in
    c.summed.ensures ∙ ap (λ ps. sums (ps ∷ far)) is ∙ all.value

pub summed-requires-2-clause-some : goal.summed-requires-2-clause-some
summed-requires-2-clause-some c =
    let ns = c.args.extents.now in
    let lists = map (λ v. v.items) c.args.lists.now in
    let near = c.index-lists-0.result.items in
    let far = map (λ v. v.items) c.in_ok-far.far.items in
    let long = length-map c.args.lists.now (λ v. v.items) in
    let differ = c.if-lists-eq0.false in
    let inside : 0 < length c.args.lists.now = omega (arith, differ) in
    let filled : All (λ ps. 0 < length ps) lists = all-some (λ v. v.items) c.args.lists.now (sym c.has_empty.ensures ∙ c.if-has_empty.false) in
    let first : near ≡ get_or lists 0 near = ap (λ v. v.items) c.index-lists-0.is ∙ sym (get_or-map (λ v. v.items) c.args.lists.now 0 c.index-lists-0.result near inside) in
    let all : IsProduct ns near lists far = is-product c.requires.places.0 ns near lists far (omega (arith, long, inside)) filled c.requires.few c.requires.places.1 first c.in_ok-far.ensures in
    all.some

pub summed-requires-2-clause-few : goal.summed-requires-2-clause-few
summed-requires-2-clause-few c =
    let ns = c.args.extents.now in
    let lists = map (λ v. v.items) c.args.lists.now in
    let near = c.index-lists-0.result.items in
    let far = map (λ v. v.items) c.in_ok-far.far.items in
    let long = length-map c.args.lists.now (λ v. v.items) in
    let differ = c.if-lists-eq0.false in
    let inside : 0 < length c.args.lists.now = omega (arith, differ) in
    let filled : All (λ ps. 0 < length ps) lists = all-some (λ v. v.items) c.args.lists.now (sym c.has_empty.ensures ∙ c.if-has_empty.false) in
    let first : near ≡ get_or lists 0 near = ap (λ v. v.items) c.index-lists-0.is ∙ sym (get_or-map (λ v. v.items) c.args.lists.now 0 c.index-lists-0.result near inside) in
    let all : IsProduct ns near lists far = is-product c.requires.places.0 ns near lists far (omega (arith, long, inside)) filled c.requires.few c.requires.places.1 first c.in_ok-far.ensures in
    let is : c.in_ok-copy.copy.items ≡ near = c.in_ok-copy.ensures ∙ c.deref-2.ensures.value in
    subst (λ ps. length (sums (ps ∷ far)) < 2 ^ 64) (sym is) all.few

pub summed-requires-2-clause-small : goal.summed-requires-2-clause-small
summed-requires-2-clause-small c =
    let ns = c.args.extents.now in
    let lists = map (λ v. v.items) c.args.lists.now in
    let near = c.index-lists-0.result.items in
    let far = map (λ v. v.items) c.in_ok-far.far.items in
    let long = length-map c.args.lists.now (λ v. v.items) in
    let differ = c.if-lists-eq0.false in
    let inside : 0 < length c.args.lists.now = omega (arith, differ) in
    let filled : All (λ ps. 0 < length ps) lists = all-some (λ v. v.items) c.args.lists.now (sym c.has_empty.ensures ∙ c.if-has_empty.false) in
    let first : near ≡ get_or lists 0 near = ap (λ v. v.items) c.index-lists-0.is ∙ sym (get_or-map (λ v. v.items) c.args.lists.now 0 c.index-lists-0.result near inside) in
    let all : IsProduct ns near lists far = is-product c.requires.places.0 ns near lists far (omega (arith, long, inside)) filled c.requires.few c.requires.places.1 first c.in_ok-far.ensures in
    all.small

pub returns : goal.returns
returns c =
    let ns = c.args.extents.now in
    let lists = map (λ v. v.items) c.args.lists.now in
    let near = c.index-lists-0.result.items in
    let far = map (λ v. v.items) c.in_ok-far.far.items in
    let long = length-map c.args.lists.now (λ v. v.items) in
    let differ = c.if-lists-eq0.false in
    let inside : 0 < length c.args.lists.now = omega (arith, differ) in
    let filled : All (λ ps. 0 < length ps) lists = all-some (λ v. v.items) c.args.lists.now (sym c.has_empty.ensures ∙ c.if-has_empty.false) in
    let first : near ≡ get_or lists 0 near = ap (λ v. v.items) c.index-lists-0.is ∙ sym (get_or-map (λ v. v.items) c.args.lists.now 0 c.index-lists-0.result near inside) in
    let all : IsProduct ns near lists far = is-product c.requires.places.0 ns near lists far (omega (arith, long, inside)) filled c.requires.few c.requires.places.1 first c.in_ok-far.ensures in
    let is : c.in_ok-copy.copy.items ≡ near = c.in_ok-copy.ensures ∙ c.deref-2.ensures.value in
    c.summed-2.ensures ∙ ap (λ ps. sums (ps ∷ far)) is ∙ all.value
