use Rattle.std.proofs.Common.{rules, FitsSigned, ◌≡◌, ℕ, ℤ, ◌+◌, ◌*◌, ◌<◌, ◌≤◌, All, List, drop, filter, pos, ◌+ℤ◌, unsigned_abs, of_z, to_z, sym, ◌∙◌, ap, subst, arith, get_or, length, map}
use Rattle.std.proofs.lemmas.Int.{to_z-of_z}
use Rattle.std.specs.Int.{w64}
use Rattle.std.specs.List.{flat_map, range_with_len}
use Rattle.hpf_base.specs.ElementOrder.{extents_of, product}
use Rattle.hpf_base.proofs.ElementOrder.{product-drop_more}
use Rattle.local_address.specs.Runs.{InAxis, along, axis_along}
use Rattle.local_address.proofs.Along.{line-along, moves-along}
use Rattle.local_address.proofs.ElementLaws.{factors_some}
use Rattle.local_address.proofs.SpanLaws.{along-inside}
use Rattle.owner_tables.proofs.PositionLaws.{drop-most, filter-below}
use Rattle.owner_tables.proofs.Strides.{extent-few}
use Rattle.owner_tables.proofs.positions.with_dimension.Goals as goal

pub overflow_cast-extent : goal.overflow_cast-extent
overflow_cast-extent c =
    let shape = c.args.shape.now in
    let is : c.extent_of-extent.result ≡ get_or (extents_of shape) c.args.dim 0 =
    c.extent_of-extent.ensures ∙ ap (λ extent. get_or (map unsigned_abs extent) c.args.dim 0) c.numbers-2.ensures.value in
    omega (arith, is, (extent-few shape c.args.dim c.requires.laid.shape c.requires.some c.requires.dim).0)

pub own_places-requires-clause-line : goal.own_places-requires-clause-line
own_places-requires-clause-line c = (line-along c.args.mapping.now (length c.args.shape.now.lower) c.args.dim c.requires.laid.mapping).0

pub own_places-requires-clause-axis : goal.own_places-requires-clause-axis
own_places-requires-clause-axis c = (line-along c.args.mapping.now (length c.args.shape.now.lower) c.args.dim c.requires.laid.mapping).1

pub own_places-requires-clause-moving : goal.own_places-requires-clause-moving
own_places-requires-clause-moving c = moves-along c.args.dim c.args.mapping.now.dims

pub own_places-requires-clause-some : goal.own_places-requires-clause-some
own_places-requires-clause-some c =
    let shape = c.args.shape.now in
    let is : c.extent_of-extent.result ≡ get_or (extents_of shape) c.args.dim 0 =
    c.extent_of-extent.ensures ∙ ap (λ extent. get_or (map unsigned_abs extent) c.args.dim 0) c.numbers-2.ensures.value in
    let inside = (extent-few shape c.args.dim c.requires.laid.shape c.requires.some c.requires.dim).1 in
    omega (arith, is, factors_some (extents_of shape) c.requires.some c.args.dim 0 inside)

pub own_places-requires-clause-extent : goal.own_places-requires-clause-extent
own_places-requires-clause-extent c =
    let shape = c.args.shape.now in
    let is : c.extent_of-extent.result ≡ get_or (extents_of shape) c.args.dim 0 =
    c.extent_of-extent.ensures ∙ ap (λ extent. get_or (map unsigned_abs extent) c.args.dim 0) c.numbers-2.ensures.value in
    omega (arith, is, (extent-few shape c.args.dim c.requires.laid.shape c.requires.some c.requires.dim).0)

pub own_places-requires-clause-inside : goal.own_places-requires-clause-inside
own_places-requires-clause-inside c = λ place below.
    let shape = c.args.shape.now in
    let dim = c.args.dim in
    let is : c.extent_of-extent.result ≡ get_or (extents_of shape) dim 0 =
    c.extent_of-extent.ensures ∙ ap (λ extent. get_or (map unsigned_abs extent) dim 0) c.numbers-2.ensures.value in
    let fits : FitsSigned w64 c.lower_of-lower.result = search rules in
    let lower : to_z w64 (of_z w64 c.lower_of-lower.result) ≡ get_or shape.lower dim (pos 0) =
    to_z-of_z w64 c.lower_of-lower.result fits ∙ c.lower_of-lower.ensures ∙ ap (λ lowers. get_or lowers dim (pos 0)) c.numbers.ensures.value in
    subst (λ from. InAxis (axis_along dim c.args.mapping.now.dims) (from +ℤ pos place)) (sym lower)
    (along-inside c.args.mapping.now shape dim place c.requires.laid.shape c.requires.some c.requires.laid.inside c.requires.dim (omega (arith, below, is)))

pub with_places-requires-clause-few : goal.with_places-requires-clause-few
with_places-requires-clause-few c =
    let shape = c.args.shape.now in
    let extents = extents_of shape in
    let dim = c.args.dim in
    let is : c.extent_of-extent.result ≡ get_or extents dim 0 =
    c.extent_of-extent.ensures ∙ ap (λ extent. get_or (map unsigned_abs extent) dim 0) c.numbers-2.ensures.value in
    let most = product (drop (dim + 1) extents) in
    let whole = product-drop_more extents 1 dim (extent-few shape dim c.requires.laid.shape c.requires.some c.requires.dim).1 in
    let room : most * get_or extents dim 0 ≤ product extents = omega (arith, whole, drop-most extents dim (factors_some extents c.requires.some)) in
    (most, c.requires.few, omega (arith, ap (λ e. most * e) is, room, c.requires.laid.shape.size))

pub with_places-requires-clause-places : goal.with_places-requires-clause-places
with_places-requires-clause-places c =
    subst (All (λ place. place < c.extent_of-extent.result)) (sym (c.deref.ensures.value ∙ c.in_ok-own.ensures))
    (filter-below (λ place. along c.args.mapping.now c.args.node c.args.dim (to_z w64 (of_z w64 c.lower_of-lower.result) +ℤ pos place)) c.extent_of-extent.result)

pub returns : goal.returns
returns c =
    let shape = c.args.shape.now in
    let dim = c.args.dim in
    let extent : c.extent_of-extent.result ≡ get_or (extents_of shape) dim 0 =
    c.extent_of-extent.ensures ∙ ap (λ extent. get_or (map unsigned_abs extent) dim 0) c.numbers-2.ensures.value in
    let fits : FitsSigned w64 c.lower_of-lower.result = search rules in
    let lower : to_z w64 (of_z w64 c.lower_of-lower.result) ≡ get_or shape.lower dim (pos 0) =
    to_z-of_z w64 c.lower_of-lower.result fits ∙ c.lower_of-lower.ensures ∙ ap (λ lowers. get_or lowers dim (pos 0)) c.numbers.ensures.value in
    let places : ℤ → ℕ → List ℕ = λ from e. filter (λ place. along c.args.mapping.now c.args.node dim (from +ℤ pos place)) (range_with_len 0 e) in
    c.in_ok-all.ensures
    ∙ ap (λ ps. flat_map (λ n. map (λ place. n * c.extent_of-extent.result + place) ps) c.args.numbers.now) (c.deref.ensures.value ∙ c.in_ok-own.ensures)
    ∙ (λ i. flat_map (λ n. map (λ place. n * extent i + place) (places (lower i) (extent i))) c.args.numbers.now)
