use Rattle.std.proofs.Common.{rules, ◌≡◌, ◌+◌, ◌<◌, ◌≤◌, drop, pos, ◌+ℤ◌, unsigned_abs, FitsSigned, of_z, to_z, sym, ◌∙◌, ap, subst, arith, get_or, length, map}
use Rattle.std.proofs.lemmas.Int.{to_z-of_z}
use Rattle.std.proofs.lemmas.List.{length-append, length-map}
use Rattle.std.specs.Int.{w64}
use Rattle.hpf_base.specs.ElementOrder.{extents_of, product}
use Rattle.local_address.specs.Runs.{InAxis, axis_along, columns_of}
use Rattle.local_address.proofs.Along.{line-along}
use Rattle.local_address.proofs.ElementLaws.{factors_some}
use Rattle.local_address.proofs.SpanLaws.{along-inside, extent_most, length-columns_of}
use Rattle.local_address.proofs.columns.columns.Goals as goal

pub column_along-requires-clause-line : goal.column_along-requires-clause-line
column_along-requires-clause-line c = (line-along c.args.map.now (length c.args.shape.now.lower) c.loop-dim.dim c.requires.mapping).0

pub column_along-requires-clause-axis : goal.column_along-requires-clause-axis
column_along-requires-clause-axis c = (line-along c.args.map.now (length c.args.shape.now.lower) c.loop-dim.dim c.requires.mapping).1

pub column_along-requires-clause-extent : goal.column_along-requires-clause-extent
column_along-requires-clause-extent c =
    let shape = c.args.shape.now in
    let dim = c.loop-dim.dim in
    let some : 1 ≤ product (extents_of shape) = omega (arith, c.element_count.ensures.value, c.if-element_count-eq0.false) in
    let within : dim < length (extents_of shape) =
    omega (arith, length-map shape.extent unsigned_abs, c.requires.shape.rank, ap length c.numbers-lower.ensures.value, c.loop-dim-test.true) in
    let is : c.extent_of.result ≡ get_or (extents_of shape) dim 0 =
    c.extent_of.ensures ∙ ap (λ extent. get_or (map unsigned_abs extent) dim 0) c.numbers-extent.ensures.value in
    omega (arith, is, extent_most (extents_of shape) dim within (factors_some (extents_of shape) some), c.requires.shape.size)

pub column_along-requires-clause-inside : goal.column_along-requires-clause-inside
column_along-requires-clause-inside c = λ place below.
    let shape = c.args.shape.now in
    let dim = c.loop-dim.dim in
    let some : 1 ≤ product (extents_of shape) = omega (arith, c.element_count.ensures.value, c.if-element_count-eq0.false) in
    let within : dim < length shape.lower = omega (arith, ap length c.numbers-lower.ensures.value, c.loop-dim-test.true) in
    let is : c.extent_of.result ≡ get_or (extents_of shape) dim 0 =
    c.extent_of.ensures ∙ ap (λ extent. get_or (map unsigned_abs extent) dim 0) c.numbers-extent.ensures.value in
    let fits : FitsSigned w64 c.lower_of.result = search rules in
    let lower : to_z w64 (of_z w64 c.lower_of.result) ≡ get_or shape.lower dim (pos 0) =
    to_z-of_z w64 c.lower_of.result fits ∙ c.lower_of.ensures ∙ ap (λ lowers. get_or lowers dim (pos 0)) c.numbers-lower.ensures.value in
    subst (λ from. InAxis (axis_along dim c.args.map.now.dims) (from +ℤ pos place)) (sym lower)
    (along-inside c.args.map.now shape dim place c.requires.shape some c.requires.inside within (omega (arith, below, is)))

pub returns-clause-short : goal.returns-clause-short
returns-clause-short c =
    let shape = c.args.shape.now in
    let dim = c.loop-dim.dim in
    let done = c.loop-dim.columns.items in
    let left = columns_of c.args.map.now dim (drop dim shape.lower) (drop dim (extents_of shape)) in
    let whole : length done + length left ≡ length (columns_of c.args.map.now 0 shape.lower (extents_of shape)) =
    sym (length-append done left) ∙ ap length c.loop-dim.invariant in
    omega (arith, whole, length-columns_of c.args.map.now 0 shape.lower (extents_of shape), c.numbers-lower.ensures.short)
