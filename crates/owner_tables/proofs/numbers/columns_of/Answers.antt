use Rattle.std.proofs.Common.{rules, ◌≡◌, ◌+◌, ◌*◌, ◌^◌, ◌<◌, ◌≤◌, ◌++◌, All, drop, pos, ◌+ℤ◌, unsigned_abs, FitsSigned, of_z, to_z, sym, ◌∙◌, ap, subst, arith, get_or, length, map}
use Rattle.std.proofs.lemmas.Int.{to_z-of_z}
use Rattle.std.specs.Int.{w64}
use Rattle.hpf_base.specs.ElementOrder.{extents_of, product}
use Rattle.local_address.specs.Runs.{InAxis, axis_along}
use Rattle.local_address.proofs.Along.{line-along}
use Rattle.local_address.proofs.ElementLaws.{factors_some}
use Rattle.local_address.proofs.SpanLaws.{along-inside}
use Rattle.owner_tables.specs.Columns.{column_of, columns_of, next_strides}
use Rattle.owner_tables.proofs.Strides.{columns-more, extent-few, length-next, next-few, strides-few, totals-more}
use Rattle.owner_tables.proofs.numbers.columns_of.Goals as goal

pub overflow_cast-extent_of : goal.overflow_cast-extent_of
overflow_cast-extent_of c =
    let shape = c.args.shape.now in
    let dim = c.loop-dim.dim in
    let within : dim < length shape.lower = omega (arith, ap length c.numbers-lower.ensures.value, c.loop-dim-test.true) in
    let is : c.extent_of.result ≡ get_or (extents_of shape) dim 0 =
    c.extent_of.ensures ∙ ap (λ extent. get_or (map unsigned_abs extent) dim 0) c.numbers-extent.ensures.value in
    omega (arith, is, (extent-few shape dim c.requires.shape c.requires.some within).0)

pub column_along-requires-clause-line : goal.column_along-requires-clause-line
column_along-requires-clause-line c = (line-along c.args.mapping.now (length c.args.shape.now.lower) c.loop-dim.dim c.requires.mapping).0

pub column_along-requires-clause-axis : goal.column_along-requires-clause-axis
column_along-requires-clause-axis c = (line-along c.args.mapping.now (length c.args.shape.now.lower) c.loop-dim.dim c.requires.mapping).1

pub column_along-requires-clause-extent : goal.column_along-requires-clause-extent
column_along-requires-clause-extent c =
    let shape = c.args.shape.now in
    let dim = c.loop-dim.dim in
    let within : dim < length shape.lower = omega (arith, ap length c.numbers-lower.ensures.value, c.loop-dim-test.true) in
    let is : c.extent_of.result ≡ get_or (extents_of shape) dim 0 =
    c.extent_of.ensures ∙ ap (λ extent. get_or (map unsigned_abs extent) dim 0) c.numbers-extent.ensures.value in
    omega (arith, is, (extent-few shape dim c.requires.shape c.requires.some within).0)

pub column_along-requires-clause-inside : goal.column_along-requires-clause-inside
column_along-requires-clause-inside c = λ place below.
    let shape = c.args.shape.now in
    let dim = c.loop-dim.dim in
    let within : dim < length shape.lower = omega (arith, ap length c.numbers-lower.ensures.value, c.loop-dim-test.true) in
    let is : c.extent_of.result ≡ get_or (extents_of shape) dim 0 =
    c.extent_of.ensures ∙ ap (λ extent. get_or (map unsigned_abs extent) dim 0) c.numbers-extent.ensures.value in
    let fits : FitsSigned w64 c.lower_of.result = search rules in
    let lower : to_z w64 (of_z w64 c.lower_of.result) ≡ get_or shape.lower dim (pos 0) =
    to_z-of_z w64 c.lower_of.result fits ∙ c.lower_of.ensures ∙ ap (λ lowers. get_or lowers dim (pos 0)) c.numbers-lower.ensures.value in
    subst (λ from. InAxis (axis_along dim c.args.mapping.now.dims) (from +ℤ pos place)) (sym lower)
    (along-inside c.args.mapping.now shape dim place c.requires.shape c.requires.some c.requires.inside within (omega (arith, below, is)))

pub column_along-requires-clause-few : goal.column_along-requires-clause-few
column_along-requires-clause-few c = λ k d below.
    let shape = c.args.shape.now in
    let dim = c.loop-dim.dim in
    let extents = extents_of shape in
    let within : dim < length shape.lower = omega (arith, ap length c.numbers-lower.ensures.value, c.loop-dim-test.true) in
    let is : c.extent_of.result ≡ get_or extents dim 0 =
    c.extent_of.ensures ∙ ap (λ extent. get_or (map unsigned_abs extent) dim 0) c.numbers-extent.ensures.value in
    let few = strides-few extents dim (2 ^ 20) c.loop-dim.strides.items (extent-few shape dim c.requires.shape c.requires.some within).1
    (factors_some extents c.requires.some) c.loop-dim.invariant.3 in
    subst (λ e. get_or c.loop-dim.strides.items k d * e ≤ 2 ^ 20) (sym is) (few k d below)

pub loop-dim-preserved : goal.loop-dim-preserved
loop-dim-preserved c =
    let mapping = c.args.mapping.now in
    let shape = c.args.shape.now in
    let lowers = shape.lower in
    let extents = extents_of shape in
    let dim = c.loop-dim.dim in
    let strides = c.loop-dim.strides.items in
    let within : dim < length lowers = omega (arith, ap length c.numbers-lower.ensures.value, c.loop-dim-test.true) in
    let inside = (extent-few shape dim c.requires.shape c.requires.some within).1 in
    let extent : c.extent_of.result ≡ get_or extents dim 0 =
    c.extent_of.ensures ∙ ap (λ extent. get_or (map unsigned_abs extent) dim 0) c.numbers-extent.ensures.value in
    let fits : FitsSigned w64 c.lower_of.result = search rules in
    let lower : to_z w64 (of_z w64 c.lower_of.result) ≡ get_or lowers dim (pos 0) =
    to_z-of_z w64 c.lower_of.result fits ∙ c.lower_of.ensures ∙ ap (λ lowers. get_or lowers dim (pos 0)) c.numbers-lower.ensures.value in
    let column : c.in_ok-column.field-0.column ≡ column_of mapping (get_or lowers dim (pos 0)) dim (get_or extents dim 0) strides =
    c.in_ok-column.ensures.column ∙ (λ i. column_of mapping (lower i) dim (extent i) strides) in
    let next : c.in_ok-column.field-0.next.items ≡ next_strides mapping (get_or lowers dim (pos 0)) dim (get_or extents dim 0) strides =
    c.in_ok-column.ensures.next ∙ (λ i. next_strides mapping (lower i) dim (extent i) strides) in (
      ap (λ cs. cs ++ columns_of mapping lowers (dim + 1) (drop (dim + 1) extents) c.in_ok-column.field-0.next.items) c.in_ok-push.ensures.items
          ∙ columns-more mapping lowers extents dim inside c.loop-dim.columns.items strides c.in_ok-column.field-0.next.items c.in_ok-column.field-0.column column
          next ∙ c.loop-dim.invariant.0,
      totals-more mapping lowers extents dim inside strides c.in_ok-column.field-0.next.items next ∙ c.loop-dim.invariant.1,
      ap length next ∙ length-next mapping (get_or lowers dim (pos 0)) dim (get_or extents dim 0) strides ∙ c.requires.nodes,
      subst (All (λ s. s * product (drop (dim + 1) extents) ≤ 2 ^ 20)) (sym next)
          (next-few mapping (get_or lowers dim (pos 0)) extents dim (2 ^ 20) strides (c.loop-dim.invariant.2 ∙ sym c.requires.nodes) inside c.loop-dim.invariant.3),
    )
