use Rattle.std.proofs.Common.{◌≡◌, ◌*◌, ◌<◌, ◌≤◌, ◌^◌, ◌==◌, pos, ◌+ℤ◌, of_z, to_z, sym, ◌∙◌, ap, subst, arith, get_or, length, map}
use Rattle.std.proofs.Math.Nat.{mul-le-mul_left}
use Rattle.std.proofs.lemmas.Int.{to_z-of_z}
use Rattle.std.proofs.lemmas.List.FromFn.{get_or-map-range_with_len, length-map-range_with_len}
use Rattle.std.specs.Int.{w64}
use Rattle.std.specs.List.{range_with_len}
use Rattle.hpf_base.specs.ElementOrder.{product}
use Rattle.hpf_base.specs.Grid.{node_coordinates}
use Rattle.local_address.specs.Runs.{IsOfGrid, coordinate_on, own_on, procs_on}
use Rattle.owner_tables.specs.Columns.{count_on, next_strides}
use Rattle.owner_tables.proofs.Counting.{count-few}
use Rattle.owner_tables.proofs.Strides.{next-by-counts}
use Rattle.owner_tables.proofs.columns.column_along.Goals as goal

pub next_strides-requires-clause-counts : goal.next_strides-requires-clause-counts
next_strides-requires-clause-counts c =
    ap length (c.deref.ensures.value ∙ c.in_ok-places.ensures.counts)
    ∙ length-map-range_with_len (count_on c.in_ok-axis.axis (to_z w64 (of_z w64 c.args.lower)) c.args.extent) 0 (procs_on c.in_ok-axis.axis)

pub next_strides-requires-clause-few : goal.next_strides-requires-clause-few
next_strides-requires-clause-few c = λ node own within below.
    let axis = c.in_ok-axis.axis in
    let lower = to_z w64 (of_z w64 c.args.lower) in
    let extent = c.args.extent in
    let stride = get_or c.args.strides.items node 0 in
    let counts-are : c.deref.result.now ≡ map (count_on axis lower extent) (range_with_len 0 (procs_on axis)) = c.deref.ensures.value ∙ c.in_ok-places.ensures.counts in
    let inside : own < procs_on axis = omega (arith, below, ap length counts-are, length-map-range_with_len (count_on axis lower extent) 0 (procs_on axis)) in
    let count : get_or c.deref.result.now own 0 ≡ count_on axis lower extent own =
    ap (λ l. get_or l own 0) counts-are ∙ get_or-map-range_with_len (count_on axis lower extent) 0 (procs_on axis) own own 0 inside (omega arith) in
    let few : get_or c.deref.result.now own 0 ≤ extent =
    omega (arith, count, count-few (λ place. coordinate_on axis (lower +ℤ pos place) == own) extent) in
    let same : get_or c.deref-2.result.now node 0 ≡ stride = ap (λ l. get_or l node 0) c.deref-2.ensures.value in
    let room : stride * extent ≤ 2 ^ 20 = c.requires.few node 0 (omega (arith, within, ap length c.deref-2.ensures.value)) in
    let grows : stride * get_or c.deref.result.now own 0 ≤ stride * extent = mul-le-mul_left stride few in
    subst (λ s. s * get_or c.deref.result.now own 0 ≤ 2 ^ 20) (sym same) (omega (arith, grows, room))

pub returns-clause-next : goal.returns-clause-next
returns-clause-next c =
    let axis = c.in_ok-axis.axis in
    let lower = to_z w64 (of_z w64 c.args.lower) in
    let map-is = c.args.map.now in
    c.in_ok-next.ensures
    ∙ ap (λ ss. map (λ node. get_or ss node 0 * get_or c.deref.result.now (own_on (node_coordinates map-is.grid node) axis) 0) (range_with_len 0 (product map-is.grid)))
    c.deref-2.ensures.value
    ∙ next-by-counts map-is lower c.args.dim c.args.extent c.args.strides.items c.deref.result.now axis c.in_ok-axis.ensures
    (subst (IsOfGrid map-is.grid) (sym c.in_ok-axis.ensures) c.requires.axis) (c.deref.ensures.value ∙ c.in_ok-places.ensures.counts)
    ∙ ap (λ l. next_strides map-is l c.args.dim c.args.extent c.args.strides.items) (to_z-of_z w64 c.args.lower c.ranges.lower)
