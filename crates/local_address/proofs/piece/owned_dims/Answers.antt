use Rattle.std.proofs.Common.{rules, ◌≡◌, ◌+◌, ◌<◌, ◌≤◌, drop, pos, ◌+ℤ◌, unsigned_abs, FitsSigned, of_z, to_z, sym, ◌∙◌, ap, subst, arith, get_or, length, map}
use Rattle.std.proofs.lemmas.Int.{to_z-of_z}
use Rattle.std.proofs.lemmas.List.{length-append, length-map}
use Rattle.std.specs.Int.{w64}
use Rattle.hpf_base.specs.ElementOrder.{extents_of}
use Rattle.local_address.specs.Pieces.{owned_along}
use Rattle.local_address.specs.Runs.{InAxis, axis_along}
use Rattle.local_address.proofs.Along.{line-along, moves-along}
use Rattle.local_address.proofs.ElementLaws.{factors_some}
use Rattle.local_address.proofs.PieceLaws.{length-owned_along}
use Rattle.local_address.proofs.SpanLaws.{along-inside, extent_most}
use Rattle.local_address.proofs.piece.owned_dims.Goals as goal

-- the dimension is one of the shape's, with this extent
extent_is : (c : goal.After-extent_of) → (c.loop-dim.dim < length (extents_of c.args.shape.now)) × (c.extent_of.result ≡ get_or (extents_of c.args.shape.now) c.loop-dim.dim 0)
extent_is c = (
  omega (arith, length-map c.args.shape.now.extent unsigned_abs, c.requires.shape.rank, ap length c.numbers-lower.ensures.value, c.loop-dim-test.true),
  c.extent_of.ensures ∙ ap (λ extent. get_or (map unsigned_abs extent) c.loop-dim.dim 0) c.numbers-extent.ensures.value,
)

pub owned_on-requires-clause-line : goal.owned_on-requires-clause-line
owned_on-requires-clause-line c = (line-along c.args.map.now (length c.args.shape.now.lower) c.loop-dim.dim c.requires.mapping).0

pub owned_on-requires-clause-axis : goal.owned_on-requires-clause-axis
owned_on-requires-clause-axis c = (line-along c.args.map.now (length c.args.shape.now.lower) c.loop-dim.dim c.requires.mapping).1

pub owned_on-requires-clause-moves : goal.owned_on-requires-clause-moves
owned_on-requires-clause-moves c = moves-along c.loop-dim.dim c.args.map.now.dims

pub owned_on-requires-clause-some : goal.owned_on-requires-clause-some
owned_on-requires-clause-some c =
    let is = extent_is c in
    let some : 1 ≤ get_or (extents_of c.args.shape.now) c.loop-dim.dim 0 = factors_some (extents_of c.args.shape.now) c.requires.some c.loop-dim.dim 0 is.0 in
    subst (λ e. 1 ≤ e) (sym is.1) some

pub owned_on-requires-clause-extent : goal.owned_on-requires-clause-extent
owned_on-requires-clause-extent c =
    let is = extent_is c in
    let same : c.extent_of.result ≡ get_or (extents_of c.args.shape.now) c.loop-dim.dim 0 = is.1 in
    omega (
      arith,
      same,
      extent_most (extents_of c.args.shape.now) c.loop-dim.dim is.0 (factors_some (extents_of c.args.shape.now) c.requires.some),
      c.requires.shape.size,
    )

pub owned_on-requires-clause-inside : goal.owned_on-requires-clause-inside
owned_on-requires-clause-inside c = λ place below.
    let shape = c.args.shape.now in
    let dim = c.loop-dim.dim in
    let is = extent_is c in
    let within : dim < length shape.lower = omega (arith, ap length c.numbers-lower.ensures.value, c.loop-dim-test.true) in
    let fits : FitsSigned w64 c.lower_of.result = search rules in
    let lower : to_z w64 (of_z w64 c.lower_of.result) ≡ get_or shape.lower dim (pos 0) =
    to_z-of_z w64 c.lower_of.result fits ∙ c.lower_of.ensures ∙ ap (λ lowers. get_or lowers dim (pos 0)) c.numbers-lower.ensures.value in
    let inside : place < get_or (extents_of shape) dim 0 = subst (λ e. place < e) is.1 below in
    subst (λ from. InAxis (axis_along dim c.args.map.now.dims) (from +ℤ pos place)) (sym lower)
    (along-inside c.args.map.now shape dim place c.requires.shape c.requires.some c.requires.inside within inside)

pub returns-clause-short : goal.returns-clause-short
returns-clause-short c =
    let shape = c.args.shape.now in
    let dim = c.loop-dim.dim in
    let done = c.loop-dim.dims.items in
    let left = owned_along c.args.map.now c.args.node.0 dim (drop dim shape.lower) (drop dim (extents_of shape)) in
    let whole : length done + length left ≡ length (owned_along c.args.map.now c.args.node.0 0 shape.lower (extents_of shape)) =
    sym (length-append done left) ∙ ap length c.loop-dim.invariant in
    omega (arith, whole, length-owned_along c.args.map.now c.args.node.0 0 shape.lower (extents_of shape), c.numbers-lower.ensures.short)
