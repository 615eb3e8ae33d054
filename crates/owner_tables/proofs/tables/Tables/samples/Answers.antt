use Rattle.std.proofs.Common.{◌≡◌, ℕ, ◌<◌, ◌≤◌, List, ap, arith, subst, sym, ◌∙◌}
use Rattle.std.specs.List.{range_with_len}
use Rattle.hpf_base.specs.ElementOrder.{extents_of, product}
use Rattle.machine_steps.specs.Layout.{owned_by, size_of}
use Rattle.owner_tables.specs.Columns.{extents_along}
use Rattle.owner_tables.specs.Samples.{AreSamples, owners_by}
use Rattle.owner_tables.proofs.SameLayouts.{same_shapes}
use Rattle.owner_tables.proofs.SampleLaws.{all-samples, columns-along, columns-size, samples-owners}
use Rattle.owner_tables.proofs.TableLaws.{seen, seen-by}
use Rattle.owner_tables.proofs.tables.Tables.samples.Goals as goal

pub samples-requires-clause-one : goal.samples-requires-clause-one
samples-requires-clause-one c =
    let l = seen-by c.self.inside c.args.self.now c.self.view_is c.self.invariant c.deref.result.now c.deref.ensures.value in
    (c.args.self.now.nodes, l.filled 0 (omega (arith, c.if-self-gt0.true, l.size)))

pub samples-requires-clause-other : goal.samples-requires-clause-other
samples-requires-clause-other c =
    let l = seen c.self.inside c.args.self.now c.self.view_is c.self.invariant in
    let o = seen-by c.other.inside c.args.other.now c.other.view_is c.other.invariant c.deref-then-is_shaped_as.result.now c.deref-then-is_shaped_as.ensures.value in
    (c.args.other.now.nodes, o.filled 0 (omega (arith, c.if-self-gt0.true, l.size, c.requires)))

pub samples-requires-clause-extents : goal.samples-requires-clause-extents
samples-requires-clause-extents c =
    let l = seen c.self.inside c.args.self.now c.self.view_is c.self.invariant in
    let one = c.args.self.now.layout in
    let other = c.args.other.now.layout in
    let some : 1 ≤ size_of one = omega (arith, c.if-self-gt0.true, l.size) in
    ap extents_along c.deref.ensures.value ∙ columns-along c.self.inside c.args.self.now c.self.view_is c.self.invariant some
    ∙ ap extents_of (same_shapes one.shape other.shape (sym c.is_shaped_as.ensures ∙ c.if-is_shaped_as.true))
    ∙ sym (ap extents_along c.deref-then-is_shaped_as.ensures.value ∙ columns-along c.other.inside c.args.other.now c.other.view_is c.other.invariant (omega (arith, some, c.requires)))

pub samples-requires-clause-size : goal.samples-requires-clause-size
samples-requires-clause-size c =
    let l = seen c.self.inside c.args.self.now c.self.view_is c.self.invariant in
    let some : 1 ≤ size_of c.args.self.now.layout = omega (arith, c.if-self-gt0.true, l.size) in
    let many : product (extents_along c.deref.result.now) ≡ size_of c.args.self.now.layout =
    ap (λ cs. product (extents_along cs)) c.deref.ensures.value ∙ columns-size c.self.inside c.args.self.now c.self.view_is c.self.invariant some in
    omega (arith, many, l.small)

pub samples-requires-clause-few : goal.samples-requires-clause-few
samples-requires-clause-few c = λ at below.
    let l = seen-by c.self.inside c.args.self.now c.self.view_is c.self.invariant c.deref.result.now c.deref.ensures.value in
    let some : 1 ≤ size_of c.args.self.now.layout = omega (arith, c.if-self-gt0.true, l.size) in
    let many : product (extents_along c.deref.result.now) ≡ size_of c.args.self.now.layout =
    ap (λ cs. product (extents_along cs)) c.deref.ensures.value ∙ columns-size c.self.inside c.args.self.now c.self.view_is c.self.invariant some in
    let inside : at < size_of c.args.self.now.layout = omega (arith, below, many) in
    omega (arith, l.least at inside, l.below at inside, l.few)

pub samples-requires-clause-few_others : goal.samples-requires-clause-few_others
samples-requires-clause-few_others c = λ at below.
    let l = seen c.self.inside c.args.self.now c.self.view_is c.self.invariant in
    let o = seen-by c.other.inside c.args.other.now c.other.view_is c.other.invariant c.deref-then-is_shaped_as.result.now c.deref-then-is_shaped_as.ensures.value in
    let some : 1 ≤ size_of c.args.self.now.layout = omega (arith, c.if-self-gt0.true, l.size) in
    let many : product (extents_along c.deref.result.now) ≡ size_of c.args.self.now.layout =
    ap (λ cs. product (extents_along cs)) c.deref.ensures.value ∙ columns-size c.self.inside c.args.self.now c.self.view_is c.self.invariant some in
    let inside : at < size_of c.args.other.now.layout = omega (arith, below, many, c.requires) in
    omega (arith, o.least at inside, o.below at inside, o.few)

pub returns-then-is_shaped_as : goal.returns-then-is_shaped_as
returns-then-is_shaped_as c =
    let l = seen-by c.self.inside c.args.self.now c.self.view_is c.self.invariant c.deref.result.now c.deref.ensures.value in
    let o = seen-by c.other.inside c.args.other.now c.other.view_is c.other.invariant c.deref-then-is_shaped_as.result.now c.deref-then-is_shaped_as.ensures.value in
    let one = c.args.self.now in
    let other = c.args.other.now in
    let some : 1 ≤ size_of one.layout = omega (arith, c.if-self-gt0.true, l.size) in
    let many : product (extents_along c.deref.result.now) ≡ size_of one.layout =
    ap (λ cs. product (extents_along cs)) c.deref.ensures.value ∙ columns-size c.self.inside one c.self.view_is c.self.invariant some in
    samples-owners c.self.inside c.other.inside c.deref.result.now c.deref-then-is_shaped_as.result.now one.layout other.layout one.nodes other.nodes l o c.requires
    c.in_ok-positions.positions.items many c.in_ok-positions.ensures

pub overflow_cast-self-inside : goal.overflow_cast-self-inside
overflow_cast-self-inside c =
    let l = seen c.self.inside c.args.self.now c.self.view_is c.self.invariant in omega (arith, l.size, l.small)

pub returns : goal.returns
returns c =
    let l = seen c.self.inside c.args.self.now c.self.view_is c.self.invariant in
    let one = c.args.self.now in
    let other = c.args.other.now in
    let owners : ℕ → List ℕ = owners_by one.nodes (owned_by one.layout) in
    let others : ℕ → List ℕ = owners_by other.nodes (owned_by other.layout) in
    subst (AreSamples (size_of one.layout) owners others) (sym (c.in_ok-positions-2.ensures ∙ ap (range_with_len 0) l.size)) (all-samples owners others (size_of one.layout))
