use Rattle.std.proofs.Common.{◌&&◌, sym, ◌∙◌, subst, arith}
use Rattle.hpf_base.specs.Grid.{node_coordinates}
use Rattle.machine_steps.specs.Layout.{Layout}
use Rattle.courses.specs.References.{Named}
use Rattle.courses.specs.Subscripts.{alone, fixed_pass}
use Rattle.course_forms.specs.Views.{courses_of, named_of}
use Rattle.owned_places.specs.Dims.{LieInside, held_dim}
use Rattle.owned_places.specs.Holdings.{held_by}
use Rattle.owned_places.proofs.Entries.{lie-inside}
use Rattle.owned_places.proofs.HeldDims.{held-always, never-held, none-held}
use Rattle.owned_places.proofs.holding.Holding.new.Goals.{then-size-eq0-via-then-size-eq0, then-size-eq0-via-else-size-eq0+then-not-is_ever_held}
use Rattle.owned_places.proofs.holding.Holding.new.Goals as goal

pub is_ever_held-requires-clause-lie : goal.is_ever_held-requires-clause-lie
is_ever_held-requires-clause-lie c =
    let layout = c.args.table.now.layout in
    let dims = (named_of c.args.reference.now).dims in
    subst (LieInside c.as_slice-dims.result.now) (sym c.mapping-mapping.ensures.value)
    (subst (λ ds. LieInside ds layout.mapping) (sym c.as_slice-dims.ensures.value)
    (lie-inside c.args.table.now.nodes layout dims c.mapping-mapping.ensures.laid c.requires.lies.shape (λ none. omega (arith, none, c.size.ensures, c.if-size-eq0.false))))

pub returns-then-size-eq0-clause-none : goal.returns-then-size-eq0-clause-none
returns-then-size-eq0-clause-none c = λ extents axes t.
    let r = named_of c.args.reference.now in
    let layout = c.args.table.now.layout in
    let node = c.args.node in
    elim c.then-size-eq0.branch [
      | then-size-eq0-via-then-size-eq0 w ↦ none-held r layout node extents t c.requires.lies axes (omega (arith, c.size.ensures, w.if-size-eq0.true))
      | then-size-eq0-via-else-size-eq0+then-not-is_ever_held w ↦ never-held r layout node extents t (held-always r layout node
          ∙ (λ i. alone (node_coordinates (sym c.mapping-mapping.ensures.value i).grid node) (sym c.mapping-mapping.ensures.value i).dims
          && fixed_pass (held_dim (sym c.as_slice-dims.ensures.value i) (sym c.mapping-mapping.ensures.value i) node) 0 (courses_of (sym c.as_slice-courses.ensures.value i)))
          ∙ sym w.is_ever_held.ensures ∙ w.if-not-is_ever_held.true)
    ]

pub invariant_of-result-clause-lie : goal.invariant_of-result-clause-lie
invariant_of-result-clause-lie c =
    let layout = c.args.table.now.layout in
    let dims = (named_of c.args.reference.now).dims in
    subst (LieInside c.as_slice-dims.result.now) (sym c.mapping-mapping.ensures.value)
    (subst (λ ds. LieInside ds layout.mapping) (sym c.as_slice-dims.ensures.value)
    (lie-inside c.args.table.now.nodes layout dims c.mapping-mapping.ensures.laid c.requires.lies.shape (λ none. omega (arith, none, c.size.ensures, c.if-size-eq0.false))))

pub returns-clause-some : goal.returns-clause-some
returns-clause-some c =
    let node = c.args.node in
    let r : Named = record { row = 0; dims = c.as_slice-dims.result.now; courses = courses_of c.as_slice-courses.result.now } in
    let layout : Layout = record { shape = c.args.table.now.layout.shape; mapping = c.mapping-mapping.result.now } in (
      (λ i. held_by (c.as_slice-dims.ensures.value i) (c.mapping-mapping.ensures.value i) node (courses_of (c.as_slice-courses.ensures.value i))),
      held-always r layout node ∙ sym c.is_ever_held.ensures ∙ c.if-not-is_ever_held.false,
    )
