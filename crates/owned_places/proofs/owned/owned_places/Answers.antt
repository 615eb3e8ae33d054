use Rattle.std.proofs.Common.{◌&&◌, sym, ◌∙◌, subst, arith}
use Rattle.hpf_base.specs.Grid.{node_coordinates}
use Rattle.axis_products.specs.Products.{passing}
use Rattle.courses.specs.Subscripts.{alone, axis_pass, fixed_pass}
use Rattle.course_forms.specs.Views.{courses_of, named_of}
use Rattle.owned_places.specs.Dims.{LieInside, held_dim}
use Rattle.owned_places.proofs.Entries.{lie-inside}
use Rattle.owned_places.proofs.HeldDims.{held-always, held-passing, never-held, none-held}
use Rattle.owned_places.proofs.owned.owned_places.Goals.{then-size-eq0-via-then-size-eq0, then-size-eq0-via-else-size-eq0+then-not-is_ever_held}
use Rattle.owned_places.proofs.owned.owned_places.Goals as goal

pub is_ever_held-requires-clause-lie : goal.is_ever_held-requires-clause-lie
is_ever_held-requires-clause-lie c =
    let layout = c.args.table.now.layout in
    let dims = (named_of c.args.reference.now).dims in
    subst (LieInside c.as_slice-dims.result.now) (sym c.mapping-mapping.ensures.value)
    (subst (λ ds. LieInside ds layout.mapping) (sym c.as_slice-dims.ensures.value)
    (lie-inside c.args.table.now.nodes layout dims c.mapping-mapping.ensures.laid c.requires.lies.shape (λ none. omega (arith, none, c.size.ensures, c.if-size-eq0.false))))

pub lists_of-requires-clause-lie : goal.lists_of-requires-clause-lie
lists_of-requires-clause-lie c =
    let layout = c.args.table.now.layout in
    let dims = (named_of c.args.reference.now).dims in
    subst (LieInside c.as_slice-dims.result.now) (sym c.mapping-mapping.ensures.value)
    (subst (λ ds. LieInside ds layout.mapping) (sym c.as_slice-dims.ensures.value)
    (lie-inside c.args.table.now.nodes layout dims c.mapping-mapping.ensures.laid c.requires.lies.shape (λ none. omega (arith, none, c.size.ensures, c.if-size-eq0.false))))

pub returns-then-size-eq0 : goal.returns-then-size-eq0
returns-then-size-eq0 c = λ t.
    let r = named_of c.args.reference.now in
    let layout = c.args.table.now.layout in
    let node = c.args.node in
    elim c.then-size-eq0.branch [
      | then-size-eq0-via-then-size-eq0 w ↦ none-held r layout node c.args.extents.now t c.requires.lies c.requires.axes (omega (arith, c.size.ensures, w.if-size-eq0.true))
      | then-size-eq0-via-else-size-eq0+then-not-is_ever_held w ↦ never-held r layout node c.args.extents.now t (held-always r layout node
          ∙ (λ i. alone (node_coordinates (sym c.mapping-mapping.ensures.value i).grid node) (sym c.mapping-mapping.ensures.value i).dims
          && fixed_pass (held_dim (sym c.as_slice-dims.ensures.value i) (sym c.mapping-mapping.ensures.value i) node) 0 (courses_of (sym c.as_slice-courses.ensures.value i)))
          ∙ sym w.is_ever_held.ensures ∙ w.if-not-is_ever_held.true)
    ]

pub returns : goal.returns
returns c =
    let r = named_of c.args.reference.now in
    let layout = c.args.table.now.layout in
    let node = c.args.node in (
      held-always r layout node
          ∙ (λ i. alone (node_coordinates (sym c.mapping-mapping.ensures.value i).grid node) (sym c.mapping-mapping.ensures.value i).dims
          && fixed_pass (held_dim (sym c.as_slice-dims.ensures.value i) (sym c.mapping-mapping.ensures.value i) node) 0 (courses_of (sym c.as_slice-courses.ensures.value i)))
          ∙ sym c.is_ever_held.ensures ∙ c.if-not-is_ever_held.false,
      c.in_ok-lists.ensures
          ∙ (λ i. passing (axis_pass (held_dim (c.as_slice-dims.ensures.value i) (c.mapping-mapping.ensures.value i) node) 0 (courses_of (c.as_slice-courses.ensures.value i))) 0 c.args.extents.now)
          ∙ held-passing r layout node c.args.extents.now,
    )
