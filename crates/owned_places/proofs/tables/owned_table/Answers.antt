use Rattle.std.proofs.Common.{◌≡◌, ◌==◌, ◌<◌, pos, ◌+ℤ◌, ◌*ℤ◌, ◌≤ℤ◌, filter, slice_index, unsigned_abs, FitsSigned, Some, arith, of_z, rules, sym, ◌∙◌, ap, subst, to_z}
use Rattle.std.proofs.lemmas.Int.{to_z-of_z}
use Rattle.std.specs.Int.{w64, w128}
use Rattle.std.specs.List.{range_with_len}
use Rattle.hpf_base.specs.Grid.{node_coordinates}
use Rattle.mappings.specs.Alignment.{position_at}
use Rattle.mappings.specs.Mapping.{InLine}
use Rattle.mappings.specs.Owner.{coordinate}
use Rattle.gap_table.specs.OwnedSequence.{owned_sequence}
use Rattle.owned_places.proofs.LineSections.{at-first, coordinate-below, never-zero, position-at, stride-fits}
use Rattle.owned_places.proofs.tables.owned_table.Goals as goal

pub position-start-requires-clause-inside : goal.position-start-requires-clause-inside
position-start-requires-clause-inside c =
    let line = c.args.entry.now.line in
    let fits : FitsSigned w128 c.linear.result = search rules in
    let first-is : to_z w128 (of_z w128 c.linear.result) ≡ (c.args.a *ℤ c.args.i) +ℤ c.args.b =
    to_z-of_z w128 c.linear.result fits ∙ c.linear.ensures
    ∙ (λ n. (to_z-of_z w64 c.args.a c.ranges.a n *ℤ to_z-of_z w64 c.args.i c.ranges.i n) +ℤ to_z-of_z w64 c.args.b c.ranges.b n) in
    subst (λ z. InLine line (Some z)) (sym first-is)
    (subst (λ z. InLine line (Some ((c.args.a *ℤ z) +ℤ c.args.b))) (at-first c.args.i c.args.step) (c.requires.inside 0 (omega (arith, c.requires.two))))

pub stride_of-stride-requires : goal.stride_of-stride-requires
stride_of-stride-requires c =
    let a-is = to_z-of_z w64 c.args.a c.ranges.a in
    let step-is = to_z-of_z w64 c.args.step c.ranges.step in
    subst (FitsSigned w64) (λ n. sym a-is n *ℤ sym step-is n)
    (stride-fits c.args.entry.now.line c.args.a c.args.b c.args.i c.args.step c.requires.entry.1.line.extent (c.requires.inside 0 (omega (arith, c.requires.two)))
    (c.requires.inside 1 (omega (arith, c.requires.two))))

pub of_section-requires-clause-node : goal.of_section-requires-clause-node
of_section-requires-clause-node c =
    subst (λ n. n < c.args.entry.now.line.procs) (sym c.node_coordinate-own.ensures)
    (coordinate-below c.args.grid.now c.requires.entry.0 c.args.node c.args.entry.now c.requires.entry.1 c.requires.node)

pub of_section-requires-clause-stride : goal.of_section-requires-clause-stride
of_section-requires-clause-stride c =
    let fits : FitsSigned w64 c.stride_of-stride.result = search rules in
    let stride-is : to_z w64 (of_z w64 c.stride_of-stride.result) ≡ c.args.a *ℤ c.args.step =
    to_z-of_z w64 c.stride_of-stride.result fits ∙ c.stride_of-stride.ensures ∙ (λ n. to_z-of_z w64 c.args.a c.ranges.a n *ℤ to_z-of_z w64 c.args.step c.ranges.step n) in
    λ none. never-zero c.args.a c.args.step c.requires.factor c.requires.moves (sym stride-is ∙ none)

pub of_section-requires-clause-section : goal.of_section-requires-clause-section
of_section-requires-clause-section c = λ j below.
    let line = c.args.entry.now.line in
    let linear-fits : FitsSigned w128 c.linear.result = search rules in
    let first-is : to_z w128 (of_z w128 c.linear.result) ≡ (c.args.a *ℤ c.args.i) +ℤ c.args.b =
    to_z-of_z w128 c.linear.result linear-fits ∙ c.linear.ensures
    ∙ (λ n. (to_z-of_z w64 c.args.a c.ranges.a n *ℤ to_z-of_z w64 c.args.i c.ranges.i n) +ℤ to_z-of_z w64 c.args.b c.ranges.b n) in
    let fits : FitsSigned w64 c.stride_of-stride.result = search rules in
    let stride-is : to_z w64 (of_z w64 c.stride_of-stride.result) ≡ c.args.a *ℤ c.args.step =
    to_z-of_z w64 c.stride_of-stride.result fits ∙ c.stride_of-stride.ensures ∙ (λ n. to_z-of_z w64 c.args.a c.ranges.a n *ℤ to_z-of_z w64 c.args.step c.ranges.step n) in
    subst (λ z. (pos 1 ≤ℤ z) × (z ≤ℤ pos line.extent))
    (sym (position-at line c.args.a c.args.b c.args.i c.args.step _ c.position-start.result j (c.position-start.ensures ∙ ap (position_at line) first-is) stride-is))
    (c.requires.inside j below)

pub returns : goal.returns
returns c =
    let line = c.args.entry.now.line in
    let own = slice_index (node_coordinates c.args.grid.now c.args.node) c.args.entry.now.grid_dim in
    let linear-fits : FitsSigned w128 c.linear.result = search rules in
    let first-is : to_z w128 (of_z w128 c.linear.result) ≡ (c.args.a *ℤ c.args.i) +ℤ c.args.b =
    to_z-of_z w128 c.linear.result linear-fits ∙ c.linear.ensures
    ∙ (λ n. (to_z-of_z w64 c.args.a c.ranges.a n *ℤ to_z-of_z w64 c.args.i c.ranges.i n) +ℤ to_z-of_z w64 c.args.b c.ranges.b n) in
    let fits : FitsSigned w64 c.stride_of-stride.result = search rules in
    let stride-is : to_z w64 (of_z w64 c.stride_of-stride.result) ≡ c.args.a *ℤ c.args.step =
    to_z-of_z w64 c.stride_of-stride.result fits ∙ c.stride_of-stride.ensures ∙ (λ n. to_z-of_z w64 c.args.a c.ranges.a n *ℤ to_z-of_z w64 c.args.step c.ranges.step n) in
    c.in_ok-table.ensures.places ∙ ap (λ o. owned_sequence line o c.position-start.result (to_z w64 (of_z w64 c.stride_of-stride.result)) c.args.count) c.node_coordinate-own.ensures
    ∙ (λ n. filter (λ j. coordinate line (unsigned_abs (position-at line c.args.a c.args.b c.args.i c.args.step _ c.position-start.result j
    (c.position-start.ensures ∙ ap (position_at line) first-is) stride-is n)) == own) (range_with_len 0 c.args.count))
