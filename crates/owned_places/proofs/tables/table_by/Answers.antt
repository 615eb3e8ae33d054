use Rattle.std.proofs.Common.{◌+ℤ◌, ◌*ℤ◌, filter, slice_index, FitsSigned, Some, rules, sym, ◌∙◌, subst}
use Rattle.std.proofs.lemmas.Int.{to_z-of_z}
use Rattle.std.specs.Int.{w64}
use Rattle.std.specs.List.{range_with_len}
use Rattle.hpf_base.specs.Grid.{node_coordinates}
use Rattle.mappings.specs.Alignment.{agrees_at}
use Rattle.mappings.specs.Mapping.{InLine}
use Rattle.courses.specs.AxisTables.{subscript_on}
use Rattle.owned_places.proofs.LineSections.{agrees-is, asks-is, given-is}
use Rattle.owned_places.proofs.tables.table_by.Goals as goal

pub owned_table-requires-clause-inside : goal.owned_table-requires-clause-inside
owned_table-requires-clause-inside c = λ j below.
    let entry = c.args.entry.now in
    let a-fits : FitsSigned w64 c.in-Linear.a = search rules in
    let b-fits : FitsSigned w64 c.in-Linear.b = search rules in
    let a-is = to_z-of_z w64 c.in-Linear.a a-fits in
    let b-is = to_z-of_z w64 c.in-Linear.b b-fits in
    let i-is = to_z-of_z w64 c.args.i c.ranges.i in
    let step-is = to_z-of_z w64 c.args.step c.ranges.step in
    subst (λ z. InLine entry.line (Some z)) (λ n. (sym a-is n *ℤ subscript_on (sym i-is n) (sym step-is n) j) +ℤ sym b-is n)
    (given-is entry.line entry.align c.in-Linear.dim c.args.k c.in-Linear.a c.in-Linear.b (subscript_on c.args.i c.args.step j) c.in-Linear.is c.if-dim-k.true
    (c.requires.inside j below))

pub returns-in_ok-table-in-Linear-clause-asks : goal.returns-in_ok-table-in-Linear-clause-asks
returns-in_ok-table-in-Linear-clause-asks c = asks-is c.args.entry.now.align c.in-Linear.dim c.args.k c.in-Linear.a c.in-Linear.b c.in-Linear.is c.if-dim-k.true

pub returns-in_ok-table-in-Linear-clause-places : goal.returns-in_ok-table-in-Linear-clause-places
returns-in_ok-table-in-Linear-clause-places c =
    let entry = c.args.entry.now in
    let own = slice_index (node_coordinates c.args.grid.now c.args.node) entry.grid_dim in
    let a-fits : FitsSigned w64 c.in-Linear.a = search rules in
    let b-fits : FitsSigned w64 c.in-Linear.b = search rules in
    let a-is = to_z-of_z w64 c.in-Linear.a a-fits in
    let b-is = to_z-of_z w64 c.in-Linear.b b-fits in
    let i-is = to_z-of_z w64 c.args.i c.ranges.i in
    let step-is = to_z-of_z w64 c.args.step c.ranges.step in
    c.in_ok-table-in-Linear.ensures
    ∙ (λ n. filter (λ j. agrees_at entry.line own (Some ((a-is n *ℤ subscript_on (i-is n) (step-is n) j) +ℤ b-is n))) (range_with_len 0 c.args.count))
    ∙ (λ n. filter (λ j. agrees-is entry.line own entry.align c.in-Linear.dim c.args.k c.in-Linear.a c.in-Linear.b (subscript_on c.args.i c.args.step j)
    c.in-Linear.is c.if-dim-k.true n) (range_with_len 0 c.args.count))
