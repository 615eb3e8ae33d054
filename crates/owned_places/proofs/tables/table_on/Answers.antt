use Rattle.std.proofs.Common.{filter, of_z, sym, ◌∙◌, ap, to_z}
use Rattle.std.proofs.lemmas.Int.{to_z-of_z}
use Rattle.std.proofs.lemmas.Option.{IfSome_then}
use Rattle.std.specs.Int.{w64}
use Rattle.std.specs.List.{range_with_len}
use Rattle.hpf_base.specs.Grid.{node_coordinates}
use Rattle.courses.specs.AxisTables.{subscript_on}
use Rattle.courses.specs.Subscripts.{along_dims}
use Rattle.owned_places.specs.Dims.{entries_asking}
use Rattle.owned_places.proofs.KeptPlaces.{if-both, table-of}
use Rattle.owned_places.proofs.LineSections.{one-agrees, one-asks}
use Rattle.owned_places.proofs.tables.table_on.Goals as goal

pub returns-then-is_some-clause-places : goal.returns-then-is_some-clause-places
returns-then-is_some-clause-places c =
    let coordinates = node_coordinates c.args.mapping.now.grid c.args.node in
    let i-is = to_z-of_z w64 c.args.i c.ranges.i in
    let step-is = to_z-of_z w64 c.args.step c.ranges.step in
    IfSome_then c.in_ok-table.table c.in_ok-table.ensures.places
    (λ t places. table-of (λ j. along_dims coordinates c.args.mapping.now.dims c.args.k (subscript_on c.args.i c.args.step j)) _ c.args.count t
    (λ j held. one-agrees coordinates c.as_slice-entry-items.result.now c.loop-entry.entry-index c.args.k _ c.entry-item.result c.loop-entry-test.true c.entry-item.is
    ((λ n. along_dims coordinates (c.as_slice-entry-items.ensures n) c.args.k (subscript_on (i-is n) (step-is n) j)) ∙ held)) places)

pub returns-then-is_some-clause-exact : goal.returns-then-is_some-clause-exact
returns-then-is_some-clause-exact c =
    let coordinates = node_coordinates c.args.mapping.now.grid c.args.node in
    let entries = c.as_slice-entry-items.result.now in
    let i-is = to_z-of_z w64 c.args.i c.ranges.i in
    let step-is = to_z-of_z w64 c.args.step c.ranges.step in
    if-both c.in_ok-table.table c.in_ok-table.ensures.asks c.in_ok-table.ensures.places
    (λ t asks places. λ one. places
    ∙ (λ n. filter (λ j. sym (one-asks coordinates entries c.loop-entry.entry-index c.args.k
    (subscript_on (to_z w64 (of_z w64 c.args.i)) (to_z w64 (of_z w64 c.args.step)) j) c.entry-item.result c.loop-entry-test.true c.entry-item.is asks
    (ap (entries_asking c.args.k) c.as_slice-entry-items.ensures ∙ one)) n) (range_with_len 0 c.args.count))
    ∙ (λ n. filter (λ j. along_dims coordinates (c.as_slice-entry-items.ensures n) c.args.k (subscript_on (i-is n) (step-is n) j)) (range_with_len 0 c.args.count)))
