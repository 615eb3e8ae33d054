use Rattle.std.proofs.Common.{◌≤◌, sym, subst}
use Rattle.owner_tables.proofs.StretchLaws.{found-along, found-beyond, left-inside}
use Rattle.owner_tables.proofs.lines.stretch_in.Goals as goal

pub returns-in_default-clause-line : goal.returns-in_default-clause-line
returns-in_default-clause-line c =
    let columns = c.args.columns.now in
    let i = c.loop-column.column-index in
    let column = c.column-item.result in
    let some : 1 ≤ column.extent = subst (λ x. 1 ≤ x.extent) (sym c.column-item.is) (c.requires.columns.2 i column c.loop-column-test.true).some in
    c.loop-column.invariant.whole c.stretch_along.result.others c.stretch_along.result.apart
    (found-along columns i column c.args.node c.loop-column.number c.loop-column-test.true c.column-item.is some c.loop-column.invariant.inside
    c.split_by-here.result.place c.extent.result c.loop-column.beyond c.stretch_along.result.others c.stretch_along.result.apart
    c.extent.ensures c.split_by-here.ensures.place c.stretch_along.ensures.inside c.stretch_along.ensures.even)

pub loop-column-preserved : goal.loop-column-preserved
loop-column-preserved c =
    let columns = c.args.columns.now in
    let i = c.loop-column.column-index in
    let column = c.column-item.result in
    let number = c.loop-column.number in
    let some : 1 ≤ column.extent = subst (λ x. 1 ≤ x.extent) (sym c.column-item.is) (c.requires.columns.2 i column c.loop-column-test.true).some in
    record {
      inside = left-inside columns i column c.args.node number c.loop-column-test.true c.column-item.is some c.loop-column.invariant.inside
          c.split_by-here.result.rest c.extent.result c.extent.ensures c.split_by-here.ensures.rest;
      whole = λ n apart line.
          c.loop-column.invariant.whole n apart
          (found-beyond columns i column c.args.node number c.loop-column-test.true c.column-item.is some c.loop-column.invariant.inside
          c.split_by-here.result.rest c.extent.result c.loop-column.beyond c.in-Some.next c.extent-in-loop-column.result n apart
          c.extent.ensures c.split_by-here.ensures.rest c.extent-in-loop-column.ensures c.in-Some.ensures line);
    }
