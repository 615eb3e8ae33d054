use Rattle.std.proofs.Common.{◌-◌, ◌<◌, arith, ◌∙◌, ap}
use Rattle.gap_table.specs.GapTable.{nth_of}
use Rattle.owned_places.proofs.KeptPlaces.{table-below, table-follows, table-of}
use Rattle.owned_places.proofs.candidates.first_of_run.Goals as goal

pub returns-then-last-first-2-clause-places : goal.returns-then-last-first-2-clause-places
returns-then-last-first-2-clause-places c =
    let t = c.args.table.now in
    let w = c.requires.filtered in
    table-follows w.0 w.1.0 t c.number_of-first.result c.number_of-last.result w.1.1.1 (omega (arith, c.len-count.ensures, c.if-count-eq0.false)) c.number_of-first.ensures
    (c.number_of-last.ensures ∙ ap (λ n. nth_of t (n - 1)) c.len-count.ensures)
    (omega (arith, c.if-last-first.true, c.if-last-first-2.true, c.len-count.ensures))

pub returns-then-last-first-2-clause-small : goal.returns-then-last-first-2-clause-small
returns-then-last-first-2-clause-small c =
    let t = c.args.table.now in
    let w = c.requires.filtered in
    let some : 0 < c.args.table.now.len = omega (arith, c.len-count.ensures, c.if-count-eq0.false) in
    let below : nth_of c.args.table.now 0 < c.requires.filtered.1.0 = table-below w.0 w.1.0 t (table-of w.0 w.0 w.1.0 t (λ x held. held) w.1.1.1) 0 some in
    omega (arith, below, c.requires.filtered.1.1.0, c.number_of-first.ensures)
