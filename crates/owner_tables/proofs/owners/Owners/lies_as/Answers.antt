use Rattle.std.proofs.Common.{◌≡◌, ◌<◌, get_or, length, sym, ◌∙◌, ap, arith}
use Rattle.std.proofs.lemmas.Bool.{true≢false}
use Rattle.std.proofs.lemmas.List.{take_more_same}
use Rattle.owner_tables.proofs.Rows.{row-layout, rows-many}
use Rattle.machine_steps.specs.SameLayouts.{is_same_layout}
use Rattle.owner_tables.proofs.SameLayouts.{layout_itself, same_layouts}
use Rattle.owner_tables.proofs.owners.Owners.lies_as.Goals as goal

pub loop-row-preserved : goal.loop-row-preserved
loop-row-preserved c =
    let one = c.args.self.now in
    let other = c.args.other.now in
    let row = c.loop-row.row in
    let here = c.index.result.now.layout in
    let there = c.index-in-loop-row.result.now.layout in
    let many = rows-many c.self.inside.tables.items c.self.inside.nodes one c.self.view_is in
    let len = c.self.inside.tables.ok.0 in
    let long = c.loop-row.invariant.1 in
    let within : row < length one.layouts = omega (arith, c.loop-row-test.true, c.len-row-end.ensures, len, many) in
    let within' : row < length other.layouts = omega (arith, within, long) in
    let at = row-layout c.self.inside.tables.items c.self.inside.nodes row c.index.result.now one here c.self.view_is within c.index.ensures in
    let at' = row-layout c.other.inside.tables.items c.other.inside.nodes row c.index-in-loop-row.result.now other here c.other.view_is within' c.index-in-loop-row.ensures in
    let same = same_layouts here there (sym c.if-not-lies_as.ensures) in
    (omega (arith, within), long, take_more_same one.layouts other.layouts row here within within' c.loop-row.invariant.2 (sym at ∙ same ∙ at'))

pub returns-then-not-lies_as-clause-all : goal.returns-then-not-lies_as-clause-all
returns-then-not-lies_as-clause-all c e =
    let one = c.args.self.now in
    let other = c.args.other.now in
    let row = c.loop-row.row in
    let here = c.index.result.now.layout in
    let there = c.index-in-loop-row.result.now.layout in
    let many = rows-many c.self.inside.tables.items c.self.inside.nodes one c.self.view_is in
    let len = c.self.inside.tables.ok.0 in
    let long = c.loop-row.invariant.1 in
    let within : row < length one.layouts = omega (arith, c.loop-row-test.true, c.len-row-end.ensures, len, many) in
    let within' : row < length other.layouts = omega (arith, within, long) in
    let at = row-layout c.self.inside.tables.items c.self.inside.nodes row c.index.result.now one here c.self.view_is within c.index.ensures in
    let at' = row-layout c.other.inside.tables.items c.other.inside.nodes row c.index-in-loop-row.result.now other here c.other.view_is within' c.index-in-loop-row.ensures in
    let same : here ≡ there = at ∙ ap (λ v. get_or v.layouts row here) e ∙ sym at' in
    absurd (true≢false (sym (layout_itself here) ∙ ap (is_same_layout here) same ∙ sym c.if-not-lies_as.ensures))
