use Rattle.std.proofs.Common.{◌≡◌, ◌<◌, ◌≤◌, length, sym, ◌∙◌, arith}
use Rattle.std.proofs.lemmas.List.{length-map, take_all, take_more_same}
use Rattle.machine_steps.specs.Layout.{size_of, sizes}
use Rattle.pair_cases.proofs.sizes.are_same.Goals as goal

pub loop-row-preserved : goal.loop-row-preserved
loop-row-preserved c =
    let one = sizes c.args.before.now.layouts in
    let other = sizes c.args.after.now.layouts in
    let row = c.loop-row.row in
    let long = length-map c.args.before.now.layouts size_of in
    let long' = length-map c.args.after.now.layouts size_of in
    let within : row < length one = omega (arith, c.loop-row-test.true, c.requires.before, long) in
    let within' : row < length other = omega (arith, c.loop-row-test.true, c.requires.after, long') in
    take_more_same one other row 0 within within' c.loop-row.invariant (c.is_same.ensures c.if-not-is_same.false)

pub returns : goal.returns
returns c t =
    let one = sizes c.args.before.now.layouts in
    let other = sizes c.args.after.now.layouts in
    let row = c.loop-row.row in
    let long = length-map c.args.before.now.layouts size_of in
    let long' = length-map c.args.after.now.layouts size_of in
    let past : length one ≤ row = omega (arith, c.loop-row-test.false, c.requires.before, long) in
    let past' : length other ≤ row = omega (arith, c.loop-row-test.false, c.requires.after, long') in
    sym (take_all row one past) ∙ c.loop-row.invariant ∙ take_all row other past'
