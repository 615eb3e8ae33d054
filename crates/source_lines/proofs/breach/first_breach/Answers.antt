use Rattle.std.proofs.Common.{◌≡◌, ◌+◌, ◌-◌, ◌++◌, ◌∷◌, sym, subst, arith, length, take, drop}
use Rattle.std.proofs.lemmas.List.{take_rest, length-take-le}
use Rattle.source_lines.proofs.BreachLaws.{IsClear, lines_numbered, parted_at, clear_few, number_few, first_found}
use Rattle.source_lines.proofs.breach.first_breach.Goals as goal

pub overflow_cast-number : goal.overflow_cast-number
overflow_cast-number c =
    let lines = c.args.lines.now in
    let few = number_few lines c.loop-i.i c.index-lines-i.result (lines_numbered lines c.requires) c.loop-i.invariant.clear c.loop-i-test.true c.index-lines-i.is in
    omega (arith, few, c.number-number.ensures)

pub returns-in-Some : goal.returns-in-Some
returns-in-Some c =
    let lines = c.args.lines.now in
    let i = c.loop-i.i in
    let line = c.index-lines-i.result in
    let whole : lines ≡ take i lines ++ line ∷ take (length lines - (i + 1)) (drop (i + 1) lines) =
    rw (take_rest lines (i + 1)) (parted_at lines i line c.loop-i-test.true c.index-lines-i.is) in
    let least = c.in-Some.ensures (take i lines) c.loop-i.invariant.counted in
    first_found lines (take i lines) line _ c.number-number.result c.in-Some.reason whole (lines_numbered lines c.requires)
    (subst (IsClear lines) (sym (length-take-le i lines (omega arith))) c.loop-i.invariant.clear) c.number-number.ensures least.0 least.1

pub count_with-continued-requires : goal.count_with-continued-requires
count_with-continued-requires c =
    let lines = c.args.lines.now in
    let few = clear_few lines c.loop-i.i (lines_numbered lines c.requires) c.loop-i.invariant.clear (omega arith) in
    omega (arith, few)
