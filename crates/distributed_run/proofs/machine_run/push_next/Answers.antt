use Rattle.std.proofs.Common.{◌≡◌, ◌<◌, ◌≤◌, ◌++◌, Some, OnOk, length, sym, ap, ◌∙◌, subst, arith}
use Rattle.std.specs.List.{slice_get}
use Rattle.node_program.specs.Programs.{mappings_of}
use Rattle.distributed_run.proofs.NextLines.{next-lines, none-past, text-there}
use Rattle.distributed_run.proofs.machine_run.push_next.Goals as goal

pub returns-then-at-len-clause-lines : goal.returns-then-at-len-clause-lines
returns-then-at-len-clause-lines c = λ moves.
    let p = c.program-program.result.now in
    let m = c.args.machine.now in
    let first : m.substep ≡ 0 = omega (arith, c.substep-done.ensures, c.if-done-gt0.false) in
    let lt : c.place-at.result < length p.code.items = omega (arith, c.len.ensures, c.if-at-len.true) in
    let there = text-there p.nodes (mappings_of p.tables.items) p.shapes.items p.code.items c.place-at.result lt in
    let here : slice_get m.code c.place-at.result ≡ Some there.0 = ap (λ code. slice_get code c.place-at.result) (sym c.program-program.ensures.code) ∙ there.1 in
    subst (λ l. OnOk c.push_at.result (c.push_at.new.text.items ≡ c.args.text.now.items ++ l))
    (sym (next-lines c.args.names.now moves m there.0 c.requires.running first (ap (λ at. slice_get m.code at) (sym c.place-at.ensures) ∙ here)))
    (c.push_at.ensures.lines there.0 moves here)

pub returns-else-at-len-clause-lines : goal.returns-else-at-len-clause-lines
returns-else-at-len-clause-lines c = λ moves.
    let p = c.program-program.result.now in
    let m = c.args.machine.now in
    let le : length p.code.items ≤ m.control.at = omega (arith, c.place-at.ensures, c.len.ensures, c.if-at-len.false) in
    none-past c.args.names.now p.nodes (mappings_of p.tables.items) p.shapes.items moves c.args.text.now.items p.code.items m (sym c.program-program.ensures.code) le
