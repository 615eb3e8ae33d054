use Rattle.std.proofs.Common.{suc, ◌++◌, map, sym, ◌∙◌, ap, arith}
use Rattle.std.specs.List.{slice_get}
use Rattle.machine_steps.specs.Machine.{print_step}
use Rattle.code_meaning.specs.Instructions.{items_of}
use Rattle.node_code.specs.Texts.{print_item}
use Rattle.node_program.specs.PrintedLines.{line_of}
use Rattle.whole_machine.proofs.PrintLaws.{item-there, items-over}
use Rattle.whole_machine.proofs.machine.WholeMachine.print.Goals as goal

pub returns-in_ok-print_bytes-clause-ok : goal.returns-in_ok-print_bytes-clause-ok
returns-in_ok-print_bytes-clause-ok c =
    let m = c.args.self.now in
    let shapes = c.args.shapes.now in
    let items = c.args.items.now.items in
    let there = item-there shapes items c.substep-k.result c.index.result.now (omega (arith, c.len.ensures, c.if-k-len.true)) c.index.ensures in
    c.in_ok-print_bytes.ensures.ok
    ∙ ap (λ b. record m { substep = suc m.substep; line = m.line ++ b }) (c.deref.ensures.value ∙ c.in_ok-bytes.ensures)
    ∙ ap (λ o. print_step o line_of m) (sym there)
    ∙ ap (λ k. print_step (slice_get (items_of shapes (map print_item items)) k) line_of m) c.substep-k.ensures

pub returns-in_ok-print_line-clause-ok : goal.returns-in_ok-print_line-clause-ok
returns-in_ok-print_line-clause-ok c =
    let m = c.args.self.now in
    let shapes = c.args.shapes.now in
    let items = c.args.items.now.items in
    let over = items-over shapes items c.substep-k.result (omega (arith, c.len.ensures, c.if-k-len.false)) in
    c.in_ok-print_line.ensures.ok
    ∙ ap (λ o. print_step o line_of m) (sym over)
    ∙ ap (λ k. print_step (slice_get (items_of shapes (map print_item items)) k) line_of m) c.substep-k.ensures
