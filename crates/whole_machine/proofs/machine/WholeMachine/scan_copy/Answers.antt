use Rattle.std.proofs.Common.{◌≡◌, [], sym, ◌∙◌, subst}
use Rattle.std.specs.Arc.{arc_value}
use Rattle.std.specs.List.{slice_get}
use Rattle.machine_steps.specs.Machine.{lies_so, on, scanned_rows}
use Rattle.code_meaning.specs.Instructions.{lies_alone}
use Rattle.code_meaning.specs.Parallel.{fold_of}
use Rattle.code_meaning.specs.ProgramText.{table_on}
use Rattle.node_program.specs.Programs.{mappings_of}
use Rattle.whole_machine.specs.Places.{IsFor}
use Rattle.whole_machine.proofs.Places.{nodes-are}
use Rattle.whole_machine.proofs.machine.WholeMachine.scan_copy.Goals as goal

pub returns-clause-ok : goal.returns-clause-ok
returns-clause-ok c =
    let k = c.self.inside in
    let is = c.self.view_is in
    let p = arc_value k.program in
    let copy = c.args.copy in
    let here = subst (λ a. IsFor a.code a.control.at c.args.nodes) (sym is) c.requires.nodes in
    let same : k.owners.nodes ≡ c.args.nodes =
    c.self.invariant.nodes ∙ nodes-are p.nodes (mappings_of p.tables.items) p.shapes.items p.code.items k.control.at c.args.nodes here in
    let alone = c.in_ok-alone.ensures ∙ (λ i. lies_so (lies_alone (table_on (same i) [] [])) (slice_get ((is i).layouts) copy)) in
    let rows = c.scan_where.ensures ∙ (λ i. scanned_rows (alone i) (fold_of c.args.op) copy ((is i).rows)) in
    c.go_on.ensures ∙ (λ i. record (is i) { control = on ((is i).control); substep = 0; rows = rows i })
