use Rattle.std.proofs.Common.{◌≡◌, sym, ◌∙◌, ap, subst, rules}
use Rattle.std.specs.Arc.{arc_value}
use Rattle.machine_steps.specs.Machine.{instr_at}
use Rattle.code_meaning.specs.ProgramText.{text_meaning}
use Rattle.node_code.specs.Texts.{instruction}
use Rattle.slot_values.specs.Controls.{control_of}
use Rattle.slot_values.specs.LocalInstructions.{local_control}
use Rattle.node_program.specs.Programs.{code_of, mappings_of}
use Rattle.node_machine.specs.Steps.{IsLocalAt}
use Rattle.node_machine.specs.Views.{node_of}
use Rattle.node_machine.proofs.Instructions.{instr_at-is, local-inside, local-step, local-text}
use Rattle.node_machine.proofs.node.Node.run_local.Goals as goal

pub returns-clause-ok : goal.returns-clause-ok
returns-clause-ok c =
    let p = c.deref-program.result.now in
    let at = c.self.inside.control.at in
    let i = c.index-i.result.now in
    let same : arc_value c.self.inside.program ≡ p = search rules in
    let here : IsLocalAt (code_of p) at = subst (λ q. IsLocalAt (code_of q) at) same (subst (λ a. IsLocalAt a.code a.control.at) (sym c.self.view_is) c.requires.local) in
    let there = instr_at-is p.nodes (mappings_of p.tables.items) p.shapes.items p.code.items at i (local-inside p.nodes (mappings_of p.tables.items) p.shapes.items p.code.items at here) c.index-i.ensures in
    rw (← c.self.view_is) (local-step p.nodes (mappings_of p.tables.items) p.shapes.items (node_of c.self.inside).nodes (instruction i) _ (node_of c.self.inside) _
    (ap (λ q. instr_at text_meaning (code_of q) at) same ∙ there)
    (local-text p.nodes (mappings_of p.tables.items) p.shapes.items p.code.items at i c.index-i.ensures here)
    (c.in_ok-run_local.ensures.done ∙ ap (λ s. local_control s (instruction i) (control_of c.self.inside.control)) c.deref.ensures.value))
