use Rattle.std.proofs.Common.{◌≡◌, ◌<◌, ◌≤◌, ◌==◌, Bool, true, List, length, get_or, sym, ◌∙◌, ap, subst, arith, rules}
use Rattle.std.specs.Arc.{arc_value}
use Rattle.std.specs.List.{list_all}
use Rattle.machine_steps.specs.Layout.{Layout}
use Rattle.machine_steps.specs.Machine.{instr_at, step_by}
use Rattle.code_meaning.specs.ProgramText.{text_meaning}
use Rattle.node_code.specs.Texts.{instruction}
use Rattle.node_program.specs.Fits.{fits_rows, shapes_of}
use Rattle.node_program.specs.Programs.{code_of, mappings_of}
use Rattle.node_program.specs.declared.program.NodeProgram.{NodeProgram}
use Rattle.node_program.proofs.FitLaws.{all-mapped}
use Rattle.whole_machine.specs.Places.{IsFor, instr_of}
use Rattle.whole_machine.proofs.Places.{instr-end, instr-is, is-for}
use Rattle.whole_machine.proofs.machine.WholeMachine.step_on.Goals as goal

pub run-requires-clause-nodes : goal.run-requires-clause-nodes
run-requires-clause-nodes c =
    let q = arc_value c.self.inside.program in
    let at = c.place-at.result in
    let i = c.index.result.now in
    let tested : q ≡ c.deref.result.now = search rules in
    let given : q ≡ c.deref-then-at-len.result.now = search rules in
    let looked : q ≡ c.deref-then-at-len-2.result.now = search rules in
    let few : length q.code.items ≡ length c.deref.result.now.code.items = ap (λ p. length p.code.items) tested in
    let lt : at < length q.code.items = omega (arith, few, c.len.ensures, c.if-at-len.true) in
    let here = is-for q.nodes (mappings_of q.tables.items) q.shapes.items q.code.items at i lt (c.index.ensures ∙ ap (λ p. get_or p.code.items at i) (sym looked)) in
    subst (λ p. IsFor c.args.self.now.code c.args.self.now.control.at p.nodes) given
    (subst (λ k. IsFor c.args.self.now.code k q.nodes) c.place-at.ensures (subst (λ code. IsFor code at q.nodes) (λ j. (c.self.view_is j).code) here))

pub run-requires-clause-is : goal.run-requires-clause-is
run-requires-clause-is c =
    let q = arc_value c.self.inside.program in
    let at = c.place-at.result in
    let i = c.index.result.now in
    let tested : q ≡ c.deref.result.now = search rules in
    let given : q ≡ c.deref-then-at-len.result.now = search rules in
    let looked : q ≡ c.deref-then-at-len-2.result.now = search rules in
    let few : length q.code.items ≡ length c.deref.result.now.code.items = ap (λ p. length p.code.items) tested in
    let lt : at < length q.code.items = omega (arith, few, c.len.ensures, c.if-at-len.true) in
    let there : instr_at text_meaning (code_of q) at ≡ instr_of q i =
    instr-is q.nodes (mappings_of q.tables.items) q.shapes.items q.code.items at i lt (c.index.ensures ∙ ap (λ p. get_or p.code.items at i) (sym looked)) in
    sym (λ j. instr_at text_meaning ((c.self.view_is j).code) (c.place-at.ensures j)) ∙ there ∙ ap (λ p. instr_of p i) given

pub run-requires-clause-tables : goal.run-requires-clause-tables
run-requires-clause-tables c =
    let q = arc_value c.self.inside.program in
    let given : q ≡ c.deref-then-at-len.result.now = search rules in
    subst (λ (p : NodeProgram). list_all (λ t. t.nodes == p.nodes) p.tables.items ≡ true) given c.self.invariant.fits.nodes

pub run-requires-clause-fits : goal.run-requires-clause-fits
run-requires-clause-fits c =
    let q = arc_value c.self.inside.program in
    let at = c.place-at.result in
    let i = c.index.result.now in
    let tested : q ≡ c.deref.result.now = search rules in
    let given : q ≡ c.deref-then-at-len.result.now = search rules in
    let looked : q ≡ c.deref-then-at-len-2.result.now = search rules in
    let few : length q.code.items ≡ length c.deref.result.now.code.items = ap (λ p. length p.code.items) tested in
    let lt : at < length q.code.items = omega (arith, few, c.len.ensures, c.if-at-len.true) in
    let fits : List Layout → NodeProgram → Bool = λ layouts p. fits_rows (length p.shapes.items) p.tables.items (shapes_of layouts) (instruction i) in
    subst (λ p. fits c.args.self.now.layouts p ≡ true) given
    (subst (λ layouts. fits layouts q ≡ true) (λ j. (c.self.view_is j).layouts)
    (all-mapped (fits_rows (length q.shapes.items) q.tables.items (shapes_of c.self.inside.owners.layouts)) instruction q.code.items at i lt
    (c.index.ensures ∙ ap (λ p. get_or p.code.items at i) (sym looked)) c.self.invariant.fits.code))

pub returns-then-at-len-clause-ok : goal.returns-then-at-len-clause-ok
returns-then-at-len-clause-ok c =
    let m = c.args.self.now in
    let q = arc_value c.self.inside.program in
    let at = c.place-at.result in
    let i = c.index.result.now in
    let tested : q ≡ c.deref.result.now = search rules in
    let given : q ≡ c.deref-then-at-len.result.now = search rules in
    let looked : q ≡ c.deref-then-at-len-2.result.now = search rules in
    let few : length q.code.items ≡ length c.deref.result.now.code.items = ap (λ p. length p.code.items) tested in
    let lt : at < length q.code.items = omega (arith, few, c.len.ensures, c.if-at-len.true) in
    let there : instr_at text_meaning (code_of q) at ≡ instr_of q i =
    instr-is q.nodes (mappings_of q.tables.items) q.shapes.items q.code.items at i lt (c.index.ensures ∙ ap (λ p. get_or p.code.items at i) (sym looked)) in
    c.in_ok-run.ensures.ok ∙ ap (λ p. step_by (instr_of p i) m) (sym given) ∙ ap (λ x. step_by x m) (sym there)
    ∙ (λ j. step_by (instr_at text_meaning ((c.self.view_is j).code) (c.place-at.ensures j)) m)

pub returns-clause-ok : goal.returns-clause-ok
returns-clause-ok c =
    let m = c.args.self.now in
    let q = arc_value c.self.inside.program in
    let at = c.place-at.result in
    let tested : q ≡ c.deref.result.now = search rules in
    let few : length q.code.items ≡ length c.deref.result.now.code.items = ap (λ p. length p.code.items) tested in
    let le : length q.code.items ≤ at = omega (arith, few, c.len.ensures, c.if-at-len.false) in
    c.finish_run.ensures ∙ ap (λ x. step_by x m) (sym (instr-end q.nodes (mappings_of q.tables.items) q.shapes.items q.code.items at le))
    ∙ (λ j. step_by (instr_at text_meaning ((c.self.view_is j).code) (c.place-at.ensures j)) m)
