use Rattle.std.proofs.Common.{◌≡◌, SFits, w64, option_copied, replicate, slice_set, sym, ◌∙◌, ap, subst, rules}
use Rattle.std.proofs.lemmas.Int.{to_z-of_z}
use Rattle.std.specs.Arc.{arc_value}
use Rattle.machine_steps.specs.Instr.{MakeCopy}
use Rattle.machine_steps.specs.Layout.{size_of}
use Rattle.machine_steps.specs.Machine.{instr_at, on}
use Rattle.code_meaning.specs.Beside.{aligned_layout_of}
use Rattle.code_meaning.specs.ProgramText.{text_meaning}
use Rattle.owner_tables.specs.Views.{OwnersView}
use Rattle.node_program.specs.Fits.{FitsRows}
use Rattle.node_program.specs.Programs.{code_of, mappings_of}
use Rattle.node_program.proofs.FitLaws.{copy-fits}
use Rattle.whole_machine.specs.Places.{IsFor}
use Rattle.whole_machine.proofs.Places.{nodes-are}
use Rattle.whole_machine.proofs.machine.WholeMachine.put_copy.Goals as goal

pub returns-clause-ok : goal.returns-clause-ok
returns-clause-ok c =
    let k = c.self.inside in
    let is = c.self.view_is in
    let p = arc_value k.program in
    let copy = c.args.copy in
    let anchor = option_copied c.args.anchor in
    let extents = c.args.extents.now in
    let here = subst (λ a. IsFor a.code a.control.at c.args.nodes) (sym is) c.requires.nodes in
    let same : k.owners.nodes ≡ c.args.nodes =
    c.self.invariant.nodes ∙ nodes-are p.nodes (mappings_of p.tables.items) p.shapes.items p.code.items k.control.at c.args.nodes here in
    let lies : c.in_ok-table.table.layout ≡ aligned_layout_of c.args.nodes c.args.self.now.layouts anchor extents =
    ap (λ t. t.layout) c.in_ok-table.ensures ∙ (λ i. aligned_layout_of (same i) ((is i).layouts) anchor extents) in
    let fits : SFits w64 c.args.value.now = search rules in
    let values = c.in_ok-values.ensures ∙ (λ i. replicate ((c.size.ensures ∙ ap size_of lies) i) (to_z-of_z w64 c.args.value.now fits i)) in
    let rows = c.set_row.ensures ∙ (λ i. slice_set ((is i).rows) copy (values i)) in
    let layouts = ap (λ o. o.layouts) c.set.ensures ∙ (λ i. slice_set ((is i).layouts) copy (lies i)) in
    c.go_on.ensures ∙ (λ i. record (is i) { control = on ((is i).control); substep = 0; rows = rows i; layouts = layouts i })

pub invariant_of-self : goal.invariant_of-self
invariant_of-self c =
    let k = c.self.inside in
    let p = arc_value k.program in
    let makes = c.requires.makes in
    let here : instr_at text_meaning (code_of p) k.control.at ≡ MakeCopy c.args.copy makes.layout makes.start =
    (λ i. instr_at text_meaning ((c.self.view_is i).code) ((c.self.view_is i).control.at)) ∙ makes.is in
    record {
      nodes = ap (λ (o : OwnersView). o.nodes) c.set.ensures ∙ c.self.invariant.nodes;
      fits = subst (λ (o : OwnersView). FitsRows p o.layouts) (sym c.set.ensures)
          (copy-fits p k.owners.layouts k.control.at c.args.copy makes.layout makes.start c.in_ok-table.table.layout here c.self.invariant.fits);
    }
