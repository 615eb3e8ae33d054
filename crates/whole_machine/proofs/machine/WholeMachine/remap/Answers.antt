use Rattle.std.proofs.Common.{◌≡◌, ◌==◌, map, sym, ◌∙◌, ap, subst}
use Rattle.std.specs.Arc.{arc_value}
use Rattle.std.specs.List.{list_all}
use Rattle.code_meaning.specs.Instructions.{remappings}
use Rattle.node_code.specs.Texts.{new_mapping}
use Rattle.node_program.specs.Fits.{shapes_of}
use Rattle.node_program.specs.Programs.{mappings_of}
use Rattle.node_program.proofs.FitLaws.{remapped-shapes, same-shapes-fit}
use Rattle.whole_machine.specs.Places.{IsFor}
use Rattle.whole_machine.proofs.Places.{nodes-are}
use Rattle.whole_machine.proofs.machine.WholeMachine.remap.Goals as goal

pub owners_after-requires-clause-tables : goal.owners_after-requires-clause-tables
owners_after-requires-clause-tables c =
    let k = c.self.inside in
    let p = arc_value k.program in
    let r = c.requires.tables in
    let here = subst (λ a. IsFor a.code a.control.at r.nodes) (sym c.self.view_is) r.text in
    let same : k.owners.nodes ≡ r.nodes =
    c.self.invariant.nodes ∙ nodes-are p.nodes (mappings_of p.tables.items) p.shapes.items p.code.items k.control.at r.nodes here in
    ap (λ n. list_all (λ t. t.nodes == n) c.args.tables.now) same ∙ r.each

pub invariant_of-self : goal.invariant_of-self
invariant_of-self c =
    let k = c.self.inside in
    let p = arc_value k.program in
    let new = remappings (mappings_of c.args.tables.now) (map new_mapping c.args.new.now) in
    record {
      nodes = c.in_ok-after.ensures.nodes ∙ c.self.invariant.nodes;
      fits = same-shapes-fit p k.owners.layouts c.in_ok-after.after.layouts (ap shapes_of c.in_ok-after.ensures.layouts ∙ remapped-shapes new k.owners.layouts) c.self.invariant.fits;
    }
