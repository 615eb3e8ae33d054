use Rattle.std.proofs.Common.{◌+◌, ◌++◌, ◌∷◌, [], All, ap, drop, subst, sym, ◌∙◌}
use Rattle.array_maps.specs.Maps.{IsArrayMap}
use Rattle.owner_tables.specs.Views.{OwnersView, TableView}
use Rattle.nodes_lowered.specs.ProgramLayouts.{layout_by, program_layouts}
use Rattle.compiled_program.proofs.Layouts.{all-after, next-layout}
use Rattle.compiled_program.proofs.rows.program_owners.Goals as goal

pub loop-place-preserved : goal.loop-place-preserved
loop-place-preserved c = record {
  nodes = ap (λ (o : OwnersView). o.nodes) c.in_ok-push.ensures.row ∙ c.loop-place.invariant.nodes;
  valid = subst (All (IsArrayMap c.args.nodes)) (sym c.maps_after-rest.ensures)
      (all-after c.args.nodes c.entry_at.result.now.what c.loop-place.rest.now c.loop-place.invariant.valid);
  layouts = ap (λ l. l ++ program_layouts c.args.nodes c.args.copies (drop (c.loop-place.place + 1) c.args.names.now) c.maps_after-rest.result.now)
      (ap (λ (o : OwnersView). o.layouts) c.in_ok-push.ensures.row ∙ ap (λ (t : TableView). c.loop-place.owners.layouts ++ t.layout ∷ []) c.in_ok-table_by.ensures)
      ∙ ap (λ m. (c.loop-place.owners.layouts ++ layout_by c.args.nodes c.entry_at.result.now.what c.loop-place.rest.now ∷ [])
      ++ program_layouts c.args.nodes c.args.copies (drop (c.loop-place.place + 1) c.args.names.now) m) c.maps_after-rest.ensures
      ∙ next-layout c.args.nodes c.args.copies c.args.names.now c.loop-place.place c.entry_at.result.now c.loop-place.owners.layouts
      (program_layouts c.args.nodes c.args.copies c.args.names.now c.args.maps.now) c.loop-place.rest.now c.entry_at.ensures c.loop-place.invariant.layouts;
}
