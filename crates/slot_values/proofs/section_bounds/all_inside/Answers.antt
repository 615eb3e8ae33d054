use Rattle.std.proofs.Common.{◌∙◌, ap, subst, sym}
use Rattle.machine_steps.specs.Space.{space_count}
use Rattle.slot_values.specs.Elements.{inside_to}
use Rattle.slot_values.specs.Tested.{IsTest}
use Rattle.slot_values.proofs.section_bounds.all_inside.Goals as goal

pub returns : goal.returns
returns c =
    let inside = inside_to c.args.shapes.now c.args.array c.args.ds.now in
    let here = c.deref.ensures.value ∙ c.in_ok-ns.ensures in
    let there = c.deref-2.ensures.value ∙ c.in_ok-ns.ensures in
    subst (λ ns. IsTest (inside ns (space_count ns)) c.first_inside.result) here
    (subst (λ n. IsTest (inside c.deref.result.now n) c.first_inside.result) (c.space_count.ensures.value ∙ ap space_count (there ∙ sym here)) c.first_inside.ensures)
