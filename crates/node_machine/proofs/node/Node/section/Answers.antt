use Rattle.std.proofs.Common.{[], ◌∷◌, ◌∙◌}
use Rattle.machine_steps.specs.Space.{space_count}
use Rattle.array_meaning.specs.Sections.{extents}
use Rattle.code_meaning.specs.Forms.{selections_in}
use Rattle.code_meaning.specs.Instructions.{section_spot}
use Rattle.node_code.specs.Texts.{subs}
use Rattle.node_machine.proofs.node.Node.section.Goals as goal

pub returns : goal.returns
returns c =
    let s = c.args.s in
    let shapes = s.shapes.now.items in
    let section = s.section.now.items in
    let slots = c.deref-2.ensures.value ∙ (λ i. (c.self.view_is i).control.slots) in
    record {
      prints = record {
        items = c.requires.items;
        count = λ slots. space_count (extents (selections_in slots (subs section)));
        element = section_spot shapes s.array (subs section);
        is = c.requires.is;
        item = c.requires.there;
      };
      tuples = c.in_ok-statement.ensures.count ∙ (λ i. space_count (extents (selections_in (slots i) (subs (c.deref-3.ensures.value i)))));
      reads = λ t. c.in_ok-statement.ensures.reads t ∙ (λ i. section_spot (c.deref.ensures.value i) s.array (subs (c.deref-3.ensures.value i)) (slots i) t ∷ []);
    }
