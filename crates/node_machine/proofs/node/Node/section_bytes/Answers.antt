use Rattle.std.proofs.Common.{◌≡◌, ◌∙◌, ap}
use Rattle.array_meaning.specs.Execution.{decimals}
use Rattle.machine_steps.specs.Message.{gather_part}
use Rattle.tuple_values.specs.Views.{statement as statement_of}
use Rattle.part_steps.specs.After.{After, after, elements_below, tuples as tuples_of}
use Rattle.part_steps.specs.Parts.{PartView}
use Rattle.part_steps.specs.Views.{part_view}
use Rattle.part_steps.specs.declared.who.Who.TheVariants.{Root}
use Rattle.part_steps.proofs.Instructions.{elements-are, gather-is}
use Rattle.node_machine.proofs.node.Node.section_bytes.Goals as goal

pub returns : goal.returns
returns c =
    let a = c.args.self.now in
    let is = c.self.view_is in
    let w = statement_of c.in_ok-statement.statement in
    let s = c.in_ok-statement.ensures in
    let part = gather_part s.prints.count s.prints.element a.control.slots in
    let e = gather-is a.nodes a.layouts w a.control.slots s.prints.count s.prints.element s.tuples s.reads in
    let V : PartView = record { who = Root; nodes = a.nodes; layouts = a.layouts; statement = w } in
    let same : part_view c.new-part.result ≡ V = c.new-part.ensures
    ∙ (λ i. record { who = Root; nodes = (c.self.invariant.owners ∙ (λ j. (is j).nodes)) i; layouts = (is i).layouts; statement = w }) in
    let B : After = after V a.id a.pieces a.received in
    let here : after (part_view c.new-part.result) c.self.inside.id c.deref.result.now c.all_received-received.result.now ≡ B =
    (λ i. after (same i) (is i).id ((c.deref.ensures.value ∙ (λ j. (is j).pieces)) i) ((c.all_received-received.ensures ∙ (λ j. (is j).received)) i)) in
    record {
      prints = s.prints;
      bytes = λ root. c.in_ok-bytes.ensures ∙ ap decimals (c.deref-2.ensures.value ∙ c.in_ok-values.ensures ∙ (λ i. elements_below (here i) (tuples_of (here i)))
          ∙ elements-are a.nodes a Root w part e s.prints.count s.prints.element s.tuples s.reads);
    }
