use Rattle.std.proofs.Common.{◌≡◌, ◌∙◌, ap, subst, rules}
use Rattle.std.specs.Arc.{arc_value}
use Rattle.machine_steps.specs.Machine.{earlier}
use Rattle.machine_steps.specs.Message.{reduce_part}
use Rattle.tuple_values.specs.Statements.{no_left}
use Rattle.tuple_values.specs.Views.{statement as statement_of}
use Rattle.part_steps.specs.After.{After, after, fault_below, joined_below, tuples as tuples_of}
use Rattle.part_steps.specs.Parts.{PartView}
use Rattle.part_steps.specs.Views.{part_view}
use Rattle.part_steps.specs.declared.who.Who.TheVariants.{First}
use Rattle.part_steps.proofs.Instructions.{joined-is, kept-is, reduce-is}
use Rattle.node_machine.specs.Exchanges.{IsExchangeBy, part_on}
use Rattle.node_machine.proofs.ExchangeLaws.{exchange-at, exchange-by, reduction-instruction_part}
use Rattle.node_machine.proofs.node.Node.reduce_result.Goals as goal

pub returns : goal.returns
returns c =
    let a = c.args.self.now in
    let is = c.self.view_is in
    let w = statement_of c.in_ok-statement.statement in
    let op = c.args.r.reduction.join in
    let p = c.in_ok-statement.ensures in
    let part = reduce_part a.nodes a.layouts p.tuples a.control.slots in
    let e = reduce-is a.nodes a.layouts w a.control.slots p.tuples no_left p.statement in
    let V : PartView = record { who = First; nodes = a.nodes; layouts = a.layouts; statement = w } in
    let same : part_view c.new-part.result ≡ V = c.new-part.ensures
    ∙ (λ i. record { who = First; nodes = (c.self.invariant.owners ∙ (λ j. (is j).nodes)) i; layouts = (is i).layouts; statement = w }) in
    let B : After = after V a.id a.pieces a.received in
    let here : after (part_view c.new-part.result) c.self.inside.id c.deref.result.now c.all_received-received.result.now ≡ B =
    (λ i. after (same i) (is i).id ((c.deref.ensures.value ∙ (λ j. (is j).pieces)) i) ((c.all_received-received.ensures ∙ (λ j. (is j).received)) i)) in
    record {
      tuples = p.tuples;
      op = op;
      slot = p.slot;
      is = p.is;
      first = c.requires.first;
      value = c.in_ok-values.ensures.value ∙ (λ i. joined_below (here i) op (tuples_of (here i))) ∙ joined-is a.nodes a First w part e p.tuples no_left p.statement op;
      kept = ap (earlier a.kept) (c.in_ok-values.ensures.fault ∙ (λ i. fault_below (here i) (is i).parts (tuples_of (here i)))) ∙ kept-is a.nodes a First w part e p.tuples no_left p.statement a.parts;
    }

pub exchange_here-requires-clause-part : goal.exchange_here-requires-clause-part
exchange_here-requires-clause-part c = reduction-instruction_part c.args.self.now _ (statement_of c.in_ok-statement.statement) c.args.r.reduction.join c.in_ok-statement.ensures

pub reduce_values-requires-clause-exchange : goal.reduce_values-requires-clause-exchange
reduce_values-requires-clause-exchange c =
    let a = c.args.self.now in
    let is = c.self.view_is in
    let w = statement_of c.in_ok-statement.statement in
    let e : arc_value c.in_ok-found.found.exchange ≡ c.deref-exchange.result.now = search rules in
    let same : part_view c.new-part.result ≡ part_on a First w = c.new-part.ensures
    ∙ (λ i. record { who = First; nodes = (c.self.invariant.owners ∙ (λ j. (is j).nodes)) i; layouts = (is i).layouts; statement = w }) in
    exchange-at (part_view c.new-part.result) (part_on a First w) c.self.inside.id a.id c.deref-exchange.result.now same (λ i. (is i).id)
    (subst (IsExchangeBy a First w) e (exchange-by a _ w First (arc_value c.in_ok-found.found.exchange) (reduction-instruction_part a _ w c.args.r.reduction.join c.in_ok-statement.ensures) c.in_ok-found.ensures))
