use Rattle.std.proofs.Common.{◌≡◌, ◌∙◌, ap, subst, rules}
use Rattle.std.specs.Arc.{arc_value}
use Rattle.machine_steps.specs.Machine.{earlier}
use Rattle.machine_steps.specs.Message.{par_part}
use Rattle.tuple_values.specs.Views.{statement as statement_of}
use Rattle.part_steps.specs.After.{After, after, fault_below, stored_below, tuples as tuples_of}
use Rattle.part_steps.specs.Parts.{PartView}
use Rattle.part_steps.specs.Views.{part_view}
use Rattle.part_steps.specs.declared.who.Who.TheVariants.{Left}
use Rattle.part_steps.proofs.Instructions.{kept-is, par-is, pieces-are}
use Rattle.node_machine.specs.Exchanges.{IsExchangeBy, part_on}
use Rattle.node_machine.proofs.ExchangeLaws.{exchange-at, exchange-by, parallel-instruction_part}
use Rattle.node_machine.proofs.node.Node.par_result.Goals as goal

pub returns : goal.returns
returns c =
    let a = c.args.self.now in
    let is = c.self.view_is in
    let w = statement_of c.in_ok-statement.statement in
    let p = c.in_ok-statement.ensures in
    let part = par_part a.layouts p.tuples p.left a.control.slots in
    let e = par-is a.nodes a.layouts w a.control.slots p.tuples p.left p.statement in
    let V : PartView = record { who = Left; nodes = a.nodes; layouts = a.layouts; statement = w } in
    let same : part_view c.new-part.result ≡ V = c.new-part.ensures
    ∙ (λ i. record { who = Left; nodes = (c.self.invariant.owners ∙ (λ j. (is j).nodes)) i; layouts = (is i).layouts; statement = w }) in
    let B : After = after V a.id a.pieces a.received in
    let here : after (part_view c.new-part.result) c.self.inside.id c.deref.result.now c.all_received-received.result.now ≡ B =
    (λ i. after (same i) (is i).id ((c.deref.ensures.value ∙ (λ j. (is j).pieces)) i) ((c.all_received-received.ensures ∙ (λ j. (is j).received)) i)) in
    record {
      tuples = p.tuples;
      left = p.left;
      is = p.is;
      pieces = c.in_ok-values.ensures.stores a.pieces ∙ (λ i. stored_below (here i) (tuples_of (here i)) a.pieces) ∙ pieces-are a.nodes a Left w part e p.tuples p.left p.statement;
      kept = ap (earlier a.kept) (c.in_ok-values.ensures.fault ∙ (λ i. fault_below (here i) (is i).parts (tuples_of (here i)))) ∙ kept-is a.nodes a Left w part e p.tuples p.left p.statement a.parts;
    }

pub exchange_here-requires-clause-part : goal.exchange_here-requires-clause-part
exchange_here-requires-clause-part c = parallel-instruction_part c.args.self.now _ (statement_of c.in_ok-statement.statement) c.in_ok-statement.ensures

pub par_values-requires-clause-exchange : goal.par_values-requires-clause-exchange
par_values-requires-clause-exchange c =
    let a = c.args.self.now in
    let is = c.self.view_is in
    let w = statement_of c.in_ok-statement.statement in
    let e : arc_value c.in_ok-found.found.exchange ≡ c.deref-exchange.result.now = search rules in
    let same : part_view c.new-part.result ≡ part_on a Left w = c.new-part.ensures
    ∙ (λ i. record { who = Left; nodes = (c.self.invariant.owners ∙ (λ j. (is j).nodes)) i; layouts = (is i).layouts; statement = w }) in
    exchange-at (part_view c.new-part.result) (part_on a Left w) c.self.inside.id a.id c.deref-exchange.result.now same (λ i. (is i).id)
    (subst (IsExchangeBy a Left w) e (exchange-by a _ w Left (arc_value c.in_ok-found.found.exchange) (parallel-instruction_part a _ w c.in_ok-statement.ensures) c.in_ok-found.ensures))
