use Rattle.std.proofs.Common.{None, ◌∙◌, ap}
use Rattle.storage.specs.Effect.{scatter}
use Rattle.machine_steps.specs.Machine.{earlier, keep}
use Rattle.tuple_values.specs.Statements.{tuple_count}
use Rattle.tuple_values.specs.Views.{statement as statement_of}
use Rattle.whole_machine.specs.Parts.{effect_at, outcome_at}
use Rattle.whole_machine.proofs.PartLaws.{kept-is, rows-are}
use Rattle.whole_machine.proofs.machine.WholeMachine.par_values.Goals as goal

pub returns : goal.returns
returns c =
    let m = c.args.self.now in
    let w = statement_of c.in_ok-w.w in
    let p = c.in_ok-w.ensures in
    record {
      tuples = p.tuples;
      left = p.left;
      is = p.is;
      rows = c.in_ok-values.ensures.stores m.rows ∙ (λ i. scatter (effect_at (c.rows.ensures i) w) (tuple_count w) m.rows) ∙ rows-are m w p.tuples p.left p.statement;
      kept = ap (earlier m.kept) (c.in_ok-values.ensures.fault ∙ (λ i. keep (outcome_at (c.rows.ensures i) w) ((c.self.view_is i).parts) (tuple_count w) None)) ∙ kept-is m w p.tuples p.left p.statement m.parts;
    }
