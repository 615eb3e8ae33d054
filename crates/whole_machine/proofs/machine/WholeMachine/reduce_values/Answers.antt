use Rattle.std.proofs.Common.{None, ◌∙◌, ap, subst}
use Rattle.machine_steps.specs.Machine.{earlier, folded, keep}
use Rattle.code_meaning.specs.Parallel.{fold_of, reduction_tuples}
use Rattle.node_code.specs.Texts.{evaluation}
use Rattle.tuple_values.specs.Statements.{IsStatement, no_left, tuple_count}
use Rattle.tuple_values.specs.Views.{statement as statement_of}
use Rattle.whole_machine.specs.Parts.{outcome_at}
use Rattle.whole_machine.proofs.PartLaws.{joined-is, kept-is}
use Rattle.whole_machine.proofs.machine.WholeMachine.reduce_values.Goals as goal

pub returns : goal.returns
returns c =
    let m = c.args.self.now in
    let r = c.args.r in
    let w = statement_of c.in_ok-w.w in
    let tuples = reduction_tuples c.args.shapes.now (evaluation r.evaluation.now) r.reduction.made in
    let is = subst (λ slots. IsStatement w slots tuples no_left) c.slots.ensures c.in_ok-w.ensures in
    record {
      joined = c.in_ok-values.ensures.joined ∙ (λ i. folded (fold_of r.reduction.join) (outcome_at (c.rows.ensures i) w) (tuple_count w)) ∙ joined-is m w tuples no_left is r.reduction.join;
      kept = ap (earlier m.kept) (c.in_ok-values.ensures.fault ∙ (λ i. keep (outcome_at (c.rows.ensures i) w) ((c.self.view_is i).parts) (tuple_count w) None)) ∙ kept-is m w tuples no_left is m.parts;
    }
