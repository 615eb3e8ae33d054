use Rattle.std.proofs.Common.{rules, ◌+◌, ◌*◌, ◌++◌, [], ◌∷◌, w64, SFits, ap, ◌∙◌, arith}
use Rattle.std.proofs.lemmas.Int.{to_z-of_z}
use Rattle.std.proofs.lemmas.Nat.{row_fits}
use Rattle.serial_run.proofs.TransformedColumns.{one_added}
use Rattle.serial_run.proofs.transformed_columns.add_steps.Goals as goal

pub overflow_add-place : goal.overflow_add-place
overflow_add-place c =
    let fits = row_fits c.loop.counter c.args.step c.args.count c.args.step c.loop-test.true (omega arith) in
    omega (arith, fits, c.loop.invariant.at, c.requires.inside, c.requires.few)

pub loop-preserved : goal.loop-preserved
loop-preserved c = let fits : SFits w64 c.element_at.result = search rules in record {
  made = one_added c.args.elements.now (λ t. c.args.first + c.args.step * t) c.loop.counter c.loop.place c.args.values.now.items c.loop.values.items c.push.new.self.items
      c.element_at.result (c.in_ok-push.ensures.items ∙ ap (λ v. c.loop.values.items ++ v ∷ []) (to_z-of_z w64 c.element_at.result fits)) c.loop.invariant.made c.element_at.ensures c.loop.invariant.at;
  at = omega (arith, c.loop.invariant.at);
}
