use Rattle.std.proofs.Common.{rules, ◌++◌, [], ◌∷◌, w64, SFits, of_z, to_z, ap, ◌∙◌}
use Rattle.std.proofs.lemmas.Int.{to_z-of_z}
use Rattle.serial_run.proofs.PrefixSums.{next_sum, sums_more}
use Rattle.serial_run.proofs.transformed_columns.sums.Goals as goal

pub loop-place-preserved : goal.loop-place-preserved
loop-place-preserved c =
    let so_far : SFits w64 (to_z w64 c.loop-place.sum-bits) = search rules in
    let element : SFits w64 c.element_at.result = search rules in
    let fits : SFits w64 c.join-sum.result = search rules in
    let read = to_z-of_z w64 c.join-sum.result fits in
    let last = next_sum c.args.elements.now c.loop-place.place (to_z w64 c.loop-place.sum-bits) (to_z w64 (of_z w64 c.element_at.result)) c.join-sum.result
    c.loop-place.invariant.last so_far (to_z-of_z w64 c.element_at.result element ∙ c.element_at.ensures) c.join-sum.ensures in
    record {
      made = sums_more c.args.elements.now c.loop-place.place c.loop-place.values.items c.push.new.self.items c.join-sum.result
          (c.in_ok-push.ensures.items ∙ ap (λ v. c.loop-place.values.items ++ v ∷ []) read) c.loop-place.invariant.made last;
      last = read ∙ last;
    }
