use Rattle.std.proofs.Common.{◌≡◌, ℕ, ℤ, ◌+◌, ◌<◌, Some, length, get_or, take, slice_set, pos, w64, SFits, ◌∙◌, ap, rules}
use Rattle.std.proofs.lemmas.Int.{to_z-of_z}
use Rattle.machine_steps.specs.Node.{join_after, join_all, join_options}
use Rattle.op_tables.specs.Joins.{join, unit}
use Rattle.scan_steps.proofs.InPlace.{next-joined, next-replaced, next-value}
use Rattle.scan_steps.proofs.values.scan_row.Goals as goal

pub loop-at-preserved : goal.loop-at-preserved
loop-at-preserved c =
    let f = join c.args.op in
    let row = c.args.row.now in
    let at = c.loop-at.at in
    let scanned : ℕ → ℤ = λ k. join_after f (unit c.args.op) (join_options f c.args.before (join_all f (take (k + 1) row))) in
    let lt : at < length row = search rules in
    let got : c.get.result ≡ get_or row at (pos 0) = c.get.ensures ∙ ap (λ xs. get_or xs at (pos 0)) c.loop-at.invariant.1 ∙ next-value scanned row at lt in
    let fits : SFits w64 c.get.result = search rules in
    let upto : c.add.new.self.value ≡ join_all f (take (at + 1) row) =
    c.add.ensures ∙ ap (λ v. join_options f c.loop-at.so_far.value (Some v)) (to_z-of_z w64 c.get.result fits)
    ∙ (λ i. join_options f (c.loop-at.invariant.0 i) (Some (got i))) ∙ next-joined f row at lt in
    let value : c.after.result ≡ scanned at = c.after.ensures ∙ ap (λ v. join_after f (unit c.args.op) (join_options f c.args.before v)) upto in
    let fits' : SFits w64 c.after.result = search rules in (
      upto,
      c.set.ensures ∙ ap (slice_set c.loop-at.row at) (to_z-of_z w64 c.after.result fits')
          ∙ (λ i. slice_set (c.loop-at.invariant.1 i) at (value i)) ∙ next-replaced scanned row at lt,
    )
