use Rattle.std.proofs.Common.{◌≡◌, ℕ, ℤ, ◌+◌, ◌<◌, length, get_or, take, slice_set, pos, w64, SFits, sym, ◌∙◌, ap, rules}
use Rattle.std.proofs.lemmas.Int.{to_z-of_z}
use Rattle.std.proofs.lemmas.List.Sums.{fold_more}
use Rattle.std.specs.List.{fold}
use Rattle.op_tables.specs.Joins.{join, unit}
use Rattle.scan_steps.proofs.InPlace.{next-replaced, next-value}
use Rattle.whole_machine.proofs.scans.scan_values.Goals as goal

pub loop-at-preserved : goal.loop-at-preserved
loop-at-preserved c =
    let f = join c.args.op in
    let u = unit c.args.op in
    let row = c.args.row.now in
    let at = c.loop-at.at in
    let scanned : ℕ → ℤ = λ k. fold f u (take (k + 1) row) in
    let lt : at < length row = search rules in
    let got : c.get.result ≡ get_or row at (pos 0) = c.get.ensures ∙ ap (λ xs. get_or xs at (pos 0)) c.loop-at.invariant.1 ∙ next-value scanned row at lt in
    let fits : SFits w64 c.get.result = search rules in
    let upto : c.add.new.self.value ≡ scanned at =
    c.add.ensures ∙ ap (λ v. f c.loop-at.so_far.value v) (to_z-of_z w64 c.get.result fits)
    ∙ (λ i. f (c.loop-at.invariant.0 i) (got i)) ∙ sym (fold_more f u row at (pos 0) lt) in
    let value : c.joined.result ≡ scanned at = c.joined.ensures ∙ upto in
    let fits' : SFits w64 c.joined.result = search rules in (
      upto,
      c.set.ensures ∙ ap (slice_set c.loop-at.row at) (to_z-of_z w64 c.joined.result fits')
          ∙ (λ i. slice_set (c.loop-at.invariant.1 i) at (value i)) ∙ next-replaced scanned row at lt,
    )
