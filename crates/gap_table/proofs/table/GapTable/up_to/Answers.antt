use Rattle.std.proofs.Common.{◌≡◌, ◌∙◌, sym, subst, ap, arith, nat_lt, true, false, ◌+◌, ◌*◌, ◌/◌, ◌%◌, ◌≤◌, min, length, ◌-◌}
use Rattle.std.specs.List.Sorted.{IsPartitionPoint}
use Rattle.gap_table.specs.GapTable.{IsCountUpTo, GapView}
use Rattle.gap_table.proofs.UpTo.{up_to_laws}
use Rattle.gap_table.proofs.table.GapTable.up_to.Goals as goal

pub returns : goal.returns
returns c =
    let t : GapView = record { base = c.self.inside.base; period = c.self.inside.period; offsets = c.self.inside.offsets.items; len = c.self.inside.len } in
    let long : c.len-in_period.result ≡ length c.self.inside.offsets.items = c.len-in_period.ensures ∙ sym c.deref.ensures.len ∙ ap length c.deref.ensures.value in
    let laws : IsCountUpTo t c.args.j c.min.result = up_to_laws t c.self.invariant c.args.j c.count_below-in_last.result c.min.result (omega arith)
    (subst (λ l. c.count_below-in_last.result ≤ length l) c.deref.ensures.value c.count_below-in_last.ensures.within)
    (subst (λ l. IsPartitionPoint (λ x. nat_lt x ((c.args.j - t.base) % t.period + 1) ≡ true)
    (λ x. nat_lt x ((c.args.j - t.base) % t.period + 1) ≡ false) l c.count_below-in_last.result) c.deref.ensures.value c.count_below-in_last.ensures.point)
    (c.min.ensures ∙ ap (λ n. min ((c.args.j - t.base) / t.period * n + c.count_below-in_last.result) t.len) long) in
    subst (λ v. IsCountUpTo v c.args.j c.min.result) c.self.view_is laws
