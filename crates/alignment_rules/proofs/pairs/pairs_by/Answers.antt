use Rattle.std.proofs.Common.{drop, map, ap, subst, sym, ◌≤◌, ◌+◌, ◌∙◌, arith}
use Rattle.syntax_tree.specs.Directive.{source_of}
use Rattle.alignment_rules.specs.AlignmentValues.{first_dim}
use Rattle.std.specs.Prelude.{not, if◌then◌else◌}
use Rattle.alignment_rules.proofs.PairTurns.{at_most_next, pairs_next}
use Rattle.alignment_rules.proofs.pairs.pairs_by.Goals as goal

pub loop-value-preserved : goal.loop-value-preserved
loop-value-preserved c =
    let next = c.next_unless-done.ensures ∙ ap (λ b. if not b then c.loop-value.done else c.loop-value.done + 1) c.is_triplet.ensures in (
      omega (arith, c.loop-value.invariant.0),
      subst (λ n. n ≤ c.loop-value.value-index + 1) (sym c.next_unless-done.ensures)
          (at_most_next (not c.is_triplet.result) c.loop-value.done c.loop-value.value-index c.loop-value.invariant.1),
      pairs_next (map source_of c.args.sources.now) c.args.dims.now c.args.colons.now c.args.values.now c.args.bounds.now c.loop-value.value-index c.loop-value.done
          c.next_unless-done.result c.value-item.result c.loop-value.pairs.items c.push_pair.new.pairs.items _ c.after-left.result.now c.dim_from-dim.result
          c.loop-value-test.true c.value-item.is c.after-left.ensures (c.dim_from-dim.ensures ∙ ap (λ n. first_dim (drop n c.args.bounds.now)) c.loop-value.invariant.0)
          c.in_ok-push_pair.ensures next c.loop-value.invariant.2,
    )
