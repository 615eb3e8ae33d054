use Rattle.std.proofs.Common.{map, sym, ap, ◌∙◌}
use Rattle.directive_check.specs.Chains.{target_of}
use Rattle.directive_check.specs.MappedSteps.{mapped}
use Rattle.directive_check.specs.WideAlignments.{if_known, wide_chain, wide_through}
use Rattle.directive_check.proofs.root_alignments.+chain.Goals as goal

pub next_of-returns : goal.next_of-returns
next_of-returns t c =
    let s = c.args.setting.now in
    let ms = mapped c.args.objects.now in
    let y = c.args.target.now in
    c.in_ok-found-in-Some.ensures
    ∙ ap (λ es. wide_chain c.args.steps s ms es y (target_of ms y))
    (c.in_ok-more-in-Some.ensures ∙ (λ i. map (wide_through (c.as_slice.ensures i)) (c.as_slice-in-Some.ensures i)))
    ∙ ap (λ o. if_known o (λ ws. wide_chain c.args.steps s ms (map (wide_through c.args.so_far) ws) y (target_of ms y)))
    (sym c.in-Some.is ∙ c.in_ok-own_entries.ensures)
