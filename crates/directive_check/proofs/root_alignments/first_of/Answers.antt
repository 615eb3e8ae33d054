use Rattle.std.proofs.Common.{map, sym, ap, ◌∙◌}
use Rattle.distribution_rules.specs.Setting.{dims_of}
use Rattle.directive_check.specs.Chains.{target_of}
use Rattle.directive_check.specs.MappedSteps.{mapped}
use Rattle.directive_check.specs.WideAlignments.{if_known, wide_chain, widened}
use Rattle.directive_check.proofs.root_alignments.first_of.Goals as goal

pub returns-in_ok-found-in-Some : goal.returns-in_ok-found-in-Some
returns-in_ok-found-in-Some c =
    let s = c.args.setting.now in
    let ms = mapped c.args.objects.now in
    let y = c.args.target.now in
    c.in_ok-found-in-Some.ensures
    ∙ ap (λ es. wide_chain c.args.steps s ms es y (target_of ms y)) (c.in_ok-first-in-Some.ensures ∙ (λ i. map (widened (c.dims_of.ensures i)) (c.as_slice.ensures i)))
    ∙ ap (λ o. if_known o (λ es. wide_chain c.args.steps s ms (map (widened (dims_of s c.args.name.now)) es) y (target_of ms y)))
    (sym c.in-Some.is ∙ c.in_ok-own_entries.ensures)
