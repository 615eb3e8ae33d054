use Rattle.std.proofs.Common.{◌≤◌, length, ap, ◌∙◌, rules, arith}
use Rattle.distribution_rules.specs.Setting.{dims_of}
use Rattle.directive_check.specs.MappedSteps.{mapped}
use Rattle.directive_check.proofs.WideChains.{chain_found}
use Rattle.directive_check.proofs.chain_rules.chain_reason.Goals as goal

pub returns : goal.returns
returns c =
    let few : length c.args.setting.now.names ≤ 1048576 = omega (arith, c.requires.few) in
    chain_found c.args.setting.now (mapped c.args.objects.now) c.args.name.now c.in_ok-found.found c.in_ok-alignment.alignment c.dims_of-bounds.result.now
    c.is_on_cycle-cycle.result _ c.is_outside-outside.result c.least_of.result
    few c.in_ok-found.ensures c.in_ok-alignment.ensures
    (c.dims_of-bounds.ensures ∙ ap (dims_of c.args.setting.now) c.root_of-root.ensures) c.all_fit.ensures
    c.is_on_cycle-cycle.ensures (search rules) c.is_outside-outside.ensures c.least_of.ensures
