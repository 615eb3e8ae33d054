use Rattle.std.proofs.Common.{◌≤◌, length, arith}
use Rattle.directive_check.specs.MappedSteps.{mapped}
use Rattle.directive_check.proofs.WideChains.{root_found}
use Rattle.directive_check.proofs.root_alignments.root_alignment.Goals as goal

pub returns : goal.returns
returns c =
    let few : length c.args.setting.now.names ≤ 1048576 = omega (arith, c.requires.few) in
    root_found c.args.setting.now (mapped c.args.objects.now) c.args.name.now c.in_ok-found.found c.in_ok-alignment.alignment
    few c.in_ok-found.ensures c.in_ok-alignment.ensures
