use Rattle.std.proofs.Common.{◌≡◌, drop}
use Rattle.hpf_base.specs.FirstBreach.{earlier, least}
use Rattle.directive_check.specs.ChainSteps.{chain_breaches_in}
use Rattle.directive_check.specs.MappedSteps.{mapped}
use Rattle.directive_check.proofs.chain_rules.first_bad_chain.Given as goal

abbrev pub invariant-loop-object : goal.invariant-loop-object
invariant-loop-object l =
    earlier l.first (least (chain_breaches_in l.setting (mapped l.firsts) (mapped (drop l.object-index l.objects))))
    ≡ least (chain_breaches_in l.setting (mapped l.firsts) (mapped l.objects))
