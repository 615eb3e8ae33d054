use Rattle.std.proofs.Common.{sym, ap, ◌∙◌}
use Rattle.hpf_base.specs.FirstBreach.{at_line}
use Rattle.statement_walk.specs.Views.{head_of}
use Rattle.declarations.proofs.LeastReasons.{least_at}
use Rattle.directive_check.specs.MappedSteps.{mapped}
use Rattle.directive_check.specs.MappingRules.{head_reasons}
use Rattle.directive_check.proofs.redistribute_judge.RedistributesJudge.judge.Goals as goal

pub returns : goal.returns
returns c =
    c.at_line.ensures ∙ ap (at_line c.args.line) c.in_ok-reason.ensures
    ∙ sym (least_at c.args.line (head_reasons c.args.self.now.setting.now (mapped c.args.self.now.objects.now) c.args.self.now.dynamic.now (head_of c.args.head)))
