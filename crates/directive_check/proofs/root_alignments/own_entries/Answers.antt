use Rattle.std.proofs.Common.{bytes_eq, None, Some, sym, ap, ◌∙◌}
use Rattle.directive_check.specs.Chains.{entries_in}
use Rattle.directive_check.specs.ChainSteps.{IsJudged}
use Rattle.directive_check.proofs.ListTurns.{found_item}
use Rattle.directive_check.proofs.MappedTurns.{how_found}
use Rattle.directive_check.proofs.root_alignments.own_entries.Goals as goal

pub entries_in-requires : goal.entries_in-requires
entries_in-requires c = record {
  noted = found_item (IsJudged c.args.setting.now) (λ m. bytes_eq c.args.name.now m.name.now) c.args.objects.now c.in-Some.object.now c.requires.judged c.in-Some.ensures;
}

pub returns-in-None : goal.returns-in-None
returns-in-None c = ap (entries_in c.args.setting.now c.args.name.now) (sym (how_found c.args.objects.now c.args.name.now None c.in-None.ensures))

pub returns-in_ok-found-in-Some : goal.returns-in_ok-found-in-Some
returns-in_ok-found-in-Some c =
    c.in_ok-found-in-Some.ensures
    ∙ ap (entries_in c.args.setting.now c.args.name.now) (sym (how_found c.args.objects.now c.args.name.now (Some c.in-Some.object.now) c.in-Some.ensures))
