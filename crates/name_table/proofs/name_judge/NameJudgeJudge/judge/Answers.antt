use Rattle.std.proofs.Common.{sym, ap, ◌∙◌}
use Rattle.std.specs.Prelude.{option_map}
use Rattle.name_table.proofs.Reasons.{name_or_limit, refused}
use Rattle.name_table.proofs.name_judge.NameJudgeJudge.judge.Goals as goal

pub returns-in-Some : goal.returns-in-Some
returns-in-Some c =
    ap (option_map (refused c.args.line)) (sym c.in-Some.is ∙ c.in_ok-reason.ensures) ∙ sym (name_or_limit c.args.line _ _)
