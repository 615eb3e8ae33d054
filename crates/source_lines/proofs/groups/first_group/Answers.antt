use Rattle.std.proofs.Common.{◌∙◌, ap, min, length}
use Rattle.source_lines.proofs.GroupLaws.{group-first}
use Rattle.source_lines.proofs.groups.first_group.Goals as goal

pub returns-clause-group : goal.returns-clause-group
returns-clause-group c =
    let others = c.in_ok-line.others.now in
    group-first c.args.lines.now c.in_ok-line.line.now others c.split_at.result.0.now c.min.result c.in_ok-line.ensures.cases.0
    (c.min.ensures ∙ ap (λ n. min n (length others)) c.continued_lines.ensures) c.split_at.ensures.front
