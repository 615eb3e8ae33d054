use Rattle.std.proofs.Common.{◌++◌, ap, sym, ◌∙◌, length, drop}
use Rattle.std.proofs.lemmas.List.{length-take-le}
use Rattle.fixed_lines.specs.FreeText.{closed_directive, closed_up}
use Rattle.fixed_lines.proofs.ClosedLines.{first_closed}
use Rattle.fixed_lines.proofs.closed_up.first_directive.Goals as goal

pub returns-clause-closed : goal.returns-clause-closed
returns-clause-closed c =
    let lines = c.args.lines.now in
    let n = c.directive_len.result in
    let within = c.directive_len.ensures.within in
    let front = c.split_at.ensures.front in
    let long = ap length front ∙ length-take-le n lines within in
    first_closed lines n c.directive_len.ensures.len within ∙ (λ i. closed_directive (sym front i) ++ closed_up (drop (sym long i) lines))
