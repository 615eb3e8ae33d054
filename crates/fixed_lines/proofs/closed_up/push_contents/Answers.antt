use Rattle.std.proofs.Common.{◌+◌, ◌++◌, ap, sym, ◌∙◌, arith, drop}
use Rattle.fixed_lines.specs.FreeText.{contents, with_codes}
use Rattle.fixed_lines.proofs.ClosedLines.{rest_at}
use Rattle.fixed_lines.proofs.closed_up.push_contents.Goals as goal

pub loop-line-preserved : goal.loop-line-preserved
loop-line-preserved c =
    let lines = c.args.lines.now in
    let i = c.loop-line.line-index in record {
      within = omega (arith, c.in_ok-place.ensures.next, c.loop-line.invariant.within);
      whole =
          c.in_ok-place.ensures.closed (drop (i + 1) lines)
          ∙ ap (λ l. c.loop-line.closed.items ++ with_codes (drop c.loop-line.place lines) (contents l)) (sym (rest_at lines i c.line-item.result c.loop-line-test.true c.line-item.is))
          ∙ c.loop-line.invariant.whole;
    }
