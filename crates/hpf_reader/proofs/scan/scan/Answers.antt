use Rattle.std.proofs.Common.{sym, subst, take, ◌+◌, ◌∙◌}
use Rattle.token_scan.specs.Tokens.{IsTokenBreach}
use Rattle.hpf_base.specs.FirstBreach.{IsFirstOrNone}
use Rattle.hpf_reader.specs.ProgramText.{TokensBreak}
use Rattle.hpf_reader.proofs.LineBreaches.{first_more, if_none, none_both, scanned}
use Rattle.hpf_reader.proofs.scan.scan.Goals as goal

pub loop-line-preserved : goal.loop-line-preserved
loop-line-preserved c = (
  subst (λ o. IsFirstOrNone (TokensBreak (take (c.loop-line.line-index + 1) c.args.lines.now)) o) (sym c.earlier-first.ensures)
      (first_more IsTokenBreach c.args.lines.now c.loop-line.line-index c.line-item.result c.loop-line.first c.in_ok-add_tokens.field-0
      c.loop-line-test.true c.line-item.is c.loop-line.invariant.0 c.in_ok-add_tokens.ensures.first),
  λ e.
      let none = none_both c.loop-line.first c.in_ok-add_tokens.field-0 (sym c.earlier-first.ensures ∙ e) in
      scanned c.args.lines.now c.loop-line.line-index c.line-item.result c.loop-line.scanned.items c.add_tokens.new.scanned.items
      c.loop-line-test.true c.line-item.is (c.loop-line.invariant.1 none.0)
      (if_none c.in_ok-add_tokens.field-0 none.1 c.in_ok-add_tokens.ensures.added),
)
