use Rattle.std.proofs.Common.{sym, subst, take, ◌+◌, ◌∙◌}
use Rattle.hpf_base.specs.FirstBreach.{IsFirstOrNone}
use Rattle.hpf_reader.specs.ProgramText.{FormBreaks, FormsBreak}
use Rattle.hpf_reader.proofs.LineBreaches.{added, first_more, if_none, none_both}
use Rattle.hpf_reader.proofs.forms.forms.Goals as goal

pub loop-line-preserved : goal.loop-line-preserved
loop-line-preserved c = (
  subst (λ o. IsFirstOrNone (FormsBreak (take (c.loop-line.line-index + 1) c.args.lines.now)) o) (sym c.earlier-first.ensures)
      (first_more FormBreaks c.args.lines.now c.loop-line.line-index c.line-item.result c.loop-line.first c.in_ok-add_form.field-0
      c.loop-line-test.true c.line-item.is c.loop-line.invariant.0 c.in_ok-add_form.ensures.first),
  λ e.
      let none = none_both c.loop-line.first c.in_ok-add_form.field-0 (sym c.earlier-first.ensures ∙ e) in
      added c.args.lines.now c.loop-line.line-index c.line-item.result c.loop-line.forms.items c.add_form.new.forms.items c.loop-line-test.true
      c.line-item.is (c.loop-line.invariant.1 none.0) (if_none c.in_ok-add_form.field-0 none.1 c.in_ok-add_form.ensures.added),
)
