-- Each stage's answer is one of the text.
use Rattle.std.proofs.Common.{◌∙◌, ap, map, subst}
use Rattle.hpf_base.specs.Refusal.{NoBreach}
use Rattle.construct_rules.specs.ProgramLine.{lines_of}
use Rattle.hpf_reader.specs.ProgramText.{AreLinesOf, FormsBreak, TokensBreak, lexeme_line}
use Rattle.hpf_reader.proofs.Programs.{nest_free, nest_refused, refused_by_nest, tree_meant}
use Rattle.hpf_reader.proofs.program.read_in_form.Goals as goal

pub returns-in-Ok-nest-clause-meant : goal.returns-in-Ok-nest-clause-meant
returns-in-Ok-nest-clause-meant c =
    let split = c.deref.ensures.value ∙ c.in-Ok.ensures.lines in
    let scanned = c.deref-2.ensures.value ∙ c.in-Ok-scan.ensures.read ∙ ap (map lexeme_line) split in
    tree_meant c.args.form c.args.text.now c.in-Ok-nest.tree record {
      lines = lines_of c.in-Ok-forms.forms.items;
      read = subst (λ ls. AreLinesOf ls (lines_of c.in-Ok-forms.forms.items)) scanned c.in-Ok-forms.ensures.read;
      spelled = c.in-Ok-nest.ensures.spelled;
      formed = c.in-Ok-nest.ensures.formed;
    }

pub returns-in-Ok-nest-clause-fine : goal.returns-in-Ok-nest-clause-fine
returns-in-Ok-nest-clause-fine c =
    let split = c.deref.ensures.value ∙ c.in-Ok.ensures.lines in
    let scanned = c.deref-2.ensures.value ∙ c.in-Ok-scan.ensures.read ∙ ap (map lexeme_line) split in
    let read = subst (λ ls. AreLinesOf ls (lines_of c.in-Ok-forms.forms.items)) scanned c.in-Ok-forms.ensures.read in
    record {
      lines = c.in-Ok.ensures.fine;
      tokens = subst (λ ls. NoBreach (TokensBreak ls)) split c.in-Ok-scan.ensures.fine;
      forms = subst (λ ls. NoBreach (FormsBreak ls)) scanned c.in-Ok-forms.ensures.fine;
      nest = nest_free c.args.form c.args.text.now c.in-Ok.found.line_count (lines_of c.in-Ok-forms.forms.items) c.in-Ok.ensures.count read c.in-Ok-nest.ensures.fine;
    }

pub returns-clause-refused : goal.returns-clause-refused
returns-clause-refused c =
    let split = c.deref.ensures.value ∙ c.in-Ok.ensures.lines in
    let scanned = c.deref-2.ensures.value ∙ c.in-Ok-scan.ensures.read ∙ ap (map lexeme_line) split in
    let read = subst (λ ls. AreLinesOf ls (lines_of c.in-Ok-forms.forms.items)) scanned c.in-Ok-forms.ensures.read in
    refused_by_nest c.args.form c.args.text.now c.in-Err-nest.error c.in-Ok.ensures.fine
    (subst (λ ls. NoBreach (TokensBreak ls)) split c.in-Ok-scan.ensures.fine)
    (subst (λ ls. NoBreach (FormsBreak ls)) scanned c.in-Ok-forms.ensures.fine)
    (nest_refused c.args.form c.args.text.now c.in-Ok.found.line_count (lines_of c.in-Ok-forms.forms.items) c.in-Ok.ensures.count read c.in-Err-nest.error c.in-Err-nest.ensures.refused)
