-- What is read of the tokens is said of the line.
use Rattle.std.proofs.Common.{ap, subst}
use Rattle.hpf_base.specs.Refusal.{IsRefusalBy, NoBreach}
use Rattle.syntax_tree.specs.Lexeme.{lexemes}
use Rattle.hpf_reader.specs.ProgramText.{FormBreaks}
use Rattle.hpf_reader.proofs.LineBreaches.{statement_wrong, directive_fine, directive_wrong}
use Rattle.hpf_reader.proofs.forms.form.Goals as goal

pub returns-in-Err-clause-refused : goal.returns-in-Err-clause-refused
returns-in-Err-clause-refused c =
    subst (λ l. IsRefusalBy (FormBreaks l) c.in-Err.error) c.line.view_is
    (statement_wrong _ (lexemes c.deref.result.now) c.in-Err.error (ap lexemes c.deref.ensures.value) c.in-Statement.is c.in-Err.ensures.refused)

pub returns-in-Ok-read_directive-clause-fine : goal.returns-in-Ok-read_directive-clause-fine
returns-in-Ok-read_directive-clause-fine c =
    subst (λ l. NoBreach (FormBreaks l)) c.line.view_is
    (directive_fine _ (lexemes c.deref-in-Directive.result.now) (ap lexemes c.deref-in-Directive.ensures.value) c.in-Directive.is c.in-Ok-read_directive.ensures.fine)

pub returns-in-Err-read_directive-clause-refused : goal.returns-in-Err-read_directive-clause-refused
returns-in-Err-read_directive-clause-refused c =
    subst (λ l. IsRefusalBy (FormBreaks l) c.in-Err-read_directive.error) c.line.view_is
    (directive_wrong _ (lexemes c.deref-in-Directive.result.now) c.in-Err-read_directive.error (ap lexemes c.deref-in-Directive.ensures.value)
    c.in-Directive.is c.in-Err-read_directive.ensures.refused)
