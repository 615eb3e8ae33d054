use Rattle.std.proofs.Common.{subst, sym}
use Rattle.syntax_tree.specs.Lexeme.{lexemes}
use Rattle.line_forms.specs.Gives.{Gives}
use Rattle.directive_reader.specs.Reading.{alignment_spec}
use Rattle.directive_reader.specs.Views.{alignment_spec_of}
use Rattle.directive_reader.proofs.specifications.alignment_spec.Goals as goal

pub returns-then-many : goal.returns-then-many
returns-then-many c =
    subst
    (λ m.
    Gives (λ x. (alignment_spec_of x.0, lexemes x.1.now)) c.many_alignment_spec.result
    (alignment_spec c.args.depths m (lexemes c.args.tokens.now))) (sym c.if-many.true) c.many_alignment_spec.ensures

pub returns : goal.returns
returns c =
    subst
    (λ m.
    Gives (λ x. (alignment_spec_of x.0, lexemes x.1.now)) c.one_alignment_spec.result
    (alignment_spec c.args.depths m (lexemes c.args.tokens.now))) (sym c.if-many.false) c.one_alignment_spec.ensures
