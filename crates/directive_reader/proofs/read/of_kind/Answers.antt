use Rattle.std.proofs.Common.{subst, sym}
use Rattle.syntax_tree.specs.Lexeme.{lexemes}
use Rattle.line_forms.specs.Gives.{Gives}
use Rattle.directive_reader.specs.Reading.{known}
use Rattle.directive_reader.specs.Views.{form_of}
use Rattle.directive_reader.proofs.read.of_kind.Goals as goal

pub returns-in-Processors : goal.returns-in-Processors
returns-in-Processors c =
    subst (λ k. Gives (λ x. (form_of x.0, lexemes x.1.now)) c.processors.result (known c.args.depths k (lexemes c.args.tokens.now))) (sym c.in-Processors.is) c.processors.ensures

pub returns-in-Template : goal.returns-in-Template
returns-in-Template c =
    subst (λ k. Gives (λ x. (form_of x.0, lexemes x.1.now)) c.template.result (known c.args.depths k (lexemes c.args.tokens.now))) (sym c.in-Template.is) c.template.ensures

pub returns-in-Dynamic : goal.returns-in-Dynamic
returns-in-Dynamic c =
    subst (λ k. Gives (λ x. (form_of x.0, lexemes x.1.now)) c.dynamic.result (known c.args.depths k (lexemes c.args.tokens.now))) (sym c.in-Dynamic.is) c.dynamic.ensures

pub returns-in-Distribute : goal.returns-in-Distribute
returns-in-Distribute c =
    subst (λ k. Gives (λ x. (form_of x.0, lexemes x.1.now)) c.distribute.result (known c.args.depths k (lexemes c.args.tokens.now))) (sym c.in-Distribute.is) c.distribute.ensures

pub returns-in-Redistribute : goal.returns-in-Redistribute
returns-in-Redistribute c =
    subst (λ k. Gives (λ x. (form_of x.0, lexemes x.1.now)) c.redistribute.result (known c.args.depths k (lexemes c.args.tokens.now)))
    (sym c.in-Redistribute.is) c.redistribute.ensures

pub returns-in-Align : goal.returns-in-Align
returns-in-Align c =
    subst (λ k. Gives (λ x. (form_of x.0, lexemes x.1.now)) c.align.result (known c.args.depths k (lexemes c.args.tokens.now))) (sym c.in-Align.is) c.align.ensures

pub returns-in-Independent : goal.returns-in-Independent
returns-in-Independent c =
    subst (λ k. Gives (λ x. (form_of x.0, lexemes x.1.now)) c.independent.result (known c.args.depths k (lexemes c.args.tokens.now)))
    (sym c.in-Independent.is) c.independent.ensures
