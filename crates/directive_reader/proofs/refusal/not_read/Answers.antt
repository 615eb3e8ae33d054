use Rattle.std.proofs.Common.{subst, sym}
use Rattle.hpf_base.specs.Refusal.{IsRefusalBy}
use Rattle.syntax_tree.specs.Lexeme.{lexemes}
use Rattle.line_forms.specs.declared.depths.Depths.TheVariants.{Limited}
use Rattle.directive_reader.specs.Reading.{directive}
use Rattle.directive_reader.specs.Breach.{IsBreachAt}
use Rattle.directive_reader.proofs.Verdicts.{bad_form, needs_form}
use Rattle.directive_reader.proofs.refusal.not_read.Goals as goal

pub returns-in-Malformed : goal.returns-in-Malformed
returns-in-Malformed c =
    subst (IsRefusalBy (IsBreachAt c.args.line (lexemes c.args.tokens.now))) (sym c.at.ensures)
    (bad_form c.args.line (lexemes c.args.tokens.now) c.requires.known (needs_form c.args.why (directive Limited (lexemes c.args.tokens.now)) c.in-Malformed.is c.requires.why))
