use Rattle.std.proofs.Common.{Some, ap, ◌∙◌, subst, sym}
use Rattle.hpf_base.specs.Refusal.{IsRefusalBy}
use Rattle.syntax_tree.specs.Lexeme.{lexemes}
use Rattle.line_forms.specs.declared.depths.Depths.TheVariants.{Limited}
use Rattle.directive_reader.specs.Reading.{directive}
use Rattle.directive_reader.specs.Breach.{IsBreachAt}
use Rattle.directive_reader.proofs.Verdicts.{lacks_depth, lacks_form, left_out_deep, left_out_found, left_out_stopped}
use Rattle.directive_reader.proofs.refusal.left_out.Goals as goal

pub returns-in-None : goal.returns-in-None
returns-in-None c =
    subst (IsRefusalBy (IsBreachAt c.args.line (lexemes c.args.tokens.now))) (sym c.at.ensures)
    (left_out_found c.args.line (lexemes c.args.tokens.now) c.in-None.ensures.0 c.requires c.in-None.ensures.1)

pub returns-in-Some-Malformed : goal.returns-in-Some-Malformed
returns-in-Some-Malformed c =
    subst (IsRefusalBy (IsBreachAt c.args.line (lexemes c.args.tokens.now))) (sym c.at-in-Some-Malformed.ensures)
    (left_out_stopped c.args.line (lexemes c.args.tokens.now) c.requires
    (lacks_form c.why_not_read.result (directive Limited (lexemes c.args.tokens.now))
    (c.in-Some-Malformed.is ∙ ap Some c.in-Some-Malformed.field-0-is) c.why_not_read.ensures))

pub returns-in-Some-TooDeep : goal.returns-in-Some-TooDeep
returns-in-Some-TooDeep c =
    subst (IsRefusalBy (IsBreachAt c.args.line (lexemes c.args.tokens.now))) (sym c.at-in-Some-TooDeep.ensures)
    (left_out_deep c.args.line (lexemes c.args.tokens.now) c.requires
    (lacks_depth c.why_not_read.result (directive Limited (lexemes c.args.tokens.now)) (c.in-Some-TooDeep.is ∙ ap Some c.in-Some-TooDeep.field-0-is)
    c.why_not_read.ensures))
