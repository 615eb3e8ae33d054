use Rattle.std.proofs.Common.{◌≡◌, [], ◌∷◌, IfOk, ap, ◌∙◌, subst}
use Rattle.program_code.specs.ExpressionCode.{index_subs}
use Rattle.nest_syntax.specs.NestTerms.{all_indexed}
use Rattle.statement_trail.specs.NestParts.{index_in}
use Rattle.nest_syntax.specs.Asked.{guard_asked}
use Rattle.program_code.specs.NestInstructions.{whens_of}
use Rattle.node_code.specs.declared.nest.NestRole.TheVariants.{Assigns}
use Rattle.node_code.specs.Instructions.{ParNest}
use Rattle.node_code.specs.NestStatements.{ElementLeft}
use Rattle.node_code.specs.Texts.{instructions}
use Rattle.resolved_program.specs.Resolved.{terms_of}
use Rattle.node_codegen.specs.NestNames.{beside_by, over_by}
use Rattle.node_codegen.proofs.nest_statements.element_text.Goals as goal

pub returns : goal.returns
returns c =
    let w = c.args.w.now in
    let value = c.in_ok-value.ensures in
    let subscripts = c.in_ok-nest_subs.ensures ∙ ap (λ l. index_subs (all_indexed (index_in l 0) (terms_of c.args.subscripts.now))) (c.deref.ensures.value ∙ value.axes) in
    subst (λ l. IfOk c.only.result (λ v. instructions v.items ≡ l))
    (ap (λ i. i ∷ []) (c.in_ok-one.ensures
    ∙ (λ i. ParNest (record {
      line = c.args.line;
      over = over_by w;
      whens = whens_of w.stored (guard_asked c.args.guard);
      copies = value.copies i;
      names = value.names i;
      left = ElementLeft c.args.a (subscripts i);
      right = value.form i;
      role = Assigns;
      beside = beside_by w;
    }))))
    c.only.ensures
