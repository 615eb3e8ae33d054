use Rattle.std.proofs.Common.{◌≡◌, ◌+◌, sym, ap, ◌∙◌, arith}
use Rattle.syntax_tree.specs.declared.expr.Expr.TheBlock.{back-Ref-subs}
use Rattle.syntax_tree.specs.Expression.{expression, reference, Call, arguments_of, parts_of}
use Rattle.syntax_tree.specs.Spelling.{depth, list_depth}
use Rattle.expr_reader.proofs.Steps.{call_vec, reference_vec}
use Rattle.expr_reader.proofs.Operands.{has_depth}
use Rattle.expr_reader.proofs.depth.+depth.Goals as goal

pub fits-returns-then-levels-eq0 : goal.fits-returns-then-levels-eq0
fits-returns-then-levels-eq0 t c = (λ h. absurd cc, λ h. absurd (omega (arith, has_depth (expression c.args.tree.now), h)))

pub fits-returns-in-Some : goal.fits-returns-in-Some
fits-returns-in-Some t c =
    let d : depth (expression c.args.tree.now) ≡ 1 + list_depth (parts_of c.deref.result.now) =
    ap depth (ap expression c.in-Ref.is ∙ ap (λ s. reference c.in-Ref.reference.name (back-Ref-subs s)) c.in-Some.is ∙ reference_vec c.in-Ref.reference.name c.in-Some.parts)
    ∙ ap (λ l. 1 + list_depth (parts_of l)) (sym c.deref.ensures.value)
    in
    (λ h. omega (arith, d, c.parts_fit.ensures.0 h), λ h. c.parts_fit.ensures.1 (omega (arith, d, h)))

pub fits-returns-in-Call : goal.fits-returns-in-Call
fits-returns-in-Call t c =
    let d : depth (expression c.args.tree.now) ≡ 1 + list_depth (arguments_of c.deref-in-Call.result.now) =
    ap depth (ap expression c.in-Call.is ∙ ap (Call c.in-Call.field-0) (call_vec c.in-Call.arguments))
    ∙ ap (λ l. 1 + list_depth (arguments_of l)) (sym c.deref-in-Call.ensures.value)
    in
    (λ h. omega (arith, d, c.arguments_fit.ensures.0 h), λ h. c.arguments_fit.ensures.1 (omega (arith, d, h)))
