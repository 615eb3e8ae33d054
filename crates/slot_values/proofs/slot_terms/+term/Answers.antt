use Rattle.std.proofs.Common.{◌∙◌, ◌+◌, ap, sym, drop}
use Rattle.std.proofs.lemmas.List.{drop_all}
use Rattle.expression_rules.proofs.Lists.{drop_item}
use Rattle.array_meaning.specs.Terms.{More}
use Rattle.code_meaning.specs.ForallLimits.{terms_of}
use Rattle.node_code.specs.Texts.{flats_of}
use Rattle.resolved_program.specs.Made.{before}
use Rattle.resolved_program.specs.Resolved.{term}
use Rattle.slot_values.proofs.Operands.{all_terms, apply_is, before_next}
use Rattle.slot_values.proofs.slot_terms.+term.Goals as goal

pub terms-loop-f-preserved : goal.terms-loop-f-preserved
terms-loop-f-preserved t c =
    c.loop-f.invariant
    ∙ ap (λ fs. before (λ t. More (term t)) c.loop-f.ts.items (terms_of (flats_of fs))) (drop_item _ c.loop-f.f-index _ c.loop-f-test.true c.f-item.is)
    ∙ ap (λ t. before (λ t. More (term t)) c.loop-f.ts.items (More t (terms_of (flats_of (drop (c.loop-f.f-index + 1) c.deref-f-items.result.now))))) (sym c.in_ok-t.ensures)
    ∙ before_next (λ t. More (term t)) c.loop-f.ts.items c.in_ok-t.t _
    ∙ ap (λ ts. before (λ t. More (term t)) ts (terms_of (flats_of (drop (c.loop-f.f-index + 1) c.deref-f-items.result.now)))) (sym c.in_ok-push.ensures.items)

pub terms-returns : goal.terms-returns
terms-returns t c =
    sym (ap (λ fs. terms_of (flats_of fs)) (sym c.deref-f-items.ensures.value)
    ∙ c.loop-f.invariant
    ∙ ap (λ fs. before (λ t. More (term t)) c.loop-f.ts.items (terms_of (flats_of fs))) (drop_all _ _ c.loop-f-test.false)
    ∙ all_terms c.loop-f.ts.items)

pub term-returns-in_ok-ts-in-Operated : goal.term-returns-in_ok-ts-in-Operated
term-returns-in_ok-ts-in-Operated t c = apply_is c.args.f.now c.in-Operated.op c.in-Operated.operands c.in_ok-ts-in-Operated.ts c.in-Operated.is c.in_ok-ts-in-Operated.ensures
