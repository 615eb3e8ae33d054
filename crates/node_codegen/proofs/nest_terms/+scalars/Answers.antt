use Rattle.std.proofs.Common.{◌≡◌, List, ℕ, [], ◌∷◌, ◌++◌, OnOk, Bool, true, false, refl, sym, ap, ◌∙◌, subst}
use Rattle.std.specs.Prelude.{if◌then◌else◌}
use Rattle.expression_rules.proofs.Lists.{drop_item}
use Rattle.array_meaning.specs.Iterations.{is_in}
use Rattle.statement_trail.specs.NestParts.{all_scalars_in, of_these, scalars_in}
use Rattle.resolved_program.specs.Resolved.{term, terms_of}
use Rattle.resolved_program.proofs.Made.{joined_next}
use Rattle.resolved_program.proofs.Rows.{apply_vec, element_vec}
use Rattle.node_codegen.proofs.nest_terms.+scalars.Goals as goal

one_of_these : (b : Bool) (x : ℕ) (xs ys both : List ℕ) → xs ++ ys ≡ both → (if b then x ∷ xs else xs) ++ ys ≡ (if b then x ∷ both else both)
one_of_these true x xs ys both is = ap (λ l. x ∷ l) is
one_of_these false x xs ys both is = is

these_both : (ks xs ys : List ℕ) → of_these ks xs ++ of_these ks ys ≡ of_these ks (xs ++ ys)
these_both ks [] ys = refl
these_both ks (x ∷ xs) ys = one_of_these (is_in x ks) x (of_these ks xs) (of_these ks ys) (of_these ks (xs ++ ys)) (these_both ks xs ys)

pub add_scalars-returns-in-Element : goal.add_scalars-returns-in-Element
add_scalars-returns-in-Element t c =
    subst (λ ts. OnOk c.add_all_scalars.result (c.add_all_scalars.new.found.items ≡ c.args.found.now.items ++ of_these c.args.scalars.now (scalars_in ts)))
    (sym (ap term c.in-Element.is ∙ element_vec c.in-Element.field-0 c.in-Element.subscripts)) c.add_all_scalars.ensures

pub add_scalars-returns-in-Apply : goal.add_scalars-returns-in-Apply
add_scalars-returns-in-Apply t c =
    subst (λ ts. OnOk c.add_all_scalars-in-Apply.result (c.add_all_scalars-in-Apply.new.found.items ≡ c.args.found.now.items ++ of_these c.args.scalars.now (scalars_in ts)))
    (sym (ap term c.in-Apply.is ∙ apply_vec c.in-Apply.field-0 c.in-Apply.operands)) c.add_all_scalars-in-Apply.ensures

pub add_all_scalars-loop-t-preserved : goal.add_all_scalars-loop-t-preserved
add_all_scalars-loop-t-preserved t c =
    joined_next (λ ts. of_these c.args.scalars.now (all_scalars_in (terms_of ts))) c.deref-t-items.result.now c.loop-t.t-index c.t-item.result c.loop-t.found.items c.add_scalars.new.found.items _ _
    (drop_item _ c.loop-t.t-index _ c.loop-t-test.true c.t-item.is) c.in_ok-add_scalars.ensures
    (these_both c.args.scalars.now (scalars_in (term c.t-item.result)) _) c.loop-t.invariant
