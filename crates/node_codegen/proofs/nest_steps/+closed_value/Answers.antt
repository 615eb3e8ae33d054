use Rattle.std.proofs.Common.{◌≡◌, ◌+◌, ℤ, List, [], ◌∷◌, ◌++◌, IfOk, Option, Some, None, SFits, w64, append_assoc, drop, refl, rules, sym, ap, ◌∙◌, subst}
use Rattle.std.specs.Prelude.{option_map}
use Rattle.std.proofs.lemmas.Int.{to_z-of_z}
use Rattle.expression_rules.proofs.Lists.{drop_item}
use Rattle.nest_syntax.specs.ClosedTerms.{closed_value, closed_values, with_closed}
use Rattle.resolved_program.specs.Resolved.{terms_of}
use Rattle.resolved_program.proofs.Forms.{apply_is}
use Rattle.node_codegen.proofs.nest_steps.+closed_value.Goals as goal

-- one value more
values_next : (values new : List ℤ) (v : ℤ) (o : Option (List ℤ)) → new ≡ values ++ v ∷ [] → option_map (λ vs. new ++ vs) o ≡ option_map (λ vs. values ++ vs) (with_closed (Some v) o)
values_next values new v None more = refl
values_next values new v (Some vs) more = ap Some (ap (λ l. l ++ vs) more ∙ append_assoc values (v ∷ []) vs)

pub closed_value-returns-in-Apply : goal.closed_value-returns-in-Apply
closed_value-returns-in-Apply t c =
    subst (λ w. IfOk c.operation_value.result (λ v. v ≡ closed_value w)) (apply_is c.args.t.now _ c.in-Apply.operands c.deref.result.now c.in-Apply.is c.deref.ensures.value)
    c.operation_value.ensures

pub closed_values-loop-t-preserved : goal.closed_values-loop-t-preserved
closed_values-loop-t-preserved t c =
    let n = c.loop-t.t-index in
    let rest = closed_values (terms_of (drop (n + 1) c.args.terms.now)) in
    let fits : SFits w64 c.in-Some.v = search rules in
    values_next c.loop-t.values.items c.push.new.self.items c.in-Some.v rest (c.in_ok-push-in-Some.ensures.items ∙ ap (λ v. c.loop-t.values.items ++ v ∷ []) (to_z-of_z w64 c.in-Some.v fits))
    ∙ ap (λ o. option_map (λ vs. c.loop-t.values.items ++ vs) (with_closed o rest)) (sym c.in-Some.is ∙ c.in_ok-v.ensures)
    ∙ ap (λ l. option_map (λ vs. c.loop-t.values.items ++ vs) (closed_values (terms_of l))) (sym (drop_item c.args.terms.now n c.t-item.result c.loop-t-test.true c.t-item.is))
    ∙ c.loop-t.invariant
