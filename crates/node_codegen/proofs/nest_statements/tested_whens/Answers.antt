use Rattle.std.proofs.Common.{◌≡◌, ℕ, ◌+◌, ◌<◌, List, [], ◌∷◌, ◌++◌, drop, drop-cons, add-one, get_or, length, refl, sym, ap, ◌∙◌}
use Rattle.nest_syntax.specs.Asked.{Asked, guard_asked, none_asked}
use Rattle.program_code.specs.NestInstructions.{whens_of}
use Rattle.node_code.specs.Texts.{when}
use Rattle.node_codegen.proofs.NestBody.{push_after}
use Rattle.node_codegen.proofs.nest_statements.tested_whens.Goals as goal

whens_both : (stored : ℕ) (xs ys : List Asked) → whens_of stored xs ++ whens_of stored ys ≡ whens_of stored (xs ++ ys)
whens_both stored [] ys = refl
whens_both stored (x ∷ xs) ys = ap (λ l. whens_of stored (x ∷ []) ++ l) (whens_both stored xs ys)

-- one condition more
whens_next : (stored n : ℕ) (ks : List ℕ) (d : ℕ) → n < length ks →
    whens_of stored (none_asked (drop n ks)) ≡ whens_of stored (none_asked (get_or ks n d ∷ [])) ++ whens_of stored (none_asked (drop (n + 1) ks))
whens_next stored n ks d within =
    ap (λ l. whens_of stored (none_asked l)) (drop-cons ks n d within)
    ∙ ap (λ m. whens_of stored (none_asked (get_or ks n d ∷ [])) ++ whens_of stored (none_asked (drop m ks))) (sym (add-one n))

pub loop-k-init : goal.loop-k-init
loop-k-init c =
    ap (λ l. l ++ whens_of c.args.stored (none_asked c.args.earlier.now)) c.in_ok-whens.ensures ∙ whens_both c.args.stored (guard_asked c.args.guard) (none_asked c.args.earlier.now)

pub loop-k-preserved : goal.loop-k-preserved
loop-k-preserved c =
    push_after when c.loop-k.whens.items c.push.new.self.items c.in_ok-unmet.field-0 _ _ _ _ c.in_ok-push.ensures.items c.in_ok-unmet.ensures
    (whens_next c.args.stored c.loop-k.k-index c.args.earlier.now _ c.loop-k-test.true) c.loop-k.invariant
