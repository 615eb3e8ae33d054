-- Linear forms by operators.
use Rattle.std.proofs.Common.{◌≡◌, ◌<◌, ◌≤◌, List, [], ◌∷◌, Vec, Global, length, get_or, map, refl, ap, sym, ◌∙◌, arith}
use Rattle.op_tables.specs.declared.op.Op.{Op}
use Rattle.op_tables.specs.declared.op.Op.TheVariants as op
use Rattle.resolved_program.specs.declared.terms.Term.{Term as HeldTerm}
use Rattle.resolved_program.specs.declared.terms.Term.TheVariants as held
use Rattle.resolved_program.specs.Resolved.{term, terms_of}
use Rattle.resolved_program.proofs.Rows.{apply_vec}
use Rattle.array_meaning.specs.Terms.{Apply}
use Rattle.array_meaning.specs.State.{State}
use Rattle.array_meaning.specs.Forall.{Linear, linear, linears, linear_by, index_free}
use Rattle.forall_conditions.specs.declared.linear_forms.LinearForm.{LinearForm}
use Rattle.forall_conditions.specs.Linears.{linear_of}

-- no operator of these has three operands
pub by_many : (o : Op) (xs : List Linear) (other : Linear) → 3 ≤ length xs → other ≡ linear_by o xs other
by_many o [] other h = absurd (omega arith)
by_many o (x ∷ []) other h = absurd (omega arith)
by_many o (x ∷ y ∷ []) other h = absurd (omega arith)
by_many op.Neg (x ∷ y ∷ z ∷ xs) other h = refl
by_many o (x ∷ y ∷ z ∷ xs) other h = refl

pub two_forms : (xs : List LinearForm) (d : LinearForm) → 2 ≤ length xs → length xs < 3 → get_or xs 0 d ∷ get_or xs 1 d ∷ [] ≡ xs
two_forms [] d h l = absurd (omega arith)
two_forms (x ∷ []) d h l = absurd (omega arith)
two_forms (x ∷ y ∷ []) d h l = refl
two_forms (x ∷ y ∷ z ∷ xs) d h l = absurd (omega arith)

-- an operator over its operands, by their forms
pub apply_linear : (t : HeldTerm) (o : Op) (v : Vec HeldTerm Global) (s : State) (xs ys : List LinearForm) (r : Linear) → t ≡ held.Apply o v →
    map linear_of xs ≡ linears s (terms_of v.items) → ys ≡ xs → ((other : Linear) → r ≡ linear_by o (map linear_of ys) other) → r ≡ linear s (term t)
apply_linear t o v s xs ys r is forms same by =
    let e : term t ≡ Apply o (terms_of v.items) = ap term is ∙ apply_vec o v in
    by (index_free s (term t))
    ∙ ap (λ zs. linear_by o (map linear_of zs) (index_free s (term t))) same
    ∙ ap (λ zs. linear_by o zs (index_free s (term t))) forms
    ∙ ap (λ u. linear_by o (linears s (terms_of v.items)) (index_free s u)) e
    ∙ sym (ap (linear s) e)

-- an operator over its operands, by their forms, where its own is the form without indices
pub apply_index_free : (t : HeldTerm) (o : Op) (v : Vec HeldTerm Global) (s : State) (xs ys : List LinearForm) → t ≡ held.Apply o v →
    map linear_of xs ≡ linears s (terms_of v.items) → ys ≡ xs → ((other : Linear) → other ≡ linear_by o (map linear_of ys) other) →
    index_free s (term t) ≡ linear s (term t)
apply_index_free t o v s xs ys is forms same by =
    let e : term t ≡ Apply o (terms_of v.items) = ap term is ∙ apply_vec o v in
    by (index_free s (term t))
    ∙ ap (λ zs. linear_by o (map linear_of zs) (index_free s (term t))) same
    ∙ ap (λ zs. linear_by o zs (index_free s (term t))) forms
    ∙ ap (λ u. linear_by o (linears s (terms_of v.items)) (index_free s u)) e
    ∙ sym (ap (linear s) e)
