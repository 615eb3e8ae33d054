-- Operands of an operator: as an expression holds them, and as an elemental expression does.
use Rattle.std.proofs.Common.{◌≡◌, List, [], ◌∷◌, ◌++◌, ℤ, refl, ap, sym, ◌∙◌, Global}
use Rattle.std.specs.Prelude.{Vec}
use Rattle.op_tables.specs.declared.op.Op.{Op}
use Rattle.array_meaning.specs.Elementals.{NoOperand, Operand, Operation}
use Rattle.array_meaning.specs.Terms.{Apply, NoTerm, More}
use Rattle.node_code.specs.declared.flat.Flat.{Flat as HeldFlat}
use Rattle.node_code.specs.declared.flat.Flat.TheVariants as held
use Rattle.node_code.specs.declared.form.ArrayForm.{ArrayForm as HeldForm}
use Rattle.node_code.specs.declared.form.ArrayForm.TheVariants as held_form
use Rattle.code_meaning.specs.Flat.{flat_value}
use Rattle.code_meaning.specs.ForallLimits.{term_of, terms_of as terms_of_flats}
use Rattle.code_meaning.specs.Forms.{elemental_at, elementals_at}
use Rattle.node_code.specs.Texts.{flat, flats_of, form, forms_of}
use Rattle.node_code.proofs.Rows.{operated_vec, operation_vec}
use Rattle.resolved_program.specs.declared.terms.Term.{Term as HeldTerm}
use Rattle.resolved_program.specs.declared.terms.Term.TheVariants as held_term
use Rattle.resolved_program.specs.Made.{before}
use Rattle.resolved_program.specs.Resolved.{term, terms_of}
use Rattle.resolved_program.proofs.Rows.{apply_vec}
use Rattle.slot_values.specs.Operations.{operation_value}
use Rattle.term_values.specs.declared.array_values.Elemental.{Elemental as HeldElemental}
use Rattle.term_values.specs.Views.{elemental, elementals_of}

module _ (slots axes : List ℤ) where
  pub operation_value_is : (f : HeldFlat) (o : Op) (fs : Vec HeldFlat Global) → f ≡ held.Operated o fs → operation_value slots axes o (flats_of fs.items) ≡ flat_value slots axes [] (flat f)
  operation_value_is f o fs is = ap (flat_value slots axes []) (sym (operated_vec o fs) ∙ ap flat (sym is))

  pub operation_is : (x : HeldForm) (o : Op) (xs : Vec HeldForm Global) → x ≡ held_form.Operation o xs → Operation o (elementals_at slots axes (forms_of xs.items)) ≡ elemental_at slots axes (form x)
  operation_is x o xs is = ap (elemental_at slots axes) (sym (operation_vec o xs) ∙ ap form (sym is))

-- the term of an operator
pub apply_is : (f : HeldFlat) (o : Op) (fs : Vec HeldFlat Global) (ts : Vec HeldTerm Global) → f ≡ held.Operated o fs → terms_of ts.items ≡ terms_of_flats (flats_of fs.items) →
    term (held_term.Apply o ts) ≡ term_of (flat f)
apply_is f o fs ts is same = apply_vec o ts ∙ ap (Apply o) same ∙ ap term_of (sym (operated_vec o fs) ∙ ap flat (sym is))

-- one item more
pub before_next : {A B : Type 0} (add : A → B → B) (made : List A) (a : A) (rest : B) → before add made (add a rest) ≡ before add (made ++ a ∷ []) rest
before_next add [] a rest = refl
before_next add (x ∷ made) a rest = ap (add x) (before_next add made a rest)

-- no item more
pub all_operands : (xs : List HeldElemental) → before (λ x. Operand (elemental x)) xs NoOperand ≡ elementals_of xs
all_operands [] = refl
all_operands (x ∷ xs) = ap (Operand (elemental x)) (all_operands xs)

pub all_terms : (ts : List HeldTerm) → before (λ t. More (term t)) ts NoTerm ≡ terms_of ts
all_terms [] = refl
all_terms (t ∷ ts) = ap (More (term t)) (all_terms ts)
