-- The form of an expression, from those of its operands.
use Rattle.std.proofs.Common.{◌≡◌, ◌⊎◌, inl, inr, Bool, true, false, List, [], ◌∷◌, Option, Some, None, bytes_eq, refl, sym, ap, ◌∙◌}
use Rattle.std.specs.Prelude.{◌&&◌, if◌then◌else◌}
use Rattle.std.specs.List.{list_all}
use Rattle.std.proofs.lemmas.List.{append-nil}
use Rattle.std.proofs.lemmas.Slice.Eq.{bytes_eq-Decides}
use Rattle.op_tables.specs.declared.op.Op.{Op}
use Rattle.op_tables.specs.declared.op.Op.TheVariants as op
use Rattle.expression_rules.specs.Symbols.{Name}
use Rattle.expression_rules.proofs.Folds.{all_append}
use Rattle.body_forms.specs.declared.linear_forms.Linearity.{Linearity}
use Rattle.body_forms.specs.declared.linear_forms.Linearity.TheVariants.{Nonlinear, Constant, LinearIn}
use Rattle.body_forms.specs.Forms.{form_of, is_constant_form, is_linear_form, operation, product, sum}
use Rattle.body_forms.specs.Subscripts.{both, in_operation, in_product, is_at_most_one, is_empty}

-- at most one index is what such a form is
pub one_index : (xs : Option (List Name)) → is_at_most_one xs ≡ is_linear_form (form_of xs)
one_index None = refl
one_index (Some []) = refl
one_index (Some (x ∷ xs)) = by (list_all (bytes_eq x) xs)
  where
    by : (t : Bool) → t ≡ is_linear_form (if t then LinearIn x else Nonlinear)
    by true = refl
    by false = refl

-- one test more, for a name that is the same or another
same_test : (x y : Name) (xs ys : List Name) (p q r : Bool) → list_all (bytes_eq x) xs ≡ p → list_all (bytes_eq y) ys ≡ q → bytes_eq x y ≡ r →
    (if p && (r && list_all (bytes_eq x) ys) then LinearIn x else Nonlinear) ≡ sum (if p then LinearIn x else Nonlinear) (if q then LinearIn y else Nonlinear)
same_test x y xs ys false q r hp hq hr = refl
same_test x y xs ys true false false hp hq hr = refl
same_test x y xs ys true true false hp hq hr = sym (ap (λ t. if t then LinearIn x else Nonlinear) hr)
same_test x y xs ys true q true hp hq hr =
    ap (λ t. if t then LinearIn x else Nonlinear) (ap (λ z. list_all (bytes_eq z) ys) ((bytes_eq-Decides x y).0 hr) ∙ hq)
    ∙ by q
  where
    by : (q : Bool) → (if q then LinearIn x else Nonlinear) ≡ sum (LinearIn x) (if q then LinearIn y else Nonlinear)
    by true = sym (ap (λ t. if t then LinearIn x else Nonlinear) hr)
    by false = refl

no_sum : (x : Name) (p : Bool) → Nonlinear ≡ sum (if p then LinearIn x else Nonlinear) Nonlinear
no_sum x true = refl
no_sum x false = refl

sum_constant : (x : Name) (p : Bool) → (if p then LinearIn x else Nonlinear) ≡ sum (if p then LinearIn x else Nonlinear) Constant
sum_constant x true = refl
sum_constant x false = refl

form_both : (xs ys : Option (List Name)) → form_of (both xs ys) ≡ sum (form_of xs) (form_of ys)
form_both None ys = refl
form_both (Some []) None = refl
form_both (Some (x ∷ xs)) None = no_sum x (list_all (bytes_eq x) xs)
form_both (Some []) (Some ys) = refl
form_both (Some (x ∷ xs)) (Some []) =
    ap (λ l. form_of (Some (x ∷ l))) (append-nil xs) ∙ sum_constant x (list_all (bytes_eq x) xs)
form_both (Some (x ∷ xs)) (Some (y ∷ ys)) =
    ap (λ t. if t then LinearIn x else Nonlinear) (all_append (bytes_eq x) xs (y ∷ ys))
    ∙ same_test x y xs ys (list_all (bytes_eq x) xs) (list_all (bytes_eq y) ys) (bytes_eq x y) refl refl refl

no_product : (x y : Name) (p q : Bool) → Nonlinear ≡ product (if p then LinearIn x else Nonlinear) (if q then LinearIn y else Nonlinear)
no_product x y true true = refl
no_product x y true false = refl
no_product x y false q = refl

product_left : (x : Name) (p : Bool) (b : Linearity) → (b ≡ Constant) ⊎ (b ≡ Nonlinear) → sum (if p then LinearIn x else Nonlinear) b ≡ product (if p then LinearIn x else Nonlinear) b
product_left x true b (inl e) = (λ i. sum (LinearIn x) (e i)) ∙ sym (λ i. product (LinearIn x) (e i))
product_left x true b (inr e) = (λ i. sum (LinearIn x) (e i)) ∙ sym (λ i. product (LinearIn x) (e i))
product_left x false b e = refl

form_product : (xs ys : Option (List Name)) → form_of (in_product xs ys) ≡ product (form_of xs) (form_of ys)
form_product None ys = refl
form_product (Some []) None = refl
form_product (Some []) (Some ys) = refl
form_product (Some (x ∷ xs)) None = no_sum x (list_all (bytes_eq x) xs) ∙ product_left x (list_all (bytes_eq x) xs) Nonlinear (inr refl)
form_product (Some (x ∷ xs)) (Some []) =
    form_both (Some (x ∷ xs)) (Some []) ∙ product_left x (list_all (bytes_eq x) xs) Constant (inl refl)
form_product (Some (x ∷ xs)) (Some (y ∷ ys)) = no_product x y (list_all (bytes_eq x) xs) (list_all (bytes_eq y) ys)

pub form_operation : (o : Op) (xs ys : Option (List Name)) → form_of (in_operation o xs ys) ≡ operation o (form_of xs) (form_of ys)
form_operation op.Add xs ys = form_both xs ys
form_operation op.Sub xs ys = form_both xs ys
form_operation op.Mul xs ys = form_product xs ys
form_operation o xs ys = refl

-- no index is what a constant form is
pub no_index : (xs : Option (List Name)) → is_empty xs ≡ is_constant_form (form_of xs)
no_index None = refl
no_index (Some []) = refl
no_index (Some (x ∷ xs)) = by (list_all (bytes_eq x) xs)
  where
    by : (t : Bool) → false ≡ is_constant_form (if t then LinearIn x else Nonlinear)
    by true = refl
    by false = refl
