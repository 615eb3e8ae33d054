-- Subscripts that go round a dimension, part by part.
use Rattle.std.proofs.Common.{◌≡◌, ℕ, true, ◌&&◌, if◌then◌else◌, List, ◌∷◌, ℤ, Some, None, option_and_then, sym, ◌∙◌, ap}
use Rattle.std.proofs.lemmas.Bool.Decides.{Decides-int_eq}
use Rattle.std.specs.Ordering.{int_eq}
use Rattle.op_tables.specs.declared.op.Op.TheVariants as op
use Rattle.expression_rules.specs.declared.dims.Dim.{Dim}
use Rattle.node_code.specs.Flat.{Flat, Int}
use Rattle.node_code.specs.Forms.{Sub, SubAt, SectionForm}
use Rattle.code_meaning.specs.Parallel.{shape_of}
use Rattle.courses.specs.Courses.{Course}
use Rattle.courses.specs.References.{indexed_courses}
use Rattle.courses.specs.StraightForms.{Straight, straight}
use Rattle.courses.specs.TurnedForms.{Turned, is_same_form, operation, turned_by, turned_in}
use Rattle.courses.specs.TurnedNames.{both_named, first_courses, is_of_first, turned_courses, turned_names}

pub turned_is : (slots : List ℤ) (f d t g u : Flat) (lower n m : ℤ) (x y : Straight) → f ≡ operation op.Add d (Int lower)
    → d ≡ operation op.Sub t (operation op.Mul (Int n) g) → g ≡ operation op.Ge u (Int m) → straight slots t ≡ Some x → straight slots u ≡ Some y
    → is_same_form x y ≡ true → n ≡ m → turned_in slots f ≡ Some (record { lower = lower; count = n; above = x })
turned_is slots f d t g u lower n m x y sum less test one other same number =
    let equal : int_eq n m ≡ true = (Decides-int_eq n m).1 number in
    ap (turned_in slots)
    (sum ∙ ap (λ d. operation op.Add d (Int lower)) (less ∙ ap (λ g. operation op.Sub t (operation op.Mul (Int n) g)) test))
    ∙ (λ i. turned_by lower n m (one i) (other i))
    ∙ (λ i. if same i && equal i then Some (record { lower = lower; count = n; above = x }) else None)

module _ (slots : List ℤ) (ns : List ℕ) (is : List Course) (ds : List Dim) (f : Flat) (p : Course × Course) where
  pub first_are : (x : Turned) → turned_in slots f ≡ Some x → is_of_first x ds ≡ true → turned_courses ns is x ≡ Some p → first_courses slots ns is ds f ≡ Some p
  first_are x form first both =
      (λ i. option_and_then (λ x. if is_of_first x ds then turned_courses ns is x else None) (form i))
      ∙ ap (λ b. if b then turned_courses ns is x else None) first ∙ both

  pub first_named : first_courses slots ns is ds f ≡ Some p → (shapes : List (List Dim)) (a : ℕ) (ss : List Sub) → ds ≡ shape_of shapes a
      → turned_names shapes slots ns is (SectionForm a (SubAt f ∷ ss)) ≡ both_named shapes a (Some p) (indexed_courses slots ns is ss)
  first_named e shapes a ss same =
      ap (λ o. both_named shapes a o (indexed_courses slots ns is ss)) (ap (λ ds. first_courses slots ns is ds f) (sym same) ∙ e)
