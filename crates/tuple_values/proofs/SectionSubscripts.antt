-- The subscripts of a section's element, one after the other.
use Rattle.std.proofs.Common.{◌≡◌, List, [], ◌∷◌, ℤ, refl, ap, ◌∙◌}
use Rattle.array_meaning.specs.Sections.{subscripts_at}
use Rattle.node_code.specs.Forms.{Sub, SubAt, SubAlong}
use Rattle.code_meaning.specs.Forms.{selections_at}
use Rattle.array_meaning.specs.declared.sections.Selection.{Selection}
use Rattle.slot_values.specs.Sections.{selection_at}
use Rattle.term_values.proofs.SectionSubscripts.{two_is}
use Rattle.term_values.specs.SectionSubscripts.{positions_after, subscript_at}

module _ (slots axes : List ℤ) where
  next : (d : Sub) (ds : List Sub) (x : List ℤ)
      → subscript_at (selection_at slots axes d) x ∷ subscripts_at (selections_at slots axes ds) (positions_after (selection_at slots axes d) x)
      ≡ subscripts_at (selections_at slots axes (d ∷ ds)) x
  next (SubAt f) ds x = refl
  next (SubAlong v) ds [] = refl
  next (SubAlong v) ds (y ∷ x) = refl

  pub one_is : (d : Sub) (x : List ℤ) (i : ℤ) → i ≡ subscript_at (selection_at slots axes d) x → i ∷ [] ≡ subscripts_at (selections_at slots axes (d ∷ [])) x
  one_is d x i is = ap (λ i. i ∷ []) is ∙ next d [] x

  pub two_are : (d e : Sub) (x y : List ℤ) (i j : ℤ) → i ≡ subscript_at (selection_at slots axes d) x → y ≡ positions_after (selection_at slots axes d) x
      → j ≡ subscript_at (selection_at slots axes e) y → i ∷ j ∷ [] ≡ subscripts_at (selections_at slots axes (d ∷ e ∷ [])) x
  two_are d e x y i j is after js =
      ap (λ i. i ∷ j ∷ []) is ∙ ap (λ js. subscript_at (selection_at slots axes d) x ∷ js) (one_is e y j js)
      ∙ ap (λ y. subscript_at (selection_at slots axes d) x ∷ subscripts_at (selections_at slots axes (e ∷ [])) y) after ∙ next d (e ∷ []) x

-- two subscripts by the numbers of tuples
pub numbered_two : (d e : Selection) (x y : List ℤ) (i j : ℤ) → i ≡ subscript_at d x → y ≡ positions_after d x → j ≡ subscript_at e y
    → i ∷ j ∷ [] ≡ subscripts_at (d ∷ e ∷ []) x
numbered_two d e x y i j is after js = two_is d e x i j is (js ∙ ap (subscript_at e) after)
