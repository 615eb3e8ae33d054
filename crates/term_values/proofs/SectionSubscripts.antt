-- The subscripts of sections with one and two dimensions.
use Rattle.std.proofs.Common.{◌≡◌, List, [], ◌∷◌, ℤ, refl, ap, ◌∙◌}
use Rattle.array_meaning.specs.declared.sections.Selection.{Selection}
use Rattle.array_meaning.specs.declared.sections.Selection.TheVariants.{At, Along}
use Rattle.array_meaning.specs.Sections.{subscripts_at}
use Rattle.term_values.specs.SectionSubscripts.{positions_after, subscript_at}

step : (d : Selection) (ds : List Selection) (tuple : List ℤ) → subscript_at d tuple ∷ subscripts_at ds (positions_after d tuple) ≡ subscripts_at (d ∷ ds) tuple
step (At i) ds tuple = refl
step (Along p) ds [] = refl
step (Along p) ds (x ∷ tuple) = refl

pub one_is : (d : Selection) (tuple : List ℤ) (i : ℤ) → i ≡ subscript_at d tuple → i ∷ [] ≡ subscripts_at (d ∷ []) tuple
one_is d tuple i is = ap (λ i. i ∷ []) is ∙ step d [] tuple

pub two_is : (d e : Selection) (tuple : List ℤ) (i j : ℤ) → i ≡ subscript_at d tuple → j ≡ subscript_at e (positions_after d tuple) →
    i ∷ j ∷ [] ≡ subscripts_at (d ∷ e ∷ []) tuple
two_is d e tuple i j is js =
    (λ k. is k ∷ js k ∷ [])
    ∙ ap (λ xs. subscript_at d tuple ∷ xs) (step e [] (positions_after d tuple))
    ∙ step d (e ∷ []) tuple
