-- Dimensions by their places, and elements inside the bounds at the end of a chain.
use Rattle.std.proofs.Common.{◌≡◌, ℕ, zero, suc, ◌+◌, ◌<◌, Bool, true, List, [], ◌∷◌, drop, length, get_or, add-one, Option, None, refl, sym, ap, ◌∙◌}
use Rattle.std.specs.Prelude.{◌&&◌, slice_index_or}
use Rattle.expression_rules.specs.declared.dims.Dim.{Dim}
use Rattle.expression_rules.proofs.Folds.{and_assoc}
use Rattle.alignment_rules.specs.AlignmentEntries.{at_place}
use Rattle.alignment_rules.specs.AlignmentValues.{first_dim}
use Rattle.directive_check.proofs.ListTurns.{drop_at}
use Rattle.directive_check.specs.WideAlignments.{are_wide_inside, is_wide_inside}
use Rattle.directive_check.specs.declared.composed_alignments.WideAlign.{WideAlign}

pub at_index : (ds : List (Option Dim)) (n : ℕ) → at_place ds n ≡ slice_index_or ds n None
at_index [] zero = refl
at_index [] (suc n) = refl
at_index (d ∷ ds) zero = refl
at_index (d ∷ ds) (suc n) = at_index ds n

at_first : (ds : List (Option Dim)) (n : ℕ) → at_place ds n ≡ first_dim (drop n ds)
at_first [] zero = refl
at_first [] (suc n) = refl
at_first (d ∷ ds) zero = refl
at_first (d ∷ ds) (suc n) = at_first ds n

drop_more : (ds : List (Option Dim)) (n : ℕ) → drop 1 (drop n ds) ≡ drop (n + 1) ds
drop_more ds n = by ds n ∙ ap (λ m. drop m ds) (sym (add-one n))
  where
    by : (ds : List (Option Dim)) (n : ℕ) → drop 1 (drop n ds) ≡ drop (suc n) ds
    by [] zero = refl
    by [] (suc n) = refl
    by (d ∷ ds) zero = refl
    by (d ∷ ds) (suc n) = by ds n

no_bounds : (ds : List (Option Dim)) (es : List WideAlign) → are_wide_inside ds es [] ≡ true
no_bounds ds [] = refl
no_bounds ds (e ∷ es) = refl

inside_more : (ds : List (Option Dim)) (e : WideAlign) (es : List WideAlign) (bs : List (Option Dim)) →
    are_wide_inside ds (e ∷ es) bs ≡ (is_wide_inside ds e (first_dim bs) && are_wide_inside ds es (drop 1 bs))
inside_more ds e es [] = sym (no_bounds ds es)
inside_more ds e es (b ∷ bs) = refl

-- a turn of the loop over the entries
pub inside_next : (ds : List (Option Dim)) (es : List WideAlign) (bs : List (Option Dim)) (n : ℕ) (z : WideAlign) (so_far found after : Bool) (b : Option Dim) →
    n < length es → b ≡ at_place bs n → found ≡ is_wide_inside ds (get_or es n z) b → after ≡ (so_far && found) →
    (so_far && are_wide_inside ds (drop n es) (drop n bs)) ≡ are_wide_inside ds es bs → (after && are_wide_inside ds (drop (n + 1) es) (drop (n + 1) bs)) ≡ are_wide_inside ds es bs
inside_next ds es bs n z so_far found after b within at is more all =
    let e = get_or es n z in
    let rest = are_wide_inside ds (drop (n + 1) es) (drop (n + 1) bs) in
    ap (λ t. t && rest) (more ∙ ap (λ t. so_far && t) (is ∙ ap (is_wide_inside ds e) (at ∙ at_first bs n)))
    ∙ and_assoc so_far (is_wide_inside ds e (first_dim (drop n bs))) rest
    ∙ ap (λ t. so_far && t)
    ((λ i. is_wide_inside ds e (first_dim (drop n bs)) && are_wide_inside ds (drop (n + 1) es) (sym (drop_more bs n) i))
    ∙ sym (inside_more ds e (drop (n + 1) es) (drop n bs)) ∙ ap (λ l. are_wide_inside ds l (drop n bs)) (sym (drop_at es n z within)))
    ∙ all
