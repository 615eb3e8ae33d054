-- The bounds of whole arrays as headers of a FORALL.
use Rattle.std.proofs.Common.{◌≡◌, List, [], ◌∷◌, ◌++◌, map, pos, reverse, refl, sym, ap, ◌∙◌}
use Rattle.std.proofs.lemmas.List.{map-append, reverse-append}
use Rattle.expression_rules.specs.declared.dims.Dim.{Dim}
use Rattle.array_meaning.specs.Resolution.{whole}
use Rattle.array_meaning.specs.Terms.{Number, Triplet, Control}
use Rattle.program_code.specs.StatementCode.{triplets}

abbrev pub bounds : Dim → Control
bounds d = record { first = Number d.lower; last = Number d.upper; step = Number (pos 1) }

pub whole_bounds : (ds : List Dim) → triplets (map bounds ds) ≡ whole ds
whole_bounds [] = refl
whole_bounds (d ∷ ds) = ap (Triplet (Number d.lower) (Number d.upper) (Number (pos 1))) (whole_bounds ds)

-- what each stands for, in reverse order
pub map_reverse : {A B : Type 0} (f : A → B) (xs : List A) → map f (reverse xs) ≡ reverse (map f xs)
map_reverse f [] = refl
map_reverse f (x ∷ xs) =
    ap (map f) (reverse-append (x ∷ []) xs)
    ∙ map-append f (reverse xs) (x ∷ [])
    ∙ ap (λ l. l ++ f x ∷ []) (map_reverse f xs)
    ∙ sym (reverse-append (f x ∷ []) (map f xs))
