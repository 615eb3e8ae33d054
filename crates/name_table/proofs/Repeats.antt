-- Whether a name stands twice in a list, by the set of those seen before it.
use Rattle.std.proofs.Common.{◌≡◌, Bool, true, false, List, [], ◌∷◌, ◌++◌, refl, ap, ◌∙◌, bytes_eq}
use Rattle.std.specs.Prelude.{◌||◌, if◌then◌else◌}
use Rattle.std.specs.List.{list_any}
use Rattle.std.proofs.lemmas.Cmp.{nat_list_eq_equiv}
use Rattle.std.proofs.lemmas.List.Folds.{list_any-append}
use Rattle.indexmap.specs.IndexSet.{insert_key}
use Rattle.expression_rules.specs.Symbols.{Name, is_among}
use Rattle.name_table.specs.Uses.{repeats}

-- a name of the list stands before it, or among these
abbrev pub repeats_after : List Name → List Name → Bool
repeats_after seen [] = false
repeats_after seen (x ∷ xs) = is_among x seen || repeats_after (insert_key bytes_eq seen x) xs

-- a name of the list is among these
abbrev meets : List Name → List Name → Bool
meets seen xs = list_any (λ y. is_among y seen) xs

or_assoc : (a b c : Bool) → (a || b || c) ≡ (a || (b || c))
or_assoc true b c = refl
or_assoc false b c = refl

or_middle : (a e b c : Bool) → (a || (e || false) || (b || c)) ≡ (a || b || (e || c))
or_middle true e b c = refl
or_middle false true true c = refl
or_middle false true false c = refl
or_middle false false b c = refl

meets_none : (xs : List Name) → meets [] xs ≡ false
meets_none [] = refl
meets_none (x ∷ xs) = meets_none xs

-- one name more
meets_more : (seen : List Name) (x : Name) (xs : List Name) → meets (seen ++ x ∷ []) xs ≡ (meets seen xs || is_among x xs)
meets_more seen x [] = refl
meets_more seen x (y ∷ ys) =
    (λ i. list_any-append (bytes_eq y) seen (x ∷ []) i || meets_more seen x ys i)
    ∙ or_middle (is_among y seen) (bytes_eq y x) (meets seen ys) (is_among x ys)
    ∙ ap (λ e. is_among y seen || meets seen ys || (e || is_among x ys)) (nat_list_eq_equiv.symm y x)

after : (seen : List Name) (xs : List Name) → repeats_after seen xs ≡ (meets seen xs || repeats xs)
after seen [] = refl
after seen (x ∷ xs) =
    elim (is_among x seen) as (λ p. (p || repeats_after (if p then seen else seen ++ x ∷ []) xs) ≡ (p || meets seen xs || (is_among x xs || repeats xs))) [
      | true ↦ refl
      | false ↦ after (seen ++ x ∷ []) xs ∙ ap (λ b. b || repeats xs) (meets_more seen x xs) ∙ or_assoc (meets seen xs) (is_among x xs) (repeats xs)
    ]

pub repeats_from_start : (xs : List Name) → repeats_after [] xs ≡ repeats xs
repeats_from_start xs = after [] xs ∙ ap (λ b. b || repeats xs) (meets_none xs)
