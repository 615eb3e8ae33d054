-- Lists of names that are read.
use Rattle.std.proofs.Common.{◌≡◌, ℕ, zero, suc, Bool, true, false, List, ◌∷◌, drop, length, Some, None, refl, sym, ap, ◌∙◌, subst}
use Rattle.std.specs.Prelude.{if◌then◌else◌, map}
use Rattle.std.proofs.lemmas.List.{map-id}
use Rattle.syntax_tree.specs.Lexeme.{Lexeme}
use Rattle.line_forms.specs.declared.depths.Depths.{Depths}
use Rattle.line_forms.specs.Marks.{starts, attribute_key, comma, opening, closing}
use Rattle.line_forms.specs.Reading.{Reading, Found, Stopped, ◌>>=◌}
use Rattle.line_forms.specs.InFront.{On}
use Rattle.line_forms.specs.Grammar.{Suffixed, Identifier, Optional, CommaList}
use Rattle.line_forms.specs.Parts.{enclosed}
use Rattle.line_forms.specs.Read.{after_marks, name, read, comma_list}
use Rattle.directive_reader.specs.Views.{names_in}

pub on_next : {A B : Type 0} (r : Reading A) (f : A × List Lexeme → Reading B) (Q : B × List Lexeme → Type 0) → ((x : A × List Lexeme) → On (f x) Q) → On (r >>= f) Q
on_next (Found x) f Q h = h x
on_next (Stopped why) f Q h = tt

on_both : {A : Type 0} (b : Bool) (r s : Reading A) (Q : A × List Lexeme → Type 0) → On r Q → On s Q → On (if b then r else s) Q
on_both true r s Q h g = h
on_both false r s Q h g = g

abbrev HasNames : List (List ℕ) × List Lexeme → Type 0
HasNames x = names_in x.0 ≡ Some x.0

names_listed : (most : ℕ) (ts : List Lexeme) → On (comma_list (starts comma) name most ts) HasNames
unfolding comma_list
names_listed zero ts = tt
names_listed (suc most) ts =
    on_next (name ts) _ HasNames
    (λ x.
    on_both (starts comma x.1) _ _ HasNames
    (on_next (comma_list (starts comma) name most _) (λ xs. Found (x.0 ∷ xs.0, xs.1)) HasNames (λ xs. refl)) refl)

kept_names : (r : Reading (List (List ℕ))) → On r HasNames → On (r >>= λ v. after_marks closing v.1 >>= λ x. Found (v.0, x.1)) HasNames
kept_names (Found v) h = on_next (after_marks closing v.1) (λ x. Found (v.0, x.1)) HasNames (λ x. h)
kept_names (Stopped why) h = tt

-- a list that is read has an element
pub some_names : (depths : Depths) (ts : List Lexeme) (xs : List (List ℕ)) (us : List Lexeme) → read depths (enclosed Identifier) ts ≡ Found (xs, us) → names_in xs ≡ Some xs
some_names depths ts xs us h =
    subst (λ r. On r HasNames) h
    (on_next (after_marks opening ts) (λ x. read depths (Suffixed (CommaList Identifier) closing) x.1) HasNames
    (λ x. kept_names (comma_list (starts comma) name (suc (length x.1)) x.1) (names_listed (suc (length x.1)) x.1)))

-- names after a word that stands there
pub perhaps_named : (depths : Depths) (word : List ℕ) (ts us : List Lexeme) (xs ys : List (List ℕ)) (vs : List Lexeme)
    → starts (attribute_key word) ts ≡ true → us ≡ drop 2 ts → read depths (enclosed Identifier) us ≡ Found (map (λ x. x) xs, vs) → ys ≡ xs
    → read depths (Optional (attribute_key word) (enclosed Identifier)) ts ≡ Found (names_in ys, vs)
perhaps_named depths word ts us xs ys vs there after is same =
    let found : read depths (enclosed Identifier) us ≡ Found (xs, vs) = is ∙ ap (λ l. Found (l, vs)) (map-id xs) in
    ap (λ b. if b then (read depths (enclosed Identifier) (drop 2 ts) >>= λ v. Found (Some v.0, v.1)) else Found (None, ts)) there
    ∙ ap (λ r. r >>= λ v. Found (Some v.0, v.1)) (ap (read depths (enclosed Identifier)) (sym after) ∙ found)
    ∙ ap (λ n. Found (n, vs)) (sym (some_names depths us xs vs found) ∙ ap names_in (sym same))
