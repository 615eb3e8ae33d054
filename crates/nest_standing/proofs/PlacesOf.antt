-- Names and their places.
use Rattle.std.proofs.Common.{◌≡◌, ℕ, Bool, true, false, true≢false, bytes_eq, nat_eq, List, [], ◌∷◌, map, position, get_or, Option, Some, None, refl, sym, ap, ap₂, subst, ◌∙◌}
use Rattle.std.specs.Prelude.{◌||◌, is_some, unwrap_or}
use Rattle.std.proofs.lemmas.Slice.Eq.{bytes_eq-Decides}
use Rattle.std.proofs.lemmas.Bool.Decides.{Decides-eqb}
use Rattle.std.proofs.lemmas.List.Quantifiers.{position-Some}
use Rattle.expression_rules.specs.Symbols.{Name, is_among}
use Rattle.name_table.specs.declared.names.Entry.{Entry}
use Rattle.name_table.specs.declared.names.What.TheVariants as what
use Rattle.array_meaning.specs.Resolution.{place_of}
use Rattle.array_meaning.specs.Iterations.{is_in}
use Rattle.nest_standing.specs.Named.{Declared, AreDeclared}

no_entry : Entry
no_entry = record { name = []; what = what.Template }

pub place_same : (names : List Entry) (x y : Name) → Declared names x → Declared names y → place_of names x ≡ place_of names y → x ≡ y
place_same names x y dx dy e = by (position (λ (e : Entry). bytes_eq x e.name) names) (position (λ (e : Entry). bytes_eq y e.name) names) refl refl dx dy e
  where
    by : (o p : Option ℕ) → position (λ (e : Entry). bytes_eq x e.name) names ≡ o → position (λ (e : Entry). bytes_eq y e.name) names ≡ p
        → is_some o ≡ true → is_some p ≡ true → unwrap_or o 0 ≡ unwrap_or p 0 → x ≡ y
    by (Some i) (Some j) f g a b s =
        let m = position-Some (λ (e : Entry). bytes_eq x e.name) names i no_entry f in
        let k = position-Some (λ (e : Entry). bytes_eq y e.name) names j no_entry g in
        (bytes_eq-Decides x (get_or names i no_entry).name).0 m.1
        ∙ sym ((bytes_eq-Decides y (get_or names i no_entry).name).0 (subst (λ q. bytes_eq y (get_or names q no_entry).name ≡ true) (sym s) k.1))
    by None p f g a b s = absurd (true≢false (sym a))
    by (Some i) None f g a b s = absurd (true≢false (sym b))

pub same_name : (x : Name) → bytes_eq x x ≡ true
same_name x = (bytes_eq-Decides x x).1 refl

pub place_eq : (names : List Entry) (x y : Name) → Declared names x → Declared names y → nat_eq (place_of names x) (place_of names y) ≡ bytes_eq x y
place_eq names x y dx dy = by (bytes_eq x y) (nat_eq (place_of names x) (place_of names y)) refl refl
  where
    by : (b c : Bool) → bytes_eq x y ≡ b → nat_eq (place_of names x) (place_of names y) ≡ c → c ≡ b
    by true true e f = refl
    by false false e f = refl
    by true false e f = sym f ∙ (Decides-eqb (place_of names x) (place_of names y)).1 (ap (place_of names) ((bytes_eq-Decides x y).0 e))
    by false true e f =
        sym ((bytes_eq-Decides x y).1 (place_same names x y dx dy ((Decides-eqb (place_of names x) (place_of names y)).0 f))) ∙ e

pub among_is : (names : List Entry) (x : Name) (xs : List Name) → Declared names x → AreDeclared names xs → is_in (place_of names x) (map (place_of names) xs) ≡ is_among x xs
among_is names x [] dx ds = refl
among_is names x (y ∷ ys) dx ds = ap₂ (λ a b. a || b) (place_eq names x y dx ds.0) (among_is names x ys dx ds.1)
