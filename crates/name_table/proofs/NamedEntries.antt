-- Entries after their names: the place of a name, and one entry more.
use Rattle.std.proofs.Common.{◌≡◌, ℕ, ◌+◌, Bool, true, false, true≢false, cond, bytes_eq, List, [], ◌∷◌, ◌++◌, map, position, Some, refl, sym, ap, subst, ◌∙◌}
use Rattle.std.specs.Prelude.{◌||◌, if◌then◌else◌}
use Rattle.std.specs.Cmp.Lexicographic.{nat_list_eq_equiv}
use Rattle.std.specs.List.{AllByRecursion, IsDistinct, list_any, position_from}
use Rattle.std.proofs.lemmas.Iterator.Adapters.{position_from-zero}
use Rattle.indexmap.specs.IndexMap.{insert_entry}
use Rattle.expression_rules.specs.Symbols.{Name}
use Rattle.name_table.specs.declared.names.Entry.{Entry}
use Rattle.name_table.specs.NewNames.{IsNew}

from_map : {X Y : Type 0} (f : X → Y) (t : Y → Bool) (i : ℕ) (xs : List X) → position_from t i (map f xs) ≡ position_from (λ x. t (f x)) i xs
from_map f t i [] = refl
from_map f t i (x ∷ xs) = ap (λ r. cond (t (f x)) (Some i) r) (from_map f t (i + 1) xs)

position_map : {X Y : Type 0} (f : X → Y) (t : Y → Bool) (xs : List X) → position t (map f xs) ≡ position (λ x. t (f x)) xs
position_map f t xs = position_from-zero t (map f xs) ∙ from_map f t 0 xs ∙ sym (position_from-zero (λ x. t (f x)) xs)

any_map : {X Y : Type 0} (f : X → Y) (t : Y → Bool) (xs : List X) → list_any t (map f xs) ≡ list_any (λ x. t (f x)) xs
any_map f t [] = refl
any_map f t (x ∷ xs) = ap (λ b. t (f x) || b) (any_map f t xs)

map_append : {X Y : Type 0} (f : X → Y) (xs ys : List X) → map f (xs ++ ys) ≡ map f xs ++ map f ys
map_append f [] ys = refl
map_append f (x ∷ xs) ys = ap (λ l. f x ∷ l) (map_append f xs ys)

-- each entry stands after its own name
abbrev pub AreNamed : List (Name × Entry) → Type 0
AreNamed es = map (λ e. e.0) es ≡ map (λ e. e.1.name) es

names_of : (es : List (Name × Entry)) → map (λ e. e.1.name) es ≡ map (λ e. e.name) (map (λ e. e.1) es)
names_of [] = refl
names_of (e ∷ es) = ap (λ l. e.1.name ∷ l) (names_of es)

pub position_named : (x : Name) (es : List (Name × Entry)) → AreNamed es → position (bytes_eq x) (map (λ e. e.0) es) ≡ position (λ e. bytes_eq x e.name) (map (λ e. e.1) es)
position_named x es named = ap (position (bytes_eq x)) (named ∙ names_of es) ∙ position_map (λ e. e.name) (bytes_eq x) (map (λ e. e.1) es)

-- a new name goes last
insert_last : (x : Name) (n : Entry) (es : List (Name × Entry)) → list_any (bytes_eq x) (map (λ e. e.0) es) ≡ false → insert_entry bytes_eq es x n ≡ es ++ (x, n) ∷ []
insert_last x n [] h = refl
insert_last x n (e ∷ es) h = by (bytes_eq x e.0) h (insert_last x n es)
  where
    by : (b : Bool) → (b || list_any (bytes_eq x) (map (λ e. e.0) es)) ≡ false → (list_any (bytes_eq x) (map (λ e. e.0) es) ≡ false →
        insert_entry bytes_eq es x n ≡ es ++ (x, n) ∷ []) → (if b then (e.0, n) ∷ es else e ∷ insert_entry bytes_eq es x n) ≡ e ∷ (es ++ (x, n) ∷ [])
    by true h more = absurd (true≢false h)
    by false h more = ap (λ l. e ∷ l) (more h)

pub insert_new : (n : Entry) (es : List (Name × Entry)) → AreNamed es → IsNew n.name (map (λ e. e.1) es) → insert_entry bytes_eq es n.name n ≡ es ++ (n.name, n) ∷ []
insert_new n es named new =
    insert_last n.name n es (ap (list_any (bytes_eq n.name)) (named ∙ names_of es) ∙ any_map (λ e. e.name) (bytes_eq n.name) (map (λ e. e.1) es) ∙ new)

pub named_more : (n : Entry) (es after : List (Name × Entry)) → AreNamed es → after ≡ es ++ (n.name, n) ∷ [] → AreNamed after
named_more n es after named is =
    subst AreNamed (sym is) (map_append (λ e. e.0) es ((n.name, n) ∷ []) ∙ ap (λ l. l ++ n.name ∷ []) named ∙ sym (map_append (λ e. e.1.name) es ((n.name, n) ∷ [])))

pub entries_more : (n : Entry) (es after : List (Name × Entry)) → after ≡ es ++ (n.name, n) ∷ [] → map (λ e. e.1) after ≡ map (λ e. e.1) es ++ n ∷ []
entries_more n es after is = ap (map (λ e. e.1)) is ∙ map_append (λ e. e.1) es ((n.name, n) ∷ [])

-- a name among distinct ones isn't among those before it
of_middle : (P : Name → Type 0) (xs : List Name) (x : Name) (ys : List Name) → AllByRecursion P (xs ++ x ∷ ys) → P x
of_middle P [] x ys h = h.0
of_middle P (k ∷ ks) x ys h = of_middle P ks x ys h.1

new_after : (x : Name) (xs ys : List Name) → IsDistinct bytes_eq (xs ++ x ∷ ys) → list_any (bytes_eq x) xs ≡ false
unfolding IsDistinct
new_after x [] ys h = refl
new_after x (k ∷ ks) ys h =
    ap (λ b. b || list_any (bytes_eq x) ks) (nat_list_eq_equiv.symm x k ∙ of_middle (λ y. bytes_eq k y ≡ false) ks x ys h.0) ∙ new_after x ks ys h.1

pub is_new : (x : Name) (es : List Entry) (ys : List Name) → IsDistinct bytes_eq (map (λ e. e.name) es ++ x ∷ ys) → IsNew x es
is_new x es ys h = sym (any_map (λ e. e.name) (bytes_eq x) es) ∙ new_after x (map (λ e. e.name) es) ys h
