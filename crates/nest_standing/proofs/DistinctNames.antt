-- Each name stands once in the symbol table of a program.
use Rattle.std.proofs.Common.{◌≡◌, Bool, true, false, true≢false, List, [], ◌∷◌, cond, bytes_eq, Some, None, refl, sym, ap, ◌∙◌, subst}
use Rattle.std.specs.Prelude.{is_some, if◌then◌else◌}
use Rattle.std.proofs.lemmas.Slice.Eq.{bytes_eq-Decides}
use Rattle.syntax_tree.specs.MainProgram.{Declaration}
use Rattle.expression_rules.specs.declared.symbols.Symbol.{Symbol}
use Rattle.expression_rules.specs.declared.symbols.Symbol.TheVariants as symbol
use Rattle.expression_rules.specs.Symbols.{Name, SymbolTable, find, satisfies, is_uninitialized, changed, added}
use Rattle.declarations.specs.Declarations.{Item, DimensionAttribute, TypedEntity, Definition, TemplateEntity, ArrangementEntity, PlacedItem, items, number, rank_in_text, symbol_of, symbol_table, after, after_all}

-- no name after the first of it
abbrev pub NoRepeat : SymbolTable → Type 0
NoRepeat [] = Unit {0}
NoRepeat (e ∷ es) = (find e.0 es ≡ None) × NoRepeat es

pub other_name : (x y : Name) → bytes_eq x y ≡ false → bytes_eq y x ≡ false
other_name x y e = by (bytes_eq y x) refl where
  by : (b : Bool) → bytes_eq y x ≡ b → b ≡ false
  by true f = absurd (true≢false (sym ((bytes_eq-Decides x y).1 (sym ((bytes_eq-Decides y x).0 f))) ∙ e))
  by false f = refl

-- what another name stands for stays
pub found_other : (x y : Name) (s : Symbol) (t : SymbolTable) → bytes_eq x y ≡ false → find x (changed y s t) ≡ find x t
found_other x y s [] e = ap (λ b. cond b (Some s) None) e
found_other x y s (a ∷ es) e = by (bytes_eq y a.0) refl (found_other x y s es e)
  where
    not_first : (b : Bool) → bytes_eq x a.0 ≡ b → bytes_eq y a.0 ≡ true → b ≡ false
    not_first true f g = absurd (true≢false (sym (subst (λ q. bytes_eq x q ≡ true) (sym ((bytes_eq-Decides y a.0).0 g)) f) ∙ e))
    not_first false f g = refl

    by : (b : Bool) → bytes_eq y a.0 ≡ b → find x (changed y s es) ≡ find x es → find x (if b then (a.0, s) ∷ es else a ∷ changed y s es) ≡ find x (a ∷ es)
    by true g more =
        let f : bytes_eq x a.0 ≡ false = not_first (bytes_eq x a.0) refl g in
        ap (λ b. cond b (Some s) (find x es)) f ∙ sym (ap (λ b. cond b (Some a.1) (find x es)) f)
    by false g more = ap (λ o. cond (bytes_eq x a.0) (Some a.1) o) more

-- the name itself
pub found_self : (x y : Name) (s : Symbol) (t : SymbolTable) → bytes_eq x y ≡ true → find x (changed y s t) ≡ Some s
found_self x y s [] e = ap (λ b. cond b (Some s) None) e
found_self x y s (a ∷ es) e = by (bytes_eq y a.0) refl (found_self x y s es e)
  where
    same : bytes_eq y a.0 ≡ bytes_eq x a.0
    same = ap (λ q. bytes_eq q a.0) (sym ((bytes_eq-Decides x y).0 e))

    by : (b : Bool) → bytes_eq y a.0 ≡ b → find x (changed y s es) ≡ Some s → find x (if b then (a.0, s) ∷ es else a ∷ changed y s es) ≡ Some s
    by true g more = ap (λ b. cond b (Some s) (find x es)) (sym same ∙ g)
    by false g more = ap (λ b. cond b (Some a.1) (find x (changed y s es))) (sym same ∙ g) ∙ more

changed_once : (y : Name) (s : Symbol) (t : SymbolTable) → NoRepeat t → NoRepeat (changed y s t)
changed_once y s [] h = (refl, tt)
changed_once y s (a ∷ es) h = by (bytes_eq y a.0) refl (changed_once y s es h.1)
  where
    by : (b : Bool) → bytes_eq y a.0 ≡ b → NoRepeat (changed y s es) → NoRepeat (if b then (a.0, s) ∷ es else a ∷ changed y s es)
    by true g more = h
    by false g more = (found_other a.0 y s es (other_name y a.0 g) ∙ h.0, more)

added_once : (x : Name) (s : Symbol) (t : SymbolTable) → NoRepeat t → NoRepeat (added t x s)
added_once x s t h = by (is_some (find x t)) where
  by : (b : Bool) → NoRepeat (if b then t else changed x s t)
  by true = h
  by false = changed_once x s t h

item_once : (t : SymbolTable) (i : Item) → NoRepeat t → NoRepeat (after t i)
item_once t (DimensionAttribute bs) h = h
item_once t (TypedEntity constant bs e) h = added_once e.name (symbol_of t constant bs e.start) t h
item_once t (Definition c) h = by (satisfies is_uninitialized (find c.name t)) where
  by : (b : Bool) → NoRepeat (if b then changed c.name (symbol.Constant (number t c.value)) t else t)
  by true = changed_once c.name (symbol.Constant (number t c.value)) t h
  by false = h
item_once t (TemplateEntity e) h = added_once e.name (symbol.Template (rank_in_text e)) t h
item_once t (ArrangementEntity e) h = added_once e.name (symbol.Arrangement (rank_in_text e)) t h

all_once : (t : SymbolTable) (is : List PlacedItem) → NoRepeat t → NoRepeat (after_all t is)
all_once t [] h = h
all_once t (i ∷ is) h = all_once (after t i.what) is (item_once t i.what h)

pub table_once : (ds : List Declaration) → NoRepeat (symbol_table ds)
table_once ds = all_once [] (items ds) tt
