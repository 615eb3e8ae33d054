-- What holds of each symbol that an item declares holds of all symbols of a table.
use Rattle.std.proofs.Common.{◌≡◌, Bool, true, false, bytes_eq, List, [], ◌∷◌, length, Option, Some, None, refl}
use Rattle.std.specs.Prelude.{ℤ, if◌then◌else◌}
use Rattle.std.specs.List.{AllByRecursion}
use Rattle.syntax_tree.specs.Directive.{Bound}
use Rattle.syntax_tree.specs.Expression.{Expression}
use Rattle.expression_rules.specs.declared.symbols.Symbol.{Symbol}
use Rattle.expression_rules.specs.declared.symbols.Symbol.TheVariants.{Constant, Array, Template, Arrangement}
use Rattle.expression_rules.specs.Symbols.{Name, SymbolTable, added, changed, find, is_array, is_declared, is_uninitialized, satisfies}
use Rattle.declarations.specs.Declarations.{Item, DimensionAttribute, TypedEntity, Definition, TemplateEntity, ArrangementEntity, PlacedItem, after, after_all, known_dims, number, rank_in_text, start_of, symbol_of}

abbrev pub AllHold : (Symbol → Type 0) → SymbolTable → Type 0
AllHold P t = AllByRecursion (λ e. P e.1) t

-- `arrays`: it holds of each array, whose dimensions are those of its bounds; `others`: it holds of whatever isn't an array
module _ (P : Symbol → Type 0) (arrays : (t : SymbolTable) (bs : List Bound) (n : Option ℤ) → P (Array (length bs) (known_dims t bs) n)) (others : (s : Symbol) → is_array s ≡ false → P s) where
  symbol_holds : (t : SymbolTable) (constant : Bool) (bs : Option (List Bound)) (e : Option Expression) → P (symbol_of t constant bs e)
  symbol_holds t true bs e = others (symbol_of t true bs e) refl
  symbol_holds t false None None = others (symbol_of t false None None) refl
  symbol_holds t false None (Some e) = others (symbol_of t false None (Some e)) refl
  symbol_holds t false (Some bs) e = arrays t bs (start_of t e)

  changed_holds : (x : Name) (s : Symbol) (t : SymbolTable) → P s → AllHold P t → AllHold P (changed x s t)
  changed_holds x s [] own all = (own, tt)
  changed_holds x s (e ∷ es) own all = by (bytes_eq x e.0) (changed_holds x s es own all.1)
    where
      by : (b : Bool) → AllHold P (changed x s es) → AllHold P (if b then (e.0, s) ∷ es else e ∷ changed x s es)
      by true more = (own, all.1)
      by false more = (all.0, more)

  if_holds : (b : Bool) (t u : SymbolTable) → AllHold P t → AllHold P u → AllHold P (if b then t else u)
  if_holds true t u f g = f
  if_holds false t u f g = g

  added_holds : (t : SymbolTable) (x : Name) (s : Symbol) → P s → AllHold P t → AllHold P (added t x s)
  added_holds t x s own all = if_holds (is_declared x t) t (changed x s t) all (changed_holds x s t own all)

  after_holds : (t : SymbolTable) (i : Item) → AllHold P t → AllHold P (after t i)
  after_holds t (DimensionAttribute bs) all = all
  after_holds t (TypedEntity constant bs e) all = added_holds t e.name (symbol_of t constant bs e.start) (symbol_holds t constant bs e.start) all
  after_holds t (Definition c) all =
      let own = others (Constant (number t c.value)) refl in
      if_holds (satisfies is_uninitialized (find c.name t)) (changed c.name (Constant (number t c.value)) t) t
      (changed_holds c.name (Constant (number t c.value)) t own all) all
  after_holds t (TemplateEntity e) all = added_holds t e.name (Template (rank_in_text e)) (others (Template (rank_in_text e)) refl) all
  after_holds t (ArrangementEntity e) all = added_holds t e.name (Arrangement (rank_in_text e)) (others (Arrangement (rank_in_text e)) refl) all

  pub all_hold : (t : SymbolTable) (is : List PlacedItem) → AllHold P t → AllHold P (after_all t is)
  all_hold t [] all = all
  all_hold t (i ∷ is) all = all_hold (after t i.what) is (after_holds t i.what all)
