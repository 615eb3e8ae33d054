-- The arrays of a symbol table are within the limits, and no name stands in it twice.
use Rattle.std.proofs.Common.{◌≡◌, ℕ, suc, ◌+◌, ◌≤◌, Bool, true, false, true≢false, bytes_eq, List, [], ◌∷◌, length, nat_lt, All, Option, Some, None, unsigned_abs, refl, sym, ap, subst, ◌∙◌, ℤ, arith}
use Rattle.std.specs.List.{list_any}
use Rattle.std.specs.Prelude.{⊤, ◌||◌, if◌then◌else◌}
use Rattle.std.proofs.lemmas.Bool.Decides.{nat_tests}
use Rattle.std.proofs.lemmas.List.Elements.{All-cons, All-nil}
use Rattle.std.proofs.lemmas.Slice.Eq.{bytes_eq-Decides}
use Rattle.indexmap.specs.IndexMap.{insert_entry}
use Rattle.hpf_base.specs.declared.limits.TheConstants.{MAX_BOUND, MAX_ELEMENTS, MAX_RANK}
use Rattle.declarations.specs.declared.limits.TheConstants.{MAX_TOTAL_ELEMENTS}
use Rattle.syntax_tree.specs.Directive.{Bound}
use Rattle.syntax_tree.specs.Expression.{Expression}
use Rattle.syntax_tree.specs.MainProgram.{Declaration}
use Rattle.expression_rules.specs.Dims.{AreDims, IsDim, elements}
use Rattle.expression_rules.specs.Symbols.{Name, SymbolTable, added, all_elements, changed, find, is_declared, is_uninitialized, satisfies}
use Rattle.expression_rules.specs.declared.dims.Dim.{Dim}
use Rattle.expression_rules.specs.declared.symbols.Symbol.{Symbol}
use Rattle.expression_rules.specs.declared.symbols.Symbol.TheVariants.{Constant, Array, Template, Arrangement}
use Rattle.declarations.specs.Declarations.{Item, DimensionAttribute, TypedEntity, Definition, TemplateEntity, ArrangementEntity, PlacedItem, after, after_all, dims, is_bound_too_far, is_past_limits, is_too_far, is_too_large, items, known_dims, lower_of, number, rank_in_text, symbol_of, symbol_table, with_dim}

-- ---- dimensions within the limits

at_most : (limit n : ℕ) → nat_lt limit n ≡ false → n ≤ limit
at_most limit n h = grind (arith, nat_tests)

pub near : (n : ℤ) → is_too_far (Some n) ≡ false → unsigned_abs n ≤ MAX_BOUND
near n h = at_most MAX_BOUND (unsigned_abs n) h

pub or_none : (a b : Bool) → (a || b) ≡ false → (a ≡ false) × (b ≡ false)
or_none true b h = absurd cc
or_none false b h = (refl, h)

with_dim_within : (l u : Option ℤ) (r : Option (List Dim)) (ds : List Dim) → (is_too_far l || is_too_far u) ≡ false → ((es : List Dim) → r ≡ Some es → All IsDim es) →
    with_dim l u r ≡ Some ds → All IsDim ds
with_dim_within None u r ds near_by rest is = absurd cc
with_dim_within (Some l) None r ds near_by rest is = absurd cc
with_dim_within (Some l) (Some u) None ds near_by rest is = absurd cc
with_dim_within (Some l) (Some u) (Some es) ds near_by rest is =
    let both = or_none (is_too_far (Some l)) (is_too_far (Some u)) near_by in
    let same : record { lower = l; upper = u } ∷ es ≡ ds = cc in
    subst (All IsDim) same (All-cons IsDim (record { lower = l; upper = u }) es (record { lower = near l both.0; upper = near u both.1 }) (rest es refl))

each_within : (t : SymbolTable) (bs : List Bound) (ds : List Dim) → list_any (is_bound_too_far t) bs ≡ false → dims t bs ≡ Some ds → All IsDim ds
each_within t [] ds near_by is = let same : [] ≡ ds = cc in subst (All IsDim) same (All-nil IsDim)
each_within t (b ∷ bs) ds near_by is =
    let both = or_none (is_bound_too_far t b) (list_any (is_bound_too_far t) bs) near_by in
    with_dim_within (lower_of t b) (number t b.upper) (dims t bs) ds both.0 (λ es e. each_within t bs es both.1 e) is

are_dims : (t : SymbolTable) (bs : List Bound) (ds : List Dim) → is_past_limits t bs ≡ false → dims t bs ≡ Some ds → AreDims ds
are_dims t bs ds within is =
    let both = or_none (nat_lt MAX_RANK (length bs) || list_any (is_bound_too_far t) bs) (is_too_large (all_elements t) (dims t bs)) within in
    let few = or_none (nat_lt MAX_ELEMENTS (elements ds)) (nat_lt MAX_TOTAL_ELEMENTS (all_elements t + elements ds)) (sym (ap (is_too_large (all_elements t)) is) ∙ both.1) in
    record {
      each = each_within t bs ds (or_none (nat_lt MAX_RANK (length bs)) (list_any (is_bound_too_far t) bs) both.0).1 is;
      size = at_most MAX_ELEMENTS (elements ds) few.0;
    }

with_dim_more : (l u : Option ℤ) (r : Option (List Dim)) (ds : List Dim) (n : ℕ) → ((es : List Dim) → r ≡ Some es → length es ≡ n) → with_dim l u r ≡ Some ds → length ds ≡ suc n
with_dim_more None u r ds n rest is = absurd cc
with_dim_more (Some l) None r ds n rest is = absurd cc
with_dim_more (Some l) (Some u) None ds n rest is = absurd cc
with_dim_more (Some l) (Some u) (Some es) ds n rest is =
    let same : record { lower = l; upper = u } ∷ es ≡ ds = cc in
    ap length (sym same) ∙ ap suc (rest es refl)

as_many_dims : (t : SymbolTable) (bs : List Bound) (ds : List Dim) → dims t bs ≡ Some ds → length ds ≡ length bs
as_many_dims t [] ds is = let same : [] ≡ ds = cc in ap length (sym same)
as_many_dims t (b ∷ bs) ds is = with_dim_more (lower_of t b) (number t b.upper) (dims t bs) ds (length bs) (λ es e. as_many_dims t bs es e) is

few_dims : (t : SymbolTable) (bs : List Bound) (ds : List Dim) → is_past_limits t bs ≡ false → dims t bs ≡ Some ds → length ds ≤ MAX_RANK
few_dims t bs ds within is =
    let both = or_none (nat_lt MAX_RANK (length bs) || list_any (is_bound_too_far t) bs) (is_too_large (all_elements t) (dims t bs)) within in
    subst (λ n. n ≤ MAX_RANK) (sym (as_many_dims t bs ds is)) (at_most MAX_RANK (length bs) (or_none (nat_lt MAX_RANK (length bs)) (list_any (is_bound_too_far t) bs) both.0).0)

-- ---- symbols

abbrev pub SizedDims : Option (List Dim) → Type 0
SizedDims None = ⊤
SizedDims (Some ds) = AreDims ds × (length ds ≤ MAX_RANK)

abbrev pub SizedSymbol : Symbol → Type 0
SizedSymbol (Array r ds n) = SizedDims ds
SizedSymbol s = ⊤

known_sized : (t : SymbolTable) (bs : List Bound) → SizedDims (known_dims t bs)
known_sized t bs = by (is_past_limits t bs) refl (dims t bs) refl
  where
    by : (past : Bool) → is_past_limits t bs ≡ past → (o : Option (List Dim)) → dims t bs ≡ o → SizedDims (if past then None else o)
    by true past o is = tt
    by false past None is = tt
    by false past (Some ds) is = (are_dims t bs ds past is, few_dims t bs ds past is)

symbol_sized : (t : SymbolTable) (constant : Bool) (bs : Option (List Bound)) (e : Option Expression) → SizedSymbol (symbol_of t constant bs e)
symbol_sized t true bs e = tt
symbol_sized t false None None = tt
symbol_sized t false None (Some e) = tt
symbol_sized t false (Some bs) e = known_sized t bs

-- ---- tables

-- the name isn't in the table
abbrev pub IsAbsent : Name → SymbolTable → Type 0
IsAbsent x t = list_any (λ e. bytes_eq x e.0) t ≡ false

-- each symbol is within the limits, and no name stands after itself
abbrev pub IsKept : SymbolTable → Type 0
IsKept [] = ⊤
IsKept (e ∷ es) = SizedSymbol e.1 × IsAbsent e.0 es × IsKept es

other_way : (x y : Name) → bytes_eq x y ≡ false → bytes_eq y x ≡ false
other_way x y h = by (bytes_eq y x) refl
  where
    by : (b : Bool) → bytes_eq y x ≡ b → b ≡ false
    by false same = refl
    by true same = absurd (true≢false (sym ((bytes_eq-Decides x y).1 (sym ((bytes_eq-Decides y x).0 same))) ∙ h))

absent_more : (y x : Name) (s : Symbol) (t : SymbolTable) → IsAbsent y t → bytes_eq y x ≡ false → IsAbsent y (insert_entry bytes_eq t x s)
absent_more y x s [] absent other = ap (λ b. b || false) other
absent_more y x s (e ∷ es) absent other = by (bytes_eq x e.0) (absent_more y x s es both.1 other)
  where
    both : (bytes_eq y e.0 ≡ false) × IsAbsent y es
    both = or_none (bytes_eq y e.0) (list_any (λ f. bytes_eq y f.0) es) absent

    by : (b : Bool) → IsAbsent y (insert_entry bytes_eq es x s) → IsAbsent y (if b then (e.0, s) ∷ es else e ∷ insert_entry bytes_eq es x s)
    by true more = absent
    by false more = ap (λ b. b || list_any (λ f. bytes_eq y f.0) (insert_entry bytes_eq es x s)) both.0 ∙ more

insert_kept : (x : Name) (s : Symbol) (t : SymbolTable) → SizedSymbol s → IsKept t → IsKept (insert_entry bytes_eq t x s)
insert_kept x s [] sized kept = (sized, refl, tt)
insert_kept x s (e ∷ es) sized kept = by (bytes_eq x e.0) refl (insert_kept x s es sized kept.2)
  where
    by : (b : Bool) → bytes_eq x e.0 ≡ b → IsKept (insert_entry bytes_eq es x s) → IsKept (if b then (e.0, s) ∷ es else e ∷ insert_entry bytes_eq es x s)
    by true same more = (sized, kept.1, kept.2)
    by false same more = (kept.0, absent_more e.0 x s es kept.1 (other_way x e.0 same), more)

added_kept : (t : SymbolTable) (x : Name) (s : Symbol) → SizedSymbol s → IsKept t → IsKept (added t x s)
added_kept t x s sized kept = by (is_declared x t)
  where
    by : (b : Bool) → IsKept (if b then t else changed x s t)
    by true = kept
    by false = insert_kept x s t sized kept

after_kept : (t : SymbolTable) (i : Item) → IsKept t → IsKept (after t i)
after_kept t (DimensionAttribute bs) kept = kept
after_kept t (TypedEntity constant bs e) kept = added_kept t e.name (symbol_of t constant bs e.start) (symbol_sized t constant bs e.start) kept
after_kept t (Definition c) kept = by (satisfies is_uninitialized (find c.name t))
  where
    by : (b : Bool) → IsKept (if b then changed c.name (Constant (number t c.value)) t else t)
    by true = insert_kept c.name (Constant (number t c.value)) t tt kept
    by false = kept
after_kept t (TemplateEntity e) kept = added_kept t e.name (Template (rank_in_text e)) tt kept
after_kept t (ArrangementEntity e) kept = added_kept t e.name (Arrangement (rank_in_text e)) tt kept

all_kept : (t : SymbolTable) (is : List PlacedItem) → IsKept t → IsKept (after_all t is)
all_kept t [] kept = kept
all_kept t (i ∷ is) kept = all_kept (after t i.what) is (after_kept t i.what kept)

-- of every program
pub table_kept : (ds : List Declaration) → IsKept (symbol_table ds)
table_kept ds = all_kept [] (items ds) tt
