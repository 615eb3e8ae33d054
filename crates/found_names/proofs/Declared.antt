-- Declared names by their symbols: their places, and what they are.
use Rattle.std.proofs.Common.{◌≡◌, ℕ, zero, suc, ◌+◌, Bool, true, false, true≢false, cond, bytes_eq, List, [], ◌∷◌, length, map, position, Option, Some, None, refl, sym, ap, subst, ◌∙◌}
use Rattle.std.specs.Prelude.{ℤ, is_some, option_map, option_and_then, slice_get, unwrap_or}
use Rattle.std.specs.List.{position_from}
use Rattle.std.proofs.lemmas.Iterator.Adapters.{position_from-zero}
use Rattle.expression_rules.specs.declared.dims.Dim.{Dim}
use Rattle.expression_rules.specs.declared.symbols.Symbol.{Symbol}
use Rattle.expression_rules.specs.declared.symbols.Symbol.TheVariants as symbol
use Rattle.expression_rules.specs.Symbols.{Name, SymbolTable, find, is_operand, is_scalar, rank_of, satisfies}
use Rattle.name_table.specs.Entries.{declared_as, entry, what_is}
use Rattle.name_table.specs.declared.names.Entry.{Entry}
use Rattle.name_table.specs.declared.names.What.{What}
use Rattle.name_table.specs.declared.names.What.TheVariants as what
use Rattle.name_table.proofs.Tests.{none_some, some_same}
use Rattle.well_formed.proofs.Dimensions.{IsFull, declared_found}
use Rattle.found_names.specs.FoundNames.{HasPlace, IsOperand, IsScalarName}
use Rattle.found_names.specs.Scalars.{HasDimension, HaveDimensions}

-- what a name stands for that passes a test
pub satisfied : (test : Symbol → Bool) (o : Option Symbol) → satisfies test o ≡ true → (s : Symbol) × ((o ≡ Some s) × (test s ≡ true))
satisfied test None h = absurd (true≢false (sym h))
satisfied test (Some s) h = (s, (refl, h))

-- ---- places

placed_from : (x : Name) (t : SymbolTable) (i : ℕ) → is_some (find x t) ≡ true → is_some (position_from (λ (e : Entry). bytes_eq x e.name) i (map entry t)) ≡ true
placed_from x [] i h = absurd (true≢false (sym h))
placed_from x (e ∷ es) i h = by (bytes_eq x e.0) h (placed_from x es (i + 1))
  where
    by : (b : Bool) → is_some (cond b (Some e.1) (find x es)) ≡ true →
        (is_some (find x es) ≡ true → is_some (position_from (λ (e : Entry). bytes_eq x e.name) (i + 1) (map entry es)) ≡ true) →
        is_some (cond b (Some i) (position_from (λ (e : Entry). bytes_eq x e.name) (i + 1) (map entry es))) ≡ true
    by true h more = refl
    by false h more = more h

unwrapped : (o : Option ℕ) → is_some o ≡ true → o ≡ Some (unwrap_or o 0)
unwrapped None h = absurd (true≢false (sym h))
unwrapped (Some k) h = refl

pub has_place : (x : Name) (t : SymbolTable) → is_some (find x t) ≡ true → HasPlace (map entry t) x
has_place x t h =
    unwrapped (position (λ (e : Entry). bytes_eq x e.name) (map entry t))
    (ap is_some (position_from-zero (λ (e : Entry). bytes_eq x e.name) (map entry t)) ∙ placed_from x t 0 h)

-- ---- what a name is

none_from : (x : Name) (t : SymbolTable) (i : ℕ) → find x t ≡ None → position_from (λ (e : Entry). bytes_eq x e.name) i (map entry t) ≡ None
none_from x [] i h = refl
none_from x (e ∷ es) i h = by (bytes_eq x e.0) h (none_from x es (i + 1))
  where
    by : (b : Bool) → cond b (Some e.1) (find x es) ≡ None → (find x es ≡ None → position_from (λ (e : Entry). bytes_eq x e.name) (i + 1) (map entry es) ≡ None) →
        cond b (Some i) (position_from (λ (e : Entry). bytes_eq x e.name) (i + 1) (map entry es)) ≡ None
    by true h more = absurd (none_some e.1 (sym h))
    by false h more = more h

declared_none : (x : Name) (t : SymbolTable) → find x t ≡ None → declared_as (map entry t) x ≡ None
declared_none x t h =
    ap (λ o. option_map (λ e. e.what) (option_and_then (slice_get (map entry t)) o))
    (position_from-zero (λ (e : Entry). bytes_eq x e.name) (map entry t) ∙ none_from x t 0 h)

pub is_operand_of : (x : Name) (t : SymbolTable) → satisfies is_operand (find x t) ≡ true → IsOperand (declared_as (map entry t) x)
is_operand_of x t h =
    let own = satisfied is_operand (find x t) h in
    subst IsOperand (sym (declared_found x t own.0 own.1.0)) (by own.0 own.1.1)
  where
    by : (s : Symbol) → is_operand s ≡ true → IsOperand (Some (what_is s))
    by symbol.Uninitialized h = tt
    by (symbol.Initialized n) h = tt
    by (symbol.Constant n) h = tt
    by (symbol.Array r ds n) h = tt
    by (symbol.Template r) h = absurd (true≢false (sym h))
    by (symbol.Arrangement r) h = absurd (true≢false (sym h))

pub is_scalar_of : (x : Name) (t : SymbolTable) → satisfies is_scalar (find x t) ≡ true → IsScalarName (declared_as (map entry t) x)
is_scalar_of x t h =
    let own = satisfied is_scalar (find x t) h in
    subst IsScalarName (sym (declared_found x t own.0 own.1.0)) (by own.0 own.1.1)
  where
    by : (s : Symbol) → is_scalar s ≡ true → IsScalarName (Some (what_is s))
    by symbol.Uninitialized h = tt
    by (symbol.Initialized n) h = tt
    by (symbol.Constant n) h = absurd (true≢false (sym h))
    by (symbol.Array r ds n) h = absurd (true≢false (sym h))
    by (symbol.Template r) h = absurd (true≢false (sym h))
    by (symbol.Arrangement r) h = absurd (true≢false (sym h))

-- ---- dimensions

dims_at : (names : List Entry) (k : ℕ) (w : What) → HaveDimensions names → option_map (λ e. e.what) (slice_get names k) ≡ Some w → HasDimension w
dims_at [] k w have is = absurd (none_some w is)
dims_at (e ∷ es) zero w have is = subst HasDimension (some_same e.what w is) have.0
dims_at (e ∷ es) (suc k) w have is = dims_at es k w have.1 is

pub has_dimension : (names : List Entry) (x : Name) (w : What) → HaveDimensions names → declared_as names x ≡ Some w → HasDimension w
has_dimension names x w have is = by (position (λ e. bytes_eq x e.name) names) is
  where
    by : (o : Option ℕ) → option_map (λ e. e.what) (option_and_then (slice_get names) o) ≡ Some w → HasDimension w
    by None is = absurd (none_some w is)
    by (Some k) is = dims_at names k w have is

-- the rank of an array is the number of its dimensions
pub rank_is : (x : Name) (t : SymbolTable) → ((s : Symbol) → find x t ≡ Some s → IsFull s) → (ds : List Dim) (v : ℤ) → declared_as (map entry t) x ≡ Some (what.Array ds v) →
    rank_of (find x t) ≡ length ds
rank_is x t full ds v is = by (find x t) refl
  where
    dims : What → List Dim
    dims (what.Array ds v) = ds
    dims w = []

    by_symbol : (s : Symbol) → IsFull s → what_is s ≡ what.Array ds v → rank_of (Some s) ≡ length ds
    by_symbol (symbol.Array r None n) own same = absurd own
    by_symbol (symbol.Array r (Some l) n) own same = own.0 ∙ ap (λ w. length (dims w)) same
    by_symbol symbol.Uninitialized own same = ap (λ w. length (dims w)) same
    by_symbol (symbol.Initialized n) own same = ap (λ w. length (dims w)) same
    by_symbol (symbol.Constant n) own same = ap (λ w. length (dims w)) same
    by_symbol (symbol.Template r) own same = ap (λ w. length (dims w)) same
    by_symbol (symbol.Arrangement r) own same = ap (λ w. length (dims w)) same

    by : (o : Option Symbol) → find x t ≡ o → rank_of o ≡ length ds
    by None none = absurd (none_some (what.Array ds v) (sym (declared_none x t none) ∙ is))
    by (Some s) found = by_symbol s (full s found) (some_same (what_is s) (what.Array ds v) (sym (declared_found x t s found) ∙ is))
