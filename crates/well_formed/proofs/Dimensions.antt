-- The arrays that a program declares: their dimensions, by their names and by their places.
use Rattle.std.proofs.Common.{◌≡◌, ℕ, zero, suc, ◌+◌, ◌≤◌, Bool, true, false, true≢false, cond, bytes_eq, List, [], ◌∷◌, length, map, position, nat_lt, unsigned_abs, All, Option, Some, None, refl, sym, ap, subst, ◌∙◌, arith}
use Rattle.std.specs.Bool.{⊤}
use Rattle.std.specs.Prelude.{ℤ, ◌||◌, option_map, option_and_then, slice_get, unwrap_or, if◌then◌else◌}
use Rattle.std.specs.List.{AllByRecursion, list_all, list_any, position_from}
use Rattle.std.proofs.lemmas.Bool.Decides.{nat_tests}
use Rattle.std.proofs.lemmas.Iterator.Adapters.{position_from-zero}
use Rattle.std.proofs.lemmas.List.Elements.{All-cons, All-nil}
use Rattle.hpf_base.specs.declared.limits.TheConstants.{MAX_BOUND, MAX_ELEMENTS, MAX_RANK}
use Rattle.declarations.specs.declared.limits.TheConstants.{MAX_TOTAL_ELEMENTS}
use Rattle.syntax_tree.specs.Directive.{Bound}
use Rattle.syntax_tree.specs.MainProgram.{Declaration}
use Rattle.expression_rules.specs.declared.dims.Dim.{Dim}
use Rattle.expression_rules.specs.Dims.{AreDims, IsDim, elements}
use Rattle.expression_rules.specs.declared.symbols.Symbol.{Symbol}
use Rattle.expression_rules.specs.declared.symbols.Symbol.TheVariants.{Array}
use Rattle.expression_rules.specs.Symbols.{Name, SymbolTable, all_elements, find, is_array}
use Rattle.declarations.specs.Declarations.{dims, is_bound_too_far, is_past_limits, is_too_far, is_too_large, items, known_dims, lower_of, number, symbol_table, with_dim}
use Rattle.name_table.specs.Entries.{entry, declared_as, what_is}
use Rattle.name_table.specs.KnownSymbols.{is_known}
use Rattle.name_table.specs.declared.names.Entry.{Entry}
use Rattle.name_table.specs.declared.names.What.{What}
use Rattle.code_meaning.specs.Parallel.{shape_of}
use Rattle.array_meaning.specs.Resolution.{place_of, initial_array, initial_state}
use Rattle.lowering.specs.Ranks.{declared_shapes}
use Rattle.name_table.proofs.Tests.{both, neither, none_some, some_same}
use Rattle.name_table.proofs.TableItems.{AllHold, all_hold}

-- ---- known dimensions: as many as the rank, 7 at most, and within the limits

at_most : (limit k : ℕ) → nat_lt limit k ≡ false → k ≤ limit
at_most limit k h = grind (arith, nat_tests)

dim_more : (l u : Option ℤ) (o : Option (List Dim)) (n : ℕ) (ds : List Dim) → (is_too_far l || is_too_far u) ≡ false →
    ((es : List Dim) → o ≡ Some es → (n ≡ length es) × All IsDim es) → with_dim l u o ≡ Some ds → (suc n ≡ length ds) × All IsDim ds
dim_more None u o n ds near rest is = absurd cc
dim_more (Some l) None o n ds near rest is = absurd cc
dim_more (Some l) (Some u) None n ds near rest is = absurd cc
dim_more (Some l) (Some u) (Some es) n ds near rest is =
    let same : record { lower = l; upper = u } ∷ es ≡ ds = some_same _ _ is in
    let two = neither (is_too_far (Some l)) (is_too_far (Some u)) near in
    let own : IsDim (record { lower = l; upper = u }) = record { lower = at_most MAX_BOUND (unsigned_abs l) two.0; upper = at_most MAX_BOUND (unsigned_abs u) two.1 } in
    let more = rest es refl in
    (ap suc more.0 ∙ ap length same, subst (All IsDim) same (All-cons IsDim (record { lower = l; upper = u }) es own more.1))

dims_within : (t : SymbolTable) (bs : List Bound) (ds : List Dim) → list_any (is_bound_too_far t) bs ≡ false → dims t bs ≡ Some ds →
    (length bs ≡ length ds) × All IsDim ds
dims_within t [] ds near is = let same = some_same [] ds is in (ap length same, subst (All IsDim) same (All-nil IsDim))
dims_within t (b ∷ bs) ds near is =
    let two = neither (is_bound_too_far t b) (list_any (is_bound_too_far t) bs) near in
    dim_more (lower_of t b) (number t b.upper) (dims t bs) (length bs) ds two.0 (λ es e. dims_within t bs es two.1 e) is

abbrev pub IsSized : Symbol → Type 0
IsSized (Array r (Some ds) n) = (r ≡ length ds) × (length ds ≤ MAX_RANK) × AreDims ds
IsSized s = ⊤

array_sized : (t : SymbolTable) (bs : List Bound) (n : Option ℤ) → IsSized (Array (length bs) (known_dims t bs) n)
array_sized t bs n = by (is_past_limits t bs) refl (dims t bs) refl
  where
    by : (past : Bool) → is_past_limits t bs ≡ past → (o : Option (List Dim)) → dims t bs ≡ o → IsSized (Array (length bs) (if past then None else o) n)
    by true past o is = tt
    by false past None is = tt
    by false past (Some ds) is =
        let limits = neither (nat_lt MAX_RANK (length bs) || list_any (is_bound_too_far t) bs) (is_too_large (all_elements t) (dims t bs)) past in
        let bounds = neither (nat_lt MAX_RANK (length bs)) (list_any (is_bound_too_far t) bs) limits.0 in
        let sizes = neither (nat_lt MAX_ELEMENTS (elements ds)) (nat_lt MAX_TOTAL_ELEMENTS (all_elements t + elements ds))
        (sym (ap (is_too_large (all_elements t)) is) ∙ limits.1) in
        let own = dims_within t bs ds bounds.1 is in
        (own.0, subst (λ k. k ≤ MAX_RANK) own.0 (at_most MAX_RANK (length bs) bounds.0), record { each = own.1; size = at_most MAX_ELEMENTS (elements ds) sizes.0 })

other_sized : (s : Symbol) → is_array s ≡ false → IsSized s
other_sized (Array r ds n) h = absurd (true≢false h)
other_sized s h = tt

-- where all is known, each array has its dimensions
abbrev pub IsFull : Symbol → Type 0
IsFull (Array r None n) = ⊥
IsFull (Array r (Some ds) n) = (r ≡ length ds) × (length ds ≤ MAX_RANK) × AreDims ds
IsFull s = ⊤

abbrev pub AllFull : SymbolTable → Type 0
AllFull t = AllByRecursion (λ e. IsFull e.1) t

symbol_full : (s : Symbol) → IsSized s → is_known s ≡ true → IsFull s
symbol_full (Array r None n) sized known = absurd (true≢false (sym known))
symbol_full (Array r (Some ds) n) sized known = sized
symbol_full s sized known = tt

known_full : (t : SymbolTable) → AllHold IsSized t → list_all (λ e. is_known e.1) t ≡ true → AllFull t
known_full [] sized known = tt
known_full (e ∷ es) sized known =
    let s = both (is_known e.1) (list_all (λ e. is_known e.1) es) known in (symbol_full e.1 sized.0 s.0, known_full es sized.1 s.1)

pub table_full : (ds : List Declaration) → list_all (λ e. is_known e.1) (symbol_table ds) ≡ true → AllFull (symbol_table ds)
table_full ds known = known_full (symbol_table ds) (all_hold IsSized array_sized other_sized [] (items ds) tt) known

pub found_full : (x : Name) (t : SymbolTable) (s : Symbol) → AllFull t → find x t ≡ Some s → IsFull s
found_full x [] s all is = absurd (none_some s is)
found_full x (e ∷ es) s all is = by (bytes_eq x e.0) is (found_full x es s all.1)
  where
    by : (b : Bool) → cond b (Some e.1) (find x es) ≡ Some s → (find x es ≡ Some s → IsFull s) → IsFull s
    by true is more = subst IsFull (some_same e.1 s is) all.0
    by false is more = more is

-- ---- dimensions by places

abbrev pub shapes_in : List Entry → List (List Dim)
shapes_in names = declared_shapes (initial_state names)

few_in : (s : Symbol) → IsFull s → length (initial_array (what_is s)).dims ≤ MAX_RANK
few_in (Array r None n) full = absurd full
few_in (Array r (Some ds) n) full = full.1
few_in s full = omega arith

pub few_dims : (t : SymbolTable) → AllFull t → (a : ℕ) → length (shape_of (shapes_in (map entry t)) a) ≤ MAX_RANK
few_dims [] all a = omega arith
few_dims (e ∷ es) all zero = few_in e.1 all.0
few_dims (e ∷ es) all (suc a) = few_dims es all.1 a

at_place : (names : List Entry) (k : ℕ) (w : What) → option_map (λ e. e.what) (slice_get names k) ≡ Some w → shape_of (shapes_in names) k ≡ (initial_array w).dims
at_place [] k w is = absurd (none_some w is)
at_place (e ∷ es) zero w is = ap (λ v. (initial_array v).dims) (some_same e.what w is)
at_place (e ∷ es) (suc k) w is = at_place es k w is

pub shape_is : (names : List Entry) (x : Name) (w : What) → declared_as names x ≡ Some w → shape_of (shapes_in names) (place_of names x) ≡ (initial_array w).dims
shape_is names x w is = by (position (λ e. bytes_eq x e.name) names) is
  where
    by : (o : Option ℕ) → option_map (λ e. e.what) (option_and_then (slice_get names) o) ≡ Some w → shape_of (shapes_in names) (unwrap_or o 0) ≡ (initial_array w).dims
    by None is = absurd (none_some w is)
    by (Some k) is = at_place names k w is

found_from : (x : Name) (t : SymbolTable) (i : ℕ) (s : Symbol) → find x t ≡ Some s →
    (k : ℕ) × ((position_from (λ (e : Entry). bytes_eq x e.name) i (map entry t) ≡ Some (k + i)) × (option_map (λ e. e.what) (slice_get (map entry t) k) ≡ Some (what_is s)))
found_from x [] i s is = absurd (none_some s is)
found_from x (e ∷ es) i s is = by (bytes_eq x e.0) is (found_from x es (i + 1) s)
  where
    by : (b : Bool) → cond b (Some e.1) (find x es) ≡ Some s →
        (find x es ≡ Some s → (k : ℕ) × ((position_from (λ (e : Entry). bytes_eq x e.name) (i + 1) (map entry es) ≡ Some (k + (i + 1)))
        × (option_map (λ e. e.what) (slice_get (map entry es) k) ≡ Some (what_is s)))) →
        (k : ℕ) × ((cond b (Some i) (position_from (λ (e : Entry). bytes_eq x e.name) (i + 1) (map entry es)) ≡ Some (k + i))
        × (option_map (λ e. e.what) (slice_get (entry e ∷ map entry es) k) ≡ Some (what_is s)))
    by true is more = (0, (ap Some (omega arith), ap (λ v. Some (what_is v)) (some_same e.1 s is)))
    by false is more = let m = more is in (suc m.0, (m.1.0 ∙ ap Some (omega arith), m.1.1))

pub declared_found : (x : Name) (t : SymbolTable) (s : Symbol) → find x t ≡ Some s → declared_as (map entry t) x ≡ Some (what_is s)
declared_found x t s is =
    let m = found_from x t 0 s is in
    let at : position (λ (e : Entry). bytes_eq x e.name) (map entry t) ≡ Some m.0 = position_from-zero (λ (e : Entry). bytes_eq x e.name) (map entry t) ∙ m.1.0 ∙ ap Some (omega arith) in
    ap (λ o. option_map (λ e. e.what) (option_and_then (slice_get (map entry t)) o)) at ∙ m.1.1
