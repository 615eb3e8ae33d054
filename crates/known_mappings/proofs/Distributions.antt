-- The mapping that a distribution gives an object is known, where it breaks no rule.
use Rattle.std.proofs.Common.{◌≡◌, ◌==◌, ◌≤◌, ℕ, suc, Bool, true, false, List, [], ◌∷◌, ◌++◌, length, map, nat_lt, Option, Some, None, refl, sym, ap, subst, ◌∙◌, arith}
use Rattle.std.specs.Bool.{⊤}
use Rattle.std.specs.Prelude.{ℤ, pos, negsuc, int_lt, ◌&&◌, ◌||◌, not, nat_le, option_map, option_and_then, if◌then◌else◌}
use Rattle.std.specs.List.{AllByRecursion, flat_map, list_all, list_any}
use Rattle.std.proofs.lemmas.Bool.{eqb-true}
use Rattle.std.proofs.lemmas.Bool.Decides.{nat_tests}
use Rattle.std.proofs.lemmas.List.{length-map}
use Rattle.hpf_base.specs.ElementOrder.{product}
use Rattle.hpf_base.specs.Grid.{IsGrid}
use Rattle.hpf_base.specs.declared.limits.TheConstants.{MAX_RANK}
use Rattle.mappings.specs.declared.limits.TheConstants.{MAX_BLOCK, MAX_CYCLIC}
use Rattle.hpf_base.specs.declared.refusal.Reason.TheVariants as reason
use Rattle.mappings.specs.declared.mapping.Form.TheVariants as form
use Rattle.mappings.specs.declared.mapping.Mapping.{Mapping}
use Rattle.syntax_tree.specs.Directive as directive
use Rattle.syntax_tree.specs.Expression.{Expression}
use Rattle.expression_rules.specs.Dims.{extent}
use Rattle.expression_rules.specs.Inner.{format_expressions}
use Rattle.expression_rules.specs.Symbols.{Name, SymbolTable, find as find_symbol}
use Rattle.expression_rules.specs.declared.dims.Dim.{Dim}
use Rattle.expression_rules.specs.declared.evaluated.Evaluated.{Evaluated}
use Rattle.expression_rules.specs.declared.evaluated.Evaluated.TheVariants as evaluated
use Rattle.expression_rules.specs.declared.symbols.Symbol.{Symbol}
use Rattle.declarations.specs.Declarations.{if_known}
use Rattle.declarations.specs.Reasons.{when}
use Rattle.name_table.specs.KnownSymbols.{is_known}
use Rattle.distribution_rules.specs.declared.evaluated_formats.DistributionValues.{DistributionValues}
use Rattle.distribution_rules.specs.declared.evaluated_formats.FormatValue.{FormatValue}
use Rattle.distribution_rules.specs.declared.evaluated_formats.FormatValue.TheVariants.{Undistributed, DefaultBlock, Block, Cyclic, GenBlock}
use Rattle.distribution_rules.specs.declared.evaluated_formats.Processors.{Processors}
use Rattle.distribution_rules.specs.declared.evaluated_formats.Processors.TheVariants.{Extents, Unknown, Missing}
use Rattle.distribution_rules.specs.declared.objects.Object.{Object}
use Rattle.distribution_rules.specs.declared.objects.ObjectKind.{ObjectKind}
use Rattle.distribution_rules.specs.declared.objects.ObjectKind.TheVariants as kind
use Rattle.distribution_rules.specs.Dimensions.{extents, is_empty_dim, is_too_wide, passes, with_extent}
use Rattle.distribution_rules.specs.Distributed.{all_or_none, and_more, distributed_onto, form_of, gen_block, has_all_nodes, map_dim, map_dim_in, map_dim_with}
use Rattle.distribution_rules.specs.DistributionRules.{DistributedDim, are_unfit, distributed_count, distributed_dims, distributed_from, distribution_reasons, distribution_values, distributee_reasons, format_reasons, format_value, has_other_count, have_small_sum, is_unfit, known_extents, known_sizes, leaves_some, on_grid, onto_object, processors_of, processors_reasons, size_reasons, with_size}
use Rattle.distribution_rules.specs.Setting.{Setting, dims_of, has_kind, is_array_kind, is_arrangement_kind, is_mapped_kind, object, object_dims, value_in}
use Rattle.distribution_rules.specs.SpaceRules.{is_misfit}
use Rattle.directive_check.specs.ProgramMaps.{distributed_as}
use Rattle.name_table.proofs.Tests.{HasValue, all_split, empties, fails, holds, neither, no_value, none_pass, none_some, some_same, value_of}
use Rattle.known_mappings.proofs.DirectiveValues.{IsSettled, settled}
use Rattle.known_mappings.proofs.Objects.{AreNear, IsNear, IsOfKind, IsRight, IsTyped, found_right}

-- ---- lists of which each item is made

pub all_made : {A B : Type 0} (f : A → Option B) (xs : List A) → AllByRecursion (λ a. HasValue (f a)) xs → HasValue (all_or_none f xs)
all_made f [] h = refl
all_made f (x ∷ xs) h = by (f x) (all_or_none f xs) h.0 (all_made f xs h.1)
  where
    by : {B : Type 0} (a : Option B) (as' : Option (List B)) → HasValue a → HasValue as' → HasValue (and_more a as')
    by None as' a b = absurd (no_value a)
    by (Some x) None a b = absurd (no_value b)
    by (Some x) (Some xs) a b = refl

mapped_value : {A B : Type 0} (f : A → B) (o : Option A) → HasValue o → HasValue (option_map f o)
mapped_value f None h = absurd (no_value h)
mapped_value f (Some a) h = refl

-- ---- formats

-- sizes are known, and none is above the limit
record AreSizesKnown (vs : List (Evaluated ℤ)) : Type 0 where
  sizes : List ℕ
  are : known_sizes vs ≡ Some sizes
  as_many : length sizes ≡ length vs
  small : list_all (λ n. nat_le n MAX_BLOCK) sizes ≡ true

-- the sizes of a format are known
abbrev IsSizeKnown : FormatValue → Type 0
IsSizeKnown (Block m) = HasValue (if_known m)
IsSizeKnown (Cyclic k) = HasValue (if_known k)
IsSizeKnown (GenBlock sizes) = AreSizesKnown sizes
IsSizeKnown f = ⊤

size_known : (most : ℕ) (v : Evaluated ℤ) → IsSettled v → size_reasons 1 most v ≡ [] → HasValue (if_known v)
size_known most evaluated.Invalid f none = absurd cc
size_known most evaluated.Unknown f none = absurd f
size_known most (evaluated.Known n) f none = refl

first_known : (v : Evaluated ℤ) (vs : List (Evaluated ℤ)) → IsSettled v → size_reasons 0 MAX_BLOCK v ≡ [] → AreSizesKnown vs → AreSizesKnown (v ∷ vs)
first_known evaluated.Invalid vs f none more = absurd cc
first_known evaluated.Unknown vs f none more = absurd f
first_known (evaluated.Known (negsuc k)) vs f none more = absurd cc
first_known (evaluated.Known (pos k)) vs f none more = record {
  sizes = k ∷ more.sizes;
  are = ap (with_size (evaluated.Known (pos k))) more.are;
  as_many = ap suc more.as_many;
  small = (λ i. low (fails _ reason.Limit (empties (when (int_lt (pos k) (pos 0)) reason.BadDirective) _ none).1) i && more.small i);
}
  where
    low : int_lt (pos MAX_BLOCK) (pos k) ≡ false → nat_le k MAX_BLOCK ≡ true
    low h = grind (arith, nat_tests)

module _ (s : Setting) (known : (x : Name) (a : Symbol) → find_symbol x s.names ≡ Some a → is_known a ≡ true) (u : SymbolTable) where
  sizes_known : (es : List Expression) → AllByRecursion (IsTyped u) es → flat_map (size_reasons 0 MAX_BLOCK) (map (value_in s) es) ≡ [] → AreSizesKnown (map (value_in s) es)
  sizes_known [] h none = record { sizes = []; are = refl; as_many = refl; small = refl }
  sizes_known (e ∷ es) h none =
      let two = empties (size_reasons 0 MAX_BLOCK (value_in s e)) _ none in
      first_known (value_in s e) (map (value_in s) es) (settled s.grid s.names u known e h.0) two.0 (sizes_known es h.1 two.1)

  format_known : (f : directive.Format) → AllByRecursion (IsTyped u) (format_expressions f) → format_reasons (format_value s f) ≡ [] → IsSizeKnown (format_value s f)
  format_known directive.Undistributed h none = tt
  format_known (directive.Block None) h none = tt
  format_known (directive.Block (Some m)) h none = size_known MAX_BLOCK (value_in s m) (settled s.grid s.names u known m h.0) none
  format_known (directive.Cyclic None) h none = refl
  format_known (directive.Cyclic (Some k)) h none = size_known MAX_CYCLIC (value_in s k) (settled s.grid s.names u known k h.0) none
  format_known (directive.GenBlock es) h none = sizes_known es h none

  formats_known : (fs : List directive.Format) → AllByRecursion (IsTyped u) (flat_map format_expressions fs) → flat_map format_reasons (map (format_value s) fs) ≡ [] →
      AllByRecursion IsSizeKnown (map (format_value s) fs)
  formats_known [] h none = tt
  formats_known (f ∷ fs) h none =
      let typed = all_split (IsTyped u) (format_expressions f) (flat_map format_expressions fs) h in
      let two = empties (format_reasons (format_value s f)) _ none in
      (format_known f typed.0 two.0, formats_known fs typed.1 two.1)

-- ---- distributed dimensions

form_known : (f : FormatValue) (e p : ℕ) → IsSizeKnown f → (f ≡ Undistributed → ⊥) → has_other_count f p ≡ false → HasValue (form_of f e p)
form_known Undistributed e p h other fit = absurd (other refl)
form_known DefaultBlock e p h other fit = refl
form_known (Block (evaluated.Known m)) e p h other fit = refl
form_known (Block evaluated.Invalid) e p h other fit = absurd (no_value h)
form_known (Block evaluated.Unknown) e p h other fit = absurd (no_value h)
form_known (Cyclic (evaluated.Known k)) e p h other fit = refl
form_known (Cyclic evaluated.Invalid) e p h other fit = absurd (no_value h)
form_known (Cyclic evaluated.Unknown) e p h other fit = absurd (no_value h)
form_known (GenBlock vs) e p h other fit =
    subst (λ o. HasValue (option_and_then (gen_block p) o)) (sym h.are)
    (subst (λ b. HasValue (if b && list_all (λ n. nat_le n MAX_BLOCK) h.sizes then Some (form.Gen h.sizes) else None)) (sym (ap (λ n. n == p) h.as_many ∙ holds (length vs == p) fit))
    (subst (λ b. HasValue (if b then Some (form.Gen h.sizes) else None)) (sym h.small) refl))

dim_known : (d : DistributedDim) (f : FormatValue) (b : Option Dim) → d.format ≡ f → d.bounds ≡ b → IsSizeKnown f → (f ≡ Undistributed → ⊥) → IsNear b → is_too_wide b ≡ false →
    is_unfit d ≡ false → HasValue (map_dim d)
dim_known d f None form bounds h other near narrow fit = absurd near
dim_known d f (Some b) form bounds h other near narrow fit =
    let count = subst (λ g. has_other_count g d.procs ≡ false) form (neither (has_other_count d.format d.procs) (passes (leaves_some d.format d.procs) d.bounds) fit).0 in
    subst (λ o. HasValue (option_and_then (map_dim_in d) o)) (sym bounds)
    (subst (λ w. HasValue (if w then None else option_map (map_dim_with d b) (form_of d.format (extent b) d.procs))) (sym narrow)
    (mapped_value (map_dim_with d b) (form_of d.format (extent b) d.procs) (subst (λ g. HasValue (form_of g (extent b) d.procs)) (sym form) (form_known f (extent b) d.procs h other count))))

abbrev IsNarrow : Option Dim → Type 0
IsNarrow b = is_too_wide b ≡ false

dims_known : (dim grid_dim : ℕ) (fs : List FormatValue) (bs : List (Option Dim)) (ps : List ℕ) → AllByRecursion IsSizeKnown fs → AreNear bs → AllByRecursion IsNarrow bs →
    list_any is_unfit (distributed_from dim grid_dim fs bs ps) ≡ false → AllByRecursion (λ d. HasValue (map_dim d)) (distributed_from dim grid_dim fs bs ps)
dims_known dim grid_dim [] bs ps h near narrow fit = tt
dims_known dim grid_dim (Undistributed ∷ fs) [] ps h near narrow fit = tt
dims_known dim grid_dim (Undistributed ∷ fs) (b ∷ bs) ps h near narrow fit = dims_known (suc dim) grid_dim fs bs ps h.1 near.1 narrow.1 fit
dims_known dim grid_dim (DefaultBlock ∷ fs) [] ps h near narrow fit = tt
dims_known dim grid_dim (DefaultBlock ∷ fs) (b ∷ bs) [] h near narrow fit = tt
dims_known dim grid_dim (DefaultBlock ∷ fs) (b ∷ bs) (p ∷ ps) h near narrow fit =
    let two = neither (are_unfit DefaultBlock p b) (list_any is_unfit (distributed_from (suc dim) (suc grid_dim) fs bs ps)) fit in
    (dim_known _ DefaultBlock b refl refl h.0 (λ e. absurd cc) near.0 narrow.0 two.0, dims_known (suc dim) (suc grid_dim) fs bs ps h.1 near.1 narrow.1 two.1)
dims_known dim grid_dim (Block m ∷ fs) [] ps h near narrow fit = tt
dims_known dim grid_dim (Block m ∷ fs) (b ∷ bs) [] h near narrow fit = tt
dims_known dim grid_dim (Block m ∷ fs) (b ∷ bs) (p ∷ ps) h near narrow fit =
    let two = neither (are_unfit (Block m) p b) (list_any is_unfit (distributed_from (suc dim) (suc grid_dim) fs bs ps)) fit in
    (dim_known _ (Block m) b refl refl h.0 (λ e. absurd cc) near.0 narrow.0 two.0, dims_known (suc dim) (suc grid_dim) fs bs ps h.1 near.1 narrow.1 two.1)
dims_known dim grid_dim (Cyclic k ∷ fs) [] ps h near narrow fit = tt
dims_known dim grid_dim (Cyclic k ∷ fs) (b ∷ bs) [] h near narrow fit = tt
dims_known dim grid_dim (Cyclic k ∷ fs) (b ∷ bs) (p ∷ ps) h near narrow fit =
    let two = neither (are_unfit (Cyclic k) p b) (list_any is_unfit (distributed_from (suc dim) (suc grid_dim) fs bs ps)) fit in
    (dim_known _ (Cyclic k) b refl refl h.0 (λ e. absurd cc) near.0 narrow.0 two.0, dims_known (suc dim) (suc grid_dim) fs bs ps h.1 near.1 narrow.1 two.1)
dims_known dim grid_dim (GenBlock vs ∷ fs) [] ps h near narrow fit = tt
dims_known dim grid_dim (GenBlock vs ∷ fs) (b ∷ bs) [] h near narrow fit = tt
dims_known dim grid_dim (GenBlock vs ∷ fs) (b ∷ bs) (p ∷ ps) h near narrow fit =
    let two = neither (are_unfit (GenBlock vs) p b) (list_any is_unfit (distributed_from (suc dim) (suc grid_dim) fs bs ps)) fit in
    (dim_known _ (GenBlock vs) b refl refl h.0 (λ e. absurd cc) near.0 narrow.0 two.0, dims_known (suc dim) (suc grid_dim) fs bs ps h.1 near.1 narrow.1 two.1)

-- ---- processors

-- the extents of an arrangement of all nodes
abbrev HasExtents : List ℕ → Processors → Type 0
HasExtents grid (Extents ps) = has_all_nodes grid ps ≡ true
HasExtents grid Unknown = ⊥
HasExtents grid (Missing why) = ⊥

all_nodes : (grid ps : List ℕ) → nat_lt 0 (length ps) ≡ true → nat_lt MAX_RANK (length ps) ≡ false → product ps ≡ product grid → has_all_nodes grid ps ≡ true
all_nodes grid ps some few same = grind (arith, nat_tests)

grid_known : (grid : List ℕ) (count : ℕ) → IsGrid grid → processors_reasons (on_grid grid count) ≡ [] → HasExtents grid (on_grid grid count)
grid_known grid count is none = by ((count == 0) || (count == length grid)) (count == 1) none
  where
    some : nat_lt 0 (length grid) ≡ true
    some = let h = is.some in grind (arith, nat_tests)

    few : nat_lt MAX_RANK (length grid) ≡ false
    few = let h = is.few in grind (arith, nat_tests)

    line : product (product grid ∷ []) ≡ product grid
    line = omega arith

    by : (whole one : Bool) → processors_reasons (if whole then Extents grid else (if one then Extents (product grid ∷ []) else Missing reason.BadArrangement)) ≡ [] →
        HasExtents grid (if whole then Extents grid else (if one then Extents (product grid ∷ []) else Missing reason.BadArrangement))
    by true one none = all_nodes grid grid some few refl
    by false true none = all_nodes grid (product grid ∷ []) refl refl line
    by false false none = absurd cc

extents_known : (ds : List (Option Dim)) → AreNear ds → (ns : List ℕ) × ((extents ds ≡ Some ns) × (length ns ≡ length ds))
extents_known [] near = ([], (refl, refl))
extents_known (None ∷ ds) near = absurd near.0
extents_known (Some d ∷ ds) near = let more = extents_known ds near.1 in (extent d ∷ more.0, (ap (with_extent (Some d)) more.1.0, ap suc more.1.1))

arrangement_known : (grid : List ℕ) (ds : List (Option Dim)) → AreNear ds → nat_lt MAX_RANK (length ds) ≡ false → is_misfit grid ds ≡ false →
    HasExtents grid (known_extents ds (extents ds))
arrangement_known grid ds near few fit =
    let own = extents_known ds near in
    let two = neither ((length ds == 0) || list_any is_empty_dim ds) (passes (λ ns. not (product ns == product grid)) (extents ds)) fit in
    let one = neither (length ds == 0) (list_any is_empty_dim ds) two.0 in
    subst (λ o. HasExtents grid (known_extents ds o)) (sym own.1.0)
    (subst (λ b. HasExtents grid (if b then Unknown else Extents own.0)) (sym one.1)
    (all_nodes grid own.0 (subst (λ n. nat_lt 0 n ≡ true) (sym own.1.1) (above (length ds) one.0)) (ap (nat_lt MAX_RANK) own.1.1 ∙ few)
    (eqb-true (product own.0) (product grid) (holds (product own.0 == product grid) (sym (ap (passes (λ ns. not (product ns == product grid))) own.1.0) ∙ two.1)))))
  where
    above : (n : ℕ) → (n == 0) ≡ false → nat_lt 0 n ≡ true
    above n h = grind (arith, nat_tests)

-- as many dimensions as are distributed, or more
abbrev IsWide : ℕ → Processors → Type 0
IsWide count (Extents ps) = count ≤ length ps
IsWide count Unknown = ⊤
IsWide count (Missing why) = ⊤

grid_wide : (grid : List ℕ) (count : ℕ) → IsWide count (on_grid grid count)
grid_wide grid count = by (count == 0) (count == length grid) (count == 1) refl refl refl
  where
    same : (n : ℕ) → (count == n) ≡ true → count ≤ n
    same n h = let is : count ≡ n = eqb-true count n h in omega (arith, is)

    none : (count == 0) ≡ true → count ≤ length grid
    none h = let is : count ≡ 0 = eqb-true count 0 h in omega (arith, is)

    by : (a b c : Bool) → (count == 0) ≡ a → (count == length grid) ≡ b → (count == 1) ≡ c →
        IsWide count (if a || b then Extents grid else (if c then Extents (product grid ∷ []) else Missing reason.BadArrangement))
    by true b c is same_rank one = none is
    by false true c is same_rank one = same (length grid) same_rank
    by false false true is same_rank one = same 1 one
    by false false false is same_rank one = tt

known_wide : (count : ℕ) (ds : List (Option Dim)) → AreNear ds → (length ds == count) ≡ true → IsWide count (known_extents ds (extents ds))
known_wide count ds near each =
    let own = extents_known ds near in
    let same : length ds ≡ count = eqb-true (length ds) count each in
    let counted : length own.0 ≡ length ds = own.1.1 in
    subst (λ o. IsWide count (known_extents ds o)) (sym own.1.0) (by own.0 (list_any is_empty_dim ds) (omega (arith, same, counted)))
  where
    by : (ns : List ℕ) (b : Bool) → count ≤ length ns → IsWide count (if b then Unknown else Extents ns)
    by ns true h = tt
    by ns false h = h

onto_wide : (o : Option Object) (count : ℕ) → AreNear (object_dims o) → IsWide count (onto_object o count)
onto_wide o count near = by (has_kind is_arrangement_kind o) (length (object_dims o) == count) refl
  where
    by : (a b : Bool) → (length (object_dims o) == count) ≡ b →
        IsWide count (if a && b then known_extents (object_dims o) (extents (object_dims o)) else Missing reason.BadDirective)
    by true true each = known_wide count (object_dims o) near each
    by true false each = tt
    by false b each = tt

onto_known : (grid : List ℕ) (o : Option Object) (count : ℕ) → ((q : Object) → o ≡ Some q → IsRight grid q) → processors_reasons (onto_object o count) ≡ [] →
    HasExtents grid (onto_object o count)
onto_known grid None count right none = absurd cc
onto_known grid (Some o) count right none = by (is_arrangement_kind o.kind) (length o.dims == count) refl none
  where
    own : IsRight grid o
    own = right o refl

    fit : (k : ObjectKind) → is_arrangement_kind k ≡ true → o.kind ≡ k → is_misfit grid o.dims ≡ false
    fit kind.Arrangement h is = subst (λ k. IsOfKind grid k o.dims) is own.of_kind
    fit k h is = absurd (no_value h)

    by : (a b : Bool) → is_arrangement_kind o.kind ≡ a →
        processors_reasons (if a && b then known_extents o.dims (extents o.dims) else Missing reason.BadDirective) ≡ [] →
        HasExtents grid (if a && b then known_extents o.dims (extents o.dims) else Missing reason.BadDirective)
    by true true is none = arrangement_known grid o.dims own.near own.few (fit o.kind is refl)
    by true false is none = absurd cc
    by false b is none = absurd cc

processors_known : (s : Setting) (x : Option Name) (count : ℕ) → IsGrid s.grid → AllByRecursion (IsRight s.grid) s.objects → processors_reasons (processors_of s x count) ≡ [] →
    HasExtents s.grid (processors_of s x count)
processors_known s None count grid right none = grid_known s.grid count grid none
processors_known s (Some x) count grid right none = onto_known s.grid (object s x) count (λ q is. found_right s.grid s.objects x q right is) none

objects_near : (s : Setting) (x : Name) → AllByRecursion (IsRight s.grid) s.objects → AreNear (object_dims (object s x))
objects_near s x right = by (object s x) (λ q is. found_right s.grid s.objects x q right is)
  where
    by : (o : Option Object) → ((q : Object) → o ≡ Some q → IsRight s.grid q) → AreNear (object_dims o)
    by None f = tt
    by (Some q) f = (f q refl).near

processors_wide : (s : Setting) (x : Option Name) (count : ℕ) → AllByRecursion (IsRight s.grid) s.objects → IsWide count (processors_of s x count)
processors_wide s None count right = grid_wide s.grid count
processors_wide s (Some x) count right = onto_wide (object s x) count (objects_near s x right)

-- ---- an entry for each distributed dimension

made_counted : {A B : Type 0} (f : A → Option B) (xs : List A) (ys : List B) → all_or_none f xs ≡ Some ys → length ys ≡ length xs
made_counted f [] ys h = sym (ap length (some_same [] ys h))
made_counted {A} {B} f (x ∷ xs) ys h = by (f x) (all_or_none f xs) h (made_counted f xs)
  where
    by : (o : Option B) (os : Option (List B)) → and_more o os ≡ Some ys → ((zs : List B) → os ≡ Some zs → length zs ≡ length xs) → length ys ≡ suc (length xs)
    by None os h more = absurd (none_some ys h)
    by (Some z) None h more = absurd (none_some ys h)
    by (Some z) (Some zs) h more = sym (ap length (some_same (z ∷ zs) ys h)) ∙ ap suc (more zs refl)

dims_counted : (s : Setting) (dim grid_dim : ℕ) (fs : List directive.Format) (bs : List (Option Dim)) (ps : List ℕ) → length fs ≡ length bs → distributed_count fs ≤ length ps →
    length (distributed_from dim grid_dim (map (format_value s) fs) bs ps) ≡ distributed_count fs
dims_counted s dim grid_dim [] bs ps same wide = refl
dims_counted s dim grid_dim (directive.Undistributed ∷ fs) [] ps same wide = absurd (omega (arith, same))
dims_counted s dim grid_dim (directive.Undistributed ∷ fs) (b ∷ bs) ps same wide = dims_counted s (suc dim) grid_dim fs bs ps (omega (arith, same)) wide
dims_counted s dim grid_dim (directive.Block m ∷ fs) [] ps same wide = absurd (omega (arith, same))
dims_counted s dim grid_dim (directive.Block m ∷ fs) (b ∷ bs) [] same wide = absurd (omega (arith, wide))
dims_counted s dim grid_dim (directive.Block None ∷ fs) (b ∷ bs) (p ∷ ps) same wide =
    ap suc (dims_counted s (suc dim) (suc grid_dim) fs bs ps (omega (arith, same)) (omega (arith, wide)))
dims_counted s dim grid_dim (directive.Block (Some m) ∷ fs) (b ∷ bs) (p ∷ ps) same wide =
    ap suc (dims_counted s (suc dim) (suc grid_dim) fs bs ps (omega (arith, same)) (omega (arith, wide)))
dims_counted s dim grid_dim (directive.Cyclic k ∷ fs) [] ps same wide = absurd (omega (arith, same))
dims_counted s dim grid_dim (directive.Cyclic k ∷ fs) (b ∷ bs) [] same wide = absurd (omega (arith, wide))
dims_counted s dim grid_dim (directive.Cyclic None ∷ fs) (b ∷ bs) (p ∷ ps) same wide =
    ap suc (dims_counted s (suc dim) (suc grid_dim) fs bs ps (omega (arith, same)) (omega (arith, wide)))
dims_counted s dim grid_dim (directive.Cyclic (Some k) ∷ fs) (b ∷ bs) (p ∷ ps) same wide =
    ap suc (dims_counted s (suc dim) (suc grid_dim) fs bs ps (omega (arith, same)) (omega (arith, wide)))
dims_counted s dim grid_dim (directive.GenBlock es ∷ fs) [] ps same wide = absurd (omega (arith, same))
dims_counted s dim grid_dim (directive.GenBlock es ∷ fs) (b ∷ bs) [] same wide = absurd (omega (arith, wide))
dims_counted s dim grid_dim (directive.GenBlock es ∷ fs) (b ∷ bs) (p ∷ ps) same wide =
    ap suc (dims_counted s (suc dim) (suc grid_dim) fs bs ps (omega (arith, same)) (omega (arith, wide)))

-- ---- a distribution of an object

-- an object that may be distributed so: as many formats as dimensions, none of them too wide, and blocks that fit
record MayBe (v : DistributionValues) (grid : List ℕ) (o : Option Object) : Type 0 where
  near : AreNear (object_dims o)
  few : nat_lt MAX_RANK (length (object_dims o)) ≡ false
  each : (length v.formats == length (object_dims o)) ≡ true
  narrow : AllByRecursion IsNarrow (object_dims o)
  fit : list_any is_unfit (distributed_dims v (object_dims o)) ≡ false

may_be : (v : DistributionValues) (grid : List ℕ) (o : Option Object) → ((q : Object) → o ≡ Some q → IsRight grid q) → distributee_reasons v o ≡ [] → MayBe v grid o
may_be v grid None right none = absurd cc
may_be v grid (Some o) right none = by o.kind (length v.formats == length o.dims) refl refl none
  where
    own : IsRight grid o
    own = right o refl

    made : (length v.formats == length o.dims) ≡ true → list_any is_too_wide o.dims ≡ false → list_any is_unfit (distributed_dims v o.dims) ≡ false → MayBe v grid (Some o)
    made each narrow fit = record { near = own.near; few = own.few; each = each; narrow = none_pass is_too_wide o.dims narrow; fit = fit }

    by : (k : ObjectKind) (same : Bool) → o.kind ≡ k → (length v.formats == length o.dims) ≡ same →
        (if not (is_mapped_kind k) || not same then reason.BadDirective ∷ [] else
        (when (is_array_kind k && list_any is_too_wide o.dims) reason.Limit ++ when (list_any is_unfit (distributed_dims v o.dims) || have_small_sum v.formats o.dims) reason.BadDirective)) ≡ [] →
        MayBe v grid (Some o)
    by kind.Array true is each none = let two = empties _ _ none in made each (fails _ reason.Limit two.0) (neither _ _ (fails _ reason.BadDirective two.1)).0
    by kind.Array false is each none = absurd cc
    by kind.Template true is each none = made each (subst (λ k. IsOfKind grid k o.dims) is own.of_kind) (neither _ _ (fails _ reason.BadDirective none)).0
    by kind.Template false is each none = absurd cc
    by kind.Arrangement same is each none = absurd cc

abbrev pub IsGivenBy : Setting → directive.Distribution → Name → Mapping → Type 0
IsGivenBy s d x m = (distributed_as s d x ≡ Some m) × (length m.dims ≡ distributed_count d.formats)

onto_given : (s : Setting) (fs : List directive.Format) (bs : List (Option Dim)) (p : Processors) → HasExtents s.grid p → IsWide (distributed_count fs) p →
    AllByRecursion IsSizeKnown (map (format_value s) fs) → length fs ≡ length bs → AreNear bs → AllByRecursion IsNarrow bs →
    list_any is_unfit (distributed_dims (record { formats = map (format_value s) fs; processors = p }) bs) ≡ false →
    (m : Mapping) × ((distributed_onto s.grid (map (format_value s) fs) bs p ≡ Some m) × (length m.dims ≡ distributed_count fs))
onto_given s fs bs Unknown has wide sizes same near narrow fit = absurd has
onto_given s fs bs (Missing why) has wide sizes same near narrow fit = absurd has
onto_given s fs bs (Extents ps) has wide sizes same near narrow fit =
    let ds = distributed_from 0 0 (map (format_value s) fs) bs ps in
    let made = value_of (all_or_none map_dim ds) (all_made map_dim ds (dims_known 0 0 (map (format_value s) fs) bs ps sizes near narrow fit)) in
    let onto : Mapping = record { grid = ps; dims = made.0 } in (
      onto,
      (
        (λ i. if has i then option_map (λ entries. record { grid = ps; dims = entries }) (made.1 i) else None),
        made_counted map_dim ds made.0 made.1 ∙ dims_counted s 0 0 fs bs ps same wide,
      ),
    )

-- the mapping that it gives is known, with an entry for each dimension that it distributes
pub distribution_given : (s : Setting) → ((x : Name) (a : Symbol) → find_symbol x s.names ≡ Some a → is_known a ≡ true) → IsGrid s.grid → AllByRecursion (IsRight s.grid) s.objects →
    (u : SymbolTable) (d : directive.Distribution) (x : Name) → AllByRecursion (IsTyped u) (flat_map format_expressions d.formats) →
    distribution_reasons (distribution_values s d) ≡ [] → distributee_reasons (distribution_values s d) (object s x) ≡ [] → (m : Mapping) × IsGivenBy s d x m
distribution_given s known grid right u d x typed none own =
    let v = distribution_values s d in
    let two = empties (flat_map format_reasons v.formats) (processors_reasons v.processors) none in
    let may = may_be v s.grid (object s x) (λ q is. found_right s.grid s.objects x q right is) own in
    let same : length d.formats ≡ length (dims_of s x) = sym (length-map d.formats (format_value s)) ∙ eqb-true (length v.formats) (length (dims_of s x)) may.each in
    let given = onto_given s d.formats (dims_of s x) v.processors (processors_known s d.onto (distributed_count d.formats) grid right two.1)
    (processors_wide s d.onto (distributed_count d.formats) right) (formats_known s known u d.formats typed two.0) same may.near may.narrow may.fit in
    (given.0, (ap (λ b. if b then distributed_onto s.grid v.formats (dims_of s x) v.processors else None) (fit (length (dims_of s x)) _ may.few may.each) ∙ given.1.0, given.1.1))
  where
    fit : (n : ℕ) (b : Bool) → nat_lt MAX_RANK n ≡ false → b ≡ true → (nat_le n MAX_RANK && b) ≡ true
    fit n b few each = by (nat_le n MAX_RANK) (let h = few in grind (arith, nat_tests))
      where
        by : (a : Bool) → a ≡ true → (a && b) ≡ true
        by true h = each
        by false h = absurd (no_value h)
