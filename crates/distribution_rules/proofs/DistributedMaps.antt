-- The mapping that a distribution gives its object, where neither breaks a rule.
use Rattle.std.proofs.Common.{◌≡◌, ◌≢◌, ℕ, suc, pos, ◌+◌, ◌≤◌, Bool, true, false, List, [], ◌∷◌, ◌++◌, length, nat_lt, unsigned_abs, Option, Some, None, refl, sym, ap, subst, ◌∙◌, arith}
use Rattle.std.specs.Prelude.{All, AllPairs, IfSome, option_map, slice_get, if◌then◌else◌, ◌==◌, ◌||◌, not, ◌&&◌}
use Rattle.std.specs.List.{flat_map, list_any}
use Rattle.std.proofs.lemmas.Bool.Decides.{nat_tests}
use Rattle.std.proofs.lemmas.List.Elements.{All-cons, All-head, All-nil, All-tail}
use Rattle.std.proofs.lemmas.List.Kept.{AllPairs-cons}
use Rattle.std.proofs.lemmas.Option.{same_Some, slice_get_within}
use Rattle.hpf_base.specs.ElementOrder.{product}
use Rattle.hpf_base.specs.Grid.{IsGrid}
use Rattle.mappings.specs.Mapping.{IsAlign, IsForm, MoveApart, moves_along}
use Rattle.hpf_base.specs.declared.limits.TheConstants.{MAX_BOUND, MAX_NODES}
use Rattle.mappings.specs.declared.limits.TheConstants.{MAX_TEMPLATE_EXTENT}
use Rattle.mappings.specs.declared.mapping.AlignDim.TheVariants.{Linear}
use Rattle.mappings.specs.declared.mapping.Form.{Form}
use Rattle.mappings.specs.declared.mapping.Form.TheVariants.{Whole}
use Rattle.mappings.specs.declared.mapping.MapDim.{MapDim}
use Rattle.mappings.specs.declared.mapping.Mapping.{Mapping}
use Rattle.hpf_base.specs.declared.refusal.Reason.TheVariants as reason
use Rattle.expression_rules.specs.Dims.{IsDim, extent}
use Rattle.expression_rules.specs.declared.dims.Dim.{Dim}
use Rattle.declarations.specs.Reasons.{when}
use Rattle.distribution_rules.specs.declared.evaluated_formats.DistributionValues.{DistributionValues}
use Rattle.distribution_rules.specs.declared.evaluated_formats.FormatValue.{FormatValue}
use Rattle.distribution_rules.specs.declared.evaluated_formats.FormatValue.TheVariants.{Undistributed, DefaultBlock, Block, Cyclic, GenBlock}
use Rattle.distribution_rules.specs.declared.evaluated_formats.Processors.{Processors}
use Rattle.distribution_rules.specs.declared.evaluated_formats.Processors.TheVariants.{Extents, Unknown, Missing}
use Rattle.distribution_rules.specs.declared.objects.Object.{Object}
use Rattle.distribution_rules.specs.Dimensions.{is_too_wide}
use Rattle.distribution_rules.specs.Distributed.{all_or_none, and_more, are_formats, distributed_onto, form_of, has_all_nodes, map_dim, map_dim_with}
use Rattle.distribution_rules.specs.DistributionRules.{DistributedDim, are_unfit, distributed_dims, distributed_from, format_reasons, has_other_count, has_small_sum, have_small_sum, is_unfit, leaves_some, processors_reasons}
use Rattle.distribution_rules.specs.DistributedSteps.{distributed_dim}
use Rattle.distribution_rules.specs.MappingOf.{GivesMapping, IsMappingOf}
use Rattle.distribution_rules.specs.Setting.{Setting, has_kind, is_array_kind, is_mapped_kind}
use Rattle.distribution_rules.proofs.ArrangementExtents.{as_many, few_nodes, is_grid}
use Rattle.distribution_rules.proofs.DistributedLines.{form_is, got, if_some, neither, none_left, two_none}

-- ---- the entries

-- an entry that lies along a dimension from dim on, and on one of the arrangement from g on
record IsEntry (ds : List (Option Dim)) (ps : List ℕ) (dim g : ℕ) (e : MapDim) : Type 0 where
  at : ℕ
  bounds : Dim
  align : e.align ≡ Linear at (pos 1) (pos 0)
  is : slice_get ds at ≡ Some (Some bounds)
  lower : e.line.lower ≡ bounds.lower
  positions : e.line.extent ≡ extent bounds
  few : extent bounds ≤ MAX_TEMPLATE_EXTENT
  procs : slice_get ps e.grid_dim ≡ Some e.line.procs
  form : IsForm e.line.form e.line.extent e.line.procs
  distributed : e.line.form ≢ Whole
  after : dim ≤ at
  later : g ≤ e.grid_dim

weaken : (ds : List (Option Dim)) (ps : List ℕ) (dim g more : ℕ) (e : MapDim) → g ≤ more → IsEntry ds ps (suc dim) more e → IsEntry ds ps dim g e
weaken ds ps dim g more e before is = record {
  at = is.at;
  bounds = is.bounds;
  align = is.align;
  is = is.is;
  lower = is.lower;
  positions = is.positions;
  few = is.few;
  procs = is.procs;
  form = is.form;
  distributed = is.distributed;
  after = omega (arith, is.after);
  later = omega (arith, is.later, before);
}

-- two entries lie along different dimensions, and on different ones of the arrangement
abbrev Apart : MapDim → MapDim → Type 0
Apart x y = (x.grid_dim ≢ y.grid_dim) × MoveApart x.align y.align

along_one : (x : MapDim) (at k : ℕ) → x.align ≡ Linear at (pos 1) (pos 0) → moves_along x.align ≡ Some k → at ≡ k
along_one x at k is moves = same_Some at k (sym (ap moves_along is) ∙ moves)

apart : (ds : List (Option Dim)) (ps : List ℕ) (dim g : ℕ) (x y : MapDim) → x.align ≡ Linear dim (pos 1) (pos 0) → x.grid_dim ≡ g → IsEntry ds ps (suc dim) (suc g) y → Apart x y
apart ds ps dim g x y along on is = (
  λ h. omega (arith, h, on, is.later),
  λ k this that. omega (arith, along_one x dim k along this, along_one y is.at k is.align that, is.after),
)

-- what is made of the first dimension and of those after it
record Split (wide : Bool) (f : Option Form) (rest : Option (List MapDim)) (make : Form → MapDim) (ms : List MapDim) : Type 0 where
  within : wide ≡ false
  form : Form
  others : List MapDim
  is : f ≡ Some form
  after : rest ≡ Some others
  all : make form ∷ others ≡ ms

split : (wide : Bool) (f : Option Form) (rest : Option (List MapDim)) (make : Form → MapDim) (ms : List MapDim) →
    and_more (if wide then None else option_map make f) rest ≡ Some ms → Split wide f rest make ms
split true f rest make ms is = absurd cc
split false None rest make ms is = absurd cc
split false (Some f) None make ms is = absurd cc
split false (Some f) (Some others) make ms is = record { within = refl; form = f; others = others; is = refl; after = refl; all = same_Some (make f ∷ others) ms is }

at_most : (limit n : ℕ) → nat_lt limit n ≡ false → n ≤ limit
at_most limit n h = grind (arith, nat_tests)

abbrev Made : List (Option Dim) → List ℕ → ℕ → ℕ → List MapDim → Type 0
Made ds ps dim g ms = All (IsEntry ds ps dim g) ms × AllPairs Apart ms

none_made : (ds : List (Option Dim)) (ps : List ℕ) (dim g : ℕ) (ms : List MapDim) → Some [] ≡ Some ms → Made ds ps dim g ms
none_made ds ps dim g ms is = subst (Made ds ps dim g) (same_Some [] ms is) (All-nil (IsEntry ds ps dim g), λ i j d before within. absurd (omega (arith, within)))

-- the entries from a dimension on, which is distributed
more : (ds : List (Option Dim)) (ps : List ℕ) (f : FormatValue) (fs : List FormatValue) (dim g : ℕ) (b : Option Dim) (bs : List (Option Dim)) (q : ℕ) (ms : List MapDim) (dds : List DistributedDim) →
    slice_get ds dim ≡ Some b → slice_get ps g ≡ Some q → 1 ≤ q →
    ((xs : List MapDim) → flat_map format_reasons fs ≡ [] → list_any is_unfit dds ≡ false → have_small_sum fs bs ≡ false → all_or_none map_dim dds ≡ Some xs →
    Made ds ps (suc dim) (suc g) xs) →
    format_reasons f ++ flat_map format_reasons fs ≡ [] →
    (is_unfit (distributed_dim f dim b g q) || list_any is_unfit dds) ≡ false → (has_small_sum f b || have_small_sum fs bs) ≡ false →
    and_more (map_dim (distributed_dim f dim b g q)) (all_or_none map_dim dds) ≡ Some ms → Made ds ps dim g ms
more ds ps f fs dim g None bs q ms dds at on some rest none all taken is = absurd cc
more ds ps f fs dim g (Some d) bs q ms dds at on some rest none all taken is =
    let make = map_dim_with (distributed_dim f dim (Some d) g q) d in
    let s = split (is_too_wide (Some d)) (form_of f (extent d) q) (all_or_none map_dim dds) make ms is in
    let free = none_left (format_reasons f) (flat_map format_reasons fs) none in
    let fit = neither (are_unfit f q (Some d)) (list_any is_unfit dds) all in
    let large = neither (has_other_count f q) (leaves_some f q d) fit.0 in
    let sums = neither (has_small_sum f (Some d)) (have_small_sum fs bs) taken in
    let few : extent d ≤ MAX_TEMPLATE_EXTENT = at_most MAX_TEMPLATE_EXTENT (extent d) s.within in
    let good = form_is f d q s.form some few free.0 large.1 sums.0 s.is in
    let others = rest s.others free.1 fit.1 sums.1 s.after in
    let first : IsEntry ds ps dim g (make s.form) = record {
      at = dim;
      bounds = d;
      align = refl;
      is = at;
      lower = refl;
      positions = refl;
      few = few;
      procs = on;
      form = good.0;
      distributed = good.1;
      after = omega arith;
      later = omega arith;
    } in
    subst (Made ds ps dim g) s.all (
      All-cons (IsEntry ds ps dim g) (make s.form) s.others first (λ k z within. weaken ds ps dim g (suc g) _ (omega arith) (others.0 k z within)),
      AllPairs-cons Apart (make s.form) s.others (λ k z within. apart ds ps dim g (make s.form) _ refl refl (others.0 k z within)) others.1,
    )

-- a list goes on as another one
abbrev GoesOn : {X : Type 0} → List X → ℕ → List X → Type 0
GoesOn xs n ys = (j : ℕ) → slice_get xs (n + j) ≡ slice_get ys j

here : {X : Type 0} (xs : List X) (n : ℕ) (y : X) (ys : List X) → GoesOn xs n (y ∷ ys) → slice_get xs n ≡ Some y
here xs n y ys on = let none : n ≡ n + 0 = omega arith in ap (slice_get xs) none ∙ on 0

next : {X : Type 0} (xs : List X) (n : ℕ) (y : X) (ys : List X) → GoesOn xs n (y ∷ ys) → GoesOn xs (suc n) ys
next xs n y ys on j = let same_place : suc n + j ≡ n + suc j = omega arith in ap (slice_get xs) same_place ∙ on (suc j)

made : (ds : List (Option Dim)) (ps : List ℕ) (dim g : ℕ) (fs : List FormatValue) (bs : List (Option Dim)) (qs : List ℕ) (ms : List MapDim) →
    GoesOn ds dim bs → GoesOn ps g qs → All (λ q. 1 ≤ q) qs → flat_map format_reasons fs ≡ [] → list_any is_unfit (distributed_from dim g fs bs qs) ≡ false →
    have_small_sum fs bs ≡ false → all_or_none map_dim (distributed_from dim g fs bs qs) ≡ Some ms → Made ds ps dim g ms
made ds ps dim g [] bs qs ms at on some none all taken is = none_made ds ps dim g ms is
made ds ps dim g (Undistributed ∷ fs) [] qs ms at on some none all taken is = none_made ds ps dim g ms is
made ds ps dim g (Undistributed ∷ fs) (b ∷ bs) qs ms at on some none all taken is =
    let rest = made ds ps (suc dim) g fs bs qs ms (next ds dim b bs at) on some none all taken is in
    (λ k z within. weaken ds ps dim g g _ (omega arith) (rest.0 k z within), rest.1)
made ds ps dim g (DefaultBlock ∷ fs) [] qs ms at on some none all taken is = none_made ds ps dim g ms is
made ds ps dim g (DefaultBlock ∷ fs) (b ∷ bs) [] ms at on some none all taken is = none_made ds ps dim g ms is
made ds ps dim g (DefaultBlock ∷ fs) (b ∷ bs) (q ∷ qs) ms at on some none all taken is =
    more ds ps DefaultBlock fs dim g b bs q ms (distributed_from (suc dim) (suc g) fs bs qs) (here ds dim b bs at) (here ps g q qs on) (All-head (λ q. 1 ≤ q) q qs some)
    (λ xs. made ds ps (suc dim) (suc g) fs bs qs xs (next ds dim b bs at) (next ps g q qs on) (All-tail (λ q. 1 ≤ q) q qs some)) none all taken is
made ds ps dim g (Block m ∷ fs) [] qs ms at on some none all taken is = none_made ds ps dim g ms is
made ds ps dim g (Block m ∷ fs) (b ∷ bs) [] ms at on some none all taken is = none_made ds ps dim g ms is
made ds ps dim g (Block m ∷ fs) (b ∷ bs) (q ∷ qs) ms at on some none all taken is =
    more ds ps (Block m) fs dim g b bs q ms (distributed_from (suc dim) (suc g) fs bs qs) (here ds dim b bs at) (here ps g q qs on) (All-head (λ q. 1 ≤ q) q qs some)
    (λ xs. made ds ps (suc dim) (suc g) fs bs qs xs (next ds dim b bs at) (next ps g q qs on) (All-tail (λ q. 1 ≤ q) q qs some)) none all taken is
made ds ps dim g (Cyclic k ∷ fs) [] qs ms at on some none all taken is = none_made ds ps dim g ms is
made ds ps dim g (Cyclic k ∷ fs) (b ∷ bs) [] ms at on some none all taken is = none_made ds ps dim g ms is
made ds ps dim g (Cyclic k ∷ fs) (b ∷ bs) (q ∷ qs) ms at on some none all taken is =
    more ds ps (Cyclic k) fs dim g b bs q ms (distributed_from (suc dim) (suc g) fs bs qs) (here ds dim b bs at) (here ps g q qs on) (All-head (λ q. 1 ≤ q) q qs some)
    (λ xs. made ds ps (suc dim) (suc g) fs bs qs xs (next ds dim b bs at) (next ps g q qs on) (All-tail (λ q. 1 ≤ q) q qs some)) none all taken is
made ds ps dim g (GenBlock ns ∷ fs) [] qs ms at on some none all taken is = none_made ds ps dim g ms is
made ds ps dim g (GenBlock ns ∷ fs) (b ∷ bs) [] ms at on some none all taken is = none_made ds ps dim g ms is
made ds ps dim g (GenBlock ns ∷ fs) (b ∷ bs) (q ∷ qs) ms at on some none all taken is =
    more ds ps (GenBlock ns) fs dim g b bs q ms (distributed_from (suc dim) (suc g) fs bs qs) (here ds dim b bs at) (here ps g q qs on) (All-head (λ q. 1 ≤ q) q qs some)
    (λ xs. made ds ps (suc dim) (suc g) fs bs qs xs (next ds dim b bs at) (next ps g q qs on) (All-tail (λ q. 1 ≤ q) q qs some)) none all taken is

-- ---- the mapping

map_some : {A B : Type 0} (f : A → B) (x : Option A) (b : B) → option_map f x ≡ Some b → (a : A) × (x ≡ Some a) × (f a ≡ b)
map_some f None b is = absurd cc
map_some f (Some a) b is = (a, refl, same_Some (f a) b is)

valid : (grid : List ℕ) (ds : List (Option Dim)) (ps : List ℕ) (es : List MapDim) → IsGrid ps → product ps ≡ product grid → All (λ d. IfSome d IsDim) ds → Made ds ps 0 0 es →
    IsMappingOf grid ds (record { grid = ps; dims = es })
valid grid ds ps es is onto bounded entries = record {
  valid = record {
    entries = λ k z within.
        let e = entries.0 k z within in
        let nodes = got (λ n. (1 ≤ n) × (n ≤ MAX_NODES)) ps (few_nodes ps is) _ _ e.procs in
        record {
          line = record {
            some = nodes.0;
            few = nodes.1;
            extent = subst (λ n. n ≤ MAX_TEMPLATE_EXTENT) (sym e.positions) e.few;
            lower = subst (λ l. unsigned_abs l ≤ MAX_BOUND) (sym e.lower) (got (λ d. IfSome d IsDim) ds bounded e.at (Some e.bounds) e.is).lower;
            form = e.form;
          };
          distributed = e.distributed;
          procs = e.procs;
          align = subst (IsAlign (length ds)) (sym e.align) (slice_get_within ds e.at (Some e.bounds) e.is);
        };
    grid_dims = λ i j z before within. (entries.1 i j z before within).0;
    apart = λ i j z before within. (entries.1 i j z before within).1;
  };
  onto = onto;
  lines = λ k z within. let e = entries.0 k z within in record { dim = e.at; bounds = e.bounds; align = e.align; is = e.is; lower = e.lower; positions = e.positions };
}

onto_processors : (grid : List ℕ) (fs : List FormatValue) (ds : List (Option Dim)) (p : Processors) (m : Mapping) → IsGrid grid → All (λ d. IfSome d IsDim) ds →
    flat_map format_reasons fs ≡ [] → list_any is_unfit (distributed_dims (record { formats = fs; processors = p }) ds) ≡ false →
    have_small_sum fs ds ≡ false →
    (if are_formats fs ds then distributed_onto grid fs ds p else None) ≡ Some m → IsMappingOf grid ds m
onto_processors grid fs ds (Extents ps) m is bounded none all taken gives =
    let made_of = all_or_none map_dim (distributed_from 0 0 fs ds ps) in
    let onto = (if_some (are_formats fs ds) (distributed_onto grid fs ds (Extents ps)) m gives).1 in
    let nodes = if_some (has_all_nodes grid ps) (option_map (λ es. record { grid = ps; dims = es }) made_of) m onto in
    let entries = map_some (λ es. record { grid = ps; dims = es }) made_of m nodes.1 in
    let arrangement = is_grid grid ps is nodes.0 in
    subst (IsMappingOf grid ds) entries.2
    (valid grid ds ps entries.0 arrangement (as_many grid ps nodes.0) bounded
    (made ds ps 0 0 fs ds ps entries.0 (from_start ds) (from_start ps) arrangement.extents none all taken entries.1))
  where
    from_start : {X : Type 0} (xs : List X) → GoesOn xs 0 xs
    from_start xs j = let same_place : 0 + j ≡ j = omega arith in ap (slice_get xs) same_place
onto_processors grid fs ds Unknown m is bounded none all taken gives = let x = if_some (are_formats fs ds) None m gives in absurd cc
onto_processors grid fs ds (Missing why) m is bounded none all taken gives = let x = if_some (are_formats fs ds) None m gives in absurd cc

-- the blocks fit
fit_all : (wrong wide unfit small : Bool) → (if wrong then reason.BadDirective ∷ [] else (when wide reason.Limit ++ when (unfit || small) reason.BadDirective)) ≡ [] →
    (unfit ≡ false) × (small ≡ false)
fit_all true wide unfit small none = absurd cc
fit_all false wide unfit small none = neither unfit small (two_none wide (unfit || small) reason.Limit reason.BadDirective none).1

pub gives_mapping : (s : Setting) (v : DistributionValues) (o : Object) (m : Mapping) → GivesMapping s v o m
gives_mapping s v o m is bounded own other gives =
    let fit = fit_all (not (has_kind is_mapped_kind (Some o)) || not (length v.formats == length o.dims)) (has_kind is_array_kind (Some o) && list_any is_too_wide o.dims)
    (list_any is_unfit (distributed_dims v o.dims)) (have_small_sum v.formats o.dims) other in
    onto_processors s.grid v.formats o.dims v.processors m is bounded (none_left (flat_map format_reasons v.formats) (processors_reasons v.processors) own).0
    fit.0 fit.1 gives
