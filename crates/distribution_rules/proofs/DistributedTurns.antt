-- The distributed dimensions of an object, one after the other.
use Rattle.std.proofs.Common.{◌≡◌, ℕ, suc, ◌+◌, ◌<◌, ◌≤◌, Bool, true, false, List, [], ◌∷◌, ◌++◌, drop, length, get_or, Option, Some, None, add-one, append_assoc, drop-cons, subst, refl, sym, ap, ◌∙◌, arith}
use Rattle.std.specs.Prelude.{◌||◌, All, IfSome, option_and_then, option_map}
use Rattle.std.specs.List.{list_any}
use Rattle.std.proofs.lemmas.List.{drop-drop}
use Rattle.std.proofs.lemmas.List.Elements.{All-drop, All-head}
use Rattle.hpf_base.specs.Grid.{IsGrid}
use Rattle.hpf_base.specs.declared.limits.TheConstants.{MAX_NODES}
use Rattle.mappings.specs.declared.mapping.MapDim.{MapDim}
use Rattle.expression_rules.proofs.Lists.{drop_item}
use Rattle.distribution_rules.specs.Distributed.{all_or_none, and_more, map_dim}
use Rattle.expression_rules.specs.declared.dims.Dim.{Dim}
use Rattle.distribution_rules.specs.declared.evaluated_formats.FormatValue.{FormatValue}
use Rattle.distribution_rules.specs.declared.evaluated_formats.FormatValue.TheVariants.{Undistributed, DefaultBlock, Block, Cyclic, GenBlock}
use Rattle.distribution_rules.specs.DistributionRules.{DistributedDim, distributed_from, is_unfit}
use Rattle.distribution_rules.specs.DistributedSteps.{and_entries, distributed_at, distributed_dim, entry_if, procs_for, unfit_at, used}
use Rattle.distribution_rules.proofs.ArrangementExtents.{few_nodes}

-- without processors
no_procs : (dim g : ℕ) (fs : List FormatValue) (bs : List (Option Dim)) → distributed_from dim g fs bs [] ≡ []
no_procs dim g [] bs = refl
no_procs dim g (Undistributed ∷ fs) [] = refl
no_procs dim g (Undistributed ∷ fs) (b ∷ bs) = no_procs (suc dim) g fs bs
no_procs dim g (DefaultBlock ∷ fs) [] = refl
no_procs dim g (DefaultBlock ∷ fs) (b ∷ bs) = refl
no_procs dim g (Block m ∷ fs) [] = refl
no_procs dim g (Block m ∷ fs) (b ∷ bs) = refl
no_procs dim g (Cyclic k ∷ fs) [] = refl
no_procs dim g (Cyclic k ∷ fs) (b ∷ bs) = refl
no_procs dim g (GenBlock ns ∷ fs) [] = refl
no_procs dim g (GenBlock ns ∷ fs) (b ∷ bs) = refl

add-none : (n : ℕ) → n + 0 ≡ n
add-none n = omega arith

-- the rest after a dimension, where so many dimensions of the arrangement are taken
abbrev rest : ℕ → ℕ → Option ℕ → List FormatValue → List (Option Dim) → List ℕ → List DistributedDim
rest dim g taken fs bs ps = distributed_from (suc dim) (g + used taken) fs bs (drop (used taken) ps)

abbrev Step : FormatValue → Type 0
Step f = (dim g : ℕ) (fs : List FormatValue) (b : Option Dim) (bs : List (Option Dim)) (ps : List ℕ) →
    distributed_from dim g (f ∷ fs) (b ∷ bs) ps ≡ distributed_at f dim b g (procs_for f ps) ++ rest dim g (procs_for f ps) fs bs ps

-- one dimension and those after it
step : (f : FormatValue) → Step f
step Undistributed dim g fs b bs ps = ap (λ m. distributed_from (suc dim) m fs bs ps) (sym (add-none g))
step DefaultBlock dim g fs b bs [] = sym (no_procs (suc dim) (g + 0) fs bs)
step DefaultBlock dim g fs b bs (p ∷ ps) =
    ap (λ m. record { format = DefaultBlock; dim = dim; bounds = b; grid_dim = g; procs = p } ∷ distributed_from (suc dim) m fs bs ps) (sym (add-one g))
step (Block n) dim g fs b bs [] = sym (no_procs (suc dim) (g + 0) fs bs)
step (Block n) dim g fs b bs (p ∷ ps) =
    ap (λ m. record { format = Block n; dim = dim; bounds = b; grid_dim = g; procs = p } ∷ distributed_from (suc dim) m fs bs ps) (sym (add-one g))
step (Cyclic n) dim g fs b bs [] = sym (no_procs (suc dim) (g + 0) fs bs)
step (Cyclic n) dim g fs b bs (p ∷ ps) =
    ap (λ m. record { format = Cyclic n; dim = dim; bounds = b; grid_dim = g; procs = p } ∷ distributed_from (suc dim) m fs bs ps) (sym (add-one g))
step (GenBlock ns) dim g fs b bs [] = sym (no_procs (suc dim) (g + 0) fs bs)
step (GenBlock ns) dim g fs b bs (p ∷ ps) =
    ap (λ m. record { format = GenBlock ns; dim = dim; bounds = b; grid_dim = g; procs = p } ∷ distributed_from (suc dim) m fs bs ps) (sym (add-one g))

-- the distributed dimensions from a dimension on, where so many dimensions of the arrangement are taken
abbrev pub from : List FormatValue → List (Option Dim) → List ℕ → ℕ → ℕ → List DistributedDim
from fs bs ps i g = distributed_from i g (drop i fs) (drop i bs) (drop g ps)

-- what is left of a list from an element on
drop_at : {X : Type 0} (xs : List X) (n : ℕ) (z : X) → n < length xs → drop n xs ≡ get_or xs n z ∷ drop (n + 1) xs
drop_at xs n z within = drop-cons xs n z within ∙ ap (λ m. get_or xs n z ∷ drop m xs) (sym (add-one n))

-- a turn of a loop over the dimensions
pub from_next : (fs : List FormatValue) (bs : List (Option Dim)) (ps : List ℕ) (i g : ℕ) (f : FormatValue) (z : Option Dim) (taken : Option ℕ) →
    i < length fs → i < length bs → f ≡ get_or fs i f → taken ≡ procs_for f (drop g ps) →
    from fs bs ps i g ≡ distributed_at f i (get_or bs i z) g taken ++ from fs bs ps (i + 1) (g + used taken)
from_next fs bs ps i g f z taken in_formats in_dims is takes =
    let b = get_or bs i z in
    (λ k. distributed_from i g (drop_item fs i f in_formats is k) (drop_at bs i z in_dims k) (drop g ps))
    ∙ step f i g (drop (i + 1) fs) b (drop (i + 1) bs) (drop g ps)
    ∙ ap (λ t. distributed_at f i b g t ++ rest i g t (drop (i + 1) fs) (drop (i + 1) bs) (drop g ps)) (sym takes)
    ∙ (λ k. distributed_at f i b g taken ++ distributed_from (sym (add-one i) k) (g + used taken) (drop (i + 1) fs) (drop (i + 1) bs) (drop-drop (used taken) g ps k))

-- the dimension of the arrangement that comes next is no later than the dimension
pub next_few : (g h i : ℕ) (taken : Option ℕ) → h ≡ g + used taken → g ≤ i → h ≤ i + 1
next_few g h i None next few = omega arith
next_few g h i (Some p) next few = omega arith

or_false : (a : Bool) → (a || false) ≡ a
or_false true = refl
or_false false = refl

unfit_alone : (f : FormatValue) (i : ℕ) (b : Option Dim) (g : ℕ) (taken : Option ℕ) → list_any is_unfit (distributed_at f i b g taken) ≡ unfit_at f b taken
unfit_alone f i b g None = refl
unfit_alone f i b g (Some p) = or_false (unfit_at f b (Some p))

or_assoc : (a b c : Bool) → ((a || b) || c) ≡ (a || (b || c))
or_assoc true b c = refl
or_assoc false b c = refl

any_append : {X : Type 0} (test : X → Bool) (xs ys : List X) → list_any test (xs ++ ys) ≡ (list_any test xs || list_any test ys)
any_append test [] ys = refl
any_append test (x ∷ xs) ys = ap (λ b. test x || b) (any_append test xs ys) ∙ sym (or_assoc (test x) (list_any test xs) (list_any test ys))

-- a turn of a loop that looks for blocks that don't fit
pub any_next : (fs : List FormatValue) (bs : List (Option Dim)) (ps : List ℕ) (i g : ℕ) (f : FormatValue) (z : Option Dim) (taken : Option ℕ) (so_far found all : Bool) (h : ℕ) →
    i < length fs → i < length bs → f ≡ get_or fs i f → taken ≡ procs_for f (drop g ps) → found ≡ unfit_at f (get_or bs i z) taken → h ≡ g + used taken →
    (so_far || list_any is_unfit (from fs bs ps i g)) ≡ all → ((so_far || found) || list_any is_unfit (from fs bs ps (i + 1) h)) ≡ all
any_next fs bs ps i g f z taken so_far found all h in_formats in_dims is takes of_one next so_far_is =
    let b = get_or bs i z in
    or_assoc so_far found (list_any is_unfit (from fs bs ps (i + 1) h))
    ∙ ap (λ t. so_far || t)
    ((λ k. (of_one ∙ sym (unfit_alone f i b g taken)) k || list_any is_unfit (from fs bs ps (i + 1) (next k)))
    ∙ sym (any_append is_unfit (distributed_at f i b g taken) (from fs bs ps (i + 1) (g + used taken)))
    ∙ sym (ap (list_any is_unfit) (from_next fs bs ps i g f z taken in_formats in_dims is takes)))
    ∙ so_far_is

-- ---- the entries of a mapping

none_first : (ms : Option (List MapDim)) → and_entries (Some []) ms ≡ ms
none_first None = refl
none_first (Some ms) = refl

entries_assoc : (a b c : Option (List MapDim)) → and_entries (and_entries a b) c ≡ and_entries a (and_entries b c)
entries_assoc None b c = refl
entries_assoc (Some a) None c = refl
entries_assoc (Some a) (Some b) None = refl
entries_assoc (Some a) (Some b) (Some c) = ap Some (append_assoc a b c)

one_before : (m : Option MapDim) (a b : Option (List MapDim)) → and_entries (and_more m a) b ≡ and_more m (and_entries a b)
one_before None a b = refl
one_before (Some m) None b = refl
one_before (Some m) (Some a) None = refl
one_before (Some m) (Some a) (Some b) = refl

all_append : (xs ys : List DistributedDim) → all_or_none map_dim (xs ++ ys) ≡ and_entries (all_or_none map_dim xs) (all_or_none map_dim ys)
all_append [] ys = sym (none_first (all_or_none map_dim ys))
all_append (x ∷ xs) ys = ap (and_more (map_dim x)) (all_append xs ys) ∙ sym (one_before (map_dim x) (all_or_none map_dim xs) (all_or_none map_dim ys))

alone : (m : Option MapDim) → and_more m (Some []) ≡ option_map (λ e. e ∷ []) m
alone None = refl
alone (Some m) = refl

entry_alone : (f : FormatValue) (i : ℕ) (b : Option Dim) (g : ℕ) (taken : Option ℕ) →
    all_or_none map_dim (distributed_at f i b g taken) ≡ entry_if taken (option_and_then (λ p. map_dim (distributed_dim f i b g p)) taken)
entry_alone f i b g None = refl
entry_alone f i b g (Some p) = alone (map_dim (distributed_dim f i b g p))

-- a turn of a loop that makes the entries
pub entries_next : (fs : List FormatValue) (bs : List (Option Dim)) (ps : List ℕ) (i g : ℕ) (f : FormatValue) (z : Option Dim) (taken : Option ℕ)
    (entry : Option MapDim) (so_far after all : Option (List MapDim)) (h : ℕ) → i < length fs → i < length bs → f ≡ get_or fs i f → taken ≡ procs_for f (drop g ps) →
    entry ≡ option_and_then (λ p. map_dim (distributed_dim f i (get_or bs i z) g p)) taken → after ≡ and_entries so_far (entry_if taken entry) →
    h ≡ g + used taken → and_entries so_far (all_or_none map_dim (from fs bs ps i g)) ≡ all → and_entries after (all_or_none map_dim (from fs bs ps (i + 1) h)) ≡ all
entries_next fs bs ps i g f z taken entry so_far after all h in_formats in_dims is takes is_entry more next so_far_is =
    let b = get_or bs i z in
    let rest = all_or_none map_dim (from fs bs ps (i + 1) (g + used taken)) in
    (λ k. and_entries (more k) (all_or_none map_dim (from fs bs ps (i + 1) (next k))))
    ∙ entries_assoc so_far (entry_if taken entry) rest
    ∙ ap (and_entries so_far)
    (ap (λ e. and_entries e rest) (ap (entry_if taken) is_entry ∙ sym (entry_alone f i b g taken))
    ∙ sym (all_append (distributed_at f i b g taken) (from fs bs ps (i + 1) (g + used taken)))
    ∙ sym (ap (all_or_none map_dim) (from_next fs bs ps i g f z taken in_formats in_dims is takes)))
    ∙ so_far_is

-- ---- the extent that a format takes

first_few : (f : FormatValue) (ps : List ℕ) → All (λ n. (1 ≤ n) × (n ≤ MAX_NODES)) ps → IfSome (procs_for f ps) (λ n. (1 ≤ n) × (n ≤ MAX_NODES))
first_few Undistributed ps few = tt
first_few DefaultBlock [] few = tt
first_few DefaultBlock (p ∷ ps) few = All-head (λ n. (1 ≤ n) × (n ≤ MAX_NODES)) p ps few
first_few (Block m) [] few = tt
first_few (Block m) (p ∷ ps) few = All-head (λ n. (1 ≤ n) × (n ≤ MAX_NODES)) p ps few
first_few (Cyclic k) [] few = tt
first_few (Cyclic k) (p ∷ ps) few = All-head (λ n. (1 ≤ n) × (n ≤ MAX_NODES)) p ps few
first_few (GenBlock ns) [] few = tt
first_few (GenBlock ns) (p ∷ ps) few = All-head (λ n. (1 ≤ n) × (n ≤ MAX_NODES)) p ps few

-- it is one of the extents
pub taken_few : (f : FormatValue) (ps : List ℕ) (g : ℕ) (taken : Option ℕ) → taken ≡ procs_for f (drop g ps) → IsGrid ps → IfSome taken (λ n. (1 ≤ n) × (n ≤ MAX_NODES))
taken_few f ps g taken takes is =
    subst (λ t. IfSome t (λ n. (1 ≤ n) × (n ≤ MAX_NODES))) (sym takes)
    (first_few f (drop g ps) (All-drop (λ n. (1 ≤ n) × (n ≤ MAX_NODES)) g ps (few_nodes ps is)))
