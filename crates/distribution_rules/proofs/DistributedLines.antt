-- The lines of distributed dimensions that break no rule.
use Rattle.std.proofs.Common.{◌≡◌, ◌≢◌, ℕ, ℤ, pos, negsuc, ◌+◌, ◌*◌, ◌<◌, ◌≤◌, Bool, true, false, List, [], ◌∷◌, ◌++◌, get_or, nat_lt, Some, unsigned_abs, refl, sym, subst, ◌∙◌, arith}
use Rattle.std.specs.Prelude.{All, int_lt, slice_get, sum, nat_le, length, option_map, option_and_then, Option, None, if◌then◌else◌, ◌==◌, ◌||◌, ◌&&◌}
use Rattle.std.specs.List.{list_all}
use Rattle.std.proofs.lemmas.Bool.{eqb-true}
use Rattle.std.proofs.lemmas.List.Elements.{All-cons, All-nil}
use Rattle.std.proofs.Math.Nat.{lt_of_mul-lt-mul_right, mul-le-mul_left, mul_comm}
use Rattle.std.proofs.lemmas.Bool.Decides.{nat_tests}
use Rattle.std.proofs.lemmas.Grind.{div_ceil_times}
use Rattle.std.proofs.lemmas.Option.{same_Some, slice_get_within, slice_get-get_or}
use Rattle.std.specs.Int.{div_ceil}
use Rattle.mappings.specs.Mapping.{IsForm}
use Rattle.mappings.specs.Owner.{default_block}
use Rattle.mappings.specs.declared.limits.TheConstants.{MAX_BLOCK, MAX_CYCLIC, MAX_TEMPLATE_EXTENT}
use Rattle.mappings.specs.declared.mapping.Form.{Form}
use Rattle.mappings.specs.declared.mapping.Form.TheVariants as form
use Rattle.hpf_base.specs.declared.refusal.Reason.{Reason}
use Rattle.mappings.proofs.Blocks.{default_block-all, default_block-some}
use Rattle.expression_rules.specs.Dims.{extent}
use Rattle.expression_rules.specs.declared.dims.Dim.{Dim}
use Rattle.expression_rules.specs.declared.evaluated.Evaluated.TheVariants as evaluated
use Rattle.declarations.specs.Reasons.{when}
use Rattle.distribution_rules.specs.declared.evaluated_formats.FormatValue.{FormatValue}
use Rattle.distribution_rules.specs.declared.evaluated_formats.FormatValue.TheVariants.{Undistributed, DefaultBlock, Block, Cyclic, GenBlock}
use Rattle.distribution_rules.specs.Dimensions.{passes}
use Rattle.distribution_rules.specs.Distributed.{form_of, gen_block}
use Rattle.distribution_rules.specs.DistributionRules.{format_reasons, has_small_sum, known_sizes, leaves_some}
use Rattle.distribution_rules.proofs.ArrangementExtents.{both}

-- an element of a list of which all have a property
pub got : {X : Type 0} (P : X → Type 0) (xs : List X) → All P xs → (k : ℕ) (x : X) → slice_get xs k ≡ Some x → P x
got P xs all k x is =
    let within = slice_get_within xs k x is in
    subst P (same_Some (get_or xs k x) x (sym (slice_get-get_or xs k x within) ∙ is)) (all k x within)

-- no reason holds
pub two_none : (a b : Bool) (why other : Reason) → when a why ++ when b other ≡ [] → (a ≡ false) × (b ≡ false)
two_none true b why other none = absurd cc
two_none false true why other none = absurd cc
two_none false false why other none = (refl, refl)

pub none_left : (xs ys : List Reason) → xs ++ ys ≡ [] → (xs ≡ []) × (ys ≡ [])
none_left [] ys none = (refl, none)
none_left (x ∷ xs) ys none = absurd cc

pub neither : (a b : Bool) → (a || b) ≡ false → (a ≡ false) × (b ≡ false)
neither true b none = absurd cc
neither false b none = (refl, none)

pub if_some : {A : Type 0} (test : Bool) (x : Option A) (a : A) → (if test then x else None) ≡ Some a → (test ≡ true) × (x ≡ Some a)
if_some true x a is = (refl, is)
if_some false x a is = absurd cc

at_most : (limit n : ℕ) → nat_lt limit n ≡ false → n ≤ limit
at_most limit n h = grind (arith, nat_tests)

-- a size within its limits
size_is : (most : ℕ) (n : ℤ) → int_lt n (pos 1) ≡ false → int_lt (pos most) n ≡ false → (1 ≤ unsigned_abs n) × (unsigned_abs n ≤ most)
size_is most (pos n) some few = (grind (arith, nat_tests), grind (arith, nat_tests))
size_is most (negsuc n) some few = absurd cc

-- the block of a dimension of a template is no greater than the greatest one
block_few : (positions procs : ℕ) → 1 ≤ procs → positions ≤ MAX_TEMPLATE_EXTENT → default_block positions procs ≤ MAX_BLOCK
block_few positions procs some few =
    let times = div_ceil_times positions procs some in
    let grows : positions * 1 ≤ positions * procs = mul-le-mul_left positions some in
    let low : div_ceil positions procs < positions + 1 = lt_of_mul-lt-mul_right procs (omega (arith, times.1, grows)) in
    omega (arith, low, few)

block_distributes : (m : ℕ) → form.Block m ≢ form.Whole
block_distributes m h = cc

cyclic_distributes : (k : ℕ) → form.Cyclic k ≢ form.Whole
cyclic_distributes k h = cc

abbrev Good : ℕ → ℕ → Form → Type 0
Good positions procs f = IsForm f positions procs × (f ≢ form.Whole)

gen_distributes : (sizes : List ℕ) → form.Gen sizes ≢ form.Whole
gen_distributes sizes h = cc

small : (ns : List ℕ) → list_all (λ n. nat_le n MAX_BLOCK) ns ≡ true → All (λ n. n ≤ MAX_BLOCK) ns
small [] h = All-nil (λ n. n ≤ MAX_BLOCK)
small (n ∷ ns) h = let two = both (nat_le n MAX_BLOCK) (list_all (λ m. nat_le m MAX_BLOCK) ns) h in All-cons (λ m. m ≤ MAX_BLOCK) n ns (le n two.0) (small ns two.1)
  where
    le : (m : ℕ) → nat_le m MAX_BLOCK ≡ true → m ≤ MAX_BLOCK
    le m e = grind (arith, nat_tests)

-- blocks of known sizes
blocks_are : (d : Dim) (p : ℕ) (g : Form) (ns : List ℕ) → nat_lt (sum ns) (extent d) ≡ false → gen_block p ns ≡ Some g → Good (extent d) p g
blocks_are d p g ns taken is =
    let tests = if_some ((length ns == p) && list_all (λ n. nat_le n MAX_BLOCK) ns) (Some (form.Gen ns)) g is in
    let two = both (length ns == p) (list_all (λ n. nat_le n MAX_BLOCK) ns) tests.0 in
    subst (Good (extent d) p) (same_Some (form.Gen ns) g tests.1) ((eqb-true (length ns) p two.0, small ns two.1, at_most (sum ns) (extent d) taken), gen_distributes ns)

sizes_are : (d : Dim) (p : ℕ) (g : Form) (ns : Option (List ℕ)) → passes (λ n. nat_lt n (extent d)) (option_map sum ns) ≡ false →
    option_and_then (gen_block p) ns ≡ Some g → Good (extent d) p g
sizes_are d p g None taken is = absurd cc
sizes_are d p g (Some ns) taken is = blocks_are d p g ns taken is

-- the form of a format that breaks no rule
pub form_is : (f : FormatValue) (d : Dim) (p : ℕ) (g : Form) → 1 ≤ p → extent d ≤ MAX_TEMPLATE_EXTENT → format_reasons f ≡ [] → leaves_some f p d ≡ false →
    has_small_sum f (Some d) ≡ false → form_of f (extent d) p ≡ Some g → IsForm g (extent d) p × (g ≢ form.Whole)
form_is Undistributed d p g some few none all taken is = absurd cc
form_is DefaultBlock d p g some few none all taken is =
    subst (Good (extent d) p) (same_Some _ _ is) (
      (default_block-some (extent d) p, block_few (extent d) p some few, omega (arith, default_block-all (extent d) p some, mul_comm p (default_block (extent d) p))),
      block_distributes (default_block (extent d) p),
    )
form_is (Block evaluated.Invalid) d p g some few none all taken is = absurd cc
form_is (Block evaluated.Unknown) d p g some few none all taken is = absurd cc
form_is (Block (evaluated.Known m)) d p g some few none all taken is =
    let tests = two_none _ _ _ _ none in
    let size = size_is MAX_BLOCK m tests.0 tests.1 in
    subst (Good (extent d) p) (same_Some _ _ is) ((size.0, size.1, at_most (unsigned_abs m * p) (extent d) all), block_distributes (unsigned_abs m))
form_is (Cyclic evaluated.Invalid) d p g some few none all taken is = absurd cc
form_is (Cyclic evaluated.Unknown) d p g some few none all taken is = absurd cc
form_is (Cyclic (evaluated.Known k)) d p g some few none all taken is =
    let tests = two_none _ _ _ _ none in
    subst (Good (extent d) p) (same_Some _ _ is) (size_is MAX_CYCLIC k tests.0 tests.1, cyclic_distributes (unsigned_abs k))
form_is (GenBlock sizes) d p g some few none all taken is = sizes_are d p g (known_sizes sizes) taken is
