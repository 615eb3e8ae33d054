-- Elements lie inside the template, where the alignment with what a chain ends at leads inside that.
use Rattle.std.proofs.Common.{◌≡◌, ℕ, zero, suc, ℤ, pos, negsuc, ◌+ℤ◌, ◌-ℤ◌, ◌*ℤ◌, ◌≤ℤ◌, Bool, true, false, List, [], ◌∷◌, map, get_or, All, Option, Some, None, refl, sym, ap, subst, ◌∙◌, arith}
use Rattle.std.specs.Prelude.{◌&&◌, slice_get, option_map}
use Rattle.std.proofs.lemmas.Int.{ints}
use Rattle.std.proofs.lemmas.List.Elements.{All-map}
use Rattle.std.proofs.lemmas.Option.{same_Some}
use Rattle.mappings.specs.Alignment.{align_through, aligned, composed, composed_align, composed_entry}
use Rattle.mappings.specs.Mapping.{InLine, MapsInside}
use Rattle.mappings.specs.declared.mapping.AlignDim.{AlignDim}
use Rattle.mappings.specs.declared.mapping.AlignDim.TheVariants.{Linear, At, Every}
use Rattle.mappings.specs.declared.mapping.Line.{Line}
use Rattle.mappings.specs.declared.mapping.MapDim.{MapDim}
use Rattle.mappings.specs.declared.mapping.Mapping.{Mapping}
use Rattle.expression_rules.specs.Dims.{at_least_none, extent}
use Rattle.expression_rules.specs.declared.dims.Dim.{Dim}
use Rattle.distribution_rules.specs.MappingOf.{IsLineOf}
use Rattle.alignment_rules.specs.AlignedEntries.{AreSubscripts, LiesIn}
use Rattle.alignment_rules.specs.AlignmentRules.{is_inside}
use Rattle.alignment_rules.proofs.InsideTargets.{entry_in}
use Rattle.directive_check.specs.Chains.{are_inside}

both_true : (a b : Bool) → (a && b) ≡ true → (a ≡ true) × (b ≡ true)
both_true true b h = (refl, h)
both_true false b h = absurd cc

every_inside : (ds : List (Option Dim)) (b : Option Dim) → is_inside ds (Some Every) b ≡ true
every_inside ds None = refl
every_inside ds (Some b) = refl

-- one dimension of the end of a chain
inside_at : (ds bs : List (Option Dim)) (zs : List AlignDim) (k : ℕ) (b : Option Dim) → are_inside ds zs bs ≡ true → slice_get bs k ≡ Some b →
    is_inside ds (Some (get_or zs k Every)) b ≡ true
inside_at ds [] zs k b all is = absurd cc
inside_at ds (c ∷ cs) [] k b all is = every_inside ds b
inside_at ds (c ∷ cs) (z ∷ zs) zero b all is = subst (λ x. is_inside ds (Some z) x ≡ true) (same_Some c b is) (both_true (is_inside ds (Some z) c) (are_inside ds zs cs) all).0
inside_at ds (c ∷ cs) (z ∷ zs) (suc k) b all is = inside_at ds cs zs k b (both_true (is_inside ds (Some z) c) (are_inside ds zs cs) all).1 is

at_least : (z : ℤ) → pos 1 ≤ℤ z → pos (at_least_none z) ≡ z
at_least (pos n) h = refl
at_least (negsuc n) h = absurd (omega (arith, ints))

-- a subscript inside the bounds has a position of the line that has the positions of these bounds
in_line : (line : Line) (b : Dim) (i : Option ℤ) → line.lower ≡ b.lower → line.extent ≡ extent b → LiesIn (Some b) i → InLine line i
in_line line b None low many lies = tt
in_line line b (Some i) low many lies =
    let first : b.lower ≤ℤ i = lies.0 in
    let last : i ≤ℤ b.upper = lies.1 in
    let all : pos (at_least_none (b.upper -ℤ b.lower +ℤ pos 1)) ≡ b.upper -ℤ b.lower +ℤ pos 1 = at_least _ (omega (arith, ints)) in
    let whole : pos line.extent ≡ b.upper -ℤ b.lower +ℤ pos 1 = ap pos many ∙ all in
    (omega (arith, ints, low), omega (arith, ints, low, whole))

one_times : (a : ℤ) → pos 1 *ℤ a ≡ a
one_times a = omega (arith, ints)

none_more : (a : ℤ) → (pos 1 *ℤ a) +ℤ pos 0 ≡ a
none_more a = omega (arith, ints)

-- the subscript itself
same_through : (w : AlignDim) → align_through (pos 1) (pos 0) w ≡ w
same_through (Linear dim a b) = λ i. Linear dim (one_times a i) (none_more b i)
same_through (At v) = ap At (none_more v)
same_through Every = refl

-- an entry of what a chain ends at, with the alignment put in
entry_inside : (rds ds : List (Option Dim)) (zs : List AlignDim) (index : List ℤ) (e : MapDim) → AreSubscripts ds index → are_inside ds zs rds ≡ true → IsLineOf rds e →
    InLine e.line (aligned (composed_align zs e.align) (map Some index))
entry_inside rds ds zs index e within all is =
    let given : composed_align zs e.align ≡ get_or zs is.dim Every = ap (composed_align zs) is.align ∙ same_through (get_or zs is.dim Every) in
    subst (λ a. InLine e.line (aligned a (map Some index))) (sym given)
    (in_line e.line is.bounds _ is.lower is.positions
    (entry_in ds index within (get_or zs is.dim Every) (Some is.bounds) (inside_at ds rds zs is.dim (Some is.bounds) all is.is)))

-- through a chain
pub composed_inside : (rds ds : List (Option Dim)) (zs : List AlignDim) (r : Mapping) (index : List ℤ) → All (IsLineOf rds) r.dims → AreSubscripts ds index →
    are_inside ds zs rds ≡ true → MapsInside (composed r zs) index
composed_inside rds ds zs r index lines within all =
    All-map (λ e. InLine e.line (aligned e.align (map Some index))) (composed_entry zs) r.dims (λ k d below. entry_inside rds ds zs index _ within all (lines k d below))

-- a subscript of an element
subscript_in : (ds : List (Option Dim)) (index : List ℤ) (k : ℕ) (b : Dim) → AreSubscripts ds index → slice_get ds k ≡ Some (Some b) →
    LiesIn (Some b) (get_or (map Some index) k None)
subscript_in [] index k b within is = absurd cc
subscript_in (None ∷ ds) [] k b within is = absurd within
subscript_in (None ∷ ds) (i ∷ index) k b within is = absurd within
subscript_in (Some d ∷ ds) [] k b within is = absurd within
subscript_in (Some d ∷ ds) (i ∷ index) zero b within is =
    subst (λ x. LiesIn x (Some i)) (same_Some (Some d) (Some b) is) (within.0, within.1)
subscript_in (Some d ∷ ds) (i ∷ index) (suc k) b within is = subscript_in ds index k b within.2 is

itself : (i : Option ℤ) → option_map (λ n. (pos 1 *ℤ n) +ℤ pos 0) i ≡ i
itself None = refl
itself (Some i) = ap Some (none_more i)

-- an object that isn't aligned
pub alone_inside : (ds : List (Option Dim)) (r : Mapping) (index : List ℤ) → All (IsLineOf ds) r.dims → AreSubscripts ds index → MapsInside r index
alone_inside ds r index lines within = λ k d below.
    let is = lines k d below in
    let e = get_or r.dims k d in
    let given : aligned e.align (map Some index) ≡ get_or (map Some index) is.dim None = ap (λ a. aligned a (map Some index)) is.align ∙ itself _ in
    subst (InLine e.line) (sym given) (in_line e.line is.bounds _ is.lower is.positions (subscript_in ds index is.dim is.bounds within is.is))
