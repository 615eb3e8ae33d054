-- Layouts that are the same are one.
use Rattle.std.proofs.Common.{◌≡◌, ◌==◌, Bool, true, refl, sym, ap, subst, eq-eqb, eqb-true}
use Rattle.std.proofs.lemmas.Bool.{and_from}
use mathlib.Core.Bool.{true≢false}
use Rattle.std.specs.Bool.{Decides}
use Rattle.std.specs.Cmp.{first_so, second_so, signed_Decides, unsigned_Decides}
use Rattle.std.specs.Cmp.Lexicographic.{pointwise, pointwise_decides}
use Rattle.std.specs.Ordering.{int_eq}
use Rattle.hpf_base.specs.declared.index.Shape.{Shape}
use Rattle.mappings.specs.declared.mapping.AlignDim.{AlignDim}
use Rattle.mappings.specs.declared.mapping.AlignDim.TheVariants.{Linear, At, Every}
use Rattle.mappings.specs.declared.mapping.Form.{Form}
use Rattle.mappings.specs.declared.mapping.Form.TheVariants.{Whole, Block, Cyclic, Gen}
use Rattle.mappings.specs.declared.mapping.Line.{Line}
use Rattle.mappings.specs.declared.mapping.MapDim.{MapDim}
use Rattle.mappings.specs.declared.mapping.Mapping.{Mapping}
use Rattle.machine_steps.specs.Layout.{Layout}
use Rattle.machine_steps.specs.SameLayouts.{is_same_align, is_same_dim, is_same_form, is_same_layout, is_same_line, is_same_mapping, is_same_shape}

-- a test that holds of the same alone, and of all that are the same
module _ {A : Type 0} (test : A → A → Bool) (same : (x y : A) → test x y ≡ true → x ≡ y) (itself : (x : A) → test x x ≡ true) where
  decided : (x y : A) → Decides (test x y) (x ≡ y)
  decided x y = (same x y, λ e. subst (λ z. test x z ≡ true) e (itself x))

same-form : (one other : Form) → is_same_form one other ≡ true → one ≡ other
same-form Whole Whole h = refl
same-form (Block m) (Block n) h = ap Block (eqb-true m n h)
same-form (Cyclic m) (Cyclic n) h = ap Cyclic (eqb-true m n h)
same-form (Gen sizes) (Gen others) h = ap Gen ((pointwise_decides unsigned_Decides sizes others).0 h)
same-form Whole (Block n) h = absurd (true≢false (sym h))
same-form Whole (Cyclic n) h = absurd (true≢false (sym h))
same-form Whole (Gen others) h = absurd (true≢false (sym h))
same-form (Block m) Whole h = absurd (true≢false (sym h))
same-form (Block m) (Cyclic n) h = absurd (true≢false (sym h))
same-form (Block m) (Gen others) h = absurd (true≢false (sym h))
same-form (Cyclic m) Whole h = absurd (true≢false (sym h))
same-form (Cyclic m) (Block n) h = absurd (true≢false (sym h))
same-form (Cyclic m) (Gen others) h = absurd (true≢false (sym h))
same-form (Gen sizes) Whole h = absurd (true≢false (sym h))
same-form (Gen sizes) (Block n) h = absurd (true≢false (sym h))
same-form (Gen sizes) (Cyclic n) h = absurd (true≢false (sym h))

form-itself : (form : Form) → is_same_form form form ≡ true
form-itself Whole = refl
form-itself (Block m) = eq-eqb m m refl
form-itself (Cyclic m) = eq-eqb m m refl
form-itself (Gen sizes) = (pointwise_decides unsigned_Decides sizes sizes).1 refl

same-line : (one other : Line) → is_same_line one other ≡ true → one ≡ other
same-line one other h =
    let lower = (signed_Decides one.lower other.lower).0 (first_so (int_eq one.lower other.lower) _ h) in
    let h' = second_so (int_eq one.lower other.lower) _ h in
    let extent = eqb-true one.extent other.extent (first_so (one.extent == other.extent) _ h') in
    let h'' = second_so (one.extent == other.extent) _ h' in
    let form = same-form one.form other.form (first_so (is_same_form one.form other.form) _ h'') in
    let procs = eqb-true one.procs other.procs (second_so (is_same_form one.form other.form) _ h'') in
    λ i. record { lower = lower i; extent = extent i; form = form i; procs = procs i }

line-itself : (line : Line) → is_same_line line line ≡ true
line-itself line =
    and_from _ _ ((signed_Decides line.lower line.lower).1 refl)
    (and_from _ _ (eq-eqb line.extent line.extent refl) (and_from _ _ (form-itself line.form) (eq-eqb line.procs line.procs refl)))

same-align : (one other : AlignDim) → is_same_align one other ≡ true → one ≡ other
same-align (Linear dim a b) (Linear dim' a' b') h =
    let d = eqb-true dim dim' (first_so (dim == dim') _ h) in
    let h' = second_so (dim == dim') _ h in
    let e = (signed_Decides a a').0 (first_so (int_eq a a') _ h') in
    let f = (signed_Decides b b').0 (second_so (int_eq a a') _ h') in
    λ i. Linear (d i) (e i) (f i)
same-align (At v) (At w) h = ap At ((signed_Decides v w).0 h)
same-align Every Every h = refl
same-align (Linear dim a b) (At w) h = absurd (true≢false (sym h))
same-align (Linear dim a b) Every h = absurd (true≢false (sym h))
same-align (At v) (Linear dim a b) h = absurd (true≢false (sym h))
same-align (At v) Every h = absurd (true≢false (sym h))
same-align Every (Linear dim a b) h = absurd (true≢false (sym h))
same-align Every (At w) h = absurd (true≢false (sym h))

align-itself : (align : AlignDim) → is_same_align align align ≡ true
align-itself (Linear dim a b) = and_from _ _ (eq-eqb dim dim refl) (and_from _ _ ((signed_Decides a a).1 refl) ((signed_Decides b b).1 refl))
align-itself (At v) = (signed_Decides v v).1 refl
align-itself Every = refl

same-dim : (one other : MapDim) → is_same_dim one other ≡ true → one ≡ other
same-dim one other h =
    let line = same-line one.line other.line (first_so (is_same_line one.line other.line) _ h) in
    let h' = second_so (is_same_line one.line other.line) _ h in
    let dim = eqb-true one.grid_dim other.grid_dim (first_so (one.grid_dim == other.grid_dim) _ h') in
    let align = same-align one.align other.align (second_so (one.grid_dim == other.grid_dim) _ h') in
    λ i. record { line = line i; grid_dim = dim i; align = align i }

dim-itself : (entry : MapDim) → is_same_dim entry entry ≡ true
dim-itself entry = and_from _ _ (line-itself entry.line) (and_from _ _ (eq-eqb entry.grid_dim entry.grid_dim refl) (align-itself entry.align))

pub dim-decided : (one other : MapDim) → Decides (is_same_dim one other) (one ≡ other)
dim-decided = decided is_same_dim same-dim dim-itself

pub same_mappings : (one other : Mapping) → is_same_mapping one other ≡ true → one ≡ other
same_mappings one other h =
    let grid = (pointwise_decides unsigned_Decides one.grid other.grid).0 (first_so (pointwise ◌==◌ one.grid other.grid) _ h) in
    let dims = (pointwise_decides dim-decided one.dims other.dims).0 (second_so (pointwise ◌==◌ one.grid other.grid) _ h) in
    λ i. record { grid = grid i; dims = dims i }

pub same_shapes : (one other : Shape) → is_same_shape one other ≡ true → one ≡ other
same_shapes one other h =
    let lower = (pointwise_decides signed_Decides one.lower other.lower).0 (first_so (pointwise int_eq one.lower other.lower) _ h) in
    let extent = (pointwise_decides signed_Decides one.extent other.extent).0 (second_so (pointwise int_eq one.lower other.lower) _ h) in
    λ i. record { lower = lower i; extent = extent i }

-- two layouts that are the same are one
pub same_layouts : (one other : Layout) → is_same_layout one other ≡ true → one ≡ other
same_layouts one other h =
    let shape = same_shapes one.shape other.shape (first_so (is_same_shape one.shape other.shape) _ h) in
    let mapping = same_mappings one.mapping other.mapping (second_so (is_same_shape one.shape other.shape) _ h) in
    λ i. record { shape = shape i; mapping = mapping i }

-- a layout is the same as itself
pub layout_itself : (layout : Layout) → is_same_layout layout layout ≡ true
layout_itself layout =
    and_from _ _ (and_from _ _ ((pointwise_decides signed_Decides layout.shape.lower layout.shape.lower).1 refl)
    ((pointwise_decides signed_Decides layout.shape.extent layout.shape.extent).1 refl))
    (and_from _ _ ((pointwise_decides unsigned_Decides layout.mapping.grid layout.mapping.grid).1 refl)
    ((pointwise_decides dim-decided layout.mapping.dims layout.mapping.dims).1 refl))
