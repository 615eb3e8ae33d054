-- Of the claim.
-- Layouts that are the same.
use Rattle.std.specs.Prelude.{◌==◌, ◌&&◌, Bool, true, false}
use Rattle.std.specs.Cmp.Lexicographic.{pointwise}
use Rattle.std.specs.Ordering.{int_eq}
use Rattle.hpf_base.specs.declared.index.Shape.{Shape}
use Rattle.mappings.specs.declared.mapping.AlignDim.{AlignDim}
use Rattle.mappings.specs.declared.mapping.AlignDim.TheVariants.{Linear, At, Every}
use Rattle.mappings.specs.declared.mapping.Form.{Form}
use Rattle.mappings.specs.declared.mapping.Form.TheVariants.{Whole, Block, Cyclic, Gen}
use Rattle.mappings.specs.declared.mapping.Line.{Line}
use Rattle.mappings.specs.declared.mapping.MapDim.{MapDim}
use Rattle.mappings.specs.declared.mapping.Mapping.{Mapping}
use Rattle.machine_steps.specs.Layout.{Layout}

abbrev pub is_same_form : Form → Form → Bool
is_same_form Whole Whole = true
is_same_form (Block m) (Block n) = m == n
is_same_form (Cyclic m) (Cyclic n) = m == n
is_same_form (Gen sizes) (Gen others) = pointwise ◌==◌ sizes others
is_same_form one other = false

abbrev pub is_same_line : Line → Line → Bool
is_same_line one other =
    int_eq one.lower other.lower && ((one.extent == other.extent) && (is_same_form one.form other.form && (one.procs == other.procs)))

abbrev pub is_same_align : AlignDim → AlignDim → Bool
is_same_align (Linear dim a b) (Linear dim' a' b') = (dim == dim') && (int_eq a a' && int_eq b b')
is_same_align (At v) (At w) = int_eq v w
is_same_align Every Every = true
is_same_align one other = false

abbrev pub is_same_dim : MapDim → MapDim → Bool
is_same_dim one other = is_same_line one.line other.line && ((one.grid_dim == other.grid_dim) && is_same_align one.align other.align)

abbrev pub is_same_mapping : Mapping → Mapping → Bool
is_same_mapping one other = pointwise ◌==◌ one.grid other.grid && pointwise is_same_dim one.dims other.dims

abbrev pub is_same_shape : Shape → Shape → Bool
is_same_shape one other = pointwise int_eq one.lower other.lower && pointwise int_eq one.extent other.extent

-- the same shape, and the same mapping
abbrev pub is_same_layout : Layout → Layout → Bool
is_same_layout one other = is_same_shape one.shape other.shape && is_same_mapping one.mapping other.mapping
