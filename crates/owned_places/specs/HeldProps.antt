-- Of a promise.
-- That elements lie inside a template has one proof at most, as a ghost field asks. No public clause cites this file.
use Rattle.std.specs.Prelude.{ℕ, ℤ, List, Option, Some, None}
use Rattle.std.proofs.Props.{props}
use Rattle.mappings.specs.declared.mapping.AlignDim.{AlignDim}
use Rattle.mappings.specs.declared.mapping.AlignDim.TheVariants.{Linear, At, Every}
use Rattle.mappings.specs.declared.mapping.Form.{Form}
use Rattle.mappings.specs.declared.mapping.Form.TheVariants.{Whole, Block, Cyclic, Gen}
use Rattle.mappings.specs.declared.mapping.Line.{Line}
use Rattle.mappings.specs.declared.mapping.Mapping.{Mapping}
use Rattle.mappings.specs.Mapping.{IsAlign, IsForm, InLine}
use Rattle.expression_rules.specs.declared.dims.Dim.{Dim}
use Rattle.owned_places.specs.Dims.{LieInside}

form-prop : (f : Form) (extent procs : ℕ) → IsProp (IsForm f extent procs)
form-prop Whole extent procs = Prim.hlevel props
form-prop (Block m) extent procs = Prim.hlevel props
form-prop (Cyclic k) extent procs = Prim.hlevel props
form-prop (Gen sizes) extent procs = Prim.hlevel props

align-prop : (rank : ℕ) (a : AlignDim) → IsProp (IsAlign rank a)
align-prop rank (Linear dim a b) = Prim.hlevel props
align-prop rank (At v) = Prim.hlevel props
align-prop rank Every = Prim.hlevel props

inside-prop : (line : Line) (subscript : Option ℤ) → IsProp (InLine line subscript)
inside-prop line None = Prim.hlevel props
inside-prop line (Some n) = Prim.hlevel props

pub lie-prop : (ds : List Dim) (m : Mapping) → IsProp (LieInside ds m)
lie-prop ds m = Prim.hlevel (props, form-prop, align-prop, inside-prop)
