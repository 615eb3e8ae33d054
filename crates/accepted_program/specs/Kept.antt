-- Of a promise.
-- What an accepted program keeps has one proof at most, as a ghost field asks. No public clause cites this file.
use Rattle.std.specs.Prelude.{◌≡◌, ℕ, ℤ, List, Option, Some, None}
use Rattle.std.specs.Coded.{Coded-set, coded_list}
use Rattle.std.proofs.Props.{props}
use Rattle.mappings.specs.declared.mapping.AlignDim.{AlignDim}
use Rattle.mappings.specs.declared.mapping.AlignDim.TheVariants.{Linear, At, Every}
use Rattle.mappings.specs.declared.mapping.Form.{Form}
use Rattle.mappings.specs.declared.mapping.Form.TheVariants.{Whole, Block, Cyclic, Gen}
use Rattle.mappings.specs.declared.mapping.Line.{Line}
use Rattle.mappings.specs.Mapping.{IsAlign, IsForm, InLine}
use Rattle.name_table.specs.contracts.names.Entry as entry
use Rattle.name_table.specs.declared.names.Entry.{Entry}
use Rattle.array_maps.specs.contracts.maps.ArrayMap as array_map
use Rattle.array_maps.specs.contracts.maps.Redistribution as redistribution
use Rattle.array_maps.specs.declared.maps.ArrayMap.{ArrayMap}
use Rattle.array_maps.specs.declared.maps.Maps.{Maps}
use Rattle.array_maps.specs.declared.maps.Redistribution.{Redistribution}
use Rattle.array_maps.specs.Maps.{AreMaps}

pub names-prop : (es fs : List Entry) → IsProp (es ≡ fs)
names-prop = Coded-set (coded_list entry.the_row.coded)

pub starts-prop : (ms ns : List ArrayMap) → IsProp (ms ≡ ns)
starts-prop = Coded-set (coded_list array_map.the_row.coded)

pub moves-prop : (ms ns : List Redistribution) → IsProp (ms ≡ ns)
moves-prop = Coded-set (coded_list redistribution.the_row.coded)

-- ---- valid mappings

form-prop : (f : Form) (extent procs : ℕ) → IsProp (IsForm f extent procs)
form-prop Whole extent procs = Prim.hlevel props
form-prop (Block m) extent procs = Prim.hlevel props
form-prop (Cyclic k) extent procs = Prim.hlevel props
form-prop (Gen sizes) extent procs = Prim.hlevel props

align-prop : (rank : ℕ) (a : AlignDim) → IsProp (IsAlign rank a)
align-prop rank (Linear dim a b) = Prim.hlevel props
align-prop rank (At v) = Prim.hlevel props
align-prop rank Every = Prim.hlevel props

inside-prop : (line : Line) (subscript : Option ℤ) → IsProp (InLine line subscript)
inside-prop line None = Prim.hlevel props
inside-prop line (Some n) = Prim.hlevel props

pub valid-prop : (nodes : ℕ) (maps : Maps) → IsProp (AreMaps nodes maps)
valid-prop nodes maps = Prim.hlevel (props, form-prop, align-prop, inside-prop)
