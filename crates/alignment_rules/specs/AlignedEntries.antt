-- Of a promise.
-- The alignment of an alignee whose ALIGN breaks no rule.
use Rattle.std.specs.Prelude.{◌≡◌, ℕ, ℤ, ◌≤ℤ◌, ⊤, All, AllPairs, List, [], ◌∷◌, length, map, Option, Some}
use Rattle.mappings.specs.Alignment.{aligned}
use Rattle.mappings.specs.Mapping.{IsAlign, MoveApart}
use Rattle.mappings.specs.declared.mapping.AlignDim.{AlignDim}
use Rattle.expression_rules.specs.declared.dims.Dim.{Dim}

-- one entry for each dimension of the target; each moves along a dimension of the alignee, if any, and no two move along one
pub record AreAligned (rank : ℕ) (bounds : List (Option Dim)) (es : List AlignDim) : Type 0 where
  pub one_each : length es ≡ length bounds
  pub dims : All (IsAlign rank) es
  pub apart : AllPairs MoveApart es

-- the subscripts of an element of an array of these dimensions, which are all known
abbrev pub AreSubscripts : List (Option Dim) → List ℤ → Type 0
AreSubscripts [] [] = ⊤
AreSubscripts (Some d ∷ ds) (i ∷ is) = (d.lower ≤ℤ i) × (i ≤ℤ d.upper) × AreSubscripts ds is
AreSubscripts ds is = ⊥

-- a subscript lies in bounds that are known; `*` does
abbrev pub LiesIn : Option Dim → Option ℤ → Type 0
LiesIn (Some b) (Some i) = (b.lower ≤ℤ i) × (i ≤ℤ b.upper)
LiesIn b i = ⊤

-- an element maps inside the bounds of the target
abbrev pub MapsInto : List (Option Dim) → List AlignDim → List ℤ → Type 0
MapsInto (b ∷ bs) (e ∷ es) index = LiesIn b (aligned e (map Some index)) × MapsInto bs es index
MapsInto bs es index = ⊤
