-- What a line moves, redistribution by redistribution.
use Rattle.std.proofs.Common.{ℕ, Bool, true, false, All, List, [], ◌∷◌}
use Rattle.std.specs.Prelude.{nat_eq, if◌then◌else◌}
use Rattle.std.proofs.lemmas.List.Elements.{All-append, All-head, All-nil, All-tail}
use Rattle.array_maps.specs.declared.maps.ArrayMap.{ArrayMap}
use Rattle.array_maps.specs.declared.maps.Redistribution.{Redistribution}
use Rattle.array_maps.specs.Lines.{moves_at, moves_of_line}
use Rattle.array_maps.specs.Maps.{AreNewMaps, IsNewMap}

-- where all redistributions are valid, so is each new mapping of a line
pub line-valid : (nodes : ℕ) (arrays : List ArrayMap) (moves : List Redistribution) (line : ℕ) → All (λ r. AreNewMaps nodes arrays r.maps) moves →
    All (IsNewMap nodes arrays) (moves_at moves line)
line-valid nodes arrays [] line all = All-nil (IsNewMap nodes arrays)
line-valid nodes arrays (r ∷ rs) line all =
    All-append (IsNewMap nodes arrays) (moves_of_line r line) (moves_at rs line) (by (nat_eq r.line line))
    (line-valid nodes arrays rs line (All-tail (λ r. AreNewMaps nodes arrays r.maps) r rs all))
  where
    by : (b : Bool) → All (IsNewMap nodes arrays) (if b then r.maps else [])
    by true = (All-head (λ r. AreNewMaps nodes arrays r.maps) r rs all).each
    by false = All-nil (IsNewMap nodes arrays)
