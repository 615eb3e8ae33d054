-- Of a promise.
-- Lists of places, one an axis.
use Rattle.std.specs.Prelude.{ℕ, ◌<◌, ⊤, All, List, [], ◌∷◌}

-- each place is below the extent of its axis
abbrev pub AreBelow : (extents : List ℕ) → (lists : List (List ℕ)) → Type 0
AreBelow [] lists = ⊤
AreBelow (extent ∷ extents) [] = ⊤
AreBelow (extent ∷ extents) (ps ∷ pss) = All (λ p. p < extent) ps × AreBelow extents pss
