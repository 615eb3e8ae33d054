-- Of a promise.
-- What an operator makes of strips.
use Rattle.std.specs.Prelude.{◌≡◌, ℕ, ◌<◌, List, [], ◌∷◌, length, slice_index_or, ℤ, pos, Ok}
use Rattle.op_tables.specs.declared.op.Op.{Op}
use Rattle.array_meaning.specs.Elementals.{operated}

-- its values at all places of a strip
abbrev pub AreOfOne : Op → List ℤ → List ℤ → Type 0
AreOfOne o xs zs = (k : ℕ) → k < length xs → operated o (slice_index_or xs k (pos 0) ∷ []) ≡ Ok (slice_index_or zs k (pos 0))

-- and of two strips
abbrev pub AreOfTwo : Op → List ℤ → List ℤ → List ℤ → Type 0
AreOfTwo o xs ys zs = (k : ℕ) → k < length xs → operated o (slice_index_or xs k (pos 0) ∷ slice_index_or ys k (pos 0) ∷ []) ≡ Ok (slice_index_or zs k (pos 0))

-- and of a strip and a number
abbrev pub AreWithNumber : Op → List ℤ → ℤ → List ℤ → Type 0
AreWithNumber o xs b zs = (k : ℕ) → k < length xs → operated o (slice_index_or xs k (pos 0) ∷ b ∷ []) ≡ Ok (slice_index_or zs k (pos 0))
