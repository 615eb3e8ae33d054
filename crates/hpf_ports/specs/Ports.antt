-- Of the claim.
-- What a call of a source or a sink does, as far as the object tells its bytes.
use Rattle.std.specs.Prelude.{◌≡◌, ℕ, ◌+◌, ◌-◌, ◌^◌, ◌<◌, ◌⊎◌, min, List, [], ◌++◌, Option, None, Some}

-- the count of faults rose in a call, or it stands at its greatest value after it
abbrev pub Rose : ℕ → ℕ → Type 0
Rose before after = (before < after) ⊎ (after ≡ 2 ^ 64 - 1)

-- the next value of a count, which stands once it has come to the greatest 64-bit number
abbrev pub next_count : ℕ → ℕ
next_count count = min (count + 1) (2 ^ 64 - 1)

-- the source gave these bytes, the next ones that it had left; one that doesn't tell what is left tells nothing after
abbrev pub Gave : Option (List ℕ) → Option (List ℕ) → List ℕ → Type 0
Gave None left' bytes = left' ≡ None
Gave (Some left) left' bytes = (rest : List ℕ) × (left' ≡ Some rest) × (left ≡ bytes ++ rest)

-- nothing is left
abbrev pub IsAtEnd : Option (List ℕ) → Type 0
IsAtEnd None = Unit {0}
IsAtEnd (Some left) = left ≡ []

-- the sink took these bytes, after those that it held
abbrev pub AreAppended : Option (List ℕ) → Option (List ℕ) → List ℕ → Type 0
AreAppended None held' bytes = held' ≡ None
AreAppended (Some held) held' bytes = held' ≡ Some (held ++ bytes)
