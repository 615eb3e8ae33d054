-- Of private clauses.
-- The bytes that PRINT puts one after the other.
use Rattle.std.specs.Prelude.{◌≡◌, ℕ, ℤ, List, [], ◌++◌, Result, Ok}
use Rattle.array_meaning.specs.Terms.{SectionSubscripts}
use Rattle.array_meaning.specs.Faults.{Cause, ◌>>=◌}
use Rattle.array_meaning.specs.State.{State}
use Rattle.array_meaning.specs.Elementals.{Selected, array_value}
use Rattle.array_meaning.specs.Expressions.{selections}

-- the bytes of a result were put after others
abbrev pub Adds : Result (List ℕ) Cause → List ℕ → List ℕ → Type 0
Adds r old new = (bytes : List ℕ) × (r ≡ Ok bytes) × (new ≡ old ++ bytes)

-- the elements of a section
abbrev pub section_elements : State → ℕ → SectionSubscripts → Result (List ℤ) Cause
section_elements s a subs = selections [] s subs >>= (λ ds. array_value s (Selected a ds) >>= (λ v. Ok v.elements))
