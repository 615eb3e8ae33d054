-- Of private clauses.
-- No public clause cites this file.
-- What the steps from the lines of a text to its logical lines give.
use Rattle.std.specs.Prelude.{◌≡◌, ℕ, ◌+◌, List, [], ◌∷◌, drop, length}
use Rattle.std.specs.List.{suffix_len}
use Rattle.source_lines.specs.Breaches.{is_continued, standing}
use Rattle.source_lines.specs.LogicalLines.{between_semicolons, groups}
use Rattle.source_lines.specs.PhysicalLines.{PhysicalLine}

-- so many lines in a row are continued up to the end of these
abbrev pub IsCounted : List PhysicalLine → ℕ → Type 0
IsCounted lines continued = continued ≡ suffix_len is_continued (standing lines)

-- the first of the lines and those that continue it
abbrev pub IsFirstGroup : List PhysicalLine → PhysicalLine → List PhysicalLine → Type 0
IsFirstGroup lines line continuing = groups lines ≡ (line ∷ continuing) ∷ groups (drop (length continuing + 1) lines)

-- there is no `;`
abbrev pub IsLastStatement : List ℕ → List ℕ → Type 0
IsLastStatement bytes statement = between_semicolons bytes ≡ statement ∷ []

-- what stands before the first `;`, and what is after it
abbrev pub IsFirstStatement : List ℕ → List ℕ → List ℕ → Type 0
IsFirstStatement bytes statement rest = between_semicolons bytes ≡ statement ∷ between_semicolons rest
