-- Of the claim.
-- The lines of a text.
use Rattle.std.specs.Prelude.{ℕ, ◌==◌, List, [], ◌∷◌, if◌then◌else◌}

-- the same lines, the first with a byte more at its front; where there is no line, that byte alone
abbrev pub longer_first : ℕ → List (List ℕ) → List (List ℕ)
longer_first byte [] = (byte ∷ []) ∷ []
longer_first byte (line ∷ lines) = (byte ∷ line) ∷ lines

-- the text split at its line feeds; a last line feed opens no further line, and the empty text has no line
abbrev pub lines_of : List ℕ → List (List ℕ)
lines_of [] = []
lines_of (byte ∷ text) = if byte == 10 then [] ∷ lines_of text else longer_first byte (lines_of text)
