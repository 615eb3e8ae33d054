-- Of a promise.
-- Tables of words: the row that a word finds, and what a table of a list of words is.
use Rattle.std.specs.Prelude.{◌≡◌, ℕ, ◌&&◌, Bool, true, IsTrue, bytes_eq, List, [], ◌∷◌, map, length, Option}
use Rattle.std.specs.List.{find, list_all, range_with_len}
use Rattle.std.specs.Ordering.{is_lt, nat_cmp}
use Rattle.std.specs.Cmp.Lexicographic.{slice_cmp}
use Rattle.op_tables.specs.declared.table.Row.{Row}

-- the row with this spelling, if there is one; the first, where there are several
abbrev pub row_of : List Row → List ℕ → Option Row
row_of rows word = find (λ row. bytes_eq row.spelling.now word) rows

-- each word is below all that follow, in the order of bytes: no word stands twice
abbrev pub is_ascending : List (List ℕ) → Bool
is_ascending [] = true
is_ascending (word ∷ words) = list_all (λ later. is_lt (slice_cmp nat_cmp word later)) words && is_ascending words

-- the rows have these words for their spellings, in this order, which ascends; a row's code is its place
pub record IsTableOf (words : List (List ℕ)) (rows : List Row) : Type 0 where
  pub spelled : map (λ row. row.spelling.now) rows ≡ words
  pub coded : map (λ row. row.code) rows ≡ range_with_len 0 (length rows)
  pub ascending : IsTrue (is_ascending words)
