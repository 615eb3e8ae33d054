-- Of private clauses.
-- No public clause cites this file.
-- What stands at the front of bytes, as it is read.
use Rattle.std.specs.Prelude.{◌≡◌, ℕ, ◌+◌, ℤ, pos, ◌<◌, ◌≤◌, ◌==◌, ◌^◌, Bool, not, IsTrue, IsFalse, List, [], ◌∷◌, length, take, drop, Option, Some, None, if◌then◌else◌}
use Rattle.std.specs.Char.{is_ascii_digit}
use Rattle.std.specs.Str.Parse.{digits_value}
use Rattle.hpf_base.specs.declared.refusal.Reason.TheVariants.{BadLine}
use Rattle.op_tables.specs.Words.{code_in, dot_words, symbols}
use Rattle.source_lines.specs.declared.token.TokenKind.{TokenKind}
use Rattle.token_scan.specs.declared.piece.Piece.{Piece}
use Rattle.token_scan.specs.declared.piece.Piece.TheVariants.{Blank, Token, PastLimit, NoToken}
use Rattle.token_scan.specs.declared.run.Run.{Run}
use Rattle.token_scan.specs.declared.run.Run.TheVariants.{Word, Digits, Without}
use Rattle.token_scan.specs.declared.table_word.TheConstants.{MAX_DOT_BYTES, MAX_SYMBOL_BYTES}
use Rattle.token_scan.specs.declared.table_word.Words.{Words}
use Rattle.token_scan.specs.declared.table_word.Words.TheVariants.{Dots, Symbols}
use Rattle.token_scan.specs.Tokens.{characters, is_above_limit, is_no_token, is_past_limit, is_word_byte, token_kind, pieces, HasBreach}

-- a byte that may stand in the run
abbrev pub is_in : Run → ℕ → Bool
is_in Word b = is_word_byte b
is_in Digits b = is_ascii_digit b
is_in (Without byte) b = not (b == byte)

-- the words of a table
abbrev pub words_of : Words → List (List ℕ)
words_of Dots = dot_words
words_of Symbols = symbols

-- the most bytes of one of them
abbrev pub most_bytes : Words → ℕ
most_bytes Dots = MAX_DOT_BYTES
most_bytes Symbols = MAX_SYMBOL_BYTES

-- no front of more than so many bytes is one of the words
abbrev pub NoWordLonger : List (List ℕ) → List ℕ → ℕ → Type 0
NoWordLonger words bytes n = (m : ℕ) → n < m → m ≤ length bytes → code_in words (take m bytes) ≡ None

-- the front of so many bytes is the word with this code, and no longer front is a word
pub record IsLongestWord (words : List (List ℕ)) (bytes : List ℕ) (len code : ℕ) : Type 0 where
  pub some : 1 ≤ len
  pub within : len ≤ length bytes
  pub is : code_in words (take len bytes) ≡ Some code
  pub longest : NoWordLonger words bytes len

-- the characters between two of these delimiters
abbrev pub quoted : ℕ → List ℕ → Option (List ℕ)
quoted delimiter [] = None
quoted delimiter (b ∷ bytes) = if b == delimiter then characters delimiter bytes else None

-- the number that the digits stand for, where it isn't above 2^63 - 1
abbrev pub IsValue : List ℕ → ℤ → Type 0
IsValue digits n = (n ≡ pos (digits_value 10 digits)) × (digits_value 10 digits < 2 ^ 63)

-- no front is a text between these delimiters
abbrev pub NoneQuoted : ℕ → List ℕ → Type 0
NoneQuoted delimiter bytes = (n : ℕ) → n ≤ length bytes → quoted delimiter (take n bytes) ≡ None

-- a text between these delimiters stands at the front, without a doubled one in it
abbrev pub IsQuoted : ℕ → List ℕ → List ℕ → Type 0
IsQuoted delimiter bytes run = (length run + 2 ≤ length bytes) × (quoted delimiter (take (length run + 2) bytes) ≡ Some run)

-- the first piece is of so many bytes
pub record IsFirst (bytes : List ℕ) (len : ℕ) : Type 0 where
  pub some : 1 ≤ len
  pub within : len ≤ length bytes
  pub cut : pieces bytes ≡ take len bytes ∷ pieces (drop len bytes)

-- the first piece is this token, of so many bytes
abbrev pub IsToken : List ℕ → ℕ → TokenKind → Type 0
IsToken bytes len kind = IsFirst bytes len × (token_kind (take len bytes) ≡ Some kind)

-- what is read is what stands there
abbrev pub IsPiece : List ℕ → Piece → Type 0
IsPiece bytes Blank = IsFirst bytes 1 × (token_kind (take 1 bytes) ≡ None) × IsFalse (is_no_token (take 1 bytes))
IsPiece bytes (Token len kind) = IsToken bytes len kind × IsFalse (is_above_limit kind)
IsPiece bytes (PastLimit len) = IsFirst bytes len × IsFalse (is_no_token (take len bytes)) × IsTrue (is_past_limit (take len bytes))
IsPiece bytes NoToken = HasBreach BadLine (pieces bytes)
