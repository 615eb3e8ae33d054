-- Of the claim.
-- The tokens of a logical line (Fortran 95, 3.2 and 3.3.1).
use Rattle.std.specs.Prelude.{◌≡◌, ℕ, ◌+◌, ◌==◌, ◌^◌, ◌++◌, ◌||◌, ◌&&◌, nat_le, nat_lt, pos, Bool, false, not, IsTrue, List, [], ◌∷◌, map, length, get_or, take}
use Rattle.std.specs.Prelude.{zero, suc, Option, Some, None, is_some, is_none, option_map, option_to_list, if◌then◌else◌}
use Rattle.std.specs.Char.{is_ascii_alphabetic, is_ascii_alphanumeric, is_ascii_digit, to_ascii_uppercase}
use Rattle.std.specs.List.{list_all, list_any}
use Rattle.std.specs.Str.Parse.{digits_value}
use Rattle.token_scan.specs.declared.limits.TheConstants.{MAX_NAME_BYTES}
use Rattle.hpf_base.specs.declared.refusal.Reason.{Reason}
use Rattle.hpf_base.specs.declared.refusal.Reason.TheVariants.{BadLine, Limit}
use Rattle.op_tables.specs.Words.{code_in, dot_words, symbols}
use Rattle.source_lines.specs.Cut.{cut}
use Rattle.source_lines.specs.PhysicalLines.{is_blank, is_delimiter}
use Rattle.source_lines.specs.declared.line.LogicalLine.{LogicalLine}
use Rattle.source_lines.specs.declared.token.Token.{Token}
use Rattle.source_lines.specs.declared.token.TokenKind.{TokenKind}
use Rattle.source_lines.specs.declared.token.TokenKind.TheVariants.{Word, Integer, Text, Dot, Symbol}
use Rattle.token_scan.specs.declared.byte_class.ByteClass.{ByteClass}
use Rattle.token_scan.specs.declared.byte_class.ByteClass.TheVariants.{Blank, Letter, Digit, Delimiter, Period, Other}

-- what a byte begins: nothing, a word, digits, a text, a word between periods or a symbol
abbrev pub class_of : ℕ → ByteClass
class_of b =
    if is_blank b then Blank else if is_ascii_alphabetic b then Letter else if is_ascii_digit b then Digit
    else if is_delimiter b then Delimiter else if b == 46 then Period else Other

-- the byte in front; where there is none, 0, which begins no token
abbrev pub first_byte : List ℕ → ℕ
first_byte bytes = get_or bytes 0 0

-- the class of the byte in front
abbrev pub first_class : List ℕ → ByteClass
first_class bytes = class_of (first_byte bytes)

abbrev pub upper : List ℕ → List ℕ
upper bytes = map to_ascii_uppercase bytes

-- a letter, a digit or an underscore
abbrev pub is_word_byte : ℕ → Bool
is_word_byte b = is_ascii_alphanumeric b || b == 95

-- with a byte more at the front
abbrev pub longer : ℕ → Option (List ℕ) → Option (List ℕ)
longer b text = option_map (λ bytes. b ∷ bytes) text

-- the characters of a text constant, from the end its first delimiter to its end, where a delimiter stands; a doubled
-- delimiter between stands for one
abbrev pub characters : ℕ → List ℕ → Option (List ℕ)
characters delimiter [] = None
characters delimiter (b ∷ []) = if b == delimiter then Some [] else None
characters delimiter (b ∷ c ∷ bytes) =
    if b == delimiter then (if c == delimiter then longer delimiter (characters delimiter bytes) else None)
    else longer b (characters delimiter (c ∷ bytes))

-- the characters between two delimiters
abbrev pub text_of : List ℕ → Option (List ℕ)
text_of [] = None
text_of (b ∷ bytes) = characters b bytes

-- the token that bytes spell, all of them, by the class of the first; the case of letters makes no difference outside of
-- texts
abbrev pub spelled : ByteClass → List ℕ → Option TokenKind
spelled Blank bytes = None
spelled Letter bytes = if list_all is_word_byte bytes then Some (Word (upper bytes)) else None
spelled Digit bytes = if list_all is_ascii_digit bytes then Some (Integer (pos (digits_value 10 bytes))) else None
spelled Delimiter bytes = option_map Text (text_of bytes)
spelled Period bytes = option_map Dot (code_in dot_words (upper bytes))
spelled Other bytes = option_map Symbol (code_in symbols bytes)

abbrev pub token_kind : List ℕ → Option TokenKind
token_kind bytes = spelled (first_class bytes) bytes

-- the greatest number up to this one that passes a test; 0 where none does
abbrev pub greatest : (ℕ → Bool) → ℕ → ℕ
greatest test zero = zero
greatest test (suc n) = if test (suc n) then suc n else greatest test n

-- how long the longest token at the front is; 0 where none begins there
abbrev pub longest : List ℕ → ℕ
longest bytes = greatest (λ n. is_some (token_kind (take n bytes))) (length bytes)

-- a line cut into its tokens, and single bytes where none begins
abbrev pub pieces : List ℕ → List (List ℕ)
pieces bytes = cut longest bytes

-- the token of a piece that begins at a place
abbrev pub token_at : ℕ → List ℕ → Option Token
token_at from piece = option_map (λ kind. record { from = from; to = from + length piece; kind = kind }) (token_kind piece)

-- the tokens of pieces that stand one after the other from a place on
abbrev pub tokens_from : ℕ → List (List ℕ) → List Token
tokens_from from [] = []
tokens_from from (piece ∷ pieces) = option_to_list (token_at from piece) ++ tokens_from (from + length piece) pieces

-- the tokens of a line; blanks separate them
abbrev pub tokens : List ℕ → List Token
tokens bytes = tokens_from 0 (pieces bytes)

-- neither a token nor blank
abbrev pub is_no_token : List ℕ → Bool
is_no_token piece = is_none (token_kind piece) && not (list_all is_blank piece)

-- a word of too many bytes, or a number above 2^63 - 1
abbrev pub is_above_limit : TokenKind → Bool
is_above_limit (Word name) = nat_lt MAX_NAME_BYTES (length name)
is_above_limit (Integer (pos value)) = nat_le (2 ^ 63) value
is_above_limit kind = false

-- a token above its limit
abbrev pub is_past_limit : List ℕ → Bool
is_past_limit piece = list_any is_above_limit (option_to_list (token_kind piece))

-- of these pieces one is a breach for this reason
abbrev pub HasBreach : Reason → List (List ℕ) → Type 0
HasBreach BadLine pieces = IsTrue (list_any is_no_token pieces)
HasBreach Limit pieces = IsTrue (list_any is_past_limit pieces)
HasBreach reason pieces = ⊥

-- the breaches of a line's tokens
abbrev pub IsTokenBreach : LogicalLine → ℕ → Reason → Type 0
IsTokenBreach line number reason = (number ≡ line.line) × HasBreach reason (pieces line.bytes)
