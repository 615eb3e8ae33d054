-- Of the claim.
-- The lexemes that a form fixes, and whether they stand at the front.
use Rattle.std.specs.Prelude.{ℕ, Bool, true, false, ◌&&◌, List, [], ◌∷◌, bytes_eq}
use Rattle.syntax_tree.specs.declared.sign.Sign.{Sign}
use Rattle.syntax_tree.specs.declared.sign.Sign.TheVariants as sign
use Rattle.syntax_tree.specs.contracts.sign.SignPartialEq.TheImpl.{eq-value}
use Rattle.syntax_tree.specs.Lexeme.{Lexeme, Word, Fixed}

abbrev pub same_sign : Sign → Sign → Bool
same_sign a b = eq-value.it a b

-- two lexemes are one word, or one operator or delimiter
abbrev pub same : Lexeme → Lexeme → Bool
same (Word a) (Word b) = bytes_eq a b
same (Fixed a) (Fixed b) = same_sign a b
same a b = false

-- these lexemes stand at the front
abbrev pub starts : List Lexeme → List Lexeme → Bool
starts [] ts = true
starts (k ∷ ks) [] = false
starts (k ∷ ks) (t ∷ ts) = same k t && starts ks ts

-- a comma, and so on, alone
abbrev pub comma : List Lexeme
comma = Fixed sign.Comma ∷ []

abbrev pub opening : List Lexeme
opening = Fixed sign.Open ∷ []

abbrev pub closing : List Lexeme
closing = Fixed sign.Close ∷ []

abbrev pub colon : List Lexeme
colon = Fixed sign.Colon ∷ []

abbrev pub colons : List Lexeme
colons = Fixed sign.Colons ∷ []

abbrev pub equals : List Lexeme
equals = Fixed sign.Equals ∷ []

abbrev pub star : List Lexeme
star = Fixed sign.Star ∷ []

-- a word alone, and after a comma
abbrev pub key : List ℕ → List Lexeme
key word = Word word ∷ []

abbrev pub attribute_key : List ℕ → List Lexeme
attribute_key word = Fixed sign.Comma ∷ Word word ∷ []
