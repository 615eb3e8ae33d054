-- Of the claim.
-- What tokens are to the grammar (Fortran 95, 3.2).
use Rattle.std.specs.Prelude.{ℕ, ℤ, List, [], ◌∷◌, map, slice_get, Option, Some, None}
use Rattle.source_lines.specs.declared.token.Token.{Token}
use Rattle.source_lines.specs.declared.token.TokenKind.{TokenKind}
use Rattle.source_lines.specs.declared.token.TokenKind.TheVariants as token
use Rattle.syntax_tree.specs.declared.sign.Sign.{Sign}
use Rattle.syntax_tree.specs.declared.sign.Sign.TheVariants as sign

-- a token without its place; `.EQ.` and `==` are one
pub data Lexeme : Type 0 where
  Word : List ℕ → Lexeme
  Integer : ℤ → Lexeme
  Text : List ℕ → Lexeme
  Fixed : Sign → Lexeme
  Unknown : Lexeme

-- the signs of the words between periods, and those of the symbols, in the order of their codes
abbrev pub dot_signs : List Sign
dot_signs =
    sign.And ∷ sign.Eq ∷ sign.Eqv ∷ sign.False ∷ sign.Ge ∷ sign.Gt ∷ sign.Le ∷ sign.Lt ∷ sign.Ne ∷ sign.Neqv ∷ sign.Not ∷ sign.Or ∷ sign.True ∷ []

abbrev pub symbol_signs : List Sign
symbol_signs =
    sign.Open ∷ sign.Close ∷ sign.Star ∷ sign.Power ∷ sign.Plus ∷ sign.Comma ∷ sign.Minus ∷ sign.Slash ∷ sign.Ne ∷ sign.Colon ∷ sign.Colons ∷ sign.Lt ∷ sign.Le
    ∷ sign.Equals ∷ sign.Eq ∷ sign.Gt ∷ sign.Ge ∷ []

abbrev pub fixed : Option Sign → Lexeme
fixed None = Unknown
fixed (Some s) = Fixed s

abbrev pub lexeme_of : TokenKind → Lexeme
lexeme_of (token.Word name) = Word name
lexeme_of (token.Integer value) = Integer value
lexeme_of (token.Text bytes) = Text bytes
lexeme_of (token.Dot code) = fixed (slice_get dot_signs code)
lexeme_of (token.Symbol code) = fixed (slice_get symbol_signs code)

abbrev pub lexemes : List Token → List Lexeme
lexemes tokens = map (λ t. lexeme_of t.kind) tokens

abbrev pub sign_of : Lexeme → Option Sign
sign_of (Fixed s) = Some s
sign_of l = None
