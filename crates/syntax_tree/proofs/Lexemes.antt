-- Lexemes of operators and delimiters.
use Rattle.std.proofs.Common.{◌≡◌, Option, Some, None, refl}
use Rattle.syntax_tree.specs.declared.sign.Sign.{Sign}
use Rattle.syntax_tree.specs.Lexeme.{fixed, sign_of}

pub sign_of_fixed : (s : Option Sign) → s ≡ sign_of (fixed s)
sign_of_fixed None = refl
sign_of_fixed (Some s) = refl
