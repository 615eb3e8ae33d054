-- Fixed lexemes at the front.
use Rattle.std.proofs.Common.{◌≡◌, Some, None, false, refl, ap}
use Rattle.syntax_tree.specs.declared.sign.Sign.{Sign}
use Rattle.syntax_tree.specs.Lexeme.{Lexeme, Fixed, sign_of}
use Rattle.line_forms.specs.Marks.{same, same_sign}

pub with_sign : (s t : Sign) (l : Lexeme) → Some t ≡ sign_of l → same_sign s t ≡ same (Fixed s) l
with_sign s t (Fixed u) h = let is : t ≡ u = cc in ap (same_sign s) is
with_sign s t l h = absurd cc

pub without_sign : (s : Sign) (l : Lexeme) → None ≡ sign_of l → false ≡ same (Fixed s) l
without_sign s (Fixed u) h = absurd cc
without_sign s l h = refl
