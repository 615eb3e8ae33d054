-- A value of a sequence, by steps that each wrap.
use Rattle.std.proofs.Common.{◌≡◌, ap, ◌∙◌, ℤ, pos, ◌+ℤ◌, ◌-ℤ◌, ◌*ℤ◌}
use Rattle.std.proofs.lemmas.Int.{int_wrap-add_right, int_wrap-mul_left}
use mir.Syntax.{w64}
use Rattle.op_tables.specs.Operators.{wrapped}

pub nth_is : (first x step d p : ℤ) → d ≡ wrapped (x -ℤ pos 1) → p ≡ wrapped (d *ℤ step) → wrapped (first +ℤ p) ≡ wrapped (first +ℤ (x -ℤ pos 1) *ℤ step)
nth_is first x step d p e f =
    ap (λ p. wrapped (first +ℤ p)) (f ∙ ap (λ d. wrapped (d *ℤ step)) e ∙ int_wrap-mul_left w64 (x -ℤ pos 1) step)
    ∙ int_wrap-add_right w64 first ((x -ℤ pos 1) *ℤ step)
