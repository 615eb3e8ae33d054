-- The values of an index, turn by turn.
use Rattle.std.proofs.Common.{◌≡◌, ◌∙◌, sym, ap, ℕ, suc, ◌^◌, ◌<◌, ℤ, pos, ◌+ℤ◌, ◌-ℤ◌, ◌*ℤ◌, to_z, w64, arith}
use Rattle.std.proofs.Math.Nat.{mod-eq_of_lt}
use Rattle.std.specs.Int.{int_wrap}
use Rattle.std.proofs.lemmas.Int.{ints, int_wrap-add_right, int_wrap-mul_left}
use Rattle.op_tables.specs.Operators.{wrapped}
use Rattle.array_meaning.specs.declared.sections.Sequence.{Sequence}
use Rattle.array_meaning.specs.Iterations.{turn_value}

-- a number of 64 bits, read with a sign
pub wrapped_number : (n : ℕ) → n < 2 ^ 64 → to_z w64 n ≡ wrapped (pos n)
unfolding int_wrap
wrapped_number n small = ap (to_z w64) (sym (mod-eq_of_lt small))

pub turn_is : (p : Sequence) (x : ℕ) (n steps v : ℤ) → n ≡ wrapped (pos x) → steps ≡ wrapped (n *ℤ p.step) → v ≡ wrapped (p.first +ℤ steps) → v ≡ turn_value p x
turn_is p x n steps v is by sum =
    let same : pos x ≡ pos (suc x) -ℤ pos 1 = omega (arith, ints) in
    sum
    ∙ ap (λ z. wrapped (p.first +ℤ z)) (by ∙ ap (λ z. wrapped (z *ℤ p.step)) is ∙ int_wrap-mul_left w64 (pos x) p.step)
    ∙ int_wrap-add_right w64 p.first (pos x *ℤ p.step)
    ∙ ap (λ z. wrapped (p.first +ℤ z *ℤ p.step)) same
