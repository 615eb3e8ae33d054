-- Of the claim.
-- The values of operators and of elemental intrinsic procedures, over integers of 64 bits that wrap (Fortran 95, 7.1.5, 7.2 and
-- 13.14). A logical value is 1 or 0; as a logical operand any number but 0 is true.
use Rattle.std.specs.Prelude.{ℕ, zero, suc, ◌==◌, ◌%◌, Bool, true, false, ◌&&◌, ◌||◌, not, List, [], ◌∷◌, fold, ℤ, pos, negsuc, ◌+ℤ◌, ◌-ℤ◌, ◌*ℤ◌, neg_ℤ, int_lt, int_le, int_div, int_rem, unsigned_abs, Option, Some, None, if◌then◌else◌}
use Rattle.std.specs.Int.{int_wrap, int_pow, int_min, int_max, int_bit_and, int_bit_or, int_bit_xor, int_bit_not, w64}
use Rattle.std.specs.Ordering.{int_eq}
use Rattle.op_tables.specs.declared.op.Op.{Op}
use Rattle.op_tables.specs.declared.op.Op.TheVariants as op

-- the number of 64 bits that is left of a number: that of the same class modulo 2^64
abbrev pub wrapped : ℤ → ℤ
wrapped z = int_wrap w64 z

abbrev pub is_zero : ℤ → Bool
is_zero z = int_eq z (pos 0)

-- the number of a logical value, and the logical value of a number
abbrev pub truth : Bool → ℤ
truth true = pos 1
truth false = pos 0

abbrev pub is_true : ℤ → Bool
is_true z = not (is_zero z)

abbrev pub magnitude : ℤ → ℤ
magnitude z = pos (unsigned_abs z)

-- the magnitude of a with the sign of b (13.14.98)
abbrev pub signed_as : ℤ → ℤ → ℤ
signed_as a b = if int_lt b (pos 0) then neg_ℤ (magnitude a) else magnitude a

-- the number below b in magnitude, and of its sign, that is of a's class modulo b (13.14.74)
abbrev pub modulo : ℤ → ℤ → ℤ
modulo a b = let r = int_rem a b in if int_eq (signed_as r b) r then r else r +ℤ b

-- 1 / a ** n, toward zero; None where a is 0
abbrev pub inverse_power : ℤ → ℕ → Option ℤ
inverse_power (pos zero) n = None
inverse_power (pos (suc zero)) n = Some (pos 1)
inverse_power (negsuc zero) n = Some (if n % 2 == 0 then pos 1 else negsuc 0)
inverse_power a n = Some (pos 0)

abbrev pub power : ℤ → ℤ → Option ℤ
power a (pos n) = Some (wrapped (int_pow a n))
power a (negsuc n) = inverse_power a (suc n)

-- the operators that have no value where a divisor is 0
abbrev pub can_divide : Op → Bool
can_divide op.Div = true
can_divide op.Pow = true
can_divide op.Mod = true
can_divide op.Modulo = true
can_divide o = false

-- unless the divisor is 0
abbrev pub divided : ℤ → ℤ → Option ℤ
divided b value = if is_zero b then None else Some value

abbrev pub quotient : Op → ℤ → ℤ → Option ℤ
quotient op.Div a b = divided b (wrapped (int_div a b))
quotient op.Pow a b = power a b
quotient op.Mod a b = divided b (int_rem a b)
quotient op.Modulo a b = divided b (modulo a b)
quotient o a b = Some (pos 0)

-- the other operators, with one operand and with two
abbrev pub value_of_one : Op → ℤ → ℤ
value_of_one op.Neg a = wrapped (neg_ℤ a)
value_of_one op.Plus a = a
value_of_one op.LogNot a = truth (is_zero a)
value_of_one op.Abs a = wrapped (magnitude a)
value_of_one op.BitNot a = int_bit_not w64 a
value_of_one o a = pos 0

abbrev pub value_of_two : Op → ℤ → ℤ → ℤ
value_of_two op.Add a b = wrapped (a +ℤ b)
value_of_two op.Sub a b = wrapped (a -ℤ b)
value_of_two op.Mul a b = wrapped (a *ℤ b)
value_of_two op.Eq a b = truth (int_eq a b)
value_of_two op.Ne a b = truth (not (int_eq a b))
value_of_two op.Lt a b = truth (int_lt a b)
value_of_two op.Le a b = truth (int_le a b)
value_of_two op.Gt a b = truth (int_lt b a)
value_of_two op.Ge a b = truth (int_le b a)
value_of_two op.And a b = truth (is_true a && is_true b)
value_of_two op.Or a b = truth (is_true a || is_true b)
value_of_two op.Eqv a b = truth (if is_true a then is_true b else is_zero b)
value_of_two op.Neqv a b = truth (if is_true a then is_zero b else is_true b)
value_of_two op.Dim a b = wrapped (int_max (a -ℤ b) (pos 0))
value_of_two op.Sign a b = wrapped (signed_as a b)
value_of_two op.BitAnd a b = int_bit_and w64 a b
value_of_two op.BitOr a b = int_bit_or w64 a b
value_of_two op.BitXor a b = int_bit_xor w64 a b
value_of_two o a b = pos 0

abbrev pub quotient_of : Op → List ℤ → Option ℤ
quotient_of o (a ∷ b ∷ []) = quotient o a b
quotient_of o values = Some (pos 0)

-- by how many operands there are
abbrev pub value_by_count : Op → List ℤ → ℤ
value_by_count o (a ∷ []) = value_of_one o a
value_by_count o (a ∷ b ∷ []) = value_of_two o a b
value_by_count o values = pos 0

-- MAX and MIN take any number of them
abbrev pub value_of : Op → List ℤ → ℤ
value_of op.Max (a ∷ rest) = fold int_max a rest
value_of op.Min (a ∷ rest) = fold int_min a rest
value_of o values = value_by_count o values

-- the value of an operator or elemental procedure; None where it divides by zero. What has no value here, as a reduction or
-- another number of operands than the operator takes, gives 0
abbrev pub operator_value : Op → List ℤ → Option ℤ
operator_value o values = if can_divide o then quotient_of o values else Some (value_of o values)
