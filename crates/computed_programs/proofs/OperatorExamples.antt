-- Values of operators and procedures: negative numbers, and the ends of 64 bits. In the comments a bar stands for the end of a line, and declarations are given by the
-- names that they declare.
use Rattle.std.specs.Prelude.{◌≡◌, refl, codes, [], ◌∷◌, pos, true, false}
use Rattle.std.specs.Fmt.{digits}
use Rattle.std.specs.Int.{int_wrap}
use Rattle.op_tables.specs.declared.op.Op.TheVariants as op
use Rattle.syntax_tree.specs.Expression as e
use Rattle.array_meaning.specs.declared.faults.FaultKind.TheVariants.{DivZero}
use Rattle.array_meaning.specs.Faults.{Nowhere}
use Rattle.array_meaning.specs.Serial.{outcome}
use Rattle.computed_programs.proofs.Shorthands.{A, I, J, K, scalar, vector, matrix, n, v, minus, add, sub, mul, div, gt, call, variable, variable_at, element_at, assign, axis, set, print, block, loop, if_one, forall_over, row, finishes, faults}

-- ---- integer division

-- A quotient is rounded toward zero, MOD has the sign of its first argument and MODULO that of its second (7.2.1.1, 13.14.73 and 13.14.74).
-- PRINT *, (-7)/2, 7/(-2), MOD(7,-3), MODULO(7,-3), MOD(-6,3), MODULO(-6,3)|END
quotients : outcome [] (block (
    print 1 (div (e.Closed (minus (n 7))) (n 2) ∷ div (n 7) (e.Closed (minus (n 2))) ∷ call op.Mod (n 7 ∷ minus (n 3) ∷ []) ∷
    call op.Modulo (n 7 ∷ minus (n 3) ∷ []) ∷ call op.Mod (minus (n 6) ∷ n 3 ∷ []) ∷ call op.Modulo (minus (n 6) ∷ n 3 ∷ []) ∷ []) ∷ []))
    ≡ finishes (codes "-3 -3 1 -2 0 0" ∷ []) []
unfolding int_wrap digits
quotients = refl

-- MODULO by 0 divides by zero.
-- INTEGER :: K|K = MODULO(1,K)|END
modulo_by_zero : outcome (scalar K (pos 0) ∷ []) (block (set 2 (variable K) (call op.Modulo (n 1 ∷ v K ∷ [])) ∷ []))
    ≡ faults 2 DivZero Nowhere [] ([] ∷ [])
unfolding int_wrap digits
modulo_by_zero = refl

-- So does MOD.
-- INTEGER :: K|K = MOD(1,K)|END
mod_by_zero : outcome (scalar K (pos 0) ∷ []) (block (set 2 (variable K) (call op.Mod (n 1 ∷ v K ∷ [])) ∷ []))
    ≡ faults 2 DivZero Nowhere [] ([] ∷ [])
unfolding int_wrap digits
mod_by_zero = refl

-- 0 to the power 0 is 1; where the exponent is below 0, 1 over the power is rounded toward zero.
-- PRINT *, 0**0, (-2)**3, (-1)**(-2), 1**(-5), (-2)**(-1)|END
powers : outcome [] (block (
    print 1 (e.Binary op.Pow (n 0) (n 0) ∷ e.Binary op.Pow (e.Closed (minus (n 2))) (n 3) ∷ e.Binary op.Pow (e.Closed (minus (n 1))) (e.Closed (minus (n 2))) ∷
    e.Binary op.Pow (n 1) (e.Closed (minus (n 5))) ∷ e.Binary op.Pow (e.Closed (minus (n 2))) (e.Closed (minus (n 1))) ∷ []) ∷ []))
    ≡ finishes (codes "1 -8 1 1 0" ∷ []) []
unfolding int_wrap digits
powers = refl

-- ---- 64 bits

-- What needs more than 64 bits is the number of its class modulo 2^64: 2^63, -2^63 - 1 and 2^64 - 2.
-- PRINT *, 9223372036854775807 + 1, -9223372036854775807 - 2, 9223372036854775807 * 2|END
sums_wrap : outcome [] (block (print 1 (add (n 9223372036854775807) (n 1) ∷ sub (minus (n 9223372036854775807)) (n 2) ∷ mul (n 9223372036854775807) (n 2) ∷ []) ∷ []))
    ≡ finishes (codes "-9223372036854775808 9223372036854775807 -2" ∷ []) []
unfolding int_wrap digits
sums_wrap = refl

-- The least number has no other sign: -(-2^63), ABS of it, and it divided by -1.
-- PRINT *, -(-9223372036854775807 - 1), ABS(-9223372036854775807 - 1), (-9223372036854775807 - 1)/(-1)|END
least_number : outcome [] (block (
    print 1 (minus (e.Closed (sub (minus (n 9223372036854775807)) (n 1))) ∷ call op.Abs (sub (minus (n 9223372036854775807)) (n 1) ∷ []) ∷
    div (e.Closed (sub (minus (n 9223372036854775807)) (n 1))) (e.Closed (minus (n 1))) ∷ []) ∷ []))
    ≡ finishes (codes "-9223372036854775808 -9223372036854775808 -9223372036854775808" ∷ []) []
unfolding int_wrap digits
least_number = refl

-- 2^63, 2^64, and 3^40 - 2^64.
-- PRINT *, 2**63, 2**64, 3**40|END
powers_wrap : outcome [] (block (print 1 (e.Binary op.Pow (n 2) (n 63) ∷ e.Binary op.Pow (n 2) (n 64) ∷ e.Binary op.Pow (n 3) (n 40) ∷ []) ∷ []))
    ≡ finishes (codes "-9223372036854775808 0 -6289078614652622815" ∷ []) []
unfolding int_wrap digits
powers_wrap = refl

-- DIM is positive before it wraps, and 0 where the first argument isn't greater.
-- PRINT *, DIM(9223372036854775807,-1), DIM(5,3), DIM(3,3)|END
difference_wraps : outcome [] (block (
    print 1 (call op.Dim (n 9223372036854775807 ∷ minus (n 1) ∷ []) ∷ call op.Dim (n 5 ∷ n 3 ∷ []) ∷ call op.Dim (n 3 ∷ n 3 ∷ []) ∷ []) ∷ []))
    ≡ finishes (codes "-9223372036854775808 2 0" ∷ []) []
unfolding int_wrap digits
difference_wraps = refl

-- Bit by bit, where -1 has all bits.
-- PRINT *, IAND(-1,6), IOR(-8,1), IEOR(-1,1), NOT(-1)|END
bits_of_negatives : outcome [] (block (
    print 1 (call op.BitAnd (minus (n 1) ∷ n 6 ∷ []) ∷ call op.BitOr (minus (n 8) ∷ n 1 ∷ []) ∷ call op.BitXor (minus (n 1) ∷ n 1 ∷ []) ∷
    call op.BitNot (minus (n 1) ∷ []) ∷ []) ∷ []))
    ≡ finishes (codes "6 -7 -2 0" ∷ []) []
unfolding int_wrap digits
bits_of_negatives = refl

-- ---- signs, relations and logical operators

-- SIGN with 0 is positive.
-- PRINT *, SIGN(-3,0), SIGN(0,-1), ABS(-3), MIN(3,1,2), +5|END
signs : outcome [] (block (
    print 1 (call op.Sign (minus (n 3) ∷ n 0 ∷ []) ∷ call op.Sign (n 0 ∷ minus (n 1) ∷ []) ∷ call op.Abs (minus (n 3) ∷ []) ∷ call op.Min (n 3 ∷ n 1 ∷ n 2 ∷ []) ∷
    e.Unary op.Plus (n 5) ∷ []) ∷ []))
    ≡ finishes (codes "3 0 3 1 5" ∷ []) []
unfolding int_wrap digits
signs = refl

-- Of 1, 2, 3: at most 2, at least 2, less than 2, greater than 2.
-- INTEGER :: A(3), I|DO I = 1, 3|A(I) = I|END DO|PRINT *, COUNT(A <= 2), COUNT(A >= 2), COUNT(A < 2), COUNT(A > 2)|END
relations : outcome (vector A 3 0 ∷ scalar I (pos 0) ∷ []) (block (
    loop 2 (axis I (n 1) (n 3)) (set 3 (element_at A (v I)) (v I) ∷ []) ∷
    print 5 (call op.Count (e.Binary op.Le (v A) (n 2) ∷ []) ∷ call op.Count (e.Binary op.Ge (v A) (n 2) ∷ []) ∷ call op.Count (e.Binary op.Lt (v A) (n 2) ∷ []) ∷
    call op.Count (e.Binary op.Gt (v A) (n 2) ∷ []) ∷ []) ∷ []))
    ≡ finishes (codes "2 2 1 1" ∷ []) (row (1 ∷ 2 ∷ 3 ∷ []) ∷ [] ∷ [])
unfolding int_wrap digits
relations = refl

-- Of the pairs of truth: two are alike, two differ, and three have a true one.
-- INTEGER :: A(2,2), I, J|FORALL (I=1:2, J=1:2) A(I,J) = 10*(I-1) + J-1|PRINT *, COUNT(A > 9 .EQV. MOD(A,10) > 0), COUNT(A > 9 .NEQV. MOD(A,10) > 0), COUNT(A > 9 .OR.
-- MOD(A,10) > 0)|END
equivalence : outcome (matrix A 2 2 0 ∷ scalar I (pos 0) ∷ scalar J (pos 0) ∷ []) (block (
    forall_over 2 (axis I (n 1) (n 2) ∷ axis J (n 1) (n 2) ∷ [])
    (assign 2 (variable_at A (e.One (v I) ∷ e.One (v J) ∷ [])) (sub (add (mul (n 10) (e.Closed (sub (v I) (n 1)))) (v J)) (n 1)) ∷ []) ∷
    print 3 (call op.Count (e.Binary op.Eqv (gt (v A) (n 9)) (gt (call op.Mod (v A ∷ n 10 ∷ [])) (n 0)) ∷ []) ∷
    call op.Count (e.Binary op.Neqv (gt (v A) (n 9)) (gt (call op.Mod (v A ∷ n 10 ∷ [])) (n 0)) ∷ []) ∷
    call op.Count (e.Binary op.Or (gt (v A) (n 9)) (gt (call op.Mod (v A ∷ n 10 ∷ [])) (n 0)) ∷ []) ∷ []) ∷ []))
    ≡ finishes (codes "2 2 3" ∷ []) (row (0 ∷ 10 ∷ 1 ∷ 11 ∷ []) ∷ [] ∷ [] ∷ [])
unfolding int_wrap digits
equivalence = refl

-- Logical constants, and .NOT. of one.
-- IF (.TRUE. .AND. .NOT. .FALSE.) PRINT *, 1|END
logical_constants : outcome [] (block (if_one 1 (e.Binary op.And (e.Truth true) (e.Unary op.LogNot (e.Truth false))) (print 1 (n 1 ∷ [])) ∷ []))
    ≡ finishes (codes "1" ∷ []) []
unfolding int_wrap digits
logical_constants = refl
