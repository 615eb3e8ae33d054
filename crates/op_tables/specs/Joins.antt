-- Of the claim.
-- What joins two numbers to one: what a reduction joins its elements by (Fortran 95, 13.14), and a variable of a REDUCTION clause its values
-- (HPF 2.0, 5.1.2).
use Rattle.std.specs.Prelude.{◌≡◌, ◌^◌, ◌-◌, ◌&&◌, ◌||◌, ℤ, pos, negsuc, ◌+ℤ◌, ◌*ℤ◌, FitsSigned}
use Rattle.std.specs.Int.{int_max, int_min, int_bit_and, int_bit_or, int_bit_xor, w64}
use Rattle.op_tables.specs.declared.join.Join.{Join}
use Rattle.op_tables.specs.declared.join.Join.TheVariants.{Sum, Product, Greatest, Least, And, Or, ExclusiveOr, Any, All}
use Rattle.op_tables.specs.Operators.{wrapped, truth, is_true}

-- what joins two of some values, and its unit. Rounding would make it none: `(a + b) + c` has to be `a + (b + c)`
pub record IsJoin {V : Type 0} (InRange : V → Type 0) (join : V → V → V) (unit : V) : Type 0 where
  pub closed : (a b : V) → InRange a → InRange b → InRange (join a b)
  pub unit_in : InRange unit
  pub associative : (a b c : V) → InRange a → InRange b → InRange c → join (join a b) c ≡ join a (join b c)
  pub commutative : (a b : V) → join a b ≡ join b a
  pub neutral : (a : V) → InRange a → join a unit ≡ a

-- the values that it is over: 1 and 0 for ANY and ALL, and all numbers of 64 bits for the others
abbrev pub IsValue : Join → ℤ → Type 0
IsValue Any z = truth (is_true z) ≡ z
IsValue All z = truth (is_true z) ≡ z
IsValue j z = FitsSigned w64 z

-- it is over all numbers of 64 bits
abbrev pub IsOverNumbers : Join → Type 0
IsOverNumbers Any = ⊥
IsOverNumbers All = ⊥
IsOverNumbers j = Unit {0}

-- two values joined. Sums and products wrap, and don't fault; bits are those of 64
abbrev pub join : Join → ℤ → ℤ → ℤ
join Sum a b = wrapped (a +ℤ b)
join Product a b = wrapped (a *ℤ b)
join Greatest a b = int_max a b
join Least a b = int_min a b
join And a b = int_bit_and w64 (wrapped a) (wrapped b)
join Or a b = int_bit_or w64 (wrapped a) (wrapped b)
join ExclusiveOr a b = int_bit_xor w64 (wrapped a) (wrapped b)
join Any a b = truth (is_true a || is_true b)
join All a b = truth (is_true a && is_true b)

-- the value of none: the least number for the greatest, the greatest for the least, and all bits for AND. 0 isn't the unit of each
abbrev pub unit : Join → ℤ
unit Sum = pos 0
unit Product = pos 1
unit Greatest = negsuc (2 ^ 63 - 1)
unit Least = pos (2 ^ 63 - 1)
unit And = negsuc 0
unit Or = pos 0
unit ExclusiveOr = pos 0
unit Any = pos 0
unit All = pos 1
