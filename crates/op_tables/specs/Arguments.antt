-- Of the claim.
-- What operators and intrinsic procedures take, and which of them are more than elemental (Fortran 95, 7.1.2 and 13.11; HPF 2.0,
-- 7.1).
use Rattle.std.specs.Prelude.{ℕ, Bool, true, false, ◌&&◌, ◌||◌, nat_le}
use Rattle.op_tables.specs.declared.op.Op.{Op}
use Rattle.op_tables.specs.declared.op.Op.TheVariants as op

-- how few and how many operands or arguments it takes in an expression. No number is right for SUM_PREFIX, CSHIFT and TRANSPOSE, which stand in
-- none: each is the whole right side of an assignment
abbrev pub fewest : Op → ℕ
fewest op.Neg = 1
fewest op.Plus = 1
fewest op.LogNot = 1
fewest op.Abs = 1
fewest op.BitNot = 1
fewest op.Sum = 1
fewest op.Product = 1
fewest op.MaxVal = 1
fewest op.MinVal = 1
fewest op.Count = 1
fewest op.Any = 1
fewest op.All = 1
fewest op.Size = 1
fewest op.Nodes = 0
fewest o = 2

abbrev pub most : Op → ℕ
most op.Max = 7
most op.Min = 7
most op.Size = 2
most op.Nodes = 1
most op.SumPrefix = 0
most op.CShift = 0
most op.Transpose = 0
most o = fewest o

abbrev pub takes : Op → ℕ → Bool
takes o n = nat_le (fewest o) n && nat_le n (most o)

-- a reduction of an array to a scalar
abbrev pub is_reduction : Op → Bool
is_reduction op.Sum = true
is_reduction op.Product = true
is_reduction op.MaxVal = true
is_reduction op.MinVal = true
is_reduction op.Count = true
is_reduction op.Any = true
is_reduction op.All = true
is_reduction o = false

-- an inquiry on the bounds of an array
abbrev pub is_inquiry : Op → Bool
is_inquiry op.Size = true
is_inquiry op.LBound = true
is_inquiry op.UBound = true
is_inquiry o = false

-- NUMBER_OF_PROCESSORS
abbrev pub is_processor_count : Op → Bool
is_processor_count op.Nodes = true
is_processor_count o = false

-- SUM_PREFIX, CSHIFT and TRANSPOSE, which make of a whole array a whole array (13.11.17; HPF 2.0, 7.4)
abbrev pub is_transformation : Op → Bool
is_transformation op.SumPrefix = true
is_transformation op.CShift = true
is_transformation op.Transpose = true
is_transformation o = false

-- one that isn't elemental (13.1): no constant expression has it
abbrev pub is_transformational : Op → Bool
is_transformational o = is_reduction o || is_transformation o
