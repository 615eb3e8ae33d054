-- Of the claim.
-- The values of reductions (Fortran 95, 13.14), and what joins the variables of REDUCTION clauses (HPF 2.0, 5.1.2).
use Rattle.std.specs.Prelude.{List, fold, ℤ, Option, Some, None}
use Rattle.op_tables.specs.declared.join.Join.{Join}
use Rattle.op_tables.specs.declared.join.Join.TheVariants.{Sum, Product, Greatest, Least, And, Or, ExclusiveOr, Any, All}
use Rattle.op_tables.specs.declared.op.Op.{Op}
use Rattle.op_tables.specs.declared.op.Op.TheVariants as op
use Rattle.op_tables.specs.declared.reductions.Made.{Made}
use Rattle.op_tables.specs.declared.reductions.Made.TheVariants.{Value, Truth}
use Rattle.op_tables.specs.declared.reductions.Reduction.{Reduction}
use Rattle.op_tables.specs.Joins.{join, unit}
use Rattle.op_tables.specs.Operators.{truth, is_true}

abbrev pub of_values : Join → Reduction
of_values j = record { join = j; made = Value }

abbrev pub of_truths : Join → Reduction
of_truths j = record { join = j; made = Truth }

-- what joins the elements, and what is made of each before. What is no reduction adds them
abbrev pub reduction_of : Op → Reduction
reduction_of op.Product = of_values Product
reduction_of op.MaxVal = of_values Greatest
reduction_of op.MinVal = of_values Least
reduction_of op.Count = of_truths Sum
reduction_of op.Any = of_truths Any
reduction_of op.All = of_truths All
reduction_of o = of_values Sum

-- an element itself, or its truth
abbrev pub made : Made → ℤ → ℤ
made Value v = v
made Truth v = truth (is_true v)

-- the value so far with one element more
abbrev pub combined : Reduction → ℤ → ℤ → ℤ
combined r so_far v = join r.join so_far (made r.made v)

-- the value of these elements, in array element order; that of none is the unit
abbrev pub reduced : Op → List ℤ → ℤ
reduced o elements = fold (combined (reduction_of o)) (unit (reduction_of o).join) elements

-- what joins the variable of a reduction statement of this operator or procedure; `+` and `-` are one
abbrev pub joined_by : Op → Option Join
joined_by op.Add = Some Sum
joined_by op.Sub = Some Sum
joined_by op.Mul = Some Product
joined_by op.Max = Some Greatest
joined_by op.Min = Some Least
joined_by op.BitAnd = Some And
joined_by op.BitOr = Some Or
joined_by op.BitXor = Some ExclusiveOr
joined_by o = None
