-- Reductions give values of 64 bits.
use Rattle.std.proofs.Common.{List, [], ◌∷◌, fold, ◌&&◌, ◌||◌, ℤ, FitsSigned, w64}
use Rattle.std.specs.List.{AllByRecursion}
use Rattle.std.proofs.Math.Facts.{sfits_lit}
use Rattle.op_tables.specs.declared.join.Join.{Join}
use Rattle.op_tables.specs.declared.join.Join.TheVariants.{Sum, Product, Greatest, Least, And, Or, ExclusiveOr, Any, All}
use Rattle.op_tables.specs.declared.op.Op.{Op}
use Rattle.op_tables.specs.declared.reductions.Made.{Made}
use Rattle.op_tables.specs.declared.reductions.Made.TheVariants.{Value, Truth}
use Rattle.op_tables.specs.declared.reductions.Reduction.{Reduction}
use Rattle.op_tables.specs.Joins.{join, unit}
use Rattle.op_tables.specs.Operators.{is_true}
use Rattle.op_tables.specs.Reductions.{reduction_of, made, combined, reduced}
use Rattle.op_tables.proofs.Joins.{joins}
use Rattle.fitting_states.proofs.OperatorRanges.{truth_fits}

pub join_fits : (j : Join) (a b : ℤ) → FitsSigned w64 a → FitsSigned w64 b → FitsSigned w64 (join j a b)
join_fits Any a b f g = truth_fits (is_true a || is_true b)
join_fits All a b f g = truth_fits (is_true a && is_true b)
join_fits Sum a b f g = (joins Sum).closed a b f g
join_fits Product a b f g = (joins Product).closed a b f g
join_fits Greatest a b f g = (joins Greatest).closed a b f g
join_fits Least a b f g = (joins Least).closed a b f g
join_fits And a b f g = (joins And).closed a b f g
join_fits Or a b f g = (joins Or).closed a b f g
join_fits ExclusiveOr a b f g = (joins ExclusiveOr).closed a b f g

pub unit_fits : (j : Join) → FitsSigned w64 (unit j)
unit_fits Any = sfits_lit tt
unit_fits All = sfits_lit tt
unit_fits Sum = (joins Sum).unit_in
unit_fits Product = (joins Product).unit_in
unit_fits Greatest = (joins Greatest).unit_in
unit_fits Least = (joins Least).unit_in
unit_fits And = (joins And).unit_in
unit_fits Or = (joins Or).unit_in
unit_fits ExclusiveOr = (joins ExclusiveOr).unit_in

made_fits : (m : Made) (v : ℤ) → FitsSigned w64 v → FitsSigned w64 (made m v)
made_fits Value v f = f
made_fits Truth v f = truth_fits (is_true v)

combined_fits : (r : Reduction) (v : ℤ) (vs : List ℤ) → FitsSigned w64 v → AllByRecursion (FitsSigned w64) vs → FitsSigned w64 (fold (combined r) v vs)
combined_fits r v [] f h = f
combined_fits r v (x ∷ xs) f h = combined_fits r (combined r v x) xs (join_fits r.join v (made r.made x) f (made_fits r.made x h.0)) h.1

pub reduced_fits : (o : Op) (vs : List ℤ) → AllByRecursion (FitsSigned w64) vs → FitsSigned w64 (reduced o vs)
reduced_fits o vs h = combined_fits (reduction_of o) (unit (reduction_of o).join) vs (unit_fits (reduction_of o).join) h
