-- What joins the variables of REDUCTION clauses is over all numbers of 64 bits.
use Rattle.std.proofs.Common.{◌≡◌, Some, subst}
use Rattle.std.proofs.lemmas.Option.{same_Some}
use Rattle.op_tables.specs.declared.join.Join.{Join}
use Rattle.op_tables.specs.declared.op.Op.{Op}
use Rattle.op_tables.specs.declared.op.Op.TheVariants as op
use Rattle.op_tables.specs.Joins.{IsOverNumbers}
use Rattle.op_tables.specs.Reductions.{joined_by}

pub over_numbers : (o : Op) (j : Join) → joined_by o ≡ Some j → IsOverNumbers j
over_numbers op.Add j e = subst IsOverNumbers (same_Some _ _ e) tt
over_numbers op.Sub j e = subst IsOverNumbers (same_Some _ _ e) tt
over_numbers op.Mul j e = subst IsOverNumbers (same_Some _ _ e) tt
over_numbers op.Max j e = subst IsOverNumbers (same_Some _ _ e) tt
over_numbers op.Min j e = subst IsOverNumbers (same_Some _ _ e) tt
over_numbers op.BitAnd j e = subst IsOverNumbers (same_Some _ _ e) tt
over_numbers op.BitOr j e = subst IsOverNumbers (same_Some _ _ e) tt
over_numbers op.BitXor j e = subst IsOverNumbers (same_Some _ _ e) tt
over_numbers o j e = absurd cc
