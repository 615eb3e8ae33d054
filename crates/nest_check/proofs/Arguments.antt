-- The arguments of a reduction.
use Rattle.std.proofs.Common.{◌≡◌, ℕ, List, [], ◌∷◌, length, None, refl}
use Rattle.op_tables.specs.declared.op.Op.{Op}
use Rattle.syntax_tree.specs.declared.expr.Expr.{Expr}
use Rattle.syntax_tree.specs.Expression.{Call, arguments_of}
use Rattle.nest_check.specs.ReductionStatements.{operator_in}

-- other than two arguments make no reduction
pub other_arguments : (x : List ℕ) (o : Op) (es : List Expr) → (length es ≡ 2 → ⊥) → None ≡ operator_in x (Call o (arguments_of es))
other_arguments x o [] h = refl
other_arguments x o (a ∷ []) h = refl
other_arguments x o (a ∷ b ∷ []) h = absurd (h refl)
other_arguments x o (a ∷ b ∷ c ∷ es) h = refl
