-- Of private clauses.
-- No public clause cites this file. How scalars get their values after a nest, as code holds it.
use Rattle.std.specs.Prelude.{ℕ, suc, ◌+◌, List, [], ◌∷◌, if◌then◌else◌}
use Rattle.array_meaning.specs.Statements.{Block}
use Rattle.array_meaning.specs.Iterations.{is_in}
use Rattle.nest_syntax.specs.Finals.{Final, Folds, Lasts}
use Rattle.program_code.specs.NestCode.{operator_in}
use Rattle.node_codegen.specs.declared.nest_finals.Final.{Final as HeldFinal}
use Rattle.node_codegen.specs.declared.nest_finals.Final.TheVariants as held
use Rattle.node_codegen.specs.declared.nest_names.NestNames.{NestNames}

abbrev pub final : HeldFinal → Final
final (held.Folds j r x) = Folds j r x
final (held.Lasts r q x) = Lasts r q x

-- of a scalar with a place among those that a block assigns
module _ (names marks : ℕ) (reduction : List ℕ) (body : Block) where
  abbrev pub final_at : (j k : ℕ) → Final
  final_at j k = if is_in k reduction then Folds (operator_in body k) (names + j) k else Lasts (names + j) (marks + j) k

  -- and of those from there on
  abbrev pub finals_at : ℕ → List ℕ → List Final
  finals_at j [] = []
  finals_at j (k ∷ ks) = final_at j k ∷ finals_at (suc j) ks

abbrev pub final_of : NestNames → Block → (j k : ℕ) → Final
final_of w = final_at w.names w.marks w.reduction.items

abbrev pub finals_by : NestNames → Block → ℕ → List ℕ → List Final
finals_by w = finals_at w.names w.marks w.reduction.items
