-- What a name stands for after dummies.
use Rattle.std.proofs.Common.{◌≡◌, true, false, cond, List, [], ◌∷◌, Some, refl, bytes_eq}
use Rattle.std.specs.Prelude.{◌||◌}
use Rattle.expression_rules.specs.declared.symbols.Symbol.TheVariants.{Uninitialized}
use Rattle.expression_rules.specs.Symbols.{Name, SymbolTable, find, is_among, with_dummies}

pub find_after : (x : Name) (t : SymbolTable) (xs : List Name) → find x (with_dummies t xs) ≡ cond (is_among x xs) (Some Uninitialized) (find x t)
find_after x t [] = refl
find_after x t (y ∷ ys) =
    elim (bytes_eq x y) as (λ b. cond b (Some Uninitialized) (find x (with_dummies t ys)) ≡ cond (b || is_among x ys) (Some Uninitialized) (find x t)) [
      | true ↦ refl
      | false ↦ find_after x t ys
    ]
