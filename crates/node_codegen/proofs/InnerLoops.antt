-- So many loops, where the first of them is known.
use Rattle.std.proofs.Common.{◌≡◌, ℕ, suc, List, ◌∷◌, arith, ◌≢◌, ◌-◌, ap, ◌∙◌}
use Rattle.resolved_program.specs.Resolved.{inner_loops}
use Rattle.array_meaning.specs.Statements.{Block, Loop}

pub loops_more : (n : ℕ) (block : Block) (l : Loop) (rest : ℕ → List Loop) → n ≢ 0 → ((m : ℕ) → inner_loops (suc m) block ≡ l ∷ rest m) → inner_loops n block ≡ l ∷ rest (n - 1)
loops_more n block l rest some first = let number : n ≡ suc (n - 1) = omega (arith, some) in ap (λ m. inner_loops m block) number ∙ first (n - 1)
