-- A body that is one loop, and one that isn't.
use Rattle.std.proofs.Common.{◌≡◌, ℕ, suc, List, [], ◌∷◌, length, get_or, refl, arith}
use Rattle.resolved_program.specs.declared.statements.Statement.{Statement as HeldStatement}
use Rattle.resolved_program.specs.Resolved.{block_of, inner_loops, innermost, statement}
use Rattle.array_meaning.specs.Statements.{Block, Done, Then, Statement, Do}
use Rattle.resolved_program.specs.InnerLoops.{innermost_in, loops_of}

-- by the only statement
only_loops : (n line : ℕ) (st : Statement) → inner_loops (suc n) (Then line st Done) ≡ loops_of n st
only_loops n line (Do mark loop body) = refl
only_loops n line st = refl

only_innermost : (n line : ℕ) (st : Statement) → innermost (suc n) (Then line st Done) ≡ innermost_in n st (Then line st Done)
only_innermost n line (Do mark loop body) = refl
only_innermost n line st = refl

-- where there are others
more_loops : (n line : ℕ) (st : Statement) (l : ℕ) (t : Statement) (b : Block) → inner_loops (suc n) (Then line st (Then l t b)) ≡ []
more_loops n line (Do mark loop body) l t b = refl
more_loops n line st l t b = refl

more_innermost : (n line : ℕ) (st : Statement) (l : ℕ) (t : Statement) (b : Block) → innermost (suc n) (Then line st (Then l t b)) ≡ Then line st (Then l t b)
more_innermost n line (Do mark loop body) l t b = refl
more_innermost n line st l t b = refl

pub one_loops : (xs : List HeldStatement) (d : HeldStatement) (n : ℕ) → length xs ≡ 1 → inner_loops (suc n) (block_of xs) ≡ loops_of n (statement (get_or xs 0 d).what)
one_loops [] d n one = absurd (omega arith)
one_loops (x ∷ []) d n one = only_loops n x.line (statement x.what)
one_loops (x ∷ y ∷ ys) d n one = absurd (omega arith)

pub one_innermost : (xs : List HeldStatement) (d : HeldStatement) (n : ℕ) → length xs ≡ 1 →
    innermost (suc n) (block_of xs) ≡ innermost_in n (statement (get_or xs 0 d).what) (block_of xs)
one_innermost [] d n one = absurd (omega arith)
one_innermost (x ∷ []) d n one = only_innermost n x.line (statement x.what)
one_innermost (x ∷ y ∷ ys) d n one = absurd (omega arith)

pub no_loops : (xs : List HeldStatement) (n : ℕ) → (length xs ≡ 1 → ⊥) → inner_loops (suc n) (block_of xs) ≡ []
no_loops [] n many = refl
no_loops (x ∷ []) n many = absurd (many refl)
no_loops (x ∷ y ∷ ys) n many = more_loops n x.line (statement x.what) y.line (statement y.what) (block_of ys)

pub no_innermost : (xs : List HeldStatement) (n : ℕ) → (length xs ≡ 1 → ⊥) → innermost (suc n) (block_of xs) ≡ block_of xs
no_innermost [] n many = refl
no_innermost (x ∷ []) n many = absurd (many refl)
no_innermost (x ∷ y ∷ ys) n many = more_innermost n x.line (statement x.what) y.line (statement y.what) (block_of ys)
