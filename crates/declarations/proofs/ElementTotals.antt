-- The elements of all arrays, where a name is declared.
use Rattle.std.proofs.Common.{◌≡◌, ℕ, ℤ, ◌+◌, true, false, cond, [], ◌∷◌, Option, Some, None, refl, arith, bytes_eq}
use Rattle.std.specs.Prelude.{is_some, if◌then◌else◌}
use Rattle.expression_rules.specs.declared.symbols.Symbol.{Symbol}
use Rattle.expression_rules.specs.declared.symbols.Symbol.TheVariants.{Uninitialized, Initialized, Constant, Array, Template, Arrangement}
use Rattle.expression_rules.specs.Symbols.{Name, SymbolTable, all_elements, changed, elements_of, find, is_declared, is_uninitialized, satisfies}

abbrev pub elements_found : Option Symbol → ℕ
elements_found None = 0
elements_found (Some s) = elements_of s

-- those of what the name stood for go, and those of what it stands for now come
pub elements_changed : (x : Name) (s : Symbol) (t : SymbolTable) → all_elements (changed x s t) + elements_found (find x t) ≡ all_elements t + elements_of s
elements_changed x s [] = omega arith
elements_changed x s (e ∷ es) =
    elim (bytes_eq x e.0) as (λ b. all_elements (if b then (e.0, s) ∷ es else e ∷ changed x s es) + elements_found (cond b (Some e.1) (find x es))
    ≡ elements_of e.1 + all_elements es + elements_of s) [
      | true ↦ omega arith
      | false ↦ (let more = elements_changed x s es in omega (arith, more))
    ]

none_undeclared : (o : Option Symbol) → is_some o ≡ false → elements_found o ≡ 0
none_undeclared None h = refl
none_undeclared (Some s) h = absurd cc

-- a name that isn't declared
pub elements_new : (x : Name) (s : Symbol) (t : SymbolTable) → is_declared x t ≡ false → all_elements (changed x s t) ≡ all_elements t + elements_of s
elements_new x s t new = let more = elements_changed x s t in let none = none_undeclared (find x t) new in omega (arith, more, none)

none_of : (o : Option Symbol) → satisfies is_uninitialized o ≡ true → elements_found o ≡ 0
none_of None h = refl
none_of (Some Uninitialized) h = refl
none_of (Some (Initialized n)) h = refl
none_of (Some (Constant n)) h = refl
none_of (Some (Array r ds n)) h = absurd cc
none_of (Some (Template r)) h = refl
none_of (Some (Arrangement r)) h = refl

-- a scalar variable that becomes a constant
pub elements_defined : (x : Name) (n : Option ℤ) (t : SymbolTable) → satisfies is_uninitialized (find x t) ≡ true → all_elements (changed x (Constant n) t) ≡ all_elements t
elements_defined x n t h = let more = elements_changed x (Constant n) t in let none = none_of (find x t) h in omega (arith, more, none)
