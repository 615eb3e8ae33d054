-- What holds of the value of an evaluation, where it has one.
use Rattle.std.proofs.Common.{ℕ, zero, suc, List, [], ◌∷◌, ◌++◌, ℤ, Result, Ok, Err, IfOk}
use Rattle.std.specs.Bool.{⊤}
use Rattle.std.specs.List.{AllByRecursion}
use Rattle.array_meaning.specs.Faults.{Cause, ◌>>=◌, with_more, at_tuple}
use Rattle.array_meaning.specs.Elementals.{each}

-- whatever it is
pub has_any : {A : Type 0} (r : Result A Cause) → IfOk r (λ a. ⊤)
has_any (Ok a) = tt
has_any (Err c) = tt

-- of what goes on with a value
pub then_has : {A B : Type 0} (P : A → Type 0) (Q : B → Type 0) (r : Result A Cause) (f : A → Result B Cause) → IfOk r P → ((a : A) → P a → IfOk (f a) Q)
    → IfOk (r >>= f) Q
then_has P Q (Ok a) f h go = go a h
then_has P Q (Err c) f h go = tt

module _ {A : Type 0} (P : A → Type 0) where
  pub more_have : (r : Result A Cause) (rs : Result (List A) Cause) → IfOk r P → IfOk rs (AllByRecursion P) → IfOk (with_more r rs) (AllByRecursion P)
  more_have (Ok v) (Ok vs) f g = (f, g)
  more_have (Ok v) (Err c) f g = tt
  more_have (Err c) rs f g = tt

  tuple_has : (tuple : List ℤ) (r : Result A Cause) → IfOk r P → IfOk (at_tuple tuple r) P
  tuple_has tuple (Ok v) h = h
  tuple_has tuple (Err c) h = tt

  one_more : (vs : List A) (v : A) → AllByRecursion P vs → P v → AllByRecursion P (vs ++ v ∷ [])
  one_more [] v h f = (f, tt)
  one_more (x ∷ xs) v h f = (h.0, one_more xs v h.1 f)

  -- of the results at all tuples
  pub each_has : (tuple : ℕ → List ℤ) (f : ℕ → Result A Cause) → ((t : ℕ) → IfOk (f t) P) → (n : ℕ) → IfOk (each tuple f n) (AllByRecursion P)
  each_has tuple f h zero = tt
  each_has tuple f h (suc n) =
      then_has (AllByRecursion P) (AllByRecursion P) (each tuple f n) (λ vs. at_tuple (tuple n) (f n) >>= (λ v. Ok (vs ++ v ∷ []))) (each_has tuple f h n) (λ vs all.
      then_has P (AllByRecursion P) (at_tuple (tuple n) (f n)) (λ v. Ok (vs ++ v ∷ [])) (tuple_has (tuple n) (f n) (h n)) (λ v one. one_more vs v all one))
