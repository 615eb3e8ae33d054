-- What is stored at tuples, in order.
use Rattle.std.proofs.Common.{◌≡◌, ℕ, suc, ◌+◌, ◌<◌, List, [], ◌∷◌, ◌++◌, ℤ, refl, ap, sym, ◌∙◌, subst, Option, Some, None, Result, Ok, Err, arith}
use Rattle.array_meaning.specs.Faults.{Cause, at_tuple}
use Rattle.array_meaning.specs.declared.sections.Store.{Store}
use Rattle.array_meaning.specs.Elementals.{each}
use Rattle.term_values.specs.declared.stops.Stop.{Stop}
use Rattle.term_values.specs.Stops.{IsStop}
use Rattle.term_values.proofs.Each.{each_more, each_stop}
use Rattle.serial_run.specs.SectionStores.{Keeps, kept, kept_of}

-- what was kept are stores of tuples
kept_is : (r : Result (List (Option Store)) Cause) (stores : List Store) → kept_of r ≡ Ok stores → (os : List (Option Store)) × (r ≡ Ok os) × (kept os ≡ stores)
kept_is (Ok os) stores h = (os, refl, cc)
kept_is (Err c) stores h = absurd cc

kept_one : (os : List (Option Store)) (st : Store) → kept (os ++ Some st ∷ []) ≡ kept os ++ st ∷ []
kept_one [] st = refl
kept_one (None ∷ os) st = kept_one os st
kept_one (Some st' ∷ os) st = ap (λ xs. st' ∷ xs) (kept_one os st)

kept_none : (os : List (Option Store)) → kept (os ++ None ∷ []) ≡ kept os
kept_none [] = refl
kept_none (None ∷ os) = kept_none os
kept_none (Some st' ∷ os) = ap (λ xs. st' ∷ xs) (kept_none os)

module _ (tuple : ℕ → List ℤ) (f : ℕ → Result (Option Store) Cause) where
  keep_suc : (t : ℕ) (old new : List Store) → kept_of (each tuple f t) ≡ Ok old → Keeps (f t) old new → kept_of (each tuple f (suc t)) ≡ Ok new
  keep_suc t old new before (None, here, is) =
      let (os, ok, stores) = kept_is (each tuple f t) old before in
      ap kept_of (each_more tuple f t os None ok here) ∙ ap Ok (kept_none os ∙ stores ∙ sym is)
  keep_suc t old new before (Some st, here, is) =
      let (os, ok, stores) = kept_is (each tuple f t) old before in
      ap kept_of (each_more tuple f t os (Some st) ok here) ∙ ap Ok (kept_one os st ∙ ap (λ xs. xs ++ st ∷ []) stores ∙ sym is)

  -- one more tuple
  pub keep_next : (t : ℕ) (old new : List Store) → kept_of (each tuple f t) ≡ Ok old → Keeps (f t) old new → kept_of (each tuple f (t + 1)) ≡ Ok new
  keep_next t old new before here = let next : suc t ≡ t + 1 = omega arith in subst (λ n. kept_of (each tuple f n) ≡ Ok new) next (keep_suc t old new before here)

  -- a stop at the next tuple stops all
  pub keep_stop : (t n : ℕ) (old : List Store) (e : Stop) → t < n → kept_of (each tuple f t) ≡ Ok old → IsStop (at_tuple (tuple t) (f t)) e → IsStop (each tuple f n) e
  keep_stop t n old e lt before here =
      let (os, ok, stores) = kept_is (each tuple f t) old before in
      each_stop tuple f t n os e lt ok here
