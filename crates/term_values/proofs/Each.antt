-- Results at tuples, in order.
use Rattle.std.proofs.Common.{◌≡◌, ℕ, zero, suc, ◌+◌, ◌-◌, ◌<◌, List, [], ◌∷◌, ◌++◌, ℤ, ap, subst, ◌∙◌, Result, Ok, Err, arith}
use Rattle.array_meaning.specs.Faults.{Cause, ◌>>=◌, at_tuple}
use Rattle.array_meaning.specs.Elementals.{each}
use Rattle.term_values.specs.declared.stops.Stop.{Stop}
use Rattle.term_values.specs.declared.stops.Stop.TheVariants.{Fault, Memory}
use Rattle.term_values.specs.Stops.{IsStop, cause}

module _ {A : Type 0} (tuple : ℕ → List ℤ) (f : ℕ → Result A Cause) where
  -- one more tuple
  pub each_more : (n : ℕ) (vs : List A) (v : A) → each tuple f n ≡ Ok vs → f n ≡ Ok v → each tuple f (suc n) ≡ Ok (vs ++ v ∷ [])
  each_more n vs v before here =
      ap (λ r. r >>= (λ vs. at_tuple (tuple n) (f n) >>= (λ v. Ok (vs ++ v ∷ [])))) before
      ∙ ap (λ r. at_tuple (tuple n) r >>= (λ v. Ok (vs ++ v ∷ []))) here

  -- the first fault stays
  stays : (n k : ℕ) (c : Cause) → each tuple f n ≡ Err c → each tuple f (k + n) ≡ Err c
  stays n zero c h = let z : n ≡ 0 + n = omega arith in subst (λ m. each tuple f m ≡ Err c) z h
  stays n (suc k) c h =
      let z : suc (k + n) ≡ suc k + n = omega arith in
      subst (λ m. each tuple f m ≡ Err c) z (ap (λ r. r >>= (λ vs. at_tuple (tuple (k + n)) (f (k + n)) >>= (λ v. Ok (vs ++ v ∷ [])))) (stays n k c h))

  -- a stop at the next tuple stops all
  pub each_stop : (t n : ℕ) (vs : List A) (e : Stop) → t < n → each tuple f t ≡ Ok vs → IsStop (at_tuple (tuple t) (f t)) e → IsStop (each tuple f n) e
  each_stop t n vs Memory lt before here = tt {0}
  each_stop t n vs (Fault c) lt before here =
      let first : each tuple f (suc t) ≡ Err (cause c) =
      ap (λ r. r >>= (λ vs. at_tuple (tuple t) (f t) >>= (λ v. Ok (vs ++ v ∷ [])))) before ∙ ap (λ r. r >>= (λ v. Ok (vs ++ v ∷ []))) here in
      let e : n - suc t + suc t ≡ n = omega (arith, lt) in
      subst (λ m. each tuple f m ≡ Err (cause c)) e (stays (suc t) (n - suc t) (cause c) first)
