-- A strip's values are the results in order.
use Rattle.std.proofs.Common.{◌≡◌, ℕ, zero, suc, ◌<◌, ◌≤◌, List, length, take, ℤ, pos, Result, Ok, refl, ap, sym, ◌∙◌, arith}
use Rattle.std.specs.Prelude.{slice_index_or}
use Rattle.std.proofs.Math.Seq.{take-suc}
use Rattle.std.proofs.lemmas.List.{take_all}
use Rattle.array_meaning.specs.Elementals.{each}
use Rattle.array_meaning.specs.Faults.{Cause}
use Rattle.term_values.proofs.Each.{each_more}
use Rattle.strip_operators.specs.Strips.{IsStrip}

module _ (tuple : ℕ → List ℤ) (f : ℕ → Result ℤ Cause) where
  some_of : (n : ℕ) (vs : List ℤ) → IsStrip f n vs → (k : ℕ) → k ≤ n → each tuple f k ≡ Ok (take k vs)
  some_of n vs strip zero le = refl
  some_of n vs strip (suc k) le =
      let lt : k < n = omega (arith, le) in
      let long : length vs ≡ n = strip.0 in
      let here : k < length vs = omega (arith, lt, long) in
      each_more tuple f k (take k vs) (slice_index_or vs k (pos 0)) (some_of n vs strip k (omega (arith, le))) (strip.1 k lt)
      ∙ ap Ok (sym (take-suc vs k (pos 0) here))

  pub strip_each : (n : ℕ) (vs : List ℤ) → IsStrip f n vs → each tuple f n ≡ Ok vs
  strip_each n vs strip =
      let long : length vs ≡ n = strip.0 in
      some_of n vs strip n (omega arith) ∙ ap Ok (take_all n vs (omega (arith, long)))
