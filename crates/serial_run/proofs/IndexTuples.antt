-- Index tuples, one after the other.
use Rattle.std.proofs.Common.{◌≡◌, ℕ, suc, ◌+◌, ◌*◌, ◌<◌, ◌%◌, ◌/◌, List, [], ◌∷◌, get_or, set, ap, sym, ◌∙◌, ℤ, pos, ◌+ℤ◌, ◌-ℤ◌, ◌*ℤ◌, IsTrue, w64, arith}
use Rattle.std.proofs.Math.IntN.{+ℤ_idl, suc_ℤ-*ℤ, zero-*ℤ}
use Rattle.std.proofs.lemmas.Bool.{ltb-true}
use Rattle.std.proofs.lemmas.Int.{ints, int_wrap-add_left}
use Rattle.std.proofs.lemmas.Nat.{div-add-mod', div-mul-add, mod-mul-add}
use Rattle.op_tables.specs.Operators.{wrapped}
use Rattle.hpf_base.proofs.Integers.{sum-*ℤ}
use Rattle.array_meaning.specs.Sections.{nth}
use Rattle.array_meaning.specs.declared.sections.Sequence.{Sequence}
use Rattle.array_meaning.specs.Forall.{indices_at}
use Rattle.serial_run.specs.declared.index_tuples.IndexTuple.{IndexTuple}
use Rattle.serial_run.specs.ForallParts.{IsTuple, has_next}

-- a step more
next_value : (p : Sequence) (k : ℕ) → wrapped (wrapped (nth p (pos (suc k))) +ℤ p.step) ≡ wrapped (nth p (pos (suc (k + 1))))
next_value p k =
    int_wrap-add_left w64 (nth p (pos (suc k))) p.step ∙ ap wrapped (more p.first p.step (pos (suc k)) (pos (suc (k + 1))) (omega (arith, ints))) where
      more : (first step x y : ℤ) → y ≡ x +ℤ pos 1 → (first +ℤ (x -ℤ pos 1) *ℤ step) +ℤ step ≡ first +ℤ (y -ℤ pos 1) *ℤ step
      more first step x y e =
          let whole : ((x -ℤ pos 1) +ℤ pos 1) *ℤ step ≡ ((x -ℤ pos 1) *ℤ step) +ℤ (pos 1 *ℤ step) = sum-*ℤ (x -ℤ pos 1) (pos 1) step in
          let one : pos 1 *ℤ step ≡ step = suc_ℤ-*ℤ (pos 0) step ∙ ap (λ z. z +ℤ step) (zero-*ℤ step) ∙ +ℤ_idl step in
          let same : (x -ℤ pos 1) +ℤ pos 1 ≡ y -ℤ pos 1 = omega (arith, ints) in
          let turned : (y -ℤ pos 1) *ℤ step ≡ ((x -ℤ pos 1) +ℤ pos 1) *ℤ step = ap (λ z. z *ℤ step) (sym same) in
          omega (arith, ints, whole, one, turned)

-- the next number has the same quotient, where its remainder is still below the divisor
next_number : (t n : ℕ) → t + 1 ≡ t / n * n + (t % n + 1)
next_number t n = omega (arith, div-add-mod' t n)

-- the first place, and what is left by it
pub next_place : (t n : ℕ) → t % n + 1 < n → t % n + 1 ≡ (t + 1) % n
next_place t n h = sym (ap (λ x. x % n) (next_number t n) ∙ mod-mul-add (t / n) n (t % n + 1) h)

pub next_quotient : (t n : ℕ) → t % n + 1 < n → t / n ≡ (t + 1) / n
next_quotient t n h = sym (ap (λ x. x / n) (next_number t n) ∙ div-mul-add (t / n) n (t % n + 1) h)

-- the values after a step of the first index
next_values : (p : Sequence) (ps : List Sequence) (t : ℕ) → t % p.count + 1 < p.count →
    set (indices_at (p ∷ ps) t) 0 (wrapped (wrapped (nth p (pos (suc (t % p.count)))) +ℤ p.step)) ≡ indices_at (p ∷ ps) (t + 1)
next_values p ps t h =
    ap (λ v. v ∷ indices_at ps (t / p.count)) (next_value p (t % p.count) ∙ ap (λ k. wrapped (nth p (pos (suc k)))) (next_place t p.count h))
    ∙ ap (λ q. wrapped (nth p (pos (suc ((t + 1) % p.count)))) ∷ indices_at ps q) (next_quotient t p.count h)

-- a tuple in code after a step of the first index, with the value of that index and the one after it
pub step_is : (axes : List Sequence) (t : ℕ) (x y : IndexTuple) (v w : ℤ) (d : Sequence) → IsTrue (has_next axes x.place) → IsTuple axes t x →
    v ≡ get_or x.values.items 0 v → w ≡ wrapped (v +ℤ (get_or axes 0 d).step) → y.place ≡ x.place + 1 → y.values.items ≡ set x.values.items 0 w →
    IsTuple axes (t + 1) y
step_is [] t x y v w d next is at by place values = absurd cc
step_is (p ∷ ps) t x y v w d next is at by place values =
    let same : x.place ≡ t % p.count = is.place in
    let below : x.place + 1 < p.count = ltb-true (x.place + 1) p.count next in
    let lt : t % p.count + 1 < p.count = omega arith in
    let first : v ≡ wrapped (nth p (pos (suc (t % p.count)))) = at ∙ ap (λ vs. get_or vs 0 v) is.values in
    record {
      place = place ∙ ap (λ k. k + 1) same ∙ next_place t p.count lt;
      values =
          values
          ∙ ap (λ vs. set vs 0 w) is.values
          ∙ ap (λ w. set (indices_at (p ∷ ps) t) 0 w) (by ∙ ap (λ v. wrapped (v +ℤ p.step)) first)
          ∙ next_values p ps t lt;
    }
