-- Tuples of positions, one after the other.
use Rattle.std.proofs.Common.{◌≡◌, ℕ, suc, ◌+◌, ◌<◌, ◌≤◌, ◌%◌, ◌/◌, List, [], ◌∷◌, set, ap, ◌∙◌, ℤ, pos, IsTrue, arith}
use Rattle.std.proofs.Math.Nat.{mod-le}
use Rattle.std.proofs.lemmas.Bool.{ltb-true}
use Rattle.array_meaning.specs.Sections.{positions}
use Rattle.serial_run.specs.declared.position_tuples.PositionTuple.{PositionTuple}
use Rattle.serial_run.specs.PositionTuples.{ArePositions, first_position, has_next}
use Rattle.serial_run.proofs.IndexTuples.{next_place, next_quotient}

next_values : (n : ℕ) (ns : List ℕ) (t : ℕ) → t % n + 1 < n → set (positions (n ∷ ns) t) 0 (pos (suc (t % n + 1))) ≡ positions (n ∷ ns) (t + 1)
next_values n ns t h =
    ap (λ k. pos (suc k) ∷ positions ns (t / n)) (next_place t n h)
    ∙ ap (λ q. pos (suc ((t + 1) % n)) ∷ positions ns q) (next_quotient t n h)

-- the first position is within the tuple's number
pub place_within : (extents : List ℕ) (t m : ℕ) (x : PositionTuple) → ArePositions extents t x → t < m → x.place + 1 ≤ m
place_within extents t m x is lt = let within = first_within extents t in let same = is.place in omega (arith, within, same, lt) where
  first_within : (extents : List ℕ) (t : ℕ) → first_position extents t ≤ t
  first_within [] t = omega arith
  first_within (n ∷ ns) t = mod-le t n

-- a step of the first position
pub step_is : (extents : List ℕ) (t : ℕ) (x y : PositionTuple) (v : ℤ) → IsTrue (has_next extents x.place) → ArePositions extents t x →
    y.place ≡ x.place + 1 → v ≡ pos (suc y.place) → y.values.items ≡ set x.values.items 0 v → ArePositions extents (t + 1) y
step_is [] t x y v next is place by values = absurd cc
step_is (n ∷ ns) t x y v next is place by values =
    let same : x.place ≡ t % n = is.place in
    let below : x.place + 1 < n = ltb-true (x.place + 1) n next in
    let lt : t % n + 1 < n = omega arith in
    let next_is : y.place ≡ t % n + 1 = place ∙ ap (λ k. k + 1) same in
    record {
      place = next_is ∙ next_place t n lt;
      values =
          values
          ∙ ap (λ vs. set vs 0 v) is.values
          ∙ ap (λ v. set (positions (n ∷ ns) t) 0 v) (by ∙ ap (λ k. pos (suc k)) next_is)
          ∙ next_values n ns t lt;
    }
