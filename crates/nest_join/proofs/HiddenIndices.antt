-- Indices of loops but for those of the loops round a place.
use Rattle.std.proofs.Common.{◌≡◌, ℕ, ◌<◌, ◌≤◌, nat_eq, List, [], ◌∷◌, map, ℤ, Bool, true, false, if◌then◌else◌, refl, sym, ap, arith}
use Rattle.std.proofs.lemmas.Bool.Decides.{nat_tests}
use Rattle.code_meaning.specs.Flat.{slot}
use Rattle.nest_machine.specs.Slots.{SameSlots}
use Rattle.nest_join.specs.CodedBlocks.{hidden_in}

module _ (is_index : ℕ → Bool) where
  pub hidden-less : (x : ℕ) (xs : List ℕ) (k : ℕ) → hidden_in is_index (x ∷ xs) k ≡ true → hidden_in is_index xs k ≡ true
  hidden-less x xs k h = by_test (nat_eq x k) h
    where
      by_test : (t : Bool) → (if t then false else hidden_in is_index xs k) ≡ true → hidden_in is_index xs k ≡ true
      by_test true h = cc
      by_test false h = h

  pub hidden-is : (xs : List ℕ) (k : ℕ) → hidden_in is_index xs k ≡ true → is_index k ≡ true
  hidden-is [] k h = h
  hidden-is (x ∷ xs) k h = hidden-is xs k (hidden-less x xs k h)

  more-off : (x : ℕ) (xs : List ℕ) (k : ℕ) → hidden_in is_index xs k ≡ false → hidden_in is_index (x ∷ xs) k ≡ false
  more-off x xs k h = by_test (nat_eq x k) h
    where
      by_test : (t : Bool) → hidden_in is_index xs k ≡ false → (if t then false else hidden_in is_index xs k) ≡ false
      by_test true h = refl
      by_test false h = h

  pub self-off : (x : ℕ) (xs : List ℕ) → hidden_in is_index (x ∷ xs) x ≡ false
  self-off x xs = let e : nat_eq x x ≡ true = grind (arith, nat_tests) in ap (λ t. if t then false else hidden_in is_index xs x) e

  -- the indices of the loops round a place
  abbrev pub AllOff : ℕ → List ℕ → List ℕ → Type 0
  AllOff n round [] = Unit {0}
  AllOff n round (y ∷ ys) = ((y < n) × (hidden_in is_index round y ≡ false)) × AllOff n round ys

  all-more : (n x : ℕ) (xs ys : List ℕ) → AllOff n xs ys → AllOff n (x ∷ xs) ys
  all-more n x xs [] h = tt
  all-more n x xs (y ∷ ys) h = ((h.0.0, more-off x xs y h.0.1), all-more n x xs ys h.1)

  pub all-next : (n x : ℕ) (xs : List ℕ) → x < n → AllOff n xs xs → AllOff n (x ∷ xs) (x ∷ xs)
  all-next n x xs lt h = ((lt, self-off x xs), all-more n x xs xs h)

  pub map-kept : (n b : ℕ) (round ys : List ℕ) (s z : List ℤ) → n ≤ b → AllOff n round ys → SameSlots (hidden_in is_index round) b s z → map (slot z) ys ≡ map (slot s) ys
  map-kept n b round [] s z le h same = refl
  map-kept n b round (y ∷ ys) s z le h same = λ i. sym (same.1 y (omega (arith, h.0.0, le)) h.0.1) i ∷ map-kept n b round ys s z le h.1 same i
