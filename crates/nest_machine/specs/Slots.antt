-- Of a promise.
-- The slots that the code of a nest's body leaves. They are the same whatever the rows hold.
use Rattle.std.specs.Prelude.{◌≡◌, ℕ, zero, suc, ◌+◌, ◌<◌, List, length, slice_set, ℤ, Bool, false}
use Rattle.nest_machine.specs.Counting.{slot, Counting, trips_at}
use Rattle.nest_machine.specs.Body.{Bounds, Body, NoText, AndText, AndIf, AndLoop, Arms, NoArm, AndArm}

-- the same slots before slot b, but for the indices of inner loops
abbrev pub SameSlots : (ℕ → Bool) → ℕ → List ℤ → List ℤ → Type 0
SameSlots is_index b xs ys = (length xs ≡ length ys) × ((k : ℕ) → k < b → is_index k ≡ false → slot xs k ≡ slot ys k)

-- an inner loop has its first value, and its last value and step are in its slots
abbrev pub headed : Bounds → ℕ → List ℤ → List ℤ
headed bounds b s0 =
    let s1 : List ℤ = slice_set s0 b (bounds.first s0) in
    let s2 : List ℤ = slice_set s1 (b + 1) (bounds.last s1) in
    let s3 : List ℤ = slice_set s2 (b + 2) (bounds.step s2) in
    slice_set s3 bounds.index (slot s3 b)

module _ {F : Type 0} (counting : Counting F) where
  -- n trips are left after the first
  abbrev pub entered : (b n : ℕ) → List ℤ → List ℤ
  entered b n s = slice_set s (b + 3) (counting.left n)

  -- the index has its next value
  abbrev pub next_index : ℕ → List ℤ → List ℤ
  next_index b s = slice_set s b (counting.advance (slot s b) (slot s (b + 2)))

  -- and is in its own slot
  abbrev pub advanced : (index b : ℕ) → List ℤ → List ℤ
  advanced index b s = slice_set (next_index b s) index (slot (next_index b s) b)

  -- and one trip less is left
  abbrev pub again : (index b : ℕ) → List ℤ → List ℤ
  again index b s = slice_set (advanced index b s) (b + 3) (counting.less (slot (advanced index b s) (b + 3)))

  -- at the beginning of a trip, where `after` are the slots after the loop's body, and `first` those of the first trip
  abbrev pub trip_slots : (after : List ℤ → List ℤ) → (index b : ℕ) → (first : List ℤ) → ℕ → List ℤ
  trip_slots after index b first zero = first
  trip_slots after index b first (suc x) = again index b (after (trip_slots after index b first x))

  -- of the first of so many trips
  abbrev pub first_trip : ℕ → List ℤ → ℕ → List ℤ
  first_trip b s zero = s
  first_trip b s (suc n) = entered b n s

  -- after so many trips
  abbrev pub left_slots : (after : List ℤ → List ℤ) → (index b : ℕ) → List ℤ → ℕ → List ℤ
  left_slots after index b s zero = s
  left_slots after index b s (suc n) = advanced index b (after (trip_slots after index b (entered b n s) n))

  module _ {A C : Type 0} where
    abbrev mutual
      -- after a body
      pub slots_after : Body A C → ℕ → List ℤ → List ℤ
      slots_after NoText b s = s
      slots_after (AndText a rest) b s = slots_after rest b s
      slots_after (AndIf arms rest) b s = slots_after rest b (slots_after_arms arms b s)
      slots_after (AndLoop bounds inner rest) b s =
          let h = headed bounds b s in
          slots_after rest b (left_slots (slots_after inner (b + 4)) bounds.index b h (trips_at counting b h))

      pub slots_after_arms : Arms A C → ℕ → List ℤ → List ℤ
      slots_after_arms NoArm b s = s
      slots_after_arms (AndArm test body others) b s = slots_after_arms others b (slots_after body b s)
