-- Of a promise.
-- How one object is visited by iterations, one after the other, and what that tells of the first two that interfere.
use Rattle.std.specs.Prelude.{◌≡◌, ℕ, zero, suc, ◌<◌, ◌≤◌, ◌⊎◌, nat_eq, List, [], ◌∷◌, fold, Bool, true, false, ◌||◌, if◌then◌else◌}

-- not at all; read so far, by this iteration first; written by this iteration, which alone touched it; or two iterations interfere, of which
-- these are the first two
pub data Visit : Type 0 where
  Untouched : Visit
  Read : ℕ → Visit
  Written : ℕ → Visit
  Met : (earlier later : ℕ) → Visit

-- after one more touch, which may write, of an iteration that isn't before those that touched the object
abbrev pub touched_by : ℕ → Visit → Bool → Visit
touched_by i Untouched w = if w then Written i else Read i
touched_by i (Read a) w = if nat_eq a i then (if w then Written i else Read i) else (if w then Met a i else Read a)
touched_by i (Written a) w = if nat_eq a i then Written a else Met a i
touched_by i (Met a b) w = Met a b

-- there is a touch, or one that writes
abbrev pub is_touched : List Bool → Bool
is_touched [] = false
is_touched (w ∷ ws) = true

abbrev pub is_written : List Bool → Bool
is_written [] = false
is_written (w ∷ ws) = w || is_written ws

-- the touches of each iteration, each with whether it writes
module _ (acts : ℕ → List Bool) where
  -- after so many iterations
  abbrev pub visit : ℕ → Visit
  visit zero = Untouched
  visit (suc i) = fold (touched_by i) (visit i) (acts i)

  -- both iterations touch the object, and one of them writes it
  abbrev pub Interfere : ℕ → ℕ → Type 0
  Interfere i j = (is_touched (acts i) ≡ true) × (is_touched (acts j) ≡ true) × ((is_written (acts i) ≡ true) ⊎ (is_written (acts j) ≡ true))

  -- the first pair of the first n iterations: the earlier one counts first, and then the later one
  pub record IsFirstPair (n a b : ℕ) : Type 0 where
    pub order : a < b
    pub below : b < n
    pub interfere : Interfere a b
    pub first : (i j : ℕ) → i < j → j < n → Interfere i j → (a < i) ⊎ ((a ≡ i) × (b ≤ j))

  -- the first pair, or that there is none
  abbrev pub TellsPair : ℕ → Visit → Type 0
  TellsPair n (Met a b) = IsFirstPair n a b
  TellsPair n v = (i j : ℕ) → i < j → j < n → Interfere i j → ⊥
