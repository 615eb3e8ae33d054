-- Of a promise.
-- The first clash of a nest's iterations, by what it is (HPF 2.0, 5.1).
use Rattle.std.specs.Prelude.{◌≡◌, ℕ, ◌<◌, ◌≤◌, ◌⊎◌, List, true, ◌||◌, Option, Some, None}
use Rattle.std.specs.List.{Contains}
use Rattle.array_meaning.specs.Touches.{Touch}
use Rattle.array_meaning.specs.Clashes.{Clash}

-- `touched i` is what iteration i touches
module _ (touched : ℕ → List Touch) where
  -- both iterations touch this object, and one of them writes it
  pub record InterfereIn (i j name place : ℕ) : Type 0 where
    pub one : Touch
    pub other : Touch
    pub here : Contains (touched i) one
    pub there : Contains (touched j) other
    pub one_is : (one.name ≡ name) × (one.place ≡ place)
    pub other_is : (other.name ≡ name) × (other.place ≡ place)
    pub writes : (one.writes || other.writes) ≡ true

  -- the earlier iteration counts first, then the later one, then the name, then the place
  abbrev pub NotAfter : Clash → (i j name place : ℕ) → Type 0
  NotAfter c i j name place =
      (c.earlier < i) ⊎ ((c.earlier ≡ i) × ((c.later < j) ⊎ ((c.later ≡ j) × ((c.name < name) ⊎ ((c.name ≡ name) × (c.place ≤ place))))))

  -- a clash of the first n iterations, and none comes before it
  pub record IsFirst (n : ℕ) (c : Clash) : Type 0 where
    pub order : c.earlier < c.later
    pub below : c.later < n
    pub interfere : InterfereIn c.earlier c.later c.name c.place
    pub first : (i j name place : ℕ) → i < j → j < n → InterfereIn i j name place → NotAfter c i j name place

  -- the first clash of the first n iterations, or that there is none
  abbrev pub IsFirstClash : ℕ → Option Clash → Type 0
  IsFirstClash n (Some c) = IsFirst n c
  IsFirstClash n None = (i j name place : ℕ) → i < j → j < n → InterfereIn i j name place → ⊥
