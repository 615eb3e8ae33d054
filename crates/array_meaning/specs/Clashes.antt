-- Of the claim.
-- Whether iterations interfere (HPF 2.0, 5.1): two of them touch one object, and one of them writes it.
use Rattle.std.specs.Prelude.{ℕ, zero, suc, nat_eq, nat_lt, List, [], ◌∷◌, Bool, ◌&&◌, ◌||◌, if◌then◌else◌, Option, Some, None, option_map}
use Rattle.std.specs.List.{list_any, filter}
use Rattle.std.specs.Option.{option_or}
use Rattle.array_meaning.specs.Touches.{Touch}

-- both touch one object, and one of them writes it
abbrev pub meets : Touch → Touch → Bool
meets x y = (nat_eq x.name y.name && nat_eq x.place y.place) && (x.writes || y.writes)

-- in the order of declarations, and then of elements
abbrev pub is_before : Touch → Touch → Bool
is_before x y = nat_lt x.name y.name || (nat_eq x.name y.name && nat_lt x.place y.place)

-- the first in that order
abbrev pub first_touch : List Touch → Option Touch
first_touch [] = None
first_touch (x ∷ xs) = Some (earlier (first_touch xs)) where
  earlier : Option Touch → Touch
  earlier None = x
  earlier (Some y) = if is_before y x then y else x

-- what the first one has in common with the second, where one of the two writes it
abbrev pub in_common : List Touch → List Touch → List Touch
in_common xs ys = filter (λ x. list_any (meets x) ys) xs

-- two iterations that interfere, by their numbers, and in which object
pub record Clash : Type 0 where
  pub earlier : ℕ
  pub later : ℕ
  pub name : ℕ
  pub place : ℕ

abbrev pub clash_in : ℕ → ℕ → Touch → Clash
clash_in i j x = record { earlier = i; later = j; name = x.name; place = x.place }

-- the clash of two iterations, where the first comes before the second
abbrev pub clash_of : (ℕ → List Touch) → ℕ → ℕ → Option Clash
clash_of touched i j = if nat_lt i j then option_map (clash_in i j) (first_touch (in_common (touched i) (touched j))) else None

-- the first that there is of the numbers below n
abbrev pub first_of : {A : Type 0} → ℕ → (ℕ → Option A) → Option A
first_of zero f = None
first_of (suc n) f = option_or (first_of n f) (f n)

-- the first clash of n iterations: the earlier iteration counts first, then the later one, and then the object
abbrev pub first_clash : (ℕ → List Touch) → ℕ → Option Clash
first_clash touched n = first_of n (λ i. first_of n (clash_of touched i))
