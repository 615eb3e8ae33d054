-- Of a promise.
-- The first clash from how each object was visited: one pass over the objects, in the order of declarations and then of elements.
use Rattle.std.specs.Prelude.{ℕ, zero, suc, nat_eq, nat_lt, nat_le, List, map, Bool, ◌&&◌, ◌||◌, if◌then◌else◌, Option, Some, None}
use Rattle.std.specs.List.{filter}
use Rattle.array_meaning.specs.Touches.{Touch}
use Rattle.array_meaning.specs.Clashes.{Clash}
use Rattle.nest_clash.specs.Visits.{Visit, Met, visit}

-- a clash whose pair of iterations isn't after this one: at one pair the object that comes first counts
abbrev pub is_sooner : Clash → ℕ → ℕ → Bool
is_sooner c a b = nat_lt c.earlier a || (nat_eq c.earlier a && nat_le c.later b)

-- the first clash so far with one more object, by how that was visited
abbrev pub better : Option Clash → (name place : ℕ) → Visit → Option Clash
better None x y (Met a b) = Some record { earlier = a; later = b; name = x; place = y }
better (Some c) x y (Met a b) = if is_sooner c a b then Some c else Some record { earlier = a; later = b; name = x; place = y }
better best x y v = best

-- `touched i` is what iteration i touches; the objects are numbered, and `name` and `place` say which each is
module _ (touched : ℕ → List Touch) (name place : ℕ → ℕ) where
  abbrev pub is_object : ℕ → Touch → Bool
  is_object o x = nat_eq x.name (name o) && nat_eq x.place (place o)

  -- the touches of an object by an iteration, each with whether it writes
  abbrev pub acts_on : ℕ → ℕ → List Bool
  acts_on o i = map (λ x. x.writes) (filter (is_object o) (touched i))

  -- the first clash of n iterations in the first objects
  abbrev pub scan : (n objects : ℕ) → Option Clash
  scan n zero = None
  scan n (suc o) = better (scan n o) (name o) (place o) (visit (acts_on o) n)
