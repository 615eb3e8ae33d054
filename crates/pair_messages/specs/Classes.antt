-- Of private clauses.
-- No public clause cites this file.
-- Places of an axis by classes: those of a class follow one another by one step.
use Rattle.std.specs.Prelude.{◌≡◌, ℕ, ◌+◌, ◌*◌, ◌%◌, ◌<◌, ◌≤◌, ◌⊎◌, ⊤, All, true, List, [], ◌∷◌, Option, Some, None}
use Rattle.axis_products.specs.Tests.{Test}
use Rattle.owned_places.specs.declared.candidates.Candidates.{Candidates}
use Rattle.owned_places.specs.Candidates.{candidate, classes_of}
use Rattle.pair_messages.specs.declared.classes.Class.{Class}
use Rattle.pair_messages.specs.declared.classes.TheConstants.{MAX_PERIOD}

-- the place is one of the class, and one of some classes
abbrev pub InClass : Class → ℕ → Type 0
InClass c x = (n : ℕ) × (n < c.count) × (x ≡ c.first + c.stride * n)

abbrev pub InSome : List Class → ℕ → Type 0
InSome [] x = ⊥
InSome (c ∷ cs) x = InClass c x ⊎ InSome cs x

-- all its places are below extent
abbrev pub IsBelow : ℕ → Class → Type 0
IsBelow extent c = (n : ℕ) → n < c.count → c.first + c.stride * n < extent

-- the place is one of the candidates, and in one of their first classes
abbrev pub IsPlaceOf : Candidates → ℕ → Type 0
IsPlaceOf c x = (m : ℕ) × (m < c.count) × (x ≡ candidate c m)

abbrev pub InFirst : Candidates → ℕ → ℕ → Type 0
InFirst c k x = (m : ℕ) × (m < c.count) × (m % classes_of c < k) × (x ≡ candidate c m)

-- the k-th class of candidates, from 0
pub record IsClassOf (c : Candidates) (k : ℕ) (r : Class) : Type 0 where
  pub some : 1 ≤ r.count
  pub moves : 1 ≤ r.stride
  pub within : (n : ℕ) → n < r.count → IsPlaceOf c (r.first + r.stride * n)
  pub every : (m : ℕ) → m < c.count → m % classes_of c ≡ k → InClass r (candidate c m)

-- a class with a place, whose places are numbers of 32 bits
pub record IsShort (c : Class) : Type 0 where
  pub some : 1 ≤ c.count
  pub moves : 1 ≤ c.stride
  pub step : c.stride ≤ MAX_PERIOD
  pub below : IsBelow 4294967296 c

-- the places of both classes, as one class, or none
abbrev pub AreCommonPlaces : Class → Class → Option Class → Type 0
AreCommonPlaces a b None = (x : ℕ) → InClass a x → InClass b x → ⊥
AreCommonPlaces a b (Some r) =
    ((x : ℕ) → InClass r x → InClass a x) × ((x : ℕ) → InClass a x → InClass b x → InClass r x)

-- classes of places of an axis, among them all that pass two tests
pub record AreCommonOn (extent axis : ℕ) (a b : Test) (cs : List Class) : Type 0 where
  pub below : All (IsBelow extent) cs
  pub every : (x : ℕ) → x < extent → a.at axis x ≡ true → b.at axis x ≡ true → InSome cs x

-- one list of classes an axis, where the first that is left has this number
abbrev pub AreCommonFrom : ℕ → List ℕ → Test → Test → List (List Class) → Type 0
AreCommonFrom axis [] a b [] = ⊤
AreCommonFrom axis [] a b (cs ∷ css) = ⊥
AreCommonFrom axis (extent ∷ extents) a b [] = ⊥
AreCommonFrom axis (extent ∷ extents) a b (cs ∷ css) = AreCommonOn extent axis a b cs × AreCommonFrom (axis + 1) extents a b css
