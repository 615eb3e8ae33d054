-- Of a promise.
-- Values stored at places of an array that follow one another.
use Rattle.std.specs.Prelude.{ℕ, ◌+◌, ℤ, List, [], ◌∷◌, slice_set}
use Rattle.array_meaning.specs.State.{State, store}

-- values are stored in order, the first at a place of an array and each other at the next; nothing where there is no such place
abbrev pub store_run : State → ℕ → ℕ → List ℤ → State
store_run s a first [] = s
store_run s a first (v ∷ vs) = store_run (store s a first v) a (first + 1) vs

-- the same in a list. Private contracts alone cite this
abbrev pub with_run : List ℤ → ℕ → List ℤ → List ℤ
with_run xs first [] = xs
with_run xs first (v ∷ vs) = with_run (slice_set xs first v) (first + 1) vs
