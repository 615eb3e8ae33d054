-- Of a promise.
-- Elements among which each one has a like.
use Rattle.std.specs.Prelude.{◌≡◌, ℕ, ◌<◌, All, Bool, List, filter, length, slice_index_or}
use Rattle.std.specs.List.{range_with_len}

-- of so many nodes the owners of an element, ascending, by who owns what
abbrev pub owners_by : ℕ → (ℕ → ℕ → Bool) → ℕ → List ℕ
owners_by nodes owner at = filter (λ node. owner node at) (range_with_len 0 nodes)

-- numbers below a limit; each number below it is like one of them by two functions
pub record AreSamples {A : Type 0} (limit : ℕ) (one other : ℕ → A) (ns : List ℕ) : Type 0 where
  pub below : All (λ n. n < limit) ns
  pub every : (n : ℕ) → n < limit → (i : ℕ) × (i < length ns) × (one (slice_index_or ns i 0) ≡ one n) × (other (slice_index_or ns i 0) ≡ other n)
