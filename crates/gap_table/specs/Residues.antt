-- Of private clauses.
-- The places of a period that a processor owns under CYCLIC(k). Only private contracts cite this.
use Rattle.std.specs.Prelude.{◌≡◌, ℕ, ◌+◌, ◌*◌, ◌<◌, ◌≤◌, ◌==◌, List, filter, length}
use Rattle.std.specs.List.{range_with_len}
use Rattle.std.specs.List.Sorted.{IsStrictlyIncreasing}
use Rattle.mappings.specs.declared.mapping.Form.TheVariants.{Cyclic}
use Rattle.mappings.specs.Owner.{coordinate_under}

-- these are the places of a period of t at which start + d * j is owned under CYCLIC(k), and after a period they repeat
pub record AreOffsets (k procs node start d : ℕ) (offsets : List ℕ) (t : ℕ) : Type 0 where
  pub some : 0 < t
  pub repeats : (c : ℕ) × (d * t ≡ k * procs * c)
  pub few : length offsets ≤ k
  pub ascends : IsStrictlyIncreasing offsets
  pub all : offsets ≡ filter (λ j. coordinate_under (Cyclic k) procs (start + d * j) == node) (range_with_len 0 t)
