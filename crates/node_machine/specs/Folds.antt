-- Of private clauses.
-- No public clause cites this file. Copies that are folded, and last values of copies.
use Rattle.std.specs.Prelude.{ℕ, ◌==◌, ◌&&◌, Bool, ℤ, List, Option, Some, None, if◌then◌else◌}
use Rattle.storage.specs.Storage.{Spot, Storage}
use Rattle.machine_steps.specs.Layout.{Layout, least_owner_of}
use Rattle.machine_steps.specs.Machine.{is_one, last_passing}
use Rattle.machine_steps.specs.Node.{Positioned, join_below, local_read}

abbrev pub element_of : (row at : ℕ) → Spot
element_of row at = record { row = row; at = at }

-- the later of two, where it is there
abbrev pub latest : Option Positioned → Option Positioned → Option Positioned
latest before None = before
latest before (Some p) = Some p

module _ (layouts : List Layout) (id : ℕ) (pieces : Storage) where
  -- the value of an element, on the node that is its least owner
  abbrev pub own_element : ℕ → Spot → Option ℤ
  own_element count spot = if least_owner_of count layouts spot == id then Some (local_read layouts id pieces spot) else None

  -- those of so many elements of a copy, joined in order
  abbrev pub own_elements : ℕ → (ℤ → ℤ → ℤ) → (copy : ℕ) → ℕ → Option ℤ
  own_elements count join copy = join_below join (λ at. own_element count (element_of copy at))

  -- the node is the least owner of an element of the copy, and the copy `set` is 1 at its position
  abbrev pub is_set_at : ℕ → (copy set at : ℕ) → Bool
  is_set_at count copy set at = (least_owner_of count layouts (element_of copy at) == id) && is_one (local_read layouts id pieces (element_of set at))

  abbrev pub element_at : (copy at : ℕ) → Positioned
  element_at copy at = record { at = at; value = local_read layouts id pieces (element_of copy at) }

  -- the last such one of so many
  abbrev pub last_set : ℕ → (copy set : ℕ) → ℕ → Option Positioned
  last_set count copy set = last_passing (is_set_at count copy set) (element_at copy)
