-- The nodes that tables of owners name.
use Rattle.std.proofs.Common.{ℕ, zero, suc, ◌+◌, ◌<◌, ◌≤◌, Bool, true, false, List, Option, Some, None, if◌then◌else◌, arith}
use Rattle.storage.specs.Storage.{Spot}
use Rattle.machine_steps.specs.Layout.{Layout, first, owns_spot}
use Rattle.machine_steps.specs.Message.{least_or_zero}

-- the first that passes is one of them, and 0 is where there is one at all
pub first-below : (P : ℕ → Bool) (lo len n : ℕ) → lo + len ≤ n → 1 ≤ n → first P lo len < n
first-below P lo zero n le some = omega arith
first-below P lo (suc len) n le some = by_case (P lo) (first-below P (lo + 1) len n (omega arith) some)
  where
    by_case : (b : Bool) → first P (lo + 1) len < n → (if b then lo else first P (lo + 1) len) < n
    by_case true rest = omega arith
    by_case false rest = rest

pub least-below : (nodes : ℕ) (layouts : List Layout) (spot : Option Spot) → 1 ≤ nodes → least_or_zero nodes layouts spot < nodes
least-below nodes layouts None some = omega arith
least-below nodes layouts (Some spot) some = first-below (λ node. owns_spot layouts node spot) 0 nodes nodes (omega arith) some
