-- Of the claim.
-- Rounds: who sends to whom in a tree, up to node 0 and down again, and in a scan.
use Rattle.std.specs.Prelude.{ℕ, ◌+◌, ◌-◌, ◌*◌, ◌%◌, ◌^◌, ◌==◌, ◌&&◌, Bool, nat_lt, nat_le, if◌then◌else◌}
use Rattle.machine_steps.specs.Layout.{first}

-- the least number of rounds by which node 0 can have heard from all, and in a scan the last node
abbrev pub levels_of : ℕ → ℕ
levels_of count = first (λ r. nat_le count (2 ^ r)) 0 (count + 1)

-- in up round r a node whose number mod 2^(r+1) is 2^r sends to its number less 2^r
abbrev pub sends_up : ℕ → ℕ → ℕ → Bool
sends_up r p q = (p % (2 ^ r * 2) == 2 ^ r) && (p == q + 2 ^ r)

-- the rounds, from 0: the down rounds are the up rounds backwards, with sends and takes exchanged
abbrev pub tree_sends : ℕ → ℕ → ℕ → ℕ → Bool
tree_sends levels k p q = if nat_lt k levels then sends_up k p q else sends_up (2 * levels - 1 - k) q p

-- in round r of a scan a node sends to the one that stands 2^r after it
abbrev pub scan_sends : ℕ → ℕ → ℕ → Bool
scan_sends r p q = q == p + 2 ^ r
