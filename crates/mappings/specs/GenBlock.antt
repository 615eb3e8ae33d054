-- Of the claim.
-- Blocks of given sizes, one a processor, in their order (HPF 2.0, approved extensions, GEN_BLOCK).
use Rattle.std.specs.Prelude.{ℕ, ◌+◌, List, length, map, sum, take}
use Rattle.std.specs.List.{range_with_len}

-- how many positions the first processors have
abbrev pub size_before : List ℕ → ℕ → ℕ
size_before sizes count = sum (take count sizes)

-- the last position of each processor's block: the sum of the sizes up to and with its own
abbrev pub block_ends : List ℕ → List ℕ
block_ends sizes = map (λ c. size_before sizes (c + 1)) (range_with_len 0 (length sizes))
