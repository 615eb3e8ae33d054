-- Lines by numbers.
use Rattle.std.proofs.Common.{◌≡◌, ◌+◌, ◌++◌, ◌∷◌, [], ℕ, List, ◌∙◌, ap, arith}
use Rattle.std.proofs.lemmas.List.{append-nil}
use Rattle.std.proofs.lemmas.List.Concat.{flat_map-append}
use Rattle.std.specs.List.{flat_map, range_with_len}
use Rattle.hpf_base.proofs.Ranges.{range_with_len-add}

-- the line of one number more
pub lines_more : (line : ℕ → List ℕ) (n : ℕ) → flat_map line (range_with_len 0 (n + 1)) ≡ flat_map line (range_with_len 0 n) ++ line n
lines_more line n =
    let last : 0 + n ≡ n = omega arith in
    ap (flat_map line) (range_with_len-add 0 n 1) ∙ flat_map-append line (range_with_len 0 n) ((0 + n) ∷ [])
    ∙ ap (λ rest. flat_map line (range_with_len 0 n) ++ rest) (append-nil (line (0 + n)) ∙ ap line last)
