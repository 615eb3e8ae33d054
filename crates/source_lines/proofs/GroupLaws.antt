-- Lines and those that continue them.
use Rattle.std.proofs.Common.{◌≡◌, ℕ, ◌+◌, List, ◌∷◌, length, take, drop, min, refl, sym, ap, ◌∙◌, add-one, arith}
use Rattle.std.specs.List.{prefix_len}
use Rattle.std.proofs.lemmas.List.{take_min, drop_min, length-take}
use Rattle.source_lines.specs.PhysicalLines.{PhysicalLine}
use Rattle.source_lines.specs.Breaches.{is_continued}
use Rattle.source_lines.specs.LogicalLines.{groups}
use Rattle.source_lines.proofs.Cuts.{cut-head}

group-taken : (line : PhysicalLine) (others : List PhysicalLine)
    → groups (line ∷ others)
    ≡ (line ∷ take (prefix_len is_continued (line ∷ others)) others) ∷ groups (drop (prefix_len is_continued (line ∷ others)) others)
group-taken line others = cut-head (λ rest. prefix_len is_continued rest + 1) line others (prefix_len is_continued (line ∷ others)) refl

group-within : (line : PhysicalLine) (others : List PhysicalLine) (n : ℕ) → n ≡ min (prefix_len is_continued (line ∷ others)) (length others)
    → groups (line ∷ others) ≡ (line ∷ take n others) ∷ groups (drop n others)
group-within line others n counted =
    group-taken line others ∙ sym (rw (counted, take_min (prefix_len is_continued (line ∷ others)) others, drop_min (prefix_len is_continued (line ∷ others)) others) refl)

-- the first line goes with as many as are continued in front of them
pub group-first : (lines : List PhysicalLine) (line : PhysicalLine) (others continuing : List PhysicalLine) (n : ℕ) → lines ≡ line ∷ others
    → n ≡ min (prefix_len is_continued lines) (length others)
    → continuing ≡ take n others → groups lines ≡ (line ∷ continuing) ∷ groups (drop (length continuing + 1) lines)
group-first lines line others continuing n is counted taken =
    let same : n ≡ min (prefix_len is_continued (line ∷ others)) (length others) = counted ∙ ap (λ (l : List PhysicalLine). min (prefix_len is_continued l) (length others)) is in
    let long : length continuing ≡ n = omega (arith, ap length taken, length-take n others, same) in
    rw (is, long, taken, add-one n) (group-within line others n same)
