-- The rounds of a redistribution.
use Rattle.std.proofs.Common.{ℕ, ◌==◌, List, All, get_or, map}
use Rattle.std.specs.List.{range_with_len}
use Rattle.std.proofs.lemmas.List.Elements.{All-filter, All-map}
use Rattle.hpf_base.proofs.Ranges.{All-range}
use Rattle.machine_steps.specs.Layout.{Layout}
use Rattle.machine_steps.specs.Message.{has_any, remap_message}
use Rattle.machine_steps.specs.Rounds.{color_of, color_round, moving_pairs, remap_rounds}
use Rattle.redistribute_rounds.specs.Rounds.{IsBetween}
use Rattle.covering_rounds.proofs.Pairs.{kept-between}

-- each pair goes from a node to another
pub rounds-between : (nodes : ℕ) (old new : List Layout) → All (All (IsBetween nodes)) (remap_rounds nodes old new)
rounds-between nodes old new =
    let pairs = moving_pairs nodes old new in
    All-map (All (IsBetween nodes)) (color_round nodes pairs) _
    (λ k color inside. All-filter (λ pair. color_of nodes pairs pair == get_or _ k color) (IsBetween nodes) pairs
    (kept-between nodes (λ pair. has_any (remap_message nodes old new pair.from.0 pair.to.0))))
