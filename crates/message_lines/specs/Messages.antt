-- Of private clauses.
-- No public clause cites this file. The messages of a redistribution.
use Rattle.std.specs.Prelude.{ℕ, List, map}
use Rattle.std.specs.List.{range_with_len}
use Rattle.storage.specs.Storage.{Spot}
use Rattle.machine_steps.specs.Layout.{Layout}
use Rattle.machine_steps.specs.Message.{remap_message}

-- those from each of so many nodes to each node
abbrev pub all_remap_messages : ℕ → (old new : List Layout) → List (List (List Spot))
all_remap_messages nodes old new = map (λ p. map (λ q. remap_message nodes old new p q) (range_with_len 0 nodes)) (range_with_len 0 nodes)
