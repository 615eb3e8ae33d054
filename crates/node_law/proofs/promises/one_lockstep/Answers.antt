use Rattle.std.proofs.Common.{ℕ}
use Rattle.node_law.specs.Phases.{all_moves}
use Rattle.node_law.specs.NodeSteps.{sent, taken, IsPrefix}
use Rattle.node_law.proofs.LawOfPrefixes.{law_of_prefixes}
use Rattle.node_law.proofs.Prefixes.{prefix-refl}
use Rattle.node_law.proofs.NeverStuck.{prefix-both}
use Rattle.node_law.proofs.NextMove.{run-made, run-letters}
use Rattle.node_law.proofs.promises.one_lockstep.Goals as goal

pub returns : goal.returns
returns g c ns one two p =
    let S = g.N.PhasedNode.steps in
    let first1 : (s t : ℕ) → IsPrefix (taken s (all_moves one.phases one.last t)) (sent t (all_moves one.phases one.last s)) =
    λ s t. rw (run-letters S one.phases one.number one.last ns one.run s t) (prefix-refl (taken s (all_moves one.phases one.last t))) in
    let first2 : (s t : ℕ) → IsPrefix (taken s (all_moves two.phases two.last t)) (sent t (all_moves two.phases two.last s)) =
    λ s t. rw (run-letters S two.phases two.number two.last ns two.run s t) (prefix-refl (taken s (all_moves two.phases two.last t))) in
    prefix-both (all_moves one.phases one.last p) (all_moves two.phases two.last p)
    (law_of_prefixes S ns two (all_moves one.phases one.last) (run-made S one.phases one.number one.last ns one.run) first1 p)
    (law_of_prefixes S ns one (all_moves two.phases two.last) (run-made S two.phases two.number two.last ns two.run) first2 p)
