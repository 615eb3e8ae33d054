-- The rounds of a redistribution are legal, and as few as any.
use Rattle.std.proofs.Common.{ℕ, ◌≤◌, Bool, List, length, sym, subst}
use Rattle.letters.specs.declared.pair.Pair.{Pair}
use Rattle.machine_steps.specs.Layout.{Layout}
use Rattle.machine_steps.specs.Message.{has_any, remap_message}
use Rattle.machine_steps.specs.Rounds.{moving_pairs, remap_rounds}
use Rattle.redistribute_rounds.specs.Rounds.{AreLegal}
use Rattle.redistribute_rounds.proofs.Fewest.{none-fewer}
use Rattle.redistribute_rounds.proofs.Full.{count-rounds}
use Rattle.redistribute_rounds.proofs.Legal.{colors-legal}
use Rattle.covering_rounds.proofs.Pairs.{kept-between, kept-distinct}

pub are-legal : (nodes : ℕ) (old new : List Layout) → AreLegal (moving_pairs nodes old new) (remap_rounds nodes old new)
are-legal nodes old new =
    let test : Pair → Bool = λ pair. has_any (remap_message nodes old new pair.from.0 pair.to.0) in
    colors-legal nodes (moving_pairs nodes old new) (kept-between nodes test) (kept-distinct nodes test)

pub are-fewest : (nodes : ℕ) (old new : List Layout) (rounds : List (List Pair)) → AreLegal (moving_pairs nodes old new) rounds
    → length (remap_rounds nodes old new) ≤ length rounds
are-fewest nodes old new rounds legal =
    subst (λ n. n ≤ length rounds) (sym (count-rounds nodes (moving_pairs nodes old new))) (none-fewer nodes (moving_pairs nodes old new) rounds legal)
