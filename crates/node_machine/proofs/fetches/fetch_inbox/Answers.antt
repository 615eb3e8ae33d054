use Rattle.std.proofs.Common.{◌≡◌, ◌<◌, ◌++◌, ◌∷◌, [], true, false, subst, ◌∙◌, rules}
use Rattle.machine_steps.specs.Layout.{least_owner_of, owns_spot}
use Rattle.storage.specs.Spots.{spot_of}
use Rattle.node_machine.proofs.FetchLaws.{fetch-owned, fetch-source}
use Rattle.node_machine.proofs.fetches.fetch_inbox.Goals as goal

pub returns-then-owns-clause-items : goal.returns-then-owns-clause-items
returns-then-owns-clause-items c =
    let owners = c.args.owners.now in
    let own : owns_spot owners.layouts c.args.id (spot_of c.args.spot) ≡ true = search rules in
    c.new-inbox.ensures.items ∙ fetch-owned owners.nodes owners.layouts (spot_of c.args.spot) c.args.id own

pub returns-clause-items : goal.returns-clause-items
returns-clause-items c =
    let owners = c.args.owners.now in
    let apart : owns_spot owners.layouts c.args.id (spot_of c.args.spot) ≡ false = search rules in
    let lt : least_owner_of owners.nodes owners.layouts (spot_of c.args.spot) < owners.nodes = subst (λ n. n < owners.nodes) c.least_owner.ensures.value c.least_owner.ensures.below in
    c.in_ok-push_back.ensures.items ∙ (λ i. c.new-inbox.ensures.items i ++ c.least_owner.ensures.value i ∷ []) ∙ fetch-source owners.nodes owners.layouts (spot_of c.args.spot) c.args.id apart lt
