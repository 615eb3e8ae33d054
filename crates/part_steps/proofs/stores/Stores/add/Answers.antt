use Rattle.std.proofs.Common.{◌≡◌, ℕ, false, if◌then◌else◌, Some, None, w64, SFits, sym, ◌∙◌, ap, rules}
use Rattle.std.proofs.lemmas.Int.{to_z-of_z}
use Rattle.storage.specs.Storage.{Spot, write}
use Rattle.machine_steps.specs.Layout.{address, owns_spot}
use Rattle.machine_steps.specs.Node.{local_spot}
use Rattle.storage.specs.Spots.{spot_of}
use Rattle.part_steps.specs.Stores.{stored, stored_all}
use Rattle.part_steps.proofs.Held.{held-is, held-none, held-owner}
use Rattle.part_steps.proofs.StoreLaws.{stored-here}
use Rattle.part_steps.proofs.stores.Stores.add.Goals as goal

pub returns-in_ok-push-in-Some : goal.returns-in_ok-push-in-Some
returns-in_ok-push-in-Some c pieces =
    let layouts = c.args.owners.now.layouts in
    let spot = spot_of c.args.spot in
    let owns = owns_spot layouts c.args.id spot in
    let at = address layouts c.args.id spot in
    let is : (if owns then Some at else None) ≡ Some c.in-Some.at = sym c.held.ensures ∙ c.in-Some.is in
    let fits : SFits w64 c.args.value.now = search rules in
    let place : ℕ → Spot = λ at. record { row = c.args.spot.row; at = at } in
    stored-here layouts c.args.id spot c.args.value.now c.args.self.now.singles.items _ c.push.new.self.items (stored_all c.args.self.now.list.items pieces) c.in_ok-push-in-Some.ensures.items
    (ap place (held-is at owns c.in-Some.at is)) (to_z-of_z w64 c.args.value.now fits) (held-owner at owns c.in-Some.at is)

pub returns-in-None : goal.returns-in-None
returns-in-None c pieces =
    let layouts = c.args.owners.now.layouts in
    let spot = spot_of c.args.spot in
    let other : owns_spot layouts c.args.id spot ≡ false =
    held-none (address layouts c.args.id spot) (owns_spot layouts c.args.id spot) (sym c.held.ensures ∙ c.in-None.is) in
    let so_far = stored c.args.self.now pieces in
    ap (λ b. if b then write so_far (local_spot layouts c.args.id spot) c.args.value.now else so_far) (sym other)
