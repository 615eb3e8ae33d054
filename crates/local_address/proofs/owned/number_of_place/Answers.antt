use Rattle.std.proofs.Common.{◌≡◌, ◌↔◌, ℕ, ◌∙◌, ap, sym, subst, arith, Some, slice_get}
use Rattle.gap_table.specs.GapTable.{nth_of, places_of}
use Rattle.local_address.proofs.OwnedLaws.{nth-some, number-found, number-none}
use Rattle.local_address.proofs.owned.number_of_place.Goals as goal

pub returns-in_err-number : goal.returns-in_err-number
returns-in_err-number c =
    let none : c.up_to.result ≡ 0 = omega (arith, c.in_err-number.ensures) in
    subst (λ o. (n : ℕ) → (o ≡ Some n) ↔ (slice_get (places_of c.args.places.now) n ≡ Some c.args.place)) (sym c.from_residual.ensures)
    (number-none c.args.places.now c.args.place c.up_to.result c.requires c.up_to.ensures (λ number last found. omega (arith, last, none)))

pub returns-then-branch-place : goal.returns-then-branch-place
returns-then-branch-place c =
    let found = nth-some c.args.places.now c.in_ok-number.number c.in_ok-nth.field-0 c.in_ok-nth.ensures in
    number-found c.args.places.now c.args.place c.up_to.result c.in_ok-number.number c.requires c.up_to.ensures (omega arith) (found.1 ∙ c.if-branch-place.true)

pub returns-else-branch-place : goal.returns-else-branch-place
returns-else-branch-place c =
    let found = nth-some c.args.places.now c.in_ok-number.number c.in_ok-nth.field-0 c.in_ok-nth.ensures in
    number-none c.args.places.now c.args.place c.up_to.result c.requires c.up_to.ensures
    (λ number last is. let same : c.in_ok-number.number ≡ number = omega (arith, last) in
    c.if-branch-place.false (sym found.1 ∙ ap (nth_of c.args.places.now) same ∙ is))
