use Rattle.std.proofs.Common.{◌+◌, sym, subst, refl, arith, get_or, length, ◌≤◌}
use Rattle.axis_walks.proofs.Merges.{Merged, merged-more, merged-value}
use Rattle.axis_walks.proofs.places.common_places.Goals as goal

pub loop-place-preserved : goal.loop-place-preserved
loop-place-preserved c =
    let one = c.args.one.now in
    let other = c.args.other.now in
    let at = c.next_from-from.result in
    subst (Merged (λ b. b) one other (c.loop-place.place-index + 1) at) (sym c.in_ok-push_if.ensures)
    (merged-more (λ b. b) one other c.loop-place.place-index c.loop-place.from at c.loop-place.places.items (get_or one c.loop-place.place-index 0) c.is_at.result
    c.loop-place.invariant c.loop-place-test.true refl c.next_from-from.ensures.within c.next_from-from.ensures.less c.next_from-from.ensures.next
    c.is_at.ensures.found c.is_at.ensures.missed)

pub returns-clause-value : goal.returns-clause-value
returns-clause-value c =
    let all : length c.args.one.now ≤ c.loop-place.place-index = omega (arith, c.loop-place-test.false) in
    merged-value (λ b. b) c.args.one.now c.args.other.now c.loop-place.place-index c.loop-place.from c.loop-place.places.items c.loop-place.invariant all
