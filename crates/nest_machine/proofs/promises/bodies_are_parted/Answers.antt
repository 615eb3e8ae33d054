use Rattle.std.proofs.Common.{arith, ℕ, ◌≡◌, ◌+◌, None, refl, sym, ◌∙◌, subst, [], append-nil, length}
use Rattle.nest_order.specs.Nest.{nest_effects, nest_act}
use Rattle.nest_machine.specs.Body.{count_body}
use Rattle.nest_machine.specs.Trace.{trace, all_traced, acts}
use Rattle.nest_machine.specs.ItemsAt.{items_at}
use Rattle.nest_machine.proofs.Slots.{same-refl}
use Rattle.nest_machine.proofs.KeptFaults.{faults, no_left, none-kept, least-kept}
use Rattle.nest_machine.proofs.PlacedActs.{act_number, follow-all, rise-all}
use Rattle.nest_machine.proofs.AfterActs.{After, all-after}
use Rattle.nest_machine.proofs.PlacedBodies.{do-body}
use Rattle.nest_machine.proofs.promises.bodies_are_parted.Goals as goal

pub returns : goal.returns
returns g c texts counting size layout stored row interpretation action_at condition_at place is_row is_index start n b s body d mean fit takes one_place rows empty =
    let act = nest_act interpretation row (λ i. items_at counting action_at condition_at i body b s) in
    let done = trace texts counting size stored body None 0 b s in
    let k : ℕ = length (acts done) in
    let number : ℕ → ℕ = act_number d.parts done in
    let does =
    (do-body texts counting size layout stored row (count_body body) interpretation action_at condition_at place is_row is_index start n b s mean fit
    (nest_effects interpretation row (λ i. items_at counting action_at condition_at i body b s)) body takes None 0 b s 0 (λ i. []) tt
    (omega arith) (omega arith) (same-refl is_index b s)
    (λ i. sym (append-nil (nest_effects interpretation row (λ i. items_at counting action_at condition_at i body b s) i)))).0 in
    let follow = follow-all place is_row layout start n act d.parts done does in
    let e : 0 + k ≡ k = omega arith in
    let r = all-after place is_row one_place layout start n act number done 0 d.parts d (record { rows = rows; kept = empty; parts = refl }) follow in
    let after = subst (λ x. After place is_row one_place layout start n act number x r.0 (all_traced layout done d)) e r.1 in (
      after.rows,
      (λ h. none-kept act start n number (c.least_of_parts.ensures.none (faults act start n number) (no_left act start n number) start n number) k (sym after.kept ∙ h)),
      (λ l h. least-kept act start n number (c.least_of_parts.ensures.least (faults act start n number) (no_left act start n number) start n number) k
          (rise-all place is_row layout start n act d.parts done does) l (sym after.kept ∙ h)),
    )
