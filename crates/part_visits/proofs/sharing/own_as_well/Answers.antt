use Rattle.std.proofs.Common.{◌≡◌, ℕ, ◌==◌, Bool, true, filter, get_or, sym, ◌∙◌, ap, ⊎_elim}
use Rattle.std.proofs.lemmas.List.{take_all}
use Rattle.std.specs.List.{list_any, range_with_len}
use Rattle.machine_steps.specs.Layout.{owned_by}
use Rattle.part_visits.proofs.Sharers.{among-passing, any-more}
use Rattle.part_visits.proofs.sharing.own_as_well.Goals as goal

pub loop-other-init : goal.loop-other-init
loop-other-init c = λ at below owns other inside any. absurd cc

pub loop-other-preserved : goal.loop-other-preserved
loop-other-preserved c at below owns other inside any =
    let P : ℕ → Bool = λ n. owned_by c.args.table.now.layout n at in
    let n = get_or c.args.others.now c.loop-other.other-index 0 in
    let among : list_any (λ y. y == n) (filter P (range_with_len 0 c.args.table.now.nodes)) ≡ true =
    ap (list_any (λ y. y == n)) (c.sharers-sharers.ensures.owners at below owns) ∙ sym c.contains.ensures.value ∙ c.if-not-contains.false in
    ⊎_elim (λ h. c.loop-other.invariant at below owns other inside h)
    (λ same. ap P (sym same) ∙ among-passing P 0 c.args.table.now.nodes n among)
    (any-more c.args.others.now c.loop-other.other-index other c.loop-other-test.true any)

pub returns : goal.returns
returns c t at below owns other inside any =
    c.loop-other.invariant at below owns other inside
    (ap (list_any (λ x. x == other)) (take_all c.loop-other.other-index c.args.others.now c.loop-other-test.false) ∙ any)
