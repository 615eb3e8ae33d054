use Rattle.std.proofs.Common.{◌≡◌, ◌≤◌, ◌^◌, ◌<◌, All, ℕ, List, length, get_or, subst}
use Rattle.std.proofs.lemmas.List.{get_or_default, take_all}
use Rattle.part_visits.proofs.Items.{all-first}
use Rattle.part_visits.proofs.visits.are_few.Goals as goal

pub loop-extent-preserved : goal.loop-extent-preserved
loop-extent-preserved c =
    all-first (λ n. n ≤ 2 ^ 32) c.args.extents.now c.loop-extent.extent-index (get_or c.args.extents.now c.loop-extent.extent-index 0) c.loop-extent-test.true
    (same c.args.extents.now c.loop-extent.extent-index c.loop-extent-test.true) c.loop-extent.invariant c.if-extent.false
  where
    same : (xs : List ℕ) (n : ℕ) → n < length xs → get_or xs n 0 ≡ get_or xs n (get_or xs n 0)
    same xs n within = get_or_default xs n 0 (get_or xs n 0) within

pub returns : goal.returns
returns c t = subst (All (λ n. n ≤ 2 ^ 32)) (take_all c.loop-extent.extent-index c.args.extents.now c.loop-extent-test.false) c.loop-extent.invariant
