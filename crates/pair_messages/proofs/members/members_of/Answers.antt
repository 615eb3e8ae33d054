use Rattle.std.proofs.Common.{ℕ, ◌+◌, ◌*◌, ◌∷◌, [], List, get_or, map, take, inl, inr, sym, subst, arith}
use Rattle.std.proofs.lemmas.List.{take_all, take_more}
use Rattle.std.proofs.Math.Dec.{eqb}
use Rattle.std.proofs.lemmas.List.Filters.{dedup_is}
use Rattle.std.proofs.lemmas.Map.Keys.{IsStrictlyIncreasing-dedup}
use Rattle.std.specs.List.{range_with_len}
use Rattle.std.specs.List.Sorted.{IsStrictlyIncreasing}
use Rattle.gap_table.proofs.AscendingLists.{In, contains-in, in-contains, in-map_range, map_range-in}
use Rattle.gap_table.proofs.Offsets.{in_sorted, sorted_in}
use Rattle.pair_messages.specs.declared.classes.Class.{Class}
use Rattle.pair_messages.specs.Classes.{InSome}
use Rattle.pair_messages.proofs.Ascending.{in-either, in-left, in-right}
use Rattle.pair_messages.proofs.ClassLaws.{some-last, some-left, some-split}
use Rattle.pair_messages.proofs.members.members_of.Goals as goal

abbrev no_place : Class
no_place = record { first = 0; stride = 0; count = 0 }

pub loop-class-preserved : goal.loop-class-preserved
loop-class-preserved c =
    let n = c.loop-class.class-index in
    let cs = c.args.classes.now in
    let class = get_or cs n no_place in
    let place : ℕ → ℕ = λ k. class.first + class.stride * k in
    let old = c.loop-class.places.items in
    let new : List ℕ = map place (range_with_len 0 class.count) in
    record {
      within = λ x i. subst (λ l. InSome l x) (sym (take_more cs n no_place c.loop-class-test.true))
          (elim (in-either old new x (subst (In x) c.in_ok-add_members.ensures i)) [
            | inl h ↦ some-left (take n cs) (class ∷ []) x (c.loop-class.invariant.within x h)
            | inr h ↦ some-last (take n cs) class x (let m = in-map_range place 0 class.count x h in let b = m.2 in (m.0, omega (arith, b), m.3))
          ]);
      every = λ x i. subst (In x) (sym c.in_ok-add_members.ensures)
          (elim (some-split (take n cs) class x (subst (λ l. InSome l x) (take_more cs n no_place c.loop-class-test.true) i)) [
            | inl h ↦ in-left old new x (c.loop-class.invariant.every x h)
            | inr h ↦ in-right old new x (let b = h.1 in subst (λ y. In y new) (sym h.2) (map_range-in place 0 class.count h.0 (omega arith) (omega (arith, b))))
          ]);
    }

pub returns-clause-ascend : goal.returns-clause-ascend
returns-clause-ascend c =
    let sorted = c.sort_unstable.new.self.items in
    let is = dedup_is eqb sorted c.dedup.new.self.items c.dedup.ensures.filtered in
    subst IsStrictlyIncreasing (sym is) (IsStrictlyIncreasing-dedup sorted c.sort_unstable.ensures.sorted)

pub returns-clause-within : goal.returns-clause-within
returns-clause-within c x i =
    let tried = c.loop-class.places.items in
    let sorted = c.sort_unstable.new.self.items in
    let numbers = c.dedup.new.self.items in
    let is = dedup_is eqb sorted numbers c.dedup.ensures.filtered in
    subst (λ l. InSome l x) (take_all c.loop-class.class-index c.args.classes.now c.loop-class-test.false)
    (c.loop-class.invariant.within x (in_sorted tried sorted numbers c.sort_unstable.ensures.permutation is x (contains-in x numbers i)))

pub returns-clause-every : goal.returns-clause-every
returns-clause-every c x i =
    let tried = c.loop-class.places.items in
    let sorted = c.sort_unstable.new.self.items in
    let numbers = c.dedup.new.self.items in
    let is = dedup_is eqb sorted numbers c.dedup.ensures.filtered in
    in-contains x numbers (sorted_in tried sorted numbers c.sort_unstable.ensures.permutation is x
    (c.loop-class.invariant.every x (subst (λ l. InSome l x) (sym (take_all c.loop-class.class-index c.args.classes.now c.loop-class-test.false)) i)))
