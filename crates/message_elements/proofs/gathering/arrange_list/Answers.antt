use Rattle.std.proofs.lemmas.Cmp.{on_total}
use Rattle.std.proofs.lemmas.List.Filters.{dedup_is}
use Rattle.std.proofs.lemmas.List.Kept.{IsStrictlySortedBy-dedup}
use Rattle.storage.specs.Spots.{spot_of}
use Rattle.message_elements.specs.Ascending.{spot_cmp}
use Rattle.storage.specs.Storage.{is_same_spot}
use Rattle.message_elements.proofs.Arranging.{sorted-map, same-among}
use Rattle.message_elements.proofs.Ascending.{spot-total, same-tied, same-true}
use Rattle.message_elements.proofs.gathering.arrange_list.Goals as goal

pub returns-clause-ascends : goal.returns-clause-ascends
returns-clause-ascends c =
    rw (dedup_is (λ x y. is_same_spot (spot_of x) (spot_of y)) c.sort_unstable.new.self.items c.dedup.new.self.items c.dedup.ensures.filtered)
    (sorted-map spot_of _ (IsStrictlySortedBy-dedup {R = λ x y. spot_cmp (spot_of x) (spot_of y)} (on_total spot_of spot-total)
    (λ x y. same-tied (spot_of x) (spot_of y)) c.sort_unstable.new.self.items c.sort_unstable.ensures.sorted))

pub returns-clause-among : goal.returns-clause-among
returns-clause-among c =
    rw (dedup_is (λ x y. is_same_spot (spot_of x) (spot_of y)) c.sort_unstable.new.self.items c.dedup.new.self.items c.dedup.ensures.filtered)
    (same-among spot_of (λ x y. is_same_spot (spot_of x) (spot_of y)) (λ x y e. same-true (spot_of x) (spot_of y) e) c.args.list.now.items c.sort_unstable.new.self.items c.sort_unstable.ensures.permutation)
