use Rattle.std.proofs.Common.{◌≡◌, ◌++◌, drop, map, true}
use Rattle.axis_products.specs.Products.{passing}
use Rattle.part_visits.proofs.lists.all_places.Given as goal

-- the lists so far, before those that are left
abbrev pub invariant-loop-extent : goal.invariant-loop-extent
invariant-loop-extent l =
    map (λ v. v.items) l.lists.items ++ passing (λ axis place. true) l.extent-index (drop l.extent-index l.extents) ≡ passing (λ axis place. true) 0 l.extents
