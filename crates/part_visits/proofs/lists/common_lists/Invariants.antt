use Rattle.std.proofs.Common.{◌≡◌, ℕ, ◌++◌, ◌&&◌, Bool, List, drop, map}
use Rattle.axis_products.specs.Products.{passing}
use Rattle.part_visits.proofs.lists.common_lists.Given as goal

-- the lists so far, before those that are left
abbrev pub invariant-loop-axis : goal.invariant-loop-axis
invariant-loop-axis l = (a b : ℕ → ℕ → Bool) (extents : List ℕ) → map (λ v. v.items) l.one ≡ passing a 0 extents → map (λ v. v.items) l.other ≡ passing b 0 extents
    → map (λ v. v.items) l.lists.items ++ passing (λ axis place. a axis place && b axis place) l.axis (drop l.axis extents)
    ≡ passing (λ axis place. a axis place && b axis place) 0 extents
