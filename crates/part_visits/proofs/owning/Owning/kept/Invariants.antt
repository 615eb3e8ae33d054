use Rattle.std.proofs.Common.{◌≡◌, ℕ, ◌++◌, ◌&&◌, Bool, List, drop, map}
use Rattle.axis_products.specs.Products.{passing}
use Rattle.part_visits.specs.Owning.{owns_if_at}
use Rattle.part_visits.proofs.owning.Owning.kept.Given as goal

-- the lists so far, before those that are left
abbrev pub invariant-loop-axis : goal.invariant-loop-axis
invariant-loop-axis l = (a : ℕ → ℕ → Bool) (extents : List ℕ) → map (λ v. v.items) l.lists ≡ passing a 0 extents
    → map (λ v. v.items) l.kept.items ++ passing (λ axis place. a axis place && owns_if_at l.self axis place) l.axis (drop l.axis extents)
    ≡ passing (λ axis place. a axis place && owns_if_at l.self axis place) 0 extents
