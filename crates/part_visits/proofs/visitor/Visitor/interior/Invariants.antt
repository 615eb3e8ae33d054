use Rattle.std.proofs.Common.{◌≡◌, ℕ, Bool, true, List, map, take}
use Rattle.std.specs.List.{list_all}
use Rattle.axis_products.specs.Products.{each, passing}
use Rattle.axis_products.specs.Tests.{holds}
use Rattle.course_forms.specs.Views.{names_of}
use Rattle.visited_tuples.specs.Owned.{owns_if_named}
use Rattle.part_visits.proofs.visitor.Visitor.interior.Given as goal

-- where all places are inner ones, the node owns what the reads so far name
abbrev pub invariant-loop-read : goal.invariant-loop-read
invariant-loop-read l = (b : ℕ → ℕ → Bool) × (map (λ v. v.items) l.inner.items ≡ passing b 0 l.self.extents.now)
    × ((places : List ℕ) → each b 0 places ≡ true → list_all (λ r. holds (owns_if_named l.self.owners.now.layouts l.self.id r) places) (names_of (take l.read-index l.reads)) ≡ true)
