-- Of private clauses.
-- What a node owns of a reference at the places of an axis. Private contracts alone cite this.
use Rattle.std.specs.Prelude.{ℕ, Bool, ◌||◌, not}
use Rattle.courses.specs.Owners.{bounds_test}
use Rattle.course_forms.specs.Views.{named_of}
use Rattle.owned_places.specs.Holdings.{test_of}
use Rattle.part_visits.specs.declared.owning.Owning.{Owning}

-- what is named is the node's, or the place is out of bounds
abbrev pub owns_if_at : Owning → (axis place : ℕ) → Bool
owns_if_at o axis place =
    not ((bounds_test (named_of o.reference.now).dims (named_of o.reference.now).courses).at axis place) || (test_of o.holding.now).at axis place
