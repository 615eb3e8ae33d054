-- Copies that lie alike have the same owners.
use Rattle.std.proofs.Common.{◌≡◌, ℕ, true, List, Option, Some, None, refl, sym, ◌∙◌, ap}
use Rattle.std.specs.List.{slice_get}
use Rattle.machine_steps.specs.Layout.{Layout, owned_by, owned_in}
use Rattle.machine_steps.specs.Machine.{lie_alike}
use Rattle.machine_steps.specs.SameLayouts.{is_same_layout}
use Rattle.owner_tables.proofs.SameLayouts.{same_layouts}
use Rattle.comm_sets.proofs.Marking.{owned-get}

pub alike-owned : (layouts : List Layout) (copy set : ℕ) → lie_alike is_same_layout (slice_get layouts copy) (slice_get layouts set) ≡ true
    → owned_in layouts copy ≡ owned_in layouts set
alike-owned layouts copy set h = by_rows (slice_get layouts copy) (slice_get layouts set) refl refl h
  where
    by_rows : (x y : Option Layout) → slice_get layouts copy ≡ x → slice_get layouts set ≡ y → lie_alike is_same_layout x y ≡ true → owned_in layouts copy ≡ owned_in layouts set
    by_rows (Some one) (Some other) ex ey h =
        sym (owned-get layouts copy one (sym ex)) ∙ ap owned_by (same_layouts one other h) ∙ owned-get layouts set other (sym ey)
    by_rows (Some one) None ex ey h = cc
    by_rows None y ex ey h = cc
