-- Values with positions, of which the one at the last position is kept.
use Rattle.std.proofs.Common.{◌≡◌, ◌∙◌, ℕ, ◌<◌, ◌≤◌, true, false, nat_lt, ℤ, Option, Some, None, refl, sym, arith, ⊎_elim}
use Rattle.std.proofs.lemmas.Bool.{cases_lt, lt-ltb, le-ltb}
use Rattle.std.specs.Cmp.{nat_cmp_is, int_cmp_is}
use Rattle.std.specs.Ordering.{is_gt, nat_cmp, int_cmp, ordering_then}
use Rattle.std.specs.declared.cmp.Ordering.{Ordering}
use Rattle.std.specs.declared.cmp.Ordering.TheVariants.{Less, Equal, Greater}
use Rattle.machine_steps.specs.Node.{Positioned, is_after, later, positioned_values, values_positioned}
use Rattle.reduction_tree.specs.FirstOf.{first_of}
use Rattle.reduction_tree.specs.LastOrder.{last_order}
use Rattle.tree_folds.specs.Places.{placed, places, HaveOwnPositions}
use Rattle.tree_folds.proofs.Picked.{key-picked}

-- the other position is later in the order of places where it is greater, if one position has one value
module _ (at : ℕ) (v : ℤ) (other : ℕ) (w : ℤ) where
  abbrev compared : Ordering
  compared = ordering_then (nat_cmp other at) (int_cmp w v)

  later-at : at < other → nat_lt at other ≡ is_gt compared
  later-at lt =
      let e : nat_cmp other at ≡ Greater = sym (nat_cmp_is other at Greater lt) in
      let second : is_gt compared ≡ true = rw e refl in
      lt-ltb at other lt ∙ sym second

  earlier-at : other < at → nat_lt at other ≡ is_gt compared
  earlier-at lt =
      let e : nat_cmp other at ≡ Less = sym (nat_cmp_is other at Less lt) in
      let first : is_gt compared ≡ false = rw e refl in
      le-ltb at other (omega arith) ∙ sym first

  same-at : at ≡ other → v ≡ w → nat_lt at other ≡ is_gt compared
  same-at same alike =
      let e : nat_cmp other at ≡ Equal = sym (nat_cmp_is other at Equal (sym same)) in
      let f : int_cmp w v ≡ Equal = sym (int_cmp_is w v Equal (sym alike)) in
      let first : is_gt compared ≡ false = rw (e, f) refl in
      le-ltb at other (omega (arith, same)) ∙ sym first

  pub place-after : (at ≡ other → v ≡ w) → nat_lt at other ≡ is_gt compared
  place-after one = ⊎_elim later-at
      (λ (le : other ≤ at). ⊎_elim earlier-at (λ (ge : at ≤ other). let same : at ≡ other = omega arith in same-at same (one same)) (cases_lt other at))
      (cases_lt at other)

pub places-joined : (a b : Option Positioned) → HaveOwnPositions a b → places (later a b) ≡ first_of last_order (places a) (places b)
places-joined None b own = refl
places-joined (Some x) None own = refl
places-joined (Some x) (Some y) own =
    key-picked placed x y (is_after y x) (is_gt (last_order (placed x) (placed y))) (place-after x.at x.value y.at y.value own)

pub positions-back : (l : Option Positioned) → values_positioned (positioned_values l) ≡ l
positions-back None = refl
positions-back (Some l) = refl
