-- The elements that an end has are enough for what it sends or takes.
use Rattle.std.proofs.Common.{◌≡◌, ℕ, ◌<◌, ◌≤◌, nat_eq, nat_lt, ◌==◌, not, ◌&&◌, ◌⊎◌, inl, inr, Bool, true, false, List, filter, get_or, refl, ◌∙◌, ap, subst, arith}
use Rattle.std.proofs.lemmas.Bool.{and_parts, cases_lt, eqb-true, ne_eqb}
use Rattle.std.proofs.lemmas.Bool.Decides.{nat_tests}
use Rattle.std.proofs.lemmas.List.Elements.{All-filter}
use Rattle.std.proofs.lemmas.List.Folds.{list_any_none}
use Rattle.std.specs.List.{list_any, range_with_len}
use Rattle.hpf_base.proofs.Ranges.{All-range}
use Rattle.storage.specs.Storage.{Spot}
use Rattle.machine_steps.specs.Layout.{AreOwned, Layout, least_owner_of, owns_spot, sizes}
use Rattle.owner_tables.proofs.Senders.{least-owns}
use Rattle.comm_sets.specs.declared.remapping.End.{End}
use Rattle.comm_sets.specs.declared.remapping.End.TheVariants.{Source, Target}
use Rattle.comm_sets.specs.Moves.{has_at, moves}
use Rattle.comm_sets.proofs.Computing.{computes-it}

-- none of the numbers that pass is one past all
none-past : (P : ℕ → Bool) (n k : ℕ) → n ≤ k → list_any (λ at. nat_eq at k) (filter P (range_with_len 0 n)) ≡ false
none-past P n k past =
    list_any_none (λ at. nat_eq at k) (filter P (range_with_len 0 n))
    (All-filter P (λ at. nat_eq at k ≡ false) (range_with_len 0 n) (All-range (λ at. nat_eq at k ≡ false) 0 n (λ j low high. ne_eqb j k (λ e. omega (arith, past, high, e)))))

module _ (nodes : ℕ) (old new : List Layout) (owned : AreOwned nodes old) where
  -- what is sent from an end or to it, the end has
  moved-had : (end : End) (other : ℕ) (s : Spot) → s.at < get_or (sizes old) s.row 0 → moves nodes old new end other s ≡ true → has_at old new end s.row s.at ≡ true
  moved-had (Source from) to s inside is =
      let parts = and_parts (owns_spot new to s) (not (owns_spot old to s) && (least_owner_of nodes old s == from)) is in
      let least = (and_parts (not (owns_spot old to s)) (least_owner_of nodes old s == from) parts.1).1 in
      subst (λ node. owns_spot old node s ≡ true) (eqb-true (least_owner_of nodes old s) from least) (least-owns nodes old owned s inside)
  moved-had (Target to) from s inside is =
      (and_parts (owns_spot new to s) (not (owns_spot old to s) && (least_owner_of nodes old s == from)) is).0

  both : (a b : Bool) → (b ≡ true → a ≡ true) → (a && b) ≡ b
  both true b from = refl
  both false true from = from refl
  both false false from = refl

  -- an element that is sent is one of those that the end has
  pub end-elements : (end : End) (row n other : ℕ) (s : Spot) → n ≡ get_or (sizes old) row 0
      → ((nat_eq row s.row && list_any (λ at. nat_eq at s.at) (filter (has_at old new end row) (range_with_len 0 n))) && moves nodes old new end other s)
      ≡ ((nat_eq row s.row && nat_lt s.at n) && moves nodes old new end other s)
  end-elements end row n other s size = by_row (nat_eq row s.row) refl
    where
      here : row ≡ s.row → (s.at < n) ⊎ (n ≤ s.at)
          → (list_any (λ at. nat_eq at s.at) (filter (has_at old new end row) (range_with_len 0 n)) && moves nodes old new end other s) ≡ (nat_lt s.at n && moves nodes old new end other s)
      here same (inl inside) =
          let upto : true ≡ nat_lt s.at n = grind (arith, nat_tests) in
          let within : s.at < get_or (sizes old) s.row 0 = omega (arith, inside, size, ap (λ r. get_or (sizes old) r 0) same) in
          ap (λ b. b && moves nodes old new end other s) (computes-it (has_at old new end row) n s.at inside ∙ ap (λ r. has_at old new end r s.at) same)
          ∙ both (has_at old new end s.row s.at) (moves nodes old new end other s) (moved-had end other s within)
          ∙ ap (λ b. b && moves nodes old new end other s) upto
      here same (inr past) =
          let none : false ≡ nat_lt s.at n = grind (arith, nat_tests) in
          ap (λ b. b && moves nodes old new end other s) (none-past (has_at old new end row) n s.at past ∙ none)

      by_row : (b : Bool) → nat_eq row s.row ≡ b
          → ((b && list_any (λ at. nat_eq at s.at) (filter (has_at old new end row) (range_with_len 0 n))) && moves nodes old new end other s)
          ≡ ((b && nat_lt s.at n) && moves nodes old new end other s)
      by_row true e = here (eqb-true row s.row e) (cases_lt s.at n)
      by_row false e = refl
