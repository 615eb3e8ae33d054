-- Where there is one node, nothing is sent.
use Rattle.std.proofs.Common.{◌≡◌, ℕ, ◌<◌, ◌==◌, nat_lt, ◌&&◌, not, Bool, true, false, List, [], ◌∷◌, map, get_or, replicate, refl, sym, ◌∙◌, ap, subst, arith}
use Rattle.std.proofs.lemmas.Bool.Decides.{nat_tests}
use Rattle.std.specs.List.{range_with_len}
use Rattle.storage.specs.Storage.{Spot}
use Rattle.machine_steps.specs.Layout.{AreOwned, Layout, least_owner_of, owns_spot, sizes}
use Rattle.machine_steps.specs.Message.{Part, message, needs}
use Rattle.message_elements.proofs.AllSpots.{is-filter}
use Rattle.message_elements.proofs.Ascending.{ascends-nil}

module _ (layouts : List Layout) (owned : AreOwned 1 layouts) where
  -- it owns each element
  pub owns-all : (s : Spot) (node : ℕ) → node < 1 → s.at < get_or (sizes layouts) s.row 0 → owns_spot layouts node s ≡ true
  owns-all s node lt inside =
      let owner = owned s inside in
      let same : node ≡ owner.0 = omega (arith, lt, owner.1) in
      ap (λ n. owns_spot layouts n s) same ∙ owner.2

  no-message : (part : Part) (from to : ℕ) → to < 1 → [] ≡ message 1 layouts part from to
  no-message part from to lt =
      is-filter (λ s. needs part to s && (not (owns_spot layouts to s) && (least_owner_of 1 layouts s == from))) layouts [] ascends-nil
      (λ s. by_case s (nat_lt s.at (get_or (sizes layouts) s.row 0)) refl)
    where
      neither : (a : Bool) → false ≡ (a && false)
      neither true = refl
      neither false = refl

      by_case : (s : Spot) (b : Bool) → nat_lt s.at (get_or (sizes layouts) s.row 0) ≡ b
          → false ≡ (b && (needs part to s && (not (owns_spot layouts to s) && (least_owner_of 1 layouts s == from))))
      by_case s false e = refl
      by_case s true e =
          let inside : s.at < get_or (sizes layouts) s.row 0 = grind (arith, nat_tests) in
          neither (needs part to s) ∙ ap (λ owns. needs part to s && (not owns && (least_owner_of 1 layouts s == from))) (sym (owns-all s to lt inside))

module _ (nodes : ℕ) (layouts : List Layout) (part : Part) (one : nodes ≡ 1) (owned : AreOwned nodes layouts) (id : ℕ) where
  pub none-sent : replicate nodes [] ≡ map (λ to. message nodes layouts part id to) (range_with_len 0 nodes)
  none-sent =
      let none : List Spot = [] in
      let P : ℕ → Type 0 = λ count. replicate count none ≡ map (λ to. message count layouts part id to) (range_with_len 0 count) in
      let owned-one : AreOwned 1 layouts = subst (λ count. AreOwned count layouts) one owned in
      subst P (sym one) (ap (λ list. list ∷ []) (no-message layouts owned-one part id 0 (omega arith)))

  pub none-taken : id < nodes → replicate nodes [] ≡ map (λ from. message nodes layouts part from id) (range_with_len 0 nodes)
  none-taken lt =
      let none : List Spot = [] in
      let P : ℕ → Type 0 = λ count. replicate count none ≡ map (λ from. message count layouts part from id) (range_with_len 0 count) in
      let owned-one : AreOwned 1 layouts = subst (λ count. AreOwned count layouts) one owned in
      subst P (sym one) (ap (λ list. list ∷ []) (no-message layouts owned-one part 0 id (omega (arith, lt, one))))
