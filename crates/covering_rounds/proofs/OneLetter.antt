-- In a round a node sends once at most, and takes once at most.
use Rattle.std.proofs.Common.{◌≡◌, ◌≢◌, ℕ, zero, suc, ◌<◌, ◌≤◌, ◌==◌, Bool, true, List, [], ◌∷◌, length, get_or, sym, ◌∙◌, ap, arith, ⊎_elim, eqb-true}
use Rattle.std.proofs.lemmas.List.{get_or_default}
use Rattle.std.proofs.lemmas.List.Folds.{Any-from_list_any}
use Rattle.std.proofs.lemmas.Bool.{cases_lt}
use Rattle.std.specs.Cmp.{first_so, second_so}
use Rattle.std.specs.List.{AllPairs, list_any}
use Rattle.machine_steps.specs.Instr.{Remapping}
use Rattle.machine_steps.specs.Layout.{Layout}
use Rattle.machine_steps.specs.Machine.{remapped}
use Rattle.machine_steps.specs.Message.{has_any, remap_message}
use Rattle.letters.specs.declared.pair.Pair.{Pair}
use Rattle.redistribute_rounds.specs.Rounds.{AreLegal}
use Rattle.redistribute_rounds.proofs.Legal.{colors-legal}
use Rattle.machine_steps.specs.Rounds.{is_pair, moving_pairs, remap_rounds}
use Rattle.covering_rounds.proofs.Pairs.{kept-between, kept-distinct}

found-at : (P : Pair → Bool) (xs : List Pair) (d : Pair) → list_any P xs ≡ true → (i : ℕ) × (i < length xs) × (P (get_or xs i d) ≡ true)
found-at P xs d h =
    let m = Any-from_list_any P xs h in
    (m.0, m.2, ap P (get_or_default xs m.0 d m.1 m.2 ∙ m.3) ∙ m.4)

-- two of a round are one, where its pairs differ in `side`
one-place : (side : Pair → ℕ) (xs : List Pair) → AllPairs (λ one other. side one ≢ side other) xs → (d : Pair) (i j : ℕ) → i < length xs → j < length xs
    → side (get_or xs i d) ≡ side (get_or xs j d) → i ≡ j
one-place side xs apart d i j li lj same = ⊎_elim
    (λ (lt : i < j). absurd (apart i j d lt lj same))
    (λ (ge : j ≤ i). ⊎_elim (λ (lt : j < i). absurd (apart j i d lt li (sym same))) (λ (le : i ≤ j). omega arith) (cases_lt j i))
    (cases_lt i j)

some_pair : Pair
some_pair = record { from = record { 0 = 0 }; to = record { 0 = 0 } }

module _ (nodes : ℕ) (new : List Remapping) (layouts : List Layout) (k : ℕ) where
  abbrev rounds : List (List Pair)
  rounds = remap_rounds nodes layouts (remapped new layouts)

  legal : AreLegal (moving_pairs nodes layouts (remapped new layouts)) rounds
  legal =
      let test : Pair → Bool = λ pair. has_any (remap_message nodes layouts (remapped new layouts) pair.from.0 pair.to.0) in
      colors-legal nodes (moving_pairs nodes layouts (remapped new layouts)) (kept-between nodes test) (kept-distinct nodes test)

  abbrev round : List Pair
  round = get_or rounds k []

  within : (P : Pair → Bool) (rs : List (List Pair)) (j : ℕ) → list_any P (get_or rs j []) ≡ true → j < length rs
  within P [] j h = cc
  within P (r ∷ rs) zero h = omega arith
  within P (r ∷ rs) (suc j) h = let lt = within P rs j h in omega arith

  sides : (p q : ℕ) (pair : Pair) → is_pair p q pair ≡ true → (pair.from.0 ≡ p) × (pair.to.0 ≡ q)
  sides p q pair h =
      (eqb-true pair.from.0 p (first_so (pair.from.0 == p) (pair.to.0 == q) h), eqb-true pair.to.0 q (second_so (pair.from.0 == p) (pair.to.0 == q) h))

  pub one-sent : (p q r : ℕ) → list_any (is_pair p q) round ≡ true → list_any (is_pair p r) round ≡ true → q ≡ r
  one-sent p q r h g =
      let a = found-at (is_pair p q) round some_pair h in
      let b = found-at (is_pair p r) round some_pair g in
      let x = sides p q (get_or round a.0 some_pair) a.2 in
      let y = sides p r (get_or round b.0 some_pair) b.2 in
      let same : a.0 ≡ b.0 = one-place (λ pair. pair.from.0) round (legal.one_sent k [] (within (is_pair p q) rounds k h)) some_pair a.0 b.0 a.1 b.1 (x.0 ∙ sym y.0) in
      sym x.1 ∙ ap (λ i. (get_or round i some_pair).to.0) same ∙ y.1

  pub one-taken : (p q r : ℕ) → list_any (is_pair p r) round ≡ true → list_any (is_pair q r) round ≡ true → p ≡ q
  one-taken p q r h g =
      let a = found-at (is_pair p r) round some_pair h in
      let b = found-at (is_pair q r) round some_pair g in
      let x = sides p r (get_or round a.0 some_pair) a.2 in
      let y = sides q r (get_or round b.0 some_pair) b.2 in
      let same : a.0 ≡ b.0 = one-place (λ pair. pair.to.0) round (legal.one_taken k [] (within (is_pair p r) rounds k h)) some_pair a.0 b.0 a.1 b.1 (x.1 ∙ sym y.1) in
      sym x.0 ∙ ap (λ i. (get_or round i some_pair).from.0) same ∙ y.0
