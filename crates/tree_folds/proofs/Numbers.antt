-- Numbers that may be missing, in the rounds of a tree.
use Rattle.std.proofs.Common.{◌≡◌, ◌∙◌, List, [], ◌∷◌, ℕ, ◌<◌, ◌*◌, ℤ, Option, Some, None, map, refl, sym, ap}
use Rattle.std.specs.List.{filter_map, fold, range_with_len}
use Rattle.op_tables.specs.declared.join.Join.{Join}
use Rattle.op_tables.specs.Joins.{IsJoin, join}
use Rattle.op_tables.proofs.Joins.{joins, regrouped}
use Rattle.machine_steps.specs.Node.{option_values, join_after}
use Rattle.reduction_tree.specs.Tree.{levels, after_rounds}
use Rattle.reduction_tree.proofs.Gathered.{folded-up, folded-down}
use Rattle.tree_steps.specs.declared.joining.Joining.TheVariants.{Options}
use Rattle.tree_steps.specs.Absorbed.{joined_values}
use Rattle.tree_folds.specs.Optional.{IsMissingOr, join_present}
use Rattle.tree_folds.specs.OptionalJoins.{present_joins}
use Rattle.tree_folds.proofs.Carried.{rounds-carried}

-- all numbers are joined in any order and grouping, also where the unit is neutral to some alone
numbers-join : (j : Join) → IsJoin (IsMissingOr (λ _. Unit {0})) (join_present (join j)) None
numbers-join j = present_joins (λ _. Unit {0}) (join j) (λ a b f g. tt) (λ a b c f g h. regrouped j a b c) (joins j).commutative

some-number : (a : Option ℤ) → IsMissingOr (λ _. Unit {0}) a
some-number None = tt
some-number (Some x) = tt

numbers-carried : (j : Join) (a b : Option ℤ) → option_values (join_present (join j) a b) ≡ joined_values (Options j) (option_values a) (option_values b)
numbers-carried j None None = refl
numbers-carried j None (Some y) = refl
numbers-carried j (Some x) None = refl
numbers-carried j (Some x) (Some y) = refl

module _ (j : Join) (nodes : ℕ) (items : ℕ → Option ℤ) where
  has : (k p : ℕ) → p < nodes
      → option_values (after_rounds (join_present (join j)) nodes items k p) ≡ after_rounds (joined_values (Options j)) nodes (λ q. option_values (items q)) k p
  has = rounds-carried (λ _. Unit {0}) (join_present (join j)) (λ a b f g. tt) nodes items (λ p lt. tt) option_values (joined_values (Options j))
      (λ a b f g. numbers-carried j a b)

  pub numbers-up : 0 < nodes → after_rounds (joined_values (Options j)) nodes (λ p. option_values (items p)) (levels nodes) 0
      ≡ option_values (fold (join_present (join j)) None (map items (range_with_len 0 nodes)))
  numbers-up some = sym (has (levels nodes) 0 some)
      ∙ ap option_values (folded-up (IsMissingOr (λ _. Unit {0})) (join_present (join j)) None (numbers-join j) nodes items (λ p lt. some-number (items p)) some)

  pub numbers-down : (p : ℕ) → p < nodes → after_rounds (joined_values (Options j)) nodes (λ p. option_values (items p)) (2 * levels nodes) p
      ≡ option_values (fold (join_present (join j)) None (map items (range_with_len 0 nodes)))
  numbers-down p lt = sym (has (2 * levels nodes) p lt)
      ∙ ap option_values (folded-down (IsMissingOr (λ _. Unit {0})) (join_present (join j)) None (numbers-join j) nodes items (λ p lt. some-number (items p)) p lt)

-- ---- the value of a reduction

-- a number before others, of which some are missing
module _ (j : Join) (first : ℤ) where
  abbrev after_some : Option ℤ → ℤ
  after_some a = join_after (join j) first a

  joined-before : (a : Option ℤ) (v : ℤ) → after_some (join_present (join j) a (Some v)) ≡ join j (after_some a) v
  joined-before None v = refl
  joined-before (Some u) v = sym (regrouped j first u v)

  nothing-before : (a : Option ℤ) → after_some (join_present (join j) a None) ≡ after_some a
  nothing-before None = refl
  nothing-before (Some u) = refl

  pub those-joined : (a : Option ℤ) (xs : List (Option ℤ))
      → after_some (fold (join_present (join j)) a xs) ≡ fold (join j) (after_some a) (filter_map (λ x. x) xs)
  those-joined a [] = refl
  those-joined a (None ∷ xs) = those-joined (join_present (join j) a None) xs ∙ ap (λ x. fold (join j) x (filter_map (λ x. x) xs)) (nothing-before a)
  those-joined a (Some v ∷ xs) = those-joined (join_present (join j) a (Some v)) xs ∙ ap (λ x. fold (join j) x (filter_map (λ x. x) xs)) (joined-before a v)
