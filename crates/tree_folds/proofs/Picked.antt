-- Things of which the first in an order is kept, in the rounds of a tree.
use Rattle.std.proofs.Common.{◌≡◌, ◌∙◌, ℕ, ◌<◌, ◌*◌, ℤ, List, Bool, true, false, Option, Some, None, if◌then◌else◌, map, refl, sym, ap, subst}
use Rattle.std.specs.Prelude.{option_map}
use Rattle.std.specs.List.{fold, range_with_len}
use Rattle.std.specs.declared.cmp.Ordering.{Ordering}
use Rattle.op_tables.specs.Joins.{IsJoin}
use Rattle.machine_steps.specs.Machine.{picked}
use Rattle.reduction_tree.specs.FirstOf.{first_of}
use Rattle.reduction_tree.specs.Tree.{levels, after_rounds}
use Rattle.reduction_tree.proofs.Gathered.{folded-up, folded-down}
use Rattle.tree_folds.proofs.Carried.{among-rounds, rounds-carried}

-- the key of the one of two that a test picks
pub key-picked : {A K : Type 0} (key : A → K) (x y : A) (before gt : Bool) → before ≡ gt
    → option_map key (if before then Some y else Some x) ≡ Some (if gt then key y else key x)
key-picked key x y true gt e = ap (λ g. Some (if g then key y else key x)) e
key-picked key x y false gt e = ap (λ g. Some (if g then key y else key x)) e

module _ {A : Type 0} (is_first : A → A → Bool) (nodes : ℕ) (items : ℕ → Option A) where
  -- what some node began with
  abbrev pub IsItem : Option A → Type 0
  IsItem a = (q : ℕ) × (q < nodes) × (items q ≡ a)

  one-of : (x y : A) (b : Bool) → IsItem (Some x) → IsItem (Some y) → IsItem (if b then Some y else Some x)
  one-of x y true f g = g
  one-of x y false f g = f

  picked-item : (a b : Option A) → IsItem a → IsItem b → IsItem (picked is_first a b)
  picked-item None b f g = g
  picked-item (Some x) None f g = f
  picked-item (Some x) (Some y) f g = one-of x y (is_first y x) f g

  item : (p : ℕ) → p < nodes → IsItem (items p)
  item p lt = (p, lt, refl)

  abbrev kept : ℕ → ℕ → Option A
  kept k p = after_rounds (picked is_first) nodes items k p

  module _ (values : Option A → List ℤ) (of : List ℤ → Option A) (back : (a : Option A) → of (values a) ≡ a) where
    abbrev joined : List ℤ → List ℤ → List ℤ
    joined a b = values (picked is_first (of a) (of b))

    pub values-joined : (a b : Option A) → values (picked is_first a b) ≡ joined (values a) (values b)
    values-joined a b = λ i. values (picked is_first (sym (back a) i) (sym (back b) i))

    values-kept : (k p : ℕ) → p < nodes → values (kept k p) ≡ after_rounds joined nodes (λ q. values (items q)) k p
    values-kept = rounds-carried IsItem (picked is_first) picked-item nodes items item values joined (λ a b f g. values-joined a b)

    -- what a node has is what some node began with
    pub held-item : (k p : ℕ) → p < nodes → (q : ℕ) × (q < nodes) × (after_rounds joined nodes (λ q. values (items q)) k p ≡ values (items q))
    held-item k p lt =
        let at = among-rounds IsItem (picked is_first) picked-item nodes items item k p lt in
        (at.0, at.1, sym (values-kept k p lt) ∙ ap values (sym at.2))

    module _ {K : Type 0} (R : K → K → Ordering) (joins : IsJoin (λ _. Unit {0}) (first_of R) None) (key : A → K) (Own : Option A → Option A → Type 0)
        (carries : (a b : Option A) → Own a b → option_map key (picked is_first a b) ≡ first_of R (option_map key a) (option_map key b))
        (own : (p q : ℕ) → p < nodes → q < nodes → Own (items p) (items q)) where
      keys-picked : (a b : Option A) → IsItem a → IsItem b → option_map key (picked is_first a b) ≡ first_of R (option_map key a) (option_map key b)
      keys-picked a b f g = carries a b (subst (λ x. Own x b) f.2 (subst (λ y. Own (items f.0) y) g.2 (own f.0 g.0 f.1 g.1)))

      keys-kept : (k p : ℕ) → p < nodes
          → option_map key (of (after_rounds joined nodes (λ q. values (items q)) k p)) ≡ after_rounds (first_of R) nodes (λ q. option_map key (items q)) k p
      keys-kept k p lt = ap (λ v. option_map key (of v)) (sym (values-kept k p lt)) ∙ ap (option_map key) (back (kept k p))
          ∙ rounds-carried IsItem (picked is_first) picked-item nodes items item (option_map key) (first_of R) keys-picked k p lt

      pub keys-up : 0 < nodes → option_map key (of (after_rounds joined nodes (λ q. values (items q)) (levels nodes) 0))
          ≡ fold (first_of R) None (map (λ q. option_map key (items q)) (range_with_len 0 nodes))
      keys-up some = keys-kept (levels nodes) 0 some
          ∙ folded-up (λ _. Unit {0}) (first_of R) None joins nodes (λ q. option_map key (items q)) (λ p lt. tt) some

      pub keys-down : (p : ℕ) → p < nodes → option_map key (of (after_rounds joined nodes (λ q. values (items q)) (2 * levels nodes) p))
          ≡ fold (first_of R) None (map (λ q. option_map key (items q)) (range_with_len 0 nodes))
      keys-down p lt = keys-kept (2 * levels nodes) p lt
          ∙ folded-down (λ _. Unit {0}) (first_of R) None joins nodes (λ q. option_map key (items q)) (λ p lt. tt) p lt
