-- What nodes have after the rounds of a tree by what each receives is what they have by what each does.
use Rattle.std.proofs.Common.{◌≡◌, ◌∙◌, ℕ, zero, suc, ◌+◌, ◌-◌, ◌*◌, ◌%◌, ◌^◌, ◌<◌, ◌≤◌, ◌==◌, Bool, true, false, nat_lt, ℤ, List, [], Option, Some, None, if◌then◌else◌, get_or, map, refl, sym, ap, subst, arith, eq-eqb, ⊎_elim}
use Rattle.std.proofs.lemmas.Bool.{cases_lt, lt-ltb, eqb-true, true≢false}
use Rattle.std.proofs.lemmas.List.{get_or_past}
use Rattle.std.proofs.lemmas.List.FromFn.{get_or-map-range_with_len, length-map-range_with_len}
use Rattle.std.specs.List.{range_with_len}
use Rattle.array_meaning.specs.Faults.{Fault}
use Rattle.machine_steps.specs.Machine.{Kept as Held, earlier, is_before, picked}
use Rattle.machine_steps.specs.Node.{Positioned, is_after, kept_values, values_kept, later, positioned_values, values_positioned, option_values, values_option, join_options}
use Rattle.machine_steps.specs.Tree.{levels_of, sends_up}
use Rattle.code_meaning.specs.FaultValues.{fault_values}
use Rattle.node_run.proofs.TreeActs.{same-levels, takes-is, is-takes}
use Rattle.op_tables.specs.declared.join.Join.{Join}
use Rattle.op_tables.specs.Joins.{join}
use Rattle.reduction_tree.specs.declared.tree.TreeAct.{TreeAct}
use Rattle.reduction_tree.specs.declared.tree.TreeAct.TheVariants.{Idle}
use Rattle.reduction_tree.specs.Tree.{up_act, exchanged, after_act, after_rounds}
use Rattle.reduction_tree.proofs.Acts.{IsUpAct, sending, taking, idle, is_up_act, sends-up, takes-up, half-at-most}
use Rattle.reduction_tree.proofs.RoundsUp.{power-some}
use Rattle.tree_steps.specs.Absorbed.{joined_values}
use Rattle.tree_steps.specs.declared.joining.Joining.{Joining}
use Rattle.tree_steps.specs.declared.joining.Joining.TheVariants.{Kept, Later, Options}
use Rattle.tree_folds.specs.Passing.{after_passing, AreSpelled}
use Rattle.tree_folds.proofs.Carried.{among-rounds}
use Rattle.tree_folds.proofs.Faults.{faults-back}
use Rattle.tree_folds.proofs.Positions.{positions-back}

options-back : (v : Option ℤ) → values_option (option_values v) ≡ v
options-back None = refl
options-back (Some v) = refl

after_nothing : {A : Type 0} (is_first : A → A → Bool) (a : Option A) → picked is_first a None ≡ a
after_nothing is_first None = refl
after_nothing is_first (Some x) = refl

joined_nothing : (op : ℤ → ℤ → ℤ) (a : Option ℤ) → join_options op a None ≡ a
joined_nothing op None = refl
joined_nothing op (Some x) = refl

pub fault-spelled : (a : Option (Held Fault)) → AreSpelled Kept (kept_values fault_values a)
fault-spelled a = ap (kept_values fault_values) (ap (λ k. earlier k None) (faults-back a) ∙ after_nothing is_before a)

pub number-spelled : (j : Join) (a : Option ℤ) → AreSpelled (Options j) (option_values a)
number-spelled j a = ap option_values (ap (λ k. join_options (join j) k None) (options-back a) ∙ joined_nothing (join j) a)

pub position-spelled : (a : Option Positioned) → AreSpelled Later (positioned_values a)
position-spelled a = ap positioned_values (ap (λ k. later k None) (positions-back a) ∙ after_nothing is_after a)

-- what two come to is spelled
joined-spelled : (joining : Joining) (a b : List ℤ) → AreSpelled joining (joined_values joining a b)
joined-spelled Kept a b = fault-spelled (earlier (values_kept fault_values a) (values_kept fault_values b))
joined-spelled (Options j) a b = number-spelled j (join_options (join j) (values_option a) (values_option b))
joined-spelled Later a b = position-spelled (later (values_positioned a) (values_positioned b))

received-inside : (f : ℕ → List ℤ) (nodes q : ℕ) → q < nodes → get_or (map f (range_with_len 0 nodes)) q [] ≡ f q
received-inside f nodes q lt = get_or-map-range_with_len f 0 nodes q q [] lt (omega arith)

received-outside : (f : ℕ → List ℤ) (nodes q : ℕ) → nodes ≤ q → get_or (map f (range_with_len 0 nodes)) q [] ≡ []
received-outside f nodes q le = let n = length-map-range_with_len f 0 nodes in get_or_past (map f (range_with_len 0 nodes)) q [] (omega (arith, n))

module _ (joining : Joining) (nodes : ℕ) (items : ℕ → List ℤ) (spelled : (p : ℕ) → p < nodes → AreSpelled joining (items p)) where
  abbrev here : ℕ → ℕ → List ℤ
  here = after_passing joining nodes items

  abbrev there : ℕ → ℕ → List ℤ
  there = after_rounds (joined_values joining) nodes items

  nothing-more : (k p : ℕ) → p < nodes → joined_values joining (there k p) [] ≡ there k p
  nothing-more = among-rounds (AreSpelled joining) (joined_values joining) (λ a b f g. joined-spelled joining a b) nodes items spelled

  module _ (k p : ℕ) (lp : p < nodes) (same : (q : ℕ) → q < nodes → here k q ≡ there k q) where
    -- going up
    abbrev sent_up : ℕ → List ℤ
    sent_up q = if sends_up k q p then here k q else []

    abbrev came_up : List ℤ
    came_up = get_or (map sent_up (range_with_len 0 nodes)) (p + 2 ^ k) []

    abbrev is_up : Type 0
    is_up = joined_values joining (here k p) came_up ≡ after_act (joined_values joining) true (there k) p (up_act nodes k p)

    took : p + 2 ^ k < nodes → sends_up k (p + 2 ^ k) p ≡ true → is_up
    took lt e =
        let came : came_up ≡ there k (p + 2 ^ k) = received-inside sent_up nodes (p + 2 ^ k) lt
        ∙ ap (λ b. if b then here k (p + 2 ^ k) else []) e ∙ same (p + 2 ^ k) lt in
        rw (takes-is nodes k (p + 2 ^ k) p lt lp e) (λ i. joined_values joining (same p lp i) (came i))

    took-nothing : came_up ≡ [] → (p + 2 ^ k < nodes → sends_up k (p + 2 ^ k) p ≡ true → ⊥) → is_up
    took-nothing none never = (λ i. joined_values joining (same p lp i) (none i)) ∙ nothing-more k p lp ∙ by_act (up_act nodes k p) (is_up_act nodes k p)
      where
        by_act : (act : TreeAct) → IsUpAct nodes k p act → there k p ≡ after_act (joined_values joining) true (there k) p act
        by_act _ (sending h) = refl
        by_act _ (taking h lt) = absurd (never lt (is-takes nodes k (p + 2 ^ k) p lt lp (takes-up nodes k p h lt)))
        by_act _ idle = refl

    inside-up : p + 2 ^ k < nodes → (b : Bool) → sends_up k (p + 2 ^ k) p ≡ b → is_up
    inside-up lt true e = took lt e
    inside-up lt false e = took-nothing (received-inside sent_up nodes (p + 2 ^ k) lt ∙ ap (λ b. if b then here k (p + 2 ^ k) else []) e) (λ l t. true≢false (sym t ∙ e))

    up : is_up
    up = ⊎_elim (λ (lt : p + 2 ^ k < nodes). inside-up lt (sends_up k (p + 2 ^ k) p) refl)
        (λ (le : nodes ≤ p + 2 ^ k). took-nothing (received-outside sent_up nodes (p + 2 ^ k) le) (λ l t. absurd (omega arith)))
        (cases_lt (p + 2 ^ k) nodes)

    -- going down
    module _ (at : ℕ) where
      abbrev sent_down : ℕ → List ℤ
      sent_down q = if sends_up at p q then here k q else []

      abbrev came_down : List ℤ
      came_down = get_or (map sent_down (range_with_len 0 nodes)) (p - 2 ^ at) []

      down : (b : Bool) → (p % (2 ^ at * 2) == 2 ^ at) ≡ b
          → (if b then came_down else here k p) ≡ after_act (joined_values joining) false (there k) p (exchanged (up_act nodes at p))
      down true e =
          let half = eqb-true (p % (2 ^ at * 2)) (2 ^ at) e in
          let le : 2 ^ at ≤ p = half-at-most (2 ^ at) p (power-some at) half in
          let sends : sends_up at p (p - 2 ^ at) ≡ true = rw (e, eq-eqb p (p - 2 ^ at + 2 ^ at) (omega arith)) refl in
          let lt : p - 2 ^ at < nodes = omega arith in
          rw (sends-up nodes at p half)
          (received-inside sent_down nodes (p - 2 ^ at) lt ∙ ap (λ b. if b then here k (p - 2 ^ at) else []) sends ∙ same (p - 2 ^ at) lt)
      down false e = same p lp ∙ by_act (up_act nodes at p) (is_up_act nodes at p)
        where
          by_act : (act : TreeAct) → IsUpAct nodes at p act → there k p ≡ after_act (joined_values joining) false (there k) p (exchanged act)
          by_act _ (sending h) = absurd (true≢false (sym (eq-eqb (p % (2 ^ at * 2)) (2 ^ at) h) ∙ e))
          by_act _ (taking h lt) = refl
          by_act _ idle = refl

    -- up or down
    abbrev sent_either : ℕ → Bool → ℕ → List ℤ
    sent_either at b q = if (if b then sends_up k q p else sends_up at p q) then here k q else []

    by_half : (at : ℕ) (b : Bool)
        → (if b then joined_values joining (here k p) (get_or (map (sent_either at b) (range_with_len 0 nodes)) (p + 2 ^ k) [])
        else if p % (2 ^ at * 2) == 2 ^ at then get_or (map (sent_either at b) (range_with_len 0 nodes)) (p - 2 ^ at) []
        else here k p)
        ≡ after_act (joined_values joining) b (there k) p (if b then up_act nodes k p else exchanged (up_act nodes at p))
    by_half at true = up
    by_half at false = down at (p % (2 ^ at * 2) == 2 ^ at) refl

  pub passing-same : (k : ℕ) → k ≤ 2 * levels_of nodes → (p : ℕ) → p < nodes → here k p ≡ there k p
  passing-same zero le p lp = refl
  passing-same (suc k) le p lp =
      subst (λ l. here (suc k) p ≡ after_act (joined_values joining) (nat_lt k l) (there k) p (if nat_lt k l then up_act nodes k p else if nat_lt k (2 * l) then exchanged
      (up_act nodes (2 * l - 1 - k) p) else Idle)) (sym (same-levels nodes))
      (rw (lt-ltb k (2 * levels_of nodes) (omega arith)) (by_half k p lp (passing-same k (omega arith)) (2 * levels_of nodes - 1 - k) (nat_lt k (levels_of nodes))))
