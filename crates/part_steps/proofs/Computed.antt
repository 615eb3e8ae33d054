-- The tuples that a node computes, one after the other.
use Rattle.std.proofs.Common.{◌≡◌, ℕ, zero, suc, ◌+◌, ◌<◌, ℤ, Bool, true, false, List, [], ◌∷◌, ◌++◌, All, ◌≤◌, length, map, take, drop, filter, get_or, Option, Some, None, if◌then◌else◌, refl, sym, ◌∙◌, ap, arith, subst}
use Rattle.std.proofs.Math.Nat.{min-le_right}
use Rattle.std.proofs.lemmas.List.{drop-drop, length-drop, length-take, take-append-drop}
use Rattle.std.proofs.lemmas.List.Elements.{All-drop, All-take, filter_passes}
use Rattle.std.specs.List.{range_with_len}
use Rattle.storage.specs.Storage.{Storage}
use Rattle.op_tables.specs.declared.join.Join.{Join}
use Rattle.op_tables.specs.Joins.{join}
use Rattle.machine_steps.specs.Instr.{Nothing}
use Rattle.machine_steps.specs.Machine.{earlier, is_before, kept_of, value_by}
use Rattle.machine_steps.specs.Node.{join_options, outcome_value}
use Rattle.node_run.proofs.Keeping.{before-order}
use Rattle.node_run.proofs.Picked.{picked-none}
use Rattle.comm_sets.proofs.Computing.{are-nodes, filter-more}
use Rattle.tuple_values.specs.Statements.{tuple_outcome, tuple_reads}
use Rattle.part_steps.specs.After.{After, applied, fault_below, joined_below, outcome_of, stored_below, tuples, value_of}
use Rattle.part_steps.specs.Computed.{join_of, keep_of, over, store_of}
use Rattle.part_steps.specs.Exchanged.{IsComputed, computed_of}
use Rattle.part_steps.specs.Parts.{part_of}

-- ---- a state by the items of a list

module _ {S : Type 0} (step : ℕ → S → S) where
  pub over-append : (xs ys : List ℕ) (s : S) → over step (xs ++ ys) s ≡ over step ys (over step xs s)
  over-append [] ys s = refl
  over-append (x ∷ xs) ys s = over-append xs ys (step x s)

  -- a run of items more
  pub over-run : (xs : List ℕ) (done : ℕ) (run : List ℕ) (before after whole : S) → run ≡ take (length run) (drop done xs) → after ≡ over step run before
      → over step (drop done xs) before ≡ whole → over step (drop (done + length run) xs) after ≡ whole
  over-run xs done run before after whole is stepped so_far =
      let n = length run in
      let rest : drop n (drop done xs) ≡ drop (done + n) xs = drop-drop n done xs in
      ap (over step (drop (done + n) xs)) stepped ∙ ap (λ ys. over step ys (over step run before)) (sym rest) ∙ ap (λ ys. over step (drop n (drop done xs)) (over step ys before)) is
      ∙ sym (over-append (take n (drop done xs)) (drop n (drop done xs)) before) ∙ ap (λ ys. over step ys before) (take-append-drop n (drop done xs)) ∙ so_far

  -- the first so many numbers, of which those that don't pass change nothing
  pub over-passing : (P : ℕ → Bool) (below : ℕ → S) → ((n : ℕ) → below (suc n) ≡ step n (below n)) → ((n : ℕ) → P n ≡ false → (s : S) → step n s ≡ s)
      → (n : ℕ) → over step (filter P (range_with_len 0 n)) (below 0) ≡ below n
  over-passing P below grows idle zero = refl
  over-passing P below grows idle (suc n) =
      let next : suc n ≡ n + 1 = omega arith in
      ap (λ k. over step (filter P (range_with_len 0 k)) (below 0)) next ∙ ap (λ ts. over step ts (below 0)) (filter-more P n) ∙ over-append (filter P (range_with_len 0 n)) (filter P (n ∷ [])) (below 0)
      ∙ ap (over step (filter P (n ∷ []))) (over-passing P below grows idle n) ∙ last (P n) refl
    where
      last : (b : Bool) → P n ≡ b → over step (if b then n ∷ [] else []) (below n) ≡ below (suc n)
      last true e = sym (grows n)
      last false e = sym (grows n ∙ idle n e (below n))

-- ---- what a node makes of the tuples that it computes

join-none : (join : ℤ → ℤ → ℤ) (so_far : Option ℤ) → join_options join so_far None ≡ so_far
join-none join None = refl
join-none join (Some a) = refl

module _ (b : After) where
  -- what a tuple comes to that the node doesn't compute, and that it computes
  nothing-else : (t : ℕ) → (part_of b.part).computes b.id t ≡ false → outcome_of b t ≡ Nothing
  nothing-else t e = ap (λ c. if c then tuple_outcome b.part.statement t (map (value_by (value_of b)) (tuple_reads b.part.statement t)) else Nothing) e

  pub outcome-is : (t : ℕ) → IsComputed b t → tuple_outcome b.part.statement t (map (value_by (value_of b)) (tuple_reads b.part.statement t)) ≡ outcome_of b t
  outcome-is t is = ap (λ c. if c then tuple_outcome b.part.statement t (map (value_by (value_of b)) (tuple_reads b.part.statement t)) else Nothing) (sym is.computes)

  module _ (computed : List ℕ) (are : computed ≡ computed_of b) where
    abbrev passes : ℕ → Bool
    passes = (part_of b.part).computes b.id

    -- each of them is one
    pub is-computed : (i d : ℕ) → i < length computed → IsComputed b (get_or computed i d)
    is-computed i d lt = subst (λ (ts : List ℕ). i < length ts → IsComputed b (get_or ts i d)) (sym are) (λ lt'. record {
      below = are-nodes passes (tuples b) i d lt';
      computes = filter_passes passes (range_with_len 0 (tuples b)) i d lt';
    }) lt

    pub stored-over : (pieces : Storage) → over (store_of b) computed pieces ≡ stored_below b (tuples b) pieces
    stored-over pieces =
        ap (λ ts. over (store_of b) ts pieces) are
        ∙ over-passing (store_of b) passes (λ n. stored_below b n pieces) (λ n. refl) (λ n e s. ap (λ o. applied b n o s) (nothing-else n e)) (tuples b)

    pub fault-over : (number : ℕ) → over (keep_of b number) computed None ≡ fault_below b number (tuples b)
    fault-over number =
        ap (λ ts. over (keep_of b number) ts None) are
        ∙ over-passing (keep_of b number) passes (fault_below b number) (λ n. refl)
        (λ n e s. ap (λ o. earlier s (kept_of o n number)) (nothing-else n e) ∙ picked-none is_before before-order s) (tuples b)

    pub joined-over : (op : Join) → over (join_of b op) computed None ≡ joined_below b op (tuples b)
    joined-over op =
        ap (λ ts. over (join_of b op) ts None) are
        ∙ over-passing (join_of b op) passes (joined_below b op) (λ n. refl) (λ n e s. ap (λ o. join_options (join op) s (outcome_value o)) (nothing-else n e) ∙ join-none (join op) s) (tuples b)

    -- those of a run
    pub are-computed : (done : ℕ) (run : List ℕ) → run ≡ take (length run) (drop done computed) → All (IsComputed b) run
    are-computed done run is = subst (All (IsComputed b)) (sym is) (All-take (IsComputed b) (length run) (drop done computed) (All-drop (IsComputed b) done computed is-computed))

-- a run ends where the list does, or before
pub run-within : (xs : List ℕ) (done : ℕ) (run : List ℕ) → done < length xs → run ≡ take (length run) (drop done xs) → done + length run ≤ length xs
run-within xs done run lt is =
    let long = ap length is ∙ length-take (length run) (drop done xs) in
    let left = length-drop done xs in
    let most : length run ≤ length (drop done xs) = subst (λ n. n ≤ length (drop done xs)) (sym long) (min-le_right (length run) (length (drop done xs))) in
    omega (arith, most, left, lt)
