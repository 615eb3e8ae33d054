-- Items dealt out to nodes, joined node by node.
use Rattle.std.proofs.Common.{◌≡◌, ℕ, zero, suc, ◌+◌, ◌<◌, ◌≤◌, ◌==◌, Bool, true, false, if◌then◌else◌, List, [], ◌∷◌, map, filter, refl, sym, ◌∙◌, ap, arith, ⊎_elim, eq-eqb}
use Rattle.std.proofs.lemmas.Bool.{ne_eqb, cases_eq}
use Rattle.std.specs.List.{fold, range_with_len}
use Rattle.op_tables.specs.Joins.{IsJoin}
use Rattle.reduction_tree.proofs.Gathered.{Values, fold-cons, folded-value}

module _ {T : Type 0} (IsValue : T → Type 0) (join : T → T → T) (unit : T) (joins : IsJoin IsValue join unit) where
  -- the items of the nodes from one on, joined
  abbrev over : (ℕ → T) → ℕ → ℕ → T
  over f lo len = fold join unit (map f (range_with_len lo len))

  each-value : (f : ℕ → T) (lo len : ℕ) → ((p : ℕ) → IsValue (f p)) → Values IsValue join unit joins (map f (range_with_len lo len))
  each-value f lo zero each = tt
  each-value f lo (suc len) each = (each lo, each-value f (lo + 1) len each)

  over-suc : (f : ℕ → T) (lo len : ℕ) → ((p : ℕ) → IsValue (f p)) → over f lo (suc len) ≡ join (f lo) (over f (lo + 1) len)
  over-suc f lo len each = fold-cons IsValue join unit joins (f lo) (map f (range_with_len (lo + 1) len)) (each lo) (each-value f (lo + 1) len each)

  over-value : (f : ℕ → T) (lo len : ℕ) → ((p : ℕ) → IsValue (f p)) → IsValue (over f lo len)
  over-value f lo len each = folded-value IsValue join unit joins unit (map f (range_with_len lo len)) joins.unit_in (each-value f lo len each)

  over-unit : (lo len : ℕ) → over (λ _. unit) lo len ≡ unit
  over-unit lo zero = refl
  over-unit lo (suc len) = over-suc (λ _. unit) lo len (λ _. joins.unit_in) ∙ ap (join unit) (over-unit (lo + 1) len) ∙ joins.neutral unit joins.unit_in

  -- one node's item grows
  module _ (f : ℕ → T) (each : (p : ℕ) → IsValue (f p)) (k : ℕ) (v : T) (value : IsValue v) where
    abbrev grown : ℕ → T
    grown p = if k == p then join v (f p) else f p

    grown-value : (p : ℕ) → IsValue (grown p)
    grown-value p = by_test (k == p)
      where
        by_test : (b : Bool) → IsValue (if b then join v (f p) else f p)
        by_test true = joins.closed v (f p) value (each p)
        by_test false = each p

    over-other : (lo len : ℕ) → k < lo → over grown lo len ≡ over f lo len
    over-other lo zero lt = refl
    over-other lo (suc len) lt =
        let other : grown lo ≡ f lo = rw (ne_eqb k lo (λ e. absurd (omega arith))) refl in
        over-suc grown lo len grown-value ∙ (λ i. join (other i) (over-other (lo + 1) len (omega arith) i)) ∙ sym (over-suc f lo len each)

    over-grown : (lo len : ℕ) → lo ≤ k → k < lo + len → over grown lo len ≡ join v (over f lo len)
    over-grown lo zero ge lt = absurd (omega arith)
    over-grown lo (suc len) ge lt = over-suc grown lo len grown-value ∙ ⊎_elim
        (λ (e : k ≡ lo).
        let this : grown lo ≡ join v (f lo) = rw (eq-eqb k lo e) refl in
        (λ i. join (this i) (over-other (lo + 1) len (omega arith) i)) ∙ joins.associative v (f lo) rest value (each lo) rest-value ∙ ap (join v) (sym (over-suc f lo len each)))
        (λ (ne : k ≡ lo → ⊥).
        let other : grown lo ≡ f lo = rw (ne_eqb k lo ne) refl in
        (λ i. join (other i) (over-grown (lo + 1) len (omega (arith, ne)) (omega arith) i))
        ∙ sym (joins.associative (f lo) v rest (each lo) value rest-value) ∙ ap (λ x. join x rest) (joins.commutative (f lo) v)
        ∙ joins.associative v (f lo) rest value (each lo) rest-value ∙ ap (join v) (sym (over-suc f lo len each)))
        (cases_eq k lo)
      where
        rest : T
        rest = over f (lo + 1) len

        rest-value : IsValue (over f (lo + 1) len)
        rest-value = over-value f (lo + 1) len each

  module _ (owner : ℕ → ℕ) (items : ℕ → T) (nodes : ℕ) where
    -- all of these have a value and an owner
    abbrev pub AreDealt : List ℕ → Type 0
    AreDealt [] = Unit {0}
    AreDealt (t ∷ ts) = IsValue (items t) × (owner t < nodes) × AreDealt ts

    -- the items that a node owns among these, joined
    abbrev of_node : List ℕ → ℕ → T
    of_node ts p = fold join unit (map items (filter (λ t. owner t == p) ts))

    owned-values : (ts : List ℕ) (p : ℕ) → AreDealt ts → Values IsValue join unit joins (map items (filter (λ t. owner t == p) ts))
    owned-values [] p are = tt
    owned-values (t ∷ ts) p are = by_test (owner t == p) (owned-values ts p are.2)
      where
        by_test : (b : Bool) → Values IsValue join unit joins (map items (filter (λ s. owner s == p) ts))
            → Values IsValue join unit joins (map items (if b then t ∷ filter (λ s. owner s == p) ts else filter (λ s. owner s == p) ts))
        by_test true rest = (are.0, rest)
        by_test false rest = rest

    all-values : (ts : List ℕ) → AreDealt ts → Values IsValue join unit joins (map items ts)
    all-values [] are = tt
    all-values (t ∷ ts) are = (are.0, all-values ts are.2)

    node-value : (ts : List ℕ) → AreDealt ts → (p : ℕ) → IsValue (of_node ts p)
    node-value ts are p = folded-value IsValue join unit joins unit (map items (filter (λ t. owner t == p) ts)) joins.unit_in (owned-values ts p are)

    one-more : (t : ℕ) (ts : List ℕ) (p : ℕ) → IsValue (items t) → AreDealt ts → of_node (t ∷ ts) p ≡ (if owner t == p then join (items t) (of_node ts p) else of_node ts p)
    one-more t ts p value are = by_test (owner t == p)
      where
        by_test : (b : Bool) → fold join unit (map items (if b then t ∷ filter (λ s. owner s == p) ts else filter (λ s. owner s == p) ts))
            ≡ (if b then join (items t) (of_node ts p) else of_node ts p)
        by_test true = fold-cons IsValue join unit joins (items t) (map items (filter (λ s. owner s == p) ts)) value (owned-values ts p are)
        by_test false = refl

    pub over-owners : (ts : List ℕ) → AreDealt ts → over (of_node ts) 0 nodes ≡ fold join unit (map items ts)
    over-owners [] are = over-unit 0 nodes
    over-owners (t ∷ ts) are =
        ap (λ f. over f 0 nodes) (λ i p. one-more t ts p are.0 are.2 i)
        ∙ over-grown (of_node ts) (node-value ts are.2) (owner t) (items t) are.0 0 nodes (omega arith) (let h = are.1 in omega arith)
        ∙ ap (join (items t)) (over-owners ts are.2)
        ∙ sym (fold-cons IsValue join unit joins (items t) (map items ts) are.0 (all-values ts are.2))

    pub dealt-range : (lo len : ℕ) → ((t : ℕ) → t < lo + len → IsValue (items t)) → ((t : ℕ) → t < lo + len → owner t < nodes) → AreDealt (range_with_len lo len)
    dealt-range lo zero values owners = tt
    dealt-range lo (suc len) values owners =
        (values lo (omega arith), owners lo (omega arith), dealt-range (lo + 1) len (λ t lt. values t (omega arith)) (λ t lt. owners t (omega arith)))
