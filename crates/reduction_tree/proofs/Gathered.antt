-- What the nodes have after the rounds of a tree.
use Rattle.std.proofs.Common.{◌≡◌, ℕ, zero, suc, ◌+◌, ◌-◌, ◌*◌, ◌/◌, ◌%◌, ◌^◌, ◌<◌, ◌≤◌, ◌⊎◌, inl, inr, Bool, true, false, nat_lt, List, [], ◌∷◌, ◌++◌, map, min, refl, sym, ◌∙◌, ap, subst, arith, ⊎_elim}
use Rattle.std.proofs.lemmas.Bool.{cases_lt, lt-ltb, le-ltb}
use Rattle.std.proofs.lemmas.List.{map-append}
use Rattle.std.proofs.lemmas.List.Sums.{fold-append}
use Rattle.std.proofs.Math.Nat.{pow-suc}
use Rattle.std.specs.List.{fold, range_with_len}
use Rattle.hpf_base.proofs.Ranges.{range_with_len-add}
use Rattle.op_tables.specs.Joins.{IsJoin}
use Rattle.reduction_tree.specs.declared.tree.TreeAct.{TreeAct}
use Rattle.reduction_tree.specs.declared.tree.TreeAct.TheVariants.{Idle, Send, Take}
use Rattle.reduction_tree.specs.Tree.{levels, up_act, exchanged, act_of, after_act, after_rounds}
use Rattle.reduction_tree.proofs.Acts.{whole, times-mod, twice-divides, half-or-none, half-below, sends-up, takes-up, idle-up, Within, act-within}
use Rattle.reduction_tree.proofs.RoundsUp.{power-some, levels_enough}

below-none : (m p : ℕ) → p < m → p % m ≡ 0 → p ≡ 0
below-none m p lt h = let e = whole m p h in by_times (p / m) e
  where
    by_times : (c : ℕ) → p ≡ c * m → p ≡ 0
    by_times zero e = e ∙ omega arith
    by_times (suc c) e = absurd (omega (arith, e))

-- whose items a node has
module _ {T : Type 0} (nodes : ℕ) (items : ℕ → T) where
  -- the items of each node alone, put together round by round
  abbrev pub gathered : ℕ → ℕ → List T
  gathered k p = after_rounds ◌++◌ nodes (λ q. items q ∷ []) k p

  -- those of so many nodes from one on, as far as there are nodes
  abbrev part : ℕ → ℕ → List T
  part lo len = map items (range_with_len lo (min len (nodes - lo)))

  part-add : (lo b : ℕ) → lo + b ≤ nodes → part lo (b + b) ≡ part lo b ++ part (lo + b) b
  part-add lo b le =
      let all : min (b + b) (nodes - lo) ≡ b + min b (nodes - (lo + b)) = omega arith in
      let first : min b (nodes - lo) ≡ b = omega arith in
      rw (all, first, range_with_len-add lo b (min b (nodes - (lo + b)))) (map-append items (range_with_len lo b) (range_with_len (lo + b) (min b (nodes - (lo + b)))))

  part-past : (lo b : ℕ) → nodes ≤ lo + b → part lo (b + b) ≡ part lo b
  part-past lo b ge = let e : min (b + b) (nodes - lo) ≡ min b (nodes - lo) = omega arith in rw e refl

  -- going up, a node that takes has the items of all nodes up to the next that takes
  up : (k p : ℕ) → k ≤ levels nodes → p < nodes → p % 2 ^ k ≡ 0 → gathered k p ≡ part p (2 ^ k)
  up zero p le lt h = let e : min 1 (nodes - p) ≡ 1 = omega arith in rw e refl
  up (suc k) p le lt h =
      let some = power-some k in
      let none : p % (2 ^ k * 2) ≡ 0 = subst (λ m. p % m ≡ 0) (pow-suc 2 k) h in
      let width : 2 ^ suc k ≡ 2 ^ k + 2 ^ k = pow-suc 2 k ∙ omega arith in
      let here : gathered k p ≡ part p (2 ^ k) = up k p (omega arith) lt (twice-divides (2 ^ k) p some none) in
      let going : nat_lt k (levels nodes) ≡ true = lt-ltb k (levels nodes) (omega arith) in
      let e = whole (2 ^ k) p (twice-divides (2 ^ k) p some none) in
      let next : (p + 2 ^ k) % 2 ^ k ≡ 0 = times-mod (2 ^ k) (p / 2 ^ k + 1) (p + 2 ^ k) (omega (arith, e)) in
      rw (going, width) (by_place none here (λ in'. up k (p + 2 ^ k) (omega arith) in' next) (cases_lt (p + 2 ^ k) nodes))
    where
      by_place : p % (2 ^ k * 2) ≡ 0 → gathered k p ≡ part p (2 ^ k) → (p + 2 ^ k < nodes → gathered k (p + 2 ^ k) ≡ part (p + 2 ^ k) (2 ^ k))
          → (p + 2 ^ k < nodes) ⊎ (nodes ≤ p + 2 ^ k)
          → after_act ◌++◌ true (gathered k) p (up_act nodes k p) ≡ part p (2 ^ k + 2 ^ k)
      by_place none here there (inl in') =
          ap (after_act ◌++◌ true (gathered k) p) (takes-up nodes k p none in') ∙ ap (λ xs. xs ++ gathered k (p + 2 ^ k)) here ∙ ap (λ xs. part p (2 ^ k) ++ xs) (there in')
          ∙ sym (part-add p (2 ^ k) (omega arith))
      by_place none here there (inr past) =
          ap (after_act ◌++◌ true (gathered k) p) (idle-up nodes k p none (le-ltb (p + 2 ^ k) nodes past)) ∙ here ∙ sym (part-past p (2 ^ k) past)

  pub all-up : (p : ℕ) → p < nodes → p % 2 ^ levels nodes ≡ 0 → gathered (levels nodes) p ≡ map items (range_with_len 0 nodes)
  all-up p lt h =
      let enough = levels_enough nodes in
      let none : p ≡ 0 = below-none (2 ^ levels nodes) p (omega arith) h in
      let all : min (2 ^ levels nodes) (nodes - 0) ≡ nodes = omega arith in
      up (levels nodes) p (omega arith) lt h ∙ ap (λ q. part q (2 ^ levels nodes)) none ∙ ap (λ n. map items (range_with_len 0 n)) all

  -- going down, every node that has passed its turn has the items of all nodes
  down : (i p : ℕ) → i ≤ levels nodes → p < nodes → p % 2 ^ (levels nodes - i) ≡ 0 → gathered (levels nodes + i) p ≡ map items (range_with_len 0 nodes)
  down zero p le lt h =
      let el : levels nodes - 0 ≡ levels nodes = omega arith in
      let ek : levels nodes + 0 ≡ levels nodes = omega arith in
      rw ek (all-up p lt (subst (λ l. p % 2 ^ l ≡ 0) el h))
  down (suc i) p le lt h =
      let ek : levels nodes + suc i ≡ suc (levels nodes + i) = omega arith in
      let ej : 2 * levels nodes - 1 - (levels nodes + i) ≡ levels nodes - suc i = omega arith in
      let es : levels nodes - i ≡ suc (levels nodes - suc i) = omega arith in
      let past : nat_lt (levels nodes + i) (levels nodes) ≡ false = le-ltb (levels nodes + i) (levels nodes) (omega arith) in
      let room : nat_lt (levels nodes + i) (2 * levels nodes) ≡ true = lt-ltb (levels nodes + i) (2 * levels nodes) (omega arith) in
      let width : 2 ^ (levels nodes - i) ≡ 2 ^ (levels nodes - suc i) * 2 = ap (λ x. 2 ^ x) es ∙ pow-suc 2 (levels nodes - suc i) in
      rw (ek, past, room, ej) (by_half (levels nodes - suc i) h width (λ q in' z. down i q (omega arith) in' z))
    where
      by_half : (r : ℕ) → p % 2 ^ r ≡ 0 → 2 ^ (levels nodes - i) ≡ 2 ^ r * 2
          → ((q : ℕ) → q < nodes → q % 2 ^ (levels nodes - i) ≡ 0 → gathered (levels nodes + i) q ≡ map items (range_with_len 0 nodes))
          → after_act ◌++◌ false (gathered (levels nodes + i)) p (exchanged (up_act nodes r p)) ≡ map items (range_with_len 0 nodes)
      by_half r none width ih = ⊎_elim
          (λ (z : p % (2 ^ r * 2) ≡ 0).
          let has : gathered (levels nodes + i) p ≡ map items (range_with_len 0 nodes) = ih p lt (subst (λ m. p % m ≡ 0) (sym width) z) in
          ⊎_elim
          (λ (in' : p + 2 ^ r < nodes).
          ap (λ act. after_act ◌++◌ false (gathered (levels nodes + i)) p (exchanged act)) (takes-up nodes r p z in') ∙ has)
          (λ (past : nodes ≤ p + 2 ^ r).
          ap (λ act. after_act ◌++◌ false (gathered (levels nodes + i)) p (exchanged act)) (idle-up nodes r p z (le-ltb (p + 2 ^ r) nodes past)) ∙ has)
          (cases_lt (p + 2 ^ r) nodes))
          (λ (o : p % (2 ^ r * 2) ≡ 2 ^ r).
          ap (λ act. after_act ◌++◌ false (gathered (levels nodes + i)) p (exchanged act)) (sends-up nodes r p o)
          ∙ ih (p - 2 ^ r) (omega arith) (subst (λ m. (p - 2 ^ r) % m ≡ 0) (sym width) (half-below (2 ^ r) p (power-some r) o)))
          (half-or-none (2 ^ r) p (power-some r) none)

  pub all-down : (p : ℕ) → p < nodes → gathered (2 * levels nodes) p ≡ map items (range_with_len 0 nodes)
  all-down p lt =
      let e : 2 * levels nodes ≡ levels nodes + levels nodes = omega arith in
      let z : levels nodes - levels nodes ≡ 0 = omega arith in
      rw e (down (levels nodes) p (omega arith) lt (rw z (omega arith)))

-- what is joined is the items joined from the left
module _ {T : Type 0} (IsValue : T → Type 0) (join : T → T → T) (unit : T) (joins : IsJoin IsValue join unit) where
  abbrev pub Values : List T → Type 0
  Values [] = Unit {0}
  Values (x ∷ xs) = IsValue x × Values xs

  values-append : (xs ys : List T) → Values xs → Values ys → Values (xs ++ ys)
  values-append [] ys f g = g
  values-append (x ∷ xs) ys f g = (f.0, values-append xs ys f.1 g)

  pub unit-left : (x : T) → IsValue x → join unit x ≡ x
  unit-left x f = joins.commutative unit x ∙ joins.neutral x f

  pub folded-value : (a : T) (xs : List T) → IsValue a → Values xs → IsValue (fold join a xs)
  folded-value a [] f g = f
  folded-value a (x ∷ xs) f g = folded-value (join a x) xs (joins.closed a x f g.0) g.1

  -- a value before a list
  pub fold-from : (a : T) (xs : List T) → IsValue a → Values xs → fold join a xs ≡ join a (fold join unit xs)
  fold-from a [] f g = sym (joins.neutral a f)
  fold-from a (x ∷ xs) f g =
      let rest : fold join unit (x ∷ xs) ≡ join x (fold join unit xs) = ap (λ y. fold join y xs) (unit-left x g.0) ∙ fold-from x xs g.0 g.1 in
      fold-from (join a x) xs (joins.closed a x f g.0) g.1 ∙ joins.associative a x (fold join unit xs) f g.0 (folded-value unit xs joins.unit_in g.1) ∙ ap (join a) (sym rest)

  pub fold-cons : (x : T) (xs : List T) → IsValue x → Values xs → fold join unit (x ∷ xs) ≡ join x (fold join unit xs)
  fold-cons x xs f g = ap (λ y. fold join y xs) (unit-left x f) ∙ fold-from x xs f g

  pub fold-both : (xs ys : List T) → Values xs → Values ys → fold join unit (xs ++ ys) ≡ join (fold join unit xs) (fold join unit ys)
  fold-both xs ys f g = fold-append join unit xs ys ∙ fold-from (fold join unit xs) ys (folded-value unit xs joins.unit_in f) g

  module _ (nodes : ℕ) (items : ℕ → T) (each : (p : ℕ) → p < nodes → IsValue (items p)) where
    -- a node has its items joined
    pub record Has (k p : ℕ) : Type 0 where
      pub values : Values (gathered nodes items k p)
      pub folded : after_rounds join nodes items k p ≡ fold join unit (gathered nodes items k p)

    pub has : (k p : ℕ) → p < nodes → Has k p
    has zero p lt = record { values = (each p lt, tt); folded = sym (unit-left (items p) (each p lt)) }
    has (suc k) p lt =
        let both = by_act (act_of nodes k p) (act-within nodes k p lt) (nat_lt k (levels nodes)) (has k p lt) (λ q. has k q) in
        record { values = both.0; folded = both.1 }
      where
        by_act : (act : TreeAct) → Within nodes act → (up : Bool) → Has k p → ((q : ℕ) → q < nodes → Has k q)
            → (vs : Values (after_act ◌++◌ up (gathered nodes items k) p act))
            × (after_act join up (after_rounds join nodes items k) p act ≡ fold join unit (after_act ◌++◌ up (gathered nodes items k) p act))
        by_act Idle in' up own each' = (own.values, own.folded)
        by_act (Send q) in' up own each' = (own.values, own.folded)
        by_act (Take q) in' true own each' =
            let other = each' q.0 in' in (
              values-append (gathered nodes items k p) (gathered nodes items k q.0) own.values other.values,
              (λ i. join (own.folded i) (other.folded i)) ∙ sym (fold-both (gathered nodes items k p) (gathered nodes items k q.0) own.values other.values),
            )
        by_act (Take q) in' false own each' = let other = each' q.0 in' in (other.values, other.folded)

    pub folded-up : 0 < nodes → after_rounds join nodes items (levels nodes) 0 ≡ fold join unit (map items (range_with_len 0 nodes))
    folded-up some = (has (levels nodes) 0 some).folded ∙ ap (fold join unit) (all-up nodes items 0 some (times-mod (2 ^ levels nodes) 0 0 (omega arith)))

    pub folded-down : (p : ℕ) → p < nodes → after_rounds join nodes items (2 * levels nodes) p ≡ fold join unit (map items (range_with_len 0 nodes))
    folded-down p lt = (has (2 * levels nodes) p lt).folded ∙ ap (fold join unit) (all-down nodes items p lt)
