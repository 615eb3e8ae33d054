-- What the nodes have after the rounds of a prefix scan.
use Rattle.std.proofs.Common.{◌≡◌, ℕ, zero, suc, ◌+◌, ◌-◌, ◌^◌, ◌<◌, ◌≤◌, ◌⊎◌, inl, inr, map, Some, None, refl, sym, ◌∙◌, ap, arith}
use Rattle.std.proofs.lemmas.Bool.{cases_lt, lt-ltb, le-ltb}
use Rattle.std.proofs.lemmas.List.{map-append}
use Rattle.std.proofs.Math.Nat.{pow-suc}
use Rattle.std.specs.List.{fold, range_with_len}
use Rattle.hpf_base.proofs.Ranges.{range_with_len-add}
use Rattle.op_tables.specs.Joins.{IsJoin}
use Rattle.reduction_tree.specs.Tree.{levels, node_id}
use Rattle.reduction_tree.proofs.RoundsUp.{power-some, levels_enough}
use Rattle.reduction_tree.proofs.Gathered.{Values, unit-left, fold-both}
use Rattle.prefix_scan.specs.Scan.{take_of, joined_before, scanned, taken}

pub takes : (r p : ℕ) → 2 ^ r ≤ p → take_of r p ≡ Some (node_id (p - 2 ^ r))
takes r p le = rw (le-ltb p (2 ^ r) le) refl

takes-none : (r p : ℕ) → p < 2 ^ r → take_of r p ≡ None
takes-none r p lt = rw (lt-ltb p (2 ^ r) lt) refl

module _ {T : Type 0} (IsValue : T → Type 0) (join : T → T → T) (unit : T) (joins : IsJoin IsValue join unit)
    (nodes : ℕ) (items : ℕ → T) (each : (p : ℕ) → p < nodes → IsValue (items p)) where
  -- the items of so many nodes from one on, joined
  abbrev over : ℕ → ℕ → T
  over lo len = fold join unit (map items (range_with_len lo len))

  range-values : (lo len : ℕ) → lo + len ≤ nodes → Values IsValue join unit joins (map items (range_with_len lo len))
  range-values lo zero le = tt
  range-values lo (suc len) le = (each lo (omega arith), range-values (lo + 1) len (omega arith))

  over-add : (lo a b : ℕ) → lo + a + b ≤ nodes → over lo (a + b) ≡ join (over lo a) (over (lo + a) b)
  over-add lo a b le =
      rw (range_with_len-add lo a b) (ap (fold join unit) (map-append items (range_with_len lo a) (range_with_len (lo + a) b))
      ∙ fold-both IsValue join unit joins (map items (range_with_len lo a)) (map items (range_with_len (lo + a) b))
      (range-values lo a (omega arith)) (range-values (lo + a) b le))

  over-one : (p : ℕ) → p < nodes → over p 1 ≡ items p
  over-one p lt = unit-left IsValue join unit joins (items p) (each p lt)

  over-joined : (lo mid end : ℕ) → lo ≤ mid → mid ≤ end → end ≤ nodes → join (over lo (mid - lo)) (over mid (end - mid)) ≡ over lo (end - lo)
  over-joined lo mid end le le' in' =
      let both : mid - lo + (end - mid) ≡ end - lo = omega arith in
      let at : lo + (mid - lo) ≡ mid = omega arith in
      ap (λ m. join (over lo (mid - lo)) (over m (end - mid))) (sym at) ∙ sym (over-add lo (mid - lo) (end - mid) (omega arith)) ∙ ap (over lo) both

  -- the first node whose item a node has after so many rounds
  abbrev first : ℕ → ℕ → ℕ
  first k p = p + 1 - 2 ^ k

  record Has (k p : ℕ) : Type 0 where
    pub upto : scanned join items k p ≡ over (first k p) (p + 1 - first k p)
    pub below : taken join unit items k p ≡ over (first k p) (p - first k p)

  has : (k p : ℕ) → p < nodes → Has k p
  has zero p lt =
      let at : p + 1 - 1 ≡ p = omega arith in
      let one : p + 1 - p ≡ 1 = omega arith in
      let none : p - p ≡ 0 = omega arith in
      record { upto = rw (at, one) (sym (over-one p lt)); below = rw (at, none) refl }
  has (suc k) p lt =
      let some = power-some k in
      let width : 2 ^ suc k ≡ 2 ^ k + 2 ^ k = pow-suc 2 k ∙ omega arith in
      by_place some width (has k p lt) (λ le. has k (p - 2 ^ k) (omega arith)) (cases_lt p (2 ^ k))
    where
      by_place : 0 < 2 ^ k → 2 ^ suc k ≡ 2 ^ k + 2 ^ k → Has k p → (2 ^ k ≤ p → Has k (p - 2 ^ k)) → (p < 2 ^ k) ⊎ (2 ^ k ≤ p) → Has (suc k) p
      by_place some width own other (inl lt') =
          let same : first k p ≡ first (suc k) p = omega (arith, width) in
          record {
            upto = ap (λ t. joined_before join (scanned join items k) t (scanned join items k p)) (takes-none k p lt') ∙ own.upto ∙ ap (λ f. over f (p + 1 - f)) same;
            below = ap (λ t. joined_before join (scanned join items k) t (taken join unit items k p)) (takes-none k p lt') ∙ own.below ∙ ap (λ f. over f (p - f)) same;
          }
      by_place some width own other (inr le) =
          let q = p - 2 ^ k in
          let start : first k q ≡ first (suc k) p = omega (arith, width) in
          let end : q + 1 ≡ first k p = omega arith in
          let before : first (suc k) p ≤ first k p = omega (arith, width) in
          let what : scanned join items k q ≡ over (first (suc k) p) (first k p - first (suc k) p) =
          (other le).upto ∙ ap (λ e. over (first k q) (e - first k q)) end ∙ ap (λ f. over f (first k p - f)) start in
          record {
            upto =
                ap (λ t. joined_before join (scanned join items k) t (scanned join items k p)) (takes k p le) ∙ (λ i. join (what i) (own.upto i))
                ∙ over-joined (first (suc k) p) (first k p) (p + 1) before (omega arith) (omega arith);
            below =
                ap (λ t. joined_before join (scanned join items k) t (taken join unit items k p)) (takes k p le) ∙ (λ i. join (what i) (own.below i))
                ∙ over-joined (first (suc k) p) (first k p) p before (omega arith) (omega arith);
          }

  -- after enough rounds the first is node 0
  from-first : (p : ℕ) → p < nodes → first (levels nodes) p ≡ 0
  from-first p lt = let enough = levels_enough nodes in omega arith

  pub upto-all : (p : ℕ) → p < nodes → scanned join items (levels nodes) p ≡ over 0 (p + 1)
  upto-all p lt = let e : p + 1 - 0 ≡ p + 1 = omega arith in (has (levels nodes) p lt).upto ∙ ap (λ f. over f (p + 1 - f)) (from-first p lt) ∙ ap (over 0) e

  pub below-all : (p : ℕ) → p < nodes → taken join unit items (levels nodes) p ≡ over 0 p
  below-all p lt = let e : p - 0 ≡ p = omega arith in (has (levels nodes) p lt).below ∙ ap (λ f. over f (p - f)) (from-first p lt) ∙ ap (over 0) e
