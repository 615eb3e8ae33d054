-- The busiest node.
use Rattle.std.proofs.Common.{◌≡◌, ◌≢◌, ℕ, zero, suc, ◌+◌, ◌<◌, ◌≤◌, ◌==◌, ◌⊎◌, inl, inr, Bool, false, List, [], ◌∷◌, map, max, refl, sym, ◌∙◌, arith, eq-eqb, eqb-true}
use Rattle.std.proofs.lemmas.Bool.{cases_lt}
use Rattle.std.proofs.lemmas.List.Elements.{All-head}
use Rattle.std.specs.List.{All}
use mathlib.Core.Bool.{true≢false}
use Rattle.letters.specs.declared.pair.Pair.{Pair}
use Rattle.round_color.specs.Coloring.{load, greatest_of, degree, busiest_node}
use Rattle.round_color.specs.Table.{ends}
use Rattle.round_color.proofs.FirstPassing.{first_passing-bound, first_passing-passes, first_passing-before}
use Rattle.round_color.proofs.Whole.{greatest-bound}
use Rattle.redistribute_rounds.specs.Rounds.{IsBetween, IsBusiest}

-- some number has the greatest value
reached : (value : ℕ → ℕ) (lo len : ℕ) → 0 < len → (k : ℕ) × (lo ≤ k) × (k < lo + len) × (value k ≡ greatest_of value lo len)
reached value lo zero some = absurd (omega arith)
reached value lo (suc zero) some = let e : max (value lo) 0 ≡ value lo = omega arith in (lo, omega arith, omega arith, sym e)
reached value lo (suc (suc len)) some = by_order (reached value (lo + 1) (suc len) (omega arith)) (cases_lt (value lo) (greatest_of value (lo + 1) (suc len)))
  where
    by_order : (k : ℕ) × (lo + 1 ≤ k) × (k < lo + 1 + suc len) × (value k ≡ greatest_of value (lo + 1) (suc len))
        → (value lo < greatest_of value (lo + 1) (suc len)) ⊎ (greatest_of value (lo + 1) (suc len) ≤ value lo)
        → (k : ℕ) × (lo ≤ k) × (k < lo + suc (suc len)) × (value k ≡ max (value lo) (greatest_of value (lo + 1) (suc len)))
    by_order r (inl below) =
        let from = r.1 in
        let upto = r.2 in
        let m : max (value lo) (greatest_of value (lo + 1) (suc len)) ≡ greatest_of value (lo + 1) (suc len) = omega arith in
        (r.0, omega arith, omega arith, r.3 ∙ sym m)
    by_order r (inr above) =
        let m : max (value lo) (greatest_of value (lo + 1) (suc len)) ≡ value lo = omega arith in
        (lo, omega arith, omega arith, sym m)

pub is-busiest : (nodes : ℕ) (pairs : List Pair) → 0 < nodes → IsBusiest nodes pairs (busiest_node nodes (map ends pairs))
is-busiest nodes pairs some =
    let node = busiest_node nodes (map ends pairs) in
    let r = reached (load (map ends pairs)) 0 nodes some in
    let below = r.2 in
    let bound = first_passing-bound test 0 nodes in
    let found : node < nodes = by_order (cases_lt node nodes) (λ none. first_passing-before test 0 nodes r.0 (omega arith) (omega (arith, none, below))) in
    record {
      within = found;
      most = eqb-true (load (map ends pairs) node) (degree nodes (map ends pairs)) (first_passing-passes test 0 nodes (omega arith));
      least = λ other before.
          let fails = first_passing-before test 0 nodes other (omega arith) before in
          let upto = greatest-bound (load (map ends pairs)) 0 nodes other (omega arith) (omega arith) in
          let ne : load (map ends pairs) other ≡ degree nodes (map ends pairs) → ⊥ =
          λ e. true≢false (sym (eq-eqb (load (map ends pairs) other) (degree nodes (map ends pairs)) e) ∙ fails) in
          omega (arith, upto, ne);
    }
  where
    test : ℕ → Bool
    test node = load (map ends pairs) node == degree nodes (map ends pairs)

    by_order : (busiest_node nodes (map ends pairs) < nodes) ⊎ (nodes ≤ busiest_node nodes (map ends pairs))
        → (nodes ≤ busiest_node nodes (map ends pairs) → test (reached (load (map ends pairs)) 0 nodes some).0 ≡ false) → busiest_node nodes (map ends pairs) < nodes
    by_order (inl below) fails = below
    by_order (inr above) fails =
        let r = reached (load (map ends pairs)) 0 nodes some in
        absurd (true≢false (sym (eq-eqb (load (map ends pairs) r.0) (degree nodes (map ends pairs)) r.3) ∙ fails above))

pub some-nodes : (nodes : ℕ) (pairs : List Pair) → All (IsBetween nodes) pairs → pairs ≢ [] → 0 < nodes
some-nodes nodes [] between some = absurd (some refl)
some-nodes nodes (pair ∷ pairs) between some = let b = All-head (IsBetween nodes) pair pairs between in let from = b.from in omega arith
