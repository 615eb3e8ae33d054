-- The colours of the edges as a list; how many edges a node has at most; and edges as pairs.
use Rattle.std.proofs.Common.{inl, inr, true, ◌≡◌, ◌≢◌, ℕ, suc, ◌<◌, ◌≤◌, ◌==◌, List, [], ◌∷◌, length, map, filter, get_or, zip, Option, Some, None, refl, sym, ap, subst, arith, eq-eqb, eqb-true}
use Rattle.std.proofs.lemmas.List.{get_or-map}
use Rattle.std.proofs.lemmas.List.Elements.{All-head, All-tail, All-nil, All-cons}
use Rattle.std.proofs.lemmas.List.FromFn.{length-range_with_len}
use Rattle.std.specs.List.{All, AllPairs, range_with_len}
use Rattle.std.specs.Option.{is_some, unwrap_or}
use Rattle.letters.specs.declared.pair.Pair.{Pair}
use Rattle.round_color.specs.Table.{ends}
use Rattle.round_color.specs.Proper.{IsEdge, IsColoring}
use Rattle.round_color.specs.Coloring.{is_color, sends, takes, degree, colored, coloring}
use Rattle.round_color.proofs.Members.{true-false, In, in-map, in-get, in-filter, in-range, length-mapped, AreDistinct, apart-at, filter-distinct, shorter, all-in}
use Rattle.round_color.proofs.Whole.{all-done}

-- ---- how many edges a node has at most

module _ (nodes : ℕ) (edges : List (ℕ × ℕ)) (between : All (IsEdge nodes) edges) (distinct : AreDistinct edges) where
  -- a node sends to each node once at most
  pub sends-few : (x : ℕ) → sends edges x ≤ nodes
  sends-few x =
      let all : List (ℕ × ℕ) = map (λ (q : ℕ). (x, q)) (range_with_len 0 nodes) in
      let h : length (filter (λ e. e.0 == x) edges) ≤ length all = shorter (filter (λ e. e.0 == x) edges) all (filter-distinct (λ e. e.0 == x) edges distinct) (λ e is.
      let r = in-filter (λ o. o.0 == x) e edges is in
      let b = all-in (IsEdge nodes) e edges between r.0 in
      let to = b.to in
      let from = b.from in
      let same : (e.0, e.1) ≡ (x, e.1) = λ i. (eqb-true e.0 x r.1 i, e.1) in
      subst (λ o. In o all) (sym same) (in-map (λ (q : ℕ). (x, q)) e.1 (range_with_len 0 nodes) (in-range 0 nodes e.1 (omega arith) (omega arith)))) in
      let size : length all ≡ length (range_with_len 0 nodes) = length-mapped (λ (q : ℕ). (x, q)) (range_with_len 0 nodes) in
      let count = length-range_with_len 0 nodes in
      omega arith

  pub takes-few : (y : ℕ) → takes edges y ≤ nodes
  takes-few y =
      let all : List (ℕ × ℕ) = map (λ (p : ℕ). (p, y)) (range_with_len 0 nodes) in
      let h : length (filter (λ e. e.1 == y) edges) ≤ length all = shorter (filter (λ e. e.1 == y) edges) all (filter-distinct (λ e. e.1 == y) edges distinct) (λ e is.
      let r = in-filter (λ o. o.1 == y) e edges is in
      let b = all-in (IsEdge nodes) e edges between r.0 in
      let to = b.to in
      let from = b.from in
      let same : (e.0, e.1) ≡ (e.0, y) = λ i. (e.0, eqb-true e.1 y r.1 i) in
      subst (λ o. In o all) (sym same) (in-map (λ (p : ℕ). (p, y)) e.0 (range_with_len 0 nodes) (in-range 0 nodes e.0 (omega arith) (omega arith)))) in
      let size : length all ≡ length (range_with_len 0 nodes) = length-mapped (λ (p : ℕ). (p, y)) (range_with_len 0 nodes) in
      let count = length-range_with_len 0 nodes in
      omega arith

-- ---- the colours

pub is_color-unwrapped : (v : Option ℕ) → is_some v ≡ true → is_color (unwrap_or v 0) v ≡ true
is_color-unwrapped None h = absurd (true-false (sym h))
is_color-unwrapped (Some c) h = eq-eqb c c refl

all-below : (d : ℕ) (C : ℕ × ℕ → ℕ) (es : List (ℕ × ℕ)) → ((e : ℕ × ℕ) → In e es → C e < d) → All (λ c. c < d) (map C es)
all-below d C [] h = All-nil (λ c. c < d)
all-below d C (e ∷ es) h = All-cons (λ c. c < d) (C e) (map C es) (h e (inl refl)) (all-below d C es (λ o is. h o (inr is)))

abbrev with_color : (ℕ × ℕ → ℕ) → ℕ × ℕ → (ℕ × ℕ) × ℕ
with_color C e = (e, C e)

zip-map : (C : ℕ × ℕ → ℕ) (es : List (ℕ × ℕ)) → zip es (map C es) ≡ map (with_color C) es
zip-map C [] = refl
zip-map C (e ∷ es) = ap (λ l. with_color C e ∷ l) (zip-map C es)

abbrev AreApart : (ℕ × ℕ) × ℕ → (ℕ × ℕ) × ℕ → Type 0
AreApart one other = one.1 ≡ other.1 → (one.0.0 ≢ other.0.0) × (one.0.1 ≢ other.0.1)

pairs-map : (R : (ℕ × ℕ) × ℕ → (ℕ × ℕ) × ℕ → Type 0) (g : ℕ × ℕ → (ℕ × ℕ) × ℕ) (es : List (ℕ × ℕ))
    → AllPairs (λ one other. R (g one) (g other)) es → AllPairs R (map g es)
pairs-map R g es h i j d less below =
    let size = length-mapped g es in
    let one : get_or (map g es) i d ≡ g (get_or es i (0, 0)) = get_or-map g es i (0, 0) d (omega arith) in
    let other : get_or (map g es) j d ≡ g (get_or es j (0, 0)) = get_or-map g es j (0, 0) d (omega arith) in
    subst (λ e. R e (get_or (map g es) j d)) (sym one) (subst (λ o. R (g (get_or es i (0, 0))) o) (sym other) (h i j (0, 0) less (omega arith)))

pub is-coloring : (nodes : ℕ) (edges : List (ℕ × ℕ)) → All (IsEdge nodes) edges → AreDistinct edges → IsColoring edges (degree nodes edges) (coloring nodes edges)
is-coloring nodes edges between distinct =
    let F = colored nodes edges in
    let C : ℕ × ℕ → ℕ = λ e. unwrap_or (F e.0 e.1) 0 in
    let h = all-done nodes edges between distinct in
    let has : (e : ℕ × ℕ) → In e edges → is_color (C e) (F e.0 e.1) ≡ true = λ e is. is_color-unwrapped (F e.0 e.1) (h.all e.0 e.1 is) in
    record {
      one_each = length-mapped C edges;
      below = all-below (degree nodes edges) C edges (λ e is. h.below e.0 e.1 (C e) (has e is));
      apart = subst (AllPairs AreApart) (sym (zip-map C edges)) (pairs-map AreApart (with_color C) edges (λ i j d less below same.
          let e = get_or edges i d in
          let o = get_or edges j d in
          let e-has = has e (in-get edges d i (omega arith)) in
          let o-has : is_color (C e) (F o.0 o.1) ≡ true = subst (λ c. is_color c (F o.0 o.1) ≡ true) (sym same) (has o (in-get edges d j below)) in (
            λ from.
                let at : is_color (C e) (F e.0 o.1) ≡ true = subst (λ x. is_color (C e) (F x o.1) ≡ true) (sym from) o-has in
                let to : e.1 ≡ o.1 = h.proper.one_target e.0 e.1 o.1 (C e) e-has at in
                apart-at edges d i j distinct less below (λ k. (from k, to k)),
            λ to.
                let at : is_color (C e) (F o.0 e.1) ≡ true = subst (λ y. is_color (C e) (F o.0 y) ≡ true) (sym to) o-has in
                let from : e.0 ≡ o.0 = h.proper.one_source e.1 e.0 o.0 (C e) e-has at in
                apart-at edges d i j distinct less below (λ k. (from k, to k)),
          )));
    }

-- ---- edges as pairs

edge-at : (e : Pair) (es : List Pair) → In (ends e) (map ends es) → (j : ℕ) × (j < length es) × (e ≡ get_or es j e)
edge-at e [] h = absurd h
edge-at e (o ∷ es) (inl same) = (0, omega arith, λ i. record { from = record { 0 = (same i).0 }; to = record { 0 = (same i).1 } })
edge-at e (o ∷ es) (inr h) = let r = edge-at e es h in let below = r.1 in (suc r.0, omega arith, r.2)

pub edges-distinct : (es : List Pair) → AllPairs (λ one other. one ≢ other) es → AreDistinct (map ends es)
edges-distinct [] h = tt
edges-distinct (e ∷ es) h = (
  λ is. let r = edge-at e es is in let below = r.1 in h 0 (suc r.0) e (omega arith) (omega arith) r.2,
  edges-distinct es (λ i j d less below. h (suc i) (suc j) d (omega arith) (omega arith)),
)

pub edges-between : (nodes : ℕ) (es : List Pair) → All (λ edge. IsEdge nodes (ends edge)) es → All (IsEdge nodes) (map ends es)
edges-between nodes [] h = All-nil (IsEdge nodes)
edges-between nodes (e ∷ es) h =
    All-cons (IsEdge nodes) (ends e) (map ends es) (All-head (λ edge. IsEdge nodes (ends edge)) e es h)
    (edges-between nodes es (All-tail (λ edge. IsEdge nodes (ends edge)) e es h))
