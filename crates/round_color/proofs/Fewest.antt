-- No colouring has fewer colours than the greatest number of edges from one node or to one node.
use Rattle.std.proofs.Common.{◌≡◌, ◌≢◌, ℕ, zero, suc, ◌+◌, ◌<◌, ◌≤◌, ◌==◌, inl, inr, Bool, true, false, if◌then◌else◌, List, [], ◌∷◌, length, map, filter, zip, get_or, refl, sym, ◌∙◌, ap, arith, eqb-true}
use Rattle.std.proofs.lemmas.List.Kept.{AllPairs-filter}
use Rattle.std.proofs.lemmas.List.FromFn.{length-range_with_len}
use Rattle.std.specs.List.{All, AllPairs, range_with_len}
use Rattle.round_color.specs.Proper.{IsColoring}
use Rattle.round_color.specs.Coloring.{load, greatest_of, degree}
use Rattle.round_color.proofs.Members.{In, in-contains, in-filter, in-range, all-in, length-mapped, AreDistinct, shorter}

-- ---- an edge with its colour

abbrev Colored : Type 0
Colored = (ℕ × ℕ) × ℕ

color-in : (es : List (ℕ × ℕ)) (cs : List ℕ) (p : Colored) → In p (zip es cs) → In p.1 cs
color-in [] cs p h = absurd h
color-in (e ∷ es) [] p h = absurd h
color-in (e ∷ es) (c ∷ cs) p (inl same) = inl (ap (λ q. q.1) same)
color-in (e ∷ es) (c ∷ cs) p (inr h) = inr (color-in es cs p h)

filter-zip : (test : ℕ × ℕ → Bool) (es : List (ℕ × ℕ)) (cs : List ℕ) → length cs ≡ length es
    → length (filter (λ (p : Colored). test p.0) (zip es cs)) ≡ length (filter test es)
filter-zip test [] cs same = refl
filter-zip test (e ∷ es) [] same = absurd (omega arith)
filter-zip test (e ∷ es) (c ∷ cs) same = by_test (test e) (filter-zip test es cs (omega arith))
  where
    by_test : (b : Bool) → length (filter (λ (p : Colored). test p.0) (zip es cs)) ≡ length (filter test es)
        → length (if b then (e, c) ∷ filter (λ (p : Colored). test p.0) (zip es cs) else filter (λ (p : Colored). test p.0) (zip es cs))
        ≡ length (if b then e ∷ filter test es else filter test es)
    by_test true ih = ap suc ih
    by_test false ih = ih

mapped-in : (c : ℕ) (ps : List Colored) → In c (map (λ p. p.1) ps) → (p : Colored) × In p ps × (c ≡ p.1)
mapped-in c [] h = absurd h
mapped-in c (p ∷ ps) (inl same) = (p, inl refl, same)
mapped-in c (p ∷ ps) (inr h) = let r = mapped-in c ps h in (r.0, inr r.1, r.2)

-- ---- the edges at an end

module _ (end_of : ℕ × ℕ → ℕ) (x : ℕ) where
  row-distinct : (ps : List Colored) → AllPairs (λ one other. one.1 ≡ other.1 → end_of one.0 ≢ end_of other.0) ps → ((p : Colored) → In p ps → end_of p.0 ≡ x)
      → AreDistinct (map (λ p. p.1) ps)
  row-distinct [] apart at = tt
  row-distinct (p ∷ ps) apart at = (
    λ is.
        let q = mapped-in p.1 ps is in
        let r = in-contains q.0 ps q.1 in
        let below = r.1 in
        let one : p.1 ≡ (get_or ps r.0 q.0).1 = q.2 ∙ ap (λ o. o.1) (sym r.2) in
        apart 0 (suc r.0) q.0 (omega arith) (omega arith) one (at p (inl refl) ∙ sym (at q.0 (inr q.1)) ∙ ap (λ o. end_of o.0) (sym r.2)),
    row-distinct ps (λ i j d less below. apart (suc i) (suc j) d (omega arith) (omega arith)) (λ o is. at o (inr is)),
  )

  -- they have colours that are all different
  row-few : (limit : ℕ) (es : List (ℕ × ℕ)) (cs : List ℕ) → length cs ≡ length es → All (λ c. c < limit) cs
      → AllPairs (λ one other. one.1 ≡ other.1 → end_of one.0 ≢ end_of other.0) (zip es cs) → length (filter (λ e. end_of e == x) es) ≤ limit
  row-few limit es cs one_each below apart =
      let test : Colored → Bool = λ p. end_of p.0 == x in
      let row = filter test (zip es cs) in
      let row-apart = AllPairs-filter (λ one other. one.1 ≡ other.1 → end_of one.0 ≢ end_of other.0) test (zip es cs) apart in
      let distinct = row-distinct row row-apart (λ p is. eqb-true (end_of p.0) x (in-filter test p (zip es cs) is).1) in
      let few = shorter (map (λ (p : Colored). p.1) row) (range_with_len 0 limit) distinct (λ c is.
      let q = mapped-in c row is in
      let colored = in-filter test q.0 (zip es cs) q.1 in
      let fits = all-in (λ k. k < limit) (q.0).1 cs below (color-in es cs q.0 colored.0) in
      let same = q.2 in
      in-range 0 limit c (omega arith) (omega arith)) in
      let size = length-mapped (λ (p : Colored). p.1) row in
      let count = length-range_with_len 0 limit in
      let edges = filter-zip (λ e. end_of e == x) es cs one_each in
      omega arith

-- ---- all nodes

greatest-few : (value : ℕ → ℕ) (limit lo len : ℕ) → ((k : ℕ) → value k ≤ limit) → greatest_of value lo len ≤ limit
greatest-few value limit lo zero few = omega arith
greatest-few value limit lo (suc len) few =
    let here = few lo in
    let later = greatest-few value limit (lo + 1) len few in
    omega arith

pub degree-few : (nodes limit : ℕ) (edges : List (ℕ × ℕ)) (colors : List ℕ) → IsColoring edges limit colors → degree nodes edges ≤ limit
degree-few nodes limit edges colors h =
    greatest-few (load edges) limit 0 nodes (λ x.
    let from = row-few (λ e. e.0) x limit edges colors h.one_each h.below (λ i j d less below same. (h.apart i j d less below same).0) in
    let to = row-few (λ e. e.1) x limit edges colors h.one_each h.below (λ i j d less below same. (h.apart i j d less below same).1) in
    omega arith)
