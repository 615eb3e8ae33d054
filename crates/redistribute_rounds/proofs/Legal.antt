-- The pairs of each colour are a legal round.
use Rattle.std.proofs.Common.{◌≡◌, ◌≢◌, ℕ, zero, suc, ◌+◌, ◌<◌, ◌≤◌, ◌==◌, Bool, true, false, if◌then◌else◌, List, [], ◌∷◌, ◌++◌, length, map, filter, zip, get_or, refl, sym, ◌∙◌, ap, subst, arith, ⊎_elim, eq-eqb, eqb-true}
use Rattle.std.proofs.lemmas.Bool.{ne_eqb, cases_eq}
use Rattle.std.proofs.lemmas.List.{get_or-map}
use Rattle.std.proofs.lemmas.List.Elements.{All-nil, All-cons, All-head, All-tail, All-map}
use Rattle.std.proofs.lemmas.List.Kept.{AllPairs-filter}
use Rattle.std.proofs.lemmas.List.Sorted.{IsPermutation-refl, IsPermutation-cons, IsPermutation-append_right, IsPermutation-middle, IsPermutation-sym, IsPermutation-trans}
use Rattle.std.specs.List.{All, AllPairs, flat_map, range_with_len}
use Rattle.std.specs.List.Sorted.{IsPermutation}
use Rattle.letters.specs.declared.pair.Pair.{Pair}
use Rattle.round_color.specs.Coloring.{coloring, degree}
use Rattle.round_color.specs.Proper.{IsEdge}
use Rattle.round_color.specs.Table.{ends}
use Rattle.round_color.proofs.Members.{length-mapped}
use Rattle.round_color.proofs.Results.{is-coloring, edges-between, edges-distinct}
use Rattle.machine_steps.specs.Rounds.{color_of, color_rounds}
use Rattle.redistribute_rounds.specs.Rounds.{IsBetween, AreLegal}

-- ---- rounds by any numbers of pairs

module _ (number : Pair → ℕ) where
  abbrev of_number : List Pair → ℕ → List Pair
  of_number pairs n = filter (λ pair. number pair == n) pairs

  -- all pairs of the rounds from one on
  abbrev joined : List Pair → ℕ → ℕ → List Pair
  joined pairs lo len = flat_map (λ round. round) (map (of_number pairs) (range_with_len lo len))

  none-joined : (lo len : ℕ) → joined [] lo len ≡ []
  none-joined lo zero = refl
  none-joined lo (suc len) = none-joined (lo + 1) len

  -- one pair more
  module _ (pair : Pair) (pairs : List Pair) where
    other-round : (n : ℕ) → (number pair ≡ n → ⊥) → of_number (pair ∷ pairs) n ≡ of_number pairs n
    other-round n ne = rw (ne_eqb (number pair) n ne) refl

    later : (lo len : ℕ) → number pair < lo → joined (pair ∷ pairs) lo len ≡ joined pairs lo len
    later lo zero lt = refl
    later lo (suc len) lt = λ i. other-round lo (λ e. absurd (omega arith)) i ++ later (lo + 1) len (omega arith) i

    inserted : (lo len : ℕ) → lo ≤ number pair → number pair < lo + len → IsPermutation (pair ∷ joined pairs lo len) (joined (pair ∷ pairs) lo len)
    inserted lo zero ge lt = absurd (omega arith)
    inserted lo (suc len) ge lt = ⊎_elim
        (λ (e : number pair ≡ lo).
        let this : of_number (pair ∷ pairs) lo ≡ pair ∷ of_number pairs lo = rw (eq-eqb (number pair) lo e) refl in
        let same : joined (pair ∷ pairs) lo (suc len) ≡ pair ∷ joined pairs lo (suc len) = λ i. this i ++ later (lo + 1) len (omega arith) i in
        subst (IsPermutation (pair ∷ joined pairs lo (suc len))) (sym same) (IsPermutation-refl (pair ∷ joined pairs lo (suc len))))
        (λ (ne : number pair ≡ lo → ⊥).
        let front = of_number pairs lo in
        let rest = joined pairs (lo + 1) len in
        let more = joined (pair ∷ pairs) (lo + 1) len in
        let after : IsPermutation (front ++ (pair ∷ rest)) (front ++ more) =
        IsPermutation-append_right front (pair ∷ rest) more (inserted (lo + 1) len (omega (arith, ne)) (omega arith)) in
        let whole : front ++ more ≡ joined (pair ∷ pairs) lo (suc len) = ap (λ ps. ps ++ more) (sym (other-round lo ne)) in
        subst (IsPermutation (pair ∷ (front ++ rest))) whole
        (IsPermutation-trans (pair ∷ (front ++ rest)) (front ++ (pair ∷ rest)) (front ++ more)
        (IsPermutation-sym (front ++ (pair ∷ rest)) (pair ∷ (front ++ rest)) (IsPermutation-middle front pair rest)) after))
        (cases_eq (number pair) lo)

  all-joined : (count : ℕ) (pairs : List Pair) → All (λ pair. number pair < count) pairs → IsPermutation pairs (joined pairs 0 count)
  all-joined count [] below = subst (IsPermutation []) (sym (none-joined 0 count)) (IsPermutation-refl [])
  all-joined count (pair ∷ pairs) below =
      let this = All-head (λ p. number p < count) pair pairs below in
      IsPermutation-trans (pair ∷ pairs) (pair ∷ joined pairs 0 count) (joined (pair ∷ pairs) 0 count)
      (IsPermutation-cons pair pairs (joined pairs 0 count) (all-joined count pairs (All-tail (λ p. number p < count) pair pairs below)))
      (inserted pair pairs 0 count (omega arith) (omega arith))

  in-round : (pairs : List Pair) (n : ℕ) → All (λ pair. number pair ≡ n) (of_number pairs n)
  in-round [] n = All-nil (λ pair. number pair ≡ n)
  in-round (pair ∷ pairs) n = by_test (number pair == n) refl (in-round pairs n)
    where
      by_test : (b : Bool) → (number pair == n) ≡ b → All (λ p. number p ≡ n) (of_number pairs n)
          → All (λ p. number p ≡ n) (if b then pair ∷ of_number pairs n else of_number pairs n)
      by_test true e rest = All-cons (λ p. number p ≡ n) pair (of_number pairs n) (eqb-true (number pair) n e) rest
      by_test false e rest = rest

  -- they are legal where two pairs with one number share no end
  legal : (count : ℕ) (pairs : List Pair) → All (λ pair. number pair < count) pairs
      → AllPairs (λ one other. number one ≡ number other → (one.from.0 ≢ other.from.0) × (one.to.0 ≢ other.to.0)) pairs
      → AreLegal pairs (map (of_number pairs) (range_with_len 0 count))
  legal count pairs below apart =
      let numbers = range_with_len 0 count in
      let kept = λ (n : ℕ). AllPairs-filter (λ one other. number one ≡ number other → (one.from.0 ≢ other.from.0) × (one.to.0 ≢ other.to.0)) (λ pair. number pair == n) pairs apart in
      let same = λ (n i j : ℕ) (d : Pair) (less : i < j) (inside : j < length (of_number pairs n)).
      in-round pairs n i d (omega arith) ∙ sym (in-round pairs n j d inside) in
      record {
        each_once = all-joined count pairs below;
        one_sent = All-map (AllPairs (λ one other. one.from.0 ≢ other.from.0)) (of_number pairs) numbers
            (λ k e inside i j d less below. let n = get_or numbers k e in (kept n i j d less below (same n i j d less below)).0);
        one_taken = All-map (AllPairs (λ one other. one.to.0 ≢ other.to.0)) (of_number pairs) numbers
            (λ k e inside i j d less below. let n = get_or numbers k e in (kept n i j d less below (same n i j d less below)).1);
      }

-- ---- colours as numbers

pub colors-listed : (nodes : ℕ) (pairs : List Pair) → coloring nodes (map ends pairs) ≡ map (color_of nodes pairs) pairs
colors-listed nodes pairs = listed pairs
  where
    listed : (left : List Pair) → map (λ edge. color_of nodes pairs (record { from = record { 0 = edge.0 }; to = record { 0 = edge.1 } })) (map ends left) ≡ map (color_of nodes pairs) left
    listed [] = refl
    listed (pair ∷ left) = ap (λ colors. color_of nodes pairs pair ∷ colors) (listed left)

zip-mapped : {X Y Z : Type 0} (f : X → Y) (g : X → Z) (xs : List X) → zip (map f xs) (map g xs) ≡ map (λ x. (f x, g x)) xs
zip-mapped f g [] = refl
zip-mapped f g (x ∷ xs) = ap (λ rest. (f x, g x) ∷ rest) (zip-mapped f g xs)

All-mapped : {X Y : Type 0} (P : Y → Type 0) (f : X → Y) (xs : List X) → All P (map f xs) → All (λ x. P (f x)) xs
All-mapped P f [] h = All-nil (λ x. P (f x))
All-mapped P f (x ∷ xs) h = All-cons (λ x. P (f x)) x xs (All-head P (f x) (map f xs) h) (All-mapped P f xs (All-tail P (f x) (map f xs) h))

AllPairs-mapped : {X Y : Type 0} (R : Y → Y → Type 0) (f : X → Y) (xs : List X) → AllPairs R (map f xs) → AllPairs (λ one other. R (f one) (f other)) xs
AllPairs-mapped R f xs h i j d less below =
    let size = length-mapped f xs in
    subst (λ one. R one (f (get_or xs j d))) (get_or-map f xs i d (f d) (omega arith))
    (subst (R (get_or (map f xs) i (f d))) (get_or-map f xs j d (f d) below) (h i j (f d) less (omega arith)))

pub pairs-between : (nodes : ℕ) (pairs : List Pair) → All (IsBetween nodes) pairs → All (λ pair. IsEdge nodes (ends pair)) pairs
pairs-between nodes pairs between i d inside = let b = between i d inside in record { from = b.from; to = b.to }

pub colors-legal : (nodes : ℕ) (pairs : List Pair) → All (IsBetween nodes) pairs → AllPairs (λ one other. one ≢ other) pairs → AreLegal pairs (color_rounds nodes pairs)
colors-legal nodes pairs between distinct =
    let edges = map ends pairs in
    let color : Pair → ℕ = color_of nodes pairs in
    let Apart : (ℕ × ℕ) × ℕ → (ℕ × ℕ) × ℕ → Type 0 = λ one other. one.1 ≡ other.1 → (one.0.0 ≢ other.0.0) × (one.0.1 ≢ other.0.1) in
    let h = is-coloring nodes edges (edges-between nodes pairs (pairs-between nodes pairs between)) (edges-distinct pairs distinct) in
    let listed : coloring nodes edges ≡ map color pairs = colors-listed nodes pairs in
    legal color (degree nodes edges) pairs
    (All-mapped (λ c. c < degree nodes edges) color pairs (subst (λ (colors : List ℕ). All (λ c. c < degree nodes edges) colors) listed h.below))
    (AllPairs-mapped Apart (λ pair. (ends pair, color pair)) pairs
    (subst (AllPairs Apart) (ap (zip edges) listed ∙ zip-mapped ends color pairs) h.apart))
