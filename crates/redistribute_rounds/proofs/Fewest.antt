-- No legal rounds are fewer than the pairs from one node, or to one: the numbers of the rounds are colours of their pairs.
use Rattle.std.proofs.Common.{◌≡◌, ◌≢◌, ℕ, suc, ◌+◌, ◌<◌, ◌≤◌, ◌==◌, cond, Bool, List, [], ◌∷◌, ◌++◌, length, map, filter, zip, max, refl, sym, ◌∙◌, ap, subst, arith}
use Rattle.std.proofs.lemmas.List.{map-append}
use Rattle.std.proofs.lemmas.List.Elements.{All-append, All-head, All-map, All-nil, All-tail}
use Rattle.std.proofs.lemmas.List.Kept.{AllPairs-cons}
use Rattle.std.proofs.lemmas.List.Sorted.{IsPermutation-map, sum_by-IsPermutation}
use Rattle.std.proofs.lemmas.List.Sums.{length-filter}
use Rattle.std.specs.List.{All, AllPairs, flat_map}
use Rattle.std.specs.List.Sorted.{IsPermutation}
use Rattle.letters.specs.declared.pair.Pair.{Pair}
use Rattle.round_color.specs.Coloring.{degree, greatest_of}
use Rattle.round_color.specs.Proper.{IsColoring}
use Rattle.round_color.specs.Table.{ends}
use Rattle.round_color.proofs.Fewest.{degree-few}
use Rattle.round_color.proofs.Members.{length-mapped}
use Rattle.redistribute_rounds.specs.Rounds.{AreLegal}

-- ---- the pairs of rounds with the numbers of these

abbrev Numbered : Type 0
Numbered = (ℕ × ℕ) × ℕ

abbrev edge_of : Numbered → ℕ × ℕ
edge_of one = one.0

abbrev number_of : Numbered → ℕ
number_of one = one.1

abbrev numbered : ℕ → Pair → Numbered
numbered n pair = (ends pair, n)

-- of rounds that have the numbers from one on
abbrev all_numbered : ℕ → List (List Pair) → List Numbered
all_numbered lo [] = []
all_numbered lo (round ∷ rounds) = map (numbered lo) round ++ all_numbered (suc lo) rounds

edges-numbered : (n : ℕ) (round : List Pair) → map edge_of (map (numbered n) round) ≡ map ends round
edges-numbered n [] = refl
edges-numbered n (pair ∷ round) = ap (λ edges. ends pair ∷ edges) (edges-numbered n round)

edges-all : (lo : ℕ) (rounds : List (List Pair)) → map edge_of (all_numbered lo rounds) ≡ map ends (flat_map (λ round. round) rounds)
edges-all lo [] = refl
edges-all lo (round ∷ rounds) =
    map-append edge_of (map (numbered lo) round) (all_numbered (suc lo) rounds)
    ∙ (λ i. edges-numbered lo round i ++ edges-all (suc lo) rounds i)
    ∙ sym (map-append ends round (flat_map (λ round. round) rounds))

numbers-within : (lo : ℕ) (rounds : List (List Pair)) → All (λ one. (lo ≤ one.1) × (one.1 < lo + length rounds)) (all_numbered lo rounds)
numbers-within lo [] = All-nil (λ one. (lo ≤ one.1) × (one.1 < lo + 0))
numbers-within lo (round ∷ rounds) =
    let Within : Numbered → Type 0 = λ one. (lo ≤ one.1) × (one.1 < lo + suc (length rounds)) in
    All-append Within (map (numbered lo) round) (all_numbered (suc lo) rounds)
    (All-map Within (numbered lo) round (λ k d inside. (omega arith, omega arith)))
    (λ k d inside. let r = numbers-within (suc lo) rounds k d inside in let from = r.0 in let upto = r.1 in (omega arith, omega arith))

-- ---- they are colours

abbrev Apart : Numbered → Numbered → Type 0
Apart one other = one.1 ≡ other.1 → (one.0.0 ≢ other.0.0) × (one.0.1 ≢ other.0.1)

-- of one round more
round-apart : (n : ℕ) (round : List Pair) (rest : List Numbered) → AllPairs (λ one other. one.from.0 ≢ other.from.0) round
    → AllPairs (λ one other. one.to.0 ≢ other.to.0) round → All (λ one. n < one.1) rest → AllPairs Apart rest → AllPairs Apart (map (numbered n) round ++ rest)
round-apart n [] rest sent taken later apart = apart
round-apart n (pair ∷ round) rest sent taken later apart =
    AllPairs-cons Apart (numbered n pair) (map (numbered n) round ++ rest)
    (All-append (Apart (numbered n pair)) (map (numbered n) round) rest
    (All-map (Apart (numbered n pair)) (numbered n) round (λ k d inside same. (sent 0 (suc k) d (omega arith) (omega arith), taken 0 (suc k) d (omega arith) (omega arith))))
    (λ k d inside same. let after = later k d inside in absurd (omega (arith, after, same))))
    (round-apart n round rest (λ i j d less below. sent (suc i) (suc j) d (omega arith) (omega arith)) (λ i j d less below. taken (suc i) (suc j) d (omega arith) (omega arith))
    later apart)

all-apart : (lo : ℕ) (rounds : List (List Pair)) → All (AllPairs (λ one other. one.from.0 ≢ other.from.0)) rounds
    → All (AllPairs (λ one other. one.to.0 ≢ other.to.0)) rounds → AllPairs Apart (all_numbered lo rounds)
all-apart lo [] sent taken = λ i j d less below. absurd (omega arith)
all-apart lo (round ∷ rounds) sent taken =
    let Sent : List Pair → Type 0 = AllPairs (λ one other. one.from.0 ≢ other.from.0) in
    let Taken : List Pair → Type 0 = AllPairs (λ one other. one.to.0 ≢ other.to.0) in
    round-apart lo round (all_numbered (suc lo) rounds) (All-head Sent round rounds sent) (All-head Taken round rounds taken)
    (λ k d inside. let r = numbers-within (suc lo) rounds k d inside in let from = r.0 in omega arith)
    (all-apart (suc lo) rounds (All-tail Sent round rounds sent) (All-tail Taken round rounds taken))

zip-of : (all : List Numbered) → zip (map edge_of all) (map number_of all) ≡ all
zip-of [] = refl
zip-of (one ∷ all) = ap (λ rest. one ∷ rest) (zip-of all)

are-colors : (rounds : List (List Pair)) → All (AllPairs (λ one other. one.from.0 ≢ other.from.0)) rounds
    → All (AllPairs (λ one other. one.to.0 ≢ other.to.0)) rounds
    → IsColoring (map edge_of (all_numbered 0 rounds)) (length rounds) (map number_of (all_numbered 0 rounds))
are-colors rounds sent taken =
    let all = all_numbered 0 rounds in
    record {
      one_each = length-mapped number_of all ∙ sym (length-mapped edge_of all);
      below = All-map (λ n. n < length rounds) number_of all
          (λ k d inside. let r = numbers-within 0 rounds k d inside in let upto = r.1 in omega arith);
      apart = subst (AllPairs Apart) (sym (zip-of all)) (all-apart 0 rounds sent taken);
    }

-- ---- the order of edges is all one

filtered-many : (test : ℕ × ℕ → Bool) (edges others : List (ℕ × ℕ)) → IsPermutation edges others → length (filter test others) ≡ length (filter test edges)
filtered-many test edges others same =
    length-filter test others ∙ sum_by-IsPermutation (λ edge. cond (test edge) 1 0) edges others same ∙ sym (length-filter test edges)

same-degree : (nodes : ℕ) (edges others : List (ℕ × ℕ)) → IsPermutation edges others → degree nodes others ≡ degree nodes edges
same-degree nodes edges others same = λ i. greatest_of
    (λ node. max (filtered-many (λ edge. edge.0 == node) edges others same i) (filtered-many (λ edge. edge.1 == node) edges others same i)) 0 nodes

pub none-fewer : (nodes : ℕ) (pairs : List Pair) (rounds : List (List Pair)) → AreLegal pairs rounds → degree nodes (map ends pairs) ≤ length rounds
none-fewer nodes pairs rounds legal =
    let together = flat_map (λ round. round) rounds in
    let few = degree-few nodes (length rounds) (map edge_of (all_numbered 0 rounds)) (map number_of (all_numbered 0 rounds)) (are-colors rounds legal.one_sent legal.one_taken) in
    let same : degree nodes (map edge_of (all_numbered 0 rounds)) ≡ degree nodes (map ends pairs) =
    ap (degree nodes) (edges-all 0 rounds) ∙ same-degree nodes (map ends pairs) (map ends together) (IsPermutation-map ends pairs together legal.each_once) in
    omega arith
