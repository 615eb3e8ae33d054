-- None of the rounds of the colours is empty: without the empty ones they would be fewer.
use Rattle.std.proofs.Common.{◌≡◌, ◌≢◌, ℕ, ◌≤◌, List, [], ◌∷◌, ◌++◌, length, map, filter, refl, sym, ap, subst, arith}
use Rattle.std.proofs.lemmas.List.Elements.{All-cons, All-filter, All-nil}
use Rattle.std.proofs.lemmas.List.FromFn.{length-map-range_with_len}
use Rattle.std.specs.List.{All, AllPairs, flat_map}
use Rattle.std.specs.List.Sorted.{IsPermutation}
use mathlib.Core.Bool.{true≢false}
use Rattle.letters.specs.declared.pair.Pair.{Pair}
use Rattle.round_color.specs.Coloring.{degree}
use Rattle.round_color.specs.Table.{ends}
use Rattle.machine_steps.specs.Message.{has_any}
use Rattle.machine_steps.specs.Rounds.{color_round, color_rounds}
use Rattle.redistribute_rounds.specs.Rounds.{IsBetween, AreLegal}
use Rattle.redistribute_rounds.proofs.Fewest.{none-fewer}
use Rattle.redistribute_rounds.proofs.Legal.{colors-legal}

without-empty : (rounds : List (List Pair)) → flat_map (λ round. round) (filter has_any rounds) ≡ flat_map (λ round. round) rounds
without-empty [] = refl
without-empty ([] ∷ rounds) = without-empty rounds
without-empty ((pair ∷ pairs) ∷ rounds) = ap (λ ps. (pair ∷ pairs) ++ ps) (without-empty rounds)

no-more : (rounds : List (List Pair)) → length (filter has_any rounds) ≤ length rounds
no-more [] = omega arith
no-more ([] ∷ rounds) = let ih = no-more rounds in omega arith
no-more ((pair ∷ pairs) ∷ rounds) = let ih = no-more rounds in omega arith

all-full : (rounds : List (List Pair)) → length rounds ≤ length (filter has_any rounds) → All (λ round. round ≢ []) rounds
all-full [] h = All-nil (λ round. round ≢ [])
all-full ([] ∷ rounds) h = let short = no-more rounds in absurd (omega arith)
all-full ((pair ∷ pairs) ∷ rounds) h =
    All-cons (λ round. round ≢ []) (pair ∷ pairs) rounds (λ e. true≢false (ap has_any e)) (all-full rounds (omega arith))

pub count-rounds : (nodes : ℕ) (pairs : List Pair) → length (color_rounds nodes pairs) ≡ degree nodes (map ends pairs)
count-rounds nodes pairs = length-map-range_with_len (color_round nodes pairs) 0 (degree nodes (map ends pairs))

pub colors-full : (nodes : ℕ) (pairs : List Pair) → All (IsBetween nodes) pairs → AllPairs (λ one other. one ≢ other) pairs → All (λ round. round ≢ []) (color_rounds nodes pairs)
colors-full nodes pairs between distinct =
    let rounds = color_rounds nodes pairs in
    let legal = colors-legal nodes pairs between distinct in
    let full : AreLegal pairs (filter has_any rounds) = record {
      each_once = subst (IsPermutation pairs) (sym (without-empty rounds)) legal.each_once;
      one_sent = All-filter has_any (AllPairs (λ one other. one.from.0 ≢ other.from.0)) rounds legal.one_sent;
      one_taken = All-filter has_any (AllPairs (λ one other. one.to.0 ≢ other.to.0)) rounds legal.one_taken;
    } in
    let least = none-fewer nodes pairs (filter has_any rounds) full in
    let count = count-rounds nodes pairs in
    all-full rounds (omega arith)
