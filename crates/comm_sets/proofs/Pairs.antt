-- Pairs of nodes, one after the other, and by marks.
use Rattle.std.proofs.Common.{◌≡◌, ℕ, ◌+◌, ◌*◌, ◌<◌, ◌≤◌, ◌==◌, not, ◌&&◌, ◌||◌, Bool, false, List, [], ◌∷◌, ◌++◌, map, filter, get_or, replicate, refl, sym, ◌∙◌, ap, arith}
use Rattle.std.proofs.lemmas.List.{map-append}
use Rattle.std.proofs.lemmas.List.Elements.{filter-append}
use Rattle.std.proofs.lemmas.List.Concat.{flat_map-append}
use Rattle.std.specs.List.{flat_map, range_with_len}
use Rattle.hpf_base.proofs.Ranges.{range_with_len-add}
use Rattle.machine_steps.specs.Layout.{Layout}
use Rattle.machine_steps.specs.Message.{all_spots, has_any, remap_message}
use Rattle.letters.specs.declared.pair.Pair.{Pair}
use Rattle.comm_sets.specs.Marks.{Marked, any_moved, is_marked, is_marked_pair}
use Rattle.covering_rounds.specs.Moved.{is_moved}
use Rattle.covering_rounds.proofs.Pairs.{all-are-nodes, filter-agree, has_any-filter, pairs_from}
use Rattle.machine_steps.specs.Rounds.{all_pairs, moving_pairs, pair_of}
use Rattle.message_elements.proofs.AllSpots.{or_false}
use Rattle.comm_sets.proofs.Marking.{unmarked-pair}

-- ---- pairs one after the other

abbrev pub passing : (Pair → Bool) → ℕ → ℕ → List Pair
passing test from count = filter test (map (pair_of from) (range_with_len 0 count))

-- one target more
pub target-more : (test : Pair → Bool) (from to : ℕ) → passing test from (to + 1) ≡ passing test from to ++ filter test (pair_of from to ∷ [])
target-more test from to =
    let here : 0 + to ≡ to = omega arith in
    ap (λ ns. filter test (map (pair_of from) ns)) (range_with_len-add 0 to 1)
    ∙ ap (filter test) (map-append (pair_of from) (range_with_len 0 to) ((0 + to) ∷ []))
    ∙ filter-append test (map (pair_of from) (range_with_len 0 to)) (pair_of from (0 + to) ∷ [])
    ∙ ap (λ n. passing test from to ++ filter test (pair_of from n ∷ [])) here

-- one source more
pub source-more : (test : Pair → Bool) (nodes from : ℕ) → filter test (pairs_from nodes 0 (from + 1)) ≡ filter test (pairs_from nodes 0 from) ++ passing test from nodes
source-more test nodes from =
    let here : 0 + from ≡ from = omega arith in
    let row : ℕ → List Pair = λ source. map (pair_of source) (range_with_len 0 nodes) in
    ap (λ ns. filter test (flat_map row ns)) (range_with_len-add 0 from 1)
    ∙ ap (filter test) (flat_map-append row (range_with_len 0 from) ((0 + from) ∷ []))
    ∙ filter-append test (pairs_from nodes 0 from) (flat_map row ((0 + from) ∷ []))
    ∙ ap (λ n. filter test (pairs_from nodes 0 from) ++ filter test (flat_map row (n ∷ []))) here
    ∙ ap (λ ps. filter test (pairs_from nodes 0 from) ++ filter test ps) (unit (row from))
  where
    unit : (ps : List Pair) → ps ++ [] ≡ ps
    unit [] = refl
    unit (p ∷ ps) = ap (λ rest. p ∷ rest) (unit ps)

-- ---- marks of all elements

-- they are those of the pairs with a message
pub marked-moving : (nodes : ℕ) (old new : List Layout) (before after : List Bool) → nodes ≤ 64 → before ≡ replicate (nodes * 64) false
    → Marked nodes before after (any_moved nodes old new (all_spots old)) → filter (is_marked_pair after) (all_pairs nodes) ≡ moving_pairs nodes old new
marked-moving nodes old new before after few none marked =
    filter-agree (is_marked_pair after) (λ pair. not (pair.from.0 == pair.to.0) && has_any (remap_message nodes old new pair.from.0 pair.to.0)) (all_pairs nodes)
    (λ i d inside.
    let pair = get_or (all_pairs nodes) i d in
    let are = all-are-nodes nodes i d inside in
    ap (λ b. not (pair.from.0 == pair.to.0) && b) (at pair.from.0 pair.to.0 are.0 are.1))
  where
    at : (from to : ℕ) → from < nodes → to < nodes → is_marked after from to ≡ has_any (remap_message nodes old new from to)
    at from to lt lt' =
        marked.marks from to lt lt'
        ∙ ap (λ b. any_moved nodes old new (all_spots old) from to || b) (ap (λ marks. is_marked marks from to) none ∙ unmarked-pair nodes from to few lt lt')
        ∙ or_false (any_moved nodes old new (all_spots old) from to)
        ∙ sym (has_any-filter (is_moved nodes old new from to) (all_spots old))
