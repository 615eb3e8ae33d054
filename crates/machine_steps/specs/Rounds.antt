-- Of the claim.
-- The rounds of a redistribution (HPF 2.0, 8.3).
use Rattle.std.specs.Prelude.{ℕ, ◌==◌, ◌&&◌, not, Bool, List, [], length, map, filter, slice_index_or, unwrap_or}
use Rattle.std.specs.List.{flat_map, list_any, range_with_len}
use Rattle.letters.specs.declared.pair.Pair.{Pair}
use Rattle.round_color.specs.Coloring.{colored, degree}
use Rattle.round_color.specs.Table.{ends}
use Rattle.machine_steps.specs.Instr.{Remapping, Rounds}
use Rattle.machine_steps.specs.Layout.{Layout}
use Rattle.machine_steps.specs.Machine.{remapped}
use Rattle.machine_steps.specs.Message.{has_any, remap_message}

-- ---- rounds by colours

-- the colour of a pair among these: no two of one colour have the same source or the same target
abbrev pub color_of : ℕ → List Pair → Pair → ℕ
color_of nodes pairs pair = unwrap_or (colored nodes (map ends pairs) pair.from.0 pair.to.0) 0

-- the pairs of one colour, as given
abbrev pub color_round : ℕ → List Pair → ℕ → List Pair
color_round nodes pairs color = filter (λ pair. color_of nodes pairs pair == color) pairs

-- a round for each colour, in ascending order: as many as the busiest node sends or takes
abbrev pub color_rounds : ℕ → List Pair → List (List Pair)
color_rounds nodes pairs = map (color_round nodes pairs) (range_with_len 0 (degree nodes (map ends pairs)))

-- ---- the rounds of the pairs with a message

abbrev pub pair_of : (from to : ℕ) → Pair
pair_of from to = record { from = record { 0 = from }; to = record { 0 = to } }

abbrev pub is_pair : (from to : ℕ) → Pair → Bool
is_pair from to pair = (pair.from.0 == from) && (pair.to.0 == to)

-- all ordered pairs of so many nodes, by the first and then by the second
abbrev pub all_pairs : ℕ → List Pair
all_pairs nodes = flat_map (λ from. map (pair_of from) (range_with_len 0 nodes)) (range_with_len 0 nodes)

-- those of two nodes of which the first has a message for the second
abbrev pub moving_pairs : ℕ → (old new : List Layout) → List Pair
moving_pairs nodes old new =
    filter (λ pair. not (pair.from.0 == pair.to.0) && has_any (remap_message nodes old new pair.from.0 pair.to.0)) (all_pairs nodes)

-- they go in the rounds of their colours
abbrev pub remap_rounds : ℕ → (old new : List Layout) → List (List Pair)
remap_rounds nodes old new = color_rounds nodes (moving_pairs nodes old new)

-- the rounds in which arrays get new mappings on so many nodes
abbrev pub rounds_on : ℕ → List Remapping → Rounds
rounds_on nodes new = record {
  many = λ layouts. length (remap_rounds nodes layouts (remapped new layouts));
  in_round = λ layouts k from to. list_any (is_pair from to) (slice_index_or (remap_rounds nodes layouts (remapped new layouts)) k []);
}
