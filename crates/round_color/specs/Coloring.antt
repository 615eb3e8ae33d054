-- Of the claim.
-- The colours of the edges between nodes, by the method of D. König (1916).
--
-- An edge is the pair of the numbers of two nodes, its source and its target. A node as a source and the same node as a target are two different ends. Colours are numbers from 0,
-- and no two edges at one end are to have the same. All that is said of an end here is said of a source; of a target it is said by a colouring that is turned.
use Rattle.std.specs.Prelude.{ℕ, zero, suc, ◌+◌, ◌==◌, ◌&&◌, nat_lt, Bool, false, if◌then◌else◌, List, [], ◌∷◌, length, map, filter, max, Option, Some, None, unwrap_or}

-- ---- colourings

-- which colour the edge from a source to a target has, where it has one
abbrev pub Colors : Type 0
Colors = ℕ → ℕ → Option ℕ

-- no edge has a colour
abbrev pub no_colors : Colors
no_colors source target = None

-- sources and targets change places
abbrev pub turned : Colors → Colors
turned colors source target = colors target source

-- the edge from a source to a target gets a colour, or has none any more
abbrev pub put : Colors → (source target : ℕ) → Option ℕ → Colors
put colors source target color from to = if from == source && to == target then color else colors from to

-- an edge has that colour
abbrev pub is_color : ℕ → Option ℕ → Bool
is_color color None = false
is_color color (Some found) = found == color

-- ---- free colours

-- the first of so many numbers from lo on that passes; the number behind them where none does
abbrev pub first_passing : (ℕ → Bool) → (lo count : ℕ) → ℕ
first_passing test lo zero = lo
first_passing test lo (suc count) = if test lo then lo else first_passing test (lo + 1) count

-- the other end of the edge at an end that has that colour; the number of nodes where none has it
abbrev pub mate : (nodes : ℕ) → Colors → (node color : ℕ) → ℕ
mate nodes colors node color = first_passing (λ other. is_color color (colors node other)) 0 nodes

-- no edge at the end has that colour
abbrev pub is_free : (nodes : ℕ) → Colors → (node color : ℕ) → Bool
is_free nodes colors node color = mate nodes colors node color == nodes

-- the least colour below the limit that is free at an end; the limit where none is
abbrev pub free_at : (nodes limit : ℕ) → Colors → (node : ℕ) → ℕ
free_at nodes limit colors node = first_passing (is_free nodes colors node) 0 limit

-- the least colour below the limit that is free at a source and at a target; the limit where none is
abbrev pub free_at_both : (nodes limit : ℕ) → Colors → (source target : ℕ) → ℕ
free_at_both nodes limit colors source target = first_passing (λ color. is_free nodes colors source color && is_free nodes (turned colors) target color) 0 limit

-- ---- paths of two colours

-- one edge of a path gets the other colour, where `rest` exchanges the colours of what follows at its other end. Meanwhile the edge is out, so what follows doesn't come back to it
abbrev pub exchange_edge : (rest : Colors → Colors) → Colors → (node mate color : ℕ) → Colors
exchange_edge rest colors node mate color = put (turned (rest (turned (put colors node mate None)))) node mate (Some color)

-- the path of so many edges at most that begins at an end, and whose edges have the one colour, the other, the one and so on, has these two colours exchanged
abbrev pub exchange : (nodes steps : ℕ) → Colors → (node one other : ℕ) → Colors
exchange nodes zero colors node one other = colors
exchange nodes (suc steps) colors node one other =
    if nat_lt (mate nodes colors node one) nodes
    then exchange_edge (λ rest. exchange nodes steps rest (mate nodes colors node one) other one) colors node (mate nodes colors node one) other
    else colors

-- ---- the edges, one after the other

-- an edge where no colour is free at both its ends. A path leads from its target over edges of two colours in turn, first the least that is free at its source, then the
-- least that is free at its target. These are exchanged along it; then the first is free at both ends, and the edge gets it
abbrev pub color_by_exchange : (nodes steps limit : ℕ) → Colors → (source target : ℕ) → Colors
color_by_exchange nodes steps limit colors source target =
    put (turned (exchange nodes steps (turned colors) target (free_at nodes limit colors source) (free_at nodes limit (turned colors) target))) source target
    (Some (free_at nodes limit colors source))

-- one edge more
abbrev pub color_edge : (nodes steps limit : ℕ) → Colors → ℕ × ℕ → Colors
color_edge nodes steps limit colors edge =
    if nat_lt (free_at_both nodes limit colors edge.0 edge.1) limit
    then put colors edge.0 edge.1 (Some (free_at_both nodes limit colors edge.0 edge.1))
    else color_by_exchange nodes steps limit colors edge.0 edge.1

-- the edges in the order in which they are given
abbrev pub color_edges : (nodes steps limit : ℕ) → Colors → List (ℕ × ℕ) → Colors
color_edges nodes steps limit colors [] = colors
color_edges nodes steps limit colors (edge ∷ edges) = color_edges nodes steps limit (color_edge nodes steps limit colors edge) edges

-- ---- how many edges a node has

-- the edges from a node
abbrev pub sends : List (ℕ × ℕ) → ℕ → ℕ
sends edges node = length (filter (λ edge. edge.0 == node) edges)

-- the edges to a node
abbrev pub takes : List (ℕ × ℕ) → ℕ → ℕ
takes edges node = length (filter (λ edge. edge.1 == node) edges)

-- the greater of these numbers
abbrev pub load : List (ℕ × ℕ) → ℕ → ℕ
load edges node = max (sends edges node) (takes edges node)

-- the greatest value of so many numbers from lo on; 0 where there are none
abbrev pub greatest_of : (ℕ → ℕ) → (lo count : ℕ) → ℕ
greatest_of value lo zero = 0
greatest_of value lo (suc count) = max (value lo) (greatest_of value (lo + 1) count)

-- the greatest number of edges from one node or to one node
abbrev pub degree : (nodes : ℕ) → List (ℕ × ℕ) → ℕ
degree nodes edges = greatest_of (load edges) 0 nodes

-- the least node with that number
abbrev pub busiest_node : (nodes : ℕ) → List (ℕ × ℕ) → ℕ
busiest_node nodes edges = first_passing (λ node. load edges node == degree nodes edges) 0 nodes

-- ---- the colouring

-- the colours that all edges have in the end: those below the degree, with no path longer than there are edges
abbrev pub colored : (nodes : ℕ) → List (ℕ × ℕ) → Colors
colored nodes edges = color_edges nodes (length edges) (degree nodes edges) no_colors edges

-- the colour of each edge
abbrev pub coloring : (nodes : ℕ) → List (ℕ × ℕ) → List ℕ
coloring nodes edges = map (λ edge. unwrap_or (colored nodes edges edge.0 edge.1) 0) edges
