-- Of a promise.
-- What a colouring of edges is, and what an exchange of colours leaves of it.
use Rattle.std.specs.Prelude.{◌≡◌, ◌≢◌, ℕ, ◌<◌, true, false, List, length, zip, All, AllPairs, Contains, is_some}
use Rattle.round_color.specs.Coloring.{Colors, is_color, turned}

-- ---- lists of colours

-- both ends of an edge are among so many nodes
pub record IsEdge (nodes : ℕ) (edge : ℕ × ℕ) : Type 0 where
  pub from : edge.0 < nodes
  pub to : edge.1 < nodes

-- a colour below the limit for each edge; and two edges with one colour share neither source nor target
pub record IsColoring (edges : List (ℕ × ℕ)) (limit : ℕ) (colors : List ℕ) : Type 0 where
  pub one_each : length colors ≡ length edges
  pub below : All (λ color. color < limit) colors
  pub apart : AllPairs (λ one other. one.1 ≡ other.1 → (one.0.0 ≢ other.0.0) × (one.0.1 ≢ other.0.1)) (zip edges colors)

-- ---- colourings of ends

-- no edge at the end has that colour
abbrev pub IsFree : Colors → (node color : ℕ) → Type 0
IsFree colors node color = (other : ℕ) → is_color color (colors node other) ≡ false

-- two edges of one colour share no end
pub record IsProper (colors : Colors) : Type 0 where
  pub one_target : (source one other color : ℕ) → is_color color (colors source one) ≡ true → is_color color (colors source other) ≡ true → one ≡ other
  pub one_source : (target one other color : ℕ) → is_color color (colors one target) ≡ true → is_color color (colors other target) ≡ true → one ≡ other

-- only edges between so many nodes have a colour
abbrev pub IsWithin : (nodes : ℕ) → Colors → Type 0
IsWithin nodes colors = (source target : ℕ) → is_some (colors source target) ≡ true → IsEdge nodes (source, target)

-- only the listed edges have a colour
abbrev pub IsListed : List (ℕ × ℕ) → Colors → Type 0
IsListed edges colors = (source target : ℕ) → is_some (colors source target) ≡ true → Contains edges (source, target)

-- all colours are below the limit
abbrev pub IsBelow : (limit : ℕ) → Colors → Type 0
IsBelow limit colors = (source target color : ℕ) → is_color color (colors source target) ≡ true → color < limit

-- what is left where a path from an end with these two colours has them exchanged
pub record IsExchanged (before after : Colors) (node one other : ℕ) : Type 0 where
  -- still no two edges of one colour share an end
  pub proper : IsProper after
  -- the first colour is free where the path begins
  pub freed : IsFree after node one
  -- on the other side an end where the first colour was free keeps its free colours
  pub across : (opposite color : ℕ) → IsFree (turned before) opposite one → IsFree (turned before) opposite color → IsFree (turned after) opposite color
  -- on this side any other end where the second colour was free keeps its free colours
  pub beside : (neighbour color : ℕ) → neighbour ≢ node → IsFree before neighbour other → IsFree before neighbour color → IsFree after neighbour color
  -- the same edges have a colour
  pub same_edges : (source target : ℕ) → is_some (after source target) ≡ is_some (before source target)
  -- no colour is new
  pub below : (limit : ℕ) → one < limit → other < limit → IsBelow limit before → IsBelow limit after

-- just the listed edges have a colour, below the limit, and two edges of one colour share no end
pub record IsColored (limit : ℕ) (edges : List (ℕ × ℕ)) (colors : Colors) : Type 0 where
  pub proper : IsProper colors
  pub below : IsBelow limit colors
  pub listed : IsListed edges colors
  pub all : (source target : ℕ) → Contains edges (source, target) → is_some (colors source target) ≡ true
