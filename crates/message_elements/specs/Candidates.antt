-- Of a promise.
-- Tuples at which a node exchanges something, where nothing is exchanged at others.
use Rattle.std.specs.Prelude.{◌≡◌, ℕ, ◌<◌, ◌==◌, ◌&&◌, All, Bool, List, filter, true}
use Rattle.std.specs.List.{list_any, range_with_len}
use Rattle.storage.specs.Storage.{Spot}
use Rattle.machine_steps.specs.Layout.{Layout}
use Rattle.machine_steps.specs.Message.{Part, names_spot}
use Rattle.message_elements.specs.Elements.{is_sent}
use Rattle.message_elements.specs.declared.candidates.Candidates.{Candidates}

-- the target computes the tuple, the element is read there, and the source sends it
abbrev pub is_sent_at : ℕ → List Layout → Part → (tuple from to : ℕ) → Spot → Bool
is_sent_at nodes layouts part t from to spot = (part.computes to t && names_spot (part.reads t) spot) && is_sent nodes layouts from to spot

-- what a node takes at a tuple from another, and what it sends there to another
abbrev pub takes_at : ℕ → List Layout → Part → (node tuple other : ℕ) → Spot → Bool
takes_at nodes layouts part node t other spot = is_sent_at nodes layouts part t other node spot

abbrev pub sends_at : ℕ → List Layout → Part → (node tuple other : ℕ) → Spot → Bool
sends_at nodes layouts part node t other spot = is_sent_at nodes layouts part t node other spot

-- the tuple is one of the list
abbrev pub is_visited : List ℕ → (tuple : ℕ) → Bool
is_visited visited t = list_any (λ v. v == t) visited

-- the list has tuples alone, and each tuple at which an element is exchanged with another node, by a test of the tuple, the node and the element
pub record IsVisited (nodes tuples : ℕ) (test : (tuple other : ℕ) → Spot → Bool) (visited : List ℕ) : Type 0 where
  pub below : All (λ t. t < tuples) visited
  pub every : (t other : ℕ) (spot : Spot) → t < tuples → other < nodes → test t other spot ≡ true → is_visited visited t ≡ true

-- the tuples that the node computes, ascending; of these the ones at which it takes something are among some, and the tuples at which it sends something among others
pub record AreCandidates (nodes : ℕ) (layouts : List Layout) (part : Part) (id : ℕ) (v : Candidates) : Type 0 where
  pub computed : v.computed ≡ filter (part.computes id) (range_with_len 0 part.tuples)
  pub own : All (λ t. part.computes id t ≡ true) v.taking.items
  pub taking : IsVisited nodes part.tuples (takes_at nodes layouts part id) v.taking.items
  pub sending : IsVisited nodes part.tuples (sends_at nodes layouts part id) v.sending.items
