-- Of a promise.
-- A station: one node with the ends of its queues, and what it has done.
use Rattle.std.specs.Prelude.{◌≡◌, ℕ, ◌<◌, ◌==◌, List, [], ◌∷◌, ◌++◌, length, map, Option, Some, None, if◌then◌else◌}
use Rattle.std.specs.List.{slice_get}
use Rattle.atomic_table.specs.Seated.{TableId}
use Rattle.node_law.specs.declared.act.Act.TheVariants.{Done}
use Rattle.node_law.specs.NodeSteps.{NodeSteps, Move, AreMovesOf, after_all, sent, taken}
use Rattle.letters.specs.declared.letter.Letter.{Letter}
use Rattle.pair_mailbox.specs.Rule.{IsNextLetter}
use Rattle.pair_mailbox.specs.Ends.{Outgoing, Incoming}
use Rattle.all_pairs.specs.Routes.{route}
use Rattle.all_pairs.specs.Rows.{out_queue, in_queue}
use Rattle.stations.specs.Lettered.{IsLettered}
use Rattle.stations.specs.declared.station.Kept.{Kept}

-- what contracts see of a station: its number, the node at its opening and now, its ends by the number of the other node, and the
-- letter that was made and isn't sent yet
pub record StationState (N : Type 0) : Type 0 where
  pub id : ℕ
  pub opening : N
  pub node : N
  pub outs : List Outgoing
  pub ins : List Incoming
  pub kept : Option Kept

-- what no step of a station changes: its number, its opening, and the queues of its ends
pub record Fixed (N : Type 0) : Type 0 where
  pub id : ℕ
  pub opening : N
  pub outs : List TableId
  pub ins : List TableId

abbrev pub fixed : {N : Type 0} → StationState N → Fixed N
fixed s = record { id = s.id; opening = s.opening; outs = map out_queue s.outs; ins = map in_queue s.ins }

-- the kept letter where it is for the node q
abbrev pub kept_at : ℕ → Option Kept → List Letter
kept_at q None = []
kept_at q (Some e) = if e.to == q then e.letter ∷ [] else []

-- the end to the node q: the letters that the moves made for q are those sent on it, followed by the kept one
pub record OutStands (id : ℕ) (moves : List (Move Letter)) (kept : Option Kept) (q : ℕ) (o : Outgoing) : Type 0 where
  pub route_is : o.route ≡ route id q
  pub made : sent q moves ≡ o.sent ++ kept_at q kept
  pub next : (e : Kept) → kept ≡ Some e → e.to ≡ q → IsNextLetter o.route (length o.sent) e.letter

-- the end from the node p: the moves took what was taken on it
pub record InStands (id : ℕ) (moves : List (Move Letter)) (p : ℕ) (i : Incoming) : Type 0 where
  pub route_is : i.route ≡ route p id
  pub took : taken p moves ≡ i.taken

module _ {N : Type 0} (S : NodeSteps N Letter) where
  -- The node is the one to which some moves lead from its opening. The letters that these took are those that its ends have
  -- taken, and the letters that they made for another node are those sent to it, followed by the kept one where that is for it
  pub record Stands (id : ℕ) (opening node : N) (outs : List Outgoing) (ins : List Incoming) (kept : Option Kept) : Type 0 where
    pub lettered : IsLettered S (length outs) id opening
    pub as_many : length ins ≡ length outs
    pub moves : List (Move Letter)
    pub are : AreMovesOf S opening moves
    pub leads : after_all S opening moves ≡ node
    pub outs_stand : (q : ℕ) (o : Outgoing) → slice_get outs q ≡ Some o → OutStands id moves kept q o
    pub ins_stand : (p : ℕ) (i : Incoming) → slice_get ins p ≡ Some i → InStands id moves p i
    pub kept_there : (e : Kept) → kept ≡ Some e → e.to < length outs

  -- the node is Done and no letter is kept
  abbrev pub HasEnded : StationState N → Type 0
  HasEnded s = (S.act s.node ≡ Done) × (s.kept ≡ None)

-- ends to each node, by their numbers, on which nothing was sent
abbrev pub AreUnusedOuts : ℕ → List Outgoing → Type 0
AreUnusedOuts id outs = (q : ℕ) (o : Outgoing) → slice_get outs q ≡ Some o → (o.route ≡ route id q) × (o.sent ≡ [])

-- ends from each node, by their numbers, on which nothing was taken
abbrev pub AreUnusedIns : ℕ → List Incoming → Type 0
AreUnusedIns id ins = (p : ℕ) (i : Incoming) → slice_get ins p ≡ Some i → (i.route ≡ route p id) × (i.taken ≡ [])
