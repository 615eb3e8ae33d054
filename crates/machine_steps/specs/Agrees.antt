-- Of the claim.
-- Nodes that agree with a state of the machine with whole arrays, and what code and machine are asked for.
use Rattle.std.specs.Prelude.{◌≡◌, ℤ, ◌∷◌, ℕ, ◌<◌, ◌≤◌, ◌⊎◌, Bool, true, List, [], map, length, replicate, Result, Ok, Err, Option, Some, None, nat_lt, slice_get, slice_index_or, if◌then◌else◌, suc, zero, ⊤}
use Rattle.std.specs.List.{range_with_len}
use Rattle.hpf_base.specs.declared.index.Shape.{Shape}
use Rattle.node_law.specs.NodeSteps.{Move, after_at, sent}
use Rattle.node_law.specs.Phases.{PhaseShare, next_number, LeadsTo, Lockstep, all_moves, number_after}
use Rattle.storage.specs.Storage.{Spot, read}
use Rattle.machine_steps.specs.Layout.{Layout, sizes, pieces, IsDealt, IsInBlocks, AreOwned}
use Rattle.machine_steps.specs.Instr.{Status, Running, Finished, Faulted, Tuples, Fold, Remapping, Rounds, Item, Text, Elements, Instr, Fetch, Par, Reduce, MakeCopy, FoldCopy, LastCopy, Scan, Remap, Print}
use Rattle.machine_steps.specs.Machine.{Machine, Kept, is_before, remapped, instr_at}
use Rattle.machine_steps.specs.Tree.{levels_of, tree_sends}
use Rattle.machine_steps.specs.Message.{Part, par_part, reduce_part, gather_part, fetch_part, message, remap_message, has_any}
use Rattle.machine_steps.specs.Node.{Node, Ready, FaultValues, join_after, join_below, at_root, part_sends, remap_sends, node_steps}
use Rattle.letters.specs.declared.letter.Letter.{Letter}

-- so many nodes, by number
abbrev pub by_number : {A : Type 0} → ℕ → (ℕ → A) → ℕ → Option A
by_number count nodes p = if nat_lt p count then Some (nodes p) else None

-- what the nodes have each for itself: the fault that it keeps, the values of a reduction that it computed, and the numbers of the
-- next letters of its pairs
pub record Own (F : Type 0) : Type 0 where
  pub kept : ℕ → Option (Kept F)
  pub joined : ℕ → Option ℤ
  pub next_to : ℕ → List ℕ
  pub next_from : ℕ → List ℕ

-- the node p where the machine stands so, before the phase n
abbrev pub standing : {C F : Type 0} → ℕ → Machine C F → ℕ → Own F → ℕ → Node C F
standing count m n own p = record {
  id = p;
  nodes = count;
  code = m.code;
  control = m.control;
  substep = m.substep;
  layouts = m.layouts;
  pieces = pieces m.layouts p m.rows;
  kept = own.kept p;
  parts = m.parts;
  joined = own.joined p;
  line = at_root p m.line;
  printed = at_root p m.printed;
  phase = n;
  stage = Ready;
  received = [];
  next_to = own.next_to p;
  next_from = own.next_from p;
  round = 0;
  folded = [];
}

-- of what the nodes have, one that comes before all others
pub record IsFirst {A : Type 0} (is_first : A → A → Bool) (count : ℕ) (chosen : Option A) (own : ℕ → Option A) : Type 0 where
  pub others : (p : ℕ) → p < count → (k : A) → own p ≡ Some k → (l : A) × (chosen ≡ Some l) × ((l ≡ k) ⊎ (is_first l k ≡ true))
  pub here : (l : A) → chosen ≡ Some l → (p : ℕ) × (p < count) × (own p ≡ Some l)

-- the number of each pair's next letter is the one that its target awaits
pub record AreNumbered (count : ℕ) (next_to next_from : ℕ → List ℕ) : Type 0 where
  pub sent : (p : ℕ) → p < count → length (next_to p) ≡ count
  pub taken : (p : ℕ) → p < count → length (next_from p) ≡ count
  pub same : (p q : ℕ) → p < count → q < count → slice_index_or (next_to p) q 0 ≡ slice_index_or (next_from q) p 0

-- between the steps of a reduction the values of all nodes, joined, are the machine's
abbrev pub AreJoined : {F : Type 0} → ℕ → Instr F → ℕ → (ℕ → Option ℤ) → ℤ → Type 0
AreJoined count (Reduce tuples f slot) zero own joined = ⊤
AreJoined count (Reduce tuples f slot) (suc k) own joined = joined ≡ join_after f.join f.unit (join_below f.join own count)
AreJoined count i substep own joined = ⊤

-- ---- what is asked of code and machine

-- the first rows are arrays of these shapes
abbrev pub AreDeclared : List Shape → List Layout → Type 0
AreDeclared [] layouts = ⊤
AreDeclared (shape ∷ shapes) [] = ⊥
AreDeclared (shape ∷ shapes) (layout ∷ layouts) = (layout.shape ≡ shape) × AreDeclared shapes layouts

-- the order and the grouping in which values are joined make no difference
pub record IsFold (f : Fold) : Type 0 where
  pub associative : (a b c : ℤ) → f.join (f.join a b) c ≡ f.join a (f.join b c)
  pub commutative : (a b : ℤ) → f.join a b ≡ f.join b a

-- each new mapping is one of a declared array, and gives each of its elements an owner
abbrev pub AreDealt : ℕ → List Shape → List Remapping → Type 0
AreDealt count shapes [] = ⊤
AreDealt count shapes (new ∷ rest) = ((shape : Shape) × (slice_get shapes new.row ≡ Some shape) × IsDealt count (record { shape = shape; mapping = new.mapping }))
    × AreDealt count shapes rest

-- each pair with a message stands in a round
abbrev pub AreCovered : ℕ → List Remapping → Rounds → List Layout → Type 0
AreCovered count new rounds layouts =
    (p q : ℕ) → p < count → q < count → has_any (remap_message count layouts (remapped new layouts) p q) ≡ true
    → (k : ℕ) × (k < rounds.many layouts) × (rounds.in_round layouts k p q ≡ true)

-- an instruction of a run of so many nodes, over declared arrays of these shapes. A copy is no declared array, and its layout gives
-- each of its elements an owner, however these lie and whatever the slots
abbrev pub IsValidInstr : {F : Type 0} → ℕ → List Shape → Instr F → Type 0
IsValidInstr count shapes (Reduce tuples f slot) = IsFold f
IsValidInstr count shapes (MakeCopy copy layout start) = (length shapes ≤ copy) × ((layouts : List Layout) → AreDeclared shapes layouts → AreOwned count layouts
    → (slots : List ℤ) → IsDealt count (layout layouts slots))
IsValidInstr count shapes (FoldCopy copy f slot) = IsFold f
IsValidInstr count shapes (LastCopy copy set alike slot) = (one other : Layout) → alike one other ≡ true → one ≡ other
IsValidInstr count shapes (Scan copy in_blocks f) = IsFold f × ((layout : Layout) → in_blocks layout ≡ true → IsInBlocks count layout)
IsValidInstr count shapes (Remap new rounds) = AreDealt count shapes new × ((layouts : List Layout) → AreDeclared shapes layouts → AreOwned count layouts
    → AreCovered count new rounds layouts)
IsValidInstr count shapes i = ⊤

abbrev pub IsValidCode : {C F : Type 0} → (C → Instr F) → ℕ → List Shape → List C → Type 0
IsValidCode meaning count shapes code = (at : ℕ) → IsValidInstr count shapes (instr_at meaning code at)

module _ {C F : Type 0} where
  -- the rows have the sizes of their layouts, the first of them are the declared arrays, each element has an owner, and what is kept is of
  -- an earlier part
  pub record IsWhole (count : ℕ) (shapes : List Shape) (m : Machine C F) : Type 0 where
    pub shaped : map length m.rows ≡ sizes m.layouts
    pub declared : AreDeclared shapes m.layouts
    pub owned : AreOwned count m.layouts
    pub kept : (k : Kept F) → m.kept ≡ Some k → k.part < m.parts

-- ---- nodes and machine

module _ {C F : Type 0} (faults : FaultValues F) (meaning : C → Instr F) where
  -- the nodes agree with the machine in what each has for itself
  pub record Agree (count : ℕ) (m : Machine C F) (own : Own F) : Type 0 where
    pub numbers : AreNumbered count own.next_to own.next_from
    pub kept : IsFirst is_before count m.kept own.kept
    pub joined : AreJoined count (instr_at meaning m.code m.control.at) m.substep own.joined m.joined

  -- a segment of a lockstep run leads from nodes that agree with the machine's state m before the phase n to nodes that agree with
  -- its state m'
  pub record NodesSegment (count n : ℕ) (m : Machine C F) (own : Own F) (m' : Machine C F) : Type 0 where
    pub phases : List (ℕ → PhaseShare Letter)
    pub last : ℕ → List (Move Letter)
    pub new : Own F
    pub leads : LeadsTo (node_steps faults meaning) n (by_number count (standing count m n own)) phases last (by_number count (standing count m' (number_after n phases) new))
    pub agree : Agree count m' new

  -- the nodes' whole run: they are phased, and their last nodes agree with the machine's state m'
  pub record NodesRun (count n : ℕ) (m : Machine C F) (own : Own F) (m' : Machine C F) : Type 0 where
    pub lockstep : Lockstep (node_steps faults meaning) (by_number count (standing count m n own))
    pub number : ℕ
    pub new : Own F
    pub ends : (p : ℕ) → after_at (node_steps faults meaning) (by_number count (standing count m n own) p) (all_moves lockstep.phases lockstep.last p) ≡ by_number count
        (standing count m' number new) p
    pub agree : Agree count m' new

-- the machine's run is over
abbrev pub IsOver : {F : Type 0} → Status F → Type 0
IsOver Running = ⊥
IsOver Finished = ⊤
IsOver (Faulted fault) = ⊤

-- ---- the letters of a phase

-- who sends what to whom
pub record Exchange : Type 0 where
  pub sends : ℕ → ℕ → Bool
  pub body : ℕ → ℕ → List ℤ

-- in the phase n each pair has the letter that the exchange says, with the number of the pair's next letter, and no other
abbrev pub Carries : ℕ → ℕ → (next_to : ℕ → List ℕ) → (ℕ → PhaseShare Letter) → Exchange → Type 0
Carries count n next_to shares exchange =
    (p q : ℕ) → p < count → q < count
    → sent q (shares p).front ≡ (if exchange.sends p q then record { run = 1; phase = n; from = record { 0 = p }; to = record { 0 = q }; number = slice_index_or (next_to p) q 0; body = exchange.body p q } ∷
    [] else [])

-- the message phase of a part, by the whole arrays: the elements that q needs, that q doesn't own and whose least owner is p, in order
abbrev pub part_exchange : {C F : Type 0} → ℕ → Machine C F → Part → Exchange
part_exchange count m part = record {
  sends = part_sends count m.layouts part;
  body = λ p q. map (read m.rows) (message count m.layouts part p q);
}

-- a round of a redistribution: where the pair stands in it, the elements that q owns after and not before and whose least owner
-- before is p, in order
abbrev pub round_exchange : {C F : Type 0} → ℕ → Machine C F → List Remapping → Rounds → ℕ → Exchange
round_exchange count m new rounds k = record {
  sends = remap_sends count new rounds m.layouts k;
  body = λ p q. map (read m.rows) (remap_message count m.layouts (remapped new m.layouts) p q);
}

-- rounds of a tree from k on, where `body k p` is what the node p has after k rounds
abbrev pub tree_exchanges : ℕ → (body : ℕ → ℕ → List ℤ) → (k many : ℕ) → List Exchange
tree_exchanges count body k many = map (λ j. record { sends = tree_sends (levels_of count) j; body = λ p q. body j p }) (range_with_len k many)

-- the phases from n on carry these exchanges, one after another
abbrev pub AreCarried : ℕ → ℕ → List (ℕ → PhaseShare Letter) → List Exchange → Type 0
AreCarried count n [] [] = ⊤
AreCarried count n [] (exchange ∷ exchanges) = ⊥
AreCarried count n (shares ∷ phases) [] = ⊥
AreCarried count n (shares ∷ phases) (exchange ∷ exchanges) = ((next_to : ℕ → List ℕ) × Carries count n next_to shares exchange) × AreCarried count (next_number n) phases exchanges

-- the part that a step of an instruction is for, where it has a message phase
abbrev pub fetched_part : {F : Type 0} → Result Spot F → Option Part
fetched_part (Ok spot) = Some (fetch_part spot)
fetched_part (Err fault) = None

abbrev pub item_part : Option Item → List ℤ → Option Part
item_part None slots = None
item_part (Some (Text bytes)) slots = None
item_part (Some (Elements tuples element bytes)) slots = Some (gather_part tuples element slots)

abbrev pub reduced_part : {F : Type 0} → ℕ → List Layout → ℕ → Tuples F → List ℤ → Option Part
reduced_part count layouts zero tuples slots = Some (reduce_part count layouts tuples slots)
reduced_part count layouts (suc k) tuples slots = None

abbrev pub part_of : {C F : Type 0} → ℕ → Machine C F → Instr F → Option Part
part_of count m (Fetch element slot) = fetched_part (element m.control.slots)
part_of count m (Par tuples left) = Some (par_part m.layouts tuples left m.control.slots)
part_of count m (Reduce tuples f slot) = reduced_part count m.layouts m.substep tuples m.control.slots
part_of count m (Print items line) = item_part (slice_get items m.substep) m.control.slots
part_of count m i = None

-- ---- the beginning of a run

-- no node keeps a fault, and each pair's next letter is its first
abbrev pub first_own : {F : Type 0} → ℕ → Own F
first_own count = record { kept = λ p. None; joined = λ p. None; next_to = λ p. replicate count 1; next_from = λ p. replicate count 1 }

-- the nodes at the beginning, by number
abbrev pub openings : {C F : Type 0} → ℕ → Machine C F → List (Node C F)
openings count m = map (standing count m 1 (first_own count)) (range_with_len 0 count)

module _ {C F : Type 0} (faults : FaultValues F) (meaning : C → Instr F) where
  -- the nodes at the beginning are phased, and the last nodes of their lockstep run agree with the machine's state m'
  pub record OpeningsRun (count : ℕ) (m m' : Machine C F) : Type 0 where
    pub lockstep : Lockstep (node_steps faults meaning) (slice_get (openings count m))
    pub number : ℕ
    pub new : Own F
    pub ends : (p : ℕ) → after_at (node_steps faults meaning) (slice_get (openings count m) p) (all_moves lockstep.phases lockstep.last p) ≡ by_number count
        (standing count m' number new) p
    pub agree : Agree faults meaning count m' new
