-- Of the claim.
-- Phases, and the lockstep run of nodes. `ns p` is the node at the number p, or None past the last node.
use Rattle.std.specs.Prelude.{◌≡◌, ℕ, ◌+◌, ◌%◌, ◌^◌, ◌≤◌, IsTrue, List, [], ◌∷◌, ◌++◌, Option, Some, None}
use Rattle.node_law.specs.NodeSteps.{NodeSteps, Move, Worked, Sent, Taken, node_after, AreMovesOf, after_at, IsDoneAt, sent, taken}

-- what one node does in one phase: its local steps and its sends, and then its takes
pub record PhaseShare (M : Type 0) : Type 0 where
  pub front : List (Move M)
  pub back : List (Move M)

abbrev pub moves : {M : Type 0} → PhaseShare M → List (Move M)
moves share = share.front ++ share.back

module _ {M : Type 0} where
  -- local steps alone
  abbrev pub AreLocal : List (Move M) → Type 0
  AreLocal [] = Unit {0}
  AreLocal (Worked ∷ xs) = AreLocal xs
  AreLocal (Sent q m ∷ xs) = ⊥
  AreLocal (Taken p m ∷ xs) = ⊥

  -- sends in ascending order of targets, the first of them at `least` or later
  abbrev pub AreSends : ℕ → List (Move M) → Type 0
  AreSends least [] = Unit {0}
  AreSends least (Worked ∷ xs) = ⊥
  AreSends least (Sent q m ∷ xs) = (least ≤ q) × AreSends (q + 1) xs
  AreSends least (Taken p m ∷ xs) = ⊥

  -- takes in ascending order of sources
  abbrev pub AreTakes : ℕ → List (Move M) → Type 0
  AreTakes least [] = Unit {0}
  AreTakes least (Worked ∷ xs) = ⊥
  AreTakes least (Sent q m ∷ xs) = ⊥
  AreTakes least (Taken p m ∷ xs) = (least ≤ p) × AreTakes (p + 1) xs

  -- local steps and then sends
  abbrev pub IsFront : List (Move M) → Type 0
  IsFront [] = Unit {0}
  IsFront (Worked ∷ xs) = IsFront xs
  IsFront (Sent q m ∷ xs) = AreSends q (Sent q m ∷ xs)
  IsFront (Taken p m ∷ xs) = ⊥

-- the number after n: phase numbers are kept modulo 2^64
abbrev pub next_number : ℕ → ℕ
next_number n = (n + 1) % 2 ^ 64

module _ {N M : Type 0} (S : NodeSteps N M) where
  -- the number is n before each of the moves, and the next one after the last
  abbrev pub TurnsNumber : ℕ → N → List (Move M) → Type 0
  TurnsNumber n a [] = S.phase a ≡ next_number n
  TurnsNumber n a (x ∷ xs) = (S.phase a ≡ n) × TurnsNumber n (node_after S a x) xs

  -- the number stays
  abbrev pub KeepsNumber : N → List (Move M) → Type 0
  KeepsNumber a [] = Unit {0}
  KeepsNumber a (x ∷ xs) = (S.phase (node_after S a x) ≡ S.phase a) × KeepsNumber (node_after S a x) xs

  -- each letter taken is the awaited one
  abbrev pub AreAwaited : N → List (Move M) → Type 0
  AreAwaited a [] = Unit {0}
  AreAwaited a (Worked ∷ xs) = AreAwaited (S.after_local a) xs
  AreAwaited a (Sent q m ∷ xs) = AreAwaited (S.after_send a) xs
  AreAwaited a (Taken p m ∷ xs) = IsTrue (S.awaits a m) × AreAwaited (S.after_take m a) xs

  -- what the node a may do in the phase n. Where its number is the next one already, that is nothing
  pub record IsShare (n : ℕ) (a : N) (share : PhaseShare M) : Type 0 where
    pub made : AreMovesOf S a (moves share)
    pub front : IsFront share.front
    pub back : AreTakes 0 share.back
    pub number : TurnsNumber n a (moves share)
    pub awaited : AreAwaited a (moves share)

  abbrev pub IsShareAt : ℕ → Option N → PhaseShare M → Type 0
  IsShareAt n None share = moves share ≡ []
  IsShareAt n (Some a) share = IsShare n a share

  -- one phase: at least one node's number is n, q takes from p exactly the letter that p sends to q, and no node sends one
  -- to itself
  pub record IsPhase (n : ℕ) (ns : ℕ → Option N) (shares : ℕ → PhaseShare M) : Type 0 where
    pub begun : (p : ℕ) × (a : N) × (ns p ≡ Some a) × (S.phase a ≡ n)
    pub each : (p : ℕ) → IsShareAt n (ns p) (shares p)
    pub letters : (p q : ℕ) → sent q (shares p).front ≡ taken p (shares q).back
    pub to_others : (p : ℕ) → sent p (shares p).front ≡ []

  -- local steps until all are Done
  abbrev pub IsEndAt : Option N → List (Move M) → Type 0
  IsEndAt None xs = xs ≡ []
  IsEndAt (Some a) xs = AreMovesOf S a xs × AreLocal xs × KeepsNumber a xs × IsDoneAt S (after_at S (Some a) xs)

  -- these phases, numbered from n on, and then these local steps lead to nodes that are all Done
  abbrev pub IsLockstep : ℕ → (ℕ → Option N) → List (ℕ → PhaseShare M) → (ℕ → List (Move M)) → Type 0
  IsLockstep n ns [] last = (p : ℕ) → IsEndAt (ns p) (last p)
  IsLockstep n ns (shares ∷ rest) last = IsPhase n ns shares × IsLockstep (next_number n) (λ p. after_at S (ns p) (moves (shares p))) rest last

  -- the lockstep run of the nodes
  pub record Lockstep (ns : ℕ → Option N) : Type 0 where
    pub number : ℕ
    pub phases : List (ℕ → PhaseShare M)
    pub last : ℕ → List (Move M)
    pub run : IsLockstep number ns phases last

-- the moves of the node p in these phases and local steps
abbrev pub all_moves : {M : Type 0} → List (ℕ → PhaseShare M) → (ℕ → List (Move M)) → ℕ → List (Move M)
all_moves [] last p = last p
all_moves (shares ∷ rest) last p = moves (shares p) ++ all_moves rest last p

module _ {N M : Type 0} (S : NodeSteps N M) where
  -- the number is n before each of the moves and after the last
  abbrev pub StaysAt : ℕ → N → List (Move M) → Type 0
  StaysAt n a [] = S.phase a ≡ n
  StaysAt n a (x ∷ xs) = (S.phase a ≡ n) × StaysAt n (node_after S a x) xs

  -- local steps between two phases, from one node to the other
  abbrev pub IsBetween : ℕ → Option N → List (Move M) → Option N → Type 0
  IsBetween n None xs new = (xs ≡ []) × (new ≡ None)
  IsBetween n (Some a) xs new = AreMovesOf S a xs × AreLocal xs × StaysAt n a xs × (new ≡ after_at S (Some a) xs)

  -- a segment of a lockstep run: these phases, numbered from n on, and then these local steps lead from the nodes ns
  -- to the nodes new
  abbrev pub LeadsTo : ℕ → (ℕ → Option N) → List (ℕ → PhaseShare M) → (ℕ → List (Move M)) → (ℕ → Option N) → Type 0
  LeadsTo n ns [] last new = (p : ℕ) → IsBetween n (ns p) (last p) (new p)
  LeadsTo n ns (shares ∷ rest) last new = IsPhase S n ns shares × LeadsTo (next_number n) (λ p. after_at S (ns p) (moves (shares p))) rest last new

module _ {M : Type 0} where
  -- the number after these phases from n on
  abbrev pub number_after : ℕ → List (ℕ → PhaseShare M) → ℕ
  number_after n [] = n
  number_after n (shares ∷ rest) = number_after (next_number n) rest

  -- a phase in which these local steps come first
  abbrev pub begun_by : (ℕ → List (Move M)) → (ℕ → PhaseShare M) → ℕ → PhaseShare M
  begun_by steps shares p = record { front = steps p ++ (shares p).front; back = (shares p).back }

  -- the phases of two segments one after the other: the local steps after the first segment open the next phase
  abbrev pub joined_phases : List (ℕ → PhaseShare M) → (ℕ → List (Move M)) → List (ℕ → PhaseShare M) → List (ℕ → PhaseShare M)
  joined_phases [] between [] = []
  joined_phases [] between (shares ∷ rest) = begun_by between shares ∷ rest
  joined_phases (first ∷ phases) between second = first ∷ joined_phases phases between second

  -- the local steps after two segments: where the second has no phase, those after the first come before its own
  abbrev pub joined_last : (ℕ → List (Move M)) → List (ℕ → PhaseShare M) → (ℕ → List (Move M)) → ℕ → List (Move M)
  joined_last between [] last = λ p. between p ++ last p
  joined_last between (shares ∷ rest) last = last
