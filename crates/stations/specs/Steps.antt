-- Of a promise.
-- What the answer of a station's step says.
use Rattle.std.specs.Prelude.{◌≡◌, ℕ, ◌⊎◌, List, ◌++◌, ◌∷◌, [], Option, Some, None, slice_set}
use Rattle.std.specs.List.{slice_get}
use Rattle.hpf_ports.specs.Ports.{Rose}
use Rattle.node_law.specs.declared.act.Act.TheVariants.{Local, Send, Take}
use Rattle.node_law.specs.declared.stepped.Stepped.{Stepped}
use Rattle.node_law.specs.declared.stepped.Stepped.TheVariants.{Moved, NotReady, Ended}
use Rattle.node_law.specs.NodeSteps.{NodeSteps}
use Rattle.letters.specs.declared.letter.Letter.{Letter}
use Rattle.pair_mailbox.specs.Ends.{Outgoing, Incoming}
use Rattle.stations.specs.declared.station.Kept.{Kept}
use Rattle.stations.specs.Stations.{StationState, HasEnded}

abbrev pub kept_letter : ℕ → Letter → Kept
kept_letter q x = record { to = q; letter = x }

-- one push of x at an end: it is sent, or it comes back and is kept
abbrev pub IsPushed : Outgoing → Letter → Stepped → Option Letter → Outgoing → Type 0
IsPushed out x r kept out' =
    ((r ≡ Moved) × (kept ≡ None) × (out' ≡ record out { sent = out.sent ++ x ∷ [] }))
    ⊎ ((r ≡ NotReady) × (kept ≡ Some x) × (out' ≡ record out { refused = out'.refused }) × Rose out.refused out'.refused)

-- one push of x at the end to q
pub record IsPushedAt (outs : List Outgoing) (q : ℕ) (x : Letter) (r : Stepped) (kept : Option Kept) (outs' : List Outgoing) : Type 0 where
  pub before : Outgoing
  pub after : Outgoing
  pub at : slice_get outs q ≡ Some before
  pub set : outs' ≡ slice_set outs q after
  pub pushed : (IsPushed before x r None after × (kept ≡ None)) ⊎ (IsPushed before x r (Some x) after × (kept ≡ Some (kept_letter q x)))

-- one pop at an end: a letter came, or none
abbrev pub IsPopped : Incoming → Option Letter → Incoming → Type 0
IsPopped i None i' = (i' ≡ record i { refused = i'.refused }) × Rose i.refused i'.refused
IsPopped i (Some x) i' = i' ≡ record i { taken = i.taken ++ x ∷ [] }

module _ {N : Type 0} (S : NodeSteps N Letter) where
  -- a local step of the node
  pub record IsLocalStep (s : StationState N) (r : Stepped) (t : StationState N) : Type 0 where
    pub answer : r ≡ Moved
    pub free : s.kept ≡ None
    pub due : S.act s.node ≡ Local
    pub is : t ≡ record s { node = S.after_local s.node }

  -- the station has the letter x to push to q, and its node is n then: it is kept, or the node makes it
  abbrev pub HasToPush : StationState N → ℕ → Letter → N → Type 0
  HasToPush s q x n =
      ((s.kept ≡ Some (kept_letter q x)) × (n ≡ s.node))
      ⊎ ((s.kept ≡ None) × (S.act s.node ≡ Send (record { 0 = q })) × (x ≡ S.letter s.node) × (n ≡ S.after_send s.node))

  -- one push, which found room or found the queue full
  pub record IsPushStep (s : StationState N) (r : Stepped) (t : StationState N) : Type 0 where
    pub to : ℕ
    pub letter : Letter
    pub has : HasToPush s to letter t.node
    pub pushed : IsPushedAt s.outs to letter r t.kept t.outs
    pub rest : t.ins ≡ s.ins

  -- the answer and the node after a pop that gave this letter, or none
  abbrev pub AnswersPop : StationState N → Stepped → StationState N → Option Letter → Type 0
  AnswersPop s r t (Some x) = (r ≡ Moved) × (t.node ≡ S.after_take x s.node)
  AnswersPop s r t None = (r ≡ NotReady) × (t.node ≡ s.node)

  -- one pop, which found a letter or found the queue empty
  pub record IsPopStep (s : StationState N) (r : Stepped) (t : StationState N) : Type 0 where
    pub from : ℕ
    pub came : Option Letter
    pub free : (s.kept ≡ None) × (t.kept ≡ None)
    pub due : S.act s.node ≡ Take (record { 0 = from })
    pub before : Incoming
    pub after : Incoming
    pub at : slice_get s.ins from ≡ Some before
    pub set : t.ins ≡ slice_set s.ins from after
    pub popped : IsPopped before came after
    pub answers : AnswersPop s r t came
    pub rest : t.outs ≡ s.outs

  -- a step of the station answered r
  abbrev pub IsStationStep : StationState N → Stepped → StationState N → Type 0
  IsStationStep s r t = IsLocalStep s r t ⊎ (IsPushStep s r t ⊎ (IsPopStep s r t ⊎ ((r ≡ Ended) × HasEnded S s × (t ≡ s))))
