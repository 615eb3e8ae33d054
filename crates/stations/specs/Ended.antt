-- Of the claim.
-- How stations end.
use Rattle.std.specs.Prelude.{◌≡◌, ℕ, ◌<◌, ◌+◌, ◌*◌, List, ◌++◌, length, map, Some, None}
use Rattle.std.specs.List.{slice_get}
use Rattle.node_law.specs.NodeSteps.{NodeSteps, after_at, sent}
use Rattle.node_law.specs.Phases.{Lockstep, all_moves}
use Rattle.letters.specs.declared.letter.Letter.{Letter}
use Rattle.pair_mailbox.specs.Ends.{Outgoing, Incoming, Exchanged}
use Rattle.all_pairs.specs.Routes.{route}
use Rattle.stations.specs.Stations.{StationState, Stands, HasEnded}

module _ {N : Type 0} (S : NodeSteps N Letter) where
  -- a station that has ended, and what its type says of it
  pub record EndedStation (s : StationState N) : Type 0 where
    pub stands : Stands S s.id s.opening s.node s.outs s.ins None
    pub ended : HasEnded S s

  abbrev pub AllEnded : List (StationState N) → Type 0
  AllEnded ss = (p : ℕ) (s : StationState N) → slice_get ss p ≡ Some s → EndedStation s

-- stations that began as these nodes, by their numbers, each with an end of either kind for each
pub record AreStationsOf {N : Type 0} (from : List N) (ss : List (StationState N)) : Type 0 where
  pub openings : from ≡ map (λ s. s.opening) ss
  pub numbered : (p : ℕ) (s : StationState N) → slice_get ss p ≡ Some s → s.id ≡ p
  pub wide : (p : ℕ) (s : StationState N) → slice_get ss p ≡ Some s → length s.outs ≡ length ss

-- what was sent from one to another is what was taken there and then something
abbrev pub ArePassed : {N : Type 0} → List (StationState N) → Type 0
ArePassed {N} ss =
    (p q : ℕ) (s t : StationState N) (o : Outgoing) (i : Incoming) → slice_get ss p ≡ Some s → slice_get ss q ≡ Some t → slice_get s.outs q ≡ Some o → slice_get t.ins p ≡ Some i
    → (held : List Letter) × (o.sent ≡ i.taken ++ held)

module _ {N : Type 0} (S : NodeSteps N Letter) where
  -- the last nodes of the lockstep run
  abbrev pub AreLast : List N → List N → Type 0
  AreLast from last = (run : Lockstep S (slice_get from)) (p : ℕ) → slice_get last p ≡ after_at S (slice_get from p) (all_moves run.phases run.last p)

  -- the closed queue of the pair p, q: exactly the letters of the lockstep run were sent on it, in order, and taken from it
  pub record IsClosedAs (from : List N) (run : Lockstep S (slice_get from)) (p q : ℕ) (e : Exchanged) : Type 0 where
    pub route_is : e.route ≡ route p q
    pub letters : e.letters ≡ sent q (all_moves run.phases run.last p)
    pub taken : e.taken ≡ e.letters

  -- there is one for each pair, by the number of the source and then of the target
  abbrev pub AreClosed : List N → List Exchanged → Type 0
  AreClosed from closed =
      (run : Lockstep S (slice_get from)) (p q : ℕ) → p < length from → q < length from
      → (e : Exchanged) × (slice_get closed (p * length from + q) ≡ Some e) × IsClosedAs from run p q e
