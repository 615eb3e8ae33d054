-- Stations that have ended, taken apart one after the other, and their queues closed.
use Rattle.std.proofs.Common.{◌≡◌, ℕ, ◌+◌, ◌*◌, ◌<◌, List, [], ◌∷◌, ◌++◌, length, map, sym, ap, ◌∙◌, subst, ⊎_elim, append-nil}
use Rattle.std.specs.Prelude.{Some, slice_get, All}
use Rattle.std.proofs.lemmas.List.{length-map, map-append, nil_from_length}
use Rattle.std.proofs.lemmas.Option.{slice_get_within, get_or_from_slice_get}
use Rattle.atomic_table.specs.Seated.{TableId}
use Rattle.node_law.specs.Cores.{start}
use Rattle.node_law.specs.NodeSteps.{NodeSteps}
use Rattle.node_law.specs.Phases.{Lockstep}
use Rattle.node_law.specs.Reached.{EndsInLockstep}
use Rattle.letters.specs.declared.letter.Letter.{Letter}
use Rattle.pair_mailbox.specs.Ends.{Outgoing, Incoming, Exchanged}
use Rattle.all_pairs.specs.Routes.{route}
use Rattle.all_pairs.specs.Rows.{out_queue, in_queue, out_queues, in_queues, at_of, at, ArePairs, AreClosedPairs}
use Rattle.stations.specs.Stations.{StationState, Fixed, fixed, HasEnded}
use Rattle.stations.specs.Joined.{AreJoined}
use Rattle.stations.specs.Ended.{EndedStation, AllEnded, AreStationsOf, ArePassed, AreClosed}
use Rattle.stations.proofs.EndsAlike.{ends-in}
use Rattle.stations.proofs.Lists.{map_twice, got_seam, got_more, got_map, got_below}
use Rattle.stations.proofs.StationLaw.{Pair, pair, last-are, sent-is, all-taken}

module _ {N : Type 0} (S : NodeSteps N Letter) where
  -- the stations ss have ended, and these are their nodes and their ends
  pub record AreGathered (ss : List (StationState N)) (nodes : List N) (outs : List (List Outgoing)) (ins : List (List Incoming)) : Type 0 where
    pub each : AllEnded S ss
    pub nodes_are : nodes ≡ map (λ s. s.node) ss
    pub outs_are : outs ≡ map (λ s. s.outs) ss
    pub ins_are : ins ≡ map (λ s. s.ins) ss

  pub gathered_more : {ss : List (StationState N)} {nodes nodes' : List N} {outs outs' : List (List Outgoing)} {ins ins' : List (List Incoming)}
      (s : StationState N) (n : N) (o : List Outgoing) (i : List Incoming)
      → AreGathered ss nodes outs ins → EndedStation S s → n ≡ s.node → o ≡ s.outs → i ≡ s.ins → nodes' ≡ nodes ++ n ∷ [] → outs' ≡ outs ++ o ∷ [] → ins' ≡ ins ++ i ∷ []
      → AreGathered (ss ++ s ∷ []) nodes' outs' ins'
  gathered_more {ss} {nodes} {nodes'} {outs} {outs'} {ins} {ins'} s n o i h ended en eo ei nodes_are outs_are ins_are = record {
    each = λ p t e. ⊎_elim (λ w. h.each p t w) (λ (w : (p ≡ length ss) × (s ≡ t)). subst (EndedStation S) w.1 ended) (got_more ss s t p e);
    nodes_are = nodes_are ∙ ap (λ (y : List N × N). y.0 ++ y.1 ∷ []) (λ t. (h.nodes_are t, en t))
        ∙ sym (map-append (λ (u : StationState N). u.node) ss (s ∷ []));
    outs_are = outs_are ∙ ap (λ (y : List (List Outgoing) × List Outgoing). y.0 ++ y.1 ∷ []) (λ t. (h.outs_are t, eo t))
        ∙ sym (map-append (λ (u : StationState N). u.outs) ss (s ∷ []));
    ins_are = ins_are ∙ ap (λ (y : List (List Incoming) × List Incoming). y.0 ++ y.1 ∷ []) (λ t. (h.ins_are t, ei t))
        ∙ sym (map-append (λ (u : StationState N). u.ins) ss (s ∷ []));
  }

  -- where no station is left
  pub gathered_all : {ss : List (StationState N)} {nodes : List N} {outs : List (List Outgoing)} {ins : List (List Incoming)} (all rest : List (StationState N))
      → AreGathered ss nodes outs ins → all ≡ ss ++ rest → length rest ≡ 0 → AreGathered all nodes outs ins
  gathered_all {ss} {nodes} {outs} {ins} all rest h e none =
      subst (λ l. AreGathered l nodes outs ins) (sym (e ∙ ap (λ l. ss ++ l) (nil_from_length rest none) ∙ append-nil ss)) h

  -- the station after some others has ended
  pub next_ended : (all ss ss' : List (StationState N)) (s : StationState N) → All (HasEnded S) all → all ≡ ss ++ s ∷ ss' → HasEnded S s
  next_ended all ss ss' s h e =
      let at : slice_get all (length ss) ≡ Some s = ap (λ l. slice_get l (length ss)) e ∙ got_seam ss s ss' in
      subst (HasEnded S) (get_or_from_slice_get all (length ss) s s at) (h (length ss) s (slice_get_within all (length ss) s at))

  -- their ends are those of all pairs
  pub pairs_of : (from : List N) (ss : List (StationState N)) (outs : List (List Outgoing)) (ins : List (List Incoming)) → AreJoined from (map fixed ss)
      → outs ≡ map (λ s. s.outs) ss → ins ≡ map (λ s. s.ins) ss → ArePairs (length outs) (out_queues outs) (in_queues ins)
  pairs_of from ss outs ins joined eo ei =
      let wide : length (map fixed ss) ≡ length outs = length-map ss fixed ∙ sym (ap length eo ∙ length-map ss (λ s. s.outs)) in
      let out_rows : map (λ (f : Fixed N). f.outs) (map fixed ss) ≡ out_queues outs =
      map_twice fixed (λ (f : Fixed N). f.outs) ss ∙ sym (ap out_queues eo ∙ map_twice (λ (s : StationState N). s.outs) (map out_queue) ss) in
      let in_rows : map (λ (f : Fixed N). f.ins) (map fixed ss) ≡ in_queues ins =
      map_twice fixed (λ (f : Fixed N). f.ins) ss ∙ sym (ap in_queues ei ∙ map_twice (λ (s : StationState N). s.ins) (map in_queue) ss) in
      subst (λ (y : ℕ × List (List TableId) × List (List TableId)). ArePairs y.0 y.1 y.2) (λ t. (wide t, out_rows t, in_rows t)) joined.pairs

  stations_of : (from : List N) (ss : List (StationState N)) → AreJoined from (map fixed ss) → AreStationsOf from ss
  stations_of from ss joined = record {
    openings = joined.openings ∙ map_twice fixed (λ (f : Fixed N). f.opening) ss;
    numbered = λ p s e. joined.numbered p (fixed s) (got_map fixed ss p s e);
    wide = λ p s e.
        let row : slice_get (map (λ (f : Fixed N). f.outs) (map fixed ss)) p ≡ Some (map out_queue s.outs) =
        got_map (λ (f : Fixed N). f.outs) (map fixed ss) p (fixed s) (got_map fixed ss p s e) in
        sym (length-map s.outs out_queue) ∙ joined.pairs.outs_square.wide p (map out_queue s.outs) row ∙ length-map ss fixed;
  }

  module _ (ss : List (StationState N)) (nodes : List N) (outs : List (List Outgoing)) (ins : List (List Incoming)) (h : AreGathered ss nodes outs ins)
      (closed : List Exchanged) (pairs : AreClosedPairs outs ins closed) where
    out_at : (p q : ℕ) (s : StationState N) (o : Outgoing) → slice_get ss p ≡ Some s → slice_get s.outs q ≡ Some o → at outs p q ≡ Some o
    out_at p q s o e eo = ap (λ l. at_of (slice_get l p) q) h.outs_are ∙ ap (λ r. at_of r q) (got_map (λ (t : StationState N). t.outs) ss p s e) ∙ eo

    in_at : (q p : ℕ) (t : StationState N) (i : Incoming) → slice_get ss q ≡ Some t → slice_get t.ins p ≡ Some i → at ins q p ≡ Some i
    in_at q p t i e ei = ap (λ l. at_of (slice_get l q) p) h.ins_are ∙ ap (λ r. at_of r p) (got_map (λ (u : StationState N). u.ins) ss q t e) ∙ ei

    passed : ArePassed ss
    passed p q s t o i es et eo ei = (pairs.ends p q o i (out_at p q s o es eo) (in_at q p t i et ei)).1

    as_many : length outs ≡ length ss
    as_many = ap length h.outs_are ∙ length-map ss (λ s. s.outs)

    module _ (from : List N) (joined : AreJoined from (map fixed ss)) where
      pub ends : Lockstep S (slice_get from) → EndsInLockstep S (start from) nodes
      ends run = ends-in S from nodes run (λ r p. ap (λ l. slice_get l p) h.nodes_are ∙ last-are S from ss h.each (stations_of from ss joined) passed r p)

      same_count : length from ≡ length ss
      same_count = ap length (stations_of from ss joined).openings ∙ length-map ss (λ s. s.opening)

      pub closes : AreClosed S from closed
      closes run p q np nq =
          let of : AreStationsOf from ss = stations_of from ss joined in
          let s = got_below ss p (subst (λ k. p < k) same_count np) in
          let t = got_below ss q (subst (λ k. q < k) same_count nq) in
          let w : Pair S from ss h.each of passed p q s.0 t.0 = pair S from ss h.each of passed p q s.0 t.0 s.1 t.1 in
          let place : p * length from + q ≡ p * length outs + q = ap (λ k. p * k + q) (same_count ∙ sym as_many) in
          let standing = (h.each p s.0 s.1).stands.outs_stand q w.out w.out_is in (
            record { route = w.out.route; letters = w.out.sent; taken = w.inn.taken },
            ap (slice_get closed) place ∙ (pairs.ends p q w.out w.inn (out_at p q s.0 w.out s.1 w.out_is) (in_at q p t.0 w.inn t.1 w.inn_is)).0,
            record {
              route_is = standing.route_is ∙ ap (λ k. route k q) (of.numbered p s.0 s.1);
              letters = sent-is S from ss h.each of passed run p q s.0 t.0 w;
              taken = all-taken S from ss h.each of passed run p q s.0 t.0 w;
            },
          )
