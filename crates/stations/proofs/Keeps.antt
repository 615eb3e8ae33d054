-- Each step of a station keeps what its type says.
use Rattle.std.proofs.Common.{◌≡◌, ◌≢◌, ℕ, zero, suc, ◌<◌, arith, IsTrue, List, [], ◌∷◌, ◌++◌, length, map, set, sym, refl, ap, ◌∙◌, subst, ⊎_elim, append-nil}
use Rattle.std.specs.Prelude.{Option, Some, None, slice_get}
use Rattle.std.proofs.Math.Seq.{map-set_same}
use Rattle.std.proofs.lemmas.List.{length-set}
use Rattle.std.proofs.lemmas.Option.{get_or_from_slice_get}
use Rattle.node_law.specs.declared.act.Act.TheVariants.{Local, Send, Take}
use Rattle.node_law.specs.declared.stepped.Stepped.{Stepped}
use Rattle.node_law.specs.NodeSteps.{NodeSteps, Move, Worked, Sent, Taken, IsMoveOf, node_after, AreMovesOf, after_all, sent, taken}
use Rattle.node_law.proofs.Prefixes.{sent-append, taken-append, moves-append, after_all-append}
use Rattle.node_law.specs.LocalSteps.{after_locals, AreLocalSteps}
use Rattle.letters.specs.declared.letter.Letter.{Letter}
use Rattle.pair_mailbox.specs.declared.route.Route.{Route}
use Rattle.pair_mailbox.specs.Rule.{IsNextLetter}
use Rattle.pair_mailbox.specs.Ends.{Outgoing, Incoming}
use Rattle.stations.specs.declared.station.Kept.{Kept}
use Rattle.stations.specs.Lettered.{IsLettered}
use Rattle.all_pairs.specs.Rows.{out_queue, in_queue}
use Rattle.stations.specs.Stations.{kept_at, OutStands, InStands, Stands, AreUnusedOuts, AreUnusedIns}
use Rattle.stations.specs.Steps.{kept_letter, IsPushed, IsPushedAt, IsPopped}
use Rattle.stations.proofs.Lists.{got_set, only_same, only_other}

-- one more move, which sends nothing to q
out_rests : {id : ℕ} {kept : Option Kept} (ms : List (Move Letter)) (x : Move Letter) (q : ℕ) (o : Outgoing) → sent q (x ∷ []) ≡ []
    → OutStands id ms kept q o → OutStands id (ms ++ x ∷ []) kept q o
out_rests ms x q o none s = record {
  route_is = s.route_is;
  made = sent-append q ms (x ∷ []) ∙ ap (λ l. sent q ms ++ l) none ∙ append-nil (sent q ms) ∙ s.made;
  next = s.next;
}

-- one more move, which takes nothing from p
in_rests : {id : ℕ} (ms : List (Move Letter)) (x : Move Letter) (p : ℕ) (i : Incoming) → taken p (x ∷ []) ≡ [] → InStands id ms p i → InStands id (ms ++ x ∷ []) p i
in_rests ms x p i none s = record {
  route_is = s.route_is;
  took = taken-append p ms (x ∷ []) ∙ ap (λ l. taken p ms ++ l) none ∙ append-nil (taken p ms) ∙ s.took;
}

module _ {N : Type 0} (S : NodeSteps N Letter) where
  -- one more move
  more : {id : ℕ} {a n n' : N} {outs : List Outgoing} {ins : List Incoming} {kept : Option Kept} (x : Move Letter) (h : Stands S id a n outs ins kept)
      → IsMoveOf S n x → n' ≡ node_after S n x → (after_all S a (h.moves ++ x ∷ []) ≡ n') × AreMovesOf S a (h.moves ++ x ∷ [])
  more {a = a} x h is to = (
    after_all-append S a h.moves (x ∷ []) ∙ ap (λ m. node_after S m x) h.leads ∙ sym to,
    moves-append S a h.moves (x ∷ []) h.are (subst (λ m. IsMoveOf S m x) (sym h.leads) is, tt),
  )

  pub works : {id : ℕ} {a n n' : N} {outs : List Outgoing} {ins : List Incoming} {kept : Option Kept} → Stands S id a n outs ins kept
      → S.act n ≡ Local → n' ≡ S.after_local n → Stands S id a n' outs ins kept
  works h is to = let m = more Worked h is to in record {
    lettered = h.lettered;
    as_many = h.as_many;
    moves = h.moves ++ Worked ∷ [];
    are = m.1;
    leads = m.0;
    outs_stand = λ q o e. out_rests h.moves Worked q o refl (h.outs_stand q o e);
    ins_stand = λ p i e. in_rests h.moves Worked p i refl (h.ins_stand p i e);
    kept_there = h.kept_there;
  }

  -- so many local steps
  works_times : {id : ℕ} {a n : N} {outs : List Outgoing} {ins : List Incoming} {kept : Option Kept} (count : ℕ) → Stands S id a n outs ins kept
      → ((k : ℕ) → k < count → S.act (after_locals S k n) ≡ Local) → Stands S id a (after_locals S count n) outs ins kept
  works_times zero h due = h
  works_times (suc count) h due = works (works_times count h (λ k below. due k (omega arith))) (due count (omega arith)) refl

  -- several local steps, one after another
  pub works_on : {id : ℕ} {a n n' : N} {outs : List Outgoing} {ins : List Incoming} {kept : Option Kept} → Stands S id a n outs ins kept
      → AreLocalSteps S n n' → Stands S id a n' outs ins kept
  works_on {id} {a} {n} {n'} {outs} {ins} {kept} h steps =
      subst (λ m. Stands S id a m outs ins kept) (sym steps.after) (works_times steps.count h steps.due)

  pub takes_there : {id : ℕ} {a n : N} {outs : List Outgoing} {ins : List Incoming} {kept : Option Kept} (p : ℕ) → Stands S id a n outs ins kept
      → S.act n ≡ Take (record { 0 = p }) → p < length ins
  takes_there p h is = subst (λ k. p < k) (sym h.as_many) (h.lettered.takes h.moves p h.are (ap S.act h.leads ∙ is)).0

  -- the letter that came is awaited
  pub comes : {id : ℕ} {a n : N} {outs : List Outgoing} {ins : List Incoming} {kept : Option Kept} (p : ℕ) (x : Letter) (i : Incoming) → Stands S id a n outs ins kept
      → S.act n ≡ Take (record { 0 = p }) → slice_get ins p ≡ Some i → IsNextLetter i.route (length i.taken) x → IsTrue (S.awaits n x)
  comes p x i h is at next =
      let s = h.ins_stand p i at in
      subst (λ m. IsTrue (S.awaits m x)) h.leads
      ((h.lettered.takes h.moves p h.are (ap S.act h.leads ∙ is)).1 x
      (subst (λ (y : Route × List Letter). IsNextLetter y.0 (length y.1) x) (λ t. (s.route_is t, sym s.took t)) next))

  pub takes : {id : ℕ} {a n : N} {outs : List Outgoing} {ins ins' : List Incoming} {kept : Option Kept} (n' : N) (p : ℕ) (x : Letter) (i i' : Incoming)
      → Stands S id a n outs ins kept → S.act n ≡ Take (record { 0 = p }) → n' ≡ S.after_take x n → slice_get ins p ≡ Some i → ins' ≡ set ins p i'
      → i' ≡ record i { taken = i.taken ++ x ∷ [] } → Stands S id a n' outs ins' kept
  takes {id} {a} {n} {outs} {ins} {ins'} {kept} n' p x i i' h is to at ends popped =
      let v : Move Letter = Taken p x in
      let m = more v h is to in
      subst (λ l. Stands S id a n' outs l kept) (sym ends) (record {
        lettered = h.lettered;
        as_many = length-set ins p i' ∙ h.as_many;
        moves = h.moves ++ v ∷ [];
        are = m.1;
        leads = m.0;
        outs_stand = λ q o e. out_rests h.moves v q o refl (h.outs_stand q o e);
        ins_stand = λ j u e. ⊎_elim
            (λ (w : (j ≡ p) × (i' ≡ u)). let s = h.ins_stand p i at in
            subst (λ (y : ℕ × Incoming). InStands id (h.moves ++ v ∷ []) y.0 y.1) (λ t. (sym w.0 t, (sym popped ∙ w.1) t)) (record {
              route_is = s.route_is;
              took = taken-append p h.moves (v ∷ []) ∙ ap (λ l. taken p h.moves ++ l) (only_same p x) ∙ ap (λ l. l ++ x ∷ []) s.took;
            }))
            (λ (w : (j ≢ p) × (slice_get ins j ≡ Some u)). in_rests h.moves v j u (only_other j p x (λ e. w.0 (sym e))) (h.ins_stand j u w.1))
            (got_set ins p j i' u e);
        kept_there = h.kept_there;
      })

  -- a pop that found no letter
  pub waits : {id : ℕ} {a n : N} {outs : List Outgoing} {ins ins' : List Incoming} {kept : Option Kept} (p : ℕ) (i i' : Incoming) → Stands S id a n outs ins kept
      → slice_get ins p ≡ Some i → ins' ≡ set ins p i' → i' ≡ record i { refused = i'.refused } → Stands S id a n outs ins' kept
  waits {id} {a} {n} {outs} {ins} {ins'} {kept} p i i' h at ends popped = subst (λ l. Stands S id a n outs l kept) (sym ends) (record {
    lettered = h.lettered;
    as_many = length-set ins p i' ∙ h.as_many;
    moves = h.moves;
    are = h.are;
    leads = h.leads;
    outs_stand = h.outs_stand;
    ins_stand = λ j u e. ⊎_elim
        (λ (w : (j ≡ p) × (i' ≡ u)). let s = h.ins_stand p i at in
        subst (λ (y : ℕ × Incoming). InStands id h.moves y.0 y.1) (λ t. (sym w.0 t, w.1 t))
        (record { route_is = ap (λ (v : Incoming). v.route) popped ∙ s.route_is; took = s.took ∙ sym (ap (λ (v : Incoming). v.taken) popped) }))
        (λ (w : (j ≢ p) × (slice_get ins j ≡ Some u)). h.ins_stand j u w.1)
        (got_set ins p j i' u e);
    kept_there = h.kept_there;
  })

  pub sends_there : {id : ℕ} {a n : N} {outs : List Outgoing} {ins : List Incoming} {kept : Option Kept} (q : ℕ) → Stands S id a n outs ins kept
      → S.act n ≡ Send (record { 0 = q }) → q < length outs
  sends_there q h is = (h.lettered.sends h.moves q h.are (ap S.act h.leads ∙ is)).0

  -- the letter that the node makes is the end's next
  pub next_letter : {id : ℕ} {a n : N} {outs : List Outgoing} {ins : List Incoming} {kept : Option Kept} (q : ℕ) (x : Letter) (o : Outgoing) → Stands S id a n outs ins kept
      → kept ≡ None → S.act n ≡ Send (record { 0 = q }) → x ≡ S.letter n → slice_get outs q ≡ Some o → IsNextLetter o.route (length o.sent) x
  next_letter q x o h none is made at =
      let s = h.outs_stand q o at in
      let all : sent q h.moves ≡ o.sent = s.made ∙ ap (λ k. o.sent ++ kept_at q k) none ∙ append-nil o.sent in
      subst (λ (y : Route × List Letter × Letter). IsNextLetter y.0 (length y.1) y.2) (λ t. (sym s.route_is t, all t, (ap S.letter h.leads ∙ sym made) t))
      (h.lettered.sends h.moves q h.are (ap S.act h.leads ∙ is)).1

  -- the node makes a letter, which is kept first
  pub makes : {id : ℕ} {a n n' : N} {outs : List Outgoing} {ins : List Incoming} {kept : Option Kept} (q : ℕ) (x : Letter) → Stands S id a n outs ins kept
      → kept ≡ None → S.act n ≡ Send (record { 0 = q }) → x ≡ S.letter n → n' ≡ S.after_send n → Stands S id a n' outs ins (Some (kept_letter q x))
  makes {outs = outs} q x h none is made to =
      let v : Move Letter = Sent q x in
      let m = more v h (is, made) to in
      record {
        lettered = h.lettered;
        as_many = h.as_many;
        moves = h.moves ++ v ∷ [];
        are = m.1;
        leads = m.0;
        outs_stand = λ j o e. let s = h.outs_stand j o e in record {
          route_is = s.route_is;
          made = sent-append j h.moves (v ∷ []) ∙ ap (λ l. l ++ sent j (v ∷ [])) (s.made ∙ ap (λ k. o.sent ++ kept_at j k) none ∙ append-nil o.sent);
          next = λ y k p. let same : kept_letter q x ≡ y = cc in
              subst (λ (z : Kept). IsNextLetter o.route (length o.sent) z.letter) same
              (next_letter q x o h none is made (ap (slice_get outs) (ap (λ (z : Kept). z.to) same ∙ p) ∙ e));
        };
        ins_stand = λ p i e. in_rests h.moves v p i refl (h.ins_stand p i e);
        kept_there = λ y k. let same : kept_letter q x ≡ y = cc in subst (λ (z : Kept). z.to < length outs) same (sends_there q h is);
      }

  push_with : {id : ℕ} {a n : N} {outs : List Outgoing} {ins : List Incoming} (kept' : Option Kept) (q : ℕ) (x : Letter) (o o' : Outgoing)
      → Stands S id a n outs ins (Some (kept_letter q x)) → slice_get outs q ≡ Some o → o'.route ≡ o.route → o'.sent ++ kept_at q kept' ≡ o.sent ++ x ∷ []
      → ((j : ℕ) → j ≢ q → kept_at j kept' ≡ [])
      → ((e : Kept) → kept' ≡ Some e → (kept_letter q x ≡ e) × (o'.sent ≡ o.sent)) → Stands S id a n (set outs q o') ins kept'
  push_with {id} {a} {n} {outs} {ins} kept' q x o o' h at same all rest next = record {
    lettered = subst (λ k. IsLettered S k id a) (sym (length-set outs q o')) h.lettered;
    as_many = h.as_many ∙ sym (length-set outs q o');
    moves = h.moves;
    are = h.are;
    leads = h.leads;
    outs_stand = λ j u e. ⊎_elim
        (λ (w : (j ≡ q) × (o' ≡ u)). let s = h.outs_stand q o at in subst (λ (y : ℕ × Outgoing). OutStands id h.moves kept' y.0 y.1) (λ t. (sym w.0 t, w.1 t)) (record {
          route_is = same ∙ s.route_is;
          made = s.made ∙ ap (λ l. o.sent ++ l) (only_same q x) ∙ sym all;
          next = λ y k p. let f = next y k in
              subst (λ (z : Route × List Letter × Letter). IsNextLetter z.0 (length z.1) z.2) (λ t. (sym same t, sym f.1 t, (f.0 t).letter)) (s.next (kept_letter q x) refl refl);
        }))
        (λ (w : (j ≢ q) × (slice_get outs j ≡ Some u)). let s = h.outs_stand j u w.1 in
        let gone : kept_at j (Some (kept_letter q x)) ≡ kept_at j kept' = only_other j q x (λ e. w.0 (sym e)) ∙ sym (rest j w.0) in record {
          route_is = s.route_is;
          made = s.made ∙ ap (λ l. u.sent ++ l) gone;
          next = λ y k p. absurd (w.0 (sym (ap (λ (z : Kept). z.to) (next y k).0 ∙ p)));
        })
        (got_set outs q j o' u e);
    ins_stand = h.ins_stand;
    kept_there = λ y k. subst (λ (z : Kept). z.to < length (set outs q o')) (next y k).0 (subst (λ l. q < l) (sym (length-set outs q o')) (h.kept_there (kept_letter q x) refl));
  }

  -- the kept letter is sent, or stays
  pub pushes : {id : ℕ} {a n : N} {outs outs' : List Outgoing} {ins : List Incoming} {kept kept' : Option Kept} {q : ℕ} {x : Letter} {r : Stepped} → Stands S id a n outs ins kept
      → kept ≡ Some (kept_letter q x) → IsPushedAt outs q x r kept' outs' → Stands S id a n outs' ins kept'
  pushes {id} {a} {n} {outs} {outs'} {ins} {kept} {kept'} {q} {x} {r} h was w =
      let g : Stands S id a n outs ins (Some (kept_letter q x)) = subst (λ k. Stands S id a n outs ins k) was h in
      let o : Outgoing = w.before in
      let o' : Outgoing = w.after in
      subst (λ l. Stands S id a n l ins kept') (sym w.set) (⊎_elim
      (λ (u : IsPushed o x r None o' × (kept' ≡ None)). ⊎_elim
      (λ v. push_with kept' q x o o' g w.at (ap (λ (y : Outgoing). y.route) v.2)
      (ap (λ k. o'.sent ++ kept_at q k) u.1 ∙ append-nil o'.sent ∙ ap (λ (y : Outgoing). y.sent) v.2) (λ j ne. ap (λ k. kept_at j k) u.1) (λ e k. cc))
      (λ v. cc) u.0)
      (λ (u : IsPushed o x r (Some x) o' × (kept' ≡ Some (kept_letter q x))). ⊎_elim
      (λ v. cc)
      (λ v. let same : o'.sent ≡ o.sent = ap (λ (y : Outgoing). y.sent) v.2 in
      push_with kept' q x o o' g w.at (ap (λ (y : Outgoing). y.route) v.2)
      (ap (λ k. o'.sent ++ kept_at q k) u.1 ∙ ap (λ l. o'.sent ++ l) (only_same q x) ∙ ap (λ l. l ++ x ∷ []) same)
      (λ j ne. ap (λ k. kept_at j k) u.1 ∙ only_other j q x (λ e. ne (sym e))) (λ e k. (cc, same))) u.0)
      w.pushed)

  -- before the first step
  pub begins : {id : ℕ} {a : N} {outs : List Outgoing} {ins : List Incoming} → IsLettered S (length outs) id a → length ins ≡ length outs
      → AreUnusedOuts id outs → AreUnusedIns id ins → Stands S id a a outs ins None
  begins lettered many unused_outs unused_ins = record {
    lettered = lettered;
    as_many = many;
    moves = [];
    are = tt;
    leads = refl;
    outs_stand = λ q o e. let f = unused_outs q o e in record { route_is = f.0; made = sym (ap (λ l. l ++ []) f.1); next = λ y k p. cc };
    ins_stand = λ p i e. let f = unused_ins p i e in record { route_is = f.0; took = sym f.1 };
    kept_there = λ y k. cc;
  }

-- the queues of the ends stay
pub pushed_queues : {outs outs' : List Outgoing} {q : ℕ} {x : Letter} {r : Stepped} {kept : Option Kept} → IsPushedAt outs q x r kept outs'
    → map out_queue outs' ≡ map out_queue outs
pushed_queues {outs} {outs'} {q} {x} w =
    let same : w.after.queue ≡ w.before.queue = ⊎_elim
    (λ u. ⊎_elim (λ v. ap (λ (y : Outgoing). y.queue) v.2) (λ v. ap (λ (y : Outgoing). y.queue) v.2) u.0)
    (λ u. ⊎_elim (λ v. ap (λ (y : Outgoing). y.queue) v.2) (λ v. ap (λ (y : Outgoing). y.queue) v.2) u.0) w.pushed in
    ap (map out_queue) w.set ∙ map-set_same out_queue outs q w.after w.before (same ∙ ap out_queue (sym (get_or_from_slice_get outs q w.before w.before w.at)))

pub popped_queues : {ins' : List Incoming} (ins : List Incoming) (p : ℕ) (came : Option Letter) (i i' : Incoming)
    → slice_get ins p ≡ Some i → ins' ≡ set ins p i' → IsPopped i came i' → map in_queue ins' ≡ map in_queue ins
popped_queues ins p came i i' at ends popped =
    ap (map in_queue) ends ∙ map-set_same in_queue ins p i' i (same came popped ∙ ap in_queue (sym (get_or_from_slice_get ins p i i at)))
  where
    same : (c : Option Letter) → IsPopped i c i' → i'.queue ≡ i.queue
    same None h = ap (λ (y : Incoming). y.queue) h.0
    same (Some x) h = ap (λ (y : Incoming). y.queue) h
