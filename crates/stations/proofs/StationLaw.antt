-- Stations that have all ended, and whose letters were passed in order, have made the moves of the lockstep run.
use Rattle.std.proofs.Common.{◌≡◌, ◌≢◌, ℕ, zero, suc, ◌<◌, ◌≤◌, List, [], ◌∷◌, ◌++◌, length, map, if◌then◌else◌, sym, refl, ap, ◌∙◌, subst, ⊎_elim, append-nil, arith}
use Rattle.std.specs.Prelude.{Option, Some, None, slice_get}
use Rattle.std.proofs.lemmas.Bool.Decides.{eqb_tells}
use Rattle.std.proofs.lemmas.Option.{slice_get_within}
use Rattle.node_law.specs.NodeSteps.{NodeSteps, Move, Worked, Sent, Taken, AreMovesOf, AreMovesAt, after_all, after_at, IsDoneAt, sent, taken, IsPrefix}
use Rattle.node_law.specs.Phases.{Lockstep, all_moves}
use Rattle.node_law.proofs.LawOfPrefixes.{law_of_prefixes}
use Rattle.node_law.proofs.NeverStuck.{prefix-append}
use Rattle.node_law.proofs.NextMove.{run-made, run-letters}
use Rattle.node_law.proofs.Prefixes.{moves-append, after_all-append, done-whole_at}
use Rattle.letters.specs.declared.letter.Letter.{Letter}
use Rattle.pair_mailbox.specs.Ends.{Outgoing, Incoming}
use Rattle.stations.specs.Lettered.{IsLettered}
use Rattle.stations.specs.Stations.{StationState}
use Rattle.stations.specs.Ended.{EndedStation, AllEnded, AreStationsOf, ArePassed}
use Rattle.stations.proofs.Lists.{got_map, none_map, got_below, none_from, no_rest}

other_taken : {M : Type 0} (r p : ℕ) (m : M) (xs : List (Move M)) → r ≢ p → taken p (Taken r m ∷ xs) ≡ taken p xs
other_taken r p m xs ne = ⊎_elim (λ w. absurd (ne w.1)) (λ w. ap (λ b. if b then m ∷ taken p xs else taken p xs) w.0) (eqb_tells r p)

module _ {N : Type 0} (S : NodeSteps N Letter) where
  -- a node takes from none that isn't there
  none_taken : (count id : ℕ) (a : N) → IsLettered S count id a → (p : ℕ) → count ≤ p → (ys xs : List (Move Letter))
      → AreMovesOf S a ys → AreMovesOf S (after_all S a ys) xs → taken p xs ≡ []
  none_taken count id a h p far ys [] before are = refl
  none_taken count id a h p far ys (Worked ∷ xs) before are =
      none_taken count id a h p far (ys ++ Worked ∷ []) xs (moves-append S a ys (Worked ∷ []) before (are.0, tt))
      (subst (λ n. AreMovesOf S n xs) (sym (after_all-append S a ys (Worked ∷ []))) are.1)
  none_taken count id a h p far ys (Sent q m ∷ xs) before are =
      none_taken count id a h p far (ys ++ Sent q m ∷ []) xs (moves-append S a ys (Sent q m ∷ []) before (are.0, tt))
      (subst (λ n. AreMovesOf S n xs) (sym (after_all-append S a ys (Sent q m ∷ []))) are.1)
  none_taken count id a h p far ys (Taken r m ∷ xs) before are =
      let near : r < count = (h.takes ys r before are.0).0 in
      other_taken r p m xs (λ e. absurd (omega (arith, near, far, e)))
      ∙ none_taken count id a h p far (ys ++ Taken r m ∷ []) xs (moves-append S a ys (Taken r m ∷ []) before (are.0, tt))
      (subst (λ n. AreMovesOf S n xs) (sym (after_all-append S a ys (Taken r m ∷ []))) are.1)

  -- the moves of the stations, by number
  abbrev pub moves_of : (ss : List (StationState N)) → AllEnded S ss → ℕ → List (Move Letter)
  moves_of [] each p = []
  moves_of (s ∷ ss) each zero = (each 0 s refl).stands.moves
  moves_of (s ∷ ss) each (suc p) = moves_of ss (λ q t e. each (suc q) t e) p

  abbrev Made : StationState N → List (Move Letter) → Type 0
  Made s ms = (e : EndedStation S s) × (e.stands.moves ≡ ms)

  made-of : (ss : List (StationState N)) (each : AllEnded S ss) (p : ℕ) (s : StationState N) → slice_get ss p ≡ Some s → Made s (moves_of ss each p)
  made-of [] each p s e = cc
  made-of (t ∷ ss) each zero s e = let same : t ≡ s = cc in subst (λ u. Made u (each 0 t refl).stands.moves) same (each 0 t refl, refl)
  made-of (t ∷ ss) each (suc p) s e = made-of ss (λ q u f. each (suc q) u f) p s e

  none-of : (ss : List (StationState N)) (each : AllEnded S ss) (p : ℕ) → slice_get ss p ≡ None → moves_of ss each p ≡ []
  none-of [] each p e = refl
  none-of (t ∷ ss) each zero e = cc
  none-of (t ∷ ss) each (suc p) e = none-of ss (λ q u f. each (suc q) u f) p e

  module _ (from : List N) (ss : List (StationState N)) (each : AllEnded S ss) (of : AreStationsOf from ss) (passed : ArePassed ss) where
    abbrev H : ℕ → List (Move Letter)
    H = moves_of ss each

    opening : (p : ℕ) (s : StationState N) → slice_get ss p ≡ Some s → slice_get from p ≡ Some s.opening
    opening p s e = ap (λ l. slice_get l p) of.openings ∙ got_map (λ (t : StationState N). t.opening) ss p s e

    no_opening : (p : ℕ) → slice_get ss p ≡ None → slice_get from p ≡ None
    no_opening p e = ap (λ l. slice_get l p) of.openings ∙ none_map (λ (t : StationState N). t.opening) ss p e

    made-by : (p : ℕ) (o : Option (StationState N)) → slice_get ss p ≡ o → AreMovesAt S (slice_get from p) (H p)
    made-by p None e = subst (λ n. AreMovesAt S n (H p)) (sym (no_opening p e)) (none-of ss each p e)
    made-by p (Some s) e = let m = made-of ss each p s e in subst (λ n. AreMovesAt S n (H p)) (sym (opening p s e)) (subst (AreMovesOf S s.opening) m.1 m.0.stands.are)

    done-by : (p : ℕ) (o : Option (StationState N)) → slice_get ss p ≡ o → IsDoneAt S (after_at S (slice_get from p) (H p))
    done-by p None e = subst (λ n. IsDoneAt S (after_at S n (H p))) (sym (no_opening p e)) tt
    done-by p (Some s) e = let m = made-of ss each p s e in
        subst (λ n. IsDoneAt S (after_at S n (H p))) (sym (opening p s e))
        (ap S.act (ap (after_all S s.opening) (sym m.1) ∙ m.0.stands.leads) ∙ m.0.ended.0)

    -- the ends of a pair, and what the moves made for it and took from it
    pub record Pair (p q : ℕ) (s t : StationState N) : Type 0 where
      pub out : Outgoing
      pub inn : Incoming
      pub out_is : slice_get s.outs q ≡ Some out
      pub inn_is : slice_get t.ins p ≡ Some inn
      pub held : List Letter
      pub passed_on : out.sent ≡ inn.taken ++ held
      pub sent_on : sent q (H p) ≡ out.sent
      pub taken_on : taken p (H q) ≡ inn.taken

    pub pair : (p q : ℕ) (s t : StationState N) → slice_get ss p ≡ Some s → slice_get ss q ≡ Some t → Pair p q s t
    pair p q s t ep eq =
        let ms = made-of ss each p s ep in
        let mt = made-of ss each q t eq in
        let o = got_below s.outs q (subst (λ k. q < k) (sym (of.wide p s ep)) (slice_get_within ss q t eq)) in
        let i = got_below t.ins p (subst (λ k. p < k) (sym (mt.0.stands.as_many ∙ of.wide q t eq)) (slice_get_within ss p s ep)) in
        let h = passed p q s t o.0 i.0 ep eq o.1 i.1 in
        record {
          out = o.0;
          inn = i.0;
          out_is = o.1;
          inn_is = i.1;
          held = h.0;
          passed_on = h.1;
          sent_on = ap (sent q) (sym ms.1) ∙ (ms.0.stands.outs_stand q o.0 o.1).made ∙ append-nil o.0.sent;
          taken_on = ap (taken p) (sym mt.1) ∙ (mt.0.stands.ins_stand p i.0 i.1).took;
        }

    prefix-pair : (p q : ℕ) (s t : StationState N) → Pair p q s t → IsPrefix (taken p (H q)) (sent q (H p))
    prefix-pair p q s t w =
        let all : sent q (H p) ≡ taken p (H q) ++ w.held = w.sent_on ∙ w.passed_on ∙ ap (λ l. l ++ w.held) (sym w.taken_on) in
        subst (IsPrefix (taken p (H q))) (sym all) (prefix-append (taken p (H q)) w.held)

    first-by : (p q : ℕ) (o u : Option (StationState N)) → slice_get ss p ≡ o → slice_get ss q ≡ u → IsPrefix (taken p (H q)) (sent q (H p))
    first-by p q o None ep eq = subst (λ l. IsPrefix (taken p l) (sent q (H p))) (sym (none-of ss each q eq)) tt
    first-by p q None (Some t) ep eq =
        let m = made-of ss each q t eq in
        let far : length t.outs ≤ p = subst (λ k. k ≤ p) (sym (of.wide q t eq)) (none_from ss p ep) in
        let none : taken p (H q) ≡ [] = ap (taken p) (sym m.1) ∙ none_taken (length t.outs) t.id t.opening m.0.stands.lettered p far [] m.0.stands.moves tt m.0.stands.are in
        subst (λ l. IsPrefix l (sent q (H p))) (sym none) tt
    first-by p q (Some s) (Some t) ep eq = prefix-pair p q s t (pair p q s t ep eq)

    module _ (run : Lockstep S (slice_get from)) where
      pub all-made : (p : ℕ) → H p ≡ all_moves run.phases run.last p
      all-made p =
          done-whole_at S (slice_get from p) (H p) (all_moves run.phases run.last p) (made-by p (slice_get ss p) refl)
          (run-made S run.phases run.number run.last (slice_get from) run.run p) (done-by p (slice_get ss p) refl)
          (law_of_prefixes S (slice_get from) run H (λ r. made-by r (slice_get ss r) refl) (λ r u. first-by r u (slice_get ss r) (slice_get ss u) refl refl) p)

      last-by : (p : ℕ) (o : Option (StationState N)) → slice_get ss p ≡ o
          → slice_get (map (λ (s : StationState N). s.node) ss) p ≡ after_at S (slice_get from p) (all_moves run.phases run.last p)
      last-by p None e = none_map (λ (s : StationState N). s.node) ss p e ∙ sym (ap (λ n. after_at S n (all_moves run.phases run.last p)) (no_opening p e))
      last-by p (Some s) e = let m = made-of ss each p s e in
          got_map (λ (t : StationState N). t.node) ss p s e ∙ ap Some (sym m.0.stands.leads ∙ ap (after_all S s.opening) (m.1 ∙ all-made p))
          ∙ sym (ap (λ n. after_at S n (all_moves run.phases run.last p)) (opening p s e))

      -- the last nodes
      pub last-are : (p : ℕ) → slice_get (map (λ (s : StationState N). s.node) ss) p ≡ after_at S (slice_get from p) (all_moves run.phases run.last p)
      last-are p = last-by p (slice_get ss p) refl

      -- what was sent in a pair
      pub sent-is : (p q : ℕ) (s t : StationState N) (w : Pair p q s t) → w.out.sent ≡ sent q (all_moves run.phases run.last p)
      sent-is p q s t w = sym w.sent_on ∙ ap (sent q) (all-made p)

      -- and all of it was taken
      pub all-taken : (p q : ℕ) (s t : StationState N) (w : Pair p q s t) → w.inn.taken ≡ w.out.sent
      all-taken p q s t w =
          let count : length (w.inn.taken ++ w.held) ≡ length w.inn.taken =
          ap length (sym w.passed_on ∙ sent-is p q s t w ∙ run-letters S run.phases run.number run.last (slice_get from) run.run p q
          ∙ ap (taken p) (sym (all-made q)) ∙ w.taken_on) in
          sym (w.passed_on ∙ ap (λ l. w.inn.taken ++ l) (no_rest w.inn.taken w.held count) ∙ append-nil w.inn.taken)
