-- No node sends a letter to itself.
use Rattle.std.proofs.Common.{◌≡◌, ℕ, ◌+◌, inl, inr, List, [], ◌∷◌, ◌++◌, length, Option, Some, refl, sym, ◌∙◌, ap, arith, append-nil, length-append, eq-eqb}
use Rattle.std.specs.List.{slice_get}
use Rattle.node_law.specs.declared.act.Act.TheVariants.{Send, Take}
use Rattle.hpf_base.specs.declared.node.NodeId.{NodeId}
use Rattle.node_law.specs.NodeSteps.{NodeSteps, Move, Worked, Sent, Taken, IsMoveOf, after_at, sent, taken, IsPrefix}
use Rattle.node_law.specs.Phases.{PhaseShare, moves, next_number, IsLockstep, Lockstep, all_moves}
use Rattle.node_law.specs.Cores.{CoreState}
use Rattle.node_law.proofs.Prefixes.{sent-append, taken-append, number-eq}
use Rattle.node_law.proofs.LawOfPrefixes.{ShareFacts, share-facts}
use Rattle.node_law.proofs.History.{IsHistory}
use Rattle.node_law.proofs.NeverStuck.{confluence, sent-longer, taken-longer, end-sent}
use Rattle.node_law.proofs.NextMove.{run-letters, next-move}

module _ {N M : Type 0} (S : NodeSteps N M) where
  run-to_others : (phases : List (ℕ → PhaseShare M)) (n : ℕ) (last : ℕ → List (Move M)) (ms : ℕ → Option N) → IsLockstep S n ms phases last → (p : ℕ)
      → sent p (all_moves phases last p) ≡ []
  run-to_others [] n last ms h p = end-sent S (ms p) (last p) p (h p)
  run-to_others (shares ∷ phases) n last ms h p =
      let f : ShareFacts S (ms p) (shares p) = share-facts S n (ms p) (shares p) (h.0.each p) in
      let ih : sent p (all_moves phases last p) ≡ [] = run-to_others phases (next_number n) last (λ r. after_at S (ms r) (moves (shares r))) h.1 p in
      simp (sent-append, h.0.to_others p, f.back_sent p, append-nil, ih)

  module _ (ns : List N) (run : Lockstep S (slice_get ns)) (c : CoreState N M) (H : ℕ → List (Move M)) (history : IsHistory S ns c H) where
    none-sent : (p : ℕ) → length (sent p (all_moves run.phases run.last p)) ≡ 0
    none-sent p = ap length (run-to_others run.phases run.number run.last (slice_get ns) run.run p)

    none-taken : (p : ℕ) → length (taken p (all_moves run.phases run.last p)) ≡ 0
    none-taken p = ap length (sym (run-letters S run.phases run.number run.last (slice_get ns) run.run p p)) ∙ none-sent p

    not-sent : (p : ℕ) (m : M) → IsPrefix (H p ++ (Sent p m ∷ [])) (all_moves run.phases run.last p) → ⊥
    not-sent p m prefix =
        let l = sent-longer p (H p ++ (Sent p m ∷ [])) (all_moves run.phases run.last p) prefix in
        let one : length (sent p (H p ++ (Sent p m ∷ []))) ≡ length (sent p (H p)) + 1 = rw (sent-append p (H p) (Sent p m ∷ []), length-append, eq-eqb p p refl) refl in
        let none = none-sent p in
        absurd (omega arith)

    not-taken : (p : ℕ) (m : M) → IsPrefix (H p ++ (Taken p m ∷ [])) (all_moves run.phases run.last p) → ⊥
    not-taken p m prefix =
        let l = taken-longer p (H p ++ (Taken p m ∷ [])) (all_moves run.phases run.last p) prefix in
        let one : length (taken p (H p ++ (Taken p m ∷ []))) ≡ length (taken p (H p)) + 1 = rw (taken-append p (H p) (Taken p m ∷ []), length-append, eq-eqb p p refl) refl in
        let none = none-taken p in
        absurd (omega arith)

    pub sends-to_others : (p : ℕ) (a : N) (q : NodeId) → slice_get c.nodes p ≡ Some a → S.act a ≡ Send q → q.0 ≡ p → ⊥
    sends-to_others p a q is e self = elim (next-move S ns run c H history p a is) [ inl d ↦ cc | inr x ↦ go x.0 x.1 x.2 ]
      where
        go : (x : Move M) → IsPrefix (H p ++ (x ∷ [])) (all_moves run.phases run.last p) → IsMoveOf S a x → ⊥
        go Worked prefix does = cc
        go (Sent t m) prefix does = let w : t ≡ p = sym (number-eq q.0 t cc) ∙ self in not-sent p m (rw w at prefix)
        go (Taken t m) prefix does = cc

    pub takes-of_others : (p : ℕ) (a : N) (q : NodeId) → slice_get c.nodes p ≡ Some a → S.act a ≡ Take q → q.0 ≡ p → ⊥
    takes-of_others p a q is e self = elim (next-move S ns run c H history p a is) [ inl d ↦ cc | inr x ↦ go x.0 x.1 x.2 ]
      where
        go : (x : Move M) → IsPrefix (H p ++ (x ∷ [])) (all_moves run.phases run.last p) → IsMoveOf S a x → ⊥
        go Worked prefix does = cc
        go (Sent t m) prefix does = cc
        go (Taken t m) prefix does = let w : t ≡ p = sym (number-eq q.0 t cc) ∙ self in not-taken p m (rw w at prefix)

    pub own-empty : (p : ℕ) → c.queue p p ≡ []
    own-empty p = empty (c.queue p p)
        (let l = sent-longer p (H p) (all_moves run.phases run.last p) (confluence S ns run c H history p) in
        let none = none-sent p in
        let both : length (sent p (H p)) ≡ length (taken p (H p)) + length (c.queue p p) = ap length (history.letters p p) ∙ length-append (taken p (H p)) (c.queue p p) in
        omega arith)
      where
        empty : (l : List M) → length l ≡ 0 → l ≡ []
        empty [] k = refl
        empty (y ∷ l) k = cc
