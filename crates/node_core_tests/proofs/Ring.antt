-- The lockstep run of the three nodes.
use Rattle.std.proofs.Common.{◌≡◌, ℕ, zero, suc, ◌==◌, false, [], ◌∷◌, Option, Some, None, refl, arith}
use Rattle.std.proofs.lemmas.Bool.{ne_eqb}
use Rattle.std.specs.List.{slice_get}
use Rattle.node_law.specs.NodeSteps.{Worked, Sent, Taken, sent, taken, after_at}
use Rattle.node_law.specs.Phases.{PhaseShare, moves, next_number, IsShareAt, IsPhase, IsEndAt, Lockstep}
use Rattle.node_core_tests.specs.declared.passer.Passer.{Passer}
use Rattle.node_core_tests.specs.Passer.{passer_steps}
use Rattle.node_core_tests.specs.Three.{at_start, three}

-- the shares of three nodes, by their numbers
abbrev pub shares_of : PhaseShare ℕ → PhaseShare ℕ → PhaseShare ℕ → ℕ → PhaseShare ℕ
shares_of x y z zero = x
shares_of x y z (suc zero) = y
shares_of x y z (suc (suc zero)) = z
shares_of x y z (suc (suc (suc p))) = record { front = []; back = [] }

-- these are the three nodes
pub record AreThree (ns : ℕ → Option Passer) (x y z : Passer) : Type 0 where
  pub first : ns 0 ≡ Some x
  pub second : ns 1 ≡ Some y
  pub third : ns 2 ≡ Some z
  pub rest : (p : ℕ) → ns (suc (suc (suc p))) ≡ None

-- a node after the first phase
abbrev pub later : ℕ → ℕ → ℕ → ℕ → Passer
later n next before number = record { next = next; before = before; turn = 3; phase = n; number = number }

-- the first phase: each node works once, sends to the next and takes from the one before
abbrev pub ring_shares : ℕ → ℕ → ℕ → ℕ → PhaseShare ℕ
ring_shares a b c = shares_of
    (record { front = Worked ∷ (Sent 1 a ∷ []); back = Taken 2 c ∷ [] })
    (record { front = Worked ∷ (Sent 2 b ∷ []); back = Taken 0 a ∷ [] })
    (record { front = Worked ∷ (Sent 0 c ∷ []); back = Taken 1 b ∷ [] })

-- a later phase: node 0 sends to node 1, and node 2 works once
abbrev pub pair_shares : ℕ → ℕ → PhaseShare ℕ
pair_shares a = shares_of
    (record { front = Sent 1 a ∷ []; back = [] })
    (record { front = []; back = Taken 0 a ∷ [] })
    (record { front = Worked ∷ []; back = [] })

ring-letters : (a b c p q : ℕ) → sent q (ring_shares a b c p).front ≡ taken p (ring_shares a b c q).back
ring-letters a b c zero zero = refl
ring-letters a b c zero (suc zero) = refl
ring-letters a b c zero (suc (suc zero)) = refl
ring-letters a b c zero (suc (suc (suc q))) = rw (ne_eqb 1 (suc (suc (suc q))) (λ e. absurd (omega arith))) refl
ring-letters a b c (suc zero) zero = refl
ring-letters a b c (suc zero) (suc zero) = refl
ring-letters a b c (suc zero) (suc (suc zero)) = refl
ring-letters a b c (suc zero) (suc (suc (suc q))) = rw (ne_eqb 2 (suc (suc (suc q))) (λ e. absurd (omega arith))) refl
ring-letters a b c (suc (suc zero)) zero = refl
ring-letters a b c (suc (suc zero)) (suc zero) = refl
ring-letters a b c (suc (suc zero)) (suc (suc zero)) = refl
ring-letters a b c (suc (suc zero)) (suc (suc (suc q))) = rw (ne_eqb 0 (suc (suc (suc q))) (λ e. absurd (omega arith))) refl
ring-letters a b c (suc (suc (suc p))) zero = rw (ne_eqb 2 (suc (suc (suc p))) (λ e. absurd (omega arith))) refl
ring-letters a b c (suc (suc (suc p))) (suc zero) = rw (ne_eqb 0 (suc (suc (suc p))) (λ e. absurd (omega arith))) refl
ring-letters a b c (suc (suc (suc p))) (suc (suc zero)) = rw (ne_eqb 1 (suc (suc (suc p))) (λ e. absurd (omega arith))) refl
ring-letters a b c (suc (suc (suc p))) (suc (suc (suc q))) = refl

pair-letters : (a p q : ℕ) → sent q (pair_shares a p).front ≡ taken p (pair_shares a q).back
pair-letters a zero zero = refl
pair-letters a zero (suc zero) = refl
pair-letters a zero (suc (suc zero)) = refl
pair-letters a zero (suc (suc (suc q))) = rw (ne_eqb 1 (suc (suc (suc q))) (λ e. absurd (omega arith))) refl
pair-letters a (suc zero) zero = refl
pair-letters a (suc zero) (suc zero) = refl
pair-letters a (suc zero) (suc (suc zero)) = refl
pair-letters a (suc zero) (suc (suc (suc q))) = refl
pair-letters a (suc (suc zero)) zero = refl
pair-letters a (suc (suc zero)) (suc zero) = refl
pair-letters a (suc (suc zero)) (suc (suc zero)) = refl
pair-letters a (suc (suc zero)) (suc (suc (suc q))) = refl
pair-letters a (suc (suc (suc p))) zero = refl
pair-letters a (suc (suc (suc p))) (suc zero) = rw (ne_eqb 0 (suc (suc (suc p))) (λ e. absurd (omega arith))) refl
pair-letters a (suc (suc (suc p))) (suc (suc zero)) = refl
pair-letters a (suc (suc (suc p))) (suc (suc (suc q))) = refl

ring-to_others : (a b c p : ℕ) → sent p (ring_shares a b c p).front ≡ []
ring-to_others a b c zero = refl
ring-to_others a b c (suc zero) = refl
ring-to_others a b c (suc (suc zero)) = refl
ring-to_others a b c (suc (suc (suc p))) = refl

pair-to_others : (a p : ℕ) → sent p (pair_shares a p).front ≡ []
pair-to_others a zero = refl
pair-to_others a (suc zero) = refl
pair-to_others a (suc (suc zero)) = refl
pair-to_others a (suc (suc (suc p))) = refl

pub ring-each : (a b c : ℕ) (p : ℕ) → IsShareAt passer_steps 1 (slice_get (three a b c) p) (ring_shares a b c p)
ring-each a b c zero = record {
  made = (refl, ((refl, refl), (refl, tt)));
  front = (omega arith, tt);
  back = (omega arith, tt);
  number = (refl, (refl, (refl, refl)));
  awaited = (refl, tt);
}
ring-each a b c (suc zero) = record {
  made = (refl, ((refl, refl), (refl, tt)));
  front = (omega arith, tt);
  back = (omega arith, tt);
  number = (refl, (refl, (refl, refl)));
  awaited = (refl, tt);
}
ring-each a b c (suc (suc zero)) = record {
  made = (refl, ((refl, refl), (refl, tt)));
  front = (omega arith, tt);
  back = (omega arith, tt);
  number = (refl, (refl, (refl, refl)));
  awaited = (refl, tt);
}
ring-each a b c (suc (suc (suc p))) = refl

ring-phase : (a b c : ℕ) → IsPhase passer_steps 1 (slice_get (three a b c)) (ring_shares a b c)
ring-phase a b c = record { begun = (0, at_start 1 2 a, refl, refl); each = ring-each a b c; letters = ring-letters a b c; to_others = ring-to_others a b c }

module _ (n a b c : ℕ) (ns : ℕ → Option Passer) (are : AreThree ns (later n 1 2 a) (later n 2 0 b) (later n 0 1 c)) where
  pair-each : (n == 6) ≡ false → (p : ℕ) → IsShareAt passer_steps n (ns p) (pair_shares a p)
  pair-each h zero = rw are.first (record { made = ((rw h refl, refl), tt); front = (omega arith, tt); back = tt; number = (refl, refl); awaited = tt })
  pair-each h (suc zero) = rw are.second (record { made = (rw h refl, tt); front = tt; back = (omega arith, tt); number = (refl, refl); awaited = (refl, tt) })
  pair-each h (suc (suc zero)) = rw are.third (record { made = (rw h refl, tt); front = tt; back = tt; number = (refl, refl); awaited = tt })
  pair-each h (suc (suc (suc p))) = rw (are.rest p) refl

  pub pair-phase : (n == 6) ≡ false → IsPhase passer_steps n ns (pair_shares a)
  pair-phase h = record { begun = (0, later n 1 2 a, are.first, refl); each = pair-each h; letters = pair-letters a; to_others = pair-to_others a }

  pub pair-after : AreThree (λ p. after_at passer_steps (ns p) (moves (pair_shares a p))) (later (next_number n) 1 2 a) (later (next_number n) 2 0 a) (later (next_number n) 0 1 c)
  pair-after = record {
    first = rw are.first refl;
    second = rw are.second refl;
    third = rw are.third refl;
    rest = λ p. rw (are.rest p) refl;
  }

ended : (a b c : ℕ) (ns : ℕ → Option Passer) → AreThree ns (later 6 1 2 a) (later 6 2 0 b) (later 6 0 1 c) → (p : ℕ) → IsEndAt passer_steps (ns p) []
ended a b c ns are zero = rw are.first (tt, tt, tt, refl)
ended a b c ns are (suc zero) = rw are.second (tt, tt, tt, refl)
ended a b c ns are (suc (suc zero)) = rw are.third (tt, tt, tt, refl)
ended a b c ns are (suc (suc (suc p))) = rw (are.rest p) refl

-- the first phase, and four later ones
pub three-run : (a b c : ℕ) → Lockstep passer_steps (slice_get (three a b c))
three-run a b c =
    let n1 : ℕ → Option Passer = λ p. after_at passer_steps (slice_get (three a b c) p) (moves (ring_shares a b c p)) in
    let r1 : AreThree n1 (later 2 1 2 c) (later 2 2 0 a) (later 2 0 1 b) = record { first = refl; second = refl; third = refl; rest = λ p. refl } in
    let n2 : ℕ → Option Passer = λ p. after_at passer_steps (n1 p) (moves (pair_shares c p)) in
    let r2 : AreThree n2 (later 3 1 2 c) (later 3 2 0 c) (later 3 0 1 b) = pair-after 2 c a b n1 r1 in
    let n3 : ℕ → Option Passer = λ p. after_at passer_steps (n2 p) (moves (pair_shares c p)) in
    let r3 : AreThree n3 (later 4 1 2 c) (later 4 2 0 c) (later 4 0 1 b) = pair-after 3 c c b n2 r2 in
    let n4 : ℕ → Option Passer = λ p. after_at passer_steps (n3 p) (moves (pair_shares c p)) in
    let r4 : AreThree n4 (later 5 1 2 c) (later 5 2 0 c) (later 5 0 1 b) = pair-after 4 c c b n3 r3 in
    let n5 : ℕ → Option Passer = λ p. after_at passer_steps (n4 p) (moves (pair_shares c p)) in
    let r5 : AreThree n5 (later 6 1 2 c) (later 6 2 0 c) (later 6 0 1 b) = pair-after 5 c c b n4 r4 in
    record {
      number = 1;
      phases = ring_shares a b c ∷ (pair_shares c ∷ (pair_shares c ∷ (pair_shares c ∷ (pair_shares c ∷ []))));
      last = λ p. [];
      run = (
        ring-phase a b c,
        (
          pair-phase 2 c a b n1 r1 refl,
          (pair-phase 3 c c b n2 r2 refl, (pair-phase 4 c c b n3 r3 refl, (pair-phase 5 c c b n4 r4 refl, ended c c b n5 r5))),
        ),
      );
    }
