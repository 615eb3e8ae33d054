-- How nodes number their letters, whatever they take.
use Rattle.std.proofs.Common.{◌≡◌, ℕ, ◌<◌, IsTrue, Bool, true, false, if◌then◌else◌, nat_lt, [], ◌∷◌, length, get_or, Some, None, refl, sym, ◌∙◌, ap, subst, eq-eqb}
use Rattle.std.specs.List.{slice_get}
use Rattle.std.proofs.lemmas.Option.{same_Some}
use Rattle.node_law.specs.declared.act.Act.TheVariants.{Send, Take}
use Rattle.node_law.specs.NodeSteps.{after_all, sent, taken}
use Rattle.letters.specs.declared.letter.Letter.{Letter}
use Rattle.pair_mailbox.specs.Rule.{IsNextLetter}
use Rattle.machine_steps.specs.Agrees.{first_own, standing, openings}
use Rattle.machine_steps.specs.Instr.{Status, Running, Finished, Faulted, Instr}
use Rattle.machine_steps.specs.Machine.{Machine}
use Rattle.machine_steps.specs.Node.{FaultValues, Node, Stage, Ready, Passing, Passed, act_of, letter_of, awaits_by, node_steps}
use Rattle.node_run.proofs.Numbers.{Numbers, IsNumbered, IsWithin, same-node, moved-from, opening-numbered}
use Rattle.node_run.proofs.Openings.{listed}
use Rattle.all_pairs.specs.Routes.{route}
use Rattle.stations.specs.Lettered.{IsLettered}

module _ {C F : Type 0} (faults : FaultValues F) (meaning : C → Instr F) (count id : ℕ) where
  sends-next : (told heard : ℕ → ℕ) (st : Status F) (s : Stage) (q : ℕ) (a : Node C F) → act_of st s ≡ Send (record { 0 = q }) → Numbers count id told heard a → IsWithin count s
      → (q < count) × IsNextLetter (route id q) (told q) (letter_of s a)
  sends-next told heard Running (Passing (x ∷ outbox) inbox) q a e h w =
      let same : x.to ≡ q = same-node x.to q cc in
      subst (λ u. (u < count) × IsNextLetter (route id u) (told u) (letter_of (Passing (x ∷ outbox) inbox) a)) same
      (w.0.0, record { run = refl; from = ap (λ k. record { 0 = k }) h.id; to = refl; number = h.to x.to w.0.0 })
  sends-next told heard Running Ready q a e h w = cc
  sends-next told heard Running (Passing [] []) q a e h w = cc
  sends-next told heard Running (Passing [] (p ∷ inbox)) q a e h w = cc
  sends-next told heard Running Passed q a e h w = cc
  sends-next told heard Finished s q a e h w = cc
  sends-next told heard (Faulted f) s q a e h w = cc

  takes-next : (told heard : ℕ → ℕ) (st : Status F) (s : Stage) (p : ℕ) (a : Node C F) → act_of st s ≡ Take (record { 0 = p }) → Numbers count id told heard a → IsWithin count s
      → (p < count) × ((x : Letter) → IsNextLetter (route p id) (heard p) x → IsTrue (awaits_by s a x))
  takes-next told heard Running (Passing [] (y ∷ inbox)) p a e h w =
      let same : y ≡ p = same-node y p cc in
      subst (λ u. (u < count) × ((x : Letter) → IsNextLetter (route u id) (heard u) x → IsTrue (awaits_by (Passing [] (y ∷ inbox)) a x))) same (
        w.1.0,
        λ x g. rw (
          eq-eqb x.run 1 g.run,
          eq-eqb x.from.0 y (ap (λ k. k.0) g.from),
          eq-eqb x.to.0 a.id (ap (λ k. k.0) g.to ∙ sym h.id),
          eq-eqb x.number (get_or a.next_from y 0) (g.number ∙ sym (h.from y w.1.0)),
        ) refl,
      )
  takes-next told heard Running Ready p a e h w = cc
  takes-next told heard Running (Passing [] []) p a e h w = cc
  takes-next told heard Running (Passing (x ∷ outbox) inbox) p a e h w = cc
  takes-next told heard Running Passed p a e h w = cc
  takes-next told heard Finished s p a e h w = cc
  takes-next told heard (Faulted f) s p a e h w = cc

  pub lettered : (a : Node C F) → IsNumbered count id (λ q. 0) (λ p. 0) a → IsLettered (node_steps faults meaning) count id a
  lettered a h = record {
    sends = λ xs q are e.
        let b : Node C F = after_all (node_steps faults meaning) a xs in
        let g = moved-from faults meaning count id xs a h are in
        sends-next (λ q. length (sent q xs)) (λ p. length (taken p xs)) b.control.status b.stage q b e g.0 g.1;
    takes = λ xs p are e.
        let b : Node C F = after_all (node_steps faults meaning) a xs in
        let g = moved-from faults meaning count id xs a h are in
        takes-next (λ q. length (sent q xs)) (λ p. length (taken p xs)) b.control.status b.stage p b e g.0 g.1;
  }

-- the nodes at the beginning of a run
pub openings-lettered : {C F : Type 0} (faults : FaultValues F) (meaning : C → Instr F) (count : ℕ) (m : Machine C F) (p : ℕ) (a : Node C F)
    → slice_get (openings count m) p ≡ Some a → IsLettered (node_steps faults meaning) count p a
openings-lettered {C} {F} faults meaning count m p a e =
    subst (IsLettered (node_steps faults meaning) count p) (by_test (nat_lt p count) (sym (listed opening count p) ∙ e))
    (lettered faults meaning count p (opening p) (opening-numbered count m p))
  where
    opening : ℕ → Node C F
    opening = standing count m 1 (first_own count)

    by_test : (b : Bool) → (if b then Some (opening p) else None) ≡ Some a → opening p ≡ a
    by_test true h = same_Some (opening p) a h
    by_test false h = cc
