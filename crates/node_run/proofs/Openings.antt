-- The nodes at the beginning of a run.
use Rattle.std.proofs.Common.{◌≡◌, ℕ, zero, suc, ◌+◌, ◌<◌, ◌≤◌, List, map, Some, None, refl, sym, ◌∙◌, ap, subst, arith, ◌⊎◌, inl, inr}
use Rattle.std.specs.List.{range_with_len, slice_get}
use Rattle.std.proofs.Math.Path.{fun_ext}
use Rattle.std.proofs.lemmas.Bool.{cases_lt, lt-ltb, le-ltb}
use Rattle.std.proofs.lemmas.List.{get_or-replicate, length-replicate}
use Rattle.hpf_base.specs.declared.index.Shape.{Shape}
use Rattle.node_law.specs.NodeSteps.{after_at}
use Rattle.node_law.specs.Phases.{IsLockstep, all_moves}
use Rattle.machine_steps.specs.Agrees.{by_number, standing, Agree, AreJoined, IsWhole, IsFirst, IsOver, IsValidCode, OpeningsRun, first_own, openings}
use Rattle.machine_steps.specs.Instr.{Instr}
use Rattle.machine_steps.specs.Machine.{Machine, is_before, instr_at, steps}
use Rattle.machine_steps.specs.Node.{FaultValues, node_steps}
use Rattle.node_run.proofs.Plain.{at-start}
use Rattle.node_run.proofs.WholeRuns.{nodes-run}

-- a list of nodes, by number
at-number : {A : Type 0} (f : ℕ → A) (n lo p : ℕ) → (p < n → slice_get (map f (range_with_len lo n)) p ≡ Some (f (lo + p))) ×
    (n ≤ p → slice_get (map f (range_with_len lo n)) p ≡ None)
at-number f zero lo p = ((λ lt. absurd (omega arith)), (λ ge. refl))
at-number f (suc n) lo zero = ((λ lt. let e : lo ≡ lo + 0 = omega arith in ap (λ x. Some (f x)) e), (λ ge. absurd (omega arith)))
at-number f (suc n) lo (suc p) =
    let r = at-number f n (lo + 1) p in
    let e : lo + 1 + p ≡ lo + suc p = omega arith in
    ((λ lt. r.0 (omega arith) ∙ ap (λ x. Some (f x)) e), (λ ge. r.1 (omega arith)))

pub listed : {A : Type 0} (f : ℕ → A) (count p : ℕ) → slice_get (map f (range_with_len 0 count)) p ≡ by_number count f p
listed f count p = by_cases (cases_lt p count)
  where
    by_cases : (p < count) ⊎ (count ≤ p) → slice_get (map f (range_with_len 0 count)) p ≡ by_number count f p
    by_cases (inl lt) = rw (lt-ltb p count lt) ((at-number f count 0 p).0 lt ∙ ap (λ x. Some (f x)) (omega arith))
    by_cases (inr ge) = rw (le-ltb p count ge) ((at-number f count 0 p).1 ge)

module _ {C F : Type 0} (faults : FaultValues F) (meaning : C → Instr F) (count : ℕ) (m : Machine C F) where
  pub opening-agree : m.kept ≡ None → m.substep ≡ 0 → Agree faults meaning count m (first_own count)
  opening-agree none first = record {
    numbers = record {
      sent = λ p lt. length-replicate count 1;
      taken = λ p lt. length-replicate count 1;
      same = λ p q lp lq. get_or-replicate count q 1 0 lq ∙ sym (get_or-replicate count p 1 0 lp);
    };
    kept = subst (λ o. IsFirst is_before count o (λ p. None)) (sym none) (record { others = λ p lt l e. cc; here = λ l e. cc });
    joined = subst (λ j. AreJoined count (instr_at meaning m.code m.control.at) j (λ p. None) m.joined) (sym first)
        (at-start count (instr_at meaning m.code m.control.at) (λ p. None) m.joined);
  }

module _ {C F : Type 0} (faults : FaultValues F) (meaning : C → Instr F) (count k : ℕ) (shapes : List Shape) (m : Machine C F) where
  pub openings-run : 0 < count → m.kept ≡ None → m.substep ≡ 0 → IsValidCode meaning count shapes m.code → IsWhole count shapes m → IsOver (steps meaning k m).control.status
      → OpeningsRun faults meaning count m (steps meaning k m)
  openings-run some none first valid whole over =
      let run = nodes-run faults meaning count shapes some k 1 m (first_own count) (opening-agree faults meaning count m none first) valid whole over in
      let same : by_number count (standing count m 1 (first_own count)) ≡ slice_get (openings count m) = fun_ext
      (λ p. sym (listed (standing count m 1 (first_own count)) count p)) in
      record {
        lockstep = record {
          number = run.lockstep.number;
          phases = run.lockstep.phases;
          last = run.lockstep.last;
          run = subst (λ ns. IsLockstep (node_steps faults meaning) run.lockstep.number ns run.lockstep.phases run.lockstep.last) same run.lockstep.run;
        };
        number = run.number;
        new = run.new;
        ends = λ p. ap (λ o. after_at (node_steps faults meaning) o (all_moves run.lockstep.phases run.lockstep.last p)) (listed (standing count m 1 (first_own count)) count p)
            ∙ run.ends p;
        agree = run.agree;
      }
