-- Runs of the machine that are over.
use Rattle.std.proofs.Common.{◌≡◌, ℕ, zero, suc, ◌<◌, Bool, true, false, IsTrue, List, Option, Some, None, refl, sym, ap, ◌∙◌, subst, arith}
use Rattle.std.specs.List.{slice_get}
use Rattle.machine_steps.specs.Agrees.{IsOver}
use Rattle.machine_steps.specs.Instr.{Instr, Tuples, Fold, Item, Reduce, Print, Status, Running, Finished, Faulted}
use Rattle.machine_steps.specs.Machine.{Machine, instr_at, print_step, reduce_step, step, step_by, step_while, steps}

both : (b : Bool) → IsTrue b → b ≡ false → ⊥
both true h e = cc
both false h e = cc

-- a run is over that a test finds not running
pub over-tested : {F : Type 0} (s : Status F) (running : Bool) → (s ≡ Running → IsTrue running) → running ≡ false → IsOver s
over-tested Running running h e = both running (h refl) e
over-tested Finished running h e = tt
over-tested (Faulted f) running h e = tt

module _ {C F : Type 0} (meaning : C → Instr F) where
  -- a run that is over makes no step
  pub over-stays : (s : Status F) (m : Machine C F) → IsOver s → step_while meaning s m ≡ m
  over-stays Running m h = absurd h
  over-stays Finished m h = refl
  over-stays (Faulted f) m h = refl

  over-steps : (k : ℕ) (m : Machine C F) → IsOver m.control.status → steps meaning k m ≡ m
  over-steps zero m h = refl
  over-steps (suc k) m h = ap (steps meaning k) (over-stays m.control.status m h) ∙ over-steps k m h

  -- one step more at the end
  pub steps-more : (k : ℕ) (m : Machine C F) → steps meaning (suc k) m ≡ step meaning (steps meaning k m)
  steps-more zero m = refl
  steps-more (suc k) m = steps-more k (step meaning m)

  -- a run is over with one end
  pub same-end : (j k : ℕ) (m : Machine C F) → IsOver (steps meaning j m).control.status → IsOver (steps meaning k m).control.status
      → steps meaning j m ≡ steps meaning k m
  same-end zero k m a b = sym (over-steps k m a)
  same-end (suc j) zero m a b = over-steps (suc j) m b
  same-end (suc j) (suc k) m a b = same-end j k (step meaning m) a b

  pub over-next : (k : ℕ) (m : Machine C F) → IsOver (steps meaning k m).control.status → IsOver (steps meaning k (step meaning m)).control.status
  over-next k m h =
      let last : Machine C F = steps meaning k m in
      subst (λ (x : Machine C F). IsOver x.control.status) (sym (steps-more k m ∙ over-stays last.control.status last h)) h

  -- ---- the steps that are left

  abbrev counted : Status F → ℕ → ℕ
  counted Running n = suc n
  counted Finished n = 0
  counted (Faulted f) n = 0

  -- how many of the next k steps are made
  abbrev pub left : ℕ → Machine C F → ℕ
  left zero m = 0
  left (suc k) m = counted m.control.status (left k (step meaning m))

  over-counted : (s : Status F) (n : ℕ) → IsOver s → counted s n ≡ 0
  over-counted Running n h = absurd h
  over-counted Finished n h = refl
  over-counted (Faulted f) n h = refl

  left-stays : (k : ℕ) (m : Machine C F) → IsOver (steps meaning k m).control.status → left (suc k) m ≡ left k m
  left-stays zero m h = over-counted m.control.status 0 h
  left-stays (suc k) m h = ap (counted m.control.status) (left-stays k (step meaning m) h)

  pub left-falls : (k : ℕ) (m : Machine C F) → m.control.status ≡ Running → IsOver (steps meaning k m).control.status → left k (step meaning m) < left k m
  left-falls zero m e h = absurd (subst IsOver e h)
  left-falls (suc k) m e h =
      let same : left (suc k) (step meaning m) ≡ left k (step meaning m) = left-stays k (step meaning m) h in
      let more : left (suc k) m ≡ suc (left k (step meaning m)) = ap (λ s. counted s (left k (step meaning m))) e in
      omega (arith, same, more)

  -- ---- the code

  reduce-code : (k : ℕ) (t : Tuples F) (f : Fold) (slot : ℕ) (m : Machine C F) → (reduce_step k t f slot m).code ≡ m.code
  reduce-code zero t f slot m = refl
  reduce-code (suc zero) t f slot m = refl
  reduce-code (suc (suc k)) t f slot m = refl

  print-code : (o : Option Item) (line : List ℕ → List ℕ) (m : Machine C F) → (print_step o line m).code ≡ m.code
  print-code (Some x) line m = refl
  print-code None line m = refl

  by-code : (i : Instr F) (m : Machine C F) → (step_by i m).code ≡ m.code
  by-code (Reduce t f slot) m = reduce-code m.substep t f slot m
  by-code (Print items line) m = print-code (slice_get items m.substep) line m
  by-code i m = refl

  while-code : (s : Status F) (m : Machine C F) → (step_while meaning s m).code ≡ m.code
  while-code Running m = by-code (instr_at meaning m.code m.control.at) m
  while-code Finished m = refl
  while-code (Faulted f) m = refl

  -- a step leaves it as it is
  pub same-code : (m : Machine C F) → (step meaning m).code ≡ m.code
  same-code m = while-code m.control.status m
