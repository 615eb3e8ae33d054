-- Each entry of a trail is passed at a state of the machine.
use Rattle.std.proofs.Common.{◌≡◌, ℕ, zero, suc, ◌⊎◌, inl, inr, List, [], ◌∷◌, ◌++◌, ℤ, take, Option, Some, None, refl, sym, subst, arith}
use Rattle.std.specs.List.{slice_get}
use Rattle.std.proofs.lemmas.Option.{same_Some}
use Rattle.array_meaning.specs.Faults.{Fault}
use Rattle.statement_trail.specs.Trail.{Trail, TrailEntry}
use Rattle.machine_steps.specs.Instr.{Status, Running, Finished, Faulted}
use Rattle.machine_steps.specs.Machine.{Machine, step}
use Rattle.node_code.specs.Instructions.{Instruction, NewMapping, Par, ParForall, ParNest, ParCopy, ParForallCopy, Reduce, Remap}
use Rattle.code_meaning.specs.Instructions.{ArrayTable, meaning_of}
use Rattle.node_code.specs.declared.nest.NestRole.{NestRole}
use Rattle.node_code.specs.declared.nest.NestRole.TheVariants.{Assigns, Tests, SetsElse, SetsMark}
use Rattle.passed_states.specs.Places.{IsPassed}
use Rattle.lowered_expressions.specs.Passed.{Passed, IsTrailEntry, IsTrail, unless_mark, note, note_at, note_while, passed, passed_now}

-- nothing, or one
abbrev Few : List Passed → Type 0
Few ps = (ps ≡ []) ⊎ ((p : Passed) × (ps ≡ p ∷ []))

few-nest : (role : NestRole) (p : Passed) → Few (unless_mark role p)
few-nest Assigns p = inr (p, refl)
few-nest Tests p = inr (p, refl)
few-nest SetsElse p = inr (p, refl)
few-nest SetsMark p = inl refl

few-noted : (x : Instruction) (slots : List ℤ) → Few (note x slots)
few-noted (Par p) slots = inr (_, refl)
few-noted (ParForall p) slots = inr (_, refl)
few-noted (ParNest p) slots = few-nest p.role (record { instruction = ParNest p; slots = slots })
few-noted (ParCopy copy p) slots = inr (_, refl)
few-noted (ParForallCopy copy p) slots = inr (_, refl)
few-noted (Reduce p r x) slots = inr (_, refl)
few-noted (Remap line new) slots = inr (_, refl)
few-noted x slots = inl refl

few-at : (k : ℕ) (o : Option Instruction) (slots : List ℤ) → Few (note_at k o slots)
few-at zero (Some x) slots = few-noted x slots
few-at zero None slots = inl refl
few-at (suc k) o slots = inl refl

few-while : (s : Status Fault) (k : ℕ) (o : Option Instruction) (slots : List ℤ) → Few (note_while s k o slots)
few-while Running k o slots = few-at k o slots
few-while Finished k o slots = inl refl
few-while (Faulted f) k o slots = inl refl

few-now : (m : Machine Instruction Fault) → Few (passed_now m)
few-now m = few-while m.control.status m.substep (slice_get m.code m.control.at) m.control.slots

module _ (table : ArrayTable) (moves : ℕ → List NewMapping) where
  pub entry-passed : (k : ℕ) (m : Machine Instruction Fault) (T : Trail) → IsTrail moves (passed table k m) T → (i : ℕ) (e : TrailEntry) → slice_get T i ≡ Some e
      → IsPassed table moves k m T i e
  entry-passed zero m [] h i e at = absurd cc
  entry-passed zero m (x ∷ T) h i e at = absurd h
  entry-passed (suc k) m T h i e at = by_few (few-now m) (λ T h i at. entry-passed k (step (meaning_of table) m) T h i e at)
    where
      m' : Machine Instruction Fault
      m' = step (meaning_of table) m

      Again : Type 0
      Again = (T : Trail) → IsTrail moves (passed table k m') T → (i : ℕ) → slice_get T i ≡ Some e → IsPassed table moves k m' T i e

      by_entries : (p : Passed) → passed_now m ≡ p ∷ [] → Again → (T : Trail) → IsTrail moves (p ∷ passed table k m') T → (i : ℕ) → slice_get T i ≡ Some e
          → IsPassed table moves (suc k) m T i e
      by_entries p one again [] h i at = absurd h
      by_entries p one again (x ∷ T) h zero at = (0, omega arith, tt, (p, one, subst (IsTrailEntry moves p) (same_Some x e at) h.0))
      by_entries p one again (x ∷ T) h (suc i) at =
          let later = again T h.1 i at in
          (suc later.0, omega (arith, later.1), subst (λ ps. IsTrail moves (ps ++ passed table later.0 m') (x ∷ take i T)) (sym one) (h.0, later.2), later.3)

      by_few : Few (passed_now m) → Again → IsPassed table moves (suc k) m T i e
      by_few (inl none) again =
          let later = again T (subst (λ ps. IsTrail moves (ps ++ passed table k m') T) none h) i at in
          (suc later.0, omega (arith, later.1), subst (λ ps. IsTrail moves (ps ++ passed table later.0 m') (take i T)) (sym none) later.2, later.3)
      by_few (inr one) again = by_entries one.0 one.1 again T (subst (λ ps. IsTrail moves (ps ++ passed table k m') T) one.1 h) i at
