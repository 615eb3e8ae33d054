-- The fault that is kept of acts in the parted order.
use Rattle.std.proofs.Common.{◌≡◌, ℕ, zero, suc, ◌<◌, Option, Some, None, refl, ap, ◌∙◌}
use Rattle.storage.specs.Storage.{Storage, Spot}
use Rattle.storage.specs.Effect.{Effect, Skip, Put, Fail}
use Rattle.storage.specs.Parted.{parted, kept, NoneKept, IsLeastKept}
use Rattle.machine_steps.specs.Instr.{Outcome, Nothing, Value, Breaks}
use Rattle.machine_steps.specs.Machine.{Kept, keep, kept_of, earlier, effect_by}
use Rattle.machine_steps.specs.Parted.{act_by, kept_after, AreRising}
use Rattle.nest_machine.specs.Placed.{placed_effect}

earlier-none : {F : Type 0} (a : Option (Kept F)) → earlier a None ≡ a
earlier-none None = refl
earlier-none (Some k) = refl

-- where no tuple faults, nothing is kept
pub keep-nothing : {F : Type 0} (o : ℕ → Outcome F) (part n : ℕ) (old : Option (Kept F)) → ((t : ℕ) → kept_of (o t) t part ≡ None) → keep o part n old ≡ old
keep-nothing o part zero old h = refl
keep-nothing o part (suc n) old h = (λ i. earlier (keep-nothing o part n old h i) (h n i)) ∙ earlier-none old

abbrev pub fault_outcome : {F : Type 0} → Effect F → Outcome F
fault_outcome Skip = Nothing
fault_outcome (Put spot v) = Nothing
fault_outcome (Fail f) = Breaks f

module _ {F : Type 0} where
  pub kept-fault : (left : Option Spot) (o : Outcome F) (t p : ℕ) → kept_of o t p ≡ kept_of (fault_outcome (effect_by left o)) t p
  kept-fault left Nothing t p = refl
  kept-fault None (Value v) t p = refl
  kept-fault (Some spot) (Value v) t p = refl
  kept-fault left (Breaks f) t p = refl

  pub fault-placed : (place : ℕ → ℕ) (e : Effect F) → fault_outcome (placed_effect place e) ≡ fault_outcome e
  fault-placed place Skip = refl
  fault-placed place (Put spot v) = refl
  fault-placed place (Fail f) = refl

  pub keep-alike : (o o' : ℕ → Outcome F) (p n : ℕ) (old : Option (Kept F)) → ((t : ℕ) → kept_of (o t) t p ≡ kept_of (o' t) t p) → keep o p n old ≡ keep o' p n old
  keep-alike o o' p zero old h = refl
  keep-alike o o' p (suc n) old h = λ i. earlier (keep-alike o o' p n old h i) (h n i)

-- numbers rise after an act that may fault
abbrev pub RiseAfterFaults : {F : Type 0} → (act : ℕ → ℕ → Storage → Effect F) → (number : ℕ → ℕ) → ℕ → Type 0
RiseAfterFaults {F = F} act number k = (i j later : ℕ) (m : Storage) (fault : F) → act i j m ≡ Fail fault → j < later → later < k → number j < number later

module _ {F : Type 0} (act : ℕ → ℕ → Storage → Effect F) (start : Storage) (n : ℕ) (number : ℕ → ℕ) where
  -- the faults of the parted order alone, as outcomes of parts that store nothing
  abbrev pub faults : ℕ → ℕ → Storage → Outcome F
  faults i j m = fault_outcome (act i j (parted act start n j))

  abbrev pub no_left : ℕ → ℕ → Option Spot
  no_left i j = None

  -- what is kept after the first acts
  abbrev pub kept_acts : ℕ → Option (Kept F)
  kept_acts = kept_after faults no_left start n number

  fails-so : (e : Effect F) (f : F) → effect_by None (fault_outcome e) ≡ Fail f → e ≡ Fail f
  fails-so Skip f h = cc
  fails-so (Put spot v) f h = cc
  fails-so (Fail g) f h = h

  breaks-so : (e : Effect F) (f : F) → fault_outcome e ≡ Breaks f → e ≡ Fail f
  breaks-so Skip f h = cc
  breaks-so (Put spot v) f h = cc
  breaks-so (Fail g) f h = ap (effect_by None) h

  -- the law of kept faults (node_run), for these
  pub none-kept : ((k : ℕ) → kept_acts k ≡ None → NoneKept (act_by faults no_left) start n k) → (k : ℕ) → kept_acts k ≡ None → NoneKept act start n k
  none-kept law k h i j f li lj e = law k h i j f li lj (ap (λ x. effect_by None (fault_outcome x)) e)

  pub least-kept : ((k : ℕ) (l : Kept F) → AreRising faults no_left number k → kept_acts k ≡ Some l
      → (j : ℕ) × IsLeastKept (act_by faults no_left) start n k l.tuple j l.fault × (number j ≡ l.part))
      → (k : ℕ) → RiseAfterFaults act number k → (l : Kept F) → kept_acts k ≡ Some l → (j : ℕ) × IsLeastKept act start n k l.tuple j l.fault
  least-kept law k rising l h =
      let r = law k l (λ i j later rows f e lt le. rising i j later (parted act start n j) f (breaks-so (act i j (parted act start n j)) f e) lt le) h in (
        r.0,
        record {
          iteration = r.1.iteration;
          part = r.1.part;
          here = fails-so (kept act start n l.tuple r.0) l.fault r.1.here;
          sooner = λ i' j' other li lj less e. r.1.sooner i' j' other li lj less (ap (λ x. effect_by None (fault_outcome x)) e);
        },
      )
