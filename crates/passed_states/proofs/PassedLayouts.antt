-- The declared names lie as the redistributions that were passed say.
use Rattle.std.proofs.Common.{◌≡◌, ℕ, zero, suc, ◌≤◌, ◌⊎◌, inl, inr, List, [], ◌∷◌, ◌++◌, length, take, Option, Some, None, refl, sym, ap, ◌∙◌, subst, arith, slice_set}
use Rattle.std.specs.Bool.{⊤}
use Rattle.std.specs.List.{slice_get}
use Rattle.hpf_base.specs.declared.index.Shape.{Shape}
use Rattle.mappings.specs.declared.mapping.Mapping.{Mapping}
use Rattle.array_meaning.specs.Faults.{Fault}
use Rattle.machine_steps.specs.Instr as machine
use Rattle.machine_steps.specs.Instr.{Instr, Tuples, Fold, Item, Status, Running, Finished, Faulted, Remapping}
use Rattle.machine_steps.specs.Layout.{Layout}
use Rattle.machine_steps.specs.Machine.{Machine, Kept, instr_at, instr_of, print_step, reduce_step, remapped, step, step_by, step_while, steps, with_mapping}
use Rattle.machine_steps.specs.Agrees.{IsValidCode, IsValidInstr}
use Rattle.node_run.proofs.Wholes.{same-code}
use Rattle.node_code.specs.Instructions as code
use Rattle.node_code.specs.Instructions.{Instruction}
use Rattle.code_meaning.specs.Instructions.{ArrayTable, meaning_of, remappings}
use Rattle.node_code.specs.declared.nest.NestRole.{NestRole}
use Rattle.node_code.specs.declared.nest.NestRole.TheVariants.{Assigns, Tests, SetsElse, SetsMark}
use Rattle.lowered_expressions.specs.Passed.{Passed, unless_mark, note_at, note_while, passed, passed_now}
use Rattle.passed_states.specs.PassedLayouts.{layouts_after, passed_layouts}

take-set : {A : Type 0} (n c : ℕ) (xs : List A) (x : A) → n ≤ c → take n (slice_set xs c x) ≡ take n xs
take-set zero c xs x le = refl
take-set (suc n) c [] x le = refl
take-set (suc n) zero (y ∷ xs) x le = absurd (omega (arith, le))
take-set (suc n) (suc c) (y ∷ xs) x le = ap (λ l. y ∷ l) (take-set n c xs x (omega (arith, le)))

take-mapping : (n row : ℕ) (ls : List Layout) (m : Mapping) → take n (with_mapping ls row m) ≡ with_mapping (take n ls) row m
take-mapping zero row ls m = refl
take-mapping (suc n) row [] m = refl
take-mapping (suc n) zero (l ∷ ls) m = refl
take-mapping (suc n) (suc row) (l ∷ ls) m = ap (λ x. l ∷ x) (take-mapping n row ls m)

take-remapped : (n : ℕ) (new : List Remapping) (ls : List Layout) → take n (remapped new ls) ≡ remapped new (take n ls)
take-remapped n [] ls = refl
take-remapped n (x ∷ new) ls = take-remapped n new (with_mapping ls x.row x.mapping) ∙ ap (remapped new) (take-mapping n x.row ls x.mapping)

-- several steps are made at one place
abbrev IsLong : Instr Fault → Type 0
IsLong (machine.Reduce tuples f slot) = ⊤
IsLong (machine.Print items line) = ⊤
IsLong i = ⊥

layouts-more : (maps : List Mapping) (ps qs : List Passed) (ls : List Layout) → passed_layouts maps (ps ++ qs) ls ≡ passed_layouts maps qs (passed_layouts maps ps ls)
layouts-more maps [] qs ls = refl
layouts-more maps (p ∷ ps) qs ls = layouts-more maps ps qs _

reduce-layouts : (k : ℕ) (t : Tuples Fault) (f : Fold) (slot : ℕ) (m : Machine Instruction Fault) → (reduce_step k t f slot m).layouts ≡ m.layouts
reduce-layouts zero t f slot m = refl
reduce-layouts (suc zero) t f slot m = refl
reduce-layouts (suc (suc k)) t f slot m = refl

print-layouts : (o : Option Item) (line : List ℕ → List ℕ) (m : Machine Instruction Fault) → (print_step o line m).layouts ≡ m.layouts
print-layouts (Some x) line m = refl
print-layouts None line m = refl

module _ (table : ArrayTable) (count : ℕ) (shapes : List Shape) where
  abbrev n : ℕ
  n = length shapes

  -- between instructions, or within one of several steps
  abbrev IsBegun : Machine Instruction Fault → Type 0
  IsBegun m = (m.substep ≡ 0) ⊎ IsLong (instr_at (meaning_of table) m.code m.control.at)

  -- ---- places

  reduce-begun : (k : ℕ) (t : Tuples Fault) (f : Fold) (slot : ℕ) (m : Machine Instruction Fault) → instr_at (meaning_of table) m.code m.control.at ≡ machine.Reduce t f slot
      → IsBegun (reduce_step k t f slot m)
  reduce-begun zero t f slot m e = inr (subst IsLong (sym e) tt)
  reduce-begun (suc zero) t f slot m e = by_kept m.kept
    where
      by_kept : (o : Option (Kept Fault)) → IsBegun (reduce_step 1 t f slot (record m { kept = o }))
      by_kept None = inr (subst IsLong (sym e) tt)
      by_kept (Some x) = inr (subst IsLong (sym e) tt)
  reduce-begun (suc (suc k)) t f slot m e = inl refl

  print-begun : (o : Option Item) (items : List Item) (line : List ℕ → List ℕ) (m : Machine Instruction Fault)
      → instr_at (meaning_of table) m.code m.control.at ≡ machine.Print items line → IsBegun (print_step o line m)
  print-begun (Some x) items line m e = inr (subst IsLong (sym e) tt)
  print-begun None items line m e = inl refl

  step-begun : (i : Instr Fault) (m : Machine Instruction Fault) → instr_at (meaning_of table) m.code m.control.at ≡ i → IsBegun (step_by i m)
  step-begun (machine.Reduce t f slot) m e = reduce-begun m.substep t f slot m e
  step-begun (machine.Print items line) m e = print-begun (slice_get items m.substep) items line m e
  step-begun i m e = inl refl

  while-begun : (s : Status Fault) (m : Machine Instruction Fault) → m.control.status ≡ s → IsBegun m → IsBegun (step (meaning_of table) m)
  while-begun Running m e h = subst (λ s. IsBegun (step_while (meaning_of table) s m)) (sym e) (step-begun (instr_at (meaning_of table) m.code m.control.at) m refl)
  while-begun Finished m e h = subst (λ s. IsBegun (step_while (meaning_of table) s m)) (sym e) h
  while-begun (Faulted f) m e h = subst (λ s. IsBegun (step_while (meaning_of table) s m)) (sym e) h

  -- ---- layouts

  nest-layouts : (role : NestRole) (p : Passed) (layouts : List Layout) → layouts_after table.maps p.instruction layouts ≡ layouts → layouts ≡ passed_layouts table.maps (unless_mark role p) layouts
  nest-layouts Assigns p layouts e = sym e
  nest-layouts Tests p layouts e = sym e
  nest-layouts SetsElse p layouts e = sym e
  nest-layouts SetsMark p layouts e = refl

  one-layouts : (x : Instruction) (k : ℕ) (m : Machine Instruction Fault) → m.substep ≡ k → (k ≡ 0) ⊎ IsLong (meaning_of table x) → IsValidInstr count shapes (meaning_of table x)
      → take n (step_by (meaning_of table x) m).layouts ≡ passed_layouts table.maps (note_at k (Some x) m.control.slots) (take n m.layouts)
  one-layouts (code.Reduce p o x) zero m e h v = ap (take n) (reduce-layouts m.substep _ _ x m)
  one-layouts (code.Reduce p o x) (suc k) m e h v = ap (take n) (reduce-layouts m.substep _ _ x m)
  one-layouts (code.Print items) zero m e h v = ap (take n) (print-layouts _ _ m)
  one-layouts (code.Print items) (suc k) m e h v = ap (take n) (print-layouts _ _ m)
  one-layouts (code.MakeCopy copy p) zero m e h v = take-set n copy m.layouts _ v.0
  one-layouts (code.MakeCopy copy p) (suc k) m e h v = take-set n copy m.layouts _ v.0
  one-layouts (code.MakeCopies copy over start beside) zero m e h v = take-set n copy m.layouts _ v.0
  one-layouts (code.MakeCopies copy over start beside) (suc k) m e h v = take-set n copy m.layouts _ v.0
  one-layouts (code.ParNest p) zero m e h v = nest-layouts p.role (record { instruction = code.ParNest p; slots = m.control.slots }) (take n m.layouts) refl
  one-layouts (code.ParNest p) (suc k) m e h v = refl
  one-layouts (code.Remap line new) zero m e h v = take-remapped n (remappings table.maps new) m.layouts
  one-layouts (code.Remap line new) (suc k) m e (inl z) v = absurd (omega (arith, z))
  one-layouts (code.Remap line new) (suc k) m e (inr l) v = absurd l
  one-layouts x zero m e h v = refl
  one-layouts x (suc k) m e h v = refl

  at-layouts : (o : Option Instruction) (k : ℕ) (m : Machine Instruction Fault) → m.substep ≡ k → (k ≡ 0) ⊎ IsLong (instr_of (meaning_of table) o)
      → IsValidInstr count shapes (instr_of (meaning_of table) o)
      → take n (step_by (instr_of (meaning_of table) o) m).layouts ≡ passed_layouts table.maps (note_at k o m.control.slots) (take n m.layouts)
  at-layouts (Some x) k m e h v = one-layouts x k m e h v
  at-layouts None zero m e h v = refl
  at-layouts None (suc k) m e h v = refl

  step-layouts : (s : Status Fault) (m : Machine Instruction Fault) → m.control.status ≡ s → IsBegun m → IsValidCode (meaning_of table) count shapes m.code
      → (take n (step (meaning_of table) m).layouts ≡ passed_layouts table.maps (passed_now m) (take n m.layouts)) × ((step (meaning_of table) m).code ≡ m.code)
  step-layouts Running m e h v =
      subst (λ s. (take n (step_while (meaning_of table) s m).layouts ≡ passed_layouts table.maps (note_while s m.substep (slice_get m.code m.control.at) m.control.slots) (take n m.layouts))
      × ((step_while (meaning_of table) s m).code ≡ m.code)) (sym e)
      (at-layouts (slice_get m.code m.control.at) m.substep m refl h (v m.control.at), same-code count shapes (instr_at (meaning_of table) m.code m.control.at) m)
  step-layouts Finished m e h v =
      subst (λ s. (take n (step_while (meaning_of table) s m).layouts ≡ passed_layouts table.maps (note_while s m.substep (slice_get m.code m.control.at) m.control.slots) (take n m.layouts))
      × ((step_while (meaning_of table) s m).code ≡ m.code)) (sym e) (refl, refl)
  step-layouts (Faulted f) m e h v =
      subst (λ s. (take n (step_while (meaning_of table) s m).layouts ≡ passed_layouts table.maps (note_while s m.substep (slice_get m.code m.control.at) m.control.slots) (take n m.layouts))
      × ((step_while (meaning_of table) s m).code ≡ m.code)) (sym e) (refl, refl)

  pub maps-now : (k : ℕ) (m : Machine Instruction Fault) → IsBegun m → IsValidCode (meaning_of table) count shapes m.code
      → take n (steps (meaning_of table) k m).layouts ≡ passed_layouts table.maps (passed table k m) (take n m.layouts)
  maps-now zero m h v = refl
  maps-now (suc k) m h v =
      let one = step-layouts m.control.status m refl h v in
      maps-now k (step (meaning_of table) m) (while-begun m.control.status m refl h) (subst (IsValidCode (meaning_of table) count shapes) (sym one.1) v)
      ∙ ap (passed_layouts table.maps (passed table k (step (meaning_of table) m))) one.0
      ∙ sym (layouts-more table.maps (passed_now m) (passed table k (step (meaning_of table) m)) (take n m.layouts))
