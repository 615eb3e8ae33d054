-- Runs of the machine through the statements of a nest, by place and slots, with what they pass. Where they go depends on slots alone.
use Rattle.std.proofs.Common.{◌≡◌, ℕ, ◌+◌, ◌-◌, ◌<◌, ◌≤◌, List, [], ◌++◌, ℤ, Option, Some, refl, sym, ap, ◌∙◌, subst, arith, slice_get, slice_set, append-nil, ⊎_elim}
use Rattle.std.proofs.lemmas.Bool.{cases_lt}
use Rattle.storage.specs.Storage.{Storage}
use Rattle.array_meaning.specs.Faults.{Fault}
use Rattle.statement_trail.specs.Trail.{Trail}
use Rattle.machine_steps.specs.Layout.{Layout}
use Rattle.machine_steps.specs.Instr.{Running}
use Rattle.machine_steps.specs.Machine.{Machine, Kept, steps, step_by, instr_of}
use Rattle.node_code.specs.Flat.{Flat}
use Rattle.code_meaning.specs.Flat.{slots_value}
use Rattle.code_meaning.specs.Parallel.{at_line}
use Rattle.node_code.specs.Instructions.{Instruction, NewMapping, Set}
use Rattle.code_meaning.specs.Instructions.{ArrayTable, set_result, meaning_of}
use Rattle.lowered_expressions.specs.Passed.{note, note_at, passed, IsTrail}
use Rattle.lowered_expressions.proofs.Reach.{steps-more, entries-more}
use Rattle.nest_join.specs.NestBodies.{CantFault}

-- what of the machine has no say in where it goes
pub record Rest : Type 0 where
  pub rows : Storage
  pub layouts : List Layout
  pub kept : Option (Kept Fault)
  pub parts : ℕ
  pub joined : ℤ
  pub line : List ℕ
  pub printed : List ℕ

abbrev pub rest_of : Machine Instruction Fault → Rest
rest_of m = record { rows = m.rows; layouts = m.layouts; kept = m.kept; parts = m.parts; joined = m.joined; line = m.line; printed = m.printed }

-- `last` is a place after those of a run
module _ (table : ArrayTable) (moves : ℕ → List NewMapping) (code : List Instruction) (last : ℕ) where
  abbrev pub stands : ℕ → List ℤ → Rest → Machine Instruction Fault
  stands pc slots r = record {
    code = code;
    control = record { at = pc; slots = slots; status = Running };
    substep = 0;
    rows = r.rows;
    layouts = r.layouts;
    kept = r.kept;
    parts = r.parts;
    joined = r.joined;
    line = r.line;
    printed = r.printed;
  }

  abbrev pub IsWithin : Machine Instruction Fault → Type 0
  IsWithin m = (m.control.status ≡ Running) × (m.control.at < last)

  -- whatever the rows hold, the machine comes from the one place to the other, with these slots, and passes these entries
  abbrev pub Passes : Trail → ℕ → List ℤ → ℕ → List ℤ → Type 0
  Passes T pc slots pc' slots' = (r : Rest) → (k : ℕ) × (r' : Rest) × (steps (meaning_of table) k (stands pc slots r) ≡ stands pc' slots' r')
      × IsTrail moves (passed table k (stands pc slots r)) T × ((j : ℕ) → j < k → IsWithin (steps (meaning_of table) j (stands pc slots r)))

  within-on : (j k : ℕ) (m m1 : Machine Instruction Fault) → steps (meaning_of table) k m ≡ m1 → ((i : ℕ) → i < k → IsWithin (steps (meaning_of table) i m))
      → ((i : ℕ) → i < j → IsWithin (steps (meaning_of table) i m1)) → (i : ℕ) → i < j + k → IsWithin (steps (meaning_of table) i m)
  within-on j k m m1 e h g i lt = ⊎_elim (h i) (λ (le : k ≤ i). later (i - k) (omega (arith, le, lt)) (omega (arith, le))) (cases_lt i k)
    where
      later : (x : ℕ) → x < j → x + k ≡ i → IsWithin (steps (meaning_of table) i m)
      later x less is =
          subst IsWithin (ap (steps (meaning_of table) x) (sym e) ∙ sym (steps-more table 0 moves code k x m) ∙ ap (λ z. steps (meaning_of table) z m) is) (g x less)

  pub passes-none : (pc : ℕ) (s : List ℤ) → Passes [] pc s pc s
  passes-none pc s r = (0, r, refl, tt, λ j lt. absurd (omega (arith, lt)))

  pub passes-on : (T U : Trail) (pc pc1 pc2 : ℕ) (s s1 s2 : List ℤ) → Passes T pc s pc1 s1 → Passes U pc1 s1 pc2 s2 → Passes (T ++ U) pc s pc2 s2
  passes-on T U pc pc1 pc2 s s1 s2 f g r =
      let a = f r in
      let b = g a.1 in
      let m = stands pc s r in
      let m1 = stands pc1 s1 a.1 in (
        b.0 + a.0,
        b.1,
        steps-more table 0 moves code a.0 b.0 m ∙ ap (steps (meaning_of table) b.0) a.2 ∙ b.2,
        entries-more table 0 moves code a.0 b.0 m m1 T U a.2 a.3 b.3,
        within-on b.0 a.0 m m1 a.2 a.4 b.4,
      )

  -- what follows passes nothing
  pub passes-last : (T : Trail) (pc pc1 pc2 : ℕ) (s s1 s2 : List ℤ) → Passes T pc s pc1 s1 → Passes [] pc1 s1 pc2 s2 → Passes T pc s pc2 s2
  passes-last T pc pc1 pc2 s s1 s2 f g = subst (λ V. Passes V pc s pc2 s2) (append-nil T) (passes-on T [] pc pc1 pc2 s s1 s2 f g)

  pub passes-at : (T : Trail) (pc pc1 pc2 : ℕ) (s s1 : List ℤ) → pc1 ≡ pc2 → Passes T pc s pc1 s1 → Passes T pc s pc2 s1
  passes-at T pc pc1 pc2 s s1 e h = subst (λ x. Passes T pc s x s1) e h

  -- one instruction
  pub passes-one : (T : Trail) (pc pc1 : ℕ) (s s1 : List ℤ) (i : Instruction) → slice_get code pc ≡ Some i → pc < last
      → ((r : Rest) → step_by (meaning_of table i) (stands pc s r) ≡ stands pc1 s1 (rest_of (step_by (meaning_of table i) (stands pc s r))))
      → IsTrail moves (note i s) T → Passes T pc s pc1 s1
  passes-one T pc pc1 s s1 i has lt goes is r = (
    1,
    rest_of (step_by (meaning_of table i) (stands pc s r)),
    ap (λ o. step_by (instr_of (meaning_of table) o) (stands pc s r)) has ∙ goes r,
    subst (λ ps. IsTrail moves ps T) (sym (append-nil (note i s)) ∙ sym (ap (λ o. note_at 0 o s ++ []) has)) is,
    (λ j less. first j (omega (arith, less))),
  )
    where
      first : (j : ℕ) → j ≡ 0 → IsWithin (steps (meaning_of table) j (stands pc s r))
      first j e = subst (λ z. IsWithin (steps (meaning_of table) z (stands pc s r))) (sym e) (refl, lt)

  -- a slot gets a value that has no fault
  pub passes-set : (pc : ℕ) (s : List ℤ) (line x : ℕ) (f : Flat) → CantFault f → slice_get code pc ≡ Some (Set line x f) → pc < last
      → Passes [] pc s (pc + 1) (slice_set s x (slots_value s f))
  passes-set pc s line x f safe has lt =
      passes-one [] pc (pc + 1) s (slice_set s x (slots_value s f)) (Set line x f) has lt
      (λ r. goes r) tt
    where
      goes : (r : Rest) → step_by (meaning_of table (Set line x f)) (stands pc s r)
          ≡ stands (pc + 1) (slice_set s x (slots_value s f)) (rest_of (step_by (meaning_of table (Set line x f)) (stands pc s r)))
      goes r = λ i. record (stands pc s r) { control = set_result (at_line line (safe s i)) x (record { at = pc; slots = s; status = Running }) }
