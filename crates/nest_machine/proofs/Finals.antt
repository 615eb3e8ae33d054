-- The slots of scalars after the code that folds copies and takes last values.
use Rattle.std.proofs.Common.{◌≡◌, ℕ, zero, suc, ◌+◌, ◌<◌, ◌⊎◌, inl, inr, List, [], ◌∷◌, length, ℤ, pos, Bool, true, false, Option, Some, None, refl, sym, ap, ◌∙◌, subst, arith, length-set, get_or-set_same, get_or-set_other, ⊎_elim, if◌then◌else◌}
use Rattle.std.specs.List.{Contains, fold}
use Rattle.op_tables.specs.Joins.{join, unit}
use Rattle.storage.specs.Storage.{Storage, row_of, read}
use Rattle.storage.specs.Effect.{Effect}
use Rattle.nest_order.specs.LastValue.{copy_at, assigns, last_value}
use Rattle.machine_steps.specs.Layout.{Layout}
use Rattle.machine_steps.specs.Instr.{Running, Instr}
use Rattle.machine_steps.specs.Machine.{Machine, last_control, last_passing, last_of, step_by}
use Rattle.nest_machine.specs.Counting.{slot}
use Rattle.nest_machine.specs.Trace.{Data}
use Rattle.nest_machine.specs.Stands.{stands, HasAt}
use Rattle.nest_syntax.specs.Finals.{Final, Folds, Lasts}
use Rattle.nest_machine.specs.Finals.{final_slot, final_code, finals_code, set_last, final_slots, finals_slots, NotAmong, AreApart}
use Rattle.nest_machine.proofs.Runs.{Reaches, reaches-on, one, first-quiet, none-quiet}

-- ---- last values

abbrev pub or_entry : ℤ → Option ℤ → ℤ
or_entry entry None = entry
or_entry entry (Some v) = v

module _ {F : Type 0} (effect : ℕ → ℕ → Effect F) (r parts : ℕ) (entry : ℤ) (last : Storage) (P : ℕ → Bool) (value : ℕ → ℤ) where
  pub last-is : (t : ℕ) → ((i : ℕ) → i < t → P i ≡ assigns effect r i parts) → ((i : ℕ) → value i ≡ read last (copy_at r i))
      → or_entry entry (last_passing P value t) ≡ last_value effect r parts entry last t
  last-is zero h g = refl
  last-is (suc t) h g = by_test (last-is t (λ i lt. h i (omega (arith, lt))) g) (P t) refl
    where
      by_test : or_entry entry (last_passing P value t) ≡ last_value effect r parts entry last t → (b : Bool) → P t ≡ b → or_entry entry (if P t then Some (value t) else last_passing P value t) ≡ (if assigns effect r t parts then read last (copy_at r t) else last_value effect r parts entry last t)
      by_test before true e =
          ap (λ x. or_entry entry (if x then Some (value t) else last_passing P value t)) e ∙ g t
          ∙ sym (ap (λ x. if x then read last (copy_at r t) else last_value effect r parts entry last t) (sym (h t (omega arith)) ∙ e))
      by_test before false e =
          ap (λ x. or_entry entry (if x then Some (value t) else last_passing P value t)) e ∙ before
          ∙ sym (ap (λ x. if x then read last (copy_at r t) else last_value effect r parts entry last t) (sym (h t (omega arith)) ∙ e))

-- ---- finals

pub finals-many : (F : Type 0) (alike : Layout → Layout → Bool) (fs : List Final) → length (finals_code {F = F} alike fs) ≡ length fs
finals-many F alike [] = refl
finals-many F alike (f ∷ fs) = ap suc (finals-many F alike fs)

module _ (alike : Layout → Layout → Bool) (layouts : List Layout) (rows : Storage) where
  abbrev After : Final → List ℤ → List ℤ
  After = final_slots alike layouts rows

  abbrev AllAfter : List Final → List ℤ → List ℤ
  AllAfter = finals_slots alike layouts rows

  abbrev pub value_of : Final → List ℤ → ℤ
  value_of (Folds op r x) s = join op (slot s x) (fold (join op) (unit op) (row_of rows r))
  value_of (Lasts r q x) s = or_entry (slot s x) (last_of alike layouts rows r q)

  last-length : (o : Option ℤ) (x : ℕ) (s : List ℤ) → length (set_last o x s) ≡ length s
  last-length None x s = refl
  last-length (Some v) x s = length-set s x v

  final-length : (f : Final) (s : List ℤ) → length (After f s) ≡ length s
  final-length (Folds op r x) s = length-set s x (join op (slot s x) (fold (join op) (unit op) (row_of rows r)))
  final-length (Lasts r q x) s = last-length (last_of alike layouts rows r q) x s

  pub finals-length : (fs : List Final) (s : List ℤ) → length (AllAfter fs s) ≡ length s
  finals-length [] s = refl
  finals-length (f ∷ fs) s = finals-length fs (After f s) ∙ final-length f s

  last-other : (o : Option ℤ) (x k : ℕ) (s : List ℤ) → (x ≡ k → ⊥) → slot (set_last o x s) k ≡ slot s k
  last-other None x k s ne = refl
  last-other (Some v) x k s ne = get_or-set_other s x k v (pos 0) (λ e. ne (sym e))

  final-other : (f : Final) (k : ℕ) (s : List ℤ) → (final_slot f ≡ k → ⊥) → slot (After f s) k ≡ slot s k
  final-other (Folds op r x) k s ne = get_or-set_other s x k (join op (slot s x) (fold (join op) (unit op) (row_of rows r))) (pos 0) (λ e. ne (sym e))
  final-other (Lasts r q x) k s ne = last-other (last_of alike layouts rows r q) x k s ne

  pub finals-other : (fs : List Final) (k : ℕ) (s : List ℤ) → NotAmong k fs → slot (AllAfter fs s) k ≡ slot s k
  finals-other [] k s off = refl
  finals-other (f ∷ fs) k s off = finals-other fs k (After f s) off.1 ∙ final-other f k s off.0

  last-here : (o : Option ℤ) (x : ℕ) (s : List ℤ) → x < length s → slot (set_last o x s) x ≡ or_entry (slot s x) o
  last-here None x s lt = refl
  last-here (Some v) x s lt = get_or-set_same s x v (pos 0) lt

  pub final-here : (f : Final) (s : List ℤ) → final_slot f < length s → slot (After f s) (final_slot f) ≡ value_of f s
  final-here (Folds op r x) s lt = get_or-set_same s x (join op (slot s x) (fold (join op) (unit op) (row_of rows r))) (pos 0) lt
  final-here (Lasts r q x) s lt = last-here (last_of alike layouts rows r q) x s lt

  value-same : (f : Final) (s s' : List ℤ) → slot s (final_slot f) ≡ slot s' (final_slot f) → value_of f s ≡ value_of f s'
  value-same (Folds op r x) s s' e = ap (λ v. join op v (fold (join op) (unit op) (row_of rows r))) e
  value-same (Lasts r q x) s s' e = ap (λ v. or_entry v (last_of alike layouts rows r q)) e

  not-among : (x : ℕ) (fs : List Final) (f : Final) → NotAmong x fs → Contains fs f → final_slot f ≡ x → ⊥
  not-among x [] f off c = absurd (none-in c)
    where
      none-in : Contains [] f → ⊥
      none-in c = let lt = c.1 in omega (arith, lt)
  not-among x (g ∷ fs) f off c = ⊎_elim (λ e z. off.0 (ap final_slot e ∙ z)) (λ h. not-among x fs f off.1 h) (split c)
    where
      split : Contains (g ∷ fs) f → (g ≡ f) ⊎ Contains fs f
      split (zero, lt, e) = inl e
      split (suc k, lt, e) = inr (k, omega (arith, lt), e)

  -- the slot of each is its value by the slots at the entry
  pub finals-here : (fs : List Final) (s : List ℤ) → AreApart fs → ((f : Final) → Contains fs f → final_slot f < length s)
      → (f : Final) → Contains fs f → slot (AllAfter fs s) (final_slot f) ≡ value_of f s
  finals-here [] s apart few f (k, lt, e) = absurd (omega (arith, lt))
  finals-here (g ∷ fs) s apart few f (zero, lt, e) =
      subst (λ x. slot (AllAfter fs (After g s)) (final_slot x) ≡ value_of x s) e
      (finals-other fs (final_slot g) (After g s) apart.0 ∙ final-here g s (few g (0, omega arith, refl)))
  finals-here (g ∷ fs) s apart few f (suc k, lt, e) =
      let c : Contains fs f = (k, omega (arith, lt), e) in
      finals-here fs (After g s) apart.1 (λ x cx. let l = final-length g s in let z = few x (suc cx.0, (let w = cx.1 in omega (arith, w)), cx.2) in omega (arith, l, z)) f c
      ∙ value-same f (After g s) s (final-other g (final_slot f) s (λ z. not-among (final_slot g) fs f apart.0 c (sym z)))

module _ {I F : Type 0} (meaning : I → Instr F) (code : List I) (is_quiet : ℕ → Bool) (joined : ℤ) (line printed : List ℕ) (alike : Layout → Layout → Bool) where
  abbrev Stands : ℕ → List ℤ → Data F → Machine I F
  Stands = stands meaning code joined line printed

  last-step : (o : Option ℤ) (pc x : ℕ) (s : List ℤ) (d : Data F) → record (Stands pc s d) { control = last_control o x (record { at = pc; slots = s; status = Running }) }
      ≡ Stands (pc + 1) (set_last o x s) d
  last-step None pc x s d = refl
  last-step (Some v) pc x s d = refl

  final-step : (f : Final) (pc : ℕ) (s : List ℤ) (d : Data F) → step_by (final_code alike f) (Stands pc s d) ≡ Stands (pc + 1) (final_slots alike d.layouts d.rows f s) d
  final-step (Folds op r x) pc s d = refl
  final-step (Lasts r q x) pc s d = last-step (last_of alike d.layouts d.rows r q) pc x s d

  pub finals-run : (fs : List Final) (pc : ℕ) (s : List ℤ) (d : Data F) → HasAt meaning code is_quiet pc (finals_code alike fs)
      → Reaches meaning is_quiet (Stands pc s d) (Stands (pc + length fs) (finals_slots alike d.layouts d.rows fs s) d)
  finals-run [] pc s d has = let e : pc ≡ pc + 0 = omega arith in (0, ap (λ p. Stands p s d) e, none-quiet meaning is_quiet (Stands pc s d))
  finals-run (f ∷ fs) pc s d has =
      let s1 : List ℤ = final_slots alike d.layouts d.rows f s in
      let e : pc + 1 + length fs ≡ pc + suc (length fs) = omega arith in
      let r = finals-run fs (pc + 1) s1 d has.1 in
      reaches-on meaning is_quiet (Stands pc s d) (Stands (pc + 1) s1 d) (Stands (pc + suc (length fs)) (finals_slots alike d.layouts d.rows fs s1) d)
      (1, one meaning code joined line printed pc s d (final_code alike f) has.0.0 ∙ final-step f pc s d, first-quiet meaning is_quiet (Stands pc s d) has.0.1)
      (r.0, r.1 ∙ ap (λ p. Stands p (finals_slots alike d.layouts d.rows fs s1) d) e, r.2)
