-- Runs of the machine, and code at a place.
use Rattle.std.proofs.Common.{◌≡◌, ℕ, zero, suc, ◌+◌, ◌-◌, ◌<◌, ◌≤◌, List, [], ◌∷◌, ◌++◌, length, ℤ, Bool, true, sym, ap, ◌∙◌, subst, arith, slice_set, ⊎_elim}
use Rattle.std.proofs.lemmas.Bool.{cases_lt}
use Rattle.machine_steps.specs.Instr.{Instr, Local}
use Rattle.machine_steps.specs.Machine.{Machine, set_slot, step, step_by, steps, instr_at}
use Rattle.nest_machine.specs.Trace.{Data}
use Rattle.nest_machine.specs.Stands.{stands, HasAt, StaysQuiet}

module _ {I F : Type 0} (meaning : I → Instr F) (code : List I) (is_quiet : ℕ → Bool) where
  abbrev pub Has : ℕ → List (Instr F) → Type 0
  Has = HasAt meaning code is_quiet

  pub has-front : (pc : ℕ) (a b : List (Instr F)) → Has pc (a ++ b) → Has pc a
  has-front pc [] b h = tt
  has-front pc (i ∷ a) b h = (h.0, has-front (pc + 1) a b h.1)

  pub has-back : (pc : ℕ) (a b : List (Instr F)) → Has pc (a ++ b) → Has (pc + length a) b
  has-back pc [] b h = let e : pc ≡ pc + 0 = omega arith in subst (λ n. Has n b) e h
  has-back pc (i ∷ a) b h =
      let e : pc + 1 + length a ≡ pc + length (i ∷ a) = omega arith in
      subst (λ n. Has n b) e (has-back (pc + 1) a b h.1)

  pub has-at : (pc pc1 : ℕ) (a : List (Instr F)) → pc ≡ pc1 → Has pc a → Has pc1 a
  has-at pc pc1 a e h = subst (λ n. Has n a) e h

module _ {I F : Type 0} (meaning : I → Instr F) (is_quiet : ℕ → Bool) where
  abbrev pub Reaches : Machine I F → Machine I F → Type 0
  Reaches m m' = (k : ℕ) × (steps meaning k m ≡ m') × StaysQuiet meaning is_quiet k m

  pub steps-more : (j k : ℕ) (m : Machine I F) → steps meaning (k + j) m ≡ steps meaning k (steps meaning j m)
  steps-more zero k m = let e : k + 0 ≡ k = omega arith in ap (λ x. steps meaning x m) e
  steps-more (suc j) k m = let e : k + suc j ≡ suc (k + j) = omega arith in ap (λ x. steps meaning x m) e ∙ steps-more j k (step meaning m)

  -- the steps after the first k
  quiet-on : (j k : ℕ) (m m1 : Machine I F) → steps meaning k m ≡ m1 → StaysQuiet meaning is_quiet k m → StaysQuiet meaning is_quiet j m1 → StaysQuiet meaning is_quiet (j + k) m
  quiet-on j k m m1 e h g i lt = ⊎_elim (h i) (λ (le : k ≤ i). later (i - k) (omega (arith, le, lt)) (omega (arith, le))) (cases_lt i k)
    where
      later : (x : ℕ) → x < j → x + k ≡ i → is_quiet (steps meaning i m).control.at ≡ true
      later x less is = subst (λ z. is_quiet z.control.at ≡ true) (ap (steps meaning x) (sym e) ∙ sym (steps-more k x m) ∙ ap (λ z. steps meaning z m) is) (g x less)

  pub reaches-on : (m m1 m2 : Machine I F) → Reaches m m1 → Reaches m1 m2 → Reaches m m2
  reaches-on m m1 m2 r q = (q.0 + r.0, steps-more r.0 q.0 m ∙ ap (steps meaning q.0) r.1 ∙ q.1, quiet-on q.0 r.0 m m1 r.1 r.2 q.2)

  pub reaches-to : (m m1 m2 : Machine I F) → m1 ≡ m2 → Reaches m m1 → Reaches m m2
  reaches-to m m1 m2 e r = (r.0, r.1 ∙ e, r.2)

  -- no step, and one
  pub none-quiet : (m : Machine I F) → StaysQuiet meaning is_quiet 0 m
  none-quiet m j lt = absurd (omega (arith, lt))

  pub first-quiet : (m : Machine I F) → is_quiet m.control.at ≡ true → StaysQuiet meaning is_quiet 1 m
  first-quiet m quiet j lt = only j (omega (arith, lt))
    where
      only : (j : ℕ) → j ≡ 0 → is_quiet (steps meaning j m).control.at ≡ true
      only j is = subst (λ z. is_quiet (steps meaning z m).control.at ≡ true) (sym is) quiet

module _ {I F : Type 0} (meaning : I → Instr F) (code : List I) (joined : ℤ) (line printed : List ℕ) where
  abbrev pub At : ℕ → List ℤ → Data F → Machine I F
  At = stands meaning code joined line printed

  pub one : (pc : ℕ) (s : List ℤ) (d : Data F) (i : Instr F) → instr_at meaning code pc ≡ i → steps meaning 1 (At pc s d) ≡ step_by i (At pc s d)
  one pc s d i h = ap (λ x. step_by x (At pc s d)) h

module _ {I F : Type 0} (meaning : I → Instr F) (code : List I) (is_quiet : ℕ → Bool) (joined : ℤ) (line printed : List ℕ) where
  pub set-reaches : (pc : ℕ) (s : List ℤ) (d : Data F) (x : ℕ) (f : List ℤ → ℤ) → (instr_at meaning code pc ≡ Local (λ c. set_slot c x (f c.slots))) × (is_quiet pc ≡ true)
      → Reaches meaning is_quiet (stands meaning code joined line printed pc s d) (stands meaning code joined line printed (pc + 1) (slice_set s x (f s)) d)
  set-reaches pc s d x f h = (
    1,
    one meaning code joined line printed pc s d (Local (λ c. set_slot c x (f c.slots))) h.0,
    first-quiet meaning is_quiet (stands meaning code joined line printed pc s d) h.1,
  )
