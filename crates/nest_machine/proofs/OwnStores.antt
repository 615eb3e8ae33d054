-- Stores elsewhere, and stores to an iteration's own position of a row.
use Rattle.std.proofs.Common.{◌≡◌, ℕ, zero, suc, ◌<◌, ◌⊎◌, inl, inr, length, ℤ, pos, true, false, Option, Some, None, refl, sym, ap, ◌∙◌, arith, slice_index_or, get_or-set_same, get_or-set_other, ⊎_elim, ◌&&◌}
use Rattle.std.specs.Prelude.{nat_eq}
use Rattle.std.proofs.lemmas.Bool.Decides.{nat_tests}
use Rattle.std.proofs.lemmas.Bool.{cases_eq}
use Rattle.storage.specs.Storage.{Storage, Spot, is_same_spot, row_of, read}
use Rattle.storage.specs.Effect.{Effect, Skip, Put, Fail, apply, scatter}
use Rattle.nest_order.specs.LastValue.{copy_at}
use Rattle.machine_steps.specs.Instr.{Outcome, Nothing, Value, Breaks}
use Rattle.machine_steps.specs.Machine.{effect_by}
use Rattle.nest_machine.specs.PlacedEnds.{OffRow}
use Rattle.nest_machine.proofs.Rows.{write-here, write-other, scatter-extent}

eq-refl : (a : ℕ) → nat_eq a a ≡ true
eq-refl a = grind (arith, nat_tests)

pub eq-other : (a b : ℕ) → (a ≡ b → ⊥) → nat_eq a b ≡ false
eq-other a b ne = grind (arith, nat_tests)

pub same-spot : (r i : ℕ) → is_same_spot (record { row = r; at = i }) (copy_at r i) ≡ true
same-spot r i = λ k. eq-refl r k && eq-refl i k

module _ {F : Type 0} where
  -- ---- stores elsewhere

  abbrev pub OffE : ℕ → Effect F → Type 0
  OffE x Skip = Unit {0}
  OffE x (Put spot v) = spot.row ≡ x → ⊥
  OffE x (Fail f) = Unit {0}

  apply-off : (e : Effect F) (m : Storage) (x : ℕ) → OffE x e → row_of (apply e m) x ≡ row_of m x
  apply-off Skip m x off = refl
  apply-off (Put spot v) m x off = write-other m spot v x (λ e. off (sym e))
  apply-off (Fail f) m x off = refl

  pub scatter-off : (e : ℕ → Effect F) (t : ℕ) (m : Storage) (x : ℕ) → ((i : ℕ) → OffE x (e i)) → row_of (scatter e t m) x ≡ row_of m x
  scatter-off e zero m x off = refl
  scatter-off e (suc t) m x off = apply-off (e t) (scatter e t m) x (off t) ∙ scatter-off e t m x off

  pub effect-off : (left : Option Spot) (o : Outcome F) (x : ℕ) → OffRow x left → OffE x (effect_by left o)
  effect-off left Nothing x off = tt
  effect-off None (Value v) x off = tt
  effect-off (Some spot) (Value v) x off = off
  effect-off left (Breaks f) x off = tt

  -- ---- stores to one's own position of a row

  abbrev pub OwnPuts : ℕ → (ℕ → Effect F) → Type 0
  OwnPuts q e = (i : ℕ) → (e i ≡ Skip) ⊎ ((v : ℤ) × (e i ≡ Put (record { row = q; at = i }) v))

  -- after a position that isn't reached yet, or that is passed
  apply-at : (e : Effect F) (q t i : ℕ) (m : Storage) → (e ≡ Skip) ⊎ ((v : ℤ) × (e ≡ Put (record { row = q; at = t }) v)) → (i ≡ t → ⊥)
      → read (apply e m) (record { row = q; at = i }) ≡ read m (record { row = q; at = i })
  apply-at e q t i m (inl is) ne = ap (λ x. read (apply x m) (record { row = q; at = i })) is
  apply-at e q t i m (inr w) ne = ap (λ x. read (apply x m) (record { row = q; at = i })) w.1
      ∙ ap (λ xs. slice_index_or xs i (pos 0)) (write-here m q t w.0) ∙ get_or-set_other (row_of m q) t i w.0 (pos 0) ne

  pub own-skip : (e : ℕ → Effect F) (q t i : ℕ) (m : Storage) → OwnPuts q e → e i ≡ Skip → read (scatter e t m) (record { row = q; at = i }) ≡ read m (record { row = q; at = i })
  own-skip e q zero i m own is = refl
  own-skip e q (suc t) i m own is = ⊎_elim
      (λ (z : i ≡ t). ap (λ x. read (apply x (scatter e t m)) (record { row = q; at = i })) (ap e (sym z) ∙ is) ∙ own-skip e q t i m own is)
      (λ (ne : i ≡ t → ⊥). apply-at (e t) q t i (scatter e t m) (own t) ne ∙ own-skip e q t i m own is)
      (cases_eq i t)

  pub own-put : (e : ℕ → Effect F) (q t i : ℕ) (m : Storage) (v : ℤ) → OwnPuts q e → e i ≡ Put (record { row = q; at = i }) v → i < t → i < length (row_of m q)
      → read (scatter e t m) (record { row = q; at = i }) ≡ v
  own-put e q zero i m v own is lt long = absurd (omega (arith, lt))
  own-put e q (suc t) i m v own is lt long = ⊎_elim
      (λ (z : i ≡ t).
      let long1 : i < length (row_of (scatter e t m) q) = let l = scatter-extent e t m q in omega (arith, l, long) in
      ap (λ x. read (apply x (scatter e t m)) (record { row = q; at = i })) (ap e (sym z) ∙ is)
      ∙ ap (λ xs. slice_index_or xs i (pos 0)) (write-here (scatter e t m) q i v) ∙ get_or-set_same (row_of (scatter e t m) q) i v (pos 0) long1)
      (λ (ne : i ≡ t → ⊥). apply-at (e t) q t i (scatter e t m) (own t) ne ∙ own-put e q t i m v own is (omega (arith, lt, ne)) long)
      (cases_eq i t)
