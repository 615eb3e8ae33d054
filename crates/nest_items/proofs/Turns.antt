-- Turns one after the other, from any turn on, and the values of an index in them.
use Rattle.std.proofs.Common.{◌≡◌, ℕ, zero, suc, ◌+◌, Result, Ok, Err, refl, ap, sym, ◌∙◌, ℤ, pos, ◌+ℤ◌, ◌-ℤ◌, ◌*ℤ◌, arith, w64}
use Rattle.std.proofs.Math.IntN.{+ℤ_idl, suc_ℤ-*ℤ, zero-*ℤ}
use Rattle.std.proofs.lemmas.Int.{ints, int_wrap-add_left}
use Rattle.hpf_base.proofs.Integers.{sum-*ℤ}
use Rattle.array_meaning.specs.Sections.{nth}
use Rattle.op_tables.specs.Operators.{wrapped}
use Rattle.nest_order.specs.Turns.{◌>>=◌, in_turn}
use Rattle.array_meaning.specs.declared.sections.Sequence.{Sequence}
use Rattle.array_meaning.specs.Iterations.{turn_value}

-- what comes next, where there is no fault. Both `>>=`, of the meaning and of the law of nests, are called so in other files
infixl 10 ◌⊳◌
abbrev pub ◌⊳◌ : {A B F : Type 0} → Result A F → (A → Result B F) → Result B F
r ⊳ f = r >>= f

abbrev pub later : {M F : Type 0} → ℕ → ℕ → (ℕ → M → Result M F) → M → Result M F
later zero j f m = Ok m
later (suc n) j f m = f j m >>= later n (suc j) f

module _ {M F : Type 0} (f : ℕ → M → Result M F) where
  pub bind_same : (x : Result M F) (g h : M → Result M F) → ((m : M) → g m ≡ h m) → x >>= g ≡ x >>= h
  bind_same (Ok m) g h e = e m
  bind_same (Err e') g h e = refl

  bind_bind : (x : Result M F) (g h : M → Result M F) → x >>= (λ m. g m >>= h) ≡ (x >>= g) >>= h
  bind_bind (Ok m) g h = refl
  bind_bind (Err e) g h = refl

  one_more : (j : ℕ) (m : M) → f j m >>= (λ x. Ok x) ≡ f j m
  one_more j m = right (f j m) where
    right : (x : Result M F) → x >>= (λ y. Ok y) ≡ x
    right (Ok y) = refl
    right (Err e) = refl

  later_last : (n j : ℕ) (m : M) → later (suc n) j f m ≡ later n j f m >>= f (n + j)
  later_last zero j m = one_more j m ∙ let e : j ≡ 0 + j = omega arith in ap (λ q. f q m) e
  later_last (suc n) j m =
      let e : n + suc j ≡ suc n + j = omega arith in
      bind_same (f j m) (later (suc n) (suc j) f) (λ x. later n (suc j) f x >>= f (suc n + j)) (λ x. later_last n (suc j) x ∙ ap (λ q. later n (suc j) f x >>= f q) e)
      ∙ bind_bind (f j m) (later n (suc j) f) (f (suc n + j))

  pub in_turn_later : (n : ℕ) (m : M) → in_turn n f m ≡ later n 0 f m
  in_turn_later zero m = refl
  in_turn_later (suc n) m =
      let e : n ≡ n + 0 = omega arith in
      ap (λ x. x >>= f n) (in_turn_later n m) ∙ ap (λ q. later n 0 f m >>= f q) e ∙ sym (later_last n 0 m)

-- the value grows by the step
pub next_value : (p : Sequence) (j : ℕ) → wrapped (turn_value p j +ℤ p.step) ≡ turn_value p (suc j)
next_value p j =
    int_wrap-add_left w64 (nth p (pos (suc j))) p.step ∙ ap wrapped (more p.first p.step (pos (suc j)) (pos (suc (suc j))) (omega (arith, ints))) where
      more : (first step x y : ℤ) → y ≡ x +ℤ pos 1 → (first +ℤ (x -ℤ pos 1) *ℤ step) +ℤ step ≡ first +ℤ (y -ℤ pos 1) *ℤ step
      more first step x y e =
          let whole : ((x -ℤ pos 1) +ℤ pos 1) *ℤ step ≡ ((x -ℤ pos 1) *ℤ step) +ℤ (pos 1 *ℤ step) = sum-*ℤ (x -ℤ pos 1) (pos 1) step in
          let one : pos 1 *ℤ step ≡ step = suc_ℤ-*ℤ (pos 0) step ∙ ap (λ z. z +ℤ step) (zero-*ℤ step) ∙ +ℤ_idl step in
          let same : (x -ℤ pos 1) +ℤ pos 1 ≡ y -ℤ pos 1 = omega (arith, ints) in
          let turned : (y -ℤ pos 1) *ℤ step ≡ ((x -ℤ pos 1) +ℤ pos 1) *ℤ step = ap (λ z. z *ℤ step) (sym same) in
          omega (arith, ints, whole, one, turned)

pub first_value : (p : Sequence) → wrapped p.first ≡ p.first → turn_value p 0 ≡ p.first
first_value p fits =
    let none : pos 0 *ℤ p.step ≡ pos 0 = zero-*ℤ p.step in
    let e : p.first +ℤ pos 0 *ℤ p.step ≡ p.first = omega (arith, ints, none) in
    ap wrapped e ∙ fits
