-- The values that the indices of loops, each of which is inside the one before, have after them.
use Rattle.std.proofs.Common.{◌≡◌, ℕ, zero, suc, ◌+◌, ◌*◌, ◌⊎◌, inl, inr, nat_eq, List, [], ◌∷◌, map, reverse, length, ℤ, pos, ◌+ℤ◌, ◌-ℤ◌, ◌*ℤ◌, Bool, true, false, Some, None, if◌then◌else◌, refl, sym, ap, ◌∙◌, arith, w64}
use Rattle.std.specs.List.{AllByRecursion}
use Rattle.std.proofs.lemmas.Bool.{cases_eq}
use Rattle.std.proofs.lemmas.Bool.Decides.{nat_tests}
use Rattle.std.proofs.lemmas.List.{reverse-append}
use Rattle.std.proofs.lemmas.Int.{ints, int_wrap-add_left, int_wrap-add_right, int_wrap-mul_left}
use Rattle.std.proofs.Math.IntN.{zero-*ℤ}
use Rattle.hpf_base.specs.ElementOrder.{product}
use Rattle.op_tables.specs.Operators.{wrapped}
use Rattle.array_meaning.specs.State.{State}
use Rattle.array_meaning.specs.Statements.{Loop}
use Rattle.array_meaning.specs.declared.sections.Sequence.{Sequence}
use Rattle.array_meaning.specs.Forall.{index_extents}
use Rattle.array_meaning.specs.Iterations.{values_of, turn_value}
use Rattle.nest_items.proofs.Turns.{next_value}
use Rattle.statement_trail.specs.NestParts.{index_in}
use Rattle.nest_join.proofs.Names.{eq-is, in-both-none}
use Rattle.nest_join.proofs.NestIndices.{iterations-of}

-- ---- tests of names

pub same-test : (x k : ℕ) → x ≡ k → nat_eq x k ≡ true
same-test x k e = grind (arith, nat_tests, e)

pub other-test : (x k : ℕ) → (x ≡ k → ⊥) → nat_eq x k ≡ false
other-test x k ne = by_test (nat_eq x k) refl
  where
    by_test : (t : Bool) → nat_eq x k ≡ t → nat_eq x k ≡ false
    by_test true e = absurd (ne (eq-is x k e))
    by_test false e = e

-- the index of none of these loops, and that of one of them
abbrev pub AreOther : ℕ → List Loop → Type 0
AreOther k ls = AllByRecursion (λ (l : Loop). l.index ≡ k → ⊥) ls

abbrev pub IsIndexOf : ℕ → List Loop → Type 0
IsIndexOf k [] = ⊥
IsIndexOf k (l ∷ ls) = (l.index ≡ k) ⊎ ((l.index ≡ k → ⊥) × IsIndexOf k ls)

pub other-or-index : (k : ℕ) (ls : List Loop) → AreOther k ls ⊎ IsIndexOf k ls
other-or-index k [] = inl tt
other-or-index k (l ∷ ls) = by_case (cases_eq l.index k) (other-or-index k ls)
  where
    by_case : (l.index ≡ k) ⊎ (l.index ≡ k → ⊥) → AreOther k ls ⊎ IsIndexOf k ls → AreOther k (l ∷ ls) ⊎ IsIndexOf k (l ∷ ls)
    by_case (inl e) h = inr (inl e)
    by_case (inr ne) (inl h) = inl (ne, h)
    by_case (inr ne) (inr h) = inr (inr (ne, h))

pub none-index : (k : ℕ) (ls : List Loop) → AreOther k ls → index_in (reverse (map (λ (l : Loop). l.index) ls)) 0 k ≡ None
none-index k [] h = refl
none-index k (l ∷ ls) h =
    let xs : List ℕ = reverse (map (λ (a : Loop). a.index) ls) in
    ap (λ ys. index_in ys 0 k) (reverse-append (l.index ∷ []) (map (λ (a : Loop). a.index) ls))
    ∙ in-both-none xs (l.index ∷ []) 0 k (none-index k ls h.1)
    ∙ ap (λ t. if t then Some (0 + length xs) else None) (other-test l.index k h.0)

-- each loop has another index
abbrev pub AreApart : List Loop → Type 0
AreApart [] = Unit {0}
AreApart (l ∷ ls) = AreOther l.index ls × AreApart ls

-- ---- values

-- one where there is no trip, and one where there is some
abbrev pub by_trips : {A : Type 0} → ℕ → A → A → A
by_trips zero a b = a
by_trips (suc c) a b = b

abbrev pub last_value : Sequence → ℤ
last_value p = by_trips p.count p.first (turn_value p p.count)

abbrev pub iterated : ℕ → ℤ → ℤ → ℤ
iterated zero v step = v
iterated (suc c) v step = iterated c (wrapped (v +ℤ step)) step

iterated-from : (p : Sequence) (c j : ℕ) → iterated c (turn_value p j) p.step ≡ turn_value p (j + c)
iterated-from p zero j = let e : j ≡ j + 0 = omega arith in ap (turn_value p) e
iterated-from p (suc c) j =
    let e : suc j + c ≡ j + suc c = omega arith in
    ap (λ v. iterated c v p.step) (next_value p j) ∙ iterated-from p c (suc j) ∙ ap (turn_value p) e

first-next : (p : Sequence) → wrapped (p.first +ℤ p.step) ≡ turn_value p 1
first-next p =
    let none : pos 0 *ℤ p.step ≡ pos 0 = zero-*ℤ p.step in
    let e : p.first ≡ p.first +ℤ pos 0 *ℤ p.step = omega (arith, ints, none) in
    sym (int_wrap-add_left w64 p.first p.step) ∙ ap (λ v. wrapped (wrapped v +ℤ p.step)) e ∙ next_value p 0

pub iterated-last : (p : Sequence) → iterated p.count p.first p.step ≡ last_value p
iterated-last p = by_count p.count
  where
    by_count : (c : ℕ) → iterated c p.first p.step ≡ by_trips c p.first (turn_value p c)
    by_count zero = refl
    by_count (suc c) = let e : 1 + c ≡ suc c = omega arith in ap (λ v. iterated c v p.step) (first-next p) ∙ iterated-from p c 1 ∙ ap (turn_value p) e

-- what the code makes of how many trips are left after the first
pub code-last : (p : Sequence) (c : ℕ) → wrapped (p.first +ℤ wrapped (wrapped (wrapped (pos c) +ℤ pos 1) *ℤ p.step)) ≡ turn_value p (suc c)
code-last p c =
    let e : pos c +ℤ pos 1 ≡ pos (suc (suc c)) -ℤ pos 1 = omega (arith, ints) in
    ap (λ v. wrapped (p.first +ℤ wrapped (v *ℤ p.step))) (int_wrap-add_left w64 (pos c) (pos 1))
    ∙ ap (λ v. wrapped (p.first +ℤ v)) (int_wrap-mul_left w64 (pos c +ℤ pos 1) p.step)
    ∙ int_wrap-add_right w64 p.first ((pos c +ℤ pos 1) *ℤ p.step)
    ∙ ap (λ v. wrapped (p.first +ℤ v *ℤ p.step)) e

pub last-none : (p : Sequence) → p.count ≡ 0 → last_value p ≡ p.first
last-none p e = ap (λ m. by_trips m p.first (turn_value p p.count)) e

pub last-some : (p : Sequence) (c : ℕ) → p.count ≡ suc c → last_value p ≡ turn_value p p.count
last-some p c e = ap (λ m. by_trips m p.first (turn_value p p.count)) e

-- ---- loops, by their values in a state

module _ (s : State) where
  -- all make trips
  abbrev pub HaveTurns : List Loop → Type 0
  HaveTurns [] = Unit {0}
  HaveTurns (l ∷ ls) = (c : ℕ) × ((values_of s l).count ≡ suc c) × HaveTurns ls

  -- one makes none, and all round it make trips
  abbrev pub IsEmpty : List Loop → Type 0
  IsEmpty [] = ⊥
  IsEmpty (l ∷ ls) = ((values_of s l).count ≡ 0) ⊎ (((c : ℕ) × ((values_of s l).count ≡ suc c)) × IsEmpty ls)

  pub turns-or-empty : (ls : List Loop) → HaveTurns ls ⊎ IsEmpty ls
  turns-or-empty [] = inl tt
  turns-or-empty (l ∷ ls) = by_count (values_of s l).count refl (turns-or-empty ls)
    where
      by_count : (c : ℕ) → (values_of s l).count ≡ c → HaveTurns ls ⊎ IsEmpty ls → HaveTurns (l ∷ ls) ⊎ IsEmpty (l ∷ ls)
      by_count zero e h = inr (inl e)
      by_count (suc c) e (inl h) = inl (c, e, h)
      by_count (suc c) e (inr h) = inr (inr ((c, e), h))

  -- the value of a scalar after them: each index has its last value, and loops inside one that makes no trip don't begin
  abbrev pub left : List Loop → ℕ → ℤ → ℤ
  left [] k v = v
  left (l ∷ ls) k v = if nat_eq l.index k then last_value (values_of s l) else by_trips (values_of s l).count v (left ls k v)

  pub left-here : (l : Loop) (ls : List Loop) (k : ℕ) (v : ℤ) → l.index ≡ k → left (l ∷ ls) k v ≡ last_value (values_of s l)
  left-here l ls k v e = ap (λ t. if t then last_value (values_of s l) else by_trips (values_of s l).count v (left ls k v)) (same-test l.index k e)

  pub left-past : (l : Loop) (ls : List Loop) (k : ℕ) (v : ℤ) → (l.index ≡ k → ⊥) → left (l ∷ ls) k v ≡ by_trips (values_of s l).count v (left ls k v)
  left-past l ls k v ne = ap (λ t. if t then last_value (values_of s l) else by_trips (values_of s l).count v (left ls k v)) (other-test l.index k ne)

  pub left-none : (ls : List Loop) (k : ℕ) (v : ℤ) → AreOther k ls → left ls k v ≡ v
  left-none [] k v h = refl
  left-none (l ∷ ls) k v h = left-past l ls k v h.0 ∙ by_count (values_of s l).count (left-none ls k v h.1)
    where
      by_count : (c : ℕ) → left ls k v ≡ v → by_trips c v (left ls k v) ≡ v
      by_count zero e = refl
      by_count (suc c) e = e

  left-twice : (ls : List Loop) (k : ℕ) (v : ℤ) → left ls k (left ls k v) ≡ left ls k v
  left-twice [] k v = refl
  left-twice (l ∷ ls) k v = by_test (nat_eq l.index k) (values_of s l).count (last_value (values_of s l)) (left-twice ls k v)
    where
      by_test : (t : Bool) (c : ℕ) (w : ℤ) → left ls k (left ls k v) ≡ left ls k v
          → (if t then w else by_trips c (if t then w else by_trips c v (left ls k v)) (left ls k (if t then w else by_trips c v (left ls k v))))
          ≡ (if t then w else by_trips c v (left ls k v))
      by_test true c w h = refl
      by_test false zero w h = refl
      by_test false (suc c) w h = h

  pub left-again : (ls : List Loop) (k : ℕ) (v : ℤ) (m : ℕ) → by_trips m (left ls k v) (left ls k (left ls k v)) ≡ left ls k v
  left-again ls k v zero = refl
  left-again ls k v (suc m) = left-twice ls k v

  -- ---- how many iterations there are

  no-product : (m c : ℕ) → (m ≡ 0 → ⊥) → m * suc c ≡ 0 → ⊥
  no-product zero c some e = some refl
  no-product (suc m) c some e = omega (arith, e)

  pub some-iterations : (ls : List Loop) → HaveTurns ls → product (index_extents (reverse (map (values_of s) ls))) ≡ 0 → ⊥
  some-iterations [] h e = let z : 1 ≡ 0 = e in omega (arith, z)
  some-iterations (l ∷ ls) h e =
      let m : ℕ = product (index_extents (reverse (map (values_of s) ls))) in
      no-product m h.0 (some-iterations ls h.2) (ap (λ c. m * c) (sym h.1) ∙ sym (iterations-of s l ls) ∙ e)

  pub no-iterations : (ls : List Loop) → IsEmpty ls → product (index_extents (reverse (map (values_of s) ls))) ≡ 0
  no-iterations [] h = absurd h
  no-iterations (l ∷ ls) (inl e) =
      let m : ℕ = product (index_extents (reverse (map (values_of s) ls))) in
      let z : m * 0 ≡ 0 = omega arith in
      iterations-of s l ls ∙ ap (λ c. m * c) e ∙ z
  no-iterations (l ∷ ls) (inr h) =
      let c : ℕ = (values_of s l).count in
      let z : 0 * c ≡ 0 = omega arith in
      iterations-of s l ls ∙ ap (λ m. m * c) (no-iterations ls h.1) ∙ z
