-- Where there is no clash, no two iterations touch an object that one of them writes.
use Rattle.std.proofs.Common.{◌≡◌, ℕ, ◌<◌, List, Bool, true, false, ◌||◌, ◌==◌, if◌then◌else◌, Option, Some, None, Result, Ok, refl, ap, sym, ◌∙◌, arith, ◌⊎◌, inl, inr, ⊎_elim, Contains}
use Rattle.std.proofs.lemmas.Bool.Decides.{nat_tests}
use Rattle.std.proofs.lemmas.Bool.{cases_eq, cases_lt}
use Rattle.array_meaning.specs.Statements.{Nest, Block}
use Rattle.array_meaning.specs.Faults.{Cause, fails}
use Rattle.array_meaning.specs.declared.faults.FaultKind.TheVariants.{SpaceLimit}
use Rattle.array_meaning.specs.State.{State}
use Rattle.array_meaning.specs.declared.sections.Sequence.{Sequence}
use Rattle.array_meaning.specs.Iterations.{nest_axes, iteration_count}
use Rattle.array_meaning.specs.Touches.{Touch, iteration_touches}
use Rattle.array_meaning.specs.Clashes.{Clash, first_clash}
use Rattle.array_meaning.specs.NestLimits.{is_nest_in_limits}
use Rattle.array_meaning.specs.NestEntry.{check_nest, unless_clash}
use Rattle.nest_clash.specs.FirstClash.{InterfereIn}
use Rattle.nest_clash.proofs.FirstOfAll.{tells_first}
use Rattle.nest_items.proofs.Storing.{by_cases, if_so, if_not}

either : (i j : ℕ) → (i ≡ j → ⊥) → (i < j) ⊎ (j < i)
either i j differ = ⊎_elim (λ lt. inl lt) (λ le. ⊎_elim (λ same. absurd (differ same)) (λ n. inr (omega (arith, le, n))) (cases_eq i j)) (cases_lt i j)

or_right : (a b : Bool) → b ≡ true → (a || b) ≡ true
or_right true b e = refl
or_right false b e = e

module _ (touched : ℕ → List Touch) (n : ℕ) (none : first_clash touched n ≡ None) where
  none_interfere : (i j name place : ℕ) → i < j → j < n → InterfereIn touched i j name place → ⊥
  none_interfere = tells_first touched n None none

  -- whichever of the two comes first
  pub apart : (i j : ℕ) (x y : Touch) → i < n → j < n → (i ≡ j → ⊥) → Contains (touched i) x → Contains (touched j) y
      → x.name ≡ y.name → x.place ≡ y.place → x.writes ≡ true → ⊥
  apart i j x y below below' differ cx cy name place w = ⊎_elim
      (λ lt. none_interfere i j x.name x.place lt below'
      (record { one = x; other = y; here = cx; there = cy; one_is = (refl, refl); other_is = (sym name, sym place); writes = ap (λ b. b || y.writes) w }))
      (λ gt. none_interfere j i x.name x.place gt below
      (record { one = y; other = x; here = cy; there = cx; one_is = (sym name, sym place); other_is = (refl, refl); writes = or_right y.writes x.writes w }))
      (either i j differ)

-- a nest that is entered has no clash
unless_none : (s : State) (axes : List Sequence) (c : Option Clash) → unless_clash s axes c ≡ Ok s → c ≡ None
unless_none s axes None e = refl
unless_none s axes (Some c) e = absurd cc

pub entered_without_clash : (nest : Nest) (body : Block) (s : State) → check_nest nest body s ≡ Ok s → (i : ℕ) → i < iteration_count nest s
    → first_clash (iteration_touches nest body s) (iteration_count nest s) ≡ None
entered_without_clash nest body s passed i lt =
    let n = iteration_count nest s in
    let some : (n == 0) ≡ false = grind (arith, nat_tests, lt) in
    let inside : check_limited ≡ Ok s = sym (ap (λ b. if b then Ok s else check_limited) some) ∙ passed in
    by_cases (is_nest_in_limits nest body s)
    (λ t. unless_none s (nest_axes s nest) (first_clash (iteration_touches nest body s) n) (sym (if_so (is_nest_in_limits nest body s) (clash_checked) (fails SpaceLimit) t) ∙ inside))
    (λ f. let z : fails SpaceLimit ≡ Ok s = sym (if_not (is_nest_in_limits nest body s) (clash_checked) (fails SpaceLimit) f) ∙ inside in absurd cc)
  where
    clash_checked : Result State Cause
    clash_checked = unless_clash s (nest_axes s nest) (first_clash (iteration_touches nest body s) (iteration_count nest s))

    check_limited : Result State Cause
    check_limited = if is_nest_in_limits nest body s then clash_checked else fails SpaceLimit
