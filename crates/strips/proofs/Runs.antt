-- Places that follow one another.
use Rattle.std.proofs.Common.{◌≡◌, ℕ, suc, ◌+◌, ◌-◌, ◌*◌, ◌/◌, ◌%◌, ◌<◌, ◌≤◌, ◌⊎◌, inl, inr, true, List, [], ◌∷◌, ◌++◌, length, take, drop, ℤ, pos, Option, Some, None, Result, Ok, Err, refl, ap, sym, subst, ◌∙◌, arith}
use Rattle.std.specs.List.{list_all}
use Rattle.std.specs.Prelude.{slice_index_or}
use Rattle.std.proofs.lemmas.Bool.{cases_lt}
use Rattle.std.proofs.lemmas.List.{get_or-take, get_or-drop, length-take-le, length-drop, get_or_append_left, get_or_push}
use Rattle.std.proofs.lemmas.Nat.{div_below, mod-mul-add, div-mul-add}
use Rattle.array_meaning.specs.declared.limits.TheConstants.{MAX_TUPLES}
use Rattle.array_meaning.specs.Elementals.{Selected}
use Rattle.array_meaning.specs.Faults.{Cause, ◌>>=◌}
use Rattle.array_meaning.specs.Sections.{positions, subscripts_at}
use Rattle.array_meaning.specs.State.{State, array, element_place, if_in_bounds}
use Rattle.array_meaning.specs.declared.sections.Selection.{Selection}
use Rattle.element_lines.specs.Progressions.{members}
use Rattle.element_lines.proofs.Lines.{on_a_line}
use Rattle.strips.specs.Places.{AreRuns, IsRun, tuple_place}
use Rattle.strips.specs.SlowSections.{is_slow}
use Rattle.strip_operators.specs.Strips.{IsStrip}
use Rattle.strips.specs.Strips.{row_tuple, row_value}
use Rattle.strips.proofs.RowSubscripts.{row_progressions, row_subscripts}

no_ok : {B : Type 0} (c : Cause) (b : B) → (let x : Result B Cause = Err c in x) ≡ Ok b → ⊥
no_ok c b e = cc

ok_is : {B : Type 0} (a b : B) → (let x : Result B Cause = Ok a in x) ≡ Ok b → a ≡ b
ok_is a b e = cc

-- ---- a place that is there

in_bounds : (o : Option ℕ) (p : ℕ) → if_in_bounds o ≡ Ok p → o ≡ Some p
in_bounds None p h = absurd (no_ok _ p h)
in_bounds (Some q) p h = ap Some (ok_is q p h)

-- ---- runs

module _ (s : State) (a : ℕ) (ds : List Selection) (u : ℕ) (rest : List ℤ) where
  at_place : (t k p : ℕ) → t ≡ u + k → tuple_place s a ds (pos (suc t) ∷ rest) ≡ Ok p → element_place (array s a).dims (subscripts_at ds (row_tuple u rest k)) ≡ Some p
  at_place t k p is h =
      in_bounds (element_place (array s a).dims (subscripts_at ds (row_tuple u rest k))) p
      (ap (λ t. tuple_place s a ds (pos (suc t) ∷ rest)) (sym is) ∙ h)

  pub run_of_one : (n first : ℕ) → n ≡ 1 → tuple_place s a ds (pos (suc u) ∷ rest) ≡ Ok first → IsRun s a ds u rest n first
  run_of_one n first one h k lt =
      let e : u + k ≡ u = omega (arith, lt, one) in
      let f : first ≡ first + k = omega (arith, lt, one) in
      ap (λ t. tuple_place s a ds (pos (suc t) ∷ rest)) e ∙ h ∙ ap Ok f

  pub run_by_ends : (n first second last : ℕ) → list_all is_slow ds ≡ true → u + n ≤ MAX_TUPLES → 1 < n → tuple_place s a ds (pos (suc u) ∷ rest) ≡ Ok first
      → tuple_place s a ds (pos (suc (u + 1)) ∷ rest) ≡ Ok second → tuple_place s a ds (pos (suc (u + (n - 1))) ∷ rest) ≡ Ok last → first < second → second - first ≡ 1
      → IsRun s a ds u rest n first
  run_by_ends n first second last slow few two at_first at_second at_last up step k lt =
      let none : u ≡ u + 0 = omega arith in
      let here : (k : ℕ) → k < n → element_place (array s a).dims (subscripts_at ds (row_tuple u rest k)) ≡ element_place (array s a).dims (members k (row_progressions u rest ds)) =
      λ k lt. ap (element_place (array s a).dims) (row_subscripts ds rest u k slow (omega (arith, lt, few))) in
      let p0 = sym (here 0 (omega (arith, two))) ∙ at_place u 0 first none at_first in
      let p1 = sym (here 1 two) ∙ at_place (u + 1) 1 second refl at_second in
      let pn = sym (here (n - 1) (omega (arith, two))) ∙ at_place (u + (n - 1)) (n - 1) last refl at_last in
      let by_one : first + k * (second - first) ≡ first + k = ap (λ d. first + k * d) step ∙ omega arith in
      ap if_in_bounds (here k lt ∙ on_a_line (array s a).dims (row_progressions u rest ds) n first second last two p0 p1 pn (omega (arith, up)) k lt)
      ∙ ap Ok by_one

  -- the elements at the places of a run
  pub run_strip : (n first : ℕ) → IsRun s a ds u rest n first → first + n ≤ length (array s a).elements
      → IsStrip (row_value s (Selected a ds) u rest) n (take n (drop first (array s a).elements))
  run_strip n first run fits = (len, at) where
    len : length (take n (drop first (array s a).elements)) ≡ n
    len = length-take-le n (drop first (array s a).elements) (omega (arith, fits, length-drop first (array s a).elements))

    at : (k : ℕ) → k < n → row_value s (Selected a ds) u rest k ≡ Ok (slice_index_or (take n (drop first (array s a).elements)) k (pos 0))
    at k lt =
        ap (λ r. r >>= (λ k. Ok (slice_index_or (array s a).elements k (pos 0)))) (run k lt)
        ∙ ap Ok (sym (get_or-take n (drop first (array s a).elements) k (pos 0) lt ∙ get_or-drop first (array s a).elements k (pos 0)))

-- ---- in all rows of a space

module _ (s : State) (a : ℕ) (ds : List Selection) (n : ℕ) (ns : List ℕ) where
  pub no_runs : AreRuns s (n ∷ ns) a ds (0 * n) []
  no_runs t lt = absurd (omega (arith, lt))

  -- one row more
  pub runs_more : (y first : ℕ) (firsts : List ℕ) → 0 < n → length firsts ≡ y → AreRuns s (n ∷ ns) a ds (y * n) firsts → IsRun s a ds 0 (positions ns y) n first
      → AreRuns s (n ∷ ns) a ds ((y + 1) * n) (firsts ++ first ∷ [])
  runs_more y first firsts some long before run t lt = by_row (cases_lt t (y * n)) where
    by_row : (t < y * n) ⊎ (y * n ≤ t) → tuple_place s a ds (positions (n ∷ ns) t) ≡ Ok (slice_index_or (firsts ++ first ∷ []) (t / n) 0 + t % n)
    by_row (inl low) =
        let here : t / n < length firsts = subst (λ m. t / n < m) (sym long) (div_below t n y some low) in
        before t low ∙ ap (λ p. Ok (p + t % n)) (sym (get_or_append_left firsts (first ∷ []) 0 (t / n) here))
    by_row (inr high) =
        let j : ℕ = t - y * n in
        let less : t - y * n < n = omega (arith, lt, high) in
        let is : t ≡ y * n + (t - y * n) = omega (arith, high) in
        let row : t / n ≡ y = ap (λ t. t / n) is ∙ div-mul-add y n (t - y * n) less in
        let column : t % n ≡ t - y * n = ap (λ t. t % n) is ∙ mod-mul-add y n (t - y * n) less in
        let none : t - y * n ≡ 0 + (t - y * n) = omega arith in
        ap (λ c. tuple_place s a ds (pos (suc c) ∷ positions ns (t / n))) (column ∙ none)
        ∙ ap (λ r. tuple_place s a ds (pos (suc (0 + (t - y * n))) ∷ positions ns r)) row
        ∙ run (t - y * n) less
        ∙ ap (λ c. Ok (first + c)) (sym column)
        ∙ ap (λ p. Ok (p + t % n)) (sym (ap (λ r. slice_index_or (firsts ++ first ∷ []) r 0) row ∙ get_or_push firsts first 0 y long))
