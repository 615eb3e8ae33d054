-- The copies that are made at the entry of a nest.
use Rattle.std.proofs.Common.{Bool, ◌≡◌, ℕ, zero, suc, ◌+◌, ◌<◌, List, [], ◌∷◌, length, replicate, slice_get, slice_set, ℤ, Some, refl, sym, ap, ◌∙◌, subst, arith, length-set, get_or-set_same, get_or-set_other}
use Rattle.std.specs.List.{Contains}
use Rattle.std.proofs.lemmas.List.Elements.{Contains-append_left, Contains-append_right}
use Rattle.storage.specs.Storage.{row_of}
use Rattle.machine_steps.specs.Layout.{Layout, size_of}
use Rattle.machine_steps.specs.Instr.{Instr, MakeCopy}
use Rattle.nest_machine.specs.Trace.{Data}
use Rattle.nest_machine.specs.Stands.{stands, HasAt}
use Rattle.nest_syntax.specs.Finals.{Final}
use Rattle.nest_machine.specs.Entries.{Entry, final_entries, finals_entries, entries_code, made, all_made, NotMade, AreRows}
use Rattle.nest_machine.proofs.Runs.{Reaches, reaches-on, one, first-quiet, none-quiet}
use Rattle.nest_machine.proofs.Unmade.{get-other}

get-same : {T : Type 0} (xs : List T) (i : ℕ) (v : T) → i < length xs → slice_get (slice_set xs i v) i ≡ Some v
get-same [] i v lt = absurd (omega (arith, lt))
get-same (x ∷ xs) zero v lt = refl
get-same (x ∷ xs) (suc i) v lt = get-same xs i v (omega (arith, lt))

pub in-first : {T : Type 0} (x : T) (xs : List T) → Contains (x ∷ xs) x
in-first x xs = (0, omega arith, refl)

pub in-later : {T : Type 0} (x y : T) (xs : List T) → Contains xs y → Contains (x ∷ xs) y
in-later x y xs (k, lt, e) = (suc k, omega (arith, lt), e)

pub entries-of-final : (fs : List Final) (f : Final) → Contains fs f → (e : Entry) → Contains (final_entries f) e → Contains (finals_entries fs) e
entries-of-final [] f (k, lt, z) e c = absurd (omega (arith, lt))
entries-of-final (g ∷ fs) f (zero, lt, z) e c = Contains-append_left (final_entries g) (finals_entries fs) e (subst (λ x. Contains (final_entries x) e) (sym z) c)
entries-of-final (g ∷ fs) f (suc k, lt, z) e c = Contains-append_right (final_entries g) (finals_entries fs) e (entries-of-final fs f (k, omega (arith, lt), z) e c)

module _ {F : Type 0} (layout : List Layout → List ℤ → Layout) (s : List ℤ) where
  abbrev Made : List Entry → Data F → Data F
  Made es d = all_made layout es s d

  pub made-length : (es : List Entry) (d : Data F) → (length (Made es d).rows ≡ length d.rows) × (length (Made es d).layouts ≡ length d.layouts)
  made-length [] d = (refl, refl)
  made-length (e ∷ es) d =
      let h = made-length es (made layout e s d) in
      (h.0 ∙ length-set d.rows e.row (replicate (size_of (layout d.layouts s)) (e.start s)), h.1 ∙ length-set d.layouts e.row (layout d.layouts s))

  pub made-kept : (es : List Entry) (d : Data F) → ((Made es d).kept ≡ d.kept) × ((Made es d).parts ≡ d.parts)
  made-kept [] d = (refl, refl)
  made-kept (e ∷ es) d = made-kept es (made layout e s d)

  pub made-other : (es : List Entry) (d : Data F) (r : ℕ) → NotMade r es → (row_of (Made es d).rows r ≡ row_of d.rows r) × (slice_get (Made es d).layouts r ≡ slice_get d.layouts r)
  made-other [] d r off = (refl, refl)
  made-other (e ∷ es) d r off =
      let h = made-other es (made layout e s d) r off.1 in (
        h.0 ∙ get_or-set_other d.rows e.row r (replicate (size_of (layout d.layouts s)) (e.start s)) [] (λ z. off.0 (sym z)),
        h.1 ∙ get-other d.layouts e.row r (layout d.layouts s) (λ z. off.0 (sym z)),
      )

  -- Each has the layout `l`, where that is the layout of a copy as long as rows lie as at first but for those that are made. `all` are all of
  -- them, and `old` the layouts at first
  module _ (all : List Entry) (old : List Layout) (l : Layout)
      (steady : (layouts : List Layout) → ((r : ℕ) → NotMade r all → slice_get layouts r ≡ slice_get old r) → layout layouts s ≡ l) where
    made-here : (es : List Entry) (d : Data F) → AreRows es → ((e : Entry) → Contains es e → Contains all e) → ((e : Entry) → Contains es e → e.row < length d.rows)
        → length d.layouts ≡ length d.rows → ((r : ℕ) → NotMade r all → slice_get d.layouts r ≡ slice_get old r)
        → (e : Entry) → Contains es e → (row_of (Made es d).rows e.row ≡ replicate (size_of l) (e.start s)) × (slice_get (Made es d).layouts e.row ≡ Some l)
    made-here [] d apart among few many as_old e (k, lt, z) = absurd (omega (arith, lt))
    made-here (g ∷ es) d apart among few many as_old e (zero, lt, z) =
        let h = made-other es (made layout g s d) g.row apart.0 in
        let lg = few g (in-first g es) in
        let is : layout d.layouts s ≡ l = steady d.layouts as_old in
        subst (λ (x : Entry). (row_of (Made (g ∷ es) d).rows x.row ≡ replicate (size_of l) (x.start s)) × (slice_get (Made (g ∷ es) d).layouts x.row ≡ Some l)) z (
          h.0 ∙ get_or-set_same d.rows g.row (replicate (size_of (layout d.layouts s)) (g.start s)) [] lg ∙ ap (λ x. replicate (size_of x) (g.start s)) is,
          h.1 ∙ get-same d.layouts g.row (layout d.layouts s) (omega (arith, lg, many)) ∙ ap Some is,
        )
    made-here (g ∷ es) d apart among few many as_old e (suc k, lt, z) =
        let lr = length-set d.rows g.row (replicate (size_of (layout d.layouts s)) (g.start s)) in
        let ll = length-set d.layouts g.row (layout d.layouts s) in
        made-here es (made layout g s d) apart.1 (λ x c. among x (in-later g x es c)) (λ x c. let f = few x (in-later g x es c) in omega (arith, f, lr)) (ll ∙ many ∙ sym lr)
        (λ r off. get-other d.layouts g.row r (layout d.layouts s) (λ y. not-made all g (among g (in-first g es)) r off (sym y)) ∙ as_old r off) e (k, omega (arith, lt), z)
      where
        not-made : (xs : List Entry) (x : Entry) → Contains xs x → (r : ℕ) → NotMade r xs → x.row ≡ r → ⊥
        not-made [] x (k, lt, z) r off y = absurd (omega (arith, lt))
        not-made (h ∷ xs) x (zero, lt, z) r off y = off.0 (ap (λ (w : Entry). w.row) z ∙ y)
        not-made (h ∷ xs) x (suc k, lt, z) r off y = not-made xs x (k, omega (arith, lt), z) r off.1 y

  pub all-made-here : (es : List Entry) (d : Data F) → AreRows es → ((e : Entry) → Contains es e → e.row < length d.rows) → length d.layouts ≡ length d.rows
      → ((layouts : List Layout) → ((r : ℕ) → NotMade r es → slice_get layouts r ≡ slice_get d.layouts r) → layout layouts s ≡ layout d.layouts s)
      → (e : Entry) → Contains es e
      → (row_of (Made es d).rows e.row ≡ replicate (size_of (layout d.layouts s)) (e.start s)) × (slice_get (Made es d).layouts e.row ≡ Some (layout d.layouts s))
  all-made-here es d apart few many steady = made-here es d.layouts (layout d.layouts s) steady es d apart (λ e c. c) few many (λ r off. refl)

-- the machine makes them
module _ {I F : Type 0} (meaning : I → Instr F) (code : List I) (is_quiet : ℕ → Bool) (joined : ℤ) (line printed : List ℕ) (layout : List Layout → List ℤ → Layout) (s : List ℤ) where
  pub entries-run : (es : List Entry) (pc : ℕ) (d : Data F) → HasAt meaning code is_quiet pc (entries_code layout es)
      → Reaches meaning is_quiet (stands meaning code joined line printed pc s d) (stands meaning code joined line printed (pc + length (entries_code {F = F} layout es)) s (all_made layout es s d))
  entries-run [] pc d has = let e : pc ≡ pc + 0 = omega arith in (0, ap (λ p. stands meaning code joined line printed p s d) e, none-quiet meaning is_quiet (stands meaning code joined line printed pc s d))
  entries-run (g ∷ es) pc d has =
      let r = entries-run es (pc + 1) (made layout g s d) has.1 in
      let e : pc + 1 + length (entries_code {F = F} layout es) ≡ pc + suc (length (entries_code {F = F} layout es)) = omega arith in
      let last : Data F = all_made layout es s (made layout g s d) in
      reaches-on meaning is_quiet (stands meaning code joined line printed pc s d) (stands meaning code joined line printed (pc + 1) s (made layout g s d))
      (stands meaning code joined line printed (pc + suc (length (entries_code {F = F} layout es))) s last)
      (1, one meaning code joined line printed pc s d (MakeCopy g.row layout g.start) has.0.0, first-quiet meaning is_quiet (stands meaning code joined line printed pc s d) has.0.1)
      (r.0, r.1 ∙ ap (λ p. stands meaning code joined line printed p s last) e, r.2)
