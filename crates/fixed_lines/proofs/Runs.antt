-- How many lines in a row continue, among closed lines.
use Rattle.std.proofs.Common.{◌≡◌, ℕ, ◌+◌, ◌≤◌, Bool, true, false, cond, List, [], ◌∷◌, ◌++◌, refl, sym, ap, subst, ◌∙◌, append_assoc, arith, inr}
use Rattle.std.specs.Prelude.{not}
use Rattle.std.specs.List.{prefix_len, suffix_len}
use Rattle.std.proofs.lemmas.List.{append-nil, reverse-append}
use Rattle.std.proofs.lemmas.List.Elements.{filter-append}
use Rattle.hpf_base.specs.Refusal.{NoBreach}
use Rattle.hpf_base.specs.declared.refusal.Reason.TheVariants.{Limit}
use Rattle.fixed_lines.specs.FixedLines.{FixedLine}
use Rattle.fixed_lines.specs.declared.kind.FixedKind.TheVariants.{Directive}
use Rattle.fixed_lines.specs.declared.limits.TheConstants.{MAX_FIXED_CONTINUATIONS}
use Rattle.fixed_lines.specs.FixedBreaches.{continues, is_directive, is_passed, standing, IsBreachIn}
use Rattle.fixed_lines.specs.FixedLogicalLines.{is_blank_directive}
use Rattle.fixed_lines.specs.FreeText.{blank_left, continues_directive, with_code}
use Rattle.fixed_lines.proofs.ClosedLines.{blank_kind, both-true, closed_blank, closed_lines, closed_other, is_kind, raised, raised_end, raised_next}

-- how many of these lines continue in a row
abbrev pub run : List FixedLine → ℕ
run xs = prefix_len continues (standing xs)

-- how many lines in a row continue up to the end of these
abbrev pub run_before : List FixedLine → ℕ
run_before before = suffix_len continues (standing before)

pub run_passed : (x : FixedLine) (xs : List FixedLine) → is_passed x.kind ≡ true → run (x ∷ xs) ≡ run xs
run_passed x xs p = ap (λ t. prefix_len continues (cond (not t) (x ∷ standing xs) (standing xs))) p

pub run_here : (x : FixedLine) (xs : List FixedLine) → is_passed x.kind ≡ false → run (x ∷ xs) ≡ cond x.continues (1 + run xs) 0
run_here x xs p = ap (λ t. prefix_len continues (cond (not t) (x ∷ standing xs) (standing xs))) p

pub run_push : (before : List FixedLine) (x : FixedLine) (t : Bool) → is_passed x.kind ≡ t
    → run_before (before ++ x ∷ []) ≡ cond t (run_before before) (cond x.continues (1 + run_before before) 0)
run_push before x t passed =
    ap (suffix_len continues) (filter-append (λ (l : FixedLine). not (is_passed l.kind)) before (x ∷ []))
    ∙ ap (λ t. suffix_len continues (standing before ++ cond (not t) (x ∷ []) [])) passed ∙ step t
  where
    step : (t : Bool) → suffix_len continues (standing before ++ cond (not t) (x ∷ []) []) ≡ cond t (run_before before) (cond x.continues (1 + run_before before) 0)
    step true = ap (suffix_len continues) (append-nil (standing before))
    step false = ap (prefix_len continues) (reverse-append (standing before) (x ∷ []))

-- no more of these lines continue in a row than may, wherever the row begins
abbrev pub AreShort : List FixedLine → Type 0
AreShort [] = Unit {0}
AreShort (x ∷ xs) = (run (x ∷ xs) ≤ 19) × AreShort xs

-- what the limit leaves after these lines
abbrev AreWithin : List FixedLine → List FixedLine → Type 0
AreWithin before [] = Unit {0}
AreWithin before (x ∷ xs) =
    (x.continues ≡ true → run_before before ≡ MAX_FIXED_CONTINUATIONS → ⊥) × AreWithin (before ++ x ∷ []) xs

within_from : (all before lines : List FixedLine) → all ≡ before ++ lines → NoBreach (IsBreachIn all) → AreWithin before lines
within_from all before [] whole fine = tt
within_from all before (line ∷ lines) whole fine = (
  (λ goes many. fine line.number Limit (record { before = before; line = line; after = lines; whole = whole; numbered = refl; why = inr (goes, many) })),
  within_from all (before ++ line ∷ []) lines (whole ∙ sym (append_assoc before (line ∷ []) lines)) fine,
)

few : (b r b' : ℕ) (xr : ℕ) (t c : Bool) → b' ≡ cond t b (cond c (1 + b) 0) → xr ≡ cond t r (cond c (1 + r) 0) → b ≤ 19 → (c ≡ true → b ≡ 19 → ⊥)
    → (b' ≤ 19 → b' + r ≤ 19) → (b + xr ≤ 19) × (b' + r ≤ 19)
few b r b' xr true c is is' least more rest = let all = rest (omega (arith, is, least)) in (omega (arith, all, is, is'), all)
few b r b' xr false true is is' least more rest =
    let less : b ≤ 18 = below b least (more refl) in
    let all = rest (omega (arith, is, less)) in
    (omega (arith, all, is, is'), all)
  where
    below : (m : ℕ) → m ≤ 19 → (m ≡ 19 → ⊥) → m ≤ 18
    below m few ne = omega arith
few b r b' xr false false is is' least more rest = let all = rest (omega (arith, is)) in (omega (arith, all, is, is', least), all)

short_after : (before xs : List FixedLine) → AreWithin before xs → run_before before ≤ 19 → (run_before before + run xs ≤ 19) × AreShort xs
short_after before [] within least = (omega (arith, least), tt)
short_after before (x ∷ xs) within least = step (is_passed x.kind) refl (short_after (before ++ x ∷ []) xs within.1)
  where
    all : (t : Bool) → is_passed x.kind ≡ t → run (x ∷ xs) ≡ cond t (run xs) (cond x.continues (1 + run xs) 0)
    all true p = run_passed x xs p
    all false p = run_here x xs p

    step : (t : Bool) → is_passed x.kind ≡ t → (run_before (before ++ x ∷ []) ≤ 19 → (run_before (before ++ x ∷ []) + run xs ≤ 19) × AreShort xs)
        → (run_before before + run (x ∷ xs) ≤ 19) × AreShort (x ∷ xs)
    step t p rest =
        let f = few (run_before before) (run xs) (run_before (before ++ x ∷ [])) (run (x ∷ xs)) t x.continues (run_push before x t p) (all t p) least within.0 (λ l. (rest l).0) in
        let l : run_before (before ++ x ∷ []) ≤ 19 = omega (arith, f.1) in
        (f.0, (omega (arith, f.0), (rest l).1))

pub short_lines : (lines : List FixedLine) → NoBreach (IsBreachIn lines) → AreShort lines
short_lines lines fine = (short_after [] lines (within_from lines [] lines refl fine) (omega arith)).1

cond-le : (t : Bool) (a b : ℕ) → a ≤ b → cond t (1 + a) 0 ≤ cond t (1 + b) 0
cond-le true a b le = omega (arith, le)
cond-le false a b le = omega arith

blank_run : (x : FixedLine) (ys : List FixedLine) → x.kind ≡ Directive → run (blank_left x.continues x ∷ ys) ≤ cond x.continues (1 + run ys) 0
blank_run x ys kind = step x.continues refl
  where
    step : (t : Bool) → x.continues ≡ t → run (blank_left t x ∷ ys) ≤ cond t (1 + run ys) 0
    step true t = omega arith
    step false t =
        let none : run (x ∷ ys) ≡ 0 = run_here x ys (ap is_passed kind) ∙ ap (λ t. cond t (1 + run ys) 0) t in
        omega (arith, none)

raised_run : (x : FixedLine) (ys : List FixedLine) → x.kind ≡ Directive → run (raised x ys) ≤ cond x.continues (1 + run ys) 0
raised_run x [] kind = blank_run x [] kind
raised_run x (y ∷ ys) kind = step (continues_directive y) refl (raised_run y ys)
  where
    step : (t : Bool) → continues_directive y ≡ t → (y.kind ≡ Directive → run (raised y ys) ≤ cond y.continues (1 + run ys) 0)
        → run (raised x (y ∷ ys)) ≤ cond x.continues (1 + run (y ∷ ys)) 0
    step true t rest =
        let kind' : y.kind ≡ Directive = is_kind y.kind (both-true y.continues (is_directive y.kind) t).1 in
        let here : run (raised x (y ∷ ys)) ≡ cond x.continues (1 + run (raised y ys)) 0 =
        ap run (raised_next x y ys t) ∙ run_here (with_code y.code x) (raised y ys) (ap is_passed kind) in
        let more : run (raised y ys) ≤ run (y ∷ ys) = omega (arith, rest kind', run_here y ys (ap is_passed kind')) in
        omega (arith, here, cond-le x.continues (run (raised y ys)) (run (y ∷ ys)) more)
    step false t rest = omega (arith, ap run (raised_end x y ys t), blank_run x (y ∷ ys) kind)

closed_run : (xs : List FixedLine) → run (closed_lines xs) ≤ run xs
closed_run [] = omega arith
closed_run (x ∷ xs) = step (is_blank_directive x) refl (closed_run xs)
  where
    step : (t : Bool) → is_blank_directive x ≡ t → run (closed_lines xs) ≤ run xs → run (closed_lines (x ∷ xs)) ≤ run (x ∷ xs)
    step true t rest =
        let kind = blank_kind x t in
        omega (
          arith,
          ap run (closed_blank x xs t),
          raised_run x (closed_lines xs) kind,
          cond-le x.continues (run (closed_lines xs)) (run xs) rest,
          run_here x xs (ap is_passed kind),
        )
    step false t rest = other (is_passed x.kind) refl
      where
        other : (p : Bool) → is_passed x.kind ≡ p → run (closed_lines (x ∷ xs)) ≤ run (x ∷ xs)
        other true p = omega (arith, ap run (closed_other x xs t), run_passed x (closed_lines xs) p, run_passed x xs p, rest)
        other false p =
            omega (
              arith,
              ap run (closed_other x xs t),
              run_here x (closed_lines xs) p,
              run_here x xs p,
              cond-le x.continues (run (closed_lines xs)) (run xs) rest,
            )

raised_short : (x : FixedLine) (ys : List FixedLine) → x.kind ≡ Directive → AreShort ys → cond x.continues (1 + run ys) 0 ≤ 19 → AreShort (raised x ys)
raised_short x [] kind short within = (omega (arith, blank_run x [] kind, within), tt)
raised_short x (y ∷ ys) kind short within = step (continues_directive y) refl (raised_short y ys)
  where
    step : (t : Bool) → continues_directive y ≡ t → (y.kind ≡ Directive → AreShort ys → cond y.continues (1 + run ys) 0 ≤ 19 → AreShort (raised y ys))
        → AreShort (raised x (y ∷ ys))
    step true t rest =
        let kind' : y.kind ≡ Directive = is_kind y.kind (both-true y.continues (is_directive y.kind) t).1 in
        let next = raised_next x y ys t in
        let here : run (with_code y.code x ∷ raised y ys) ≤ 19 = omega (arith, sym (ap run next), raised_run x (y ∷ ys) kind, within) in
        subst AreShort (sym next) (here, rest kind' short.1 (omega (arith, run_here y ys (ap is_passed kind'), short.0)))
    step false t rest =
        subst AreShort (sym (raised_end x y ys t)) (omega (arith, blank_run x (y ∷ ys) kind, within), short)

pub closed_short : (xs : List FixedLine) → AreShort xs → AreShort (closed_lines xs)
closed_short [] short = tt
closed_short (x ∷ xs) short = step (is_blank_directive x) refl (closed_short xs short.1)
  where
    step : (t : Bool) → is_blank_directive x ≡ t → AreShort (closed_lines xs) → AreShort (closed_lines (x ∷ xs))
    step true t rest =
        let kind = blank_kind x t in
        subst AreShort (sym (closed_blank x xs t))
        (raised_short x (closed_lines xs) kind rest
        (omega (arith, cond-le x.continues (run (closed_lines xs)) (run xs) (closed_run xs), run_here x xs (ap is_passed kind), short.0)))
    step false t rest =
        let whole = closed_other x xs t in
        subst AreShort (sym whole) (omega (arith, sym (ap run whole), closed_run (x ∷ xs), short.0), rest)
