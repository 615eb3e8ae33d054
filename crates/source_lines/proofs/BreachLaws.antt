-- The first breach among lines, and what the lines before it aren't.
use Rattle.std.proofs.Common.{◌≡◌, ℕ, zero, suc, ◌+◌, ◌<◌, ◌≤◌, List, [], ◌∷◌, ◌++◌, length, take, drop, get_or, map, refl, sym, ap, subst, ◌∙◌, inl, inr, arith, add_comm}
use Rattle.std.specs.Prelude.{All, ◌^◌}
use Rattle.std.specs.List.{enumerate_from}
use Rattle.std.proofs.lemmas.Bool.{cases_lt, cases_order}
use Rattle.std.proofs.lemmas.List.{get_or_default, take-append-drop, drop_more, length-map, length-take}
use Rattle.std.proofs.lemmas.List.FromFn.{length-enumerate_from}
use Rattle.hpf_base.specs.Refusal.{IsFirstBreach, NoBreach, number_of}
use Rattle.source_lines.specs.declared.limits.TheConstants.{MAX_LINES}
use Rattle.hpf_base.specs.declared.refusal.Reason.{Reason}
use Rattle.hpf_base.specs.declared.refusal.Reason.TheVariants.{Limit}
use Rattle.source_lines.specs.declared.physical_lines.PhysicalKind.TheVariants.{Passed, Statement}
use Rattle.source_lines.specs.PhysicalLines.{PhysicalLine, physical_lines, physical_line, numbered_lines}
use Rattle.source_lines.specs.Breaches.{goes_on, meets, IsBreachAt, IsBreachIn, IsLineBreach}

-- a passed line goes on as a statement does
pub goes_on_passed : (lines : List PhysicalLine) → goes_on Passed lines ≡ goes_on Statement lines
goes_on_passed [] = refl
goes_on_passed (line ∷ lines) = ap (meets line.kind) (goes_on_passed lines)

-- each line has the number of its place, from 1
abbrev pub IsNumbered : List PhysicalLine → Type 0
IsNumbered lines = (before : List PhysicalLine) (line : PhysicalLine) (after : List PhysicalLine) → lines ≡ before ++ line ∷ after → line.number ≡ length before + 1

-- none of so many lines in front is a breach
abbrev pub IsClear : List PhysicalLine → ℕ → Type 0
IsClear lines n = (before : List PhysicalLine) (line : PhysicalLine) (after : List PhysicalLine) (reason : Reason) → lines ≡ before ++ line ∷ after → length before < n
    → IsBreachAt before line after reason → ⊥

-- a list is parted in one way at a place
same_parts : {A : Type 0} (before before' : List A) (x x' : A) (after after' : List A) → before ++ x ∷ after ≡ before' ++ x' ∷ after' → length before ≡ length before'
    → (before ≡ before') × (x ≡ x') × (after ≡ after')
same_parts [] [] x x' after after' e l = (refl, cc, cc)
same_parts [] (y ∷ before') x x' after after' e l = absurd (omega arith)
same_parts (y ∷ before) [] x x' after after' e l = absurd (omega arith)
same_parts (y ∷ before) (y' ∷ before') x x' after after' e l =
    let head : y ≡ y' = cc in
    let tail : before ++ x ∷ after ≡ before' ++ x' ∷ after' = cc in
    let s = same_parts before before' x x' after after' tail (omega arith) in
    (cc (s.0, head), s.1, s.2)

parted : {A : Type 0} (xs : List A) (n : ℕ) → n < length xs → record { before : List A; x : A; after : List A; whole : xs ≡ before ++ x ∷ after; long : length before ≡ n }
parted [] n within = absurd (omega arith)
parted (x ∷ xs) zero within = record { before = []; x = x; after = xs; whole = refl; long = refl }
parted (x ∷ xs) (suc n) within =
    let p = parted xs n (omega arith) in
    record { before = x ∷ p.before; x = p.x; after = p.after; whole = ap (λ l. x ∷ l) p.whole; long = ap suc p.long }

-- since the line after the last that may stand is a breach, no more stand before the first
pub clear_few : (lines : List PhysicalLine) (n : ℕ) → IsNumbered lines → IsClear lines n → n ≤ length lines → n ≤ MAX_LINES
clear_few lines n numbered clear within =
    elim (cases_lt MAX_LINES n) [
      | inl far ↦
          let p = parted lines MAX_LINES (omega arith) in
          let at : p.x.number ≡ MAX_LINES + 1 = numbered p.before p.x p.after p.whole ∙ ap (λ (k : ℕ). k + 1) p.long in
          absurd (clear p.before p.x p.after Limit p.whole (omega (arith, p.long)) (inl at))
      | inr near ↦ near
    ]

-- the first line that is a breach, by the least of its reasons, is the first breach
pub first_found : (lines before : List PhysicalLine) (line : PhysicalLine) (after : List PhysicalLine) (number : ℕ) (reason : Reason)
    → lines ≡ before ++ line ∷ after → IsNumbered lines → IsClear lines (length before)
    → number ≡ line.number → IsBreachAt before line after reason → ((other : Reason) → IsBreachAt before line after other → number_of reason ≤ number_of other)
    → IsFirstBreach (IsBreachIn lines) (record { line = number; reason = reason })
first_found lines before line after number reason whole numbered clear is why least = record {
  stands = record { before = before; line = line; after = after; whole = whole; numbered = is; why = why };
  first = λ number' reason' b.
      elim (cases_order (length b.before) (length before)) [
        | inl same ↦
            let s = same_parts b.before before b.line line b.after after (sym b.whole ∙ whole) same in
            let why' : IsBreachAt before line after reason' =
            subst (λ (x : List PhysicalLine). IsBreachAt x line after reason') s.0
            (subst (λ (x : PhysicalLine). IsBreachAt b.before x after reason') s.1
            (subst (λ (x : List PhysicalLine). IsBreachAt b.before b.line x reason') s.2 b.why)) in
            inr (is ∙ sym (b.numbered ∙ ap (λ (r : PhysicalLine). r.number) s.1), least reason' why')
        | inr other ↦ elim other [
          | inl below ↦ absurd (clear b.before b.line b.after reason' b.whole below b.why)
          | inr above ↦
              inl (omega (arith, is, b.numbered, numbered before line after whole, numbered b.before b.line b.after b.whole))
        ]
      ];
}

-- a list around an element
pub parted_at : {A : Type 0} (xs : List A) (i : ℕ) (x : A) → i < length xs → x ≡ get_or xs i x → xs ≡ take i xs ++ x ∷ drop (i + 1) xs
parted_at xs i x within at =
    sym (take-append-drop i xs) ∙ ap (λ l. take i xs ++ l) (drop_more xs i x within ∙ ap (λ y. y ∷ drop (i + 1) xs) (sym at))

lines_numbered_from : (n : ℕ) (texts : List (List ℕ)) (before : List PhysicalLine) (line : PhysicalLine) (after : List PhysicalLine)
    → map (λ x. physical_line x.0 x.1) (enumerate_from n texts) ≡ before ++ line ∷ after
    → line.number ≡ n + length before
lines_numbered_from n [] [] line after e = absurd cc
lines_numbered_from n [] (r ∷ before) line after e = absurd cc
lines_numbered_from n (text ∷ texts) [] line after e = let same : physical_line n text ≡ line = cc in sym (ap (λ (r : PhysicalLine). r.number) same) ∙ omega arith
lines_numbered_from n (text ∷ texts) (r ∷ before) line after e =
    let tail : map (λ x. physical_line x.0 x.1) (enumerate_from (n + 1) texts) ≡ before ++ line ∷ after = cc in
    lines_numbered_from (n + 1) texts before line after tail ∙ omega arith

-- the lines of a text are numbered from 1
pub lines_numbered : (lines : List PhysicalLine) → (text : List ℕ) × (lines ≡ numbered_lines text) → IsNumbered lines
lines_numbered lines of before line after e = lines_numbered_from 1 (physical_lines of.0) before line after (sym of.1 ∙ e) ∙ add_comm 1 (length before)

-- a line in front of which no line is a breach has a small number
pub number_few : (lines : List PhysicalLine) (i : ℕ) (line : PhysicalLine) → IsNumbered lines → IsClear lines i → i < length lines
    → line ≡ get_or lines i line → line.number ≤ MAX_LINES + 1
number_few lines i line numbered clear within at =
    let few : i ≤ MAX_LINES = clear_few lines i numbered clear (omega arith) in
    omega (arith, few, length-take i lines, numbered (take i lines) line (drop (i + 1) lines) (parted_at lines i line within at))

-- where lines have no breach, none of them is one
pub fine_clear : (lines : List PhysicalLine) → NoBreach (IsBreachIn lines) → IsClear lines (length lines)
fine_clear lines fine before line after reason whole within why =
    fine line.number reason (record { before = before; line = line; after = after; whole = whole; numbered = refl; why = why })

-- where lines have no breach, each has a small number
pub fine_numbers : (lines : List PhysicalLine) → IsNumbered lines → NoBreach (IsBreachIn lines) → All (λ line. line.number < 2 ^ 32) lines
fine_numbers lines numbered fine k d within =
    let few = number_few lines k (get_or lines k d) numbered
    (λ before line after reason whole below why. fine_clear lines fine before line after reason whole (omega arith) why)
    within (get_or_default lines k d (get_or lines k d) within) in
    omega (arith, few)

-- a text without breaches has no more lines than may stand
pub few_lines : (text : List ℕ) → NoBreach (IsLineBreach text) → length (numbered_lines text) ≤ MAX_LINES
few_lines text fine =
    clear_few (numbered_lines text) (length (numbered_lines text)) (lines_numbered (numbered_lines text) (text, refl)) (fine_clear (numbered_lines text) fine) (omega arith)

-- each line has one number
pub length-numbered_lines : (text : List ℕ) → length (numbered_lines text) ≡ length (physical_lines text)
length-numbered_lines text = simp (length-map, length-enumerate_from)
