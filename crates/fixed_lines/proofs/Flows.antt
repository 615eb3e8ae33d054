-- How closed lines go on where no rule is broken.
use Rattle.std.proofs.Common.{◌≡◌, Bool, true, false, cond, List, [], ◌∷◌, ◌++◌, reverse, refl, sym, ap, subst, ◌∙◌, append_assoc, inl, inr}
use Rattle.std.specs.Prelude.{◌&&◌, not}
use Rattle.std.specs.List.{list_all}
use Rattle.std.proofs.lemmas.Bool.{false≢true, false_from_ne_true}
use Rattle.std.proofs.lemmas.List.{reverse-append}
use Rattle.hpf_base.specs.Refusal.{NoBreach}
use Rattle.hpf_base.specs.declared.refusal.Reason.TheVariants.{BadLine}
use Rattle.source_lines.specs.PhysicalLines.{is_blank}
use Rattle.fixed_lines.specs.declared.kind.FixedKind.{FixedKind}
use Rattle.fixed_lines.specs.declared.kind.FixedKind.TheVariants.{Passed, Statement, Directive}
use Rattle.fixed_lines.specs.FixedLines.{FixedLine}
use Rattle.fixed_lines.specs.FixedBreaches.{is_directive, is_passed, may_continue, meets, standing, IsBreachIn}
use Rattle.fixed_lines.specs.FixedLogicalLines.{is_blank_directive}
use Rattle.fixed_lines.specs.FreeText.{blank_left, continues_directive, first_continues, with_code}
use Rattle.fixed_lines.proofs.ClosedLines.{begins, blank_ends, blank_kind, both-true, closed_blank, closed_lines, closed_other, continued, full_code, is_kind, other_kind, raised, raised_end, raised_next}

-- what may continue where a statement, or a directive, may be continued
abbrev pub may : FixedKind → Bool → Bool → Bool
may Directive statement directive = directive
may kind statement directive = statement

-- what the rules say of lines, where a statement or a directive before them may be continued
abbrev pub AreFine : Bool → Bool → List FixedLine → Type 0
AreFine statement directive [] = Unit {0}
AreFine statement directive (x ∷ xs) =
    (x.bad ≡ false) × (x.continues ≡ true → may x.kind statement directive ≡ true) × AreFine (meets x.kind statement) (is_directive x.kind) xs

-- a passed line would continue what a statement line continues
pub may_passed : (before : List FixedLine) → may_continue Passed before ≡ may_continue Statement before
may_passed [] = refl
may_passed (line ∷ before) = ap (meets line.kind) (may_passed before)

may_is : (kind : FixedKind) (before : List FixedLine) → may_continue kind before ≡ may kind (may_continue Statement before) (may_continue Directive before)
may_is Passed before = may_passed before
may_is Statement before = refl
may_is Directive before = refl

true_from : (t : Bool) → (t ≡ false → ⊥) → t ≡ true
true_from true never = refl
true_from false never = absurd (never refl)

fine_from : (all before lines : List FixedLine) → all ≡ before ++ lines → NoBreach (IsBreachIn all)
    → AreFine (may_continue Statement (reverse before)) (may_continue Directive (reverse before)) lines
fine_from all before [] whole fine = tt
fine_from all before (line ∷ lines) whole fine = (
  false_from_ne_true line.bad
      (λ bad. fine line.number BadLine (record { before = before; line = line; after = lines; whole = whole; numbered = refl; why = inl bad })),
  (λ goes.
      sym (may_is line.kind (reverse before))
      ∙ true_from (may_continue line.kind (reverse before))
      (λ no. fine line.number BadLine (record { before = before; line = line; after = lines; whole = whole; numbered = refl; why = inr (goes, no) }))),
  subst (λ r. AreFine (may_continue Statement r) (may_continue Directive r) lines) (reverse-append before (line ∷ []))
      (fine_from all (before ++ line ∷ []) lines (whole ∙ sym (append_assoc before (line ∷ []) lines)) fine),
)

pub all_fine : (lines : List FixedLine) → NoBreach (IsBreachIn lines) → AreFine false false lines
all_fine lines fine = fine_from lines [] lines refl fine

pub fine_after : (k : FixedKind) (s : Bool) (x : FixedLine) (xs : List FixedLine) → x.kind ≡ k → AreFine (meets x.kind s) (is_directive x.kind) xs → AreFine (meets k s) (is_directive k) xs
fine_after k s x xs e fine = subst (λ k. AreFine (meets k s) (is_directive k) xs) e fine

-- what continues at a line that is passed over, and at one that isn't
pub continued_passed : (x : FixedLine) (xs : List FixedLine) → is_passed x.kind ≡ true → continued (x ∷ xs) ≡ continued xs
continued_passed x xs p = ap (λ t. first_continues (cond (not t) (x ∷ standing xs) (standing xs))) p

pub continued_here : (x : FixedLine) (xs : List FixedLine) → is_passed x.kind ≡ false → continued (x ∷ xs) ≡ x.continues
continued_here x xs p = ap (λ t. first_continues (cond (not t) (x ∷ standing xs) (standing xs))) p

blank_starts : (x : FixedLine) (ys : List FixedLine) → x.kind ≡ Directive → x.continues ≡ false → continued (blank_left x.continues x ∷ ys) ≡ false
blank_starts x ys kind starts = ap (λ t. continued (blank_left t x ∷ ys)) starts ∙ continued_here x ys (ap is_passed kind) ∙ starts

pub raised_starts : (x : FixedLine) (ys : List FixedLine) → x.kind ≡ Directive → x.continues ≡ false → continued (raised x ys) ≡ false
raised_starts x [] kind starts = blank_starts x [] kind starts
raised_starts x (y ∷ ys) kind starts = step (continues_directive y) refl
  where
    step : (t : Bool) → continues_directive y ≡ t → continued (raised x (y ∷ ys)) ≡ false
    step true t = ap continued (raised_next x y ys t) ∙ continued_here (with_code y.code x) (raised y ys) (ap is_passed kind) ∙ starts
    step false t = ap continued (raised_end x y ys t) ∙ blank_starts x (y ∷ ys) kind starts

-- where no line continues at first, none does in closed lines
pub closed_starts : (xs : List FixedLine) → continued xs ≡ false → continued (closed_lines xs) ≡ false
closed_starts [] e = refl
closed_starts (x ∷ xs) e = step (is_blank_directive x) refl (closed_starts xs)
  where
    step : (t : Bool) → is_blank_directive x ≡ t → (continued xs ≡ false → continued (closed_lines xs) ≡ false) → continued (closed_lines (x ∷ xs)) ≡ false
    step true t rest =
        let kind = blank_kind x t in
        ap continued (closed_blank x xs t) ∙ raised_starts x (closed_lines xs) kind (sym (continued_here x xs (ap is_passed kind)) ∙ e)
    step false t rest = ap continued (closed_other x xs t) ∙ other (is_passed x.kind) refl
      where
        other : (p : Bool) → is_passed x.kind ≡ p → continued (x ∷ closed_lines xs) ≡ false
        other true p = continued_passed x (closed_lines xs) p ∙ rest (sym (continued_passed x xs p) ∙ e)
        other false p = continued_here x (closed_lines xs) p ∙ sym (continued_here x xs p) ∙ e

closed_goes : (xs : List FixedLine) → continued (closed_lines xs) ≡ true → continued xs ≡ true
closed_goes xs goes = true_from (continued xs) (λ no. false≢true (sym (closed_starts xs no) ∙ goes))

may_none : (k : FixedKind) → may k false false ≡ false
may_none Passed = refl
may_none Statement = refl
may_none Directive = refl

-- where nothing may be continued no line continues
pub none_continues : (xs : List FixedLine) → AreFine false false xs → continued xs ≡ false
none_continues [] fine = refl
none_continues (x ∷ xs) fine = step (is_passed x.kind) refl (none_continues xs)
  where
    passed : (k : FixedKind) → is_passed k ≡ true → AreFine (meets k false) (is_directive k) xs → AreFine false false xs
    passed Passed e f = f
    passed Statement e f = absurd (false≢true e)
    passed Directive e f = absurd (false≢true e)

    step : (p : Bool) → is_passed x.kind ≡ p → (AreFine false false xs → continued xs ≡ false) → continued (x ∷ xs) ≡ false
    step true p rest = continued_passed x xs p ∙ rest (passed x.kind p fine.2)
    step false p rest =
        continued_here x xs p ∙ false_from_ne_true x.continues (λ goes. false≢true (sym (may_none x.kind) ∙ fine.1 goes))

-- a statement goes on with these lines
abbrev pub follows : List FixedLine → Bool
follows [] = false
follows (x ∷ xs) = meets x.kind (follows xs)

statement_follows : (s : Bool) (xs : List FixedLine) → AreFine s false xs → continued (closed_lines xs) ≡ true → follows (closed_lines xs) ≡ true
statement_follows s [] fine goes = absurd (false≢true goes)
statement_follows s (x ∷ xs) fine goes = step x.kind refl (statement_follows (meets x.kind s) xs)
  where
    step : (k : FixedKind) → x.kind ≡ k → (AreFine (meets x.kind s) false xs → continued (closed_lines xs) ≡ true → follows (closed_lines xs) ≡ true)
        → follows (closed_lines (x ∷ xs)) ≡ true
    step Passed e rest =
        let whole = closed_other x xs (other_kind x (ap is_directive e)) in
        ap follows whole ∙ ap (λ k. meets k (follows (closed_lines xs))) e
        ∙ rest (subst (λ d. AreFine (meets x.kind s) d xs) (ap is_directive e) fine.2)
        (sym (continued_passed x (closed_lines xs) (ap is_passed e)) ∙ sym (ap continued whole) ∙ goes)
    step Statement e rest =
        ap follows (closed_other x xs (other_kind x (ap is_directive e))) ∙ ap (λ k. meets k (follows (closed_lines xs))) e
    step Directive e rest =
        let here = sym (continued_here x xs (ap is_passed e)) ∙ closed_goes (x ∷ xs) goes in
        absurd (false≢true (sym (ap (λ k. may k s false) e) ∙ fine.1 here))

raised_begins : (x : FixedLine) (ys : List FixedLine) → continues_directive x ≡ true → (continued ys ≡ true → begins ys ≡ true) → continued (raised x ys) ≡ true
    → begins (raised x ys) ≡ true
raised_begins x [] here rest goes =
    let c = (both-true x.continues (is_directive x.kind) here).0 in
    absurd (false≢true (sym (ap (λ t. continued (blank_left t x ∷ [])) c) ∙ goes))
raised_begins x (y ∷ ys) here rest goes = step (continues_directive y) refl
  where
    step : (t : Bool) → continues_directive y ≡ t → begins (raised x (y ∷ ys)) ≡ true
    step true t = ap begins (raised_next x y ys t) ∙ here
    step false t =
        let c = (both-true x.continues (is_directive x.kind) here).0 in
        let goes' : continued (y ∷ ys) ≡ true = sym (ap (λ t. continued (blank_left t x ∷ y ∷ ys)) c) ∙ sym (ap continued (raised_end x y ys t)) ∙ goes in
        absurd (false≢true (sym t ∙ rest goes'))

-- a directive goes on on the next line
pub directive_follows : (xs : List FixedLine) → AreFine false true xs → continued (closed_lines xs) ≡ true → begins (closed_lines xs) ≡ true
directive_follows [] fine goes = absurd (false≢true goes)
directive_follows (x ∷ xs) fine goes = step x.kind refl (directive_follows xs)
  where
    here : is_passed x.kind ≡ false → x.continues ≡ true
    here p = sym (continued_here x xs p) ∙ closed_goes (x ∷ xs) goes

    step : (k : FixedKind) → x.kind ≡ k → (AreFine false true xs → continued (closed_lines xs) ≡ true → begins (closed_lines xs) ≡ true)
        → begins (closed_lines (x ∷ xs)) ≡ true
    step Passed e rest =
        let next = sym (continued_passed x xs (ap is_passed e)) ∙ closed_goes (x ∷ xs) goes in
        absurd (false≢true (sym (none_continues xs (fine_after Passed false x xs e fine.2)) ∙ next))
    step Statement e rest = absurd (false≢true (sym (ap (λ k. may k false true) e) ∙ fine.1 (here (ap is_passed e))))
    step Directive e rest = blank (is_blank_directive x) refl
      where
        directive : continues_directive x ≡ true
        directive = let c = here (ap is_passed e) in λ i. c i && is_directive (e i)

        blank : (t : Bool) → is_blank_directive x ≡ t → begins (closed_lines (x ∷ xs)) ≡ true
        blank true t =
            ap begins (closed_blank x xs t)
            ∙ raised_begins x (closed_lines xs) directive (rest (fine_after Directive false x xs e fine.2)) (sym (ap continued (closed_blank x xs t)) ∙ goes)
        blank false t = ap begins (closed_other x xs t) ∙ directive

-- how a line goes on
abbrev pub Goes : FixedLine → List FixedLine → Type 0
Goes x xs =
    continued xs ≡ true
    → (x.kind ≡ Statement → follows xs ≡ true) × (x.kind ≡ Directive → (begins xs ≡ true) × (list_all is_blank x.code ≡ false))

abbrev pub Flows : List FixedLine → Type 0
Flows [] = Unit {0}
Flows (x ∷ xs) = Goes x xs × (continues_directive x ≡ true → list_all is_blank x.code ≡ false) × Flows xs

blank_flows : (x : FixedLine) (ys : List FixedLine) → Flows ys → (continued ys ≡ true → begins ys ≡ true) → begins ys ≡ false → Flows (blank_left x.continues x ∷ ys)
blank_flows x ys flows next end = (
  (λ goes. absurd (false≢true (sym end ∙ next goes))),
  (λ here. absurd (false≢true (sym (blank_ends x) ∙ here))),
  flows,
)

raised_flows : (x : FixedLine) (ys : List FixedLine) → x.kind ≡ Directive → Flows ys → (continued ys ≡ true → begins ys ≡ true) → Flows (raised x ys)
raised_flows x [] kind flows next = blank_flows x [] tt next refl
raised_flows x (y ∷ ys) kind flows next = step (continues_directive y) refl (raised_flows y ys)
  where
    step : (t : Bool) → continues_directive y ≡ t → (y.kind ≡ Directive → Flows ys → (continued ys ≡ true → begins ys ≡ true) → Flows (raised y ys))
        → Flows (raised x (y ∷ ys))
    step true t rest =
        let kind' : y.kind ≡ Directive = is_kind y.kind (both-true y.continues (is_directive y.kind) t).1 in
        let next' : continued ys ≡ true → begins ys ≡ true = λ goes. ((flows.0 goes).1 kind').0 in
        subst Flows (sym (raised_next x y ys t)) (
          (λ goes. (
            (λ e. absurd (false≢true (sym (ap is_directive e) ∙ ap is_directive kind))),
            (λ e. (raised_begins y ys t next' goes, flows.1 t)),
          )),
          (λ e. flows.1 t),
          rest kind' flows.2 next',
        )
    step false t rest = subst Flows (sym (raised_end x y ys t)) (blank_flows x (y ∷ ys) flows next t)

pub closed_flows : (s d : Bool) (xs : List FixedLine) → AreFine s d xs → Flows (closed_lines xs)
closed_flows s d [] fine = tt
closed_flows s d (x ∷ xs) fine = step (is_blank_directive x) refl (closed_flows (meets x.kind s) (is_directive x.kind) xs fine.2)
  where
    after_directive : x.kind ≡ Directive → AreFine false true xs
    after_directive e = fine_after Directive s x xs e fine.2

    step : (t : Bool) → is_blank_directive x ≡ t → Flows (closed_lines xs) → Flows (closed_lines (x ∷ xs))
    step true t rest =
        let kind = blank_kind x t in
        subst Flows (sym (closed_blank x xs t)) (raised_flows x (closed_lines xs) kind rest (directive_follows xs (after_directive kind)))
    step false t rest =
        subst Flows (sym (closed_other x xs t)) (
          (λ goes. (
            (λ e. statement_follows true xs (fine_after Statement s x xs e fine.2) goes),
            (λ e. (directive_follows xs (after_directive e) goes, full_code x e t)),
          )),
          (λ here. full_code x (is_kind x.kind (both-true x.continues (is_directive x.kind) here).1) t),
          rest,
        )
