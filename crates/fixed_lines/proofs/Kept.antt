-- What of fixed lines without a breach holds when they are closed up.
use Rattle.std.proofs.Common.{◌≡◌, ℕ, ◌+◌, Bool, true, false, cond, List, [], ◌∷◌, ◌++◌, map, refl, sym, ap, subst, ◌∙◌, append_assoc, inl}
use Rattle.std.specs.Prelude.{not}
use Rattle.std.specs.List.{enumerate_from}
use Rattle.std.proofs.lemmas.Bool.{false≢true}
use Rattle.hpf_base.specs.Refusal.{NoBreach}
use Rattle.source_lines.specs.declared.limits.TheConstants.{MAX_LINES}
use Rattle.hpf_base.specs.declared.refusal.Reason.TheVariants.{Limit}
use Rattle.fixed_lines.specs.declared.kind.FixedKind.{FixedKind}
use Rattle.fixed_lines.specs.declared.kind.FixedKind.TheVariants.{Passed, Statement, Directive}
use Rattle.fixed_lines.specs.FixedLines.{FixedLine, fixed_line, fixed_line_of, fixed_kind}
use Rattle.fixed_lines.specs.FixedBreaches.{is_directive, is_passed, meets, standing, IsBreachIn}
use Rattle.fixed_lines.specs.FixedLogicalLines.{is_blank_directive}
use Rattle.fixed_lines.specs.FreeText.{blank_left, continues_directive}
use Rattle.fixed_lines.proofs.ClosedLines.{begins, blank_kind, both-true, closed_blank, closed_lines, closed_other, continued, is_kind, raised, raised_end, raised_next}
use Rattle.fixed_lines.proofs.Flows.{AreFine, Flows, continued_here, continued_passed, follows}
use Rattle.fixed_lines.proofs.Fine.{IsTight, tight_line}
use Rattle.fixed_lines.proofs.Ready.{IsSound, ready}
use Rattle.fixed_lines.proofs.Groups.{Chain}

pub number_kept : (number : ℕ) (kind : FixedKind) (line : List ℕ) → (fixed_line_of number kind line).number ≡ number
number_kept number Passed line = refl
number_kept number Statement line = refl
number_kept number Directive line = refl

-- what the proofs ask of what stands on lines
abbrev pub AreTight : List FixedLine → Type 0
AreTight [] = Unit {0}
AreTight (line ∷ lines) = (is_passed line.kind ≡ false → IsTight line.kind line.code) × AreTight lines

pub tight_lines : (s d : Bool) (n : ℕ) (texts : List (List ℕ)) → AreFine s d (map (λ x. fixed_line x.0 x.1) (enumerate_from n texts))
    → AreTight (map (λ x. fixed_line x.0 x.1) (enumerate_from n texts))
tight_lines s d n [] fine = tt
tight_lines s d n (text ∷ texts) fine = (
  (λ stands. tight_line n (fixed_kind text) text fine.0 stands),
  tight_lines (meets (fixed_line n text).kind s) (is_directive (fixed_line n text).kind) (n + 1) texts fine.2,
)

pub sound : (kind : FixedKind) (code : List ℕ) → IsTight kind code → IsSound code
sound kind code tight = record { ps = tight.ps; good = tight.good; whole = tight.whole }

blank_tight : (x : FixedLine) → (is_passed x.kind ≡ false → IsTight x.kind x.code) → is_passed (blank_left x.continues x).kind ≡ false
    → IsTight (blank_left x.continues x).kind (blank_left x.continues x).code
blank_tight x tight = step x.continues
  where
    step : (t : Bool) → is_passed (blank_left t x).kind ≡ false → IsTight (blank_left t x).kind (blank_left t x).code
    step true stands = absurd (false≢true (sym stands))
    step false stands = tight stands

raised_tight : (x : FixedLine) (ys : List FixedLine) → x.kind ≡ Directive → (is_passed x.kind ≡ false → IsTight x.kind x.code) → AreTight ys → AreTight (raised x ys)
raised_tight x [] kind here tight = (blank_tight x here, tt)
raised_tight x (y ∷ ys) kind here tight = step (continues_directive y) refl (raised_tight y ys)
  where
    step : (t : Bool) → continues_directive y ≡ t
        → (y.kind ≡ Directive → (is_passed y.kind ≡ false → IsTight y.kind y.code) → AreTight ys → AreTight (raised y ys)) → AreTight (raised x (y ∷ ys))
    step true t rest =
        let kind' : y.kind ≡ Directive = is_kind y.kind (both-true y.continues (is_directive y.kind) t).1 in
        subst AreTight (sym (raised_next x y ys t))
        ((λ stands. subst (λ k. IsTight k y.code) (kind' ∙ sym kind) (tight.0 (ap is_passed kind'))), rest kind' tight.0 tight.1)
    step false t rest = subst AreTight (sym (raised_end x y ys t)) (blank_tight x here, tight)

pub closed_tight : (xs : List FixedLine) → AreTight xs → AreTight (closed_lines xs)
closed_tight [] tight = tt
closed_tight (x ∷ xs) tight = step (is_blank_directive x) refl (closed_tight xs tight.1)
  where
    step : (t : Bool) → is_blank_directive x ≡ t → AreTight (closed_lines xs) → AreTight (closed_lines (x ∷ xs))
    step true t rest = subst AreTight (sym (closed_blank x xs t)) (raised_tight x (closed_lines xs) (blank_kind x t) tight.0 rest)
    step false t rest = subst AreTight (sym (closed_other x xs t)) (tight.0, rest)

-- lines have the numbers from n, up to the last that a text may have
abbrev pub AreNumbered : ℕ → List FixedLine → Type 0
AreNumbered n [] = Unit {0}
AreNumbered n (line ∷ lines) = (line.number ≡ n) × (n ≡ MAX_LINES + 1 → ⊥) × AreNumbered (n + 1) lines

pub numbered_from : (all before : List FixedLine) (n : ℕ) (texts : List (List ℕ)) → all ≡ before ++ map (λ x. fixed_line x.0 x.1) (enumerate_from n texts)
    → NoBreach (IsBreachIn all) → AreNumbered n (map (λ x. fixed_line x.0 x.1) (enumerate_from n texts))
numbered_from all before n [] whole fine = tt
numbered_from all before n (text ∷ texts) whole fine =
    let line = fixed_line n text in
    let lines = map (λ x. fixed_line x.0 x.1) (enumerate_from (n + 1) texts) in
    let number = number_kept n (fixed_kind text) text in (
      number,
      (λ far. fine line.number Limit (record { before = before; line = line; after = lines; whole = whole; numbered = refl; why = inl (number ∙ far) })),
      numbered_from all (before ++ line ∷ []) (n + 1) texts (whole ∙ sym (append_assoc before (line ∷ []) lines)) fine,
    )

blank_number : (t : Bool) (x : FixedLine) → (blank_left t x).number ≡ x.number
blank_number true x = refl
blank_number false x = refl

raised_numbered : (n : ℕ) (x : FixedLine) (ys : List FixedLine) → x.number ≡ n → (n ≡ MAX_LINES + 1 → ⊥) → AreNumbered (n + 1) ys → AreNumbered n (raised x ys)
raised_numbered n x [] is near numbered = (blank_number x.continues x ∙ is, near, tt)
raised_numbered n x (y ∷ ys) is near numbered = step (continues_directive y) refl (raised_numbered (n + 1) y ys)
  where
    step : (t : Bool) → continues_directive y ≡ t
        → (y.number ≡ n + 1 → (n + 1 ≡ MAX_LINES + 1 → ⊥) → AreNumbered (n + 1 + 1) ys → AreNumbered (n + 1) (raised y ys)) → AreNumbered n (raised x (y ∷ ys))
    step true t rest = subst (AreNumbered n) (sym (raised_next x y ys t)) (is, near, rest numbered.0 numbered.1 numbered.2)
    step false t rest = subst (AreNumbered n) (sym (raised_end x y ys t)) (blank_number x.continues x ∙ is, near, numbered)

pub closed_numbered : (n : ℕ) (xs : List FixedLine) → AreNumbered n xs → AreNumbered n (closed_lines xs)
closed_numbered n [] numbered = tt
closed_numbered n (x ∷ xs) numbered = step (is_blank_directive x) refl (closed_numbered (n + 1) xs numbered.2)
  where
    step : (t : Bool) → is_blank_directive x ≡ t → AreNumbered (n + 1) (closed_lines xs) → AreNumbered n (closed_lines (x ∷ xs))
    step true t rest = subst (AreNumbered n) (sym (closed_blank x xs t)) (raised_numbered n x (closed_lines xs) numbered.0 numbered.1 rest)
    step false t rest = subst (AreNumbered n) (sym (closed_other x xs t)) (numbered.0, numbered.1, rest)

-- where the first of these lines that stands continues, it is of this kind
abbrev Meets : FixedKind → List FixedLine → Type 0
Meets kind lines = continued lines ≡ true → (kind ≡ Statement → follows lines ≡ true) × (kind ≡ Directive → begins lines ≡ true)

first_kind : (kind : FixedKind) (x : FixedLine) (xs : List FixedLine) → is_passed kind ≡ false → is_passed x.kind ≡ false → Meets kind (x ∷ xs) → x.continues ≡ true
    → x.kind ≡ kind
first_kind kind x xs stands here meets_it goes = step kind x.kind stands here refl refl
  where
    meant : (kind ≡ Statement → follows (x ∷ xs) ≡ true) × (kind ≡ Directive → begins (x ∷ xs) ≡ true)
    meant = meets_it (continued_here x xs here ∙ goes)

    step : (k l : FixedKind) → is_passed k ≡ false → is_passed l ≡ false → kind ≡ k → x.kind ≡ l → l ≡ k
    step Passed l s h ek el = absurd (false≢true (sym s))
    step Statement Passed s h ek el = absurd (false≢true (sym h))
    step Statement Statement s h ek el = refl
    step Statement Directive s h ek el = absurd (false≢true (sym (ap (λ k. meets k (follows xs)) el) ∙ meant.0 ek))
    step Directive Passed s h ek el = absurd (false≢true (sym h))
    step Directive Statement s h ek el =
        absurd (false≢true (sym (ap is_directive el) ∙ (both-true x.continues (is_directive x.kind) (meant.1 ek)).1))
    step Directive Directive s h ek el = refl

meets_after : (kind : FixedKind) (x : FixedLine) (xs : List FixedLine) → is_passed x.kind ≡ true → Meets kind (x ∷ xs) → Meets kind xs
meets_after kind x xs passed meets_it goes =
    let meant = meets_it (continued_passed x xs passed ∙ goes) in
    ((λ e. sym (pass x.kind passed) ∙ meant.0 e), (λ e. absurd (none x.kind passed (both-true x.continues (is_directive x.kind) (meant.1 e)).1)))
  where
    pass : (k : FixedKind) → is_passed k ≡ true → meets k (follows xs) ≡ follows xs
    pass Passed e = refl
    pass Statement e = absurd (false≢true e)
    pass Directive e = absurd (false≢true e)

    none : (k : FixedKind) → is_passed k ≡ true → is_directive k ≡ true → ⊥
    none Passed e d = false≢true d
    none Statement e d = false≢true e
    none Directive e d = false≢true e

-- lines that flow continue lines of their own kind
pub chain_of : (kind : FixedKind) (lines : List FixedLine) → is_passed kind ≡ false → Meets kind lines → Flows lines → AreTight lines → Chain kind (standing lines)
chain_of kind [] stands meets_it flows tight = tt
chain_of kind (line ∷ lines) stands meets_it flows tight = step (is_passed line.kind) refl (λ k s m. chain_of k lines s m flows.2 tight.1)
  where
    step : (t : Bool) → is_passed line.kind ≡ t → ((k : FixedKind) → is_passed k ≡ false → Meets k lines → Chain k (standing lines))
        → Chain kind (cond (not t) (line ∷ standing lines) (standing lines))
    step true t rest = rest kind stands (meets_after kind line lines t meets_it)
    step false t rest = (
      (λ goes. first_kind kind line lines stands t meets_it goes),
      ready line (continued lines) (λ e. false≢true (sym t ∙ ap is_passed e)) (sound line.kind line.code (tight.0 t)),
      rest line.kind t (λ goes. ((flows.0 goes).0, λ e. ((flows.0 goes).1 e).0)),
    )
