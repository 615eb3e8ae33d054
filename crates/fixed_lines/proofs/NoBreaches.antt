-- The free lines of fixed lines without a breach have none.
use Rattle.std.proofs.Common.{◌≡◌, ℕ, ◌+◌, ◌≤◌, Bool, true, false, cond, List, [], ◌∷◌, ◌++◌, refl, sym, ap, subst, ◌∙◌, append_assoc, arith, inl, inr}
use Rattle.std.specs.Prelude.{not}
use Rattle.std.specs.List.{prefix_len, suffix_len}
use Rattle.std.proofs.lemmas.Bool.{false≢true}
use Rattle.std.proofs.lemmas.List.{append-nil, reverse-append}
use Rattle.std.proofs.lemmas.List.Elements.{filter-append}
use Rattle.hpf_base.specs.Refusal.{NoBreach, IsRefusalBy}
use Rattle.hpf_base.specs.declared.refusal.StaticError.{StaticError}
use Rattle.hpf_base.specs.declared.refusal.StaticError.TheVariants.{Refused, Memory}
use Rattle.fixed_lines.specs.declared.limits.TheConstants.{MAX_FIXED_CONTINUATIONS}
use Rattle.source_lines.specs.declared.limits.TheConstants.{MAX_CONTINUATIONS, MAX_LINES}
use Rattle.hpf_base.specs.declared.refusal.Reason.{Reason}
use Rattle.hpf_base.specs.declared.refusal.Reason.TheVariants.{BadLine, Limit}
use Rattle.source_lines.specs.Breaches as free_breaches
use Rattle.source_lines.specs.Breaches.{goes_on, is_continued, IsLineBreach}
use Rattle.source_lines.specs.PhysicalLines as free
use Rattle.source_lines.specs.PhysicalLines.{physical_line}
use Rattle.fixed_lines.specs.declared.kind.FixedKind.{FixedKind}
use Rattle.fixed_lines.specs.declared.kind.FixedKind.TheVariants.{Passed, Statement, Directive}
use Rattle.fixed_lines.specs.FixedLines.{FixedLine, numbered_lines}
use Rattle.fixed_lines.specs.FixedBreaches.{is_directive, is_passed, meets, standing, IsFixedBreach}
use Rattle.fixed_lines.specs.FreeText.{first_continues, free_line, free_text}
use Rattle.fixed_lines.proofs.ClosedLines.{begins, both-true, closed_lines, continued, is_kind}
use Rattle.fixed_lines.proofs.Flows.{Flows, follows}
use Rattle.fixed_lines.proofs.Runs.{AreShort, closed_short, run, run_before, run_here, run_passed, run_push, short_lines}
use Rattle.fixed_lines.proofs.Ready.{ready}
use Rattle.fixed_lines.proofs.Fine.{IsTight, free_fine}
use Rattle.fixed_lines.proofs.Groups.{physical, sample}
use Rattle.fixed_lines.proofs.Kept.{AreNumbered, AreTight, sound}
use Rattle.fixed_lines.proofs.Whole.{all_freed, are_numbered, are_tight, free_numbered, passed_alike, they_flow}

-- a statement goes on with free lines where it goes on with the fixed ones
free_follows : (lines : List FixedLine) → AreTight lines → follows lines ≡ true → goes_on (physical_line 1 (sample Statement)).kind (all_freed lines) ≡ true
free_follows [] tight goes = absurd (false≢true goes)
free_follows (z ∷ zs) tight goes = step z.kind refl (free_follows zs tight.1)
  where
    statement : free.PhysicalLine
    statement = physical_line 1 (sample Statement)

    step : (k : FixedKind) → z.kind ≡ k → (follows zs ≡ true → goes_on (physical_line 1 (sample Statement)).kind (all_freed zs) ≡ true)
        → free_breaches.meets (physical z (continued zs)).kind (goes_on (physical_line 1 (sample Statement)).kind (all_freed zs)) ≡ true
    step Passed e rest =
        ap (λ k. free_breaches.meets (physical_line z.number (free_line k z (continued zs))).kind (goes_on (physical_line 1 (sample Statement)).kind (all_freed zs))) e
        ∙ rest (sym (ap (λ k. meets k (follows zs)) e) ∙ goes)
    step Statement e rest =
        let r = ready z (continued zs) (λ p. false≢true (sym (ap is_passed e) ∙ ap is_passed p)) (sound z.kind z.code (tight.0 (ap is_passed e))) in
        ap (λ k. free_breaches.meets k (goes_on (physical_line 1 (sample Statement)).kind (all_freed zs))) (r.like ∙ ap (λ k. (physical_line 1 (sample k)).kind) e)
    step Directive e rest = absurd (false≢true (sym (ap (λ k. meets k (follows zs)) e) ∙ goes))

free_begins : (lines : List FixedLine) → AreTight lines → begins lines ≡ true → goes_on (physical_line 1 (sample Directive)).kind (all_freed lines) ≡ true
free_begins [] tight goes = absurd (false≢true goes)
free_begins (z ∷ zs) tight goes =
    let kind : z.kind ≡ Directive = is_kind z.kind (both-true z.continues (is_directive z.kind) goes).1 in
    let r = ready z (continued zs) (λ p. false≢true (sym (ap is_passed kind) ∙ ap is_passed p)) (sound z.kind z.code (tight.0 (ap is_passed kind))) in
    ap free_breaches.is_directive_kind (r.like ∙ ap (λ k. (physical_line 1 (sample k)).kind) kind)

-- none of the lines is a breach after these
abbrev AreClear : List free.PhysicalLine → List free.PhysicalLine → Type 0
AreClear before lines =
    (b : List free.PhysicalLine) (l : free.PhysicalLine) (a : List free.PhysicalLine) (reason : Reason) → lines ≡ b ++ l ∷ a
    → free_breaches.IsBreachAt (before ++ b) l a reason → ⊥

clear_cons : (before : List free.PhysicalLine) (x : free.PhysicalLine) (rest : List free.PhysicalLine)
    → ((reason : Reason) → free_breaches.IsBreachAt before x rest reason → ⊥) → AreClear (before ++ x ∷ []) rest → AreClear before (x ∷ rest)
clear_cons before x rest here after [] l a reason e why =
    let same : x ≡ l = cc in
    let tail : rest ≡ a = cc in
    here reason
    (subst (λ (q : List free.PhysicalLine). free_breaches.IsBreachAt q x rest reason) (append-nil before)
    (subst (λ (q : free.PhysicalLine). free_breaches.IsBreachAt (before ++ []) q rest reason) (sym same)
    (subst (λ (q : List free.PhysicalLine). free_breaches.IsBreachAt (before ++ []) l q reason) (sym tail) why)))
clear_cons before x rest here after (y ∷ b) l a reason e why =
    let same : x ≡ y = cc in
    let tail : rest ≡ b ++ l ∷ a = cc in
    after b l a reason tail
    (subst (λ (q : List free.PhysicalLine). free_breaches.IsBreachAt q l a reason) (sym (append_assoc before (x ∷ []) b))
    (subst (λ (q : free.PhysicalLine). free_breaches.IsBreachAt (before ++ q ∷ b) l a reason) (sym same) why))

clear_none : (before : List free.PhysicalLine) → AreClear before []
clear_none before [] l a reason e why = absurd cc
clear_none before (y ∷ b) l a reason e why = absurd cc

not_breach : (before : List free.PhysicalLine) (p : free.PhysicalLine) (after : List free.PhysicalLine) → p.bad ≡ false
    → (is_continued p ≡ true → goes_on p.kind after ≡ true) → (p.number ≡ MAX_LINES + 1 → ⊥)
    → (suffix_len is_continued (free_breaches.standing before) ≡ MAX_CONTINUATIONS + 1 → ⊥)
    → (reason : Reason) → free_breaches.IsBreachAt before p after reason → ⊥
not_breach before p after fine goes far many BadLine (inl e) = false≢true (sym fine ∙ e)
not_breach before p after fine goes far many BadLine (inr w) = false≢true (sym w.1 ∙ goes w.0)
not_breach before p after fine goes far many Limit (inl e) = far e
not_breach before p after fine goes far many Limit (inr w) = many w.1
not_breach before p after fine goes far many reason w = absurd w

free_push : (before : List free.PhysicalLine) (p : free.PhysicalLine) (t c : Bool) → free_breaches.is_passed p.kind ≡ t → is_continued p ≡ c
    → suffix_len is_continued (free_breaches.standing (before ++ p ∷ []))
    ≡ cond t (suffix_len is_continued (free_breaches.standing before)) (cond c (1 + suffix_len is_continued (free_breaches.standing before)) 0)
free_push before p t c passed goes =
    ap (suffix_len is_continued) (filter-append (λ (l : free.PhysicalLine). not (free_breaches.is_passed l.kind)) before (p ∷ []))
    ∙ ap (λ t. suffix_len is_continued (free_breaches.standing before ++ cond (not t) (p ∷ []) [])) passed ∙ step t
  where
    step : (t : Bool) → suffix_len is_continued (free_breaches.standing before ++ cond (not t) (p ∷ []) [])
        ≡ cond t (suffix_len is_continued (free_breaches.standing before)) (cond c (1 + suffix_len is_continued (free_breaches.standing before)) 0)
    step true = ap (suffix_len is_continued) (append-nil (free_breaches.standing before))
    step false =
        ap (prefix_len is_continued) (reverse-append (free_breaches.standing before) (p ∷ []))
        ∙ ap (λ c. cond c (1 + suffix_len is_continued (free_breaches.standing before)) 0) goes

-- so many free lines in a row are continued, and so many fixed ones in a row continue
record AreCounted (free_run fixed_run : ℕ) (continued : Bool) : Type 0 where
  few : free_run ≤ fixed_run + 1
  least : fixed_run ≤ 19
  start : continued ≡ false → free_run ≡ 0

count_standing : (f m f' m' : ℕ) (c k : Bool) → f' ≡ cond c (1 + f) 0 → m' ≡ cond k (1 + m) 0 → AreCounted f m k → (k ≡ true → m ≡ 19 → ⊥) → AreCounted f' m' c
count_standing f m f' m' c true is is' counted more =
    let less : m ≤ 18 = below m counted.least (more refl) in
    record { few = step c is; least = omega (arith, is'); start = λ e. is ∙ ap (λ c. cond c (1 + f) 0) e }
  where
    below : (m : ℕ) → m ≤ 19 → (m ≡ 19 → ⊥) → m ≤ 18
    below m few ne = omega arith

    step : (c : Bool) → f' ≡ cond c (1 + f) 0 → f' ≤ m' + 1
    step true is = omega (arith, is, is', counted.few)
    step false is = omega (arith, is)
count_standing f m f' m' c false is is' counted more =
    record { few = step c is; least = omega (arith, is'); start = λ e. is ∙ ap (λ c. cond c (1 + f) 0) e }
  where
    step : (c : Bool) → f' ≡ cond c (1 + f) 0 → f' ≤ m' + 1
    step true is = omega (arith, is, counted.start refl)
    step false is = omega (arith, is)

count_passed : (f m f' m' : ℕ) (c k : Bool) → f' ≡ f → m' ≡ m → k ≡ c → AreCounted f m k → AreCounted f' m' c
count_passed f m f' m' c k is is' same counted =
    record { few = omega (arith, is, is', counted.few); least = omega (arith, is', counted.least); start = λ e. is ∙ counted.start (same ∙ e) }

abbrev Counts : List free.PhysicalLine → List FixedLine → List FixedLine → Type 0
Counts free_before before lines =
    AreCounted (suffix_len is_continued (free_breaches.standing free_before)) (run_before before) (continued lines)

count_step : (free_before : List free.PhysicalLine) (before : List FixedLine) (x : FixedLine) (xs : List FixedLine) → (is_passed x.kind ≡ false → IsTight x.kind x.code)
    → (is_passed x.kind ≡ false → x.continues ≡ true → run_before before ≡ MAX_FIXED_CONTINUATIONS → ⊥) → Counts free_before before (x ∷ xs)
    → Counts (free_before ++ physical x (continued xs) ∷ []) (before ++ x ∷ []) xs
count_step free_before before x xs tight more counted = step (is_passed x.kind) refl
  where
    first : (t : Bool) → is_passed x.kind ≡ t → continued (x ∷ xs) ≡ first_continues (cond (not t) (x ∷ standing xs) (standing xs))
    first t e = ap (λ t. first_continues (cond (not t) (x ∷ standing xs) (standing xs))) e

    step : (t : Bool) → is_passed x.kind ≡ t → Counts (free_before ++ physical x (continued xs) ∷ []) (before ++ x ∷ []) xs
    step true t =
        count_passed _ _ _ _ (continued xs) (continued (x ∷ xs))
        (free_push free_before (physical x (continued xs)) true _ (passed_alike x (continued xs) tight ∙ t) refl)
        (run_push before x true t) (first true t) counted
    step false t =
        let r = ready x (continued xs) (λ e. false≢true (sym t ∙ ap is_passed e)) (sound x.kind x.code (tight t)) in
        count_standing _ _ _ _ (continued xs) x.continues
        (free_push free_before (physical x (continued xs)) false (continued xs) r.stands r.goes)
        (run_push before x false t) (subst (AreCounted _ _) (first false t) counted) (more t)

continued_meets : (x : FixedLine) (xs : List FixedLine) → Flows (x ∷ xs) → AreTight (x ∷ xs) → is_continued (physical x (continued xs)) ≡ true
    → goes_on (physical x (continued xs)).kind (all_freed xs) ≡ true
continued_meets x xs flows tight goes = step x.kind refl
  where
    meant : (k : FixedKind) → x.kind ≡ k → is_passed k ≡ false → (continued xs ≡ true) × ((physical x (continued xs)).kind ≡ (physical_line 1 (sample k)).kind)
    meant k e stands =
        let t : is_passed x.kind ≡ false = ap is_passed e ∙ stands in
        let r = ready x (continued xs) (λ e. false≢true (sym t ∙ ap is_passed e)) (sound x.kind x.code (tight.0 t)) in
        (sym r.goes ∙ goes, r.like ∙ ap (λ k. (physical_line 1 (sample k)).kind) e)

    step : (k : FixedKind) → x.kind ≡ k → goes_on (physical x (continued xs)).kind (all_freed xs) ≡ true
    step Passed e = absurd (false≢true (sym (ap (λ k. is_continued (physical_line x.number (free_line k x (continued xs)))) e) ∙ goes))
    step Statement e =
        let m = meant Statement e refl in
        ap (λ k. goes_on k (all_freed xs)) m.1 ∙ free_follows xs tight.1 ((flows.0 m.0).0 e)
    step Directive e =
        let m = meant Directive e refl in
        ap (λ k. goes_on k (all_freed xs)) m.1 ∙ free_begins xs tight.1 ((flows.0 m.0).1 e).0

-- so many lines in a row continue up to here, and as many after that as the limit lets
abbrev HasRoom : List FixedLine → List FixedLine → Type 0
HasRoom before lines = run_before before + run lines ≤ 19

room_step : (before : List FixedLine) (x : FixedLine) (xs : List FixedLine) → run xs ≤ 19 → HasRoom before (x ∷ xs)
    → HasRoom (before ++ x ∷ []) xs × (is_passed x.kind ≡ false → x.continues ≡ true → run_before before ≡ MAX_FIXED_CONTINUATIONS → ⊥)
room_step before x xs few room = (step (is_passed x.kind) refl, λ p c. less p c)
  where
    less : is_passed x.kind ≡ false → x.continues ≡ true → run_before before ≡ MAX_FIXED_CONTINUATIONS → ⊥
    less p c many =
        let here : run (x ∷ xs) ≡ 1 + run xs = run_here x xs p ∙ ap (λ t. cond t (1 + run xs) 0) c in
        omega (arith, here, room, many)

    with_next : (c : Bool) → x.continues ≡ c → is_passed x.kind ≡ false → HasRoom (before ++ x ∷ []) xs
    with_next true c p =
        let here : run (x ∷ xs) ≡ 1 + run xs = run_here x xs p ∙ ap (λ t. cond t (1 + run xs) 0) c in
        let there : run_before (before ++ x ∷ []) ≡ 1 + run_before before = run_push before x false p ∙ ap (λ t. cond t (1 + run_before before) 0) c in
        omega (arith, here, there, room)
    with_next false c p =
        let there : run_before (before ++ x ∷ []) ≡ 0 = run_push before x false p ∙ ap (λ t. cond t (1 + run_before before) 0) c in
        omega (arith, there, few)

    step : (t : Bool) → is_passed x.kind ≡ t → HasRoom (before ++ x ∷ []) xs
    step true p = omega (arith, run_passed x xs p, run_push before x true p, room)
    step false p = with_next x.continues refl p

first_short : (xs : List FixedLine) → AreShort xs → run xs ≤ 19
first_short [] short = omega arith
first_short (x ∷ xs) short = short.0

all_clear : (free_before : List free.PhysicalLine) (before : List FixedLine) (n : ℕ) (lines : List FixedLine) → Flows lines → AreTight lines → AreNumbered n lines
    → AreShort lines → HasRoom before lines → Counts free_before before lines → AreClear free_before (all_freed lines)
all_clear free_before before n [] flows tight numbered short room counted = clear_none free_before
all_clear free_before before n (x ∷ xs) flows tight numbered short room counted =
    let next = room_step before x xs (first_short xs short.1) room in
    clear_cons free_before (physical x (continued xs)) (all_freed xs)
    (not_breach free_before (physical x (continued xs)) (all_freed xs)
    (free_fine x (continued xs) tight.0 (λ kind goes. ((flows.0 goes).1 kind).1))
    (continued_meets x xs flows tight) (λ far. numbered.1 (sym numbered.0 ∙ far)) (λ many. omega (arith, many, counted.few, counted.least)))
    (all_clear (free_before ++ physical x (continued xs) ∷ []) (before ++ x ∷ []) (n + 1) xs flows.2 tight.1 numbered.2 short.1 next.0
    (count_step free_before before x xs tight.0 next.1 counted))

pub no_breach : (text : List ℕ) → NoBreach (IsFixedBreach text) → NoBreach (IsLineBreach (free_text text))
no_breach text fine number reason b =
    let lines = closed_lines (numbered_lines text) in
    let short : AreShort lines = closed_short (numbered_lines text) (short_lines (numbered_lines text) fine) in
    all_clear [] [] 1 lines (they_flow text fine) (are_tight text fine) (are_numbered text fine) short (omega (arith, first_short lines short))
    (record { few = omega arith; least = omega arith; start = λ e. refl }) b.before b.line b.after reason (sym (free_numbered text fine) ∙ b.whole) b.why

-- where there is no breach, nothing is refused for one
pub no_refusal : (breach other : ℕ → Reason → Type 0) → NoBreach breach → (e : StaticError) → IsRefusalBy breach e → IsRefusalBy other e
no_refusal breach other none (Refused r) first = absurd (none r.line r.reason first.stands)
no_refusal breach other none Memory first = tt
