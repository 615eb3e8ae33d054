-- The lines of a text in free form that are made of fixed lines.
use Rattle.std.proofs.Common.{◌≡◌, ℕ, suc, ◌+◌, ◌-◌, Bool, true, false, cond, List, [], ◌∷◌, ◌++◌, length, take, map, refl, sym, ap, ◌∙◌}
use Rattle.std.specs.Prelude.{◌==◌, ◌||◌, not, if◌then◌else◌}
use Rattle.std.specs.List.{enumerate_from, flat_map, list_any}
use Rattle.std.proofs.lemmas.Bool.{false≢true, eqb-true}
use Rattle.std.proofs.lemmas.List.{length-map}
use Rattle.std.proofs.lemmas.List.FromFn.{length-enumerate_from}
use Rattle.std.proofs.lemmas.List.Folds.{list_any-append}
use Rattle.hpf_base.specs.Text.{lines_of, longer_first}
use Rattle.hpf_base.specs.Refusal.{NoBreach}
use Rattle.source_lines.specs.Breaches as free_breaches
use Rattle.source_lines.specs.LogicalLines as free_logical
use Rattle.source_lines.specs.PhysicalLines as free
use Rattle.source_lines.specs.PhysicalLines.{is_control, physical_line, physical_lines, without_return}
use Rattle.fixed_lines.specs.declared.kind.FixedKind.{FixedKind}
use Rattle.fixed_lines.specs.declared.kind.FixedKind.TheVariants.{Passed, Statement, Directive}
use Rattle.fixed_lines.specs.FixedLines.{FixedLine, numbered_lines}
use Rattle.fixed_lines.specs.FixedBreaches.{is_passed, standing, IsFixedBreach}
use Rattle.fixed_lines.specs.FixedLogicalLines.{fixed_lines, is_blank_directive}
use Rattle.fixed_lines.specs.FreeText.{continues_directive, first_continues, free_directive, free_line, free_lines, free_statement, free_text, with_ends}
use Rattle.fixed_lines.proofs.GoodParts.{Found, at, nowhere, find_it, clean_good, either-false}
use Rattle.fixed_lines.proofs.ClosedLines.{closed_blank, closed_lines, closed_other, closed_same, continued, raised, raised_end, raised_next}
use Rattle.fixed_lines.proofs.Flows.{AreFine, Flows, all_fine, closed_flows, closed_starts, none_continues}
use Rattle.fixed_lines.proofs.Fine.{IsTight}
use Rattle.fixed_lines.proofs.Ready.{ready}
use Rattle.fixed_lines.proofs.Groups.{Chain, freed, groups_same, physical}
use Rattle.fixed_lines.proofs.Kept.{AreNumbered, AreTight, chain_of, closed_numbered, closed_tight, numbered_from, sound, tight_lines}
use Rattle.fixed_lines.proofs.SamePieces.{closed_joined}

-- bytes without a control byte
abbrev pub IsClean : List ℕ → Type 0
IsClean bytes = list_any is_control bytes ≡ false

line_before : (line rest : List ℕ) → IsClean line → lines_of ((line ++ 10 ∷ []) ++ rest) ≡ line ∷ lines_of rest
line_before [] rest clean = refl
line_before (b ∷ line) rest clean = step (b == 10) refl (line_before line rest (either-false (is_control b) (list_any is_control line) clean).1)
  where
    step : (t : Bool) → (b == 10) ≡ t → lines_of ((line ++ 10 ∷ []) ++ rest) ≡ line ∷ lines_of rest → lines_of (b ∷ ((line ++ 10 ∷ []) ++ rest)) ≡ (b ∷ line) ∷ lines_of rest
    step true t after = absurd (false≢true (sym (either-false (is_control b) (list_any is_control line) clean).0 ∙ ap is_control (eqb-true b 10 t)))
    step false t after = rw t (ap (longer_first b) after)

no_return : (line : List ℕ) → IsClean line → without_return line ≡ line
no_return line clean = step (find_it 13 line)
  where
    step : Found 13 line → without_return line ≡ line
    step (at t rest whole l) =
        absurd (false≢true (sym clean ∙ ap (list_any is_control) whole ∙ list_any-append is_control t (13 ∷ rest) ∙ last (list_any is_control t)))
      where
        last : (t : Bool) → (t || true) ≡ true
        last true = refl
        last false = refl
    step (nowhere l f) = ap (λ t. if t then take (length line - 1) line else line) f

abbrev AreClean : List (List ℕ) → Type 0
AreClean [] = Unit {0}
AreClean (line ∷ lines) = IsClean line × AreClean lines

-- the lines of the text are those that it is made of
split_again : (lines : List (List ℕ)) → AreClean lines → physical_lines (with_ends lines) ≡ lines
split_again [] clean = refl
split_again (line ∷ lines) clean =
    ap (map without_return) (line_before line (with_ends lines) clean.0)
    ∙ (λ i. no_return line clean.0 i ∷ split_again lines clean.1 i)

-- the free lines, one by one
abbrev pub all_freed : List FixedLine → List free.PhysicalLine
all_freed [] = []
all_freed (line ∷ lines) = physical line (first_continues (standing lines)) ∷ all_freed lines

pub passed_alike : (line : FixedLine) (continued : Bool) → (is_passed line.kind ≡ false → IsTight line.kind line.code)
    → free_breaches.is_passed (physical line continued).kind ≡ is_passed line.kind
passed_alike line continued tight = step line.kind refl
  where
    step : (k : FixedKind) → line.kind ≡ k → free_breaches.is_passed (physical line continued).kind ≡ is_passed line.kind
    step Passed e = ap (λ k. free_breaches.is_passed (physical_line line.number (free_line k line continued)).kind) e ∙ ap is_passed (sym e)
    step Statement e = other (ap is_passed e)
      where
        other : is_passed line.kind ≡ false → free_breaches.is_passed (physical line continued).kind ≡ is_passed line.kind
        other t = (ready line continued (λ e. false≢true (sym t ∙ ap is_passed e)) (sound line.kind line.code (tight t))).stands ∙ sym t
    step Directive e = other (ap is_passed e)
      where
        other : is_passed line.kind ≡ false → free_breaches.is_passed (physical line continued).kind ≡ is_passed line.kind
        other t = (ready line continued (λ e. false≢true (sym t ∙ ap is_passed e)) (sound line.kind line.code (tight t))).stands ∙ sym t

pub standing_alike : (lines : List FixedLine) → AreTight lines → free_breaches.standing (all_freed lines) ≡ freed (standing lines)
standing_alike [] tight = refl
standing_alike (line ∷ lines) tight =
    let here = passed_alike line (first_continues (standing lines)) tight.0 in
    let after = standing_alike lines tight.1 in
    (λ i. cond (not (here i)) (physical line (first_continues (standing lines)) ∷ after i) (after i)) ∙ both (not (is_passed line.kind))
  where
    both : (t : Bool) → cond t (physical line (first_continues (standing lines)) ∷ freed (standing lines)) (freed (standing lines)) ≡ freed (cond t (line ∷ standing lines) (standing lines))
    both true = refl
    both false = refl

-- the free lines have the numbers of the fixed ones
numbered_alike : (n : ℕ) (lines : List FixedLine) → AreNumbered n lines
    → map (λ x. physical_line x.0 x.1) (enumerate_from n (free_lines lines)) ≡ all_freed lines
numbered_alike n [] numbered = refl
numbered_alike n (line ∷ lines) numbered =
    let number = numbered.0 in
    let rest = numbered_alike (n + 1) lines numbered.2 in
    λ i. physical_line (sym number i) (free_line line.kind line (first_continues (standing lines))) ∷ rest i

clean_statement : (continues : Bool) (code : List ℕ) (continued : Bool) → IsClean code → IsClean (free_statement continues code continued)
clean_statement true code true clean = list_any-append is_control code (38 ∷ []) ∙ ap (λ t. t || false) clean
clean_statement true code false clean = list_any-append is_control code (59 ∷ []) ∙ ap (λ t. t || false) clean
clean_statement false code true clean = list_any-append is_control code (38 ∷ []) ∙ ap (λ t. t || false) clean
clean_statement false code false clean = list_any-append is_control code (59 ∷ []) ∙ ap (λ t. t || false) clean

clean_directive : (code : List ℕ) (continued : Bool) → IsClean code → IsClean (free_directive code continued)
clean_directive code true clean = list_any-append is_control code (38 ∷ []) ∙ ap (λ t. t || false) clean
clean_directive code false clean = clean

clean_line : (line : FixedLine) (k : FixedKind) (continued : Bool) → (is_passed k ≡ false → IsTight k line.code) → IsClean (free_line k line continued)
clean_line line Passed continued tight = refl
clean_line line Statement continued tight =
    clean_statement line.continues line.code continued (ap (list_any is_control) (tight refl).whole ∙ clean_good (tight refl).ps (tight refl).good)
clean_line line Directive continued tight =
    clean_directive line.code continued (ap (list_any is_control) (tight refl).whole ∙ clean_good (tight refl).ps (tight refl).good)

clean_lines : (lines : List FixedLine) → AreTight lines → AreClean (free_lines lines)
clean_lines [] tight = tt
clean_lines (line ∷ lines) tight = (clean_line line line.kind (first_continues (standing lines)) tight.0, clean_lines lines tight.1)

module _ (text : List ℕ) (fine : NoBreach (IsFixedBreach text)) where
  -- the lines of the text, closed up
  abbrev pub closed : List FixedLine
  closed = closed_lines (numbered_lines text)

  pub are_fine : AreFine false false (numbered_lines text)
  are_fine = all_fine (numbered_lines text) fine

  pub are_tight : AreTight closed
  are_tight = closed_tight (numbered_lines text) (tight_lines false false 1 (physical_lines text) are_fine)

  pub are_numbered : AreNumbered 1 closed
  are_numbered = closed_numbered 1 (numbered_lines text) (numbered_from (numbered_lines text) [] 1 (physical_lines text) refl fine)

  pub they_flow : Flows closed
  they_flow = closed_flows false false (numbered_lines text) are_fine

  pub none_first : continued closed ≡ false
  none_first = closed_starts (numbered_lines text) (none_continues (numbered_lines text) are_fine)

  pub free_physical : physical_lines (free_text text) ≡ free_lines closed
  free_physical =
      ap (λ l. physical_lines (with_ends (free_lines l))) (closed_same (numbered_lines text)) ∙ split_again (free_lines closed) (clean_lines closed are_tight)

  pub free_numbered : free.numbered_lines (free_text text) ≡ all_freed closed
  free_numbered = ap (λ lines. map (λ x. physical_line x.0 x.1) (enumerate_from 1 lines)) free_physical ∙ numbered_alike 1 closed are_numbered

  pub same_lines : free_logical.logical_lines (free_text text) ≡ fixed_lines text
  same_lines =
      let chain : Chain Statement (standing closed) =
      chain_of Statement closed refl (λ goes. absurd (false≢true (sym none_first ∙ goes))) they_flow are_tight in
      ap free_logical.lines_in free_numbered
      ∙ ap (λ lines. flat_map free_logical.lines_of_group (free_logical.groups lines)) (standing_alike closed are_tight)
      ∙ groups_same Statement (standing closed) 0 chain none_first
      ∙ closed_joined (numbered_lines text) are_fine

length-free_lines : (lines : List FixedLine) → length (free_lines lines) ≡ length lines
length-free_lines [] = refl
length-free_lines (line ∷ lines) = ap suc (length-free_lines lines)

length-raised : (x : FixedLine) (ys : List FixedLine) → length (raised x ys) ≡ suc (length ys)
length-raised x [] = refl
length-raised x (y ∷ ys) = step (continues_directive y) refl (length-raised y ys)
  where
    step : (t : Bool) → continues_directive y ≡ t → length (raised y ys) ≡ suc (length ys) → length (raised x (y ∷ ys)) ≡ suc (suc (length ys))
    step true t rest = ap length (raised_next x y ys t) ∙ ap suc rest
    step false t rest = ap length (raised_end x y ys t)

length-closed_lines : (xs : List FixedLine) → length (closed_lines xs) ≡ length xs
length-closed_lines [] = refl
length-closed_lines (x ∷ xs) = step (is_blank_directive x) refl (length-closed_lines xs)
  where
    step : (t : Bool) → is_blank_directive x ≡ t → length (closed_lines xs) ≡ length xs → length (closed_lines (x ∷ xs)) ≡ suc (length xs)
    step true t rest = ap length (closed_blank x xs t) ∙ length-raised x (closed_lines xs) ∙ ap suc rest
    step false t rest = ap length (closed_other x xs t) ∙ ap suc rest

length-numbered_lines : (text : List ℕ) → length (numbered_lines text) ≡ length (physical_lines text)
length-numbered_lines text = simp (length-map, length-enumerate_from)

-- the free text has as many lines
pub same_count : (text : List ℕ) → NoBreach (IsFixedBreach text) → length (physical_lines (free_text text)) ≡ length (physical_lines text)
same_count text fine =
    ap length (free_physical text fine) ∙ length-free_lines (closed_lines (numbered_lines text)) ∙ length-closed_lines (numbered_lines text) ∙ length-numbered_lines text
