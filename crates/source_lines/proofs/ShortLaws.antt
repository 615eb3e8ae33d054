-- How long logical lines are.
use Rattle.std.proofs.Common.{◌≡◌, ℕ, zero, suc, ◌+◌, ◌-◌, ◌*◌, ◌<◌, ◌≤◌, Bool, true, false, cond, List, [], ◌∷◌, ◌++◌, length, take, drop, get_or, map, refl, sym, ap, subst, inl, arith}
use Rattle.std.specs.Prelude.{All, filter, bytes_eq, if◌then◌else◌, nat_eq, nat_lt, not, ◌||◌}
use Rattle.std.specs.List.{concat, enumerate_from, flat_map, join_with_byte, prefix_len, list_all, list_any, starts_with}
use Rattle.std.proofs.lemmas.Bool.{false_from_ne_true, ltb-false, false≢true}
use Rattle.std.proofs.lemmas.List.{length-take, length-drop, length-append, get_or_default}
use Rattle.std.proofs.lemmas.List.Elements.{All-append, All-cons, All-filter, All-head, All-map, All-nil, All-tail, All-take}
use Rattle.hpf_base.specs.Refusal.{NoBreach}
use Rattle.source_lines.specs.declared.limits.TheConstants.{MAX_CONTINUATIONS, MAX_LINE_BYTES, MAX_LOGICAL_LINE_BYTES}
use Rattle.hpf_base.specs.declared.refusal.Reason.TheVariants.{BadLine}
use Rattle.source_lines.specs.declared.line.LogicalLine.{LogicalLine}
use Rattle.source_lines.specs.declared.line.LineKind.TheVariants as logical
use Rattle.source_lines.specs.declared.physical_lines.PhysicalKind.{PhysicalKind}
use Rattle.source_lines.specs.declared.physical_lines.PhysicalKind.TheVariants.{Directive}
use Rattle.source_lines.specs.Cut.{cut, cut_after}
use Rattle.source_lines.specs.PhysicalLines.{PhysicalLine, code_of, content, first_part, is_bad, is_bad_part, is_comment, is_blank, is_directive, line_kind, is_lone_ampersand, parts, physical_lines, physical_line, numbered_lines, without_blanks, without_blanks_after}
use Rattle.source_lines.specs.LogicalLines.{between_semicolons, body, continuing_body, groups, joined_bytes, lines_in, lines_of_group, lines_of_kind, logical_line, logical_lines, statements, together, with_part}
use Rattle.source_lines.specs.Breaches.{is_continued, is_passed, standing, IsLineBreach}
use Rattle.source_lines.proofs.BreachLaws.{IsClear, fine_clear, parted_at}
use Rattle.source_lines.proofs.ContinuationLaws.{groups_few}
use Rattle.source_lines.proofs.Cuts.{concat-cut}

length-concat-filter : (p : List ℕ → Bool) (lists : List (List ℕ)) → length (concat (filter p lists)) ≤ length (concat lists)
length-concat-filter p [] = omega arith
length-concat-filter p (list ∷ lists) = step (p list) (length-concat-filter p lists)
  where
    step : (t : Bool) → length (concat (filter p lists)) ≤ length (concat lists) → length (concat (cond t (list ∷ filter p lists) (filter p lists))) ≤ length (list ++ concat lists)
    step true within = omega (arith, length-append list (concat (filter p lists)), length-append list (concat lists), within)
    step false within = omega (arith, length-append list (concat lists), within)

-- what stands in bytes is no longer than they are
code-within : (bytes : List ℕ) → length (code_of bytes) ≤ length bytes
code-within bytes = omega (arith, length-concat-filter (λ part. not (is_comment part)) (cut first_part bytes), ap length (concat-cut first_part bytes))

either-within : (t : Bool) (xs ys : List ℕ) (n : ℕ) → length xs ≤ n → length ys ≤ n → length (if t then xs else ys) ≤ n
either-within true xs ys n first second = first
either-within false xs ys n first second = second

without_blanks-within : (bytes : List ℕ) → length (without_blanks bytes) ≤ length bytes
without_blanks-within bytes = simp length-drop (omega arith)

content-within : (line : List ℕ) → length (content line) ≤ length line
content-within line = either-within (is_directive line) (drop 5 (without_blanks line)) line (length line)
    (omega (arith, length-drop 5 (without_blanks line), without_blanks-within line)) (omega arith)

-- a line that isn't bad is short
code-short : (line : List ℕ) → is_bad line ≡ false → length (code_of (content line)) ≤ MAX_LINE_BYTES
code-short line fine = omega (arith, code-within (content line), content-within line, long (nat_lt MAX_LINE_BYTES (length line)) refl fine)
  where
    long : (t : Bool) → nat_lt MAX_LINE_BYTES (length line) ≡ t
        → (t || list_any (is_bad_part (line_kind line)) (parts (content line)) || is_lone_ampersand (code_of (content line))) ≡ false
        → length line ≤ MAX_LINE_BYTES
    long true e bad = absurd (false≢true (sym bad))
    long false e bad = ltb-false MAX_LINE_BYTES (length line) e

body-within : (line : PhysicalLine) → length (body line) ≤ length line.code
body-within line = either-within (is_continued line) (take (length (without_blanks_after line.code) - 1) line.code) line.code (length line.code)
    (omega (arith, length-take (length (without_blanks_after line.code) - 1) line.code)) (omega arith)

continuing_body-within : (line : PhysicalLine) → length (continuing_body line) ≤ length line.code
continuing_body-within line = either-within (starts_with nat_eq (without_blanks (body line)) (38 ∷ [])) (drop 1 (without_blanks (body line))) (body line) (length line.code)
    (omega (arith, length-drop 1 (without_blanks (body line)), without_blanks-within (body line), body-within line)) (body-within line)

-- what stands on the line is short
abbrev pub IsShort : PhysicalLine → Type 0
IsShort line = length line.code ≤ MAX_LINE_BYTES

join-within : (piece : List ℕ) (lines : List PhysicalLine) → length piece ≤ MAX_LINE_BYTES → All IsShort lines
    → length (join_with_byte 32 (piece ∷ map continuing_body lines)) ≤ (MAX_LINE_BYTES + 1) * (length lines + 1)
join-within piece [] short all = omega arith
join-within piece (line ∷ lines) short all =
    let here : length line.code ≤ MAX_LINE_BYTES = All-head IsShort line lines all in
    let rest = join-within (continuing_body line) lines (omega (arith, continuing_body-within line, here)) (All-tail IsShort line lines all) in
    omega (arith, rest, short, length-append piece (32 ∷ join_with_byte 32 (continuing_body line ∷ map continuing_body lines)))

joined_bytes-within : (line : PhysicalLine) (lines : List PhysicalLine) → All IsShort (line ∷ lines)
    → length (joined_bytes line lines) ≤ (MAX_LINE_BYTES + 1) * length (line ∷ lines)
joined_bytes-within line lines all =
    let here : length line.code ≤ MAX_LINE_BYTES = All-head IsShort line lines all in
    omega (arith, join-within (body line) lines (omega (arith, body-within line, here)) (All-tail IsShort line lines all))

sound_lines : (text : List ℕ) → All (λ line. line.bad ≡ false → IsShort line) (numbered_lines text)
sound_lines text =
    All-map (λ line. line.bad ≡ false → IsShort line) (λ (x : ℕ × List ℕ). physical_line x.0 x.1) (enumerate_from 1 (physical_lines text))
    (λ k d lt fine. code-short (get_or (enumerate_from 1 (physical_lines text)) k d).1 fine)

-- where a text has no breach, its lines are short
fine_lines : (text : List ℕ) → IsClear (numbered_lines text) (length (numbered_lines text)) → All IsShort (numbered_lines text)
fine_lines text clear k d lt =
    let line = get_or (numbered_lines text) k d in
    let whole = parted_at (numbered_lines text) k line lt (get_or_default (numbered_lines text) k d line lt) in
    let front : length (take k (numbered_lines text)) < length (numbered_lines text) = omega (arith, length-take k (numbered_lines text), lt) in
    sound_lines text k d lt (false_from_ne_true line.bad (λ bad. clear (take k (numbered_lines text)) line (drop (k + 1) (numbered_lines text)) BadLine whole front (inl bad)))

-- lists of at most so many elements
abbrev AreWithin : ℕ → List (List ℕ) → Type 0
AreWithin n lists = All (λ list. length list ≤ n) lists

with_part-within : (part : List ℕ) (lists : List (List ℕ)) (n m : ℕ) → length part + n ≤ m → AreWithin n lists → AreWithin m (with_part part lists)
with_part-within part [] n m within all = All-cons (λ (list : List ℕ). length list ≤ m) part [] (omega arith) (All-nil (λ (list : List ℕ). length list ≤ m))
with_part-within part (list ∷ lists) n m within all =
    let here : length list ≤ n = All-head (λ (list : List ℕ). length list ≤ n) list lists all in
    All-cons (λ (list : List ℕ). length list ≤ m) (part ++ list) lists (omega (arith, here, length-append part list))
    (λ k d lt. let at : length (get_or lists k d) ≤ n = All-tail (λ (list : List ℕ). length list ≤ n) list lists all k d lt in omega (arith, at))

together-within : (pieces : List (List ℕ)) → AreWithin (length (concat pieces)) (together pieces)
together-within [] = All-cons (λ (list : List ℕ). length list ≤ 0) [] [] (omega arith) (All-nil (λ (list : List ℕ). length list ≤ 0))
together-within (piece ∷ pieces) = step (bytes_eq piece (59 ∷ [])) (together-within pieces)
  where
    step : (t : Bool) → AreWithin (length (concat pieces)) (together pieces)
        → AreWithin (length (piece ++ concat pieces)) (if t then [] ∷ together pieces else with_part piece (together pieces))
    step true all =
        All-cons (λ (list : List ℕ). length list ≤ length (piece ++ concat pieces)) [] (together pieces) (omega arith)
        (λ k d lt. let at : length (get_or (together pieces) k d) ≤ length (concat pieces) = all k d lt in omega (arith, at, length-append piece (concat pieces)))
    step false all = with_part-within piece (together pieces) (length (concat pieces)) (length (piece ++ concat pieces)) (omega (arith, length-append piece (concat pieces))) all

statements-within : (bytes : List ℕ) → AreWithin (length bytes) (statements bytes)
statements-within bytes =
    All-filter (λ statement. not (list_all is_blank statement)) (λ (list : List ℕ). length list ≤ length bytes) (between_semicolons bytes)
    (subst (λ n. AreWithin n (between_semicolons bytes)) (ap length (concat-cut first_part bytes)) (together-within (cut first_part bytes)))

-- a logical line of no more bytes than forty lines have, a blank after each
abbrev IsShortLine : LogicalLine → Type 0
IsShortLine line = length line.bytes ≤ MAX_LOGICAL_LINE_BYTES

lines_of_kind-short : (kind : PhysicalKind) (number : ℕ) (bytes : List ℕ) → length bytes ≤ MAX_LOGICAL_LINE_BYTES → All IsShortLine (lines_of_kind kind number bytes)
lines_of_kind-short Directive number bytes short = All-cons IsShortLine (logical_line number logical.Directive bytes) [] short (All-nil IsShortLine)
lines_of_kind-short kind number bytes short =
    All-map IsShortLine (logical_line number logical.Statement) (statements bytes)
    (λ k d lt. let at : length (get_or (statements bytes) k d) ≤ length bytes = statements-within bytes k d lt in omega (arith, at, short))

lines_of_group-short : (lines : List PhysicalLine) → All IsShort lines → length lines ≤ MAX_CONTINUATIONS + 1 → All IsShortLine (lines_of_group lines)
lines_of_group-short [] short few = All-nil IsShortLine
lines_of_group-short (line ∷ lines) short few =
    lines_of_kind-short line.kind line.number (joined_bytes line lines) (omega (arith, joined_bytes-within line lines short, few))

groups_after-short : (first : List PhysicalLine → ℕ) (lines : List PhysicalLine) (skipped : ℕ) → All IsShort lines → All (All IsShort) (cut_after first lines skipped)
groups_after-short first [] skipped short = All-nil (All IsShort)
groups_after-short first (line ∷ lines) zero short =
    let rest : All IsShort lines = All-tail IsShort line lines short in
    let taken = take (first (line ∷ lines) - 1) lines in
    All-cons (All IsShort) (line ∷ taken) (cut_after first lines (first (line ∷ lines) - 1))
    (All-cons IsShort line taken (All-head IsShort line lines short) (All-take IsShort (first (line ∷ lines) - 1) lines rest))
    (groups_after-short first lines (first (line ∷ lines) - 1) rest)
groups_after-short first (line ∷ lines) (suc skipped) short = groups_after-short first lines skipped (All-tail IsShort line lines short)

all_flat : {A B : Type 0} (P : B → Type 0) (f : A → List B) (xs : List A) → All (λ x. All P (f x)) xs → All P (flat_map f xs)
all_flat P f [] all = All-nil P
all_flat P f (x ∷ xs) all =
    All-append P (f x) (flat_map f xs) (All-head (λ x. All P (f x)) x xs all) (all_flat P f xs (All-tail (λ x. All P (f x)) x xs all))

lines_in-short : (lines : List PhysicalLine) → All IsShort lines → IsClear lines (length lines) → All IsShortLine (lines_in lines)
lines_in-short lines short clear =
    let here : All IsShort (standing lines) = All-filter (λ line. not (is_passed line.kind)) IsShort lines short in
    all_flat IsShortLine lines_of_group (groups (standing lines))
    (λ k d lt.
    lines_of_group-short (get_or (groups (standing lines)) k d)
    (groups_after-short (λ rest. prefix_len is_continued rest + 1) (standing lines) 0 here k d lt) (groups_few lines clear k d lt))

-- where a text has no breach, its logical lines are short
pub lines_short : (text : List ℕ) → NoBreach (IsLineBreach text) → All (λ line. length line.bytes ≤ MAX_LOGICAL_LINE_BYTES) (logical_lines text)
lines_short text fine =
    let clear = fine_clear (numbered_lines text) fine in
    lines_in-short (numbered_lines text) (fine_lines text clear) clear
