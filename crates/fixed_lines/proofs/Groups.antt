-- The logical lines of the free lines are those of the fixed ones.
use Rattle.std.proofs.Common.{◌≡◌, ℕ, zero, suc, ◌+◌, ◌-◌, Bool, true, false, cond, List, [], ◌∷◌, ◌++◌, take, drop, map, one-add, refl, sym, ap, ◌∙◌, append_assoc, arith}
use Rattle.std.specs.Prelude.{not, bytes_eq, codes}
use Rattle.std.specs.List.{flat_map, join_with_byte, list_all, prefix_len}
use Rattle.std.proofs.lemmas.List.{append-nil}
use Rattle.std.proofs.lemmas.List.Elements.{filter-append}
use Rattle.source_lines.specs.declared.line.LineKind.TheVariants as logical
use Rattle.source_lines.specs.declared.line.LogicalLine.{LogicalLine}
use Rattle.source_lines.specs.Cut.{cut, cut_after}
use Rattle.source_lines.specs.PhysicalLines as free
use Rattle.source_lines.specs.PhysicalLines.{first_part, is_blank, physical_line}
use Rattle.source_lines.specs.Breaches as free_breaches
use Rattle.source_lines.specs.Breaches.{is_continued}
use Rattle.source_lines.specs.LogicalLines as free_logical
use Rattle.source_lines.specs.LogicalLines.{body, continuing_body, logical_line, statements, together, with_part, without_empty, between_semicolons}
use Rattle.fixed_lines.specs.declared.kind.FixedKind.{FixedKind}
use Rattle.fixed_lines.specs.declared.kind.FixedKind.TheVariants.{Passed, Statement, Directive}
use Rattle.fixed_lines.specs.FixedLines.{FixedLine}
use Rattle.fixed_lines.specs.FixedBreaches.{continues}
use Rattle.fixed_lines.specs.FixedLogicalLines.{code, groups, lines_of_kind}
use Rattle.fixed_lines.specs.FreeText.{first_continues, free_line}

-- the logical lines of a line and those that continue it, with no line left out
abbrev pub lines_joined : List FixedLine → List LogicalLine
lines_joined [] = []
lines_joined (line ∷ lines) = lines_of_kind line.kind line.number (join_with_byte 32 (line.code ∷ map code lines))

abbrev pub all_joined : List FixedLine → List LogicalLine
all_joined lines = flat_map lines_joined (groups lines)

-- the pieces of what stands after are those of what stands after alone
abbrev pub Splits : List ℕ → Type 0
Splits c = (ys : List ℕ) → cut first_part (c ++ ys) ≡ cut first_part c ++ cut first_part ys

splits-append : (a b : List ℕ) → Splits a → Splits b → Splits (a ++ b)
splits-append a b sa sb ys =
    ap (cut first_part) (append_assoc a b ys) ∙ sa (b ++ ys) ∙ ap (λ l. cut first_part a ++ l) (sb ys)
    ∙ sym (append_assoc (cut first_part a) (cut first_part b) (cut first_part ys)) ∙ ap (λ l. l ++ cut first_part ys) (sym (sa b))

splits-blank : Splits (32 ∷ [])
splits-blank ys = refl

abbrev pub opening : FixedKind → List ℕ
opening Directive = []
opening kind = 59 ∷ []

abbrev pub closing : FixedKind → Bool → List ℕ
closing Directive continued = []
closing kind true = []
closing kind false = 59 ∷ []

-- the free line of a line
abbrev pub physical : FixedLine → Bool → free.PhysicalLine
physical line continued = physical_line line.number (free_line line.kind line continued)

abbrev pub freed : List FixedLine → List free.PhysicalLine
freed [] = []
freed (line ∷ lines) = physical line (first_continues lines) ∷ freed lines

-- a line of this kind
abbrev pub sample : FixedKind → List ℕ
sample Passed = []
sample Statement = 59 ∷ []
sample Directive = codes "!HPF$"

-- what the free line of a line that isn't passed over is
pub record IsReady (line : FixedLine) (continued : Bool) : Type 0 where
  pub kept : (number : ℕ) (bytes : List ℕ)
      → free_logical.lines_of_kind (physical line continued).kind number bytes ≡ lines_of_kind line.kind number bytes
  pub goes : is_continued (physical line continued) ≡ continued
  pub first : line.continues ≡ false → body (physical line continued) ≡ opening line.kind ++ (line.code ++ closing line.kind continued)
  pub next : line.continues ≡ true → continuing_body (physical line continued) ≡ line.code ++ closing line.kind continued
  pub splits : Splits line.code
  pub stands : free_breaches.is_passed (physical line continued).kind ≡ false
  pub like : (physical line continued).kind ≡ (physical_line 1 (sample line.kind)).kind

-- lines that aren't passed over, after one of this kind
abbrev pub Chain : FixedKind → List FixedLine → Type 0
Chain kind [] = Unit {0}
Chain kind (line ∷ lines) = (line.continues ≡ true → line.kind ≡ kind) × IsReady line (first_continues lines) × Chain line.kind lines

count : (kind : FixedKind) (x : FixedLine) (xs : List FixedLine) → Chain kind (x ∷ xs) → prefix_len is_continued (freed (x ∷ xs)) ≡ prefix_len continues xs
count kind x [] chain = let goes = chain.1.goes in ap (λ t. cond t (1 + 0) 0) goes
count kind x (y ∷ ys) chain =
    let goes = chain.1.goes in
    let rest = count x.kind y ys chain.2 in
    λ i. cond (goes i) (1 + rest i) 0

stops : (xs : List FixedLine) → first_continues (drop (prefix_len continues xs) xs) ≡ false
stops [] = refl
stops (x ∷ xs) = step x.continues refl (stops xs)
  where
    step : (t : Bool) → x.continues ≡ t → first_continues (drop (prefix_len continues xs) xs) ≡ false → first_continues (drop (prefix_len continues (x ∷ xs)) (x ∷ xs)) ≡ false
    step true t after = rw (t, one-add (prefix_len continues xs)) after
    step false t after = rw t refl

join_front : (o c : List ℕ) (pieces : List (List ℕ)) → join_with_byte 32 ((o ++ c) ∷ pieces) ≡ o ++ join_with_byte 32 (c ∷ pieces)
join_front o c [] = refl
join_front o c (p ∷ pieces) = append_assoc o c (32 ∷ join_with_byte 32 (p ∷ pieces))

closed : (kind : FixedKind) (c : List ℕ) → c ++ closing kind true ≡ c
closed Directive c = append-nil c
closed Statement c = append-nil c
closed Passed c = append-nil c

tail_step : (kind : FixedKind) (c : List ℕ) (t : Bool) (n : ℕ) (p : free.PhysicalLine) (ps : List free.PhysicalLine) (y : FixedLine) (ys : List FixedLine) (b : Bool)
    → (t ≡ true → y.kind ≡ kind) → (t ≡ true → continuing_body p ≡ y.code ++ closing y.kind b)
    → join_with_byte 32 ((y.code ++ closing y.kind b) ∷ map continuing_body (take n ps)) ≡ join_with_byte 32 (y.code ∷ map code (take n ys)) ++ closing y.kind false
    → join_with_byte 32 ((c ++ closing kind t) ∷ map continuing_body (take (cond t (1 + n) 0) (p ∷ ps)))
    ≡ join_with_byte 32 (c ∷ map code (take (cond t (1 + n) 0) (y ∷ ys))) ++ closing kind false
tail_step kind c false n p ps y ys b same next after = refl
tail_step kind c true n p ps y ys b same next after =
    let pieces = join_with_byte 32 (y.code ∷ map code (take n ys)) in
    let left : join_with_byte 32 ((c ++ closing kind true) ∷ continuing_body p ∷ map continuing_body (take n ps)) ≡ c ++ (32 ∷ (pieces ++ closing kind false)) =
    (λ i. closed kind c i ++ (32 ∷ join_with_byte 32 (next refl i ∷ map continuing_body (take n ps))))
    ∙ ap (λ l. c ++ (32 ∷ l)) (after ∙ ap (λ k. pieces ++ closing k false) (same refl)) in
    rw (one-add n) (left ∙ sym (append_assoc c (32 ∷ pieces) (closing kind false)))

tail_joined : (kind : FixedKind) (c : List ℕ) (xs : List FixedLine) → Chain kind xs
    → join_with_byte 32 ((c ++ closing kind (first_continues xs)) ∷ map continuing_body (take (prefix_len continues xs) (freed xs)))
    ≡ join_with_byte 32 (c ∷ map code (take (prefix_len continues xs) xs)) ++ closing kind false
tail_joined kind c [] chain = refl
tail_joined kind c (y ∷ ys) chain =
    tail_step kind c y.continues (prefix_len continues ys) (physical y (first_continues ys)) (freed ys) y ys (first_continues ys) chain.0 chain.1.next
    (tail_joined y.kind y.code ys chain.2)

chain_splits : (kind : FixedKind) (c : List ℕ) (xs : List FixedLine) (n : ℕ) → Splits c → Chain kind xs → Splits (join_with_byte 32 (c ∷ map code (take n xs)))
chain_splits kind c [] zero s chain = s
chain_splits kind c [] (suc n) s chain = s
chain_splits kind c (x ∷ xs) zero s chain = s
chain_splits kind c (x ∷ xs) (suc n) s chain =
    splits-append c (32 ∷ join_with_byte 32 (x.code ∷ map code (take n xs))) s
    (splits-append (32 ∷ []) (join_with_byte 32 (x.code ∷ map code (take n xs))) splits-blank (chain_splits x.kind x.code xs n chain.1.splits chain.2))

-- the statements before a last `;`
together_last : (ps : List (List ℕ)) → (together (ps ++ (59 ∷ []) ∷ []) ≡ together ps ++ [] ∷ []) × (together ps ≡ [] → ⊥)
together_last [] = (refl, λ e. absurd cc)
together_last (p ∷ ps) = step (bytes_eq p (59 ∷ [])) refl (together ps) refl (together_last ps)
  where
    step : (t : Bool) → bytes_eq p (59 ∷ []) ≡ t → (l : List (List ℕ)) → together ps ≡ l → (together (ps ++ (59 ∷ []) ∷ []) ≡ together ps ++ [] ∷ []) × (together ps ≡ [] → ⊥)
        → (together (p ∷ (ps ++ (59 ∷ []) ∷ [])) ≡ together (p ∷ ps) ++ [] ∷ []) × (together (p ∷ ps) ≡ [] → ⊥)
    step true t l is after = rw t (ap (λ l. [] ∷ l) after.0, λ e. absurd cc)
    step false t [] is after = absurd (after.1 is)
    step false t (s ∷ l) is after = rw (t, after.0, is) (refl, λ e. absurd cc)

statements_between : (j : List ℕ) → Splits j → statements (59 ∷ (j ++ 59 ∷ [])) ≡ statements j
statements_between j s =
    let pieces : cut first_part (j ++ 59 ∷ []) ≡ cut first_part j ++ (59 ∷ []) ∷ [] = s (59 ∷ []) in
    ap (λ l. without_empty (together l)) pieces ∙ ap without_empty (together_last (cut first_part j)).0
    ∙ filter-append (λ statement. not (list_all is_blank statement)) (between_semicolons j) ([] ∷ [])
    ∙ append-nil (statements j)

same_lines : (kind : FixedKind) (number : ℕ) (j : List ℕ) → Splits j → lines_of_kind kind number (opening kind ++ (j ++ closing kind false)) ≡ lines_of_kind kind number j
same_lines Directive number j s = ap (λ l. logical_line number logical.Directive l ∷ []) (append-nil j)
same_lines Statement number j s = ap (map (logical_line number logical.Statement)) (statements_between j s)
same_lines Passed number j s = ap (map (logical_line number logical.Statement)) (statements_between j s)

group_same : (kind : FixedKind) (x : FixedLine) (xs : List FixedLine) → Chain kind (x ∷ xs) → x.continues ≡ false
    → free_logical.lines_of_group (physical x (first_continues xs) ∷ take (prefix_len continues xs) (freed xs)) ≡ lines_joined (x ∷ take (prefix_len continues xs) xs)
group_same kind x xs chain starts =
    let p = physical x (first_continues xs) in
    let n = prefix_len continues xs in
    let j = join_with_byte 32 (x.code ∷ map code (take n xs)) in
    let joined : join_with_byte 32 (body p ∷ map continuing_body (take n (freed xs))) ≡ opening x.kind ++ (j ++ closing x.kind false) =
    ap (λ l. join_with_byte 32 (l ∷ map continuing_body (take n (freed xs)))) (chain.1.first starts)
    ∙ join_front (opening x.kind) (x.code ++ closing x.kind (first_continues xs)) (map continuing_body (take n (freed xs)))
    ∙ ap (λ l. opening x.kind ++ l) (tail_joined x.kind x.code xs chain.2) in
    chain.1.kept x.number (join_with_byte 32 (body p ∷ map continuing_body (take n (freed xs))))
    ∙ ap (lines_of_kind x.kind x.number) joined
    ∙ same_lines x.kind x.number j (chain_splits x.kind x.code xs n chain.1.splits chain.2)

pub groups_same : (kind : FixedKind) (xs : List FixedLine) (skipped : ℕ) → Chain kind xs → first_continues (drop skipped xs) ≡ false
    → flat_map free_logical.lines_of_group (cut_after (λ rest. prefix_len is_continued rest + 1) (freed xs) skipped)
    ≡ flat_map lines_joined (cut_after (λ rest. prefix_len continues (drop 1 rest) + 1) xs skipped)
groups_same kind [] skipped chain starts = refl
groups_same kind (x ∷ xs) (suc skipped) chain starts = groups_same x.kind xs skipped chain.2 starts
groups_same kind (x ∷ xs) zero chain starts =
    let n = prefix_len continues xs in
    let free_len : prefix_len is_continued (freed (x ∷ xs)) + 1 - 1 ≡ n = omega (arith, count kind x xs chain) in
    let fixed_len : n ≡ prefix_len continues xs + 1 - 1 = omega arith in
    (λ i. free_logical.lines_of_group (physical x (first_continues xs) ∷ take (free_len i) (freed xs))
    ++ flat_map free_logical.lines_of_group (cut_after (λ rest. prefix_len is_continued rest + 1) (freed xs) (free_len i)))
    ∙ (λ i. group_same kind x xs chain starts i ++ groups_same x.kind xs n chain.2 (stops xs) i)
    ∙ (λ i. lines_joined (x ∷ take (fixed_len i) xs)
    ++ flat_map lines_joined (cut_after (λ rest. prefix_len continues (drop 1 rest) + 1) xs (fixed_len i)))
