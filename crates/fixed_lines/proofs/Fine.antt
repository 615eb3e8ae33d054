-- The free line of a line that isn't bad isn't bad.
use Rattle.std.proofs.Common.{◌≡◌, ℕ, ◌+◌, ◌≤◌, Bool, true, false, cond, List, [], ◌∷◌, ◌++◌, length, take, drop, one-add, refl, sym, ap, ◌∙◌, arith}
use Rattle.std.specs.Prelude.{◌||◌, ◌&&◌, not, filter, nat_eq, nat_lt, bytes_eq, codes}
use Rattle.std.specs.List.{concat, ends_with, list_all, list_any, prefix_len}
use Rattle.std.specs.Cmp.Lexicographic.{same_text}
use Rattle.std.proofs.lemmas.Bool.{false≢true, false_from_ne_true, ltb-true}
use Rattle.std.proofs.lemmas.List.{length-append, length-drop, length-take, take-append-drop}
use Rattle.std.proofs.lemmas.List.Folds.{list_any-append}
use Rattle.source_lines.specs.declared.limits.TheConstants.{MAX_LINE_BYTES}
use Rattle.source_lines.specs.declared.line.LineKind.{LineKind}
use Rattle.source_lines.specs.declared.line.LineKind.TheVariants as logical
use Rattle.source_lines.specs.Cut.{cut}
use Rattle.source_lines.specs.PhysicalLines.{first_part, code_of, is_bad, is_bad_part, is_blank, is_comment, is_lone_ampersand, parts, without_blanks, without_blanks_after}
use Rattle.source_lines.proofs.Cuts.{concat-cut}
use Rattle.fixed_lines.specs.declared.kind.FixedKind.{FixedKind}
use Rattle.fixed_lines.specs.declared.kind.FixedKind.TheVariants.{Passed, Statement, Directive}
use Rattle.fixed_lines.specs.FixedLines.{FixedLine, content, fixed_line_of, is_ampersand, is_bad_margin, is_bad_part_of}
use Rattle.fixed_lines.specs.FixedBreaches.{is_passed}
use Rattle.fixed_lines.specs.FreeText.{free_directive, free_line, free_statement}
use Rattle.fixed_lines.proofs.GoodParts.{AreGood, either-false, good_parts}
use Rattle.fixed_lines.proofs.Ready.{after_other, code-alone, code-both, code-end, continued_good, ends_last, parts-alone, parts-both, parts-end, plain_ampersand, plain_semicolon}
use Rattle.fixed_lines.proofs.Groups.{physical}

-- what the rules leave of what stands on a line of this kind
pub record IsTight (kind : FixedKind) (code : List ℕ) : Type 0 where
  pub ps : List (List ℕ)
  pub good : AreGood ps
  pub whole : code ≡ concat ps
  pub fine : list_any (is_bad_part_of kind) ps ≡ false
  pub short : length (concat ps) ≤ 66

length-concat-filter : (p : List ℕ → Bool) (lists : List (List ℕ)) → length (concat (filter p lists)) ≤ length (concat lists)
length-concat-filter p [] = omega arith
length-concat-filter p (list ∷ lists) = step (p list) (length-concat-filter p lists)
  where
    step : (t : Bool) → length (concat (filter p lists)) ≤ length (concat lists) → length (concat (cond t (list ∷ filter p lists) (filter p lists))) ≤ length (list ++ concat lists)
    step true within = omega (arith, length-append list (concat (filter p lists)), length-append list (concat lists), within)
    step false within = omega (arith, length-append list (concat lists), within)

code_short : (line : List ℕ) → length (code_of (content line)) ≤ 66
code_short line = omega (
  arith,
  length-concat-filter (λ part. not (is_comment part)) (cut first_part (content line)),
  ap length (concat-cut first_part (content line)),
  length-drop 6 (take 72 line),
  length-take 72 line,
)

pub tight_line : (number : ℕ) (kind : FixedKind) (line : List ℕ) → (fixed_line_of number kind line).bad ≡ false → is_passed (fixed_line_of number kind line).kind ≡ false
    → IsTight (fixed_line_of number kind line).kind (fixed_line_of number kind line).code
tight_line number Passed line fine stands = absurd (false≢true (sym stands))
tight_line number Statement line fine stands =
    let part = (either-false (nat_lt MAX_LINE_BYTES (length line) || is_bad_margin Statement line) (list_any (is_bad_part_of Statement) (parts (content line))) fine).1 in
    record { ps = parts (content line); good = good_parts logical.Statement (content line) part; whole = refl; fine = part; short = code_short line }
tight_line number Directive line fine stands =
    let part = (either-false (nat_lt MAX_LINE_BYTES (length line) || is_bad_margin Directive line) (list_any (is_bad_part_of Directive) (parts (content line))) fine).1 in
    record { ps = parts (content line); good = good_parts logical.Directive (content line) part; whole = refl; fine = part; short = code_short line }

any_first : (f g : List ℕ → Bool) (xs : List (List ℕ)) → list_any (λ x. f x || g x) xs ≡ false → list_any f xs ≡ false
any_first f g [] e = refl
any_first f g (x ∷ xs) e =
    let both = either-false (f x || g x) (list_any (λ x. f x || g x) xs) e in
    let here = (either-false (f x) (g x) both.0).0 in
    let rest = any_first f g xs both.1 in
    λ i. here i || rest i

not_less : (n m : ℕ) → m ≤ n → nat_lt n m ≡ false
not_less n m within = false_from_ne_true (nat_lt n m) (λ less. absurd (omega (arith, ltb-true n m less)))

three : (a b c : Bool) → a ≡ false → b ≡ false → c ≡ false → (a || b || c) ≡ false
three a b c x y z = λ i. x i || y i || z i

-- more than `&` stands between two bytes
two_bytes : (b : ℕ) (c : List ℕ) (e : ℕ) → bytes_eq (b ∷ (c ++ e ∷ [])) (38 ∷ []) ≡ false
two_bytes b [] e = last (nat_eq b 38)
  where
    last : (t : Bool) → (t && false) ≡ false
    last true = refl
    last false = refl
two_bytes b (x ∷ c) e = last (nat_eq b 38)
  where
    last : (t : Bool) → (t && false) ≡ false
    last true = refl
    last false = refl

lone_both : (o : ℕ) (c : List ℕ) (e : ℕ) → is_blank o ≡ false → is_blank e ≡ false → is_lone_ampersand (o ∷ (c ++ e ∷ [])) ≡ false
lone_both o c e begin end =
    ap (λ l. bytes_eq (without_blanks l) (38 ∷ [])) (after_other (o ∷ c) e end)
    ∙ ap (λ t. bytes_eq (drop (cond t (1 + prefix_len is_blank (c ++ e ∷ [])) 0) (o ∷ (c ++ e ∷ []))) (38 ∷ [])) begin
    ∙ two_bytes o c e

blanks_first : (c : List ℕ) (e : ℕ) → list_all is_blank c ≡ false → bytes_eq (without_blanks (c ++ e ∷ [])) (38 ∷ []) ≡ false
blanks_first [] e some = absurd (false≢true (sym some))
blanks_first (b ∷ c) e some = step (is_blank b) refl (blanks_first c e)
  where
    step : (t : Bool) → is_blank b ≡ t → (list_all is_blank c ≡ false → bytes_eq (without_blanks (c ++ e ∷ [])) (38 ∷ []) ≡ false)
        → bytes_eq (without_blanks (b ∷ (c ++ e ∷ []))) (38 ∷ []) ≡ false
    step true t after =
        let rest : list_all is_blank c ≡ false = ap (λ t. t && list_all is_blank c) (sym t) ∙ some in
        rw (t, one-add (prefix_len is_blank (c ++ e ∷ []))) (after rest)
    step false t after = ap (λ t. bytes_eq (drop (cond t (1 + prefix_len is_blank (c ++ e ∷ [])) 0) (b ∷ (c ++ e ∷ []))) (38 ∷ [])) t ∙ two_bytes b c e

lone_end : (c : List ℕ) → list_all is_blank c ≡ false → is_lone_ampersand (c ++ 38 ∷ []) ≡ false
lone_end c some = ap (λ l. bytes_eq (without_blanks l) (38 ∷ [])) (after_other c 38 refl) ∙ blanks_first c 38 some

lone_ends : (xs : List ℕ) → bytes_eq (without_blanks xs) (38 ∷ []) ≡ true → ends_with nat_eq xs (38 ∷ []) ≡ true
lone_ends xs e =
    let n = prefix_len is_blank xs in
    let last : xs ≡ take n xs ++ 38 ∷ [] = sym (take-append-drop n xs) ∙ ap (λ l. take n xs ++ l) (same_text (drop n xs) (38 ∷ []) (sym e)) in
    ap (λ l. ends_with nat_eq l (38 ∷ [])) last ∙ ends_last (take n xs) 38 38

lone_good : (ps : List (List ℕ)) → AreGood ps → is_lone_ampersand (concat ps) ≡ false
lone_good ps good =
    false_from_ne_true (is_lone_ampersand (concat ps)) (λ lone. false≢true (sym (continued_good ps good) ∙ lone_ends (without_blanks_after (concat ps)) lone))

bad_end : (kind : LineKind) (ps : List (List ℕ)) (e : ℕ) → list_any (is_bad_part kind) ps ≡ false → is_bad_part kind (e ∷ []) ≡ false
    → list_any (is_bad_part kind) (ps ++ (e ∷ []) ∷ []) ≡ false
bad_end kind ps e fine last = list_any-append (is_bad_part kind) ps ((e ∷ []) ∷ []) ∙ (λ i. fine i || (last i || false))

statement_fine : (continues : Bool) (ps : List (List ℕ)) (continued : Bool) → AreGood ps → list_any (is_bad_part logical.Statement) ps ≡ false → length (concat ps) ≤ 66
    → is_bad (free_statement continues (concat ps) continued) ≡ false
statement_fine true ps true good fine short = three _ _ _
    (not_less MAX_LINE_BYTES (length (38 ∷ (concat ps ++ 38 ∷ []))) (omega (arith, length-append (concat ps) (38 ∷ []))))
    (ap (list_any (is_bad_part logical.Statement)) (parts-both 38 ps 38 plain_ampersand good plain_ampersand) ∙ bad_end logical.Statement ps 38 fine refl)
    (ap is_lone_ampersand (code-both 38 ps 38 plain_ampersand good plain_ampersand) ∙ lone_both 38 (concat ps) 38 refl refl)
statement_fine true ps false good fine short = three _ _ _
    (not_less MAX_LINE_BYTES (length (38 ∷ (concat ps ++ 59 ∷ []))) (omega (arith, length-append (concat ps) (59 ∷ []))))
    (ap (list_any (is_bad_part logical.Statement)) (parts-both 38 ps 59 plain_ampersand good plain_semicolon) ∙ bad_end logical.Statement ps 59 fine refl)
    (ap is_lone_ampersand (code-both 38 ps 59 plain_ampersand good plain_semicolon) ∙ lone_both 38 (concat ps) 59 refl refl)
statement_fine false ps true good fine short = three _ _ _
    (not_less MAX_LINE_BYTES (length (59 ∷ (concat ps ++ 38 ∷ []))) (omega (arith, length-append (concat ps) (38 ∷ []))))
    (ap (list_any (is_bad_part logical.Statement)) (parts-both 59 ps 38 plain_semicolon good plain_ampersand) ∙ bad_end logical.Statement ps 38 fine refl)
    (ap is_lone_ampersand (code-both 59 ps 38 plain_semicolon good plain_ampersand) ∙ lone_both 59 (concat ps) 38 refl refl)
statement_fine false ps false good fine short = three _ _ _
    (not_less MAX_LINE_BYTES (length (59 ∷ (concat ps ++ 59 ∷ []))) (omega (arith, length-append (concat ps) (59 ∷ []))))
    (ap (list_any (is_bad_part logical.Statement)) (parts-both 59 ps 59 plain_semicolon good plain_semicolon) ∙ bad_end logical.Statement ps 59 fine refl)
    (ap is_lone_ampersand (code-both 59 ps 59 plain_semicolon good plain_semicolon) ∙ lone_both 59 (concat ps) 59 refl refl)

directive_fine : (ps : List (List ℕ)) (continued : Bool) → AreGood ps → list_any (is_bad_part logical.Directive) ps ≡ false → length (concat ps) ≤ 66
    → (continued ≡ true → list_all is_blank (concat ps) ≡ false)
    → is_bad (codes "!HPF$" ++ free_directive (concat ps) continued) ≡ false
directive_fine ps true good fine short some = three _ _ _
    (not_less MAX_LINE_BYTES (length (codes "!HPF$" ++ (concat ps ++ 38 ∷ []))) (omega (arith, length-append (concat ps) (38 ∷ []))))
    (ap (list_any (is_bad_part logical.Directive)) (parts-end ps 38 good plain_ampersand) ∙ bad_end logical.Directive ps 38 fine refl)
    (ap is_lone_ampersand (code-end ps 38 good plain_ampersand) ∙ lone_end (concat ps) (some refl))
directive_fine ps false good fine short some = three _ _ _
    (not_less MAX_LINE_BYTES (length (codes "!HPF$" ++ concat ps)) (omega arith))
    (ap (list_any (is_bad_part logical.Directive)) (parts-alone ps good) ∙ fine)
    (ap is_lone_ampersand (code-alone ps good) ∙ lone_good ps good)

-- the free line of a line isn't bad
pub free_fine : (x : FixedLine) (continued : Bool) → (is_passed x.kind ≡ false → IsTight x.kind x.code)
    → (x.kind ≡ Directive → continued ≡ true → list_all is_blank x.code ≡ false)
    → (physical x continued).bad ≡ false
free_fine x continued tight some = step x.kind x.code tight some
  where
    step : (kind : FixedKind) (code : List ℕ) → (is_passed kind ≡ false → IsTight kind code)
        → (kind ≡ Directive → continued ≡ true → list_all is_blank code ≡ false)
        → is_bad (free_line kind (record { number = x.number; kind = kind; continues = x.continues; code = code; bad = x.bad }) continued) ≡ false
    step Passed code tight some = refl
    step Statement code tight some =
        let t = tight refl in
        ap (λ c. is_bad (free_statement x.continues c continued)) t.whole
        ∙ statement_fine x.continues t.ps continued t.good (any_first (is_bad_part logical.Statement) is_ampersand t.ps t.fine) t.short
    step Directive code tight some =
        let t = tight refl in
        ap (λ c. is_bad (codes "!HPF$" ++ free_directive c continued)) t.whole
        ∙ directive_fine t.ps continued t.good (any_first (is_bad_part logical.Directive) is_ampersand t.ps t.fine) t.short
        (λ goes. ap (list_all is_blank) (sym t.whole) ∙ some refl goes)
