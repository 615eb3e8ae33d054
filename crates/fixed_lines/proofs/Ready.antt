-- What the free line of a sound line is.
use Rattle.std.proofs.Common.{◌≡◌, ℕ, ◌+◌, ◌-◌, Bool, true, false, cond, List, [], ◌∷◌, ◌++◌, length, take, drop, reverse, refl, sym, ap, subst, ◌∙◌, arith}
use Rattle.std.specs.Prelude.{◌==◌, ◌&&◌, not, filter, if◌then◌else◌, nat_eq}
use Rattle.std.specs.List.{concat, ends_with, starts_with, prefix_len, suffix_len}
use Rattle.std.specs.Cmp.Lexicographic.{pointwise}
use Rattle.std.proofs.Math.Seq.{take-append_seam, drop-append_seam, take-length}
use Rattle.std.proofs.lemmas.Bool.{false≢true}
use Rattle.std.proofs.lemmas.List.{append-nil, length-append, reverse-append, reverse-reverse, take-append-le}
use Rattle.std.proofs.lemmas.List.Elements.{filter-append}
use Rattle.std.proofs.lemmas.List.Folds.{concat-append}
use Rattle.source_lines.specs.declared.line.LineKind.TheVariants as logical
use Rattle.source_lines.specs.Cut.{cut}
use Rattle.source_lines.specs.PhysicalLines.{first_part, is_blank, is_comment, parts, code_of, physical_kind, without_blanks, without_blanks_after}
use Rattle.source_lines.specs.LogicalLines as free_logical
use Rattle.source_lines.specs.Breaches as free_breaches
use Rattle.source_lines.proofs.Cuts.{cut-head}
use Rattle.fixed_lines.specs.declared.kind.FixedKind.{FixedKind}
use Rattle.fixed_lines.specs.declared.kind.FixedKind.TheVariants.{Passed, Statement, Directive}
use Rattle.fixed_lines.specs.FixedLines.{FixedLine}
use Rattle.fixed_lines.specs.FreeText.{free_statement, free_directive}
use Rattle.fixed_lines.proofs.GoodParts.{AreGood, cut_good, keep_good, leads, leads_blank, leads_other, leads_good, ends_good}
use Rattle.fixed_lines.proofs.Groups.{IsReady, Splits, closing}

-- a byte that is a part of its own, and no comment
pub record IsPlain (b : ℕ) : Type 0 where
  pub one : (ys : List ℕ) → first_part (b ∷ ys) ≡ 0 + 1
  pub stays : (b == 33) ≡ false

pub plain_ampersand : IsPlain 38
plain_ampersand = record { one = λ ys. refl; stays = refl }

pub plain_semicolon : IsPlain 59
plain_semicolon = record { one = λ ys. refl; stays = refl }

pub parts-plain : (b : ℕ) (bytes : List ℕ) → IsPlain b → parts (b ∷ bytes) ≡ (b ∷ []) ∷ parts bytes
parts-plain b bytes plain =
    ap (filter (λ part. not (is_comment part))) (cut-head first_part b bytes 0 (plain.one bytes))
    ∙ ap (λ t. cond (not t) ((b ∷ []) ∷ parts bytes) (parts bytes)) plain.stays

pub parts-good : (ps : List (List ℕ)) (ys : List ℕ) → AreGood ps → parts (concat ps ++ ys) ≡ ps ++ parts ys
parts-good ps ys good =
    ap (filter (λ part. not (is_comment part))) (cut_good ps ys good) ∙ filter-append (λ part. not (is_comment part)) ps (cut first_part ys)
    ∙ ap (λ l. l ++ parts ys) (keep_good ps good)

pub parts-alone : (ps : List (List ℕ)) → AreGood ps → parts (concat ps) ≡ ps
parts-alone ps good = ap parts (sym (append-nil (concat ps))) ∙ parts-good ps [] good ∙ append-nil ps

pub code-alone : (ps : List (List ℕ)) → AreGood ps → code_of (concat ps) ≡ concat ps
code-alone ps good = ap concat (parts-alone ps good)

pub parts-end : (ps : List (List ℕ)) (e : ℕ) → AreGood ps → IsPlain e → parts (concat ps ++ e ∷ []) ≡ ps ++ (e ∷ []) ∷ []
parts-end ps e good plain = parts-good ps (e ∷ []) good ∙ ap (λ l. ps ++ l) (parts-plain e [] plain)

pub code-end : (ps : List (List ℕ)) (e : ℕ) → AreGood ps → IsPlain e → code_of (concat ps ++ e ∷ []) ≡ concat ps ++ e ∷ []
code-end ps e good plain = ap concat (parts-end ps e good plain) ∙ concat-append ps ((e ∷ []) ∷ [])

pub parts-both : (o : ℕ) (ps : List (List ℕ)) (e : ℕ) → IsPlain o → AreGood ps → IsPlain e → parts (o ∷ (concat ps ++ e ∷ [])) ≡ (o ∷ []) ∷ (ps ++ (e ∷ []) ∷ [])
parts-both o ps e begin good plain = parts-plain o (concat ps ++ e ∷ []) begin ∙ ap (λ l. (o ∷ []) ∷ l) (parts-end ps e good plain)

pub code-both : (o : ℕ) (ps : List (List ℕ)) (e : ℕ) → IsPlain o → AreGood ps → IsPlain e → code_of (o ∷ (concat ps ++ e ∷ [])) ≡ o ∷ (concat ps ++ e ∷ [])
code-both o ps e begin good plain = ap concat (parts-plain o (concat ps ++ e ∷ []) begin) ∙ ap (λ l. o ∷ l) (code-end ps e good plain)

pub splits_good : (ps : List (List ℕ)) → AreGood ps → Splits (concat ps)
splits_good ps good ys =
    cut_good ps ys good
    ∙ ap (λ l. l ++ cut first_part ys) (sym (ap (cut first_part) (sym (append-nil (concat ps))) ∙ cut_good ps [] good ∙ append-nil ps))

suffix_len_push : (xs : List ℕ) (x : ℕ) → suffix_len is_blank (xs ++ x ∷ []) ≡ cond (is_blank x) (1 + suffix_len is_blank xs) 0
suffix_len_push xs x = ap (prefix_len is_blank) (reverse-append xs (x ∷ []))

pub after_other : (xs : List ℕ) (x : ℕ) → is_blank x ≡ false → without_blanks_after (xs ++ x ∷ []) ≡ xs ++ x ∷ []
after_other xs x e =
    let none : suffix_len is_blank (xs ++ x ∷ []) ≡ 0 = suffix_len_push xs x ∙ rw e refl in
    let all : length (xs ++ x ∷ []) - suffix_len is_blank (xs ++ x ∷ []) ≡ length (xs ++ x ∷ []) = omega (arith, none) in
    ap (λ n. take n (xs ++ x ∷ [])) all ∙ take-length (xs ++ x ∷ [])

after_blank : (xs : List ℕ) (x : ℕ) → is_blank x ≡ true → without_blanks_after (xs ++ x ∷ []) ≡ without_blanks_after xs
after_blank xs x e =
    let more : suffix_len is_blank (xs ++ x ∷ []) ≡ 1 + suffix_len is_blank xs = suffix_len_push xs x ∙ rw e refl in
    let left : length (xs ++ x ∷ []) - suffix_len is_blank (xs ++ x ∷ []) ≡ length xs - suffix_len is_blank xs =
    omega (arith, more, length-append xs (x ∷ [])) in
    ap (λ n. take n (xs ++ x ∷ [])) left ∙ take-append-le (length xs - suffix_len is_blank xs) xs (x ∷ []) (omega arith)

pub ends_last : (xs : List ℕ) (x d : ℕ) → ends_with nat_eq (xs ++ x ∷ []) (d ∷ []) ≡ (d == x)
ends_last xs x d =
    let at : length (xs ++ x ∷ []) - 1 ≡ length xs = omega (arith, length-append xs (x ∷ [])) in
    ap (λ n. pointwise nat_eq (d ∷ []) (drop n (xs ++ x ∷ []))) at ∙ ap (pointwise nat_eq (d ∷ [])) (drop-append_seam xs (x ∷ [])) ∙ both (d == x)
  where
    both : (t : Bool) → (t && true) ≡ t
    both true = refl
    both false = refl

-- these bytes are continued, and what they give to their line
abbrev pub continued_code : List ℕ → Bool
continued_code code = ends_with nat_eq (without_blanks_after code) (38 ∷ [])

abbrev pub body_of : List ℕ → List ℕ
body_of code = if continued_code code then take (length (without_blanks_after code) - 1) code else code

abbrev pub rest_of : List ℕ → List ℕ
rest_of body = if starts_with nat_eq (without_blanks body) (38 ∷ []) then drop 1 (without_blanks body) else body

pub continued_last : (xs : List ℕ) (x : ℕ) → is_blank x ≡ false → continued_code (xs ++ x ∷ []) ≡ (38 == x)
continued_last xs x e = ap (λ l. ends_with nat_eq l (38 ∷ [])) (after_other xs x e) ∙ ends_last xs x 38

continued_reverse : (r : List ℕ) → continued_code (reverse r) ≡ leads r
continued_reverse [] = refl
continued_reverse (b ∷ r) = step (is_blank b) refl (continued_reverse r)
  where
    turned : reverse (b ∷ r) ≡ reverse r ++ b ∷ []
    turned = reverse-append (b ∷ []) r

    step : (t : Bool) → is_blank b ≡ t → continued_code (reverse r) ≡ leads r → continued_code (reverse (b ∷ r)) ≡ leads (b ∷ r)
    step true t after =
        ap continued_code turned ∙ ap (λ l. ends_with nat_eq l (38 ∷ [])) (after_blank (reverse r) b t) ∙ after ∙ sym (leads_blank b r t)
    step false t after = ap continued_code turned ∙ continued_last (reverse r) b t ∙ sym (leads_other b r t)

pub continued_good : (ps : List (List ℕ)) → AreGood ps → continued_code (concat ps) ≡ false
continued_good ps good =
    ap continued_code (sym (reverse-reverse (concat ps))) ∙ continued_reverse (reverse (concat ps)) ∙ ends_good ps good

pub body_ampersand : (xs : List ℕ) → body_of (xs ++ 38 ∷ []) ≡ xs
body_ampersand xs =
    let whole = xs ++ 38 ∷ [] in
    let long : length (without_blanks_after whole) - 1 ≡ length xs = omega (arith, ap length (after_other xs 38 refl), length-append xs (38 ∷ [])) in
    ap (λ t. if t then take (length (without_blanks_after whole) - 1) whole else whole) (continued_last xs 38 refl)
    ∙ ap (λ n. take n whole) long ∙ take-append_seam xs (38 ∷ [])

pub body_semicolon : (xs : List ℕ) → body_of (xs ++ 59 ∷ []) ≡ xs ++ 59 ∷ []
body_semicolon xs =
    let whole = xs ++ 59 ∷ [] in
    ap (λ t. if t then take (length (without_blanks_after whole) - 1) whole else whole) (continued_last xs 59 refl)

pub body_good : (ps : List (List ℕ)) → AreGood ps → body_of (concat ps) ≡ concat ps
body_good ps good =
    let whole = concat ps in
    ap (λ t. if t then take (length (without_blanks_after whole) - 1) whole else whole) (continued_good ps good)

pub rest_good : (ps : List (List ℕ)) → AreGood ps → rest_of (concat ps) ≡ concat ps
rest_good ps good =
    let whole = concat ps in
    ap (λ t. if t then drop 1 (without_blanks whole) else whole) (leads_good ps good)

-- what the proofs ask of what stands on a line
pub record IsSound (code : List ℕ) : Type 0 where
  pub ps : List (List ℕ)
  pub good : AreGood ps
  pub whole : code ≡ concat ps

pub statement_code : (continues : Bool) (ps : List (List ℕ)) (continued : Bool) → AreGood ps
    → code_of (free_statement continues (concat ps) continued) ≡ free_statement continues (concat ps) continued
statement_code true ps true good = code-both 38 ps 38 plain_ampersand good plain_ampersand
statement_code true ps false good = code-both 38 ps 59 plain_ampersand good plain_semicolon
statement_code false ps true good = code-both 59 ps 38 plain_semicolon good plain_ampersand
statement_code false ps false good = code-both 59 ps 59 plain_semicolon good plain_semicolon

statement_continued : (continues : Bool) (c : List ℕ) (continued : Bool) → continued_code (free_statement continues c continued) ≡ continued
statement_continued true c true = continued_last (38 ∷ c) 38 refl
statement_continued true c false = continued_last (38 ∷ c) 59 refl
statement_continued false c true = continued_last (59 ∷ c) 38 refl
statement_continued false c false = continued_last (59 ∷ c) 59 refl

statement_first : (c : List ℕ) (continued : Bool) → body_of (free_statement false c continued) ≡ (59 ∷ []) ++ (c ++ closing Statement continued)
statement_first c true = body_ampersand (59 ∷ c) ∙ ap (λ l. 59 ∷ l) (sym (append-nil c))
statement_first c false = body_semicolon (59 ∷ c)

statement_next : (c : List ℕ) (continued : Bool) → rest_of (body_of (free_statement true c continued)) ≡ c ++ closing Statement continued
statement_next c true = ap rest_of (body_ampersand (38 ∷ c)) ∙ sym (append-nil c)
statement_next c false = ap rest_of (body_semicolon (38 ∷ c))

statement_kept : (continues : Bool) (c : List ℕ) (continued : Bool) (number : ℕ) (bytes : List ℕ)
    → free_logical.lines_of_kind (physical_kind logical.Statement (free_statement continues c continued)) number bytes
    ≡ free_logical.lines_of_kind (physical_kind logical.Statement (59 ∷ [])) number bytes
statement_kept true c continued number bytes = refl
statement_kept false c continued number bytes = refl

statement_stands : (continues : Bool) (c : List ℕ) (continued : Bool) → free_breaches.is_passed (physical_kind logical.Statement (free_statement continues c continued)) ≡ false
statement_stands true c continued = refl
statement_stands false c continued = refl

statement_like : (continues : Bool) (c : List ℕ) (continued : Bool)
    → physical_kind logical.Statement (free_statement continues c continued) ≡ physical_kind logical.Statement (59 ∷ [])
statement_like true c continued = refl
statement_like false c continued = refl

-- a line of statements in free form
statement_ready : (number : ℕ) (continues bad : Bool) (ps : List (List ℕ)) (continued : Bool) → AreGood ps
    → IsReady (record { number = number; kind = Statement; continues = continues; code = concat ps; bad = bad }) continued
statement_ready number true bad ps continued good =
    let e = statement_code true ps continued good in record {
      kept = λ n bytes. ap (λ l. free_logical.lines_of_kind (physical_kind logical.Statement l) n bytes) e ∙ statement_kept true (concat ps) continued n bytes;
      goes = ap continued_code e ∙ statement_continued true (concat ps) continued;
      first = λ no. absurd (false≢true (sym no));
      next = λ yes. ap (λ l. rest_of (body_of l)) e ∙ statement_next (concat ps) continued;
      splits = splits_good ps good;
      stands = ap (λ l. free_breaches.is_passed (physical_kind logical.Statement l)) e ∙ statement_stands true (concat ps) continued;
      like = ap (physical_kind logical.Statement) e ∙ statement_like true (concat ps) continued;
    }
statement_ready number false bad ps continued good =
    let e = statement_code false ps continued good in record {
      kept = λ n bytes. ap (λ l. free_logical.lines_of_kind (physical_kind logical.Statement l) n bytes) e ∙ statement_kept false (concat ps) continued n bytes;
      goes = ap continued_code e ∙ statement_continued false (concat ps) continued;
      first = λ no. ap body_of e ∙ statement_first (concat ps) continued;
      next = λ yes. absurd (false≢true yes);
      splits = splits_good ps good;
      stands = ap (λ l. free_breaches.is_passed (physical_kind logical.Statement l)) e ∙ statement_stands false (concat ps) continued;
      like = ap (physical_kind logical.Statement) e ∙ statement_like false (concat ps) continued;
    }

pub directive_code : (ps : List (List ℕ)) (continued : Bool) → AreGood ps → code_of (free_directive (concat ps) continued) ≡ free_directive (concat ps) continued
directive_code ps true good = code-end ps 38 good plain_ampersand
directive_code ps false good = code-alone ps good

directive_continued : (ps : List (List ℕ)) (continued : Bool) → AreGood ps → continued_code (free_directive (concat ps) continued) ≡ continued
directive_continued ps true good = continued_last (concat ps) 38 refl
directive_continued ps false good = continued_good ps good

directive_body : (ps : List (List ℕ)) (continued : Bool) → AreGood ps → body_of (free_directive (concat ps) continued) ≡ concat ps
directive_body ps true good = body_ampersand (concat ps)
directive_body ps false good = body_good ps good

-- a line of a directive in free form
directive_ready : (number : ℕ) (continues bad : Bool) (ps : List (List ℕ)) (continued : Bool) → AreGood ps
    → IsReady (record { number = number; kind = Directive; continues = continues; code = concat ps; bad = bad }) continued
directive_ready number continues bad ps continued good =
    let e = directive_code ps continued good in
    let given = ap body_of e ∙ directive_body ps continued good in record {
      kept = λ n bytes. refl;
      goes = ap continued_code e ∙ directive_continued ps continued good;
      first = λ starts. given ∙ sym (append-nil (concat ps));
      next = λ goes. ap rest_of given ∙ rest_good ps good ∙ sym (append-nil (concat ps));
      splits = splits_good ps good;
      stands = refl;
      like = refl;
    }

pub ready : (x : FixedLine) (continued : Bool) → (x.kind ≡ Passed → ⊥) → IsSound x.code → IsReady x continued
ready x continued stands sound = step x.kind x.code sound.whole stands
  where
    step : (kind : FixedKind) (code : List ℕ) → code ≡ concat sound.ps → (kind ≡ Passed → ⊥)
        → IsReady (record { number = x.number; kind = kind; continues = x.continues; code = code; bad = x.bad }) continued
    step Passed code whole stands = absurd (stands refl)
    step Statement code whole stands =
        subst (λ c. IsReady (record { number = x.number; kind = Statement; continues = x.continues; code = c; bad = x.bad }) continued) (sym whole)
        (statement_ready x.number x.continues x.bad sound.ps continued sound.good)
    step Directive code whole stands =
        subst (λ c. IsReady (record { number = x.number; kind = Directive; continues = x.continues; code = c; bad = x.bad }) continued) (sym whole)
        (directive_ready x.number x.continues x.bad sound.ps continued sound.good)
