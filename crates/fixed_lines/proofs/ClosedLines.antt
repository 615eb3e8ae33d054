-- Lines with each directive closed up, line by line from the last.
use Rattle.std.proofs.Common.{◌≡◌, ℕ, zero, suc, ◌+◌, ◌<◌, ◌≤◌, Bool, true, false, cond, List, [], ◌∷◌, ◌++◌, length, take, drop, get_or, one-add, refl, sym, ap, ◌∙◌, append_assoc, arith}
use Rattle.std.specs.Prelude.{◌&&◌, not}
use Rattle.std.specs.List.{flat_map, list_all, prefix_len}
use Rattle.std.proofs.lemmas.Bool.{false≢true}
use Rattle.std.proofs.lemmas.List.{drop_more, length-drop, take-append-drop}
use Rattle.source_lines.specs.PhysicalLines.{is_blank}
use Rattle.source_lines.proofs.Cuts.{cut-first, cut-head}
use Rattle.fixed_lines.specs.declared.kind.FixedKind.{FixedKind}
use Rattle.fixed_lines.specs.declared.kind.FixedKind.TheVariants.{Passed, Statement, Directive}
use Rattle.fixed_lines.specs.FixedLines.{FixedLine}
use Rattle.fixed_lines.specs.FixedBreaches.{is_directive, standing}
use Rattle.fixed_lines.specs.FixedLogicalLines.{is_blank_directive}
use Rattle.fixed_lines.specs.FreeText.{blank_left, closed_directive, closed_up, contents, continues_directive, directive_len, first_continues, with_code, with_codes}

-- a blank directive line before closed lines: what stands on those that continue its directive moves up by a line
abbrev pub raised : FixedLine → List FixedLine → List FixedLine
raised x [] = blank_left x.continues x ∷ []
raised x (y ∷ ys) = cond (continues_directive y) (with_code y.code x ∷ raised y ys) (blank_left x.continues x ∷ y ∷ ys)

abbrev pub closed_lines : List FixedLine → List FixedLine
closed_lines [] = []
closed_lines (x ∷ xs) = cond (is_blank_directive x) (raised x (closed_lines xs)) (x ∷ closed_lines xs)

-- the first of these lines continues a directive
abbrev pub begins : List FixedLine → Bool
begins [] = false
begins (x ∷ xs) = continues_directive x

-- the first of these lines that stands continues
abbrev pub continued : List FixedLine → Bool
continued xs = first_continues (standing xs)

pub raised_next : (x y : FixedLine) (ys : List FixedLine) → continues_directive y ≡ true → raised x (y ∷ ys) ≡ with_code y.code x ∷ raised y ys
raised_next x y ys t = ap (λ t. cond t (with_code y.code x ∷ raised y ys) (blank_left x.continues x ∷ y ∷ ys)) t

pub raised_end : (x y : FixedLine) (ys : List FixedLine) → continues_directive y ≡ false → raised x (y ∷ ys) ≡ blank_left x.continues x ∷ y ∷ ys
raised_end x y ys t = ap (λ t. cond t (with_code y.code x ∷ raised y ys) (blank_left x.continues x ∷ y ∷ ys)) t

pub closed_blank : (x : FixedLine) (xs : List FixedLine) → is_blank_directive x ≡ true → closed_lines (x ∷ xs) ≡ raised x (closed_lines xs)
closed_blank x xs t = ap (λ t. cond t (raised x (closed_lines xs)) (x ∷ closed_lines xs)) t

pub closed_other : (x : FixedLine) (xs : List FixedLine) → is_blank_directive x ≡ false → closed_lines (x ∷ xs) ≡ x ∷ closed_lines xs
closed_other x xs t = ap (λ t. cond t (raised x (closed_lines xs)) (x ∷ closed_lines xs)) t

pub both-true : (a b : Bool) → (a && b) ≡ true → (a ≡ true) × (b ≡ true)
both-true true b e = (refl, e)
both-true false b e = absurd (false≢true e)

pub is_kind : (k : FixedKind) → is_directive k ≡ true → k ≡ Directive
is_kind Passed e = absurd (false≢true e)
is_kind Statement e = absurd (false≢true e)
is_kind Directive e = refl

pub blank_kind : (x : FixedLine) → is_blank_directive x ≡ true → x.kind ≡ Directive
blank_kind x t = is_kind x.kind (both-true (is_directive x.kind) (list_all is_blank x.code) t).0

pub other_kind : (x : FixedLine) → is_directive x.kind ≡ false → is_blank_directive x ≡ false
other_kind x e = ap (λ t. t && list_all is_blank x.code) e

pub full_code : (x : FixedLine) → x.kind ≡ Directive → is_blank_directive x ≡ false → list_all is_blank x.code ≡ false
full_code x kind t = sym (ap (λ k. is_directive k && list_all is_blank x.code) kind) ∙ t

-- a directive line that is left blank continues none
pub blank_ends : (x : FixedLine) → continues_directive (blank_left x.continues x) ≡ false
blank_ends x = step x.continues refl
  where
    step : (t : Bool) → x.continues ≡ t → continues_directive (blank_left t x) ≡ false
    step true t = refl
    step false t = ap (λ t. t && is_directive x.kind) t

raised_starts : (x : FixedLine) (ys : List FixedLine) → continues_directive x ≡ false → begins (raised x ys) ≡ false
raised_starts x [] e = blank_ends x
raised_starts x (y ∷ ys) e = step (continues_directive y) refl
  where
    step : (t : Bool) → continues_directive y ≡ t → begins (raised x (y ∷ ys)) ≡ false
    step true t = ap begins (raised_next x y ys t) ∙ e
    step false t = ap begins (raised_end x y ys t) ∙ blank_ends x

closed_starts : (xs : List FixedLine) → begins xs ≡ false → begins (closed_lines xs) ≡ false
closed_starts [] e = refl
closed_starts (x ∷ xs) e = step (is_blank_directive x) refl
  where
    step : (t : Bool) → is_blank_directive x ≡ t → begins (closed_lines (x ∷ xs)) ≡ false
    step true t = ap begins (closed_blank x xs t) ∙ raised_starts x (closed_lines xs) e
    step false t = ap begins (closed_other x xs t) ∙ e

-- all of these lines continue a directive
abbrev AreContinuing : List FixedLine → Type 0
AreContinuing [] = Unit {0}
AreContinuing (x ∷ xs) = (continues_directive x ≡ true) × AreContinuing xs

codes_again : (c : List ℕ) (x : FixedLine) (xs : List FixedLine) (cs : List (List ℕ)) → x.continues ≡ true
    → with_codes (with_code c x ∷ xs) cs ≡ with_codes (x ∷ xs) cs
codes_again c x xs [] goes = ap (λ t. blank_left t (with_code c x) ∷ with_codes xs []) goes ∙ ap (λ t. blank_left t x ∷ with_codes xs []) (sym goes)
codes_again c x xs (d ∷ cs) goes = refl

raised_codes : (x : FixedLine) (xs : List FixedLine) (cs : List (List ℕ)) (rest : List FixedLine) → AreContinuing xs → length cs ≤ length xs → begins rest ≡ false
    → raised x (with_codes xs cs ++ rest) ≡ with_codes (x ∷ xs) cs ++ rest
raised_codes x [] [] [] all within end = refl
raised_codes x [] [] (r ∷ rest) all within end = raised_end x r rest end
raised_codes x [] (c ∷ cs) rest all within end = absurd (omega arith)
raised_codes x (y ∷ xs) [] rest all within end = raised_end x (blank_left y.continues y) (with_codes xs [] ++ rest) (blank_ends y)
raised_codes x (y ∷ xs) (c ∷ cs) rest all within end =
    raised_next x (with_code c y) (with_codes xs cs ++ rest) all.0
    ∙ ap (λ l. with_code c x ∷ l) (raised_codes (with_code c y) xs cs rest all.1 (omega arith) end ∙ ap (λ l. l ++ rest) (codes_again c y xs cs (both-true y.continues (is_directive y.kind) all.0).0))

length-contents : (xs : List FixedLine) → length (contents xs) ≤ length xs
length-contents [] = omega arith
length-contents (x ∷ xs) = step (list_all is_blank x.code) (length-contents xs)
  where
    step : (t : Bool) → length (contents xs) ≤ length xs → length (cond (not t) (x.code ∷ contents xs) (contents xs)) ≤ length (x ∷ xs)
    step true within = omega (arith, within)
    step false within = omega (arith, within)

pub contents_blank : (x : FixedLine) (xs : List FixedLine) → list_all is_blank x.code ≡ true → contents (x ∷ xs) ≡ contents xs
contents_blank x xs t = ap (λ t. cond (not t) (x.code ∷ contents xs) (contents xs)) t

pub contents_full : (x : FixedLine) (xs : List FixedLine) → list_all is_blank x.code ≡ false → contents (x ∷ xs) ≡ x.code ∷ contents xs
contents_full x xs t = ap (λ t. cond (not t) (x.code ∷ contents xs) (contents xs)) t

closed_first : (x : FixedLine) (xs rest : List FixedLine) → x.kind ≡ Directive → AreContinuing xs → begins rest ≡ false
    → closed_lines (xs ++ rest) ≡ with_codes xs (contents xs) ++ closed_lines rest
    → closed_lines ((x ∷ xs) ++ rest) ≡ with_codes (x ∷ xs) (contents (x ∷ xs)) ++ closed_lines rest
closed_first x xs rest kind all end after = step (list_all is_blank x.code) refl
  where
    blank : (t : Bool) → list_all is_blank x.code ≡ t → is_blank_directive x ≡ t
    blank t e = ap (λ k. is_directive k && list_all is_blank x.code) kind ∙ e

    step : (t : Bool) → list_all is_blank x.code ≡ t → closed_lines ((x ∷ xs) ++ rest) ≡ with_codes (x ∷ xs) (contents (x ∷ xs)) ++ closed_lines rest
    step true t =
        closed_blank x (xs ++ rest) (blank true t) ∙ ap (raised x) after
        ∙ raised_codes x xs (contents xs) (closed_lines rest) all (length-contents xs) (closed_starts rest end)
        ∙ ap (λ l. with_codes (x ∷ xs) l ++ closed_lines rest) (sym (contents_blank x xs t))
    step false t =
        closed_other x (xs ++ rest) (blank false t) ∙ ap (λ l. x ∷ l) after
        ∙ ap (λ l. with_codes (x ∷ xs) l ++ closed_lines rest) (sym (contents_full x xs t))

closed_all : (xs rest : List FixedLine) → AreContinuing xs → begins rest ≡ false → closed_lines (xs ++ rest) ≡ with_codes xs (contents xs) ++ closed_lines rest
closed_all [] rest all end = refl
closed_all (x ∷ xs) rest all end =
    closed_first x xs rest (is_kind x.kind (both-true x.continues (is_directive x.kind) all.0).1) all.1 end (closed_all xs rest all.1 end)

taken : (xs : List FixedLine) → AreContinuing (take (prefix_len continues_directive xs) xs)
taken [] = tt
taken (x ∷ xs) = step (continues_directive x) refl (taken xs)
  where
    step : (t : Bool) → continues_directive x ≡ t → AreContinuing (take (prefix_len continues_directive xs) xs)
        → AreContinuing (take (cond t (1 + prefix_len continues_directive xs) 0) (x ∷ xs))
    step true t after = rw (one-add (prefix_len continues_directive xs)) (t, after)
    step false t after = tt

stopped : (xs : List FixedLine) → begins (drop (prefix_len continues_directive xs) xs) ≡ false
stopped [] = refl
stopped (x ∷ xs) = step (continues_directive x) refl (stopped xs)
  where
    step : (t : Bool) → continues_directive x ≡ t → begins (drop (prefix_len continues_directive xs) xs) ≡ false
        → begins (drop (cond t (1 + prefix_len continues_directive xs) 0) (x ∷ xs)) ≡ false
    step true t after = rw (one-add (prefix_len continues_directive xs)) after
    step false t after = t

closed_within : (bound : ℕ) (xs : List FixedLine) → length xs ≤ bound → closed_up xs ≡ closed_lines xs
closed_within bound [] within = refl
closed_within zero (x ∷ xs) within = absurd (omega arith)
closed_within (suc bound) (x ∷ xs) within = step (is_directive x.kind) refl (λ ys short. closed_within bound ys short)
  where
    n : ℕ
    n = prefix_len continues_directive xs

    step : (t : Bool) → is_directive x.kind ≡ t → ((ys : List FixedLine) → length ys ≤ bound → closed_up ys ≡ closed_lines ys) → closed_up (x ∷ xs) ≡ closed_lines (x ∷ xs)
    step true t same =
        let rest = drop n xs in
        ap (flat_map closed_directive) (cut-head directive_len x xs n (ap (λ t. cond t (n + 1) 1) t))
        ∙ ap (λ t. cond t (with_codes (x ∷ take n xs) (contents (x ∷ take n xs))) (x ∷ []) ++ closed_up rest) t
        ∙ ap (λ l. with_codes (x ∷ take n xs) (contents (x ∷ take n xs)) ++ l) (same rest (omega (arith, length-drop n xs, within)))
        ∙ sym (closed_first x (take n xs) rest (is_kind x.kind t) (taken xs) (stopped xs) (closed_all (take n xs) rest (taken xs) (stopped xs)))
        ∙ ap (λ l. closed_lines (x ∷ l)) (take-append-drop n xs)
    step false t same =
        ap (flat_map closed_directive) (cut-head directive_len x xs 0 (ap (λ t. cond t (n + 1) 1) t))
        ∙ ap (λ t. cond t (with_codes (x ∷ []) (contents (x ∷ []))) (x ∷ []) ++ closed_up xs) t
        ∙ ap (λ l. x ∷ l) (same xs (omega (arith, within)))
        ∙ sym (closed_other x xs (other_kind x t))

pub closed_same : (xs : List FixedLine) → closed_up xs ≡ closed_lines xs
closed_same xs = closed_within (length xs) xs (omega arith)

-- what is left of lines, an element on
pub rest_at : (lines : List FixedLine) (i : ℕ) (y : FixedLine) → i < length lines → y ≡ get_or lines i y → drop i lines ≡ y ∷ drop (i + 1) lines
rest_at lines i y within at = drop_more lines i y within ∙ ap (λ x. x ∷ drop (i + 1) lines) (sym at)

-- a line more in its place
pub code_pushed : (before lines : List FixedLine) (place : ℕ) (y : FixedLine) (c : List ℕ) (cs : List (List ℕ)) → place < length lines → y ≡ get_or lines place y
    → (before ++ with_code c y ∷ []) ++ with_codes (drop (place + 1) lines) cs ≡ before ++ with_codes (drop place lines) (c ∷ cs)
code_pushed before lines place y c cs within at =
    append_assoc before (with_code c y ∷ []) (with_codes (drop (place + 1) lines) cs)
    ∙ ap (λ l. before ++ with_codes l (c ∷ cs)) (sym (rest_at lines place y within at))

-- lines closed up, the first directive first
pub first_closed : (lines : List FixedLine) (n : ℕ) → n ≡ directive_len lines → n ≤ length lines
    → closed_up lines ≡ closed_directive (take n lines) ++ closed_up (drop n lines)
first_closed [] zero is within = refl
first_closed [] (suc n) is within = absurd (omega arith)
first_closed (x ∷ xs) n is within = ap (flat_map closed_directive) (cut-first directive_len (x ∷ xs) n (sym is) some within)
  where
    len : (t : Bool) → 1 ≤ cond t (prefix_len continues_directive xs + 1) 1
    len true = omega arith
    len false = omega arith

    some : 1 ≤ n
    some = omega (arith, is, len (is_directive x.kind))
