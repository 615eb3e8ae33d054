-- Texts of digits, and grids of them.
use Rattle.std.proofs.Common.{◌≡◌, ◌∙◌, ◌<◌, ◌≤◌, ◌^◌, ◌+◌, ℕ, List, [], ◌∷◌, ◌++◌, Option, Some, None, Bool, true, false, refl, sym, ap, arith, ◌⊎◌, inl, inr, option_map, Result, Err, append_assoc, append-nil, length, map, drop, suc, get_or, drop-cons, drop_of_length-le, ap₂}
use Rattle.std.specs.Borrow.{Bor}
use Rattle.std.specs.Prelude.{◌&&◌, nat_le, if◌then◌else◌, option_and_then}
use Rattle.std.proofs.lemmas.Bool.{le-leb, leb-true, cases_lt, and_parts}
use Rattle.std.proofs.lemmas.Str.Parse.{parse_gives}
use Rattle.std.specs.Str.{all_ascii_digits}
use Rattle.std.specs.Str.Parse.{digits_value, ParsesUnsigned}
use Rattle.hpf_base.proofs.Digits.{decimals}
use Rattle.hpf_base.specs.declared.limits.TheConstants.{MAX_NODES}
use Rattle.hpf_words.specs.Parts.{Text}
use Rattle.hpf_words.specs.Jobs.{has_digits, between, number_of, extents_of}

pub digits_only : (most : ℕ) (text : Text) → 1 ≤ length text → length text ≤ most → has_digits most text ≡ all_ascii_digits text
digits_only most text some few = ap (λ b. b && (nat_le (length text) most && all_ascii_digits text)) (le-leb 1 (length text) some)
    ∙ ap (λ b. b && all_ascii_digits text) (le-leb (length text) most few)

too_great : (least greatest n : ℕ) → greatest < n → None ≡ between least greatest n
too_great least greatest n past = go (nat_le least n) (nat_le n greatest) refl
  where
    go : (a b : Bool) → nat_le n greatest ≡ b → None ≡ (if a && b then Some n else None)
    go true true e =
        let le = leb-true n greatest e in
        absurd (omega arith)
    go true false e = refl
    go false b e = refl

-- where `parse` refuses digits, their number is past every bound
pub refused_digits : {E : Type 0} (most least greatest : ℕ) (text : Text) (r : Result ℕ E) (e : E) → has_digits most text ≡ true → ParsesUnsigned 32 10 text r → r ≡ Err e
    → greatest < 2 ^ 32 → None ≡ number_of most least greatest text
refused_digits most least greatest text r e form parses is fits =
    let parts = and_parts (nat_le 1 (length text)) _ form in
    let more = and_parts (nat_le (length text) most) _ parts.1 in
    let some = leb-true 1 (length text) parts.0 in
    sym (ap (λ b. if b then between least greatest (digits_value 10 text) else None) form ∙ sym (go some more.1 (cases_lt (digits_value 10 text) (2 ^ 32))))
  where
    go : 1 ≤ length text → all_ascii_digits text ≡ true → (digits_value 10 text < 2 ^ 32) ⊎ (2 ^ 32 ≤ digits_value 10 text) → None ≡ between least greatest (digits_value 10 text)
    go some digits (inl small) =
        let read = parse_gives decimals 32 text r parses digits some small in
        cc
    go some digits (inr past) = too_great least greatest (digits_value 10 text) (omega arith)

-- ---- a list of extents, one after the other

extents_next : (done : List ℕ) (text : Text) (rest : List Text) (n : ℕ) → Some n ≡ number_of 2 1 MAX_NODES text
    → option_map (λ ns. done ++ ns) (extents_of (text ∷ rest)) ≡ option_map (λ ns. (done ++ n ∷ []) ++ ns) (extents_of rest)
extents_next done text rest n is =
    ap (λ o. option_map (λ ns. done ++ ns) (option_and_then (λ n. option_map (λ ns. n ∷ ns) (extents_of rest)) o)) (sym is) ∙ go (extents_of rest)
  where
    go : (o : Option (List ℕ)) → option_map (λ ns. done ++ ns) (option_map (λ ns. n ∷ ns) o) ≡ option_map (λ ns. (done ++ n ∷ []) ++ ns) o
    go None = refl
    go (Some ns) = ap (λ l. Some l) (sym (append_assoc done (n ∷ []) ns))

pub extents_init : (xs : List Text) (done : List ℕ) → done ≡ [] → extents_of xs ≡ option_map (λ ns. done ++ ns) (extents_of xs)
extents_init xs done none = go (extents_of xs) ∙ ap (λ d. option_map (λ ns. d ++ ns) (extents_of xs)) (sym none)
  where
    go : (o : Option (List ℕ)) → o ≡ option_map (λ ns. [] ++ ns) o
    go None = refl
    go (Some ns) = refl

pub extents_step : (xs : List (Bor Text)) (i : ℕ) (d : Bor Text) (done more : List ℕ) (n : ℕ) → i < length xs → Some n ≡ number_of 2 1 MAX_NODES (get_or xs i d).now → more ≡ done ++ n ∷ []
    → option_map (λ ns. done ++ ns) (extents_of (map (λ s. s.now) (drop i xs))) ≡ option_map (λ ns. more ++ ns) (extents_of (map (λ s. s.now) (drop (i + 1) xs)))
extents_step xs i d done more n lt is new =
    let one : suc i ≡ i + 1 = omega arith in
    ap (λ ys. option_map (λ ns. done ++ ns) (extents_of (map (λ (s : Bor Text). s.now) ys))) (drop-cons xs i d lt)
    ∙ extents_next done (get_or xs i d).now (map (λ s. s.now) (drop (suc i) xs)) n is
    ∙ ap₂ (λ m k. option_map (λ ns. m ++ ns) (extents_of (map (λ (s : Bor Text). s.now) (drop k xs)))) (sym new) one

pub extents_halt : (xs : List (Bor Text)) (i : ℕ) (d : Bor Text) (done : List ℕ) → i < length xs → None ≡ number_of 2 1 MAX_NODES (get_or xs i d).now
    → option_map (λ ns. done ++ ns) (extents_of (map (λ s. s.now) (drop i xs))) ≡ None
extents_halt xs i d done lt is =
    let rest : List Text = map (λ s. s.now) (drop (suc i) xs) in
    ap (λ ys. option_map (λ ns. done ++ ns) (extents_of (map (λ (s : Bor Text). s.now) ys))) (drop-cons xs i d lt)
    ∙ ap (λ o. option_map (λ ns. done ++ ns) (option_and_then (λ n. option_map (λ ns. n ∷ ns) (extents_of rest)) o)) (sym is)

pub extents_end : (xs : List (Bor Text)) (i : ℕ) (done : List ℕ) → length xs ≤ i → option_map (λ ns. done ++ ns) (extents_of (map (λ s. s.now) (drop i xs))) ≡ Some done
extents_end xs i done past =
    ap (λ ys. option_map (λ ns. done ++ ns) (extents_of (map (λ (s : Bor Text). s.now) ys))) (drop_of_length-le xs past) ∙ ap (λ l. Some l) (append-nil done)
