-- The first line of a text, and the lines of what is after it.
use Rattle.std.proofs.Common.{◌≡◌, ◌≢◌, ℕ, suc, ◌+◌, ◌<◌, ◌≤◌, Bool, true, false, List, [], ◌∷◌, length, take, drop, Option, Some, None, refl, ap, one-add, add-one, arith}
use Rattle.std.specs.Prelude.{◌==◌, nat_lt, if◌then◌else◌}
use Rattle.std.specs.List.{position, position_or_len}
use Rattle.std.proofs.lemmas.Bool.{ltb-true, ltb-false}
use Rattle.hpf_base.specs.Text.{lines_of, longer_first}

abbrev break : List ℕ → ℕ
break text = position_or_len (λ b. b == 10) text

abbrev found_break : List ℕ → Option ℕ
found_break text = position (λ b. b == 10) text

line_at_break : (text : List ℕ) → break text < length text → lines_of text ≡ take (break text) text ∷ lines_of (drop (break text + 1) text)
line_at_break [] lt = absurd (omega arith)
line_at_break (b ∷ text) lt = step (b == 10) refl lt (line_at_break text)
  where
    step : (t : Bool) → (b == 10) ≡ t → break (b ∷ text) < suc (length text) → (break text < length text →
        lines_of text ≡ take (break text) text ∷ lines_of (drop (break text + 1) text)) →
        lines_of (b ∷ text) ≡ take (break (b ∷ text)) (b ∷ text) ∷ lines_of (drop (break (b ∷ text) + 1) (b ∷ text))
    step true e lt ih = rw e refl
    step false e lt ih =
        let lt' = rw e at lt in
        let first : lines_of text ≡ take (break text) text ∷ lines_of (drop (break text + 1) text) = ih (omega arith) in
        rw (e, first, one-add, add-one (break text), add-one (suc (break text))) refl

last_line : (b : ℕ) (text : List ℕ) → length (b ∷ text) ≤ break (b ∷ text) → lines_of (b ∷ text) ≡ (b ∷ text) ∷ []
last_line b [] le = step (b == 10) refl le
  where
    step : (t : Bool) → (b == 10) ≡ t → length (b ∷ []) ≤ break (b ∷ []) → lines_of (b ∷ []) ≡ (b ∷ []) ∷ []
    step true e le = let le' = rw e at le in absurd (omega arith)
    step false e le = rw e refl
last_line b (c ∷ text) le = step (b == 10) refl le (last_line c text)
  where
    step : (t : Bool) → (b == 10) ≡ t → length (b ∷ c ∷ text) ≤ break (b ∷ c ∷ text) → (length (c ∷ text) ≤ break (c ∷ text) → lines_of (c ∷ text) ≡ (c ∷ text) ∷ []) →
        lines_of (b ∷ c ∷ text) ≡ (b ∷ c ∷ text) ∷ []
    step true e le ih = let le' = rw e at le in absurd (omega arith)
    step false e le ih =
        let le' = rw e at le in
        let rest : lines_of (c ∷ text) ≡ (c ∷ text) ∷ [] = ih (omega arith) in
        rw e (ap (longer_first b) rest)

break_found : (text : List ℕ) (end : ℕ) → Some end ≡ found_break text → (end ≡ break text) × (break text < length text)
break_found text end e = step (nat_lt (break text) (length text)) refl e
  where
    step : (t : Bool) → nat_lt (break text) (length text) ≡ t → Some end ≡ (if t then Some (break text) else None) → (end ≡ break text) × (break text < length text)
    step true t e = (cc, ltb-true _ _ t)
    step false t e = absurd cc

pub line_before : (text : List ℕ) (end : ℕ) → Some end ≡ found_break text → lines_of text ≡ take end text ∷ lines_of (drop (end + 1) text)
line_before text end e = let f = break_found text end e in rw f.0 (line_at_break text f.1)

pub line_without : (text : List ℕ) → length text ≢ 0 → None ≡ found_break text → lines_of text ≡ text ∷ []
line_without [] ne e = absurd (ne refl)
line_without (b ∷ text) ne e = last_line b text (step (nat_lt (break (b ∷ text)) (length (b ∷ text))) refl e)
  where
    step : (t : Bool) → nat_lt (break (b ∷ text)) (length (b ∷ text)) ≡ t → None ≡ (if t then Some (break (b ∷ text)) else None) → length (b ∷ text) ≤ break (b ∷ text)
    step true t e = absurd cc
    step false t e = ltb-false _ _ t
