-- The parts of bytes, one by one.
use Rattle.std.proofs.Common.{◌≡◌, ℕ, zero, suc, ◌+◌, ◌-◌, ◌≤◌, Bool, true, false, List, [], ◌∷◌, length, take, drop, refl, ap, ◌∙◌, arith, min}
use Rattle.std.specs.Prelude.{◌==◌, not, filter, if◌then◌else◌}
use Rattle.std.specs.List.{prefix_len}
use Rattle.std.proofs.lemmas.List.{drop_all}
use Rattle.source_lines.specs.Cut.{cut}
use Rattle.source_lines.specs.PhysicalLines.{first_part, is_delimiter, is_comment, parts}
use Rattle.source_lines.proofs.Cuts.{cut-first, cut_after-drop}

-- a part stays within its bytes
pub first_part-within : (bytes : List ℕ) → first_part bytes ≤ length bytes
first_part-within [] = omega arith
first_part-within (b ∷ bytes) = step (is_delimiter b) (b == 33)
  where
    step : (delimiter comment : Bool)
        → (if delimiter then 1 + min (length bytes) (prefix_len (λ c. not (c == b)) bytes + 1) else if comment then 1 + length bytes else 1)
        ≤ length (b ∷ bytes)
    step true comment = omega arith
    step false true = omega arith
    step false false = omega arith

-- a part takes at least one byte
pub first_part-some : (b : ℕ) (bytes : List ℕ) → 1 ≤ first_part (b ∷ bytes)
first_part-some b bytes = step (is_delimiter b) (b == 33)
  where
    step : (delimiter comment : Bool) → 1 ≤ (if delimiter then 1 + min (length bytes) (prefix_len (λ c. not (c == b)) bytes + 1) else if comment then 1 + length bytes else 1)
    step true comment = omega arith
    step false true = omega arith
    step false false = omega arith

-- the part at the front, and the parts of the bytes after it
pub cut-part : (b : ℕ) (bytes : List ℕ)
    → cut first_part (b ∷ bytes) ≡ take (first_part (b ∷ bytes)) (b ∷ bytes) ∷ cut first_part (drop (first_part (b ∷ bytes)) (b ∷ bytes))
cut-part b bytes = cut-first first_part (b ∷ bytes) (first_part (b ∷ bytes)) refl (first_part-some b bytes) (first_part-within (b ∷ bytes))

comment_alone : (bytes : List ℕ) → parts (33 ∷ bytes) ≡ []
comment_alone bytes =
    let e : 1 + length bytes - 1 ≡ length bytes = omega arith in
    rw (cut_after-drop first_part bytes (1 + length bytes - 1)) (rw e (rw (drop_all (length bytes) bytes (omega arith)) refl))

-- after the beginning of a comment nothing stands
pub parts-comment : (b : ℕ) (bytes : List ℕ) → b ≡ 33 → parts (b ∷ bytes) ≡ []
parts-comment b bytes e = ap (λ (c : ℕ). parts (c ∷ bytes)) e ∙ comment_alone bytes

-- a part that is no comment stands, and after it stand the parts of the bytes after it
pub parts-part : (b : ℕ) (bytes : List ℕ) → (b == 33) ≡ false
    → parts (b ∷ bytes) ≡ take (first_part (b ∷ bytes)) (b ∷ bytes) ∷ parts (drop (first_part (b ∷ bytes)) (b ∷ bytes))
parts-part b bytes e = step (first_part (b ∷ bytes)) (first_part-some b bytes) (cut-part b bytes)
  where
    step : (n : ℕ) → 1 ≤ n → cut first_part (b ∷ bytes) ≡ take n (b ∷ bytes) ∷ cut first_part (drop n (b ∷ bytes))
        → filter (λ part. not (is_comment part)) (cut first_part (b ∷ bytes)) ≡ take n (b ∷ bytes) ∷ filter (λ part. not (is_comment part)) (cut first_part (drop n (b ∷ bytes)))
    step zero some cuts = absurd (omega arith)
    step (suc n) some cuts = ap (λ (l : List (List ℕ)). filter (λ part. not (is_comment part)) l) cuts ∙ (rw e refl)
