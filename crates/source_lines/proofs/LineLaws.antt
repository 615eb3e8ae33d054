-- Pieces of a logical line, joined, and its statements, one by one.
use Rattle.std.proofs.Common.{◌≡◌, ℕ, zero, suc, ◌+◌, ◌<◌, ◌≤◌, Bool, true, false, List, [], ◌∷◌, ◌++◌, length, take, drop, get_or, Option, Some, None, Bor, refl, sym, ap, ◌∙◌, append_assoc, arith}
use Rattle.std.specs.Prelude.{◌==◌, bytes_eq, if◌then◌else◌}
use Rattle.std.specs.List.{join_with_byte}
use Rattle.std.proofs.Math.Seq.{take-add}
use Rattle.std.proofs.lemmas.List.{drop-drop, drop_more}
use Rattle.std.proofs.lemmas.Bool.{ne_eqb}
use Rattle.source_lines.specs.Cut.{cut}
use Rattle.source_lines.specs.PhysicalLines.{first_part}
use Rattle.source_lines.specs.LogicalLines.{between_semicolons, statements, together, with_part}
use Rattle.source_lines.proofs.PartLaws.{cut-part, first_part-some}

-- one piece more, with the byte in front
pub join_more : (byte : ℕ) (piece : List ℕ) (pieces : List (List ℕ)) (last : List ℕ)
    → join_with_byte byte (piece ∷ (pieces ++ last ∷ [])) ≡ join_with_byte byte (piece ∷ pieces) ++ (byte ∷ last)
join_more byte piece [] last = refl
join_more byte piece (next ∷ pieces) last =
    ap (λ l. piece ++ (byte ∷ l)) (join_more byte next pieces last) ∙ sym (append_assoc piece (byte ∷ join_with_byte byte (next ∷ pieces)) (byte ∷ last))

-- two parts in front of the first of some lists
pub with_two_parts : (part after : List ℕ) (lists : List (List ℕ)) → with_part part (with_part after lists) ≡ with_part (part ++ after) lists
with_two_parts part after [] = refl
with_two_parts part after (list ∷ lists) = ap (λ l. l ∷ lists) (sym (append_assoc part after list))

with_no_part : (part : List ℕ) (lists : List (List ℕ)) → with_part [] (with_part part lists) ≡ with_part part lists
with_no_part part [] = refl
with_no_part part (list ∷ lists) = refl

together_with_none : (parts : List (List ℕ)) → with_part [] (together parts) ≡ together parts
together_with_none [] = refl
together_with_none (part ∷ parts) = step (bytes_eq part (59 ∷ []))
  where
    step : (t : Bool) → with_part [] (if t then [] ∷ together parts else with_part part (together parts)) ≡ (if t then [] ∷ together parts else with_part part (together parts))
    step true = refl
    step false = with_no_part part (together parts)

-- before anything is seen
pub between-start : (bytes : List ℕ) → between_semicolons bytes ≡ with_part [] (between_semicolons bytes)
between-start bytes = sym (together_with_none (cut first_part bytes))

-- a part that isn't `;` belongs to the first statement
pub between-part : (b : ℕ) (bytes : List ℕ) → (b == 59) ≡ false
    → between_semicolons (b ∷ bytes) ≡ with_part (take (first_part (b ∷ bytes)) (b ∷ bytes)) (between_semicolons (drop (first_part (b ∷ bytes)) (b ∷ bytes)))
between-part b bytes e = step (first_part (b ∷ bytes)) (first_part-some b bytes) (cut-part b bytes)
  where
    step : (n : ℕ) → 1 ≤ n → cut first_part (b ∷ bytes) ≡ take n (b ∷ bytes) ∷ cut first_part (drop n (b ∷ bytes))
        → together (cut first_part (b ∷ bytes)) ≡ with_part (take n (b ∷ bytes)) (together (cut first_part (drop n (b ∷ bytes))))
    step zero some cuts = absurd (omega arith)
    step (suc n) some cuts = ap together cuts ∙ rw e refl

between-here : (bytes : List ℕ) (b : ℕ) (more : List ℕ) (n : ℕ) → bytes ≡ b ∷ more → (b ≡ 59 → ⊥) → n ≡ first_part bytes
    → between_semicolons bytes ≡ with_part (take n bytes) (between_semicolons (drop n bytes))
between-here bytes b more n is other part =
    let e = between-part b more (ne_eqb b 59 other) in
    rw (part, is) e

-- one part more in front of the first statement
pub between-more : (bytes : List ℕ) (done n : ℕ) → done < length bytes → (get_or bytes done 0 ≡ 59 → ⊥) → n ≡ first_part (drop done bytes)
    → between_semicolons bytes ≡ with_part (take done bytes) (between_semicolons (drop done bytes))
    → between_semicolons bytes ≡ with_part (take (done + n) bytes) (between_semicolons (drop (done + n) bytes))
between-more bytes done n within other part e =
    e ∙ ap (with_part (take done bytes)) (between-here (drop done bytes) (get_or bytes done 0) (drop (done + 1) bytes) n (drop_more bytes done 0 within) other part)
    ∙ with_two_parts (take done bytes) (take n (drop done bytes)) (between_semicolons (drop n (drop done bytes)))
    ∙ rw (take-add done n bytes, drop-drop n done bytes) refl

-- what is left to split
abbrev pub statements_left : Option (Bor (List ℕ)) → List (List ℕ)
statements_left None = []
statements_left (Some rest) = statements rest.now

-- how much is left to split
abbrev pub length_left : Option (Bor (List ℕ)) → ℕ
length_left None = 0
length_left (Some rest) = length rest.now + 1
