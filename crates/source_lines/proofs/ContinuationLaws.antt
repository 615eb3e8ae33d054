-- Where no line is a breach, few enough lines continue the same one.
use Rattle.std.proofs.Common.{◌≡◌, ℕ, zero, suc, ◌+◌, ◌-◌, ◌<◌, ◌≤◌, Bool, true, false, cond, List, [], ◌∷◌, ◌++◌, length, take, refl, sym, ap, ◌∙◌, inl, inr, append_assoc, arith}
use Rattle.std.specs.Prelude.{All, filter, not}
use Rattle.std.specs.List.{prefix_len, suffix_len}
use Rattle.std.proofs.lemmas.Bool.{not-true, cases_lt}
use Rattle.std.proofs.lemmas.List.{reverse-append, length-take, length-append}
use Rattle.std.proofs.lemmas.List.Elements.{All-cons, All-nil}
use Rattle.source_lines.specs.declared.limits.TheConstants.{MAX_CONTINUATIONS}
use Rattle.hpf_base.specs.declared.refusal.Reason.TheVariants.{Limit}
use Rattle.source_lines.specs.Cut.{cut_after}
use Rattle.source_lines.specs.PhysicalLines.{PhysicalLine}
use Rattle.source_lines.specs.Breaches.{is_continued, is_passed, standing}
use Rattle.source_lines.specs.LogicalLines.{groups}
use Rattle.source_lines.proofs.BreachLaws.{IsClear}

-- where an element of a filtered list stood
parted_before : (p : PhysicalLine → Bool) (xs before : List PhysicalLine) (x : PhysicalLine) (after : List PhysicalLine) → filter p xs ≡ before ++ x ∷ after
    → record { front : List PhysicalLine; rest : List PhysicalLine; whole : xs ≡ front ++ x ∷ rest; kept : filter p front ≡ before; passes : p x ≡ true }
parted_before p [] [] x after e = absurd cc
parted_before p [] (y ∷ before) x after e = absurd cc
parted_before p (y ∷ ys) before x after e = step (p y) refl before e (λ before e. parted_before p ys before x after e)
  where
    step : (t : Bool) → p y ≡ t → (before : List PhysicalLine) → cond t (y ∷ filter p ys) (filter p ys) ≡ before ++ x ∷ after
        → ((before : List PhysicalLine) → filter p ys ≡ before ++ x ∷ after
        → record {
          front : List PhysicalLine;
          rest : List PhysicalLine;
          whole : ys ≡ front ++ x ∷ rest;
          kept : filter p front ≡ before;
          passes : p x ≡ true;
        })
        → record { front : List PhysicalLine; rest : List PhysicalLine; whole : y ∷ ys ≡ front ++ x ∷ rest; kept : filter p front ≡ before; passes : p x ≡ true }
    step true t [] e rest = let same : y ≡ x = cc in record { front = []; rest = ys; whole = ap (λ z. z ∷ ys) same; kept = refl; passes = ap p (sym same) ∙ t }
    step true t (z ∷ before) e rest =
        let same : y ≡ z = cc in
        let tail : filter p ys ≡ before ++ x ∷ after = cc in
        let b = rest before tail in
        record { front = y ∷ b.front; rest = b.rest; whole = ap (λ l. y ∷ l) b.whole; kept = rw t (rw (same, b.kept) refl); passes = b.passes }
    step false t before e rest =
        let b = rest before e in
        record { front = y ∷ b.front; rest = b.rest; whole = ap (λ l. y ∷ l) b.whole; kept = rw t b.kept; passes = b.passes }

suffix_len_push : {A : Type 0} (p : A → Bool) (xs : List A) (x : A) → suffix_len p (xs ++ x ∷ []) ≡ cond (p x) (1 + suffix_len p xs) 0
suffix_len_push p xs x = ap (prefix_len p) (reverse-append xs (x ∷ []))

-- no line stands after more continued ones than may continue one line
abbrev AreFewContinued : List PhysicalLine → Type 0
AreFewContinued lines =
    (before : List PhysicalLine) (line : PhysicalLine) (after : List PhysicalLine) → lines ≡ before ++ line ∷ after
    → suffix_len is_continued before ≡ MAX_CONTINUATIONS + 1 → ⊥

few_continued : (lines : List PhysicalLine) → IsClear lines (length lines) → AreFewContinued (standing lines)
few_continued lines clear before line after e many =
    let b = parted_before (λ r. not (is_passed r.kind)) lines before line after e in
    clear b.front line b.rest Limit b.whole (omega (arith, ap length b.whole, length-append b.front (line ∷ b.rest)))
    (inr (not-true (is_passed line.kind) b.passes, ap (suffix_len is_continued) b.kept ∙ many))

module _ (lines : List PhysicalLine) (none : AreFewContinued lines) where
  -- after so few continued lines one more makes at most one too many
  run-more : (before : List PhysicalLine) (line : PhysicalLine) (after : List PhysicalLine) → lines ≡ before ++ line ∷ after
      → suffix_len is_continued before ≤ MAX_CONTINUATIONS + 1
      → (suffix_len is_continued before ≤ MAX_CONTINUATIONS) × (suffix_len is_continued (before ++ line ∷ []) ≤ MAX_CONTINUATIONS + 1)
  run-more before line after e few =
      let fewer : suffix_len is_continued before ≤ MAX_CONTINUATIONS = below (suffix_len is_continued before) few (none before line after e) in
      (fewer, rw suffix_len_push (step (is_continued line) fewer))
    where
      below : (n : ℕ) → n ≤ MAX_CONTINUATIONS + 1 → (n ≡ MAX_CONTINUATIONS + 1 → ⊥) → n ≤ MAX_CONTINUATIONS
      below n few ne = omega arith

      step : (t : Bool) → suffix_len is_continued before ≤ MAX_CONTINUATIONS → cond t (1 + suffix_len is_continued before) 0 ≤ MAX_CONTINUATIONS + 1
      step true fewer = omega arith
      step false fewer = omega arith

  next : (before : List PhysicalLine) (line : PhysicalLine) (after : List PhysicalLine) → lines ≡ before ++ line ∷ after → lines ≡ (before ++ line ∷ []) ++ after
  next before line after e = e ∙ sym (append_assoc before (line ∷ []) after)

  run-few : (before rest : List PhysicalLine) (k : ℕ) → lines ≡ before ++ rest → suffix_len is_continued before ≤ MAX_CONTINUATIONS + 1
      → k < length rest → k ≤ prefix_len is_continued rest
      → suffix_len is_continued before + k ≤ MAX_CONTINUATIONS
  run-few before [] k e few within continued = absurd (omega arith)
  run-few before (line ∷ rest) zero e few within continued = omega (arith, (run-more before line rest e few).0)
  run-few before (line ∷ rest) (suc k) e few within continued =
      step (is_continued line) refl continued (run-few (before ++ line ∷ []) rest k (next before line rest e) (run-more before line rest e few).1 (omega arith))
    where
      step : (t : Bool) → is_continued line ≡ t → suc k ≤ cond t (1 + prefix_len is_continued rest) 0
          → (k ≤ prefix_len is_continued rest → suffix_len is_continued (before ++ line ∷ []) + k ≤ MAX_CONTINUATIONS) → suffix_len is_continued before + suc k ≤ MAX_CONTINUATIONS
      step true t continued rest =
          let pushed : suffix_len is_continued (before ++ line ∷ []) ≡ 1 + suffix_len is_continued before = suffix_len_push is_continued before line ∙ rw t refl in
          omega (arith, pushed, rest (omega arith))
      step false t continued rest = absurd (omega arith)

  groups_after-few : (before rest : List PhysicalLine) (skipped : ℕ) → lines ≡ before ++ rest → suffix_len is_continued before ≤ MAX_CONTINUATIONS + 1
      → All (λ group. length group ≤ MAX_CONTINUATIONS + 1) (cut_after (λ l. prefix_len is_continued l + 1) rest skipped)
  groups_after-few before [] skipped e few = All-nil (λ (group : List PhysicalLine). length group ≤ MAX_CONTINUATIONS + 1)
  groups_after-few before (line ∷ rest) zero e few =
      All-cons (λ (group : List PhysicalLine). length group ≤ MAX_CONTINUATIONS + 1) (line ∷ take (prefix_len is_continued (line ∷ rest) + 1 - 1) rest) _
      (elim (cases_lt (MAX_CONTINUATIONS + 1) (length (line ∷ take (prefix_len is_continued (line ∷ rest) + 1 - 1) rest))) [
        | inl many ↦
            absurd (omega (
              arith,
              length-take (prefix_len is_continued (line ∷ rest) + 1 - 1) rest,
              many,
              run-few before (line ∷ rest) (MAX_CONTINUATIONS + 1) e few
                  (omega (arith, length-take (prefix_len is_continued (line ∷ rest) + 1 - 1) rest, many))
                  (omega (arith, length-take (prefix_len is_continued (line ∷ rest) + 1 - 1) rest, many)),
            ))
        | inr fine ↦ fine
      ])
      (groups_after-few (before ++ line ∷ []) rest (prefix_len is_continued (line ∷ rest) + 1 - 1) (next before line rest e) (run-more before line rest e few).1)
  groups_after-few before (line ∷ rest) (suc skipped) e few =
      groups_after-few (before ++ line ∷ []) rest skipped (next before line rest e) (run-more before line rest e few).1

-- where no line is a breach, a group has a line and those that may continue it
pub groups_few : (lines : List PhysicalLine) → IsClear lines (length lines) → All (λ group. length group ≤ MAX_CONTINUATIONS + 1) (groups (standing lines))
groups_few lines clear = groups_after-few (standing lines) (few_continued lines clear) [] (standing lines) 0 refl (omega arith)
