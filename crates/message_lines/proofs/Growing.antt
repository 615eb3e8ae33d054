-- Copies after rows are as many as the last row that is named needs.
use Rattle.std.proofs.Common.{◌≡◌, ℕ, zero, suc, ◌+◌, ◌-◌, ◌≤◌, max, List, [], ◌∷◌, ◌++◌, length, replicate, refl, sym, ap, ◌∙◌, arith, append_assoc, append-nil}
use Rattle.std.proofs.lemmas.List.{length-append, length-replicate}
use Rattle.machine_steps.specs.Layout.{Layout}
use Rattle.message_text.specs.InstructionLines.{rows_after}
use Rattle.message_lines.specs.Grown.{grown, up_to}

module _ (copy : Layout) where
  both : (a b : ℕ) → replicate (a + b) copy ≡ replicate a copy ++ replicate b copy
  both zero b = let e : 0 + b ≡ b = omega arith in ap (λ c. replicate c copy) e
  both (suc a) b = let e : suc a + b ≡ suc (a + b) = omega arith in ap (λ c. replicate c copy) e ∙ ap (λ l. copy ∷ l) (both a b)

  -- after more rows there are as many less
  less : (n a : ℕ) (rows : List ℕ) → rows_after (n + a) rows ≡ rows_after n rows - a
  less n a [] = omega arith
  less n a (row ∷ rows) = let e = less n a rows in omega (arith, e)

  pub grown-is : (layouts : List Layout) (rows : List ℕ) → grown copy layouts rows ≡ layouts ++ replicate (rows_after (length layouts) rows) copy
  grown-is layouts [] = sym (append-nil layouts)
  grown-is layouts (row ∷ rows) =
      let a : ℕ = row + 1 - length layouts in
      let more : List Layout = layouts ++ replicate a copy in
      let long : length more ≡ length layouts + a = length-append layouts (replicate a copy) ∙ ap (λ c. length layouts + c) (length-replicate a copy) in
      let l = less (length layouts) a rows in
      let e : a + (rows_after (length layouts) rows - a) ≡ max a (rows_after (length layouts) rows) = omega arith in
      grown-is more rows
      ∙ ap (λ c. more ++ replicate (rows_after c rows) copy) long
      ∙ ap (λ c. more ++ replicate c copy) l
      ∙ append_assoc layouts (replicate a copy) (replicate (rows_after (length layouts) rows - a) copy)
      ∙ ap (λ r. layouts ++ r) (sym (both a (rows_after (length layouts) rows - a)))
      ∙ ap (λ c. layouts ++ replicate c copy) e

  pub grown-on : (layouts : List Layout) (xs ys : List ℕ) → grown copy (grown copy layouts xs) ys ≡ grown copy layouts (xs ++ ys)
  grown-on layouts [] ys = refl
  grown-on layouts (x ∷ xs) ys = grown-on (up_to copy layouts x) xs ys

  -- one copy more, where the row isn't there yet
  pub one-more : (layouts : List Layout) (row : ℕ) → length layouts ≤ row → up_to copy (layouts ++ copy ∷ []) row ≡ up_to copy layouts row
  one-more layouts row le =
      let long : length (layouts ++ copy ∷ []) ≡ length layouts + 1 = length-append layouts (copy ∷ []) in
      let e : row + 1 - length (layouts ++ copy ∷ []) ≡ row - length layouts = omega (arith, long) in
      let f : 1 + (row - length layouts) ≡ row + 1 - length layouts = omega (arith, le) in
      ap (λ c. (layouts ++ copy ∷ []) ++ replicate c copy) e
      ∙ append_assoc layouts (copy ∷ []) (replicate (row - length layouts) copy)
      ∙ ap (λ l. layouts ++ l) (sym (both 1 (row - length layouts)))
      ∙ ap (λ c. layouts ++ replicate c copy) f

  pub none-more : (layouts : List Layout) (row : ℕ) → row + 1 ≤ length layouts → layouts ≡ up_to copy layouts row
  none-more layouts row le = let e : row + 1 - length layouts ≡ 0 = omega (arith, le) in sym (ap (λ c. layouts ++ replicate c copy) e ∙ append-nil layouts)
