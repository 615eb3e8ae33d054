-- Strips of values.
use Rattle.std.proofs.Common.{◌≡◌, ℕ, suc, ◌+◌, ◌-◌, ◌*◌, ◌/◌, ◌<◌, ◌≤◌, ◌⊎◌, inl, inr, List, [], ◌∷◌, ◌++◌, length, replicate, ℤ, pos, Result, Ok, ap, sym, subst, ◌∙◌, arith}
use Rattle.std.specs.Prelude.{slice_index_or}
use Rattle.std.proofs.lemmas.Bool.{cases_lt}
use Rattle.std.proofs.lemmas.List.{length-append, length-replicate, get_or-replicate, get_or_append_left, get_or-append_right}
use Rattle.std.proofs.lemmas.Nat.{mod-mul-add, div-mul-add}
use Rattle.op_tables.specs.declared.op.Op.{Op}
use Rattle.array_meaning.specs.Elementals.{Elemental, NoOperand, Operand, Same, Operation, operated, value_at}
use Rattle.array_meaning.specs.Faults.{Cause, ◌>>=◌, with_more}
use Rattle.array_meaning.specs.Sections.{positions}
use Rattle.array_meaning.specs.State.{State}
use Rattle.strip_operators.specs.Operated.{AreOfOne, AreOfTwo, AreWithNumber}
use Rattle.strip_operators.specs.Strips.{IsStrip}
use Rattle.strips.specs.Strips.{row_value, space_value}

-- ---- one value, and operators

module _ (s : State) (u : ℕ) (rest : List ℤ) where
  pub same_strip : (v : ℤ) (n : ℕ) → IsStrip (row_value s (Same v) u rest) n (replicate n v)
  same_strip v n = (length-replicate n v, λ k lt. ap Ok (sym (get_or-replicate n k v (pos 0) lt)))

  pub of_one : (o : Op) (x : Elemental) (n : ℕ) (vs ws : List ℤ) → IsStrip (row_value s x u rest) n vs → length ws ≡ length vs → AreOfOne o vs ws
      → IsStrip (row_value s (Operation o (Operand x NoOperand)) u rest) n ws
  of_one o x n vs ws strip long made = (long ∙ strip.0, at) where
    at : (k : ℕ) → k < n → row_value s (Operation o (Operand x NoOperand)) u rest k ≡ Ok (slice_index_or ws k (pos 0))
    at k lt =
        ap (λ r. with_more r (Ok []) >>= operated o) (strip.1 k lt)
        ∙ made k (subst (λ m. k < m) (sym strip.0) lt)

  pub of_two : (o : Op) (x y : Elemental) (n : ℕ) (vs ws us : List ℤ) → IsStrip (row_value s x u rest) n vs → IsStrip (row_value s y u rest) n ws → length us ≡ length vs
      → AreOfTwo o vs ws us → IsStrip (row_value s (Operation o (Operand x (Operand y NoOperand))) u rest) n us
  of_two o x y n vs ws us first second long made = (long ∙ first.0, at) where
    at : (k : ℕ) → k < n → row_value s (Operation o (Operand x (Operand y NoOperand))) u rest k ≡ Ok (slice_index_or us k (pos 0))
    at k lt =
        ap (λ r. with_more r (with_more (row_value s y u rest k) (Ok [])) >>= operated o) (first.1 k lt)
        ∙ ap (λ r. with_more (Ok (slice_index_or vs k (pos 0))) (with_more r (Ok [])) >>= operated o) (second.1 k lt)
        ∙ made k (subst (λ m. k < m) (sym first.0) lt)

  pub with_number : (o : Op) (x y : Elemental) (n : ℕ) (vs us : List ℤ) (v : ℤ) → IsStrip (row_value s x u rest) n vs → y ≡ Same v → length us ≡ length vs
      → AreWithNumber o vs v us → IsStrip (row_value s (Operation o (Operand x (Operand y NoOperand))) u rest) n us
  with_number o x y n vs us v first is long made = (long ∙ first.0, at) where
    at : (k : ℕ) → k < n → row_value s (Operation o (Operand x (Operand y NoOperand))) u rest k ≡ Ok (slice_index_or us k (pos 0))
    at k lt =
        ap (λ y. row_value s (Operation o (Operand x (Operand y NoOperand))) u rest k) is
        ∙ ap (λ r. with_more r (with_more (Ok v) (Ok [])) >>= operated o) (first.1 k lt)
        ∙ made k (subst (λ m. k < m) (sym first.0) lt)

-- ---- strips behind one another

pub strip_behind : (f : ℕ → Result ℤ Cause) (done n : ℕ) (vs ws : List ℤ) → IsStrip f done vs → IsStrip (λ k. f (done + k)) n ws → IsStrip f (done + n) (vs ++ ws)
strip_behind f done n vs ws before strip = (length-append vs ws ∙ (λ i. before.0 i + strip.0 i), at) where
  by_place : (k : ℕ) → k < done + n → (k < done) ⊎ (done ≤ k) → f k ≡ Ok (slice_index_or (vs ++ ws) k (pos 0))
  by_place k lt (inl low) =
      let here : k < length vs = subst (λ m. k < m) (sym before.0) low in
      before.1 k low ∙ ap Ok (sym (get_or_append_left vs ws (pos 0) k here))
  by_place k lt (inr high) =
      let less : k - done < n = omega (arith, lt, high) in
      let is : k ≡ done + (k - done) = omega (arith, high) in
      ap f is ∙ strip.1 (k - done) less ∙ ap Ok (sym (get_or-append_right vs ws done k (pos 0) before.0 high))

  at : (k : ℕ) → k < done + n → f k ≡ Ok (slice_index_or (vs ++ ws) k (pos 0))
  at k lt = by_place k lt (cases_lt k done)

module _ (s : State) (x : Elemental) (n : ℕ) (ns : List ℕ) where
  -- the tuples of a row, by their numbers in the space
  in_space : (y u k : ℕ) → u + k < n → space_value s (n ∷ ns) x (y * n + u + k) ≡ row_value s x u (positions ns y) k
  in_space y u k lt =
      let is : y * n + u + k ≡ y * n + (u + k) = omega arith in
      ap (λ t. value_at s (positions (n ∷ ns) t) x) is
      ∙ ap (λ c. value_at s (pos (suc c) ∷ positions ns ((y * n + (u + k)) / n)) x) (mod-mul-add y n (u + k) lt)
      ∙ ap (λ r. value_at s (pos (suc (u + k)) ∷ positions ns r) x) (div-mul-add y n (u + k) lt)

  -- a strip of a row behind all before it
  pub row_behind : (y u m : ℕ) (rest : List ℤ) (vs ws : List ℤ) → u + m ≤ n → rest ≡ positions ns y → IsStrip (space_value s (n ∷ ns) x) (y * n + u) vs
      → IsStrip (row_value s x u rest) m ws → IsStrip (space_value s (n ∷ ns) x) (y * n + (u + m)) (vs ++ ws)
  row_behind y u m rest vs ws fits is before strip =
      let e : y * n + u + m ≡ y * n + (u + m) = omega arith in
      subst (λ k. IsStrip (space_value s (n ∷ ns) x) k (vs ++ ws)) e
      (strip_behind (space_value s (n ∷ ns) x) (y * n + u) m vs ws before
      (strip.0, λ k lt. in_space y u k (omega (arith, lt, fits)) ∙ ap (λ r. row_value s x u r k) (sym is) ∙ strip.1 k lt))
