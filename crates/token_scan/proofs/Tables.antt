-- Tables of words.
use Rattle.std.proofs.Common.{◌≡◌, ℕ, ◌+◌, ◌∙◌, Bool, true, false, List, [], ◌∷◌, None, bytes_eq, refl, ap, sym}
use Rattle.std.specs.List.{list_all, position_from}
use Rattle.std.specs.Cmp.Lexicographic.{same_text}
use Rattle.std.proofs.lemmas.Bool.{and_parts}
use Rattle.std.proofs.lemmas.Iterator.Adapters.{position_from-zero}
use Rattle.op_tables.specs.Words.{code_in}

outside-from : (test : List ℕ → Bool) (words : List (List ℕ)) (word : List ℕ) (at : ℕ) → list_all test words ≡ true → test word ≡ false
    → position_from (λ w. bytes_eq w word) at words ≡ None
outside-from test [] word at all fails = refl
outside-from test (w ∷ words) word at all fails = step (bytes_eq w word) refl (and_parts _ _ all) (outside-from test words word (at + 1))
  where
    step : (t : Bool) → bytes_eq w word ≡ t → (test w ≡ true) × (list_all test words ≡ true)
        → (list_all test words ≡ true → test word ≡ false → position_from (λ w. bytes_eq w word) (at + 1) words ≡ None) → position_from (λ w. bytes_eq w word) at (w ∷ words) ≡ None
    step true e p after = absurd (let s : w ≡ word = same_text w word (sym e) in let t : test w ≡ test word = ap test s in cc)
    step false e p after = rw e (after p.1 fails)

-- each word of the table passes a test that this one doesn't
pub code_in-outside : (test : List ℕ → Bool) (words : List (List ℕ)) (word : List ℕ) → list_all test words ≡ true → test word ≡ false → code_in words word ≡ None
code_in-outside test words word all fails = position_from-zero _ words ∙ outside-from test words word 0 all fails
