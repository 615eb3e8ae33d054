-- The words of the intrinsic procedures.
use Rattle.std.proofs.Common.{◌≡◌, ℕ, zero, suc, List, [], ◌∷◌, Option, Some, None, refl, sym, subst, arith}
use Rattle.std.specs.Prelude.{slice_get, slice_index_or, bytes_eq}
use Rattle.std.proofs.lemmas.Option.{slice_get_past}
use Rattle.std.proofs.lemmas.List.Quantifiers.{position-Some}
use Rattle.std.proofs.lemmas.Slice.Eq.{bytes_eq-Decides}
use Rattle.op_tables.specs.declared.op.Op.{Op}
use Rattle.op_tables.specs.Words.{code_in, intrinsic_words}
use Rattle.syntax_tree.specs.Operators.{if_any, procedure_at, intrinsics, intrinsic, intrinsic_word}

-- the word names the procedure, where there is one
abbrev pub IsNamed : List ℕ → Option Op → Type 0
IsNamed word None = Unit {0}
IsNamed word (Some o) = (intrinsic_word o ≡ word) × (intrinsic (intrinsic_word o) ≡ Some o)

abbrev AreNamed : List (List ℕ) → List (Option Op) → Type 0
AreNamed words [] = Unit {0}
AreNamed [] (o ∷ os) = ⊥
AreNamed (word ∷ words) (o ∷ os) = IsNamed word o × AreNamed words os

each_named : (words : List (List ℕ)) (os : List (Option Op)) → AreNamed words os → (code : ℕ) → IsNamed (slice_index_or words code []) (if_any (slice_get os code))
each_named words [] h code = subst (λ o. IsNamed (slice_index_or words code []) (if_any o)) (sym (slice_get_past [] code (omega arith))) tt
each_named [] (o ∷ os) h code = absurd h
each_named (word ∷ words) (o ∷ os) h zero = h.0
each_named (word ∷ words) (o ∷ os) h (suc code) = each_named words os h.1 code

is : {A B : Type 0} {a : A} {b : B} → (a ≡ a) × (b ≡ b)
is = (refl, refl)

all_named : AreNamed intrinsic_words intrinsics
all_named = (is, (is, (is, (is, (is, (is, (is, (is, (is, (is, (is, (is, (is, (is, (is, (is, (is, (is, (tt, (is, (is, (is, (is, (is, (is, (is, tt))))))))))))))))))))))))))

-- the word of a code
word_at : (words : List (List ℕ)) (word : List ℕ) (code : ℕ) → code_in words word ≡ Some code → slice_index_or words code [] ≡ word
word_at words word code h = (bytes_eq-Decides _ _).0 (position-Some (λ w. bytes_eq w word) words code [] h).1

pub intrinsic_is_named : (word : List ℕ) → IsNamed word (intrinsic word)
intrinsic_is_named word = found (code_in intrinsic_words word) refl
  where
    found : (code : Option ℕ) → code_in intrinsic_words word ≡ code → IsNamed word (procedure_at code)
    found None h = tt
    found (Some code) h = subst (λ w. IsNamed w (procedure_at (Some code))) (word_at intrinsic_words word code h) (each_named intrinsic_words intrinsics all_named code)
