-- Tokens that are runs of bytes: words and literals.
use Rattle.std.proofs.Common.{◌≡◌, ℕ, zero, suc, ◌<◌, ◌≤◌, Bool, true, false, List, [], ◌∷◌, length, take, Some, None, if◌then◌else◌, pos, refl, sym, subst, ◌∙◌, one-add, arith}
use Rattle.std.specs.Char.{is_ascii_digit, to_ascii_uppercase}
use Rattle.std.specs.Prelude.{nat_lt}
use Rattle.std.specs.List.{list_all, prefix_len}
use Rattle.std.specs.Str.Parse.{digits_value}
use Rattle.std.proofs.lemmas.Bool.{and_parts, and_from, ltb-false}
use Rattle.std.proofs.lemmas.Bool.Decides.{nat_tests}
use Rattle.std.proofs.lemmas.List.{length-map}
use Rattle.std.proofs.lemmas.List.Sums.{prefix_len-le-length}
use Rattle.hpf_base.specs.Name.{IsName, is_name_byte}
use Rattle.token_scan.specs.declared.limits.TheConstants.{MAX_NAME_BYTES}
use Rattle.source_lines.specs.declared.token.TokenKind.{TokenKind}
use Rattle.source_lines.specs.declared.token.TokenKind.TheVariants.{Integer, Word}
use Rattle.token_scan.specs.Tokens.{class_of, first_byte, first_class, is_word_byte, spelled, upper}
use Rattle.token_scan.specs.Pieces.{IsToken}
use Rattle.token_scan.specs.declared.byte_class.ByteClass.{ByteClass}
use Rattle.token_scan.specs.declared.byte_class.ByteClass.TheVariants.{Letter, Digit}
use Rattle.token_scan.proofs.Fronts.{token_front}

pub run-within : (test : ℕ → Bool) (bytes : List ℕ) → list_all test (take (prefix_len test bytes) bytes) ≡ true
run-within test [] = refl
run-within test (b ∷ bytes) = step (test b) refl (run-within test bytes)
  where
    step : (t : Bool) → test b ≡ t → list_all test (take (prefix_len test bytes) bytes) ≡ true → list_all test (take (prefix_len test (b ∷ bytes)) (b ∷ bytes)) ≡ true
    step true e h = rw (e, one-add) (and_from (test b) _ e h)
    step false e h = rw e refl

run-past : (test : ℕ → Bool) (bytes : List ℕ) (m : ℕ) → prefix_len test bytes < m → m ≤ length bytes → list_all test (take m bytes) ≡ false
run-past test [] m past within = absurd (omega arith)
run-past test (b ∷ bytes) zero past within = absurd (omega arith)
run-past test (b ∷ bytes) (suc m) past within = step (test b) refl past (run-past test bytes m)
  where
    step : (t : Bool) → test b ≡ t → prefix_len test (b ∷ bytes) < suc m
        → (prefix_len test bytes < m → m ≤ length bytes → list_all test (take m bytes) ≡ false) → list_all test (take (suc m) (b ∷ bytes)) ≡ false
    step true e past ih = let past' = rw e at past in rw e (ih (omega arith) (omega arith))
    step false e past ih = rw e refl

run-some : (test : ℕ → Bool) (bytes : List ℕ) → test 0 ≡ false → test (first_byte bytes) ≡ true → 1 ≤ prefix_len test bytes
run-some test [] none h = absurd cc
run-some test (b ∷ bytes) none h = rw h (omega arith)

-- where a class spells the bytes that all pass a test, the run of these is the first piece
pub run_front : (test : ℕ → Bool) (class : ByteClass) (kind : List ℕ → TokenKind) (bytes : List ℕ)
    → ((front : List ℕ) → spelled class front ≡ (if list_all test front then Some (kind front) else None))
    → test 0 ≡ false → test (first_byte bytes) ≡ true → first_class bytes ≡ class → IsToken bytes (prefix_len test bytes) (kind (take (prefix_len test bytes) bytes))
run_front test class kind bytes spells none first is =
    token_front class bytes (prefix_len test bytes) _ is (run-some test bytes none first) (prefix_len-le-length test bytes) (spells _ ∙ rw (run-within test bytes) refl)
    (λ m above below. spells (take m bytes) ∙ rw (run-past test bytes m above below) refl)

pub letter-in_word : (b : ℕ) → class_of b ≡ Letter → is_word_byte b ≡ true
letter-in_word b h = grind (arith, nat_tests)

pub digit-in_literal : (b : ℕ) → class_of b ≡ Digit → is_ascii_digit b ≡ true
digit-in_literal b h = grind (arith, nat_tests)

word_byte-upper : (b : ℕ) → is_word_byte b ≡ true → is_name_byte (to_ascii_uppercase b) ≡ true
word_byte-upper b h = grind (arith, nat_tests)

word_bytes-upper : (bytes : List ℕ) → list_all is_word_byte bytes ≡ true → list_all is_name_byte (upper bytes) ≡ true
word_bytes-upper [] h = refl
word_bytes-upper (b ∷ bytes) h = let p = and_parts _ _ h in and_from _ _ (word_byte-upper b p.0) (word_bytes-upper bytes p.1)

pub length-upper : (bytes : List ℕ) → length (upper bytes) ≡ length bytes
length-upper bytes = simp length-map

-- a word that is no name is too long
pub word_long : (word : List ℕ) → 1 ≤ length word → list_all is_word_byte word ≡ true → (IsName (upper word) → ⊥) → nat_lt MAX_NAME_BYTES (length (upper word)) ≡ true
word_long word some all no_name = step (nat_lt MAX_NAME_BYTES (length (upper word))) refl
  where
    step : (t : Bool) → nat_lt MAX_NAME_BYTES (length (upper word)) ≡ t → t ≡ true
    step true e = refl
    step false e = absurd (no_name (record { some = omega (arith, some, length-upper word); few = omega (arith, ltb-false _ _ e); each = word_bytes-upper word all }))

pub word_front : (bytes : List ℕ) (len : ℕ) → first_class bytes ≡ Letter → len ≡ prefix_len is_word_byte bytes → IsToken bytes len (Word (upper (take len bytes)))
word_front bytes len is e =
    subst (λ (n : ℕ). IsToken bytes n (Word (upper (take n bytes)))) (sym e)
    (run_front is_word_byte Letter (λ front. Word (upper front)) bytes (λ front. refl) refl (letter-in_word (first_byte bytes) is) is)

pub literal_front : (bytes : List ℕ) (len : ℕ) → first_class bytes ≡ Digit → len ≡ prefix_len is_ascii_digit bytes
    → IsToken bytes len (Integer (pos (digits_value 10 (take len bytes))))
literal_front bytes len is e =
    subst (λ (n : ℕ). IsToken bytes n (Integer (pos (digits_value 10 (take n bytes))))) (sym e)
    (run_front is_ascii_digit Digit (λ front. Integer (pos (digits_value 10 front))) bytes (λ front. refl) refl (digit-in_literal (first_byte bytes) is) is)
