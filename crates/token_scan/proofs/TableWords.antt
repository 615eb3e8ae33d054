-- Words of a table at the front of bytes.
use Rattle.std.proofs.Common.{◌≡◌, ℕ, zero, suc, ◌<◌, ◌≤◌, true, min, List, [], ◌∷◌, length, take, None, option_map, inl, inr, refl, sym, ap, ◌∙◌, arith}
use Rattle.std.specs.Prelude.{nat_le}
use Rattle.std.specs.List.{list_all}
use Rattle.std.specs.Char.{to_ascii_uppercase}
use Rattle.std.proofs.lemmas.Bool.{cases_lt, lt-leb}
use Rattle.std.proofs.lemmas.List.{length-take, take-map}
use Rattle.hpf_base.specs.declared.refusal.Reason.TheVariants.{BadLine}
use Rattle.op_tables.specs.Words.{code_in, dot_words, symbols}
use Rattle.source_lines.specs.declared.token.TokenKind.TheVariants.{Dot, Symbol}
use Rattle.token_scan.specs.Tokens.{first_class, pieces, upper, HasBreach}
use Rattle.token_scan.specs.Pieces.{IsLongestWord, IsToken, NoWordLonger, most_bytes, words_of}
use Rattle.token_scan.specs.declared.byte_class.ByteClass.TheVariants.{Other, Period}
use Rattle.token_scan.specs.declared.table_word.TheConstants.{MAX_DOT_BYTES}
use Rattle.token_scan.specs.declared.table_word.Words.{Words}
use Rattle.token_scan.specs.declared.table_word.Words.TheVariants.{Dots, Symbols}
use Rattle.token_scan.proofs.Fronts.{NoneLonger, no_front, token_front}
use Rattle.token_scan.proofs.Runs.{length-upper}
use Rattle.token_scan.proofs.Tables.{code_in-outside}

words-short : (words : Words) → list_all (λ w. nat_le (length w) (most_bytes words)) (words_of words) ≡ true
words-short Dots = refl
words-short Symbols = refl

-- no word is longer than the longest
word-none : (words : Words) (bytes : List ℕ) → most_bytes words < length bytes → code_in (words_of words) bytes ≡ None
word-none words bytes long = code_in-outside (λ w. nat_le (length w) (most_bytes words)) (words_of words) bytes (words-short words) (lt-leb _ _ long)

pub no_word_longer : (words : Words) (bytes : List ℕ) (n : ℕ) → n ≡ min (length bytes) (most_bytes words) → NoWordLonger (words_of words) bytes n
no_word_longer words bytes n is m above below = word-none words (take m bytes) (omega (arith, length-take m bytes))

take-fewer : (bytes : List ℕ) (m k : ℕ) → m ≤ k → take m (take k bytes) ≡ take m bytes
take-fewer bytes zero k within = refl
take-fewer bytes (suc m) zero within = absurd (omega arith)
take-fewer [] (suc m) (suc k) within = refl
take-fewer (b ∷ bytes) (suc m) (suc k) within = ap (λ (l : List ℕ). b ∷ l) (take-fewer bytes m k (omega arith))

upper-fewer : (bytes : List ℕ) (m k : ℕ) → m ≤ k → take m (upper (take k bytes)) ≡ upper (take m bytes)
upper-fewer bytes m k within = take-map to_ascii_uppercase m (take k bytes) ∙ ap upper (take-fewer bytes m k within)

length-front : (bytes : List ℕ) (k : ℕ) → k ≤ length bytes → length (upper (take k bytes)) ≡ k
length-front bytes k within = length-upper (take k bytes) ∙ omega (arith, length-take k bytes)

-- of the fronts of all bytes none is a word that isn't one of a front that is long enough for any
dots-none : (bytes : List ℕ) (n k : ℕ) → k ≡ min (length bytes) MAX_DOT_BYTES → NoWordLonger dot_words (upper (take k bytes)) n → NoneLonger Period bytes n
dots-none bytes n k e none m above below =
    ap (option_map Dot) (elim (cases_lt MAX_DOT_BYTES m) [
      | inl long ↦ word-none Dots (upper (take m bytes)) (omega (arith, length-front bytes m below))
      | inr short ↦ sym (ap (code_in dot_words) (upper-fewer bytes m k (omega arith))) ∙ none m above (omega (arith, length-front bytes k (omega arith)))
    ])

pub dot_front : (bytes : List ℕ) (k len code : ℕ) → k ≡ min (length bytes) MAX_DOT_BYTES → first_class bytes ≡ Period
    → IsLongestWord dot_words (upper (take k bytes)) len code → IsToken bytes len (Dot code)
dot_front bytes k len code e is word =
    let within : len ≤ k = omega (arith, word.within, length-front bytes k (omega arith)) in
    token_front Period bytes len (Dot code) is word.some (omega arith)
    (ap (λ w. option_map Dot (code_in dot_words w)) (sym (upper-fewer bytes len k within)) ∙ ap (option_map Dot) word.is)
    (dots-none bytes len k e word.longest)

pub no_dot : (bytes : List ℕ) (k : ℕ) → k ≡ min (length bytes) MAX_DOT_BYTES → first_class bytes ≡ Period
    → NoWordLonger dot_words (upper (take k bytes)) 0 → HasBreach BadLine (pieces bytes)
no_dot [] k e is none = absurd cc
no_dot (b ∷ bytes) k e is none = no_front Period (b ∷ bytes) (omega arith) is (λ blank. absurd cc) (dots-none (b ∷ bytes) 0 k e none)

symbols-none : (bytes : List ℕ) (n : ℕ) → NoWordLonger symbols bytes n → NoneLonger Other bytes n
symbols-none bytes n none m above below = ap (option_map Symbol) (none m above below)

pub symbol_front : (bytes : List ℕ) (len code : ℕ) → first_class bytes ≡ Other → IsLongestWord symbols bytes len code → IsToken bytes len (Symbol code)
symbol_front bytes len code is word = token_front Other bytes len (Symbol code) is word.some word.within (ap (option_map Symbol) word.is) (symbols-none bytes len word.longest)

pub no_symbol : (bytes : List ℕ) → 1 ≤ length bytes → first_class bytes ≡ Other → NoWordLonger symbols bytes 0 → HasBreach BadLine (pieces bytes)
no_symbol bytes some is none = no_front Other bytes some is (λ blank. absurd cc) (symbols-none bytes 0 none)
