-- Character constants, by what stands between one delimiter and the next.
use Rattle.std.proofs.Common.{◌≡◌, ℕ, zero, suc, ◌+◌, ◌-◌, ◌<◌, ◌≤◌, ◌==◌, Bool, true, false, not, List, [], ◌∷◌, ◌++◌, length, take, drop, Option, Some, None, option_map, if◌then◌else◌, refl, sym, ap, subst, ◌∙◌, one-add, arith}
use Rattle.std.specs.List.{prefix_len}
use Rattle.std.proofs.Math.Seq.{take-add}
use Rattle.std.proofs.lemmas.Bool.{eq-eqb}
use Rattle.std.proofs.lemmas.List.{length-drop, length-take}
use Rattle.hpf_base.specs.declared.refusal.Reason.TheVariants.{BadLine}
use Rattle.source_lines.specs.declared.token.TokenKind.TheVariants.{Text}
use Rattle.token_scan.specs.Tokens.{characters, first_byte, first_class, longer, pieces, text_of, HasBreach}
use Rattle.token_scan.specs.Pieces.{quoted, IsToken, NoneQuoted}
use Rattle.token_scan.specs.declared.byte_class.ByteClass.TheVariants.{Delimiter}
use Rattle.token_scan.proofs.Fronts.{NoneLonger, first_byte-take, no_front, token_front}

-- another byte than this one
abbrev pub is_other : ℕ → ℕ → Bool
is_other delimiter b = not (b == delimiter)

characters-other : (delimiter b : ℕ) (bytes : List ℕ) → (b == delimiter) ≡ false → characters delimiter (b ∷ bytes) ≡ longer b (characters delimiter bytes)
characters-other delimiter b [] e = rw e refl
characters-other delimiter b (c ∷ bytes) e = rw e refl

-- up to the first delimiter stand the characters before it
pub characters-closed : (delimiter : ℕ) (bytes : List ℕ) → prefix_len (is_other delimiter) bytes < length bytes
    → characters delimiter (take (suc (prefix_len (is_other delimiter) bytes)) bytes) ≡ Some (take (prefix_len (is_other delimiter) bytes) bytes)
characters-closed delimiter [] lt = absurd (omega arith)
characters-closed delimiter (b ∷ bytes) lt = step (b == delimiter) refl lt (characters-closed delimiter bytes)
  where
    step : (t : Bool) → (b == delimiter) ≡ t → prefix_len (is_other delimiter) (b ∷ bytes) < length (b ∷ bytes)
        → (prefix_len (is_other delimiter) bytes < length bytes
        → characters delimiter (take (suc (prefix_len (is_other delimiter) bytes)) bytes)
        ≡ Some (take (prefix_len (is_other delimiter) bytes) bytes))
        → characters delimiter (take (suc (prefix_len (is_other delimiter) (b ∷ bytes))) (b ∷ bytes)) ≡ Some (take (prefix_len (is_other delimiter) (b ∷ bytes)) (b ∷ bytes))
    step true e lt after = rw e (rw e refl)
    step false e lt after =
        let lt' = rw (e, one-add) at lt in
        rw (e, one-add) (characters-other delimiter b (take (suc (prefix_len (is_other delimiter) bytes)) bytes) e ∙ ap (longer b) (after (omega arith)))

-- before the first delimiter no characters end
pub characters-open : (delimiter : ℕ) (bytes : List ℕ) (n : ℕ) → n ≤ prefix_len (is_other delimiter) bytes → characters delimiter (take n bytes) ≡ None
characters-open delimiter bytes zero within = refl
characters-open delimiter [] (suc n) within = refl
characters-open delimiter (b ∷ bytes) (suc n) within = step (b == delimiter) refl within (characters-open delimiter bytes n)
  where
    step : (t : Bool) → (b == delimiter) ≡ t → suc n ≤ prefix_len (is_other delimiter) (b ∷ bytes)
        → (n ≤ prefix_len (is_other delimiter) bytes → characters delimiter (take n bytes) ≡ None)
        → characters delimiter (b ∷ take n bytes) ≡ None
    step true e within after = let within' = rw e at within in absurd (omega arith)
    step false e within after = let within' = rw e at within in characters-other delimiter b (take n bytes) e ∙ ap (longer b) (after (omega arith))

-- characters in front of those of a text, which is put in one with them
abbrev pub doubled : ℕ → List ℕ → Option (List ℕ) → Option (List ℕ)
doubled delimiter read text = option_map (λ more. read ++ delimiter ∷ more) text

longer-doubled : (delimiter b : ℕ) (read : List ℕ) (text : Option (List ℕ)) → longer b (doubled delimiter read text) ≡ doubled delimiter (b ∷ read) text
longer-doubled delimiter b read None = refl
longer-doubled delimiter b read (Some x) = refl

-- a byte less was read
longer-read : (b : ℕ) (text : Option (List ℕ)) (read : List ℕ) → longer b text ≡ Some read → record { rest : List ℕ; text : text ≡ Some rest; read : read ≡ b ∷ rest }
longer-read b None read e = absurd cc
longer-read b (Some rest) read e = record { rest = rest; text = refl; read = cc }

-- a text in front of more bytes goes on only with a text between the same delimiters
pub characters-join : (delimiter : ℕ) (bytes : List ℕ) (x : ℕ) (more read : List ℕ) → characters delimiter bytes ≡ Some read
    → characters delimiter (bytes ++ x ∷ more) ≡ doubled delimiter read (quoted delimiter (x ∷ more))
characters-join delimiter [] x more read e = absurd cc
characters-join delimiter (b ∷ []) x more read e = step (b == delimiter) refl (x == delimiter) refl e
  where
    step : (t : Bool) → (b == delimiter) ≡ t → (u : Bool) → (x == delimiter) ≡ u → (if t then Some [] else None) ≡ Some read
        → characters delimiter (b ∷ x ∷ more) ≡ doubled delimiter read (quoted delimiter (x ∷ more))
    step true e true f is = let empty : read ≡ [] = cc in rw (e, f, empty) refl
    step true e false f is = rw (e, f) refl
    step false e u f is = absurd cc
characters-join delimiter (b ∷ c ∷ bytes) x more read e =
    step (b == delimiter) refl (c == delimiter) refl e (characters-join delimiter bytes x more) (characters-join delimiter (c ∷ bytes) x more)
  where
    step : (t : Bool) → (b == delimiter) ≡ t → (u : Bool) → (c == delimiter) ≡ u
        → (if t then (if u then longer delimiter (characters delimiter bytes) else None) else longer b (characters delimiter (c ∷ bytes))) ≡ Some read
        → ((read : List ℕ) → characters delimiter bytes ≡ Some read → characters delimiter (bytes ++ x ∷ more) ≡ doubled delimiter read (quoted delimiter (x ∷ more)))
        → ((read : List ℕ) → characters delimiter (c ∷ bytes) ≡ Some read → characters delimiter (c ∷ bytes ++ x ∷ more) ≡ doubled delimiter read (quoted delimiter (x ∷ more)))
        → characters delimiter (b ∷ c ∷ bytes ++ x ∷ more) ≡ doubled delimiter read (quoted delimiter (x ∷ more))
    step true e true f is pair one =
        let r = longer-read delimiter (characters delimiter bytes) read is in
        rw (e, f, r.read) (ap (longer delimiter) (pair r.rest r.text) ∙ longer-doubled delimiter delimiter r.rest _)
    step true e false f is pair one = absurd cc
    step false e u f is pair one =
        let r = longer-read b (characters delimiter (c ∷ bytes)) read is in
        rw (e, r.read) (ap (longer b) (one r.rest r.text) ∙ longer-doubled delimiter b r.rest _)

-- a text constant goes on in the same way
pub text-join : (bytes more read : List ℕ) → text_of bytes ≡ Some read → 1 ≤ length more
    → text_of (bytes ++ more) ≡ doubled (first_byte bytes) read (quoted (first_byte bytes) more)
text-join [] more read e some = absurd cc
text-join (b ∷ bytes) [] read e some = absurd (omega arith)
text-join (b ∷ bytes) (x ∷ more) read e some = characters-join b bytes x more read e

-- more bytes after a text
pub text-more : (bytes read : List ℕ) (len k : ℕ) → 1 ≤ len → 1 ≤ k → len + k ≤ length bytes → text_of (take len bytes) ≡ Some read
    → text_of (take (len + k) bytes) ≡ doubled (first_byte bytes) read (quoted (first_byte bytes) (take k (drop len bytes)))
text-more bytes read len k some more within e =
    ap text_of (take-add len k bytes) ∙ text-join (take len bytes) (take k (drop len bytes)) read e (omega (arith, length-take k (drop len bytes), length-drop len bytes))
    ∙ ap (λ (d : ℕ). doubled d read (quoted d (take k (drop len bytes)))) (first_byte-take bytes len some)

-- what is quoted by the byte in front is a text
pub quoted-text : (delimiter : ℕ) (bytes : List ℕ) → first_byte bytes ≡ delimiter → quoted delimiter bytes ≡ text_of bytes
quoted-text delimiter [] e = refl
quoted-text delimiter (b ∷ bytes) e = rw (eq-eqb b delimiter e, e) refl

pub text_front : (bytes read : List ℕ) (len : ℕ) → first_class bytes ≡ Delimiter → 1 ≤ len → len ≤ length bytes → text_of (take len bytes) ≡ Some read
    → NoneQuoted (first_byte bytes) (drop len bytes) → IsToken bytes len (Text read)
text_front bytes read len is some within e none = token_front Delimiter bytes len (Text read) is some within (ap (option_map Text) e) longer
  where
    longer : NoneLonger Delimiter bytes len
    longer m above below =
        let parts : len + (m - len) ≡ m = omega arith in
        let goes : text_of (take (len + (m - len)) bytes) ≡ None =
        text-more bytes read len (m - len) some (omega arith) (omega arith) e ∙ ap (doubled (first_byte bytes) read) (none (m - len) (omega (arith, length-drop len bytes))) in
        ap (option_map Text) (ap (λ (n : ℕ). text_of (take n bytes)) (sym parts) ∙ goes)

pub no_text : (bytes : List ℕ) → first_class bytes ≡ Delimiter → NoneQuoted (first_byte bytes) bytes → HasBreach BadLine (pieces bytes)
no_text [] is none = absurd cc
no_text (b ∷ bytes) is none =
    no_front Delimiter (b ∷ bytes) (omega arith) is (λ blank. absurd cc)
    (λ m above below. ap (option_map Text) (sym (quoted-text b (take m (b ∷ bytes)) (first_byte-take (b ∷ bytes) m above)) ∙ none m below))

-- a byte in front, which is the delimiter, and the next one are found
pub quoted-closed : (delimiter b : ℕ) (bytes : List ℕ) (len : ℕ) → b ≡ delimiter → len ≡ prefix_len (is_other delimiter) bytes → len < length bytes
    → quoted delimiter (take (len + 2) (b ∷ bytes)) ≡ Some (take len bytes)
quoted-closed delimiter b bytes len e counted lt =
    subst (λ (n : ℕ). quoted delimiter (take (n + 2) (b ∷ bytes)) ≡ Some (take n bytes)) (sym counted) (here (prefix_len (is_other delimiter) bytes) refl)
  where
    here : (n : ℕ) → n ≡ prefix_len (is_other delimiter) bytes → quoted delimiter (take (n + 2) (b ∷ bytes)) ≡ Some (take n bytes)
    here n is =
        let split : n + 2 ≡ suc (suc n) = omega arith in
        let closed : characters delimiter (take (suc n) bytes) ≡ Some (take n bytes) = rw is (characters-closed delimiter bytes (omega arith)) in
        rw (split, eq-eqb b delimiter e) closed

-- without a next one there is no text
pub quoted-open : (delimiter b : ℕ) (bytes : List ℕ) → length bytes ≤ prefix_len (is_other delimiter) bytes → NoneQuoted delimiter (b ∷ bytes)
quoted-open delimiter b bytes all zero within = refl
quoted-open delimiter b bytes all (suc n) within = step (b == delimiter) refl
  where
    step : (t : Bool) → (b == delimiter) ≡ t → quoted delimiter (b ∷ take n bytes) ≡ None
    step true e = rw e (characters-open delimiter bytes n (omega arith))
    step false e = rw e refl
