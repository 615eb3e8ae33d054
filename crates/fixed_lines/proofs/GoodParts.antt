-- The parts of bytes that aren't bad, and what stands in such bytes.
use Rattle.std.proofs.Common.{◌≡◌, ℕ, zero, suc, ◌+◌, ◌-◌, ◌≤◌, Bool, true, false, List, [], ◌∷◌, ◌++◌, length, take, drop, one-add, refl, sym, ap, subst, ◌∙◌, append_assoc, arith, reverse}
use Rattle.std.specs.Prelude.{◌==◌, ◌||◌, ◌&&◌, not, filter, nat_eq, nat_le}
use Rattle.std.specs.Cmp.Lexicographic.{pointwise}
use Rattle.std.specs.List.{concat, ends_with, starts_with, prefix_len, list_any}
use Rattle.std.proofs.Math.Seq.{take-append_seam, drop-append_seam, take-length}
use Rattle.std.proofs.lemmas.Bool.{eqb-true, eq-eqb, false≢true, false_from_ne_true}
use Rattle.std.proofs.lemmas.List.Folds.{list_any-append}
use Rattle.std.proofs.lemmas.List.{length-append, length-drop, reverse-append}
use Rattle.source_lines.specs.declared.line.LineKind.{LineKind}
use Rattle.source_lines.specs.Cut.{cut}
use Rattle.source_lines.specs.PhysicalLines.{first_part, is_delimiter, is_comment, is_blank, is_bad_text, is_bad_part, is_barred, is_control, parts, without_blanks}
use Rattle.source_lines.proofs.Cuts.{cut-first}
use Rattle.source_lines.proofs.PartLaws.{parts-comment, parts-part, first_part-some}
use Rattle.fixed_lines.specs.FixedLines.{is_ampersand}

-- the first byte, blanks aside, is `&`
abbrev pub leads : List ℕ → Bool
leads bytes = starts_with nat_eq (without_blanks bytes) (38 ∷ [])

-- a part that is one wherever it stands, and neither `&` nor a comment
pub record IsGood (p : List ℕ) : Type 0 where
  pub some : 1 ≤ length p
  pub alone : (ys : List ℕ) → first_part (p ++ ys) ≡ length p
  pub stays : is_comment p ≡ false
  pub front : leads p ≡ false
  pub end : leads (reverse p) ≡ false
  pub clean : list_any is_control p ≡ false

abbrev pub AreGood : List (List ℕ) → Type 0
AreGood [] = Unit {0}
AreGood (p ∷ ps) = IsGood p × AreGood ps

pub leads_blank : (b : ℕ) (xs : List ℕ) → is_blank b ≡ true → leads (b ∷ xs) ≡ leads xs
leads_blank b xs t = rw (t, one-add (prefix_len is_blank xs)) refl

pub leads_other : (b : ℕ) (xs : List ℕ) → is_blank b ≡ false → leads (b ∷ xs) ≡ (38 == b)
leads_other b xs t = rw t (both (38 == b))
  where
    both : (t : Bool) → (t && true) ≡ t
    both true = refl
    both false = refl

pub leads-append : (xs ys : List ℕ) → leads xs ≡ false → leads ys ≡ false → leads (xs ++ ys) ≡ false
leads-append [] ys x y = y
leads-append (b ∷ xs) ys x y = step (is_blank b) refl (leads-append xs ys)
  where
    step : (t : Bool) → is_blank b ≡ t → (leads xs ≡ false → leads ys ≡ false → leads (xs ++ ys) ≡ false) → leads (b ∷ xs ++ ys) ≡ false
    step true t after = leads_blank b (xs ++ ys) t ∙ after (sym (leads_blank b xs t) ∙ x) y
    step false t after = leads_other b (xs ++ ys) t ∙ sym (leads_other b xs t) ∙ x

-- the first part of good parts is the first of them
pub cut_good : (ps : List (List ℕ)) (ys : List ℕ) → AreGood ps → cut first_part (concat ps ++ ys) ≡ ps ++ cut first_part ys
cut_good [] ys good = refl
cut_good (p ∷ ps) ys good =
    let g = good.0 in
    let whole = p ++ (concat ps ++ ys) in
    let cuts : cut first_part whole ≡ take (length p) whole ∷ cut first_part (drop (length p) whole) =
    cut-first first_part whole (length p) (g.alone (concat ps ++ ys)) g.some (omega (arith, length-append p (concat ps ++ ys))) in
    rw (append_assoc p (concat ps) ys)
    (cuts ∙ rw (take-append_seam p (concat ps ++ ys), drop-append_seam p (concat ps ++ ys)) (ap (λ l. p ∷ l) (cut_good ps ys good.1)))

pub keep_good : (ps : List (List ℕ)) → AreGood ps → filter (λ part. not (is_comment part)) ps ≡ ps
keep_good [] good = refl
keep_good (p ∷ ps) good = let stays = good.0.stays in rw stays (ap (λ l. p ∷ l) (keep_good ps good.1))

pub leads_good : (ps : List (List ℕ)) → AreGood ps → leads (concat ps) ≡ false
leads_good [] good = refl
leads_good (p ∷ ps) good = leads-append p (concat ps) good.0.front (leads_good ps good.1)

pub ends_good : (ps : List (List ℕ)) → AreGood ps → leads (reverse (concat ps)) ≡ false
ends_good [] good = refl
ends_good (p ∷ ps) good =
    rw (reverse-append p (concat ps)) (leads-append (reverse (concat ps)) (reverse p) (ends_good ps good.1) good.0.end)

-- bytes without `d`
abbrev pub lacks : ℕ → List ℕ → Type 0
lacks d t = prefix_len (λ c. not (c == d)) t ≡ length t

same_byte : (d : ℕ) → (d == d) ≡ true
same_byte d = eq-eqb d d refl

stop : (d : ℕ) (t rest : List ℕ) → lacks d t → prefix_len (λ c. not (c == d)) (t ++ d ∷ rest) ≡ length t
stop d [] rest l = rw (same_byte d) refl
stop d (c ∷ t) rest l = step (c == d) refl l (stop d t rest)
  where
    step : (b : Bool) → (c == d) ≡ b → lacks d (c ∷ t) → (lacks d t → prefix_len (λ c. not (c == d)) (t ++ d ∷ rest) ≡ length t)
        → prefix_len (λ c. not (c == d)) ((c ∷ t) ++ d ∷ rest) ≡ length (c ∷ t)
    step true e l after = let l' = rw e at l in absurd (omega (arith, l'))
    step false e l after =
        let l' = rw e at l in
        let m : lacks d t = omega (arith, l') in
        rw e (omega (arith, after m))

other : (d c : ℕ) → (c == d) ≡ false → (d == c) ≡ false
other d c e = false_from_ne_true (d == c) (λ t. false≢true (sym e ∙ eq-eqb c d (sym (eqb-true d c t))))

-- bytes have a first `d`, or none
pub data Found (d : ℕ) (bytes : List ℕ) : Type 0 where
  at : (t rest : List ℕ) → bytes ≡ t ++ d ∷ rest → lacks d t → Found d bytes
  nowhere : lacks d bytes → ends_with nat_eq bytes (d ∷ []) ≡ false → Found d bytes

pub find_it : (d : ℕ) (bytes : List ℕ) → Found d bytes
find_it d [] = nowhere refl refl
find_it d (c ∷ bytes) = step (c == d) refl (find_it d bytes)
  where
    after : (c == d) ≡ false → lacks d bytes → ends_with nat_eq bytes (d ∷ []) ≡ false → ends_with nat_eq (c ∷ bytes) (d ∷ []) ≡ false
    after e l f = last bytes f
      where
        last : (bytes : List ℕ) → ends_with nat_eq bytes (d ∷ []) ≡ false → ends_with nat_eq (c ∷ bytes) (d ∷ []) ≡ false
        last [] f = rw (other d c e) refl
        last (b ∷ bytes) f =
            let long : length (c ∷ b ∷ bytes) - 1 ≡ suc (length bytes) = omega arith in
            let short : length (b ∷ bytes) - 1 ≡ length bytes = omega arith in
            ap (λ n. pointwise nat_eq (d ∷ []) (drop n (c ∷ b ∷ bytes))) long ∙ ap (λ n. pointwise nat_eq (d ∷ []) (drop n (b ∷ bytes))) (sym short) ∙ f

    step : (b : Bool) → (c == d) ≡ b → Found d bytes → Found d (c ∷ bytes)
    step true e f = at [] bytes (ap (λ x. x ∷ bytes) (eqb-true c d e)) refl
    step false e (at t rest whole l) = at (c ∷ t) rest (ap (λ l. c ∷ l) whole) (rw e (omega (arith, l)))
    step false e (nowhere l f) = nowhere (rw e (omega (arith, l))) (after e l f)

pub either-false : (a b : Bool) → (a || b) ≡ false → (a ≡ false) × (b ≡ false)
either-false true b e = absurd (false≢true (sym e))
either-false false b e = (refl, e)

-- a delimiter is `'` or `"`
record IsQuote (d : ℕ) : Type 0 where
  no_comment : (d == 33) ≡ false
  no_blank : is_blank d ≡ false
  no_ampersand : (38 == d) ≡ false
  no_control : is_control d ≡ false

quotes : (d : ℕ) → is_delimiter d ≡ true → IsQuote d
quotes d e = step (d == 39) refl e
  where
    step : (t : Bool) → (d == 39) ≡ t → (t || d == 34) ≡ true → IsQuote d
    step true t e = subst IsQuote (sym (eqb-true d 39 t)) (record { no_comment = refl; no_blank = refl; no_ampersand = refl; no_control = refl })
    step false t e = subst IsQuote (sym (eqb-true d 34 e)) (record { no_comment = refl; no_blank = refl; no_ampersand = refl; no_control = refl })

leads-byte : (b : ℕ) → (b == 38) ≡ false → leads (b ∷ []) ≡ false
leads-byte b e = step (is_blank b) refl
  where
    step : (t : Bool) → is_blank b ≡ t → leads (b ∷ []) ≡ false
    step true t = leads_blank b [] t
    step false t = leads_other b [] t ∙ other 38 b e

good_byte : (b : ℕ) → is_delimiter b ≡ false → (b == 33) ≡ false → (b == 38) ≡ false → is_control b ≡ false → IsGood (b ∷ [])
good_byte b d c a n = record {
  clean = ap (λ t. t || false) n;
  some = omega arith;
  alone = λ ys. rw (d, c) refl;
  stays = c;
  front = leads-byte b a;
  end = leads-byte b a;
}

text_alone : (d : ℕ) (t ys : List ℕ) → is_delimiter d ≡ true → lacks d t → first_part (d ∷ (t ++ d ∷ ys)) ≡ length t + 2
text_alone d t ys e l = rw (e, stop d t ys l) (omega (arith, length-append t (d ∷ ys)))

good_text : (d : ℕ) (t : List ℕ) → is_delimiter d ≡ true → lacks d t → list_any is_control (t ++ d ∷ []) ≡ false → IsGood (d ∷ (t ++ d ∷ []))
good_text d t e l n =
    let q = quotes d e in record {
      clean = λ i. q.no_control i || n i;
      some = omega arith;
      alone = λ ys.
          ap (λ l. first_part (d ∷ l)) (append_assoc t (d ∷ []) ys) ∙ text_alone d t ys e l
          ∙ omega (arith, length-append t (d ∷ []));
      stays = q.no_comment;
      front = leads_other d (t ++ d ∷ []) q.no_blank ∙ q.no_ampersand;
      end =
          ap leads (reverse-append (d ∷ []) (t ++ d ∷ [])) ∙ ap (λ l. leads (l ++ d ∷ [])) (reverse-append t (d ∷ [])) ∙ leads_other d (reverse t ++ d ∷ []) q.no_blank ∙ q.no_ampersand;
    }

-- a part that isn't bad, nor `&`
abbrev pub is_bad_here : LineKind → List ℕ → Bool
is_bad_here kind part = is_bad_part kind part || is_ampersand part

good_first : (kind : LineKind) (b : ℕ) (bytes : List ℕ) → (b == 33) ≡ false → is_bad_here kind (take (first_part (b ∷ bytes)) (b ∷ bytes)) ≡ false
    → IsGood (take (first_part (b ∷ bytes)) (b ∷ bytes))
good_first kind b bytes c fine = step (is_delimiter b) refl
  where
    one : is_delimiter b ≡ false → first_part (b ∷ bytes) ≡ 1
    one e = rw (e, c) refl

    inside : is_delimiter b ≡ true → Found b bytes → IsGood (take (first_part (b ∷ bytes)) (b ∷ bytes))
    inside e (at t rest whole l) =
        let long : first_part (b ∷ bytes) ≡ length (b ∷ (t ++ b ∷ [])) =
        ap (λ l. first_part (b ∷ l)) whole ∙ text_alone b t rest e l ∙ omega (arith, length-append t (b ∷ [])) in
        let all : b ∷ bytes ≡ (b ∷ (t ++ b ∷ [])) ++ rest = ap (λ l. b ∷ l) (whole ∙ sym (append_assoc t (b ∷ []) rest)) in
        let part : take (first_part (b ∷ bytes)) (b ∷ bytes) ≡ b ∷ (t ++ b ∷ []) =
        ap (λ n. take n (b ∷ bytes)) long ∙ ap (take (length (b ∷ (t ++ b ∷ [])))) all ∙ take-append_seam (b ∷ (t ++ b ∷ [])) rest in
        let fine' : is_bad_here kind (b ∷ (t ++ b ∷ [])) ≡ false = ap (is_bad_here kind) (sym part) ∙ fine in
        let bad : is_bad_part kind (b ∷ (t ++ b ∷ [])) ≡ false = (either-false _ _ fine').0 in
        let bad' : is_bad_text b (t ++ b ∷ []) ≡ false = rw e at bad in
        subst IsGood (sym part) (good_text b t e l (either-false (not (ends_with nat_eq (t ++ b ∷ []) (b ∷ []))) _ bad').1)
    inside e (nowhere l f) =
        let long : first_part (b ∷ bytes) ≡ length (b ∷ bytes) = rw (e, l) (omega arith) in
        let part : take (first_part (b ∷ bytes)) (b ∷ bytes) ≡ b ∷ bytes = ap (λ n. take n (b ∷ bytes)) long ∙ take-length (b ∷ bytes) in
        let bad : is_bad_here kind (b ∷ bytes) ≡ false = ap (is_bad_here kind) (sym part) ∙ fine in
        let bad' = rw (e, f) at bad in
        absurd (false≢true (sym bad'))

    step : (t : Bool) → is_delimiter b ≡ t → IsGood (take (first_part (b ∷ bytes)) (b ∷ bytes))
    step true e = inside e (find_it b bytes)
    step false e =
        let part : take (first_part (b ∷ bytes)) (b ∷ bytes) ≡ b ∷ [] = ap (λ n. take n (b ∷ bytes)) (one e) in
        let fine' : is_bad_here kind (b ∷ []) ≡ false = ap (is_bad_here kind) (sym part) ∙ fine in
        let a : ((b == 38) && true) ≡ false = (either-false (is_bad_part kind (b ∷ [])) (is_ampersand (b ∷ [])) fine').1 in
        let bad : is_bad_part kind (b ∷ []) ≡ false = (either-false (is_bad_part kind (b ∷ [])) (is_ampersand (b ∷ [])) fine').0 in
        let bad' : (is_control b || nat_le 128 b || is_barred kind b) ≡ false = rw e at bad in
        subst IsGood (sym part) (good_byte b e c (left (b == 38) a) (either-false (is_control b) (nat_le 128 b) (either-false (is_control b || nat_le 128 b) (is_barred kind b) bad').0).0)
      where
        left : (t : Bool) → (t && true) ≡ false → t ≡ false
        left true e = e
        left false e = e

good_within : (kind : LineKind) (bound : ℕ) (bytes : List ℕ) → length bytes ≤ bound → list_any (is_bad_here kind) (parts bytes) ≡ false → AreGood (parts bytes)
good_within kind bound [] within fine = tt
good_within kind zero (b ∷ bytes) within fine = absurd (omega arith)
good_within kind (suc bound) (b ∷ bytes) within fine = step (b == 33) refl (good_within kind bound (drop (first_part (b ∷ bytes)) (b ∷ bytes)))
  where
    step : (t : Bool) → (b == 33) ≡ t
        → (length (drop (first_part (b ∷ bytes)) (b ∷ bytes)) ≤ bound → list_any (is_bad_here kind) (parts (drop (first_part (b ∷ bytes)) (b ∷ bytes))) ≡ false
        → AreGood (parts (drop (first_part (b ∷ bytes)) (b ∷ bytes))))
        → AreGood (parts (b ∷ bytes))
    step true e after = subst AreGood (sym (parts-comment b bytes (eqb-true b 33 e))) tt
    step false e after =
        let cuts = parts-part b bytes e in
        let fine' : list_any (is_bad_here kind) (take (first_part (b ∷ bytes)) (b ∷ bytes) ∷ parts (drop (first_part (b ∷ bytes)) (b ∷ bytes))) ≡ false =
        ap (list_any (is_bad_here kind)) (sym cuts) ∙ fine in
        let both = either-false _ _ fine' in
        subst AreGood (sym cuts) (
          good_first kind b bytes e both.0,
          after (omega (arith, length-drop (first_part (b ∷ bytes)) (b ∷ bytes), first_part-some b bytes)) both.1,
        )

-- where no part of the bytes is bad, all are good
pub good_parts : (kind : LineKind) (bytes : List ℕ) → list_any (is_bad_here kind) (parts bytes) ≡ false → AreGood (parts bytes)
good_parts kind bytes fine = good_within kind (length bytes) bytes (omega arith) fine

pub clean_good : (ps : List (List ℕ)) → AreGood ps → list_any is_control (concat ps) ≡ false
clean_good [] good = refl
clean_good (p ∷ ps) good =
    let here = good.0.clean in
    let rest = clean_good ps good.1 in
    list_any-append is_control p (concat ps) ∙ (λ i. here i || rest i)
