-- A well-formed part in front: whole, or up to and with its first expression that is too deep.
use Rattle.std.proofs.Common.{◌≡◌, Bool, true, false, List, ◌++◌, Option, Some, None, ◌⊎◌, inl, inr, ⊎_elim, refl, sym, ap, ◌∙◌, subst, append_assoc}
use Rattle.std.specs.Prelude.{if◌then◌else◌}
use Rattle.syntax_tree.specs.Lexeme.{Lexeme}
use Rattle.line_forms.specs.declared.depths.Depths.{Depths}
use Rattle.line_forms.specs.declared.read_error.ReadError.TheVariants.{TooDeep}
use Rattle.line_forms.specs.Reading.{Reading, Found, Stopped, ◌>>=◌}
use Rattle.line_forms.specs.Grammar.{Grammar, Value}
use Rattle.line_forms.specs.Printed.{printed, value_kept}
use Rattle.line_forms.specs.DeepFront.{preceded, front_or, deep_front}
use Rattle.line_forms.specs.Ll1.{FirstItem, Begins}

-- lexemes and what is to be read of them: after a whole part stands what `after` says, and after its front anything
abbrev pub StandsAs : {A : Type 0} → Option (List Lexeme) → List Lexeme → A → (List Lexeme → Type 0) → List Lexeme → Reading A → Type 0
StandsAs None text x After ts r = (us : List Lexeme) × After us × (ts ≡ text ++ us) × (r ≡ Found (x, us))
StandsAs (Some front) text x After ts r = (us : List Lexeme) × (ts ≡ front ++ us) × (r ≡ Stopped TooDeep)

abbrev pub Stands : (depths : Depths) (g : Grammar) → Value g → List FirstItem → List Lexeme → Reading (Value g) → Type 0
Stands depths g v fs ts r = StandsAs (deep_front depths g v) (printed g v) (value_kept g v) (Begins fs) ts r

pub stands_whole : (depths : Depths) (g : Grammar) (v : Value g) (fs : List FirstItem) (us : List Lexeme) → deep_front depths g v ≡ None
    → Begins fs us → Stands depths g v fs (printed g v ++ us) (Found (value_kept g v, us))
stands_whole depths g v fs us h b =
    subst (λ o. StandsAs o (printed g v) (value_kept g v) (Begins fs) (printed g v ++ us) (Found (value_kept g v, us))) (sym h) (us, b, refl, refl)

pub stands_deep : (depths : Depths) (g : Grammar) (v : Value g) (fs : List FirstItem) (front rest ts : List Lexeme)
    → deep_front depths g v ≡ Some front → ts ≡ front ++ rest → Stands depths g v fs ts (Stopped TooDeep)
stands_deep depths g v fs front rest ts h is =
    subst (λ o. StandsAs o (printed g v) (value_kept g v) (Begins fs) ts (Stopped TooDeep)) (sym h) (rest, is, refl)

-- after fixed lexemes
pub after_prefix : {A : Type 0} (ks : List Lexeme) (o : Option (List Lexeme)) (text : List Lexeme) (x : A) (After : List Lexeme → Type 0) (ts : List Lexeme) (r : Reading A)
    → StandsAs (preceded ks o) (ks ++ text) x After ts r → (us : List Lexeme) × (ts ≡ ks ++ us) × StandsAs o text x After us r
after_prefix ks None text x After ts r s = (text ++ s.0, s.2 ∙ append_assoc ks text s.0, (s.0, s.1, refl, s.3))
after_prefix ks (Some front) text x After ts r s = (front ++ s.0, s.1 ∙ append_assoc ks front s.0, (s.0, refl, s.2))

-- one part after another: the first one stands with its front, or is whole and the second one stands after it
pub parted : {A B : Type 0} (o : Option (List Lexeme)) (text : List Lexeme) (x : A) (First : List Lexeme → Type 0) (p : Option (List Lexeme))
    (text' : List Lexeme) (z : B) (After : List Lexeme → Type 0) (ts : List Lexeme) (r : Reading B)
    → StandsAs (front_or o text p) (text ++ text') z After ts r
    → (StandsAs o text x First ts (Stopped TooDeep) × (r ≡ Stopped TooDeep))
    ⊎ ((us : List Lexeme) × (ts ≡ text ++ us) × StandsAs p text' z After us r × (First us → StandsAs o text x First ts (Found (x, us))))
parted (Some front) text x First p text' z After ts r s = inl ((s.0, s.1, refl), s.2)
parted None text x First None text' z After ts r s =
    let us = text' ++ s.0 in
    let is = s.2 ∙ append_assoc text text' s.0 in
    inr (us, is, (s.0, s.1, refl, s.3), λ b. (us, b, is, refl))
parted None text x First (Some front) text' z After ts r s =
    let us = front ++ s.0 in
    let is = s.1 ∙ append_assoc text front s.0 in
    inr (us, is, (s.0, refl, s.2), λ b. (us, b, is, refl))

-- the reading of one part after another
pub then_reads : {A B : Type 0} (o : Option (List Lexeme)) (text : List Lexeme) (x : A) (First : List Lexeme → Type 0) (p : Option (List Lexeme))
    (text' : List Lexeme) (z : B) (After : List Lexeme → Type 0) (ts : List Lexeme) (r : Reading B)
    → StandsAs (front_or o text p) (text ++ text') z After ts r
    → (q : Reading A) → ((r' : Reading A) → StandsAs o text x First ts r' → q ≡ r')
    → (next : A × List Lexeme → Reading B) → ((us : List Lexeme) → StandsAs p text' z After us r → First us)
    → ((us : List Lexeme) → ts ≡ text ++ us → StandsAs p text' z After us r → next (x, us) ≡ r)
    → (q >>= next) ≡ r
then_reads o text x First p text' z After ts r s q ih next begins more =
    ⊎_elim
    (λ d. ap (λ q. q >>= next) (ih (Stopped TooDeep) d.0) ∙ sym d.1)
    (λ w. ap (λ q. q >>= next) (ih (Found (x, w.0)) (w.3 (begins w.0 w.2))) ∙ more w.0 w.1 w.2)
    (parted o text x First p text' z After ts r s)

-- how lexemes begin with one part after another
pub then_begins : {A B : Type 0} {Q : Type 0} (o : Option (List Lexeme)) (text : List Lexeme) (x : A) (First : List Lexeme → Type 0)
    (p : Option (List Lexeme)) (text' : List Lexeme) (z : B) (After : List Lexeme → Type 0) (ts : List Lexeme) (r : Reading B)
    → StandsAs (front_or o text p) (text ++ text') z After ts r
    → ((r' : Reading A) → StandsAs o text x First ts r' → Q) → ((us : List Lexeme) → StandsAs p text' z After us r → First us) → Q
then_begins o text x First p text' z After ts r s ih begins =
    ⊎_elim (λ d. ih (Stopped TooDeep) d.0) (λ w. ih (Found (x, w.0)) (w.3 (begins w.0 w.2))) (parted o text x First p text' z After ts r s)

-- what makes something of a part
pub unmapped : {A B : Type 0} (o : Option (List Lexeme)) (text : List Lexeme) (x : A) (f : A → B) (After First : List Lexeme → Type 0) (ts : List Lexeme) (r : Reading B)
    → ((us : List Lexeme) → After us → First us) → StandsAs o text (f x) After ts r → (r' : Reading A) × StandsAs o text x First ts r'
unmapped None text x f After First ts r begins s = (Found (x, s.0), (s.0, begins s.0 s.1, s.2, refl))
unmapped (Some front) text x f After First ts r begins s = (Stopped TooDeep, (s.0, s.1, refl))

-- a reading that goes on after a part to what is made of it
pub followed : {A B : Type 0} (o : Option (List Lexeme)) (text : List Lexeme) (x : A) (z : B) (After First : List Lexeme → Type 0) (ts : List Lexeme) (r : Reading B)
    → StandsAs o text z After ts r → ((us : List Lexeme) → After us → First us) → (q : Reading A) → ((r' : Reading A) → StandsAs o text x First ts r' → q ≡ r')
    → (next : A × List Lexeme → Reading B) → ((us : List Lexeme) → After us → next (x, us) ≡ Found (z, us)) → (q >>= next) ≡ r
followed None text x z After First ts r s begins q ih next h = ap (λ q. q >>= next) (ih (Found (x, s.0)) (s.0, begins s.0 s.1, s.2, refl)) ∙ h s.0 s.1 ∙ sym s.3
followed (Some front) text x z After First ts r s begins q ih next h = ap (λ q. q >>= next) (ih (Stopped TooDeep) (s.0, s.1, refl)) ∙ sym s.2

-- the same, where nothing more is read
pub mapped : {A B : Type 0} (o : Option (List Lexeme)) (text : List Lexeme) (x : A) (f : A → B) (After : List Lexeme → Type 0) (ts : List Lexeme) (r : Reading B)
    → StandsAs o text (f x) After ts r → (q : Reading A) → ((r' : Reading A) → StandsAs o text x After ts r' → q ≡ r') → (q >>= λ v. Found (f v.0, v.1)) ≡ r
mapped o text x f After ts r s q ih = followed o text x (f x) After After ts r s (λ us b. b) q ih (λ v. Found (f v.0, v.1)) (λ us b. refl)

-- an expression whose front is itself
pub text_stands : {A : Type 0} (b : Bool) (text : List Lexeme) (x : A) (After : List Lexeme → Type 0) (ts : List Lexeme) (r : Reading A)
    → StandsAs (if b then Some text else None) text x After ts r → (us : List Lexeme) × (ts ≡ text ++ us)
text_stands true text x After ts r s = (s.0, s.1)
text_stands false text x After ts r s = (s.0, s.2)
