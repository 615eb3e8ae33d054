-- One step of a reading after another, and lists.
use Rattle.line_forms.specs.declared.read_error.ReadError.{ReadError}
use Rattle.std.proofs.Common.{◌⊎◌, inl, inr, ◌≡◌, ℕ, zero, suc, Bool, true, false, List, [], ◌∷◌, refl, drop, ap}
use Rattle.std.specs.Prelude.{if◌then◌else◌}
use Rattle.syntax_tree.specs.Lexeme.{Lexeme}
use Rattle.line_forms.specs.Reading.{Reading, Found, Stopped, ◌>>=◌}
use Rattle.line_forms.specs.Read.{comma_list}

-- what was found first, and then
pub record Steps {A B : Type 0} (r : Reading A) (f : A × List Lexeme → Reading B) (y : B × List Lexeme) : Type 0 where
  pub x : A × List Lexeme
  pub was : r ≡ Found x
  pub next : f x ≡ Found y

pub steps : {A B : Type 0} (r : Reading A) (f : A × List Lexeme → Reading B) (y : B × List Lexeme) → (r >>= f) ≡ Found y → Steps r f y
steps (Found x) f y h = record { x = x; was = refl; next = h }
steps (Stopped e) f y h = absurd cc

pub found_is : {A : Type 0} (x y : A × List Lexeme) → Found x ≡ Found y → x ≡ y
found_is x y h = cc

-- a list that is read isn't empty
pub filled : {A : Type 0} (next : List Lexeme → Bool) (part : List Lexeme → Reading A) (n : ℕ) (ts : List Lexeme) (x : List A × List Lexeme)
    → comma_list next part n ts ≡ Found x → x.0 ≡ [] → ⊥
unfolding comma_list
filled {A = A} next part zero ts x h e = cc
filled {A = A} next part (suc n) ts x h e =
    let s = steps (part ts) _ x h in
    last s.x (comma_list next part n (drop 1 s.x.1)) (next s.x.1) s.next
  where
    more : (y : A) (r : Reading (List A)) → (r >>= λ xs. Found (y ∷ xs.0, xs.1)) ≡ Found x → ⊥
    more y (Found xs) h = cc
    more y (Stopped why) h = cc

    last : (y : A × List Lexeme) (r : Reading (List A)) (b : Bool) → (if b then (r >>= λ xs. Found (y.0 ∷ xs.0, xs.1)) else Found (y.0 ∷ [], y.1)) ≡ Found x → ⊥
    last y r true h = more y.0 r h
    last y r false h = cc

stopped_is : {A : Type 0} (e why : ReadError) → ◌≡◌ {A = Reading A} (Stopped e) (Stopped why) → e ≡ why
stopped_is e why h = cc

-- where a reading stopped
pub stops : {A B : Type 0} (r : Reading A) (f : A × List Lexeme → Reading B) (why : ReadError) → (r >>= f) ≡ Stopped why
    → (r ≡ Stopped why) ⊎ ((x : A × List Lexeme) × (r ≡ Found x) × (f x ≡ Stopped why))
stops (Found x) f why h = inr (x, refl, h)
stops (Stopped e) f why h = inl (let same : e ≡ why = stopped_is e why h in ap Stopped same)
