-- One element more of a list.
use Rattle.std.proofs.Common.{◌≡◌, ◌≢◌, ◌≤◌, ◌<◌, ℕ, zero, suc, Bool, true, false, List, [], ◌∷◌, ◌++◌, length, drop, refl, sym, ap, ◌∙◌, subst, arith, append_assoc, length-drop}
use Rattle.std.specs.Prelude.{if◌then◌else◌, map, Result, Ok, Err}
use Rattle.std.specs.Result.{IsErrAnd}
use Rattle.std.proofs.lemmas.List.{map-append}
use Rattle.syntax_tree.specs.Lexeme.{Lexeme}
use Rattle.line_forms.specs.declared.read_error.ReadError.{ReadError}
use Rattle.line_forms.specs.declared.read_error.ReadError.TheVariants.{Memory}
use Rattle.line_forms.specs.Reading.{Reading, Found, Stopped, ◌>>=◌}
use Rattle.line_forms.specs.Read.{comma_list}
use Rattle.line_forms.specs.Gives.{Gives, with_front}
use Rattle.line_forms.specs.InFront.{On}

front_twice : {A : Type 0} (xs : List A) (x : A) (r : Reading (List A)) → with_front xs (r >>= λ ys. Found (x ∷ ys.0, ys.1)) ≡ with_front (xs ++ x ∷ []) r
front_twice xs x (Found ys) = ap (λ l. Found (l, ys.1)) (sym (append_assoc xs (x ∷ []) ys.0))
front_twice xs x (Stopped why) = refl

module _ {X A : Type 0} (view : X → A) (next : List Lexeme → Bool) (part : List Lexeme → Reading A) (front : List X) (ts : List Lexeme) (whole : Reading (List A)) where
  abbrev pub Kept : ℕ → Type 0
  Kept most = (length ts < most) × (with_front (map view front) (comma_list next part most ts) ≡ whole)

  -- what the first element decides
  abbrev on : ℕ → A × List Lexeme → Reading (List A)
  on most x = if next x.1 then (comma_list next part most (drop 1 x.1) >>= λ xs. Found (x.0 ∷ xs.0, xs.1)) else Found (x.0 ∷ [], x.1)

  turn : (most : ℕ) (r : Reading A) → part ts ≡ r → Kept (suc most) → with_front (map view front) (r >>= on most) ≡ whole
  unfolding comma_list
  turn most r is k = ap (λ r. with_front (map view front) (r >>= on most)) (sym is) ∙ k.1

  pub stops : (most : ℕ) → Kept most → (why : ReadError) → part ts ≡ Stopped why → whole ≡ Stopped why
  stops zero k why is = let no = k.0 in absurd (omega arith)
  stops (suc most) k why is = sym (turn most (Stopped why) is k)

  pub ends : (most : ℕ) → Kept most → (x : X) (us : List Lexeme) → part ts ≡ Found (view x, us) → (more : Bool) → more ≡ next us → more ≡ false
      → (back : List X) → back ≡ front ++ x ∷ [] → whole ≡ Found (map view back, us)
  ends zero k x us is more now h back all = let no = k.0 in absurd (omega arith)
  ends (suc most) k x us is more now h back all =
      sym (turn most (Found (view x, us)) is k)
      ∙ ap (λ b. with_front (map view front) (if b then (comma_list next part most (drop 1 us) >>= λ xs. Found (view x ∷ xs.0, xs.1)) else Found (view x ∷ [], us))) (sym now ∙ h)
      ∙ ap (λ l. Found (l, us)) (sym (map-append view front (x ∷ [])) ∙ sym (ap (map view) all))

  on_more : (most : ℕ) → Kept (suc most) → (x : X) (us : List Lexeme) → part ts ≡ Found (view x, us) → next us ≡ true
      → with_front (map view (front ++ x ∷ [])) (comma_list next part most (drop 1 us)) ≡ whole
  on_more most k x us is h =
      ap (λ l. with_front l (comma_list next part most (drop 1 us))) (map-append view front (x ∷ []))
      ∙ sym (front_twice (map view front) (view x) (comma_list next part most (drop 1 us)))
      ∙ sym (ap (λ b. with_front (map view front) (if b then (comma_list next part most (drop 1 us) >>= λ xs. Found (view x ∷ xs.0, xs.1)) else Found (view x ∷ [], us))) h)
      ∙ turn most (Found (view x, us)) is k

  pub goes : (most : ℕ) → Kept most → (x : X) (us : List Lexeme) → part ts ≡ Found (view x, us) → (more : Bool) → more ≡ next us → more ≡ true
      → (back : List X) → back ≡ front ++ x ∷ [] → (rest : List Lexeme) → rest ≡ drop 1 us → length rest < length ts
      → (n : ℕ) × (length rest < n) × (with_front (map view back) (comma_list next part n rest) ≡ whole)
  goes zero k x us is more now h back all rest after less = let no = k.0 in absurd (omega arith)
  goes (suc most) k x us is more now h back all rest after less =
      let within = k.0 in
      let go : next us ≡ true = sym now ∙ h in
      (most, omega arith, (λ i. with_front (map view (all i)) (comma_list next part most (after i))) ∙ on_more most k x us is go)

-- fewer lexemes are after what was read and one more
pub fewer : {A : Type 0} (r : Reading A) (ts : List Lexeme) → On r (λ x. length x.1 ≤ length ts) → (x : A) (us : List Lexeme) → r ≡ Found (x, us)
    → 1 ≤ length us → length (drop 1 us) < length ts
fewer r ts h x us is some =
    let le : length us ≤ length ts = subst (λ r. On r (λ x. length x.1 ≤ length ts)) is h in
    omega (arith, length-drop 1 us)

-- what is handed on was the cause
pub refused : {X A : Type 0} (view : X → A × List Lexeme) (r : Result X ReadError) (whole : Reading A) (why : ReadError) → IsErrAnd r (λ e. e ≡ why)
    → ((why ≢ Memory) → whole ≡ Stopped why) → Gives view r whole
refused view (Ok x) whole why is h = absurd is
refused view (Err e) whole why is h = λ no. h (subst (λ e. e ≢ Memory) is no) ∙ ap Stopped (sym is)
