-- What a reading is at each list of lexemes.
use Rattle.std.proofs.Common.{◌≡◌, ℕ, zero, suc, List, [], ◌∷◌, drop, refl, sym, ap, ◌∙◌}
use Rattle.syntax_tree.specs.Lexeme.{Lexeme}
use Rattle.syntax_tree.specs.Expression.{Expression, Part, Maybe}
use Rattle.expr_reader.specs.Reading.{core_at, from_here, list_at, at_lexeme, at_end, after, reading, on}

module _ (glue : Maybe → Expression → Part) where
  after-drop : (ts : List Lexeme) (d : ℕ) → after glue ts d ≡ reading glue (drop d ts)
  unfolding after reading
  after-drop [] zero = refl
  after-drop [] (suc d) = refl
  after-drop (t ∷ ts) zero = refl
  after-drop (t ∷ ts) (suc d) = after-drop ts d

  after-all : (ts : List Lexeme) → after glue ts ≡ (λ d. reading glue (drop d ts))
  after-all ts = λ i d. after-drop ts d i

  pub reading_at : (t : Lexeme) (ts : List Lexeme) → reading glue (t ∷ ts) ≡ at_lexeme glue (λ d. reading glue (drop d ts)) t
  unfolding reading after
  reading_at t ts = ap (λ f. at_lexeme glue f t) (after-all ts)

  pub reading_at_end : reading glue [] ≡ at_end glue
  unfolding reading after
  reading_at_end = refl

  -- the core at a lexeme
  pub core_reading : (t : Lexeme) (ts : List Lexeme) → (reading glue (t ∷ ts)).core ≡ core_at (λ d. reading glue (drop d ts)) t
  core_reading t ts = ap (λ r. r.core) (reading_at t ts)

  from_here_each : (t : Lexeme) (ts : List Lexeme) (d : ℕ)
      → from_here (core_at (λ d. reading glue (drop d ts)) t) (λ d. reading glue (drop d ts)) d ≡ (reading glue (drop d (t ∷ ts))).core
  from_here_each t ts zero = sym (core_reading t ts)
  from_here_each t ts (suc d) = refl

  -- a list is read by what is read from there on
  pub list_reading : (t : Lexeme) (ts : List Lexeme) → (reading glue (t ∷ ts)).list ≡ list_at glue (λ d. (reading glue (drop d (t ∷ ts))).core)
  list_reading t ts = ap (λ r. r.list) (reading_at t ts) ∙ ap (list_at glue) (λ i d. from_here_each t ts d i)

  on_nil : (d : ℕ) → on glue [] d ≡ at_end glue
  on_nil zero = reading_at_end
  on_nil (suc d) = reading_at_end

  -- at any list of lexemes
  pub list_all : (ts : List Lexeme) → (reading glue ts).list ≡ list_at glue (λ d. (on glue ts d).core)
  list_all [] = ap (λ r. r.list) reading_at_end ∙ sym (ap (list_at glue) (λ i d. (on_nil d i).core))
  list_all (t ∷ ts) = list_reading t ts
