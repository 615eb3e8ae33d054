-- The front of a part is a front of its lexemes.
use Rattle.std.proofs.Common.{◌≡◌, Bool, true, false, List, [], ◌∷◌, ◌++◌, Option, Some, None, inl, inr, refl, sym, ap, ◌∙◌, subst, append_assoc, append-nil}
use Rattle.std.specs.Prelude.{if◌then◌else◌, map}
use Rattle.syntax_tree.specs.Lexeme.{Lexeme}
use Rattle.syntax_tree.specs.Expression.{Expression, Part, One, Range, Glued, Maybe, Absent, Present}
use Rattle.syntax_tree.specs.Spelling.{spelling, part_spelling, maybe_spelling, step_spelling}
use Rattle.line_forms.specs.declared.depths.Depths.{Depths}
use Rattle.line_forms.specs.Marks.{comma, colon, colons}
use Rattle.line_forms.specs.Grammar.{Grammar, Value, Output, Shown, Characters, Nothing, Identifier, Expr, Item, Subscript, Prefixed, Suffixed, Sequence, Optional, Choice, Skipped, CommaList, Header, OptionalToEnd}
use Rattle.line_forms.specs.Printed.{printed, output_spelling, with_commas, after_comma}
use Rattle.line_forms.specs.DeepFront.{is_too_deep, preceded, front_or, list_front, expr_front, maybe_front, step_front, mask_front, output_front, part_front, deep_front}

abbrev FrontOf : Option (List Lexeme) → List Lexeme → Type 0
FrontOf None text = Unit {0}
FrontOf (Some front) text = (rest : List Lexeme) × (text ≡ front ++ rest)

preceded_of : (ks : List Lexeme) (o : Option (List Lexeme)) (text : List Lexeme) → FrontOf o text → FrontOf (preceded ks o) (ks ++ text)
preceded_of ks None text h = tt
preceded_of ks (Some front) text h = (h.0, ap (λ l. ks ++ l) h.1 ∙ sym (append_assoc ks front h.0))

suffixed_of : (o : Option (List Lexeme)) (text more : List Lexeme) → FrontOf o text → FrontOf o (text ++ more)
suffixed_of None text more h = tt
suffixed_of (Some front) text more h = (h.0 ++ more, ap (λ l. l ++ more) h.1 ∙ append_assoc front h.0 more)

or_of : (o : Option (List Lexeme)) (text : List Lexeme) (p : Option (List Lexeme)) (text' : List Lexeme) → FrontOf o text → FrontOf p text'
    → FrontOf (front_or o text p) (text ++ text')
or_of None text p text' h g = preceded_of text p text' g
or_of (Some front) text p text' h g = suffixed_of (Some front) text text' h

list_of : {A : Type 0} (front : A → Option (List Lexeme)) (text : A → List Lexeme) → ((x : A) → FrontOf (front x) (text x)) → (xs : List A)
    → FrontOf (list_front front text xs) (with_commas (map text xs))
list_of front text h [] = tt
list_of front text h (x ∷ []) = h x
list_of front text h (x ∷ y ∷ ys) =
    let more = list_front front text (y ∷ ys) in
    let all = with_commas (map text (y ∷ ys)) in
    or_of (front x) (text x) (preceded comma more) (comma ++ all) (h x) (preceded_of comma more all (list_of front text h (y ∷ ys)))

module _ (depths : Depths) where
  expr_of : (e : Expression) → FrontOf (expr_front depths e) (spelling e)
  expr_of e = at (is_too_deep depths e)
    where
      at : (b : Bool) → FrontOf (if b then Some (spelling e) else None) (spelling e)
      at true = ([], sym (append-nil (spelling e)))
      at false = tt

  maybe_of : (a : Maybe) → FrontOf (maybe_front depths a) (maybe_spelling a)
  maybe_of Absent = tt
  maybe_of (Present e) = expr_of e

  step_of : (a : Maybe) → FrontOf (step_front depths a) (step_spelling a)
  step_of Absent = tt
  step_of (Present e) = preceded_of colon (expr_front depths e) (spelling e) (expr_of e)

  mask_of : (m : Option Expression) → FrontOf (mask_front depths m) (after_comma m)
  mask_of None = tt
  mask_of (Some e) = preceded_of comma (expr_front depths e) (spelling e) (expr_of e)

  output_of : (i : Output) → FrontOf (output_front depths i) (output_spelling i)
  output_of (Shown e) = expr_of e
  output_of (Characters bytes) = tt

  part_of : (p : Part) → FrontOf (part_front depths p) (part_spelling p)
  part_of (One e) = expr_of e
  part_of (Range a b c) =
      let last = front_or (maybe_front depths b) (maybe_spelling b) (step_front depths c) in
      let text = maybe_spelling b ++ step_spelling c in
      or_of (maybe_front depths a) (maybe_spelling a) (preceded colon last) (colon ++ text) (maybe_of a)
      (preceded_of colon last text (or_of (maybe_front depths b) (maybe_spelling b) (step_front depths c) (step_spelling c) (maybe_of b) (step_of c)))
  part_of (Glued a c) =
      or_of (maybe_front depths a) (maybe_spelling a) (preceded colons (expr_front depths c)) (colons ++ spelling c) (maybe_of a)
      (preceded_of colons (expr_front depths c) (spelling c) (expr_of c))

  front_of : (g : Grammar) (v : Value g) → FrontOf (deep_front depths g v) (printed g v)
  front_of Nothing v = tt
  front_of Identifier x = tt
  front_of Expr e = expr_of e
  front_of Item i = output_of i
  front_of Subscript p = part_of p
  front_of (Prefixed ks g) v = preceded_of ks (deep_front depths g v) (printed g v) (front_of g v)
  front_of (Suffixed g ks) v = suffixed_of (deep_front depths g v) (printed g v) ks (front_of g v)
  front_of (Sequence g h) v = or_of (deep_front depths g v.0) (printed g v.0) (deep_front depths h v.1) (printed h v.1) (front_of g v.0) (front_of h v.1)
  front_of (Optional ks g) None = tt
  front_of (Optional ks g) (Some v) = preceded_of ks (deep_front depths g v) (printed g v) (front_of g v)
  front_of (Choice ks g h) (inl v) = preceded_of ks (deep_front depths g v) (printed g v) (front_of g v)
  front_of (Choice ks g h) (inr v) = front_of h v
  front_of (Skipped ks) b = tt
  front_of (CommaList g) vs = list_of (deep_front depths g) (printed g) (front_of g) vs
  front_of (Header g) v =
      or_of (list_front (deep_front depths g) (printed g) v.0) (with_commas (map (printed g) v.0)) (mask_front depths v.1) (after_comma v.1)
      (list_of (deep_front depths g) (printed g) (front_of g) v.0) (mask_of v.1)
  front_of (OptionalToEnd g) None = tt
  front_of (OptionalToEnd g) (Some v) = front_of g v

  pub front_printed : (g : Grammar) (v : Value g) (front : List Lexeme) → deep_front depths g v ≡ Some front → (rest : List Lexeme) × (printed g v ≡ front ++ rest)
  front_printed g v front h = subst (λ o. FrontOf o (printed g v)) h (front_of g v)

-- the same of one part after another
pub front_parted : (o : Option (List Lexeme)) (text : List Lexeme) (p : Option (List Lexeme)) (text' : List Lexeme) (front : List Lexeme)
    → ((f : List Lexeme) → o ≡ Some f → (rest : List Lexeme) × (text ≡ f ++ rest)) → ((f : List Lexeme) → p ≡ Some f → (rest : List Lexeme) × (text' ≡ f ++ rest))
    → front_or o text p ≡ Some front → (rest : List Lexeme) × (text ++ text' ≡ front ++ rest)
front_parted o text p text' front h g e = subst (λ o. FrontOf o (text ++ text')) e (or_of o text p text' (at o h) (at p g))
  where
    at : {t : List Lexeme} (o : Option (List Lexeme)) → ((f : List Lexeme) → o ≡ Some f → (rest : List Lexeme) × (t ≡ f ++ rest)) → FrontOf o t
    at None h = tt
    at (Some f) h = h f refl
