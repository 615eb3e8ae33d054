-- A part of a line begins as it may.
use Rattle.std.proofs.Common.{◌≡◌, ◌&&◌, Bool, true, false, List, [], ◌∷◌, ◌++◌, Option, Some, None, inl, inr, refl, sym, ap, ◌∙◌, subst, append_assoc}
use Rattle.std.specs.Prelude.{map, not}
use Rattle.std.specs.List.{list_all}
use Rattle.std.proofs.lemmas.Bool.{and_parts, or_left, or_right}
use Rattle.syntax_tree.specs.Lexeme.{Lexeme, Word}
use Rattle.syntax_tree.specs.Expression.{Expression, One, Range, Glued, Maybe, Absent, Present}
use Rattle.syntax_tree.specs.Spelling.{spelling, maybe_spelling, step_spelling, IsFormed, IsMaybe}
use Rattle.line_forms.specs.declared.depths.Depths.{Depths}
use Rattle.line_forms.specs.declared.read_error.ReadError.TheVariants.{TooDeep}
use Rattle.line_forms.specs.Marks.{starts, comma, colon, colons, equals}
use Rattle.line_forms.specs.Reading.{Reading, Found, Stopped}
use Rattle.line_forms.specs.Grammar.{Grammar, Value, Shown, Characters, Nothing, Identifier, Expr, Item, Subscript, Prefixed, Suffixed, Sequence, Optional, Choice, Skipped, CommaList, Header, OptionalToEnd}
use Rattle.line_forms.specs.Printed.{with_commas, after_comma, printed, Some_and_all, IsWell, value_kept}
use Rattle.line_forms.specs.DeepFront.{is_too_deep, preceded, front_or, list_front, expr_front, maybe_front, step_front, mask_front, deep_front}
use Rattle.line_forms.specs.Ll1.{FirstItem, Exactly, AnyName, AnyText, Operand, is_first, begins, Begins, first_set, are_marks, disjoint, ends_expression, is_finish, is_filled, is_indexed, is_ll1}
use Rattle.line_forms.proofs.Begins.{begins_left, begins_right, starts_all, operand_first}
use Rattle.line_forms.proofs.Standing.{StandsAs, Stands, after_prefix, then_begins, unmapped, text_stands}

pub three_true : (a b c : Bool) → (a && b && c) ≡ true → (a ≡ true) × (b ≡ true) × (c ≡ true)
three_true a b c h = let x = and_parts (a && b) c h in let y = and_parts a b x.0 in (y.0, y.1, x.1)

-- fixed lexemes that stand in front, as one way to begin
pub marks_begin : (ks us ts : List Lexeme) (fs : List FirstItem) → are_marks ks ≡ true → ts ≡ ks ++ us → Begins (Exactly ks ∷ fs) ts
marks_begin ks us ts fs m is = or_left (starts ks ts) (begins fs ts) (ap (starts ks) is ∙ starts_all ks us m)

-- a part begins as it may
abbrev pub Starting : Depths → Grammar → List FirstItem → Type 0
Starting depths g fs = (v : Value g) → IsWell g v → (ts : List Lexeme) (r : Reading (Value g)) → Stands depths g v fs ts r → Begins (first_set g fs) ts

operand_begins : (e : Expression) (fs : List FirstItem) → IsFormed e → (ts : List Lexeme) → ((us : List Lexeme) × (ts ≡ spelling e ++ us)) → Begins (Operand ∷ fs) ts
operand_begins e fs w ts t = or_left (is_first Operand ts) (begins fs ts) (ap (is_first Operand) t.1 ∙ operand_first e t.0 w)

-- a part before fixed lexemes
pub unsuffixed : {A : Type 0} (o : Option (List Lexeme)) (text ks : List Lexeme) (x : A) (fs : List FirstItem) (ts : List Lexeme) (r : Reading A)
    → are_marks ks ≡ true → StandsAs o (text ++ ks) x (Begins fs) ts r → (r' : Reading A) × StandsAs o text x (Begins (Exactly ks ∷ [])) ts r'
unsuffixed None text ks x fs ts r m s = (Found (x, ks ++ s.0), (ks ++ s.0, marks_begin ks s.0 (ks ++ s.0) [] m refl, s.2 ∙ append_assoc text ks s.0, refl))
unsuffixed (Some front) text ks x fs ts r m s = (Stopped TooDeep, (s.0, s.1, refl))

module _ (depths : Depths) where
  maybe_begins : {A : Type 0} (a : Maybe) (x : A) (fs : List FirstItem) → IsMaybe a → (ts : List Lexeme) (r : Reading A)
      → StandsAs (maybe_front depths a) (maybe_spelling a) x (Begins (Operand ∷ fs)) ts r → Begins (Operand ∷ fs) ts
  maybe_begins Absent x fs w ts r s = subst (Begins (Operand ∷ fs)) (sym s.2) s.1
  maybe_begins (Present e) x fs w ts r s = operand_begins e fs w ts (text_stands (is_too_deep depths e) (spelling e) x (Begins (Operand ∷ fs)) ts r s)

  part_starts : (fs : List FirstItem) → Starting depths Subscript fs
  part_starts fs (One e) w ts r s = operand_begins e (Exactly colon ∷ Exactly colons ∷ []) w ts (text_stands (is_too_deep depths e) (spelling e) _ (Begins fs) ts r s)
  part_starts fs (Range a b c) w ts r s =
      let last = front_or (maybe_front depths b) (maybe_spelling b) (step_front depths c) in
      let text = maybe_spelling b ++ step_spelling c in
      let all = first_set Subscript fs in
      then_begins (maybe_front depths a) (maybe_spelling a) a (Begins all) (preceded colon last) (colon ++ text) _ (Begins fs) ts r s
      (maybe_begins a a (Exactly colon ∷ Exactly colons ∷ []) w.0 ts)
      (λ us q. let p = after_prefix colon last text _ (Begins fs) us r q in subst (Begins all) (sym p.1) refl)
  part_starts fs (Glued a c) w ts r s =
      let all = first_set Subscript fs in
      then_begins (maybe_front depths a) (maybe_spelling a) a (Begins all) (preceded colons (expr_front depths c)) (colons ++ spelling c) _ (Begins fs) ts r s
      (maybe_begins a a (Exactly colon ∷ Exactly colons ∷ []) w.0 ts)
      (λ us q. let p = after_prefix colons (expr_front depths c) (spelling c) _ (Begins fs) us r q in subst (Begins all) (sym p.1) refl)

  item_starts : (fs : List FirstItem) → Starting depths Item fs
  item_starts fs (Shown e) w ts r s = operand_begins e (AnyText ∷ []) w ts (text_stands (is_too_deep depths e) (spelling e) _ (Begins fs) ts r s)
  item_starts fs (Characters bytes) w ts r s = subst (Begins (first_set Item fs)) (sym s.2) refl

  optional_starts : (ks : List Lexeme) (g : Grammar) (fs : List FirstItem) → are_marks ks ≡ true → Starting depths (Optional ks g) fs
  optional_starts ks g fs m None w ts r s = or_right (starts ks ts) (begins fs ts) (subst (Begins fs) (sym s.2) s.1)
  optional_starts ks g fs m (Some v) w ts r s = let p = after_prefix ks (deep_front depths g v) (printed g v) _ (Begins fs) ts r s in marks_begin ks p.0 ts fs m p.1

  choice_starts : (ks : List Lexeme) (g h : Grammar) (fs : List FirstItem) → are_marks ks ≡ true → Starting depths h fs → Starting depths (Choice ks g h) fs
  choice_starts ks g h fs m ih (inl v) w ts r s =
      let p = after_prefix ks (deep_front depths g v) (printed g v) _ (Begins fs) ts r s in marks_begin ks p.0 ts (first_set h fs) m p.1
  choice_starts ks g h fs m ih (inr v) w ts r s =
      let u = unmapped (deep_front depths h v) (printed h v) (value_kept h v) (λ v. inr v) (Begins fs) (Begins fs) ts r (λ us b. b) s in
      or_right (starts ks ts) (begins (first_set h fs) ts) (ih v w ts u.0 u.1)

  skipped_starts : (ks : List Lexeme) (fs : List FirstItem) → are_marks ks ≡ true → Starting depths (Skipped ks) fs
  skipped_starts ks fs m true w ts r s = marks_begin ks s.0 ts fs m s.2
  skipped_starts ks fs m false w ts r s = or_right (starts ks ts) (begins fs ts) (subst (Begins fs) (sym s.2) s.1)

  -- the first of the elements of a list
  pub head_stands : {A Q : Type 0} (g : Grammar) (v : Value g) (vs : List (Value g)) (z : A) (After First : List Lexeme → Type 0) (ts : List Lexeme) (r : Reading A)
      → StandsAs (list_front (deep_front depths g) (printed g) (v ∷ vs)) (with_commas (map (printed g) (v ∷ vs))) z After ts r
      → ((us : List Lexeme) → After us → First us) → ((us vs : List Lexeme) → us ≡ comma ++ vs → First us)
      → ((r' : Reading A) → StandsAs (deep_front depths g v) (printed g v) z First ts r' → Q) → Q
  head_stands g v [] z After First ts r s begins commas ih = let u = unmapped (deep_front depths g v) (printed g v) z (λ z. z) After First ts r begins s in ih u.0 u.1
  head_stands g v (w ∷ ws) z After First ts r s begins commas ih =
      let more = list_front (deep_front depths g) (printed g) (w ∷ ws) in
      let text = with_commas (map (printed g) (w ∷ ws)) in
      then_begins (deep_front depths g v) (printed g v) z First (preceded comma more) (comma ++ text) z After ts r s ih
      (λ us q. let p = after_prefix comma more text z After us r q in commas us p.0 p.1)

  list_starts : {A : Type 0} (g : Grammar) (fs : List FirstItem) → Starting depths g (Exactly comma ∷ fs) → (vs : List (Value g)) (z : A)
      → Some_and_all (IsWell g) vs → (ts : List Lexeme) (r : Reading A)
      → StandsAs (list_front (deep_front depths g) (printed g) vs) (with_commas (map (printed g) vs)) z (Begins (Exactly comma ∷ fs)) ts r
      → Begins (first_set g (Exactly comma ∷ fs)) ts
  list_starts g fs ih [] z w ts r s = absurd w
  list_starts g fs ih (v ∷ vs) z w ts r s =
      head_stands g v vs z (Begins (Exactly comma ∷ fs)) (Begins (Exactly comma ∷ fs)) ts r s (λ us b. b) (λ us vs is. marks_begin comma vs us fs refl is)
      (λ r' q.
      let u =
      unmapped (deep_front depths g v) (printed g v) (value_kept g v) (λ x. z) (Begins (Exactly comma ∷ fs)) (Begins (Exactly comma ∷ fs)) ts
      r' (λ us b. b) q in
      ih v w.0 ts u.0 u.1)

  -- after the indices of a header
  pub mask_begins : {A : Type 0} (m : Option Expression) (z : A) (fs : List FirstItem) (ts : List Lexeme) (r : Reading A)
      → StandsAs (mask_front depths m) (after_comma m) z (Begins fs) ts r → Begins (Exactly comma ∷ fs) ts
  mask_begins None z fs ts r s = or_right (starts comma ts) (begins fs ts) (subst (Begins fs) (sym s.2) s.1)
  mask_begins (Some e) z fs ts r s = let p = after_prefix comma (expr_front depths e) (spelling e) z (Begins fs) ts r s in marks_begin comma p.0 ts fs refl p.1

  to_end_starts : (g : Grammar) (fs : List FirstItem) → Starting depths g fs → Starting depths (OptionalToEnd g) fs
  to_end_starts g fs ih None w ts r s = begins_right (first_set g fs) fs ts (subst (Begins fs) (sym s.2) s.1)
  to_end_starts g fs ih (Some v) w ts r s =
      let u = unmapped (deep_front depths g v) (printed g v) (value_kept g v) (λ v. Some v) (Begins fs) (Begins fs) ts r (λ us b. b) s in
      begins_left (first_set g fs) fs ts (ih v w ts u.0 u.1)

  pub starting : (g : Grammar) (fs : List FirstItem) → is_ll1 g fs ≡ true → Starting depths g fs
  starting Nothing fs l v w ts r s = subst (Begins fs) (sym s.2) s.1
  starting Identifier fs l x w ts r s = subst (Begins (AnyName ∷ [])) (sym s.2) (or_left (is_first AnyName (Word x ∷ s.0)) false (ap not w))
  starting Expr fs l e w ts r s = operand_begins e [] w ts (text_stands (is_too_deep depths e) (spelling e) _ (Begins fs) ts r s)
  starting Item fs l v w ts r s = item_starts fs v w ts r s
  starting Subscript fs l v w ts r s = part_starts fs v w ts r s
  starting (Prefixed ks g) fs l v w ts r s =
      let p = after_prefix ks (deep_front depths g v) (printed g v) (value_kept g v) (Begins fs) ts r s in
      marks_begin ks p.0 ts [] (and_parts (are_marks ks) (is_ll1 g fs) l).0 p.1
  starting (Suffixed g ks) fs l v w ts r s =
      let m = and_parts (are_marks ks) (is_ll1 g (Exactly ks ∷ [])) l in
      let u = unsuffixed (deep_front depths g v) (printed g v) ks (value_kept g v) fs ts r m.0 s in
      starting g (Exactly ks ∷ []) m.1 v w ts u.0 u.1
  starting (Sequence g h) fs l v w ts r s =
      let m = and_parts (is_ll1 g (first_set h fs)) (is_ll1 h fs) l in
      then_begins (deep_front depths g v.0) (printed g v.0) (value_kept g v.0) (Begins (first_set h fs)) (deep_front depths h v.1) (printed h v.1)
      (value_kept g v.0, value_kept h v.1) (Begins fs) ts r s
      (starting g (first_set h fs) m.0 v.0 w.0 ts)
      (λ us q.
      let u =
      unmapped (deep_front depths h v.1) (printed h v.1) (value_kept h v.1) (λ x. (value_kept g v.0, x)) (Begins fs) (Begins fs) us r
      (λ us b. b) q in
      starting h fs m.1 v.1 w.1 us u.0 u.1)
  starting (Optional ks g) fs l v w ts r s = optional_starts ks g fs (three_true (are_marks ks) (disjoint ks fs) (is_ll1 g fs) l).0 v w ts r s
  starting (Choice ks g h) fs l v w ts r s =
      let m = and_parts (are_marks ks && disjoint ks (first_set h fs) && is_ll1 g fs) (is_ll1 h fs) l in
      choice_starts ks g h fs (three_true (are_marks ks) (disjoint ks (first_set h fs)) (is_ll1 g fs) m.0).0 (starting h fs m.1) v w ts r s
  starting (Skipped ks) fs l v w ts r s = skipped_starts ks fs (and_parts (are_marks ks) (disjoint ks fs) l).0 v w ts r s
  starting (CommaList g) fs l v w ts r s =
      let m = and_parts (disjoint comma fs) (is_ll1 g (Exactly comma ∷ fs)) l in
      let u =
      unmapped (list_front (deep_front depths g) (printed g) v) (with_commas (map (printed g) v)) (map (value_kept g) v) (λ x. x) (Begins fs)
      (Begins (Exactly comma ∷ fs)) ts r (λ us b. or_right (starts comma us) (begins fs us) b) s in
      list_starts g fs (starting g (Exactly comma ∷ fs) m.1) v (map (value_kept g) v) w ts u.0 u.1
  starting (Header g) fs l v w ts r s =
      let m = and_parts (is_indexed g && list_all ends_expression fs && disjoint comma fs && disjoint equals fs) (is_ll1 g (Exactly comma ∷ fs)) l in
      then_begins (list_front (deep_front depths g) (printed g) v.0) (with_commas (map (printed g) v.0)) (map (value_kept g) v.0)
      (Begins (Exactly comma ∷ fs)) (mask_front depths v.1) (after_comma v.1) (value_kept (Header g) v) (Begins fs) ts r s
      (λ r' q. list_starts g fs (starting g (Exactly comma ∷ fs) m.1) v.0 (map (value_kept g) v.0) w.0 ts r' q)
      (λ us q. mask_begins v.1 (value_kept (Header g) v) fs us r q)
  starting (OptionalToEnd g) fs l v w ts r s =
      to_end_starts g fs (starting g fs (three_true (list_all is_finish fs) (list_all is_filled (first_set g fs)) (is_ll1 g fs) l).2) v w ts r s
