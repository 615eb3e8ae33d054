-- What is spelled is read: expressions, items and subscripts.
use Rattle.std.proofs.Common.{◌≡◌, ◌≤◌, ◌<◌, ℕ, Bool, true, false, List, ◌∷◌, ◌++◌, drop, Option, Some, None, refl, sym, ap, ◌∙◌, subst, arith, rules, tests}
use Rattle.std.specs.Prelude.{if◌then◌else◌, not, nat_le}
use Rattle.std.proofs.lemmas.Bool.{cond-false, cond-true}
use Rattle.expr_reader.specs.declared.limits.TheConstants.{MAX_DEPTH}
use Rattle.syntax_tree.specs.declared.sign.Sign.TheVariants as sign
use Rattle.syntax_tree.specs.Lexeme.{Lexeme, Text, Fixed}
use Rattle.syntax_tree.specs.Expression.{Expression, Part, One, Range, Glued, Maybe, Absent, Present, kept, part_kept, maybe_kept}
use Rattle.syntax_tree.specs.Spelling.{spelling, part_spelling, maybe_spelling, step_spelling, IsFormed, IsPart, IsMaybe, depth}
use Rattle.expr_reader.specs.Front.{Ends, IsAsDeep, front}
use Rattle.expr_reader.proofs.Theorem.{front_found, front_deep}
use Rattle.line_forms.specs.declared.depths.Depths.{Depths}
use Rattle.line_forms.specs.declared.depths.Depths.TheVariants.{Limited, Any}
use Rattle.line_forms.specs.declared.read_error.ReadError.TheVariants.{TooDeep}
use Rattle.line_forms.specs.Marks.{starts, colon, colons}
use Rattle.line_forms.specs.Reading.{Reading, Found, Stopped, ◌>>=◌}
use Rattle.line_forms.specs.Grammar.{Output, Shown, Characters}
use Rattle.line_forms.specs.Printed.{output_spelling, IsOutput, output_kept}
use Rattle.line_forms.specs.DeepFront.{is_too_deep, preceded, front_or, expr_front, maybe_front, step_front, output_front, part_front}
use Rattle.line_forms.specs.Read.{within_depth, expr, if_there, optional_expr, shown, item, step, part_from, subscript}
use Rattle.line_forms.specs.Ll1.{Operand, is_first}
use Rattle.line_forms.proofs.Sound.{deep_kept}
use Rattle.line_forms.proofs.Begins.{operand_first, EndsSubscript, front_none}
use Rattle.line_forms.proofs.Standing.{StandsAs, after_prefix, then_reads, followed, mapped, text_stands}

over : (a l : ℕ) → not (nat_le a l) ≡ true → l < a
over a l h = grind arith

over_test : (a l : ℕ) → l < a → not (nat_le a l) ≡ true
over_test a l h = search (rules, tests)

-- what is at least as deep is too deep
deeper : (depths : Depths) (e x : Expression) → depth e ≤ depth x → is_too_deep depths e ≡ true → is_too_deep depths x ≡ true
deeper Limited e x le h = let o = over (depth e) MAX_DEPTH h in over_test (depth x) MAX_DEPTH (omega (arith, o, le))
deeper Any e x le h = absurd cc

deep_stops : (depths : Depths) (e : Expression) (o : Option (Expression × List Lexeme)) → IsAsDeep e o → is_too_deep depths e ≡ true → within_depth depths o ≡ Stopped TooDeep
deep_stops depths e None le h = absurd le
deep_stops depths e (Some x) le h = cond-true (is_too_deep depths x.0) (Stopped TooDeep) (Found x) (deeper depths e x.0 le h)

deep_stops_there : (depths : Depths) (e : Expression) (ts : List Lexeme) (o : Option (Expression × List Lexeme)) → IsAsDeep e o
    → is_too_deep depths e ≡ true → if_there depths ts o ≡ Stopped TooDeep
deep_stops_there depths e ts None le h = absurd le
deep_stops_there depths e ts (Some x) le h = ap (λ r. r >>= λ x. Found (Present x.0, x.1)) (deep_stops depths e (Some x) le h)

module _ (depths : Depths) (After : List Lexeme → Type 0) where
  within_found : (e : Expression) (us : List Lexeme) → is_too_deep depths e ≡ false → within_depth depths (Some (kept e, us)) ≡ Found (kept e, us)
  within_found e us h = cond-false (is_too_deep depths (kept e)) (Stopped TooDeep) (Found (kept e, us)) (deep_kept depths e ∙ h)

  pub expr_reads : (e : Expression) → IsFormed e → ((us : List Lexeme) → After us → Ends us) → (ts : List Lexeme) (r : Reading Expression)
      → StandsAs (expr_front depths e) (spelling e) (kept e) After ts r → expr depths ts ≡ r
  expr_reads e w ends ts r s = at (is_too_deep depths e) refl s
    where
      at : (b : Bool) → is_too_deep depths e ≡ b → StandsAs (if b then Some (spelling e) else None) (spelling e) (kept e) After ts r → expr depths ts ≡ r
      at true h s = ap (expr depths) s.1 ∙ deep_stops depths e (front (spelling e ++ s.0)) (front_deep e s.0 w) h ∙ sym s.2
      at false h s = ap (expr depths) s.2 ∙ ap (within_depth depths) (front_found e s.0 w (ends s.0 s.1)) ∙ within_found e s.0 h ∙ sym s.3

  item_shown : (ts : List Lexeme) → is_first Operand ts ≡ true → item depths ts ≡ shown depths ts
  item_shown (Text bytes ∷ ts) h = absurd cc
  item_shown ts h = refl

  pub item_reads : (i : Output) → IsOutput i → ((us : List Lexeme) → After us → Ends us) → (ts : List Lexeme) (r : Reading Output)
      → StandsAs (output_front depths i) (output_spelling i) (output_kept i) After ts r → item depths ts ≡ r
  item_reads (Shown e) w ends ts r s =
      let t = text_stands (is_too_deep depths e) (spelling e) (Shown (kept e)) After ts r s in
      item_shown ts (ap (is_first Operand) t.1 ∙ operand_first e t.0 w)
      ∙ mapped (expr_front depths e) (spelling e) (kept e) Shown After ts r s (expr depths ts) (expr_reads e w ends ts)
  item_reads (Characters bytes) w ends ts r s = ap (item depths) s.2 ∙ sym s.3

  -- after an expression that may be there
  abbrev pub EndsMaybe : List Lexeme → Type 0
  EndsMaybe us = Ends us × (front us ≡ None)

  pub maybe_reads : (a : Maybe) → IsMaybe a → ((us : List Lexeme) → After us → EndsMaybe us) → (ts : List Lexeme) (r : Reading Maybe)
      → StandsAs (maybe_front depths a) (maybe_spelling a) (maybe_kept a) After ts r → optional_expr depths ts ≡ r
  maybe_reads Absent w ends ts r s = ap (optional_expr depths) s.2 ∙ ap (if_there depths s.0) (ends s.0 s.1).1 ∙ sym s.3
  maybe_reads (Present e) w ends ts r s = at (is_too_deep depths e) refl s
    where
      at : (b : Bool) → is_too_deep depths e ≡ b → StandsAs (if b then Some (spelling e) else None) (spelling e) (Present (kept e)) After ts r → optional_expr depths ts ≡ r
      at true h s = ap (optional_expr depths) s.1 ∙ deep_stops_there depths e (spelling e ++ s.0) (front (spelling e ++ s.0)) (front_deep e s.0 w) h ∙ sym s.2
      at false h s =
          ap (optional_expr depths) s.2 ∙ ap (if_there depths (spelling e ++ s.0)) (front_found e s.0 w (ends s.0 s.1).0)
          ∙ ap (λ r. r >>= λ x. Found (Present x.0, x.1)) (within_found e s.0 h) ∙ sym s.3

colon_ends : (us vs : List Lexeme) → vs ≡ colon ++ us → Ends vs × (front vs ≡ None)
colon_ends us vs is = subst (λ vs. Ends vs × (front vs ≡ None)) (sym is) ((refl, refl), front_none (Fixed sign.Colon) us refl)

colons_ends : (us vs : List Lexeme) → vs ≡ colons ++ us → Ends vs × (front vs ≡ None)
colons_ends us vs is = subst (λ vs. Ends vs × (front vs ≡ None)) (sym is) ((refl, refl), front_none (Fixed sign.Colons) us refl)

module _ (depths : Depths) (After : List Lexeme → Type 0) (ends : (us : List Lexeme) → After us → EndsSubscript us) (r : Reading Part) where
  step_reads : (a b c : Maybe) → IsMaybe c → (ts : List Lexeme)
      → StandsAs (step_front depths c) (step_spelling c) (Range a b (maybe_kept c)) After ts r → step depths a (b, ts) ≡ r
  step_reads a b Absent w ts s =
      ap (λ l. step depths a (b, l)) s.2
      ∙ cond-false (starts colon s.0) (expr depths (drop 1 s.0) >>= λ c. Found (Range a b (Present c.0), c.1)) (Found (Range a b Absent, s.0)) (ends s.0 s.1).no_colon
      ∙ sym s.3
  step_reads a b (Present e) w ts s =
      let q = after_prefix colon (expr_front depths e) (spelling e) (Range a b (Present (kept e))) After ts r s in
      ap (λ l. step depths a (b, l)) q.1
      ∙ mapped (expr_front depths e) (spelling e) (kept e) (λ c. Range a b (Present c)) After q.0 r q.2 (expr depths q.0)
      (expr_reads depths After e w (λ us h. (ends us h).ends) q.0)

  -- after the last part of a triplet
  step_ends : (c : Maybe) (z : Part) (ts : List Lexeme) → StandsAs (step_front depths c) (step_spelling c) z After ts r → Ends ts × (front ts ≡ None)
  step_ends Absent z ts s = subst (λ ts. Ends ts × (front ts ≡ None)) (sym s.2) ((ends s.0 s.1).ends, (ends s.0 s.1).none)
  step_ends (Present e) z ts s = let q = after_prefix colon (expr_front depths e) (spelling e) z After ts r s in colon_ends q.0 ts q.1

  pub subscript_reads : (p : Part) → IsPart p → (ts : List Lexeme) → StandsAs (part_front depths p) (part_spelling p) (part_kept p) After ts r → subscript depths ts ≡ r
  subscript_reads (One e) w ts s =
      followed (expr_front depths e) (spelling e) (Present (kept e)) (One (kept e)) After After ts r s (λ us b. b) (optional_expr depths ts)
      (maybe_reads depths After (Present e) w (λ us h. ((ends us h).ends, (ends us h).none)) ts) (part_from depths)
      (λ us h. cond-false (starts colon us) _ _ (ends us h).no_colon ∙ cond-false (starts colons us) _ _ (ends us h).no_colons)
  subscript_reads (Range a b c) w ts s =
      let a' = maybe_kept a in
      let b' = maybe_kept b in
      let z : Part = Range a' b' (maybe_kept c) in
      let last = front_or (maybe_front depths b) (maybe_spelling b) (step_front depths c) in
      let text = maybe_spelling b ++ step_spelling c in
      then_reads (maybe_front depths a) (maybe_spelling a) a' (λ us. Ends us × (front us ≡ None)) (preceded colon last) (colon ++ text) z After ts r s (optional_expr depths ts)
      (maybe_reads depths (λ us. Ends us × (front us ≡ None)) a w.0 (λ us h. h) ts) (part_from depths)
      (λ us q. let p = after_prefix colon last text z After us r q in colon_ends p.0 us p.1)
      (λ us _ q. let p = after_prefix colon last text z After us r q in
      ap (λ l. part_from depths (a', l)) p.1
      ∙ then_reads (maybe_front depths b) (maybe_spelling b) b' (λ us. Ends us × (front us ≡ None)) (step_front depths c) (step_spelling c) z After
      p.0 r p.2 (optional_expr depths p.0)
      (maybe_reads depths (λ us. Ends us × (front us ≡ None)) b w.1 (λ us h. h) p.0) (step depths a')
      (λ us q. step_ends c z us q) (λ us _ q. step_reads a' b' c w.2 us q))
  subscript_reads (Glued a c) w ts s =
      let a' = maybe_kept a in
      let z : Part = Range a' Absent (Present (kept c)) in
      then_reads (maybe_front depths a) (maybe_spelling a) a' (λ us. Ends us × (front us ≡ None)) (preceded colons (expr_front depths c))
      (colons ++ spelling c) z After ts r s (optional_expr depths ts)
      (maybe_reads depths (λ us. Ends us × (front us ≡ None)) a w.0 (λ us h. h) ts) (part_from depths)
      (λ us q. let p = after_prefix colons (expr_front depths c) (spelling c) z After us r q in colons_ends p.0 us p.1)
      (λ us _ q. let p = after_prefix colons (expr_front depths c) (spelling c) z After us r q in
      ap (λ l. part_from depths (a', l)) p.1
      ∙ mapped (expr_front depths c) (spelling c) (kept c) (λ c. Range a' Absent (Present c)) After p.0 r p.2 (expr depths p.0)
      (expr_reads depths After c w.1 (λ us h. (ends us h).ends) p.0))
