-- What is spelled is read, where a grammar needs no look back; and a reading stops at an expression that is too deep.
use Rattle.std.proofs.Common.{◌≡◌, ◌<◌, ℕ, zero, suc, ◌&&◌, Bool, true, false, List, [], ◌∷◌, ◌++◌, length, drop, Option, Some, None, inl, inr, refl, sym, ap, ◌∙◌, subst, arith, append_assoc, append-nil, length-append}
use Rattle.std.specs.Prelude.{if◌then◌else◌, map, All, option_map}
use Rattle.std.specs.List.{list_all}
use Rattle.std.proofs.lemmas.List.Elements.{All-head, All-tail}
use Rattle.std.proofs.Math.Seq.{drop-append_seam}
use Rattle.std.proofs.lemmas.Bool.{and_parts, cond-false, cond-true, or_right}
use Rattle.op_tables.specs.Words.{is_reserved}
use Rattle.syntax_tree.specs.Lexeme.{Lexeme, Word}
use Rattle.syntax_tree.specs.Expression.{Expression, Name, kept}
use Rattle.syntax_tree.specs.Spelling.{spelling}
use Rattle.line_forms.specs.declared.depths.Depths.{Depths}
use Rattle.line_forms.specs.declared.depths.Depths.TheVariants.{Limited, Any}
use Rattle.line_forms.specs.declared.read_error.ReadError.TheVariants.{Malformed, TooDeep}
use Rattle.line_forms.specs.Marks.{starts, comma, equals}
use Rattle.line_forms.specs.Reading.{Reading, Found, Stopped, ◌>>=◌}
use Rattle.line_forms.specs.Grammar.{Grammar, Value, Nothing, Identifier, Expr, Item, Subscript, Prefixed, Suffixed, Sequence, Optional, Choice, Skipped, CommaList, Header, OptionalToEnd}
use Rattle.line_forms.specs.Printed.{with_commas, after_comma, printed, IfFormed, Some_and_all, IsWell, value_kept}
use Rattle.line_forms.specs.DeepFront.{is_too_deep, preceded, list_front, expr_front, mask_front, deep_front, IsTooDeep}
use Rattle.line_forms.specs.Read.{after_marks, name, expr, is_index, index_next, comma_list, mask, read}
use Rattle.line_forms.specs.Ll1.{FirstItem, Finish, Exactly, begins, Begins, first_set, are_marks, disjoint, ends_expression, is_finish, is_filled, is_indexed, is_ll1}
use Rattle.line_forms.proofs.Begins.{starts_all, disjoint_starts, ends_all, finish_all, filled_all, no_index, subscript_all}
use Rattle.line_forms.proofs.Leaves.{expr_reads, item_reads, subscript_reads}
use Rattle.line_forms.proofs.Standing.{StandsAs, Stands, stands_whole, stands_deep, after_prefix, then_reads, then_begins, unmapped, followed, mapped}
use Rattle.line_forms.proofs.Starting.{three_true, marks_begin, head_stands, mask_begins, starting}

-- a well-formed part that stands in front is read, or stops the reading
abbrev pub Complete : Depths → Grammar → List FirstItem → Type 0
Complete depths g fs = (v : Value g) → IsWell g v → (ts : List Lexeme) (r : Reading (Value g)) → Stands depths g v fs ts r → read depths g ts ≡ r

after_marks_found : (ks us ts : List Lexeme) → are_marks ks ≡ true → ts ≡ ks ++ us → after_marks ks ts ≡ Found (tt, us)
after_marks_found ks us ts m is =
    ap (after_marks ks) is
    ∙ cond-true (starts ks (ks ++ us)) (Found (tt, drop (length ks) (ks ++ us))) (Stopped Malformed) (starts_all ks us m)
    ∙ ap (λ l. Found (tt, l)) (drop-append_seam ks us)

-- what is read after fixed lexemes that stand in front
chosen : {A B : Type 0} (ks us ts : List Lexeme) (q : List Lexeme → Reading A) (f : A × List Lexeme → Reading B) (other : Reading B) (r : Reading B)
    → are_marks ks ≡ true → ts ≡ ks ++ us → (q us >>= f) ≡ r → (if starts ks ts then (q (drop (length ks) ts) >>= f) else other) ≡ r
chosen ks us ts q f other r m is h =
    ap (λ ts. if starts ks ts then (q (drop (length ks) ts) >>= f) else other) is
    ∙ cond-true (starts ks (ks ++ us)) (q (drop (length ks) (ks ++ us)) >>= f) other (starts_all ks us m)
    ∙ ap (λ l. q l >>= f) (drop-append_seam ks us)
    ∙ h

module _ (depths : Depths) where
  suffixed_complete : (g : Grammar) (ks : List Lexeme) (fs : List FirstItem) → are_marks ks ≡ true → Complete depths g (Exactly ks ∷ []) → Complete depths (Suffixed g ks) fs
  suffixed_complete g ks fs m ih v w ts r s = at (deep_front depths g v) (λ r' q. ih v w ts r' q) s
    where
      at : (o : Option (List Lexeme)) → ((r' : Reading (Value g)) → StandsAs o (printed g v) (value_kept g v) (Begins (Exactly ks ∷ [])) ts r' → read depths g ts ≡ r')
          → StandsAs o (printed g v ++ ks) (value_kept g v) (Begins fs) ts r → (read depths g ts >>= λ v. after_marks ks v.1 >>= λ x. Found (v.0, x.1)) ≡ r
      at None ih s =
          ap (λ q. q >>= λ v. after_marks ks v.1 >>= λ x. Found (v.0, x.1))
          (ih (Found (value_kept g v, ks ++ s.0))
          (ks ++ s.0, marks_begin ks s.0 (ks ++ s.0) [] m refl, s.2 ∙ append_assoc (printed g v) ks s.0, refl))
          ∙ ap (λ q. q >>= λ x. Found (value_kept g v, x.1)) (after_marks_found ks s.0 (ks ++ s.0) m refl) ∙ sym s.3
      at (Some front) ih s = ap (λ q. q >>= λ v. after_marks ks v.1 >>= λ x. Found (v.0, x.1)) (ih (Stopped TooDeep) (s.0, s.1, refl)) ∙ sym s.2

  prefixed_complete : (ks : List Lexeme) (g : Grammar) (fs : List FirstItem) → are_marks ks ≡ true → Complete depths g fs → Complete depths (Prefixed ks g) fs
  prefixed_complete ks g fs m ih v w ts r s =
      let p = after_prefix ks (deep_front depths g v) (printed g v) (value_kept g v) (Begins fs) ts r s in
      ap (λ q. q >>= λ x. read depths g x.1) (after_marks_found ks p.0 ts m p.1) ∙ ih v w p.0 r p.2

  sequence_complete : (g h : Grammar) (fs : List FirstItem) → is_ll1 h fs ≡ true → Complete depths g (first_set h fs) → Complete depths h fs → Complete depths (Sequence g h) fs
  sequence_complete g h fs l ig ih v w ts r s =
      let x = value_kept g v.0 in
      let z : Value (Sequence g h) = (x, value_kept h v.1) in
      then_reads (deep_front depths g v.0) (printed g v.0) x (Begins (first_set h fs)) (deep_front depths h v.1) (printed h v.1) z (Begins fs) ts r s
      (read depths g ts) (ig v.0 w.0 ts)
      (λ v. read depths h v.1 >>= λ w. Found ((v.0, w.0), w.1))
      (λ us q.
      let u = unmapped (deep_front depths h v.1) (printed h v.1) (value_kept h v.1) (λ y. (x, y)) (Begins fs) (Begins fs) us r (λ us b. b) q in
      starting depths h fs l v.1 w.1 us u.0 u.1)
      (λ us _ q. mapped (deep_front depths h v.1) (printed h v.1) (value_kept h v.1) (λ y. (x, y)) (Begins fs) us r q (read depths h us) (ih v.1 w.1 us))

  optional_complete : (ks : List Lexeme) (g : Grammar) (fs : List FirstItem) → are_marks ks ≡ true → disjoint ks fs ≡ true → Complete depths g fs
      → Complete depths (Optional ks g) fs
  optional_complete ks g fs m a ih None w ts r s =
      ap (read depths (Optional ks g)) s.2
      ∙ cond-false (starts ks s.0) (read depths g (drop (length ks) s.0) >>= λ v. Found (Some v.0, v.1)) (Found (None, s.0)) (disjoint_starts ks fs s.0 a s.1) ∙ sym s.3
  optional_complete ks g fs m a ih (Some v) w ts r s =
      let p = after_prefix ks (deep_front depths g v) (printed g v) (Some (value_kept g v)) (Begins fs) ts r s in
      chosen ks p.0 ts (read depths g) (λ v. Found (Some v.0, v.1)) (Found (None, ts)) r m p.1
      (mapped (deep_front depths g v) (printed g v) (value_kept g v) (λ v. Some v) (Begins fs) p.0 r p.2 (read depths g p.0) (ih v w p.0))

  choice_complete : (ks : List Lexeme) (g h : Grammar) (fs : List FirstItem) → are_marks ks ≡ true → disjoint ks (first_set h fs) ≡ true
      → is_ll1 h fs ≡ true → Complete depths g fs → Complete depths h fs → Complete depths (Choice ks g h) fs
  choice_complete ks g h fs m a l ig ih (inl v) w ts r s =
      let p = after_prefix ks (deep_front depths g v) (printed g v) (inl (value_kept g v)) (Begins fs) ts r s in
      chosen ks p.0 ts (read depths g) (λ v. Found (inl v.0, v.1)) (read depths h ts >>= λ v. Found (inr v.0, v.1)) r m p.1
      (mapped (deep_front depths g v) (printed g v) (value_kept g v) (λ v. inl v) (Begins fs) p.0 r p.2 (read depths g p.0) (ig v w p.0))
  choice_complete ks g h fs m a l ig ih (inr v) w ts r s =
      let u = unmapped (deep_front depths h v) (printed h v) (value_kept h v) (λ v. inr v) (Begins fs) (Begins fs) ts r (λ us b. b) s in
      cond-false (starts ks ts) (read depths g (drop (length ks) ts) >>= λ v. Found (inl v.0, v.1)) (read depths h ts >>= λ v. Found (inr v.0, v.1))
      (disjoint_starts ks (first_set h fs) ts a (starting depths h fs l v w ts u.0 u.1))
      ∙ mapped (deep_front depths h v) (printed h v) (value_kept h v) (λ v. inr v) (Begins fs) ts r s (read depths h ts) (ih v w ts)

  skipped_complete : (ks : List Lexeme) (fs : List FirstItem) → are_marks ks ≡ true → disjoint ks fs ≡ true → Complete depths (Skipped ks) fs
  skipped_complete ks fs m a true w ts r s =
      ap (read depths (Skipped ks)) s.2
      ∙ cond-true (starts ks (ks ++ s.0)) (Found (false, drop (length ks) (ks ++ s.0))) (Found (false, ks ++ s.0)) (starts_all ks s.0 m)
      ∙ ap (λ l. Found (false, l)) (drop-append_seam ks s.0) ∙ sym s.3
  skipped_complete ks fs m a false w ts r s =
      ap (read depths (Skipped ks)) s.2 ∙ cond-false (starts ks s.0) (Found (false, drop (length ks) s.0)) (Found (false, s.0)) (disjoint_starts ks fs s.0 a s.1) ∙ sym s.3

  -- a list whose elements follow commas, where what stands after it doesn't go on with it
  module _ (g : Grammar) (fs : List FirstItem) (next : List Lexeme → Bool) (ih : Complete depths g (Exactly comma ∷ fs))
      (After : List Lexeme → Type 0) (begins : (us : List Lexeme) → After us → Begins (Exactly comma ∷ fs) us)
      (stops : (us : List Lexeme) → After us → next us ≡ false)
      (goes : (v : Value g) (vs : List (Value g)) (z : List (Value g)) (us : List Lexeme) (r : Reading (List (Value g)))
      → StandsAs (list_front (deep_front depths g) (printed g) (v ∷ vs)) (with_commas (map (printed g) (v ∷ vs))) z After us r
      → next (comma ++ us) ≡ true) where
    row_reads : (most : ℕ) (v : Value g) (vs : List (Value g)) → IsWell g v → All (IsWell g) vs → (ts : List Lexeme) (r : Reading (List (Value g)))
        → StandsAs (list_front (deep_front depths g) (printed g) (v ∷ vs)) (with_commas (map (printed g) (v ∷ vs))) (map (value_kept g) (v ∷ vs))
        After ts r → length ts < most → comma_list next (read depths g) most ts ≡ r
    unfolding comma_list
    row_reads zero v vs w ws ts r s long = absurd (omega arith)
    row_reads (suc most) v [] w ws ts r s long =
        followed (deep_front depths g v) (printed g v) (value_kept g v) (value_kept g v ∷ []) After (Begins (Exactly comma ∷ fs)) ts r s begins (read depths g ts) (ih v w ts)
        (λ x. if next x.1 then (comma_list next (read depths g) most (drop 1 x.1) >>= λ xs. Found (x.0 ∷ xs.0, xs.1)) else Found (x.0 ∷ [], x.1))
        (λ us b.
        cond-false (next us) (comma_list next (read depths g) most (drop 1 us) >>= λ xs. Found (value_kept g v ∷ xs.0, xs.1))
        (Found (value_kept g v ∷ [], us)) (stops us b))
    row_reads (suc most) v (x ∷ xs) w ws ts r s long =
        let more = list_front (deep_front depths g) (printed g) (x ∷ xs) in
        let text = with_commas (map (printed g) (x ∷ xs)) in
        let z = map (value_kept g) (v ∷ x ∷ xs) in
        then_reads (deep_front depths g v) (printed g v) (value_kept g v) (Begins (Exactly comma ∷ fs)) (preceded comma more) (comma ++ text) z After
        ts r s (read depths g ts) (ih v w ts)
        (λ x. if next x.1 then (comma_list next (read depths g) most (drop 1 x.1) >>= λ xs. Found (x.0 ∷ xs.0, xs.1)) else Found (x.0 ∷ [], x.1))
        (λ us q. let p = after_prefix comma more text z After us r q in marks_begin comma p.0 us fs refl p.1)
        (λ us is q. let p = after_prefix comma more text z After us r q in
        let shorter : length p.0 < most = omega (arith, long, ap length is, ap length p.1, length-append (printed g v) us, length-append comma p.0) in
        ap (λ l. if next l then (comma_list next (read depths g) most (drop 1 l) >>= λ xs. Found (value_kept g v ∷ xs.0, xs.1)) else Found (value_kept g v ∷ [], l)) p.1
        ∙ cond-true (next (comma ++ p.0)) (comma_list next (read depths g) most p.0 >>= λ xs. Found (value_kept g v ∷ xs.0, xs.1))
        (Found (value_kept g v ∷ [], comma ++ p.0)) (goes x xs z p.0 r p.2)
        ∙ mapped more text (map (value_kept g) (x ∷ xs)) (λ xs. value_kept g v ∷ xs) After p.0 r p.2 (comma_list next (read depths g) most p.0)
        (λ r' q. row_reads most x xs (All-head (IsWell g) x xs ws) (All-tail (IsWell g) x xs ws) p.0 r' q shorter))

    list_reads : (vs : List (Value g)) → Some_and_all (IsWell g) vs → (ts : List Lexeme) (r : Reading (List (Value g)))
        → StandsAs (list_front (deep_front depths g) (printed g) vs) (with_commas (map (printed g) vs)) (map (value_kept g) vs) After ts r
        → comma_list next (read depths g) (suc (length ts)) ts ≡ r
    list_reads [] w ts r s = absurd w
    list_reads (v ∷ vs) w ts r s = row_reads (suc (length ts)) v vs w.0 w.1 ts r s (omega arith)

  list_complete : (g : Grammar) (fs : List FirstItem) → disjoint comma fs ≡ true → Complete depths g (Exactly comma ∷ fs) → Complete depths (CommaList g) fs
  list_complete g fs a ih vs w ts r s =
      list_reads g fs (starts comma) ih (Begins fs) (λ us b. or_right (starts comma us) (begins fs us) b) (λ us b. disjoint_starts comma fs us a b)
      (λ v vs z us r q. refl) vs w ts r s

  -- a part that has a name and `=` in front
  indexed : {A : Type 0} (g : Grammar) → is_indexed g ≡ true
      → (v : Value g) (z : A) (After : List Lexeme → Type 0) (ts : List Lexeme) (r : Reading A)
      → StandsAs (deep_front depths g v) (printed g v) z After ts r → is_index ts ≡ true
  indexed (Sequence Identifier (Prefixed ks g)) h v z After ts r s =
      then_begins None (Word v.0 ∷ []) z (λ us. starts equals us ≡ true) (preceded ks (deep_front depths g v.1)) (ks ++ printed g v.1) z After ts r s
      (λ r' q. ap is_index q.2 ∙ q.1)
      (λ us q. let p = after_prefix ks (deep_front depths g v.1) (printed g v.1) z After us r q in ap (starts equals) p.1 ∙ equals_first ks p.0 h)
    where
      equals_first : (ks us : List Lexeme) → starts equals ks ≡ true → starts equals (ks ++ us) ≡ true
      equals_first [] us h = absurd cc
      equals_first (k ∷ ks) us h = h
  indexed g h v z After ts r s = absurd cc

  deep_name : (depths : Depths) (e : Expression) (x : List ℕ) → is_too_deep depths e ≡ true → e ≡ Name x → ⊥
  deep_name Limited e x h is = let no : false ≡ true = sym (ap (is_too_deep Limited) is) ∙ h in absurd cc
  deep_name Any e x h is = absurd cc

  -- the indices stop before the mask, and before what stands after a header
  mask_stops : {A : Type 0} (m : Option Expression) (z : A) (fs : List FirstItem) (ts : List Lexeme) (r : Reading A) → IfFormed m
      → disjoint comma fs ≡ true → disjoint equals fs ≡ true → StandsAs (mask_front depths m) (after_comma m) z (Begins fs) ts r
      → index_next ts ≡ false
  mask_stops None z fs ts r w a e s = ap index_next s.2 ∙ ap (λ b. b && is_index (drop 1 s.0)) (disjoint_starts comma fs s.0 a s.1)
  mask_stops (Some e) z fs ts r w a q s =
      let p = after_prefix comma (expr_front depths e) (spelling e) z (Begins fs) ts r s in
      ap index_next p.1 ∙ at p.0 (is_too_deep depths e) refl p.2
    where
      at : (us : List Lexeme) (b : Bool) → is_too_deep depths e ≡ b → StandsAs (if b then Some (spelling e) else None) (spelling e) z (Begins fs) us r → is_index us ≡ false
      at us true h s = ap is_index s.1 ∙ no_index e s.0 w (λ x is. absurd (deep_name depths e x h is))
      at us false h s = ap is_index s.2 ∙ no_index e s.0 w (λ x is. disjoint_starts equals fs s.0 q s.1)

  mask_reads : (m : Option Expression) (fs : List FirstItem) (ts : List Lexeme) (r : Reading (Option Expression)) → IfFormed m
      → list_all ends_expression fs ≡ true → disjoint comma fs ≡ true
      → StandsAs (mask_front depths m) (after_comma m) (option_map kept m) (Begins fs) ts r → mask depths ts ≡ r
  mask_reads None fs ts r w e a s =
      ap (mask depths) s.2
      ∙ cond-false (starts comma s.0) (expr depths (drop 1 s.0) >>= λ x. Found (Some x.0, x.1)) (Found (None, s.0))
      (disjoint_starts comma fs s.0 a s.1) ∙ sym s.3
  mask_reads (Some e) fs ts r w h a s =
      let p = after_prefix comma (expr_front depths e) (spelling e) (Some (kept e)) (Begins fs) ts r s in
      ap (mask depths) p.1
      ∙ mapped (expr_front depths e) (spelling e) (kept e) (λ x. Some x) (Begins fs) p.0 r p.2 (expr depths p.0)
      (expr_reads depths (Begins fs) e w (λ us b. ends_all fs us h b) p.0)

  header_complete : (g : Grammar) (fs : List FirstItem) → is_indexed g ≡ true → list_all ends_expression fs ≡ true → disjoint comma fs ≡ true
      → disjoint equals fs ≡ true → Complete depths g (Exactly comma ∷ fs) → Complete depths (Header g) fs
  header_complete g fs x e a q ih v w ts r s =
      let row = map (value_kept g) v.0 in
      let z : Value (Header g) = (row, option_map kept v.1) in
      let First = λ (us : List Lexeme). Begins (Exactly comma ∷ fs) us × (index_next us ≡ false) in
      then_reads (list_front (deep_front depths g) (printed g) v.0) (with_commas (map (printed g) v.0)) row First (mask_front depths v.1) (after_comma v.1) z (Begins fs) ts r s
      (comma_list index_next (read depths g) (suc (length ts)) ts)
      (list_reads g fs index_next ih First (λ us b. b.0) (λ us b. b.1)
      (λ v vs z us r q. head_stands depths g v vs z First (λ us. Unit {0}) us r q (λ us b. tt) (λ us vs is. tt) (λ r' q. indexed g x v z (λ us. Unit {0}) us r' q)) v.0 w.0 ts)
      (λ v. mask depths v.1 >>= λ w. Found ((v.0, w.0), w.1))
      (λ us p. (mask_begins depths v.1 z fs us r p, mask_stops v.1 z fs us r w.1 a q p))
      (λ us _ p.
      mapped (mask_front depths v.1) (after_comma v.1) (option_map kept v.1) (λ y. (row, y)) (Begins fs) us r p (mask depths us)
      (λ r' p. mask_reads v.1 fs us r' w.1 e a p))

  to_end_some : (g : Grammar) (ts : List Lexeme) → (ts ≡ [] → ⊥) → read depths (OptionalToEnd g) ts ≡ (read depths g ts >>= λ v. Found (Some v.0, v.1))
  to_end_some g [] h = absurd (h refl)
  to_end_some g (t ∷ ts) h = refl

  to_end_complete : (g : Grammar) (fs : List FirstItem) → list_all is_finish fs ≡ true → list_all is_filled (first_set g fs) ≡ true
      → is_ll1 g fs ≡ true → Complete depths g fs → Complete depths (OptionalToEnd g) fs
  to_end_complete g fs e f l ih None w ts r s =
      let none = finish_all fs s.0 e s.1 in
      ap (read depths (OptionalToEnd g)) (s.2 ∙ none) ∙ ap (λ l. Found (None, l)) (sym none) ∙ sym s.3
  to_end_complete g fs e f l ih (Some v) w ts r s =
      let u = unmapped (deep_front depths g v) (printed g v) (value_kept g v) (λ v. Some v) (Begins fs) (Begins fs) ts r (λ us b. b) s in
      let there = λ (none : ts ≡ []). filled_all (first_set g fs) f (subst (Begins (first_set g fs)) none (starting depths g fs l v w ts u.0 u.1)) in
      to_end_some g ts there ∙ mapped (deep_front depths g v) (printed g v) (value_kept g v) (λ v. Some v) (Begins fs) ts r s (read depths g ts) (ih v w ts)

  pub complete : (g : Grammar) (fs : List FirstItem) → is_ll1 g fs ≡ true → Complete depths g fs
  complete Nothing fs l v w ts r s = ap (λ l. Found (tt, l)) s.2 ∙ sym s.3
  complete Identifier fs l x w ts r s = ap name s.2 ∙ cond-false (is_reserved x) (Stopped Malformed) (Found (x, s.0)) w ∙ sym s.3
  complete Expr fs l e w ts r s = expr_reads depths (Begins fs) e w (λ us b. ends_all fs us l b) ts r s
  complete Item fs l v w ts r s = item_reads depths (Begins fs) v w (λ us b. ends_all fs us l b) ts r s
  complete Subscript fs l v w ts r s = subscript_reads depths (Begins fs) (λ us b. subscript_all fs us l b) r v w ts s
  complete (Prefixed ks g) fs l v w ts r s =
      let m = and_parts (are_marks ks) (is_ll1 g fs) l in
      prefixed_complete ks g fs m.0 (complete g fs m.1) v w ts r s
  complete (Suffixed g ks) fs l v w ts r s =
      let m = and_parts (are_marks ks) (is_ll1 g (Exactly ks ∷ [])) l in
      suffixed_complete g ks fs m.0 (complete g (Exactly ks ∷ []) m.1) v w ts r s
  complete (Sequence g h) fs l v w ts r s =
      let m = and_parts (is_ll1 g (first_set h fs)) (is_ll1 h fs) l in
      sequence_complete g h fs m.1 (complete g (first_set h fs) m.0) (complete h fs m.1) v w ts r s
  complete (Optional ks g) fs l v w ts r s =
      let m = three_true (are_marks ks) (disjoint ks fs) (is_ll1 g fs) l in
      optional_complete ks g fs m.0 m.1 (complete g fs m.2) v w ts r s
  complete (Choice ks g h) fs l v w ts r s =
      let m = and_parts (are_marks ks && disjoint ks (first_set h fs) && is_ll1 g fs) (is_ll1 h fs) l in
      let n = three_true (are_marks ks) (disjoint ks (first_set h fs)) (is_ll1 g fs) m.0 in
      choice_complete ks g h fs n.0 n.1 m.1 (complete g fs n.2) (complete h fs m.1) v w ts r s
  complete (Skipped ks) fs l v w ts r s =
      let m = and_parts (are_marks ks) (disjoint ks fs) l in
      skipped_complete ks fs m.0 m.1 v w ts r s
  complete (CommaList g) fs l v w ts r s =
      let m = and_parts (disjoint comma fs) (is_ll1 g (Exactly comma ∷ fs)) l in
      list_complete g fs m.0 (complete g (Exactly comma ∷ fs) m.1) v w ts r s
  complete (Header g) fs l v w ts r s =
      let m = and_parts (is_indexed g && list_all ends_expression fs && disjoint comma fs && disjoint equals fs) (is_ll1 g (Exactly comma ∷ fs)) l in
      let n = and_parts (is_indexed g && list_all ends_expression fs && disjoint comma fs) (disjoint equals fs) m.0 in
      let k = three_true (is_indexed g) (list_all ends_expression fs) (disjoint comma fs) n.0 in
      header_complete g fs k.0 k.1 k.2 n.1 (complete g (Exactly comma ∷ fs) m.1) v w ts r s
  complete (OptionalToEnd g) fs l v w ts r s =
      let m = three_true (list_all is_finish fs) (list_all is_filled (first_set g fs)) (is_ll1 g fs) l in
      to_end_complete g fs m.0 m.1 m.2 (complete g fs m.2) v w ts r s

  pub found : (g : Grammar) (fs : List FirstItem) → is_ll1 g fs ≡ true → (v : Value g) → IsWell g v → deep_front depths g v ≡ None
      → (us : List Lexeme) → Begins fs us → read depths g (printed g v ++ us) ≡ Found (value_kept g v, us)
  found g fs l v w h us b = complete g fs l v w (printed g v ++ us) (Found (value_kept g v, us)) (stands_whole depths g v fs us h b)

  -- what is well formed is read, whole
  pub whole : (g : Grammar) → is_ll1 g (Finish ∷ []) ≡ true → (v : Value g) → IsWell g v → deep_front depths g v ≡ None → read depths g (printed g v) ≡ Found (value_kept g v, [])
  whole g l v w h = ap (read depths g) (sym (append-nil (printed g v))) ∙ found g (Finish ∷ []) l v w h [] refl

  -- the reading stops where such a front stands
  pub deep_found : (g : Grammar) (fs : List FirstItem) → is_ll1 g fs ≡ true → (ts : List Lexeme) → IsTooDeep depths g ts → read depths g ts ≡ Stopped TooDeep
  deep_found g fs l ts d = complete g fs l d.written d.well ts (Stopped TooDeep) (stands_deep depths g d.written fs d.front d.rest ts d.deep d.parts)
