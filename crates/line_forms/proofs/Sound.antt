-- What is read is spelled so, and a reading stops as too deep after such a front.
use Rattle.std.proofs.Common.{◌≡◌, ◌≤◌, ℕ, zero, suc, Bool, true, false, List, [], ◌∷◌, ◌++◌, length, drop, Option, Some, None, inl, inr, rules, refl, sym, ap, ◌∙◌, subst, arith, append_assoc, length-append}
use Rattle.std.specs.Prelude.{if◌then◌else◌, map, not, nat_le, option_map, codes}
use Rattle.std.proofs.lemmas.Slice.Eq.{bytes_eq-Decides}
use Rattle.std.proofs.lemmas.List.Elements.{All-nil, All-cons}
use Rattle.std.proofs.lemmas.Bool.{and_parts}
use denote.Enum.Bare.{same_true}
use Rattle.expr_reader.specs.declared.limits.TheConstants.{MAX_DEPTH}
use Rattle.op_tables.specs.Words.{is_reserved}
use Rattle.syntax_tree.specs.declared.sign.Sign.{Sign}
use Rattle.syntax_tree.specs.contracts.sign.Sign.{the_type}
use Rattle.syntax_tree.specs.contracts.sign.SignPartialEq.TheImpl.{eq-value}
use Rattle.syntax_tree.specs.Lexeme.{Lexeme, Word, Text, Fixed}
use Rattle.syntax_tree.specs.Expression.{Expression, Truth, One, Range, Glued, Maybe, Absent, Present, kept, maybe_kept}
use Rattle.syntax_tree.specs.Spelling.{spelling, maybe_spelling, IsFormed, IsMaybe}
use Rattle.expr_reader.specs.Front.{front, IsFront}
use Rattle.expr_reader.specs.Spelled.{Ifs}
use Rattle.expr_reader.proofs.Theorem.{front_sound, same_depth}
use Rattle.line_forms.specs.declared.depths.Depths.{Depths}
use Rattle.line_forms.specs.declared.depths.Depths.TheVariants.{Limited, Any}
use Rattle.line_forms.specs.declared.read_error.ReadError.TheVariants.{Malformed, TooDeep}
use Rattle.line_forms.specs.Marks.{same, starts, comma, colon, colons}
use Rattle.line_forms.specs.Reading.{Reading, Found, Stopped, ◌>>=◌}
use Rattle.line_forms.specs.Grammar.{Grammar, Value, Shown, Characters, Nothing, Identifier, Expr, Item, Subscript, Prefixed, Suffixed, Sequence, Optional, Choice, Skipped, CommaList, Header, OptionalToEnd}
use Rattle.line_forms.specs.Printed.{with_commas, after_comma, printed, IfFormed, Some_and_all, IsWell, value_kept}
use Rattle.line_forms.specs.DeepFront.{is_too_deep, preceded, front_or, expr_front, maybe_front, mask_front, deep_front, IsTooDeep}
use Rattle.line_forms.specs.Read.{after_marks, name, within_depth, expr, if_there, optional_expr, item, step, triplet, stepped, one, part_from, subscript, is_index, index_next, comma_list, mask, read}
use Rattle.line_forms.specs.InFront.{On, Holds, IsInFront}

holds_bind : {A B : Type 0} (r : Reading A) (f : A × List Lexeme → Reading B) (P : A × List Lexeme → Type 0) (Q : Type 0) (P' : B × List Lexeme → Type 0) (Q' : Type 0)
    → Holds r P Q → ((x : A × List Lexeme) → P x → Holds (f x) P' Q') → (Q → Q') → Holds (r >>= f) P' Q'
holds_bind (Found x) f P Q P' Q' h g q = g x h
holds_bind (Stopped why) f P Q P' Q' h g q = λ e. q (h e)

holds_test : {A : Type 0} (b : Bool) (r s : Reading A) (P : A × List Lexeme → Type 0) (Q : Type 0) → (b ≡ true → Holds r P Q)
    → (b ≡ false → Holds s P Q) → Holds (if b then r else s) P Q
holds_test true r s P Q h g = h refl
holds_test false r s P Q h g = g refl

sign_law : (a b : Sign) → eq-value.it a b ≡ true → a ≡ b
sign_law a b h = same_true the_type (search rules) a b h

pub same_is : (k t : Lexeme) → same k t ≡ true → k ≡ t
same_is (Word a) (Word b) h = ap Word ((bytes_eq-Decides a b).0 h)
same_is (Fixed a) (Fixed b) h = ap Fixed (sign_law a b h)
same_is a b h = absurd cc

-- fixed lexemes that stand in front
pub starts_split : (ks ts : List Lexeme) → starts ks ts ≡ true → ts ≡ ks ++ drop (length ks) ts
starts_split [] ts h = refl
starts_split (k ∷ ks) [] h = absurd cc
starts_split (k ∷ ks) (t ∷ ts) h =
    let b = and_parts (same k t) (starts ks ts) h in
    (λ i. sym (same_is k t b.0) i ∷ starts_split ks ts b.1 i)

-- a tree is too deep where what is written is
pub deep_kept : (depths : Depths) (e : Expression) → is_too_deep depths (kept e) ≡ is_too_deep depths e
deep_kept Limited e = ap (λ n. not (nat_le n MAX_DEPTH)) (same_depth e)
deep_kept Any e = refl

pub front_if : (depths : Depths) (e : Expression) (b : Bool) → is_too_deep depths e ≡ b → expr_front depths e ≡ (if b then Some (spelling e) else None)
front_if depths e b h = ap (λ b. if b then Some (spelling e) else None) h

-- some well-formed part of each grammar
pub sample : (g : Grammar) → (v : Value g) × IsWell g v
sample Nothing = (tt, tt)
sample Identifier = (codes "A", refl)
sample Expr = (Truth true, tt)
sample Item = (Characters [], tt)
sample Subscript = (One (Truth true), tt)
sample (Prefixed ks g) = sample g
sample (Suffixed g ks) = sample g
sample (Sequence g h) = (((sample g).0, (sample h).0), ((sample g).1, (sample h).1))
sample (Optional ks g) = (None, tt)
sample (Choice ks g h) = let v = sample h in (inr v.0, v.1)
sample (Skipped ks) = (false, tt)
sample (CommaList g) = let v = sample g in (v.0 ∷ [], (v.1, All-nil (IsWell g)))
sample (Header g) = let v = sample g in ((v.0 ∷ [], None), ((v.1, All-nil (IsWell g)), tt))
sample (OptionalToEnd g) = let v = sample g in (Some v.0, v.1)

-- what a reading of a grammar gives
abbrev pub Reads : Depths → (g : Grammar) → List Lexeme → Reading (Value g) → Type 0
Reads depths g ts r = Holds r (IsInFront depths g ts) (IsTooDeep depths g ts)

name_sound : (depths : Depths) (ts : List Lexeme) → Reads depths Identifier ts (name ts)
name_sound depths (Word x ∷ ts) =
    holds_test (is_reserved x) (Stopped Malformed) (Found (x, ts)) (IsInFront depths Identifier (Word x ∷ ts)) (IsTooDeep depths Identifier (Word x ∷ ts)) (λ h e. absurd cc)
    (λ h. record { written = x; same = refl; well = h; shallow = refl; parts = refl })
name_sound depths ts = λ e. absurd cc

within_sound : (depths : Depths) (ts : List Lexeme) (o : Option (Expression × List Lexeme)) → Ifs o (IsFront ts) → Reads depths Expr ts (within_depth depths o)
within_sound depths ts None w = λ e. absurd cc
within_sound depths ts (Some x) w =
    let same : is_too_deep depths w.written ≡ is_too_deep depths x.0 = sym (deep_kept depths w.written) ∙ ap (is_too_deep depths) w.same in
    holds_test (is_too_deep depths x.0) (Stopped TooDeep) (Found x) (IsInFront depths Expr ts) (IsTooDeep depths Expr ts)
    (λ h _. record { written = w.written; well = w.formed; front = spelling w.written; deep = front_if depths w.written true (same ∙ h); rest = x.1; parts = w.parts })
    (λ h. record { written = w.written; same = w.same; well = w.formed; shallow = front_if depths w.written false (same ∙ h); parts = w.parts })

expr_sound : (depths : Depths) (ts : List Lexeme) → Reads depths Expr ts (expr depths ts)
expr_sound depths ts = within_sound depths ts (front ts) (front_sound ts)

shown_sound : (depths : Depths) (ts : List Lexeme) → Reads depths Item ts (expr depths ts >>= λ x. Found (Shown x.0, x.1))
shown_sound depths ts =
    holds_bind (expr depths ts) (λ x. Found (Shown x.0, x.1)) (IsInFront depths Expr ts) (IsTooDeep depths Expr ts) (IsInFront depths Item ts)
    (IsTooDeep depths Item ts) (expr_sound depths ts)
    (λ x w. record { written = Shown w.written; same = ap Shown w.same; well = w.well; shallow = w.shallow; parts = w.parts })
    (λ d. record { written = Shown d.written; well = d.well; front = d.front; deep = d.deep; rest = d.rest; parts = d.parts })

item_sound : (depths : Depths) (ts : List Lexeme) → Reads depths Item ts (item depths ts)
item_sound depths (Text bytes ∷ ts) = record { written = Characters bytes; same = refl; well = tt; shallow = refl; parts = refl }
item_sound depths ts = shown_sound depths ts

-- an expression that may be there
pub record MaybeInFront (depths : Depths) (ts : List Lexeme) (x : Maybe × List Lexeme) : Type 0 where
  pub written : Maybe
  pub same : maybe_kept written ≡ x.0
  pub formed : IsMaybe written
  pub shallow : maybe_front depths written ≡ None
  pub parts : ts ≡ maybe_spelling written ++ x.1

module _ (depths : Depths) where
  there_sound : (ts : List Lexeme) (o : Option (Expression × List Lexeme)) → Ifs o (IsFront ts) → Holds (if_there depths ts o) (MaybeInFront depths ts) (IsTooDeep depths Expr ts)
  there_sound ts None w = record { written = Absent; same = refl; formed = tt; shallow = refl; parts = refl }
  there_sound ts (Some x) w =
      holds_bind (within_depth depths (Some x)) (λ x. Found (Present x.0, x.1)) (IsInFront depths Expr ts) (IsTooDeep depths Expr ts)
      (MaybeInFront depths ts) (IsTooDeep depths Expr ts) (within_sound depths ts (Some x) w)
      (λ x w. record { written = Present w.written; same = ap Present w.same; formed = w.well; shallow = w.shallow; parts = w.parts }) (λ d. d)

  optional_sound : (ts : List Lexeme) → Holds (optional_expr depths ts) (MaybeInFront depths ts) (IsTooDeep depths Expr ts)
  optional_sound ts = there_sound ts (front ts) (front_sound ts)

  -- a subscript of which the first expression and a colon are read
  module _ (ts : List Lexeme) (a : Maybe × List Lexeme) (wa : MaybeInFront depths ts a) where
    abbrev first : List Lexeme
    first = maybe_spelling wa.written

    after_first : (ks us : List Lexeme) → a.1 ≡ ks ++ us → ts ≡ first ++ (ks ++ us)
    after_first ks us is = wa.parts ∙ ap (λ l. first ++ l) is

    module _ (us : List Lexeme) (colon_is : a.1 ≡ colon ++ us) (b : Maybe × List Lexeme) (wb : MaybeInFront depths us b) where
      abbrev second : List Lexeme
      second = maybe_spelling wb.written

      grouped : (cs vs : List Lexeme) → b.1 ≡ cs ++ vs → ts ≡ (first ++ (colon ++ (second ++ cs))) ++ vs
      grouped cs vs is =
          after_first colon us colon_is ∙ ap (λ l. first ++ (colon ++ l)) (wb.parts ∙ ap (λ l. second ++ l) is ∙ sym (append_assoc second cs vs))
          ∙ sym (append_assoc first (colon ++ (second ++ cs)) vs)

      step_sound : Reads depths Subscript ts (step depths a.0 b)
      step_sound =
          holds_test (starts colon b.1) (expr depths (drop 1 b.1) >>= λ c. Found (Range a.0 b.0 (Present c.0), c.1))
          (Found (Range a.0 b.0 Absent, b.1)) (IsInFront depths Subscript ts) (IsTooDeep depths Subscript ts)
          (λ h. holds_bind (expr depths (drop 1 b.1)) (λ c. Found (Range a.0 b.0 (Present c.0), c.1)) (IsInFront depths Expr (drop 1 b.1))
          (IsTooDeep depths Expr (drop 1 b.1)) (IsInFront depths Subscript ts) (IsTooDeep depths Subscript ts) (expr_sound depths (drop 1 b.1))
          (λ c wc. record {
            written = Range wa.written wb.written (Present wc.written);
            same = λ i. Range (wa.same i) (wb.same i) (Present (wc.same i));
            well = (wa.formed, wb.formed, wc.well);
            shallow = λ i. front_or (wa.shallow i) first (preceded colon (front_or (wb.shallow i) second (preceded colon (wc.shallow i))));
            parts = grouped (colon ++ spelling wc.written) c.1 (starts_split colon b.1 h ∙ ap (λ l. colon ++ l) wc.parts);
          })
          (λ d. record {
            written = Range wa.written wb.written (Present d.written);
            well = (wa.formed, wb.formed, d.well);
            front = first ++ (colon ++ (second ++ (colon ++ d.front)));
            deep = λ i. front_or (wa.shallow i) first (preceded colon (front_or (wb.shallow i) second (preceded colon (d.deep i))));
            rest = d.rest;
            parts = grouped (colon ++ d.front) d.rest (starts_split colon b.1 h ∙ ap (λ l. colon ++ l) d.parts);
          }))
          (λ h. record {
            written = Range wa.written wb.written Absent;
            same = λ i. Range (wa.same i) (wb.same i) Absent;
            well = (wa.formed, wb.formed, tt);
            shallow = λ i. front_or (wa.shallow i) first (preceded colon (front_or (wb.shallow i) second None));
            parts = grouped [] b.1 refl;
          })

    triplet_sound : (us : List Lexeme) → a.1 ≡ colon ++ us → Reads depths Subscript ts (triplet depths a.0 us)
    triplet_sound us is =
        holds_bind (optional_expr depths us) (step depths a.0) (MaybeInFront depths us) (IsTooDeep depths Expr us) (IsInFront depths Subscript ts)
        (IsTooDeep depths Subscript ts) (optional_sound us) (step_sound us is) (λ d. record {
          written = Range wa.written (Present d.written) Absent;
          well = (wa.formed, d.well, tt);
          front = first ++ (colon ++ d.front);
          deep = λ i. front_or (wa.shallow i) first (preceded colon (front_or (d.deep i) (spelling d.written) None));
          rest = d.rest;
          parts = after_first colon us is ∙ ap (λ l. first ++ (colon ++ l)) d.parts ∙ sym (append_assoc first (colon ++ d.front) d.rest);
        })

    stepped_sound : (us : List Lexeme) → a.1 ≡ colons ++ us → Reads depths Subscript ts (stepped depths a.0 us)
    stepped_sound us is =
        holds_bind (expr depths us) (λ c. Found (Range a.0 Absent (Present c.0), c.1)) (IsInFront depths Expr us) (IsTooDeep depths Expr us)
        (IsInFront depths Subscript ts) (IsTooDeep depths Subscript ts) (expr_sound depths us)
        (λ c wc. record {
          written = Glued wa.written wc.written;
          same = λ i. Range (wa.same i) Absent (Present (wc.same i));
          well = (wa.formed, wc.well);
          shallow = λ i. front_or (wa.shallow i) first (preceded colons (wc.shallow i));
          parts = after_first colons us is ∙ ap (λ l. first ++ (colons ++ l)) wc.parts ∙ sym (append_assoc first (colons ++ spelling wc.written) c.1);
        })
        (λ d. record {
          written = Glued wa.written d.written;
          well = (wa.formed, d.well);
          front = first ++ (colons ++ d.front);
          deep = λ i. front_or (wa.shallow i) first (preceded colons (d.deep i));
          rest = d.rest;
          parts = after_first colons us is ∙ ap (λ l. first ++ (colons ++ l)) d.parts ∙ sym (append_assoc first (colons ++ d.front) d.rest);
        })

  one_sound : (ts : List Lexeme) (a : Maybe) (us : List Lexeme) → MaybeInFront depths ts (a, us) → Reads depths Subscript ts (one a us)
  one_sound ts Absent us w = λ e. absurd cc
  one_sound ts (Present e) us w = kept_one w.written w.same w.formed w.shallow w.parts
    where
      kept_one : (a : Maybe) → maybe_kept a ≡ Present e → IsMaybe a → maybe_front depths a ≡ None → ts ≡ maybe_spelling a ++ us → IsInFront depths Subscript ts (One e, us)
      kept_one Absent is w s parts = absurd cc
      kept_one (Present x) is w s parts = let same : kept x ≡ e = cc in record { written = One x; same = ap One same; well = w; shallow = s; parts = parts }

  part_sound : (ts : List Lexeme) (a : Maybe × List Lexeme) → MaybeInFront depths ts a → Reads depths Subscript ts (part_from depths a)
  part_sound ts a w =
      let us = drop 1 a.1 in
      holds_test (starts colon a.1) (triplet depths a.0 us) (if starts colons a.1 then stepped depths a.0 us else one a.0 a.1)
      (IsInFront depths Subscript ts) (IsTooDeep depths Subscript ts)
      (λ h. triplet_sound ts a w us (starts_split colon a.1 h))
      (λ h.
      holds_test (starts colons a.1) (stepped depths a.0 us) (one a.0 a.1) (IsInFront depths Subscript ts) (IsTooDeep depths Subscript ts)
      (λ g. stepped_sound ts a w us (starts_split colons a.1 g)) (λ g. one_sound ts a.0 a.1 w))

  subscript_sound : (ts : List Lexeme) → Reads depths Subscript ts (subscript depths ts)
  subscript_sound ts =
      holds_bind (optional_expr depths ts) (part_from depths) (MaybeInFront depths ts) (IsTooDeep depths Expr ts) (IsInFront depths Subscript ts)
      (IsTooDeep depths Subscript ts) (optional_sound ts) (part_sound ts)
      (λ d. record { written = One d.written; well = d.well; front = d.front; deep = d.deep; rest = d.rest; parts = d.parts })

after_marks_sound : (ks ts : List Lexeme) → Holds (after_marks ks ts) (λ x. ts ≡ ks ++ x.1) ⊥
after_marks_sound ks ts = holds_test (starts ks ts) (Found (tt, drop (length ks) ts)) (Stopped Malformed) (λ x. ts ≡ ks ++ x.1) ⊥ (starts_split ks ts) (λ h e. absurd cc)

abbrev pub Sound : Depths → Grammar → Type 0
Sound depths g = (ts : List Lexeme) → Reads depths g ts (read depths g ts)

-- parts that are made of one part after fixed lexemes
record Wraps (ks : List Lexeme) (g g' : Grammar) (depths : Depths) : Type 0 where
  wrap : Value g → Value g'
  keeps : (v : Value g) → value_kept g' (wrap v) ≡ wrap (value_kept g v)
  well : (v : Value g) → IsWell g v → IsWell g' (wrap v)
  front : (v : Value g) → deep_front depths g' (wrap v) ≡ preceded ks (deep_front depths g v)
  text : (v : Value g) → printed g' (wrap v) ≡ ks ++ printed g v

wrapped_deep : (ks : List Lexeme) (g g' : Grammar) (depths : Depths) (w : Wraps ks g g' depths) (ts us : List Lexeme) → ts ≡ ks ++ us
    → IsTooDeep depths g us → IsTooDeep depths g' ts
wrapped_deep ks g g' depths w ts us is d = record {
  written = w.wrap d.written;
  well = w.well d.written d.well;
  front = ks ++ d.front;
  deep = w.front d.written ∙ ap (preceded ks) d.deep;
  rest = d.rest;
  parts = is ∙ ap (λ l. ks ++ l) d.parts ∙ sym (append_assoc ks d.front d.rest);
}

wrapped_sound : (ks : List Lexeme) (g g' : Grammar) (depths : Depths) (w : Wraps ks g g' depths) (ts us : List Lexeme) → ts ≡ ks ++ us
    → (r : Reading (Value g)) → Reads depths g us r → Reads depths g' ts (r >>= λ v. Found (w.wrap v.0, v.1))
wrapped_sound ks g g' depths w ts us is r h =
    holds_bind r (λ v. Found (w.wrap v.0, v.1)) (IsInFront depths g us) (IsTooDeep depths g us) (IsInFront depths g' ts) (IsTooDeep depths g' ts) h
    (λ v a. record {
      written = w.wrap a.written;
      same = w.keeps a.written ∙ ap w.wrap a.same;
      well = w.well a.written a.well;
      shallow = w.front a.written ∙ ap (preceded ks) a.shallow;
      parts = is ∙ ap (λ l. ks ++ l) a.parts ∙ sym (append_assoc ks (printed g a.written) v.1) ∙ ap (λ l. l ++ v.1) (sym (w.text a.written));
    })
    (wrapped_deep ks g g' depths w ts us is)

module _ (depths : Depths) where
  abbrev prefixed : (ks : List Lexeme) (g : Grammar) → Wraps ks g (Prefixed ks g) depths
  prefixed ks g = record { wrap = λ v. v; keeps = λ v. refl; well = λ v w. w; front = λ v. refl; text = λ v. refl }

  abbrev optional : (ks : List Lexeme) (g : Grammar) → Wraps ks g (Optional ks g) depths
  optional ks g = record { wrap = λ v. Some v; keeps = λ v. refl; well = λ v w. w; front = λ v. refl; text = λ v. refl }

  abbrev choice : (ks : List Lexeme) (g h : Grammar) → Wraps ks g (Choice ks g h) depths
  choice ks g h = record { wrap = λ v. inl v; keeps = λ v. refl; well = λ v w. w; front = λ v. refl; text = λ v. refl }

  prefixed_sound : (ks : List Lexeme) (g : Grammar) → Sound depths g → Sound depths (Prefixed ks g)
  prefixed_sound ks g ih ts =
      holds_bind (after_marks ks ts) (λ x. read depths g x.1) (λ x. ts ≡ ks ++ x.1) ⊥ (IsInFront depths (Prefixed ks g) ts)
      (IsTooDeep depths (Prefixed ks g) ts) (after_marks_sound ks ts)
      (λ x is. same_reading x.1 (read depths g x.1) (wrapped_sound ks g (Prefixed ks g) depths (prefixed ks g) ts x.1 is (read depths g x.1) (ih x.1))) (λ no. absurd no)
    where
      same_reading : (us : List Lexeme) (r : Reading (Value g)) → Reads depths (Prefixed ks g) ts (r >>= λ v. Found (v.0, v.1)) → Reads depths (Prefixed ks g) ts r
      same_reading us (Found x) h = h
      same_reading us (Stopped why) h = h

  suffixed_sound : (g : Grammar) (ks : List Lexeme) → Sound depths g → Sound depths (Suffixed g ks)
  suffixed_sound g ks ih ts =
      holds_bind (read depths g ts) (λ v. after_marks ks v.1 >>= λ x. Found (v.0, x.1)) (IsInFront depths g ts) (IsTooDeep depths g ts)
      (IsInFront depths (Suffixed g ks) ts) (IsTooDeep depths (Suffixed g ks) ts) (ih ts)
      (λ v w. holds_bind (after_marks ks v.1) (λ x. Found (v.0, x.1)) (λ x. v.1 ≡ ks ++ x.1) ⊥ (IsInFront depths (Suffixed g ks) ts)
      (IsTooDeep depths (Suffixed g ks) ts) (after_marks_sound ks v.1)
      (λ x is. record {
        written = w.written;
        same = w.same;
        well = w.well;
        shallow = w.shallow;
        parts = w.parts ∙ ap (λ l. printed g w.written ++ l) is ∙ sym (append_assoc (printed g w.written) ks x.1);
      })
      (λ no. absurd no))
      (λ d. record { written = d.written; well = d.well; front = d.front; deep = d.deep; rest = d.rest; parts = d.parts })

  sequence_sound : (g h : Grammar) → Sound depths g → Sound depths h → Sound depths (Sequence g h)
  sequence_sound g h sg sh ts =
      holds_bind (read depths g ts) (λ v. read depths h v.1 >>= λ w. Found ((v.0, w.0), w.1)) (IsInFront depths g ts) (IsTooDeep depths g ts)
      (IsInFront depths (Sequence g h) ts) (IsTooDeep depths (Sequence g h) ts) (sg ts)
      (λ v a. holds_bind (read depths h v.1) (λ w. Found ((v.0, w.0), w.1)) (IsInFront depths h v.1) (IsTooDeep depths h v.1)
      (IsInFront depths (Sequence g h) ts) (IsTooDeep depths (Sequence g h) ts) (sh v.1)
      (λ w b. record {
        written = (a.written, b.written);
        same = λ i. (a.same i, b.same i);
        well = (a.well, b.well);
        shallow = λ i. front_or (a.shallow i) (printed g a.written) (b.shallow i);
        parts = a.parts ∙ ap (λ l. printed g a.written ++ l) b.parts ∙ sym (append_assoc (printed g a.written) (printed h b.written) w.1);
      })
      (λ b. record {
        written = (a.written, b.written);
        well = (a.well, b.well);
        front = printed g a.written ++ b.front;
        deep = λ i. front_or (a.shallow i) (printed g a.written) (b.deep i);
        rest = b.rest;
        parts = a.parts ∙ ap (λ l. printed g a.written ++ l) b.parts ∙ sym (append_assoc (printed g a.written) b.front b.rest);
      }))
      (λ a. let other = sample h in record {
        written = (a.written, other.0);
        well = (a.well, other.1);
        front = a.front;
        deep = ap (λ o. front_or o (printed g a.written) (deep_front depths h other.0)) a.deep;
        rest = a.rest;
        parts = a.parts;
      })

  optional_part_sound : (ks : List Lexeme) (g : Grammar) → Sound depths g → Sound depths (Optional ks g)
  optional_part_sound ks g ih ts =
      let us = drop (length ks) ts in
      holds_test (starts ks ts) (read depths g us >>= λ v. Found (Some v.0, v.1)) (Found (None, ts)) (IsInFront depths (Optional ks g) ts) (IsTooDeep depths (Optional ks g) ts)
      (λ h. wrapped_sound ks g (Optional ks g) depths (optional ks g) ts us (starts_split ks ts h) (read depths g us) (ih us))
      (λ h. record { written = None; same = refl; well = tt; shallow = refl; parts = refl })

  choice_sound : (ks : List Lexeme) (g h : Grammar) → Sound depths g → Sound depths h → Sound depths (Choice ks g h)
  choice_sound ks g h sg sh ts =
      let us = drop (length ks) ts in
      holds_test (starts ks ts) (read depths g us >>= λ v. Found (inl v.0, v.1)) (read depths h ts >>= λ v. Found (inr v.0, v.1))
      (IsInFront depths (Choice ks g h) ts) (IsTooDeep depths (Choice ks g h) ts)
      (λ e. wrapped_sound ks g (Choice ks g h) depths (choice ks g h) ts us (starts_split ks ts e) (read depths g us) (sg us))
      (λ e. holds_bind (read depths h ts) (λ v. Found (inr v.0, v.1)) (IsInFront depths h ts) (IsTooDeep depths h ts)
      (IsInFront depths (Choice ks g h) ts) (IsTooDeep depths (Choice ks g h) ts) (sh ts)
      (λ v w. record { written = inr w.written; same = ap inr w.same; well = w.well; shallow = w.shallow; parts = w.parts })
      (λ d. record { written = inr d.written; well = d.well; front = d.front; deep = d.deep; rest = d.rest; parts = d.parts }))

  skipped_sound : (ks : List Lexeme) → Sound depths (Skipped ks)
  skipped_sound ks ts =
      holds_test (starts ks ts) (Found (false, drop (length ks) ts)) (Found (false, ts)) (IsInFront depths (Skipped ks) ts) (IsTooDeep depths (Skipped ks) ts)
      (λ h. record { written = true; same = refl; well = tt; shallow = refl; parts = starts_split ks ts h })
      (λ h. record { written = false; same = refl; well = tt; shallow = refl; parts = refl })

  -- a list with one more element in front
  module _ (g : Grammar) (ts : List Lexeme) (x : Value g × List Lexeme) (a : IsInFront depths g ts x) (comma_is : starts comma x.1 ≡ true) where
    abbrev text : List Lexeme
    text = printed g a.written

    listed_so : (us vs : List Lexeme) → drop 1 x.1 ≡ us ++ vs → ts ≡ (text ++ (comma ++ us)) ++ vs
    listed_so us vs is = a.parts ∙ ap (λ l. text ++ l) (starts_split comma x.1 comma_is ∙ ap (λ l. comma ++ l) is) ∙ sym (append_assoc text (comma ++ us) vs)

    more_sound : (xs : List (Value g) × List Lexeme) → IsInFront depths (CommaList g) (drop 1 x.1) xs → IsInFront depths (CommaList g) ts (x.0 ∷ xs.0, xs.1)
    more_sound xs b = more b.written b.same b.well b.shallow b.parts
      where
        more : (vs : List (Value g)) → map (value_kept g) vs ≡ xs.0 → Some_and_all (IsWell g) vs → deep_front depths (CommaList g) vs ≡ None
            → drop 1 x.1 ≡ with_commas (map (printed g) vs) ++ xs.1 → IsInFront depths (CommaList g) ts (x.0 ∷ xs.0, xs.1)
        more [] is w s parts = absurd w
        more (v ∷ vs) is w s parts = record {
          written = a.written ∷ v ∷ vs;
          same = λ i. a.same i ∷ is i;
          well = (a.well, All-cons (IsWell g) v vs w.0 w.1);
          shallow = λ i. front_or (a.shallow i) text (preceded comma (s i));
          parts = listed_so (with_commas (map (printed g) (v ∷ vs))) xs.1 parts;
        }

    more_deep : IsTooDeep depths (CommaList g) (drop 1 x.1) → IsTooDeep depths (CommaList g) ts
    more_deep b = more b.written b.well b.front b.deep b.rest b.parts
      where
        more : (vs : List (Value g)) → Some_and_all (IsWell g) vs → (front : List Lexeme) → deep_front depths (CommaList g) vs ≡ Some front
            → (rest : List Lexeme) → drop 1 x.1 ≡ front ++ rest → IsTooDeep depths (CommaList g) ts
        more [] w front d rest parts = absurd w
        more (v ∷ vs) w front d rest parts = record {
          written = a.written ∷ v ∷ vs;
          well = (a.well, All-cons (IsWell g) v vs w.0 w.1);
          front = text ++ (comma ++ front);
          deep = λ i. front_or (a.shallow i) text (preceded comma (d i));
          rest = rest;
          parts = listed_so front rest parts;
        }

  -- a list whose elements follow commas
  list_sound : (g : Grammar) (next : List Lexeme → Bool) → Sound depths g → ((us : List Lexeme) → next us ≡ true → starts comma us ≡ true)
      → (most : ℕ) (ts : List Lexeme) → Reads depths (CommaList g) ts (comma_list next (read depths g) most ts)
  unfolding comma_list
  list_sound g next ih commas zero ts = λ e. absurd cc
  list_sound g next ih commas (suc most) ts =
      holds_bind (read depths g ts) _ (IsInFront depths g ts) (IsTooDeep depths g ts) (IsInFront depths (CommaList g) ts) (IsTooDeep depths (CommaList g) ts) (ih ts)
      (λ x a. holds_test (next x.1) (comma_list next (read depths g) most (drop 1 x.1) >>= λ xs. Found (x.0 ∷ xs.0, xs.1)) (Found (x.0 ∷ [], x.1))
      (IsInFront depths (CommaList g) ts) (IsTooDeep depths (CommaList g) ts)
      (λ h. holds_bind (comma_list next (read depths g) most (drop 1 x.1)) (λ xs. Found (x.0 ∷ xs.0, xs.1))
      (IsInFront depths (CommaList g) (drop 1 x.1)) (IsTooDeep depths (CommaList g) (drop 1 x.1)) (IsInFront depths (CommaList g) ts)
      (IsTooDeep depths (CommaList g) ts)
      (list_sound g next ih commas most (drop 1 x.1)) (more_sound g ts x a (commas x.1 h)) (more_deep g ts x a (commas x.1 h)))
      (λ h. record { written = a.written ∷ []; same = λ i. a.same i ∷ []; well = (a.well, All-nil (IsWell g)); shallow = a.shallow; parts = a.parts }))
      (λ d. record { written = d.written ∷ []; well = (d.well, All-nil (IsWell g)); front = d.front; deep = d.deep; rest = d.rest; parts = d.parts })

  -- the expression after a comma, of what stands in front
  record MaskInFront (ts : List Lexeme) (x : Option Expression × List Lexeme) : Type 0 where
    written : Option Expression
    same : option_map kept written ≡ x.0
    well : IfFormed written
    shallow : mask_front depths written ≡ None
    parts : ts ≡ after_comma written ++ x.1

  record DeepMask (ts : List Lexeme) : Type 0 where
    written : Expression
    well : IsFormed written
    front : List Lexeme
    deep : mask_front depths (Some written) ≡ Some front
    rest : List Lexeme
    parts : ts ≡ front ++ rest

  mask_sound : (ts : List Lexeme) → Holds (mask depths ts) (MaskInFront ts) (DeepMask ts)
  mask_sound ts =
      let us = drop 1 ts in
      holds_test (starts comma ts) (expr depths us >>= λ x. Found (Some x.0, x.1)) (Found (None, ts)) (MaskInFront ts) (DeepMask ts)
      (λ h. holds_bind (expr depths us) (λ x. Found (Some x.0, x.1)) (IsInFront depths Expr us) (IsTooDeep depths Expr us) (MaskInFront ts) (DeepMask ts) (expr_sound depths us)
      (λ x w. record {
        written = Some w.written;
        same = ap Some w.same;
        well = w.well;
        shallow = ap (preceded comma) w.shallow;
        parts = starts_split comma ts h ∙ ap (λ l. comma ++ l) w.parts;
      })
      (λ d. record {
        written = d.written;
        well = d.well;
        front = comma ++ d.front;
        deep = ap (preceded comma) d.deep;
        rest = d.rest;
        parts = starts_split comma ts h ∙ ap (λ l. comma ++ l) d.parts;
      }))
      (λ h. record { written = None; same = refl; well = tt; shallow = refl; parts = refl })

  header_sound : (g : Grammar) → Sound depths g → Sound depths (Header g)
  header_sound g ih ts =
      let listed = comma_list index_next (read depths g) (suc (length ts)) ts in
      holds_bind listed (λ v. mask depths v.1 >>= λ w. Found ((v.0, w.0), w.1)) (IsInFront depths (CommaList g) ts)
      (IsTooDeep depths (CommaList g) ts) (IsInFront depths (Header g) ts) (IsTooDeep depths (Header g) ts)
      (list_sound g index_next ih (λ us h. (and_parts (starts comma us) (is_index (drop 1 us)) h).0) (suc (length ts)) ts)
      (λ v a. let text = with_commas (map (printed g) a.written) in
      holds_bind (mask depths v.1) (λ w. Found ((v.0, w.0), w.1)) (MaskInFront v.1) (DeepMask v.1) (IsInFront depths (Header g) ts)
      (IsTooDeep depths (Header g) ts) (mask_sound v.1)
      (λ w b. record {
        written = (a.written, b.written);
        same = λ i. (a.same i, b.same i);
        well = (a.well, b.well);
        shallow = λ i. front_or (a.shallow i) text (b.shallow i);
        parts = a.parts ∙ ap (λ l. text ++ l) b.parts ∙ sym (append_assoc text (after_comma b.written) w.1);
      })
      (λ d. record {
        written = (a.written, Some d.written);
        well = (a.well, d.well);
        front = text ++ d.front;
        deep = λ i. front_or (a.shallow i) text (d.deep i);
        rest = d.rest;
        parts = a.parts ∙ ap (λ l. text ++ l) d.parts ∙ sym (append_assoc text d.front d.rest);
      }))
      (λ d. record {
        written = (d.written, None);
        well = (d.well, tt);
        front = d.front;
        deep = ap (λ o. front_or o (with_commas (map (printed g) d.written)) None) d.deep;
        rest = d.rest;
        parts = d.parts;
      })

  to_end_sound : (g : Grammar) → Sound depths g → Sound depths (OptionalToEnd g)
  to_end_sound g ih [] = record { written = None; same = refl; well = tt; shallow = refl; parts = refl }
  to_end_sound g ih (t ∷ ts) =
      holds_bind (read depths g (t ∷ ts)) (λ v. Found (Some v.0, v.1)) (IsInFront depths g (t ∷ ts)) (IsTooDeep depths g (t ∷ ts))
      (IsInFront depths (OptionalToEnd g) (t ∷ ts)) (IsTooDeep depths (OptionalToEnd g) (t ∷ ts)) (ih (t ∷ ts))
      (λ v w. record { written = Some w.written; same = ap Some w.same; well = w.well; shallow = w.shallow; parts = w.parts })
      (λ d. record { written = Some d.written; well = d.well; front = d.front; deep = d.deep; rest = d.rest; parts = d.parts })

  -- what is read is spelled so, and a reading that stops as too deep has such a front before it
  pub reads : (g : Grammar) (ts : List Lexeme) → Reads depths g ts (read depths g ts)
  reads Nothing ts = record { written = tt; same = refl; well = tt; shallow = refl; parts = refl }
  reads Identifier ts = name_sound depths ts
  reads Expr ts = expr_sound depths ts
  reads Item ts = item_sound depths ts
  reads Subscript ts = subscript_sound depths ts
  reads (Prefixed ks g) ts = prefixed_sound ks g (reads g) ts
  reads (Suffixed g ks) ts = suffixed_sound g ks (reads g) ts
  reads (Sequence g h) ts = sequence_sound g h (reads g) (reads h) ts
  reads (Optional ks g) ts = optional_part_sound ks g (reads g) ts
  reads (Choice ks g h) ts = choice_sound ks g h (reads g) (reads h) ts
  reads (Skipped ks) ts = skipped_sound ks ts
  reads (CommaList g) ts = list_sound g (starts comma) (reads g) (λ us h. h) (suc (length ts)) ts
  reads (Header g) ts = header_sound g (reads g) ts
  reads (OptionalToEnd g) ts = to_end_sound g (reads g) ts

  pub sound : (g : Grammar) (ts : List Lexeme) → On (read depths g ts) (IsInFront depths g ts)
  sound g ts = found (read depths g ts) (reads g ts)
    where
      found : (r : Reading (Value g)) → Reads depths g ts r → On r (IsInFront depths g ts)
      found (Found x) h = h
      found (Stopped why) h = tt

  pub deep_sound : (g : Grammar) (ts : List Lexeme) → read depths g ts ≡ Stopped TooDeep → IsTooDeep depths g ts
  deep_sound g ts h = subst (λ r. Reads depths g ts r) h (reads g ts) refl

  -- no more lexemes are after than there were
  pub shorter : (g : Grammar) (ts : List Lexeme) → On (read depths g ts) (λ x. length x.1 ≤ length ts)
  shorter g ts = short (read depths g ts) (sound g ts)
    where
      short : (r : Reading (Value g)) → On r (IsInFront depths g ts) → On r (λ x. length x.1 ≤ length ts)
      short (Found x) w = omega (arith, ap length w.parts, length-append (printed g w.written) x.1)
      short (Stopped why) w = tt
