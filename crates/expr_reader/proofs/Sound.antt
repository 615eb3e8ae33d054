-- What is read is well formed, and is spelled by the lexemes that were taken.
use Rattle.std.proofs.Common.{◌≡◌, ◌≤◌, ℕ, zero, suc, ◌+◌, List, [], ◌∷◌, ◌++◌, length, length-append, drop, Option, Some, None, true, false, refl, sym, ap, ◌∙◌, subst, arith, rules, tests, append_assoc, append-nil}
use Rattle.std.specs.Prelude.{◌&&◌, nat_le}
use Rattle.std.proofs.Math.Seq.{drop-append_seam}
use Rattle.std.proofs.lemmas.Bool.{and_parts, cond_both}
use Rattle.op_tables.specs.declared.op.Op.{Op}
use Rattle.op_tables.specs.declared.op.Op.TheVariants as op
use Rattle.op_tables.specs.Words.{is_reserved}
use Rattle.syntax_tree.specs.declared.sign.Sign.{Sign}
use Rattle.syntax_tree.specs.declared.sign.Sign.TheVariants as sign
use Rattle.syntax_tree.specs.Lexeme.{Lexeme, Word, Integer, Fixed, sign_of}
use Rattle.syntax_tree.specs.Operators.{binary_of, unary_of, operator_lexeme, level, left_place, right_place, intrinsic, intrinsic_word}
use Rattle.syntax_tree.proofs.Intrinsics.{IsNamed, intrinsic_is_named}
use Rattle.syntax_tree.specs.Expression.{Expression, Name, Binary, Closed, Part, One, Range, Glued, Parts, End, More, Maybe, Absent, Present}
use Rattle.syntax_tree.specs.Spelling.{binds, spelling, part_spelling, maybe_spelling, step_spelling, parts_spelling, rest_spelling, IsFormed, IsPart, IsMaybe, IsList, AreParts, AreArguments, depth}
use Rattle.expr_reader.specs.Reading.{◌>>=◌, Core, Readers, is_open, is_close, is_colon, is_colons, name_with, name_at, are_arguments, if_arguments, arguments_at, call_at, word_at, closed_at, unary_at, operand_at, expr_at, joined_at, goes_with, goes_on, more_with, more_at, rest_at, core_at, from_here, maybe_at, step_at, range_at, one_at, glued_at, part_at, list_at, at_lexeme, at_end, after, reading}
use Rattle.expr_reader.specs.Spelled.{Takes, Spelled, Ifs}

-- the tools: a step that may fail, and a choice
pub bind_holds : {A B : Type 0} (o : Option A) (f : A → Option B) (P : A → Type 0) (Q : B → Type 0) → Ifs o P → ((x : A) → P x → Ifs (f x) Q) → Ifs (o >>= f) Q
bind_holds None f P Q h g = tt
bind_holds (Some x) f P Q h g = g x h

-- the lexemes that are taken, one part after another
pub takes_none : (ts : List Lexeme) → Takes [] ts 0
takes_none ts = (refl, refl)

pub takes_one : (t : Lexeme) (ts us : List Lexeme) (n : ℕ) → Takes us ts n → Takes (t ∷ us) (t ∷ ts) (n + 1)
takes_one t ts us n h =
    let e : suc n ≡ n + 1 = omega arith in
    (ap (λ l. t ∷ l) h.0 ∙ ap (λ m. t ∷ us ++ drop m (t ∷ ts)) e, omega (arith, h.1))

takes_front : (us ts : List Lexeme) (n : ℕ) → n ≡ length us → Takes us (us ++ ts) n
takes_front us ts n e = (ap (λ l. us ++ l) (sym (drop-append_seam us ts) ∙ ap (λ m. drop m (us ++ ts)) (sym e)), e)

pub drop_taken : (us ts : List Lexeme) (n : ℕ) → n ≡ length us → drop n (us ++ ts) ≡ ts
drop_taken us ts n e = ap (λ m. drop m (us ++ ts)) e ∙ drop-append_seam us ts

pub takes_two : (us vs ts : List Lexeme) (n m : ℕ) → Takes us ts n → Takes vs (drop n ts) m → Takes (us ++ vs) ts (n + m)
takes_two us vs ts n m h g =
    let rest = drop m (drop n ts) in
    let whole : ts ≡ (us ++ vs) ++ rest = h.0 ∙ ap (λ l. us ++ l) g.0 ∙ sym (append_assoc us vs rest) in
    let long : n + m ≡ length (us ++ vs) = omega (arith, length-append us vs, h.1, g.1) in
    (whole ∙ ap (λ l. (us ++ vs) ++ l) (sym (drop_taken (us ++ vs) rest (n + m) long) ∙ ap (drop (n + m)) (sym whole)), long)

takes_head : (t : Lexeme) (ts : List Lexeme) → ts ≡ t ∷ drop 1 ts → Takes (t ∷ []) ts 1
takes_head t ts h = (h, refl)

-- what the readers at a place say of the lexemes there
pub record Sound (ts : List Lexeme) (r : Readers) : Type 0 where
  pub head : (s : Sign) → r.core.head ≡ Some s → ts ≡ Fixed s ∷ drop 1 ts
  pub expr : (k : ℕ) → k ≤ 9 → Ifs (r.core.expr k) (Spelled k ts)
  pub more : (k : ℕ) (e : Expression) (n : ℕ) → IsFormed e → k ≤ binds e → n ≡ length (spelling e) → Spelled k (spelling e ++ ts) (r.core.more k e n)
  pub grows : (k : ℕ) (e : Expression) (n : ℕ) → n ≤ (r.core.more k e n).1
  pub deepens : (k : ℕ) (e : Expression) (n : ℕ) → depth e ≤ depth (r.core.more k e n).0
  pub rest : Ifs r.core.rest (λ s. AreParts s.0 × Takes (rest_spelling s.0) ts s.1)
  pub list : Ifs r.list (λ s. IsList s.0 × Takes (parts_spelling s.0) ts s.1)

sound_at_end : (ts : List Lexeme) → Sound ts (at_end Glued)
sound_at_end ts = record {
  head = λ t h. absurd cc;
  expr = λ k h. tt;
  more = λ k e n w b h. record { formed = w; bound = b; takes = takes_front (spelling e) ts n h };
  grows = λ k e n. omega arith;
  deepens = λ k e n. omega arith;
  rest = tt;
  list = tt;
}

-- what the tests of signs say
sign_is : (t : Lexeme) (s : Sign) → sign_of t ≡ Some s → t ≡ Fixed s
sign_is (Fixed u) s h = let e : u ≡ s = cc in ap Fixed e
sign_is t s h = absurd cc

open_is : (h : Option Sign) → is_open h ≡ true → h ≡ Some sign.Open
open_is (Some sign.Open) e = refl
open_is h e = absurd cc

close_is : (h : Option Sign) → is_close h ≡ true → h ≡ Some sign.Close
close_is (Some sign.Close) e = refl
close_is h e = absurd cc

colon_is : (h : Option Sign) → is_colon h ≡ true → h ≡ Some sign.Colon
colon_is (Some sign.Colon) e = refl
colon_is h e = absurd cc

colons_is : (h : Option Sign) → is_colons h ≡ true → h ≡ Some sign.Colons
colons_is (Some sign.Colons) e = refl
colons_is h e = absurd cc

unary_is : (t : Lexeme) → Ifs (unary_of t) (λ o. (operator_lexeme o ≡ t) × (unary_of (operator_lexeme o) ≡ Some o))
unary_is (Fixed sign.Plus) = (refl, refl)
unary_is (Fixed sign.Minus) = (refl, refl)
unary_is (Fixed sign.Not) = (refl, refl)
unary_is t = tt

binary_is : (t : Lexeme) → Ifs (binary_of t) (λ o. (operator_lexeme o ≡ t) × (binary_of (operator_lexeme o) ≡ Some o))
binary_is (Fixed sign.Plus) = (refl, refl)
binary_is (Fixed sign.Minus) = (refl, refl)
binary_is (Fixed sign.Star) = (refl, refl)
binary_is (Fixed sign.Slash) = (refl, refl)
binary_is (Fixed sign.Power) = (refl, refl)
binary_is (Fixed sign.Eq) = (refl, refl)
binary_is (Fixed sign.Ne) = (refl, refl)
binary_is (Fixed sign.Lt) = (refl, refl)
binary_is (Fixed sign.Le) = (refl, refl)
binary_is (Fixed sign.Gt) = (refl, refl)
binary_is (Fixed sign.Ge) = (refl, refl)
binary_is (Fixed sign.And) = (refl, refl)
binary_is (Fixed sign.Or) = (refl, refl)
binary_is (Fixed sign.Eqv) = (refl, refl)
binary_is (Fixed sign.Neqv) = (refl, refl)
binary_is t = tt

pub few_levels : (o : Op) → (level o ≤ 8) × (right_place o ≤ 9)
few_levels op.Pow = (omega arith, omega arith)
few_levels o = (omega arith, omega arith)

le_of_test : (a b : ℕ) → nat_le a b ≡ true → a ≤ b
le_of_test a b h = search (rules, tests)

-- the parts of a list that isn't empty
parts_of_list : (ps : Parts) → IsList ps → AreParts ps
parts_of_list End h = absurd h
parts_of_list (More p ps) h = h

arguments_of_list : (ps : Parts) → AreParts ps → are_arguments ps ≡ true → AreArguments ps
arguments_of_list End h e = tt
arguments_of_list (More (One x) ps) h e = (h.0, arguments_of_list ps h.1 e)
arguments_of_list (More (Range a b c) ps) h e = absurd cc
arguments_of_list (More (Glued a c) ps) h e = absurd cc

-- at a lexeme, where the readers after it are sound
module _ (f : ℕ → Readers) (us : List Lexeme) (ih : (d : ℕ) → Sound (drop d us) (f d)) where
  -- an operand has one lexeme more than it counts
  abbrev Operand : ℕ → Lexeme → Expression × ℕ → Type 0
  Operand k t x = Spelled k (t ∷ us) (x.0, x.1 + 1)

  -- a list after a parenthesis
  opened : us ≡ Fixed sign.Open ∷ drop 1 us → (text : List Lexeme) (n : ℕ) → Takes text (drop 1 us) n → Takes (Fixed sign.Open ∷ text) us (n + 1)
  opened o text n h = subst (λ l. Takes (Fixed sign.Open ∷ text) l (n + 1)) (sym o) (takes_one (Fixed sign.Open) (drop 1 us) text n h)

  -- a name alone
  sound_bare : (x : List ℕ) (k : ℕ) → k ≤ 9 → is_reserved x ≡ false → Operand k (Word x) (Name x, 0)
  sound_bare x k le free = record { formed = free; bound = le; takes = takes_one _ us [] 0 (takes_none us) }

  sound_name_with : (x : List ℕ) (k : ℕ) → k ≤ 9 → is_reserved x ≡ false → us ≡ Fixed sign.Open ∷ drop 1 us → (s : Option (Parts × ℕ))
      → Ifs s (λ s. IsList s.0 × Takes (parts_spelling s.0) (drop 1 us) s.1) → Operand k (Word x) (name_with x s)
  sound_name_with x k le free o None h = sound_bare x k le free
  sound_name_with x k le free o (Some s) h =
      record { formed = (free, h.0); bound = le; takes = takes_one _ us (Fixed sign.Open ∷ parts_spelling s.0) (s.1 + 1) (opened o (parts_spelling s.0) s.1 h.1) }

  sound_name : (x : List ℕ) (k : ℕ) → k ≤ 9 → is_reserved x ≡ false → Operand k (Word x) (name_at f x)
  sound_name x k le free =
      cond_both (is_open (f 0).core.head) (name_with x (f 1).list) (Name x, 0) (Operand k (Word x))
      (λ e. sound_name_with x k le free ((ih 0).head sign.Open (open_is _ e)) (f 1).list (ih 1).list)
      (λ e. sound_bare x k le free)

  -- arguments, and the parenthesis after them
  abbrev IsArguments : Parts × ℕ → Type 0
  IsArguments ps = AreArguments ps.0 × Takes (parts_spelling ps.0) (drop 1 us) ps.1

  sound_if_arguments : (ps : Parts × ℕ) → IsList ps.0 × Takes (parts_spelling ps.0) (drop 1 us) ps.1 → Ifs (if_arguments ps) IsArguments
  sound_if_arguments ps h =
      cond_both (are_arguments ps.0) (Some ps) None (λ r. Ifs r IsArguments) (λ e. (arguments_of_list ps.0 (parts_of_list ps.0 h.0) e, h.1)) (λ e. tt)

  sound_arguments : Ifs (arguments_at (f 1)) IsArguments
  sound_arguments =
      cond_both (is_close (f 1).core.head) (Some (End, 1)) ((f 1).list >>= if_arguments) (λ r. Ifs r IsArguments)
      (λ e. (tt, takes_head (Fixed sign.Close) _ ((ih 1).head sign.Close (close_is _ e))))
      (λ e. bind_holds (f 1).list if_arguments _ IsArguments (ih 1).list sound_if_arguments)

  sound_call : (x : List ℕ) (k : ℕ) → k ≤ 9 → (o : Option Op) → IsNamed x o → Ifs (call_at f o) (Operand k (Word x))
  sound_call x k le None h = tt
  sound_call x k le (Some o) h =
      cond_both (is_open (f 0).core.head) _ None (λ r. Ifs r (Operand k (Word x)))
      (λ e. bind_holds (arguments_at (f 1)) _ IsArguments (Operand k (Word x)) sound_arguments
      (λ ps a. record {
        formed = (h.1, a.0);
        bound = le;
        takes = subst (λ x. Takes (Word (intrinsic_word o) ∷ Fixed sign.Open ∷ parts_spelling ps.0) (Word x ∷ us) (ps.1 + 1 + 1)) h.0
            (takes_one _ us (Fixed sign.Open ∷ parts_spelling ps.0) (ps.1 + 1) (opened ((ih 0).head sign.Open (open_is _ e)) (parts_spelling ps.0) ps.1 a.1));
      }))
      (λ e. tt)

  sound_word : (x : List ℕ) (k : ℕ) → k ≤ 9 → Ifs (word_at f x) (Operand k (Word x))
  sound_word x k le =
      cond_both (is_reserved x) (call_at f (intrinsic x)) (Some (name_at f x)) (λ r. Ifs r (Operand k (Word x)))
      (λ e. sound_call x k le (intrinsic x) (intrinsic_is_named x))
      (λ e. sound_name x k le e)

  sound_closed : (k : ℕ) → k ≤ 9 → Ifs (closed_at f) (Operand k (Fixed sign.Open))
  sound_closed k le =
      bind_holds ((f 0).core.expr 0) _ (Spelled 0 us) (Operand k (Fixed sign.Open)) ((ih 0).expr 0 (omega arith))
      (λ e s. cond_both (is_close (f e.1).core.head) (Some (Closed e.0, e.1 + 1)) None (λ r. Ifs r (Operand k (Fixed sign.Open)))
      (λ c. record {
        formed = s.formed;
        bound = le;
        takes =
            takes_one (Fixed sign.Open) us _ (e.1 + 1)
            (takes_two (spelling e.0) (Fixed sign.Close ∷ []) us e.1 1 s.takes
            (takes_head (Fixed sign.Close) _ ((ih e.1).head sign.Close (close_is _ c))));
      })
      (λ c. tt))

  sound_unary : (k : ℕ) (t : Lexeme) → Ifs (unary_at f k (unary_of t)) (Operand k t)
  sound_unary k t = sound_unary_with (unary_of t) (unary_is t)
    where
      sound_unary_with : (o : Option Op) → Ifs o (λ o. (operator_lexeme o ≡ t) × (unary_of (operator_lexeme o) ≡ Some o)) → Ifs (unary_at f k o) (Operand k t)
      sound_unary_with None h = tt
      sound_unary_with (Some o) h =
          cond_both (nat_le k (level o)) _ None (λ r. Ifs r (Operand k t))
          (λ le. bind_holds ((f 0).core.expr (level o + 1)) _ (Spelled (level o + 1) us) (Operand k t)
          (let few = few_levels o in (ih 0).expr (level o + 1) (omega arith))
          (λ a s. record {
            formed = (h.1, s.formed, s.bound);
            bound = le_of_test _ _ le;
            takes = subst (λ t'. Takes (operator_lexeme o ∷ spelling a.0) (t' ∷ us) (a.1 + 1)) h.0 (takes_one (operator_lexeme o) us (spelling a.0) a.1 s.takes);
          }))
          (λ _. tt)

  joins : (e b : Expression) (o : Op) (t : Lexeme) (m : ℕ) → operator_lexeme o ≡ t → Takes (spelling b) us m → spelling (Binary o e b) ++ drop m us ≡ spelling e ++ (t ∷ us)
  joins e b o t m is h =
      append_assoc (spelling e) (operator_lexeme o ∷ spelling b) (drop m us)
      ∙ (λ i. spelling e ++ (is i ∷ sym h.0 i))

  sound_joined : (k : ℕ) (e : Expression) (n : ℕ) (o : Op) (t : Lexeme) → IsFormed e → n ≡ length (spelling e) → k ≤ level o → left_place o ≤ binds e
      → k ≤ binds e → operator_lexeme o ≡ t → binary_of (operator_lexeme o) ≡ Some o → (b : Option (Expression × ℕ))
      → Ifs b (Spelled (right_place o) us) → Spelled k (spelling e ++ (t ∷ us)) (joined_at f k e n o b)
  sound_joined k e n o t w len le left low is op None h = record { formed = w; bound = low; takes = takes_front (spelling e) (t ∷ us) n len }
  sound_joined k e n o t w len le left low is op (Some b) h =
      let long : n + (b.1 + 1) ≡ length (spelling (Binary o e b.0)) = omega (arith, length-append (spelling e) (operator_lexeme o ∷ spelling b.0), h.takes.1) in
      let all = (ih b.1).more k (Binary o e b.0) (n + (b.1 + 1)) (op, w, left, h.formed, h.bound) le long in
      subst (λ l. Spelled k l ((f b.1).core.more k (Binary o e b.0) (n + (b.1 + 1)))) (joins e b.0 o t b.1 is h.takes) all

  sound_more : (k : ℕ) (t : Lexeme) (e : Expression) (n : ℕ) → IsFormed e → k ≤ binds e → n ≡ length (spelling e) → Spelled k (spelling e ++ (t ∷ us)) (more_at f k e n t)
  sound_more k t e n w low len = sound_more_with (binary_of t) (binary_is t)
    where
      as_it_is : Spelled k (spelling e ++ (t ∷ us)) (e, n)
      as_it_is = record { formed = w; bound = low; takes = takes_front (spelling e) (t ∷ us) n len }

      sound_more_with : (o : Option Op) → Ifs o (λ o. (operator_lexeme o ≡ t) × (binary_of (operator_lexeme o) ≡ Some o))
          → Spelled k (spelling e ++ (t ∷ us)) (more_with f k e n (goes_with k e o))
      sound_more_with None h = as_it_is
      sound_more_with (Some o) h =
          cond_both (nat_le k (level o) && nat_le (left_place o) (binds e)) (Some o) None (λ o. Spelled k (spelling e ++ (t ∷ us)) (more_with f k e n o))
          (λ both.
          let b = and_parts (nat_le k (level o)) _ both in
          sound_joined k e n o t w len (le_of_test _ _ b.0) (le_of_test _ _ b.1) low h.0 h.1 _ (let few = few_levels o in (ih 0).expr (right_place o) few.1))
          (λ _. as_it_is)

  grows_joined : (k : ℕ) (e : Expression) (n : ℕ) (o : Op) (b : Option (Expression × ℕ)) → n ≤ (joined_at f k e n o b).1
  grows_joined k e n o None = omega arith
  grows_joined k e n o (Some b) = let g = (ih b.1).grows k (Binary o e b.0) (n + (b.1 + 1)) in omega (arith, g)

  grows_more : (k : ℕ) (e : Expression) (n : ℕ) (o : Option Op) → n ≤ (more_with f k e n o).1
  grows_more k e n None = omega arith
  grows_more k e n (Some o) = grows_joined k e n o ((f 0).core.expr (right_place o))

  deepens_joined : (k : ℕ) (e : Expression) (n : ℕ) (o : Op) (b : Option (Expression × ℕ)) → depth e ≤ depth (joined_at f k e n o b).0
  deepens_joined k e n o None = omega arith
  deepens_joined k e n o (Some b) = let g = (ih b.1).deepens k (Binary o e b.0) (n + (b.1 + 1)) in omega (arith, g)

  deepens_more : (k : ℕ) (e : Expression) (n : ℕ) (o : Option Op) → depth e ≤ depth (more_with f k e n o).0
  deepens_more k e n None = omega arith
  deepens_more k e n (Some o) = deepens_joined k e n o ((f 0).core.expr (right_place o))

  sound_rest : (t : Lexeme) → Ifs (rest_at f t) (λ s. AreParts s.0 × Takes (rest_spelling s.0) (t ∷ us) s.1)
  sound_rest (Fixed sign.Close) = (tt, takes_one (Fixed sign.Close) us [] 0 (takes_none us))
  sound_rest (Fixed sign.Comma) =
      bind_holds (f 0).list _ (λ s. IsList s.0 × Takes (parts_spelling s.0) us s.1) (λ s. AreParts s.0 × Takes (rest_spelling s.0) (Fixed sign.Comma ∷ us) s.1)
      (ih 0).list
      (λ s h. comma s.0 s.1 h)
    where
      comma : (s : Parts) (n : ℕ) → IsList s × Takes (parts_spelling s) us n → AreParts s × Takes (rest_spelling s) (Fixed sign.Comma ∷ us) (n + 1)
      comma End n h = absurd h.0
      comma (More s ss) n h = (h.0, takes_one (Fixed sign.Comma) us _ n h.1)
  sound_rest t = tt

  sound_operand : (k : ℕ) → k ≤ 9 → (t : Lexeme) → Ifs (operand_at f k t) (Operand k t)
  sound_operand k le (Integer n) = record { formed = tt; bound = le; takes = takes_one _ us [] 0 (takes_none us) }
  sound_operand k le (Word x) = sound_word x k le
  sound_operand k le (Fixed sign.True) = record { formed = tt; bound = le; takes = takes_one _ us [] 0 (takes_none us) }
  sound_operand k le (Fixed sign.False) = record { formed = tt; bound = le; takes = takes_one _ us [] 0 (takes_none us) }
  sound_operand k le (Fixed sign.Open) = sound_closed k le
  sound_operand k le t = sound_unary k t

  sound_expr : (k : ℕ) (t : Lexeme) → k ≤ 9 → Ifs (expr_at f k t) (Spelled k (t ∷ us))
  sound_expr k t le =
      bind_holds (operand_at f k t) _ (Operand k t) (Spelled k (t ∷ us)) (sound_operand k le t)
      (λ e s.
      let d : drop (e.1 + 1) (t ∷ us) ≡ drop e.1 us = let z : e.1 + 1 ≡ suc e.1 = omega arith in ap (λ m. drop m (t ∷ us)) z in
      let whole : spelling e.0 ++ drop e.1 us ≡ t ∷ us = ap (λ l. spelling e.0 ++ l) (sym d) ∙ sym s.takes.0 in
      subst (λ l. Spelled k l ((f e.1).core.more k e.0 (e.1 + 1))) whole ((ih e.1).more k e.0 (e.1 + 1) s.formed s.bound s.takes.1))

-- a list, where the cores from there on are sound
abbrev SoundCore : List Lexeme → Core → Type 0
SoundCore ts c =
    ((s : Sign) → c.head ≡ Some s → ts ≡ Fixed s ∷ drop 1 ts) × ((k : ℕ) → k ≤ 9 → Ifs (c.expr k) (Spelled k ts))
    × Ifs c.rest (λ s. AreParts s.0 × Takes (rest_spelling s.0) ts s.1)

module _ (g : ℕ → Core) (ts : List Lexeme) (ih : (d : ℕ) → SoundCore (drop d ts) (g d)) where
  sound_maybe : (us : List Lexeme) (o : Option (Expression × ℕ)) → Ifs o (Spelled 0 us) → IsMaybe (maybe_at o).0 × Takes (maybe_spelling (maybe_at o).0) us (maybe_at o).1
  sound_maybe us None h = (tt, takes_none us)
  sound_maybe us (Some e) h = (h.formed, h.takes)

  abbrev IsPartAt : Part × ℕ → Type 0
  IsPartAt s = IsPart s.0 × Takes (part_spelling s.0) ts s.1

  sound_step : (a b : Maybe) (n : ℕ) (text : List Lexeme) → ((c : Maybe) → part_spelling (Range a b c) ≡ text ++ step_spelling c) → IsMaybe a
      → IsMaybe b → Takes text ts n → Ifs (step_at g a b n) IsPartAt
  sound_step a b n text is wa wb h =
      cond_both (is_colon (g n).head) _ (Some (Range a b Absent, n)) (λ r. Ifs r IsPartAt)
      (λ c.
      let colon : Takes (Fixed sign.Colon ∷ []) (drop n ts) 1 = takes_head (Fixed sign.Colon) _ ((ih n).0 sign.Colon (colon_is _ c)) in
      let upto = takes_two text (Fixed sign.Colon ∷ []) ts n 1 h colon in
      bind_holds ((g (n + 1)).expr 0) _ (Spelled 0 (drop (n + 1) ts)) IsPartAt ((ih (n + 1)).1 0 (omega arith))
      (λ x s. (
        (wa, wb, s.formed),
        subst (λ l. Takes l ts (n + 1 + x.1)) (append_assoc text (Fixed sign.Colon ∷ []) (spelling x.0) ∙ sym (is (Present x.0)))
            (takes_two (text ++ Fixed sign.Colon ∷ []) (spelling x.0) ts (n + 1) x.1 upto s.takes),
      )))
      (λ c. ((wa, wb, tt), subst (λ l. Takes l ts n) (sym (append-nil text) ∙ sym (is Absent)) h))

  sound_range : (a : Maybe) (n : ℕ) → IsMaybe a → Takes (maybe_spelling a) ts n → is_colon (g n).head ≡ true → Ifs (range_at g a n) IsPartAt
  sound_range a n wa h c =
      let colon : Takes (Fixed sign.Colon ∷ []) (drop n ts) 1 = takes_head (Fixed sign.Colon) _ ((ih n).0 sign.Colon (colon_is _ c)) in
      let upto = takes_two (maybe_spelling a) (Fixed sign.Colon ∷ []) ts n 1 h colon in
      let o = (g (n + 1)).expr 0 in
      let b = maybe_at o in
      let m = sound_maybe (drop (n + 1) ts) o ((ih (n + 1)).1 0 (omega arith)) in
      sound_step a b.0 (n + 1 + b.1) ((maybe_spelling a ++ Fixed sign.Colon ∷ []) ++ maybe_spelling b.0)
      (λ x.
      ap (λ l. maybe_spelling a ++ l) refl
      ∙ sym
      (append_assoc (maybe_spelling a ++ Fixed sign.Colon ∷ []) (maybe_spelling b.0) (step_spelling x)
      ∙ append_assoc (maybe_spelling a) (Fixed sign.Colon ∷ []) (maybe_spelling b.0 ++ step_spelling x)))
      wa m.0 (takes_two (maybe_spelling a ++ Fixed sign.Colon ∷ []) (maybe_spelling b.0) ts (n + 1) b.1 upto m.1)

  sound_one : (a : Maybe) (n : ℕ) → IsMaybe a → Takes (maybe_spelling a) ts n → Ifs (one_at a n) IsPartAt
  sound_one Absent n wa h = tt
  sound_one (Present e) n wa h = (wa, h)

  sound_glued : (a : Maybe) (n : ℕ) → IsMaybe a → Takes (maybe_spelling a) ts n → is_colons (g n).head ≡ true → Ifs (glued_at Glued g a n) IsPartAt
  sound_glued a n wa h c =
      let colons : Takes (Fixed sign.Colons ∷ []) (drop n ts) 1 = takes_head (Fixed sign.Colons) _ ((ih n).0 sign.Colons (colons_is _ c)) in
      let upto = takes_two (maybe_spelling a) (Fixed sign.Colons ∷ []) ts n 1 h colons in
      bind_holds ((g (n + 1)).expr 0) _ (Spelled 0 (drop (n + 1) ts)) IsPartAt ((ih (n + 1)).1 0 (omega arith))
      (λ x s. (
        (wa, s.formed),
        subst (λ l. Takes l ts (n + 1 + x.1)) (append_assoc (maybe_spelling a) (Fixed sign.Colons ∷ []) (spelling x.0))
            (takes_two (maybe_spelling a ++ Fixed sign.Colons ∷ []) (spelling x.0) ts (n + 1) x.1 upto s.takes),
      ))

  sound_part : Ifs (part_at Glued g) IsPartAt
  sound_part =
      let o = (g 0).expr 0 in
      let a = maybe_at o in
      let m = sound_maybe ts o ((ih 0).1 0 (omega arith)) in
      cond_both (is_colon (g a.1).head) (range_at g a.0 a.1) _ (λ r. Ifs r IsPartAt)
      (λ c. sound_range a.0 a.1 m.0 m.1 c)
      (λ c.
      cond_both (is_colons (g a.1).head) (glued_at Glued g a.0 a.1) (one_at a.0 a.1) (λ r. Ifs r IsPartAt) (λ d. sound_glued a.0 a.1 m.0 m.1 d)
      (λ d. sound_one a.0 a.1 m.0 m.1))

  sound_list : Ifs (list_at Glued g) (λ s. IsList s.0 × Takes (parts_spelling s.0) ts s.1)
  sound_list =
      bind_holds (part_at Glued g) _ IsPartAt _ sound_part
      (λ s h. bind_holds (g s.1).rest _ (λ r. AreParts r.0 × Takes (rest_spelling r.0) (drop s.1 ts) r.1) (λ s. IsList s.0 × Takes (parts_spelling s.0) ts s.1) (ih s.1).2
      (λ r k. ((h.0, k.0), takes_two (part_spelling s.0) (rest_spelling r.0) ts s.1 r.1 h.1 k.1)))

sound_at_lexeme : (f : ℕ → Readers) (t : Lexeme) (us : List Lexeme) → ((d : ℕ) → Sound (drop d us) (f d)) → Sound (t ∷ us) (at_lexeme Glued f t)
sound_at_lexeme f t us ih = record {
  head = λ s h. ap (λ t. t ∷ us) (sign_is t s h);
  expr = λ k le. sound_expr f us ih k t le;
  more = λ k e n w low len. sound_more f us ih k t e n w low len;
  grows = λ k e n. grows_more f us ih k e n (goes_on k e (sign_of t));
  deepens = λ k e n. deepens_more f us ih k e n (goes_on k e (sign_of t));
  rest = sound_rest f us ih t;
  list = sound_list (from_here (core_at f t) f) (t ∷ us) cores;
}
  where
    cores : (d : ℕ) → SoundCore (drop d (t ∷ us)) (from_here (core_at f t) f d)
    cores zero = ((λ s h. ap (λ t. t ∷ us) (sign_is t s h)), (λ k le. sound_expr f us ih k t le), sound_rest f us ih t)
    cores (suc d) = ((ih d).head, (ih d).expr, (ih d).rest)

sound_after : (ts : List Lexeme) (d : ℕ) → Sound (drop d ts) (after Glued ts d)
unfolding after
sound_after [] d = sound_at_end (drop d [])
sound_after (t ∷ ts) zero = sound_at_lexeme (after Glued ts) t ts (sound_after ts)
sound_after (t ∷ ts) (suc d) = sound_after ts d

pub sound : (ts : List Lexeme) → Sound ts (reading Glued ts)
unfolding reading
sound ts = sound_after ts 0

pub sound_after_lexeme : (t : Lexeme) (us : List Lexeme) (k : ℕ) → k ≤ 9 → Ifs (operand_at (λ d. reading Glued (drop d us)) k t) (λ x. Spelled k (t ∷ us) (x.0, x.1 + 1))
sound_after_lexeme t us k le = sound_operand (λ d. reading Glued (drop d us)) us (λ d. sound (drop d us)) k le t
