-- A reading that doesn't tell `::` from two colons gives what a tree keeps of what is written.
use Rattle.std.proofs.Common.{◌≡◌, ℕ, zero, suc, ◌+◌, List, [], ◌∷◌, Option, Some, None, Bool, true, false, refl, ap, ◌∙◌}
use Rattle.std.specs.Prelude.{if◌then◌else◌, nat_le, ◌&&◌}
use Rattle.op_tables.specs.declared.op.Op.{Op}
use Rattle.op_tables.specs.Words.{is_reserved}
use Rattle.syntax_tree.specs.declared.sign.Sign.TheVariants as sign
use Rattle.syntax_tree.specs.Lexeme.{Lexeme, Word, Integer, Fixed, sign_of}
use Rattle.syntax_tree.specs.Operators.{binary_of, unary_of, level, left_place, right_place, intrinsic}
use Rattle.syntax_tree.specs.Expression.{Expression, Number, Name, Call, Unary, Binary, Closed, Part, One, Range, Glued, Parts, End, More, Maybe, Absent, Present, kept, part_kept, all_kept, maybe_kept}
use Rattle.syntax_tree.specs.Spelling.{binds}
use Rattle.expr_reader.specs.Reading.{◌>>=◌, Core, Readers, is_open, is_close, is_colon, is_colons, name_with, name_at, are_arguments, if_arguments, arguments_at, call_at, word_at, closed_at, unary_at, operand_at, expr_at, joined_at, goes_with, goes_on, more_with, more_at, rest_at, core_at, from_here, maybe_at, step_at, range_at, one_at, glued_at, part_from, part_at, list_at, at_lexeme, after, reading, apart}

-- with something done to the value
abbrev pub mapped : {A : Type 0} → (A → A) → Option (A × ℕ) → Option (A × ℕ)
mapped h None = None
mapped h (Some x) = Some (h x.0, x.1)

abbrev pub first_kept : Expression × ℕ → Expression × ℕ
first_kept x = (kept x.0, x.1)

bind_mapped : {A B : Type 0} (h : A → A) (k : B → B) (o : Option (A × ℕ)) (f g : A × ℕ → Option (B × ℕ))
    → ((x : A × ℕ) → mapped k (f x) ≡ g (h x.0, x.1)) → mapped k (o >>= f) ≡ (mapped h o >>= g)
bind_mapped h k None f g e = refl
bind_mapped h k (Some x) f g e = e x

cond_mapped : {A : Type 0} (k : A → A) (b : Bool) (x y x' y' : Option (A × ℕ)) → mapped k x ≡ x' → mapped k y ≡ y' → mapped k (if b then x else y) ≡ (if b then x' else y')
cond_mapped k true x y x' y' e d = e
cond_mapped k false x y x' y' e d = d

-- what one reading gives is kept of what the other gives
pub record Agrees (r s : Readers) : Type 0 where
  pub head : r.core.head ≡ s.core.head
  pub expr : (k : ℕ) → mapped kept (r.core.expr k) ≡ s.core.expr k
  pub more : (k : ℕ) (e : Expression) (n : ℕ) → first_kept (r.core.more k e n) ≡ s.core.more k (kept e) n
  pub rest : mapped all_kept r.core.rest ≡ s.core.rest
  pub list : mapped all_kept r.list ≡ s.list

same_binds : (e : Expression) → binds e ≡ binds (kept e)
same_binds (Number n) = refl
same_binds e = refl

same_arguments : (ps : Parts) → are_arguments ps ≡ are_arguments (all_kept ps)
same_arguments End = refl
same_arguments (More (One e) ps) = same_arguments ps
same_arguments (More p ps) = refl

kept_if_arguments : (ps : Parts × ℕ) → mapped all_kept (if_arguments ps) ≡ if_arguments (all_kept ps.0, ps.1)
kept_if_arguments ps =
    cond_mapped all_kept (are_arguments ps.0) (Some ps) None (Some (all_kept ps.0, ps.1)) None refl refl
    ∙ ap (λ b. if b then Some (all_kept ps.0, ps.1) else None) (same_arguments ps.0)

kept_name_with : (x : List ℕ) (s : Option (Parts × ℕ)) → first_kept (name_with x s) ≡ name_with x (mapped all_kept s)
kept_name_with x None = refl
kept_name_with x (Some s) = refl

kept_goes : (k : ℕ) (e : Expression) (o : Option Op) → goes_with k e o ≡ goes_with k (kept e) o
kept_goes k e None = refl
kept_goes k e (Some o) = ap (λ n. if nat_le k (level o) && nat_le (left_place o) n then Some o else None) (same_binds e)

module _ (f g : ℕ → Readers) (ih : (d : ℕ) → Agrees (f d) (g d)) where
  kept_name : (x : List ℕ) → first_kept (name_at f x) ≡ name_at g x
  kept_name x =
      named (is_open (f 0).core.head)
      ∙ ap (λ h. if is_open h then name_with x (g 1).list else (Name x, 0)) (ih 0).head
    where
      named : (b : Bool) → first_kept (if b then name_with x (f 1).list else (Name x, 0)) ≡ (if b then name_with x (g 1).list else (Name x, 0))
      named true = kept_name_with x (f 1).list ∙ ap (name_with x) (ih 1).list
      named false = refl

  kept_arguments : mapped all_kept (arguments_at (f 1)) ≡ arguments_at (g 1)
  kept_arguments =
      cond_mapped all_kept (is_close (f 1).core.head) (Some (End, 1)) ((f 1).list >>= if_arguments) (Some (End, 1)) ((g 1).list >>= if_arguments) refl
      (bind_mapped all_kept all_kept (f 1).list if_arguments if_arguments kept_if_arguments ∙ ap (λ l. l >>= if_arguments) (ih 1).list)
      ∙ ap (λ h. if is_close h then Some (End, 1) else ((g 1).list >>= if_arguments)) (ih 1).head

  abbrev call_with : Op → Parts × ℕ → Option (Expression × ℕ)
  call_with o ps = Some (Call o ps.0, ps.1 + 1)

  kept_call : (o : Option Op) → mapped kept (call_at f o) ≡ call_at g o
  kept_call None = refl
  kept_call (Some o) =
      cond_mapped kept (is_open (f 0).core.head) (arguments_at (f 1) >>= call_with o) None (arguments_at (g 1) >>= call_with o) None
      (bind_mapped all_kept kept (arguments_at (f 1)) (call_with o) (call_with o) (λ ps. refl) ∙ ap (λ a. a >>= call_with o) kept_arguments)
      refl
      ∙ ap (λ h. if is_open h then (arguments_at (g 1) >>= call_with o) else None) (ih 0).head

  kept_word : (x : List ℕ) → mapped kept (word_at f x) ≡ word_at g x
  kept_word x =
      cond_mapped kept (is_reserved x) (call_at f (intrinsic x)) (Some (name_at f x)) (call_at g (intrinsic x)) (Some (name_at g x))
      (kept_call (intrinsic x)) (ap Some (kept_name x))

  kept_closed : mapped kept (closed_at f) ≡ closed_at g
  kept_closed =
      bind_mapped kept kept ((f 0).core.expr 0) _ (λ e. if is_close (g e.1).core.head then Some (Closed e.0, e.1 + 1) else None)
      (λ e. cond_mapped kept (is_close (f e.1).core.head) (Some (Closed e.0, e.1 + 1)) None (Some (Closed (kept e.0), e.1 + 1)) None refl refl
      ∙ ap (λ h. if is_close h then Some (Closed (kept e.0), e.1 + 1) else None) (ih e.1).head)
      ∙ ap (λ o. o >>= λ e. if is_close (g e.1).core.head then Some (Closed e.0, e.1 + 1) else None) ((ih 0).expr 0)

  abbrev signed : Op → Expression × ℕ → Option (Expression × ℕ)
  signed o a = Some (Unary o a.0, a.1)

  kept_unary : (k : ℕ) (o : Option Op) → mapped kept (unary_at f k o) ≡ unary_at g k o
  kept_unary k None = refl
  kept_unary k (Some o) =
      cond_mapped kept (nat_le k (level o)) ((f 0).core.expr (level o + 1) >>= signed o) None ((g 0).core.expr (level o + 1) >>= signed o) None
      (bind_mapped kept kept ((f 0).core.expr (level o + 1)) (signed o) (signed o) (λ a. refl) ∙ ap (λ a. a >>= signed o) ((ih 0).expr (level o + 1)))
      refl

  kept_operand : (k : ℕ) (t : Lexeme) → mapped kept (operand_at f k t) ≡ operand_at g k t
  kept_operand k (Integer n) = refl
  kept_operand k (Word x) = kept_word x
  kept_operand k (Fixed sign.True) = refl
  kept_operand k (Fixed sign.False) = refl
  kept_operand k (Fixed sign.Open) = kept_closed
  kept_operand k t = kept_unary k (unary_of t)

  kept_expr : (k : ℕ) (t : Lexeme) → mapped kept (expr_at f k t) ≡ expr_at g k t
  kept_expr k t =
      bind_mapped kept kept (operand_at f k t) _ (λ e. Some ((g e.1).core.more k e.0 (e.1 + 1))) (λ e. ap Some ((ih e.1).more k e.0 (e.1 + 1)))
      ∙ ap (λ o. o >>= λ e. Some ((g e.1).core.more k e.0 (e.1 + 1))) (kept_operand k t)

  kept_joined : (k : ℕ) (e : Expression) (n : ℕ) (o : Op) (b : Option (Expression × ℕ)) → first_kept (joined_at f k e n o b) ≡ joined_at g k (kept e) n o (mapped kept b)
  kept_joined k e n o None = refl
  kept_joined k e n o (Some b) = (ih b.1).more k (Binary o e b.0) (n + (b.1 + 1))

  kept_more_with : (k : ℕ) (e : Expression) (n : ℕ) (o : Option Op) → first_kept (more_with f k e n o) ≡ more_with g k (kept e) n o
  kept_more_with k e n None = refl
  kept_more_with k e n (Some o) = kept_joined k e n o ((f 0).core.expr (right_place o)) ∙ ap (joined_at g k (kept e) n o) ((ih 0).expr (right_place o))

  kept_more : (k : ℕ) (e : Expression) (n : ℕ) (t : Lexeme) → first_kept (more_at f k e n t) ≡ more_at g k (kept e) n t
  kept_more k e n t = kept_more_with k e n (goes_on k e (sign_of t)) ∙ ap (more_with g k (kept e) n) (kept_goes k e (binary_of t))

  kept_rest : (t : Lexeme) → mapped all_kept (rest_at f t) ≡ rest_at g t
  kept_rest (Fixed sign.Close) = refl
  kept_rest (Fixed sign.Comma) =
      bind_mapped all_kept all_kept (f 0).list _ (λ s. Some (s.0, s.1 + 1)) (λ s. refl)
      ∙ ap (λ l. l >>= λ s. Some (s.0, s.1 + 1)) (ih 0).list
  kept_rest t = refl

-- the same of the readers of a list
abbrev AgreeCores : Core → Core → Type 0
AgreeCores c d = (c.head ≡ d.head) × ((k : ℕ) → mapped kept (c.expr k) ≡ d.expr k) × (mapped all_kept c.rest ≡ d.rest)

abbrev maybe_first_kept : Maybe × ℕ → Maybe × ℕ
maybe_first_kept a = (maybe_kept a.0, a.1)

kept_maybe : (o : Option (Expression × ℕ)) → maybe_first_kept (maybe_at o) ≡ maybe_at (mapped kept o)
kept_maybe None = refl
kept_maybe (Some e) = refl

module _ (f g : ℕ → Core) (ih : (d : ℕ) → AgreeCores (f d) (g d)) where
  abbrev stepped : Maybe → Maybe → ℕ → Expression × ℕ → Option (Part × ℕ)
  stepped a b n c = Some (Range a b (Present c.0), n + 1 + c.1)

  kept_step : (a b : Maybe) (n : ℕ) → mapped part_kept (step_at f a b n) ≡ step_at g (maybe_kept a) (maybe_kept b) n
  kept_step a b n =
      cond_mapped part_kept (is_colon (f n).head) _ (Some (Range a b Absent, n)) ((g (n + 1)).expr 0 >>= stepped (maybe_kept a) (maybe_kept b) n)
      (Some (Range (maybe_kept a) (maybe_kept b) Absent, n))
      (bind_mapped kept part_kept ((f (n + 1)).expr 0) _ (stepped (maybe_kept a) (maybe_kept b) n) (λ c. refl)
      ∙ ap (λ o. o >>= stepped (maybe_kept a) (maybe_kept b) n) ((ih (n + 1)).1 0))
      refl
      ∙ ap (λ h. if is_colon h then ((g (n + 1)).expr 0 >>= stepped (maybe_kept a) (maybe_kept b) n) else Some (Range (maybe_kept a) (maybe_kept b) Absent, n)) (ih n).0

  kept_range : (a : Maybe) (n : ℕ) → mapped part_kept (range_at f a n) ≡ range_at g (maybe_kept a) n
  kept_range a n =
      let b = maybe_at ((f (n + 1)).expr 0) in
      kept_step a b.0 (n + 1 + b.1)
      ∙ ap (λ b. step_at g (maybe_kept a) b.0 (n + 1 + b.1)) (kept_maybe ((f (n + 1)).expr 0) ∙ ap maybe_at ((ih (n + 1)).1 0))

  kept_glued : (a : Maybe) (n : ℕ) → mapped part_kept (glued_at Glued f a n) ≡ glued_at apart g (maybe_kept a) n
  kept_glued a n =
      bind_mapped kept part_kept ((f (n + 1)).expr 0) _ (λ c. Some (apart (maybe_kept a) c.0, n + 1 + c.1)) (λ c. refl)
      ∙ ap (λ o. o >>= λ c. Some (apart (maybe_kept a) c.0, n + 1 + c.1)) ((ih (n + 1)).1 0)

  kept_one : (a : Maybe) (n : ℕ) → mapped part_kept (one_at a n) ≡ one_at (maybe_kept a) n
  kept_one Absent n = refl
  kept_one (Present e) n = refl

  kept_from : (a : Maybe) (n : ℕ) → mapped part_kept (part_from Glued f a n) ≡ part_from apart g (maybe_kept a) n
  kept_from a n =
      cond_mapped part_kept (is_colon (f n).head) (range_at f a n) _ (range_at g (maybe_kept a) n)
      (if is_colons (f n).head then glued_at apart g (maybe_kept a) n else one_at (maybe_kept a) n)
      (kept_range a n)
      (cond_mapped part_kept (is_colons (f n).head) (glued_at Glued f a n) (one_at a n) (glued_at apart g (maybe_kept a) n) (one_at (maybe_kept a) n)
      (kept_glued a n) (kept_one a n))
      ∙ ap (λ h. if is_colon h then range_at g (maybe_kept a) n else if is_colons h then glued_at apart g (maybe_kept a) n else one_at (maybe_kept a) n) (ih n).0

  kept_part : mapped part_kept (part_at Glued f) ≡ part_at apart g
  kept_part =
      let a = maybe_at ((f 0).expr 0) in
      kept_from a.0 a.1 ∙ ap (λ a. part_from apart g a.0 a.1) (kept_maybe ((f 0).expr 0) ∙ ap maybe_at ((ih 0).1 0))

  kept_list : mapped all_kept (list_at Glued f) ≡ list_at apart g
  kept_list =
      bind_mapped part_kept all_kept (part_at Glued f) _ (λ p. (g p.1).rest >>= λ ps. Some (More p.0 ps.0, p.1 + ps.1))
      (λ p. bind_mapped all_kept all_kept (f p.1).rest _ (λ ps. Some (More (part_kept p.0) ps.0, p.1 + ps.1)) (λ ps. refl)
      ∙ ap (λ o. o >>= λ ps. Some (More (part_kept p.0) ps.0, p.1 + ps.1)) (ih p.1).2)
      ∙ ap (λ o. o >>= λ p. (g p.1).rest >>= λ ps. Some (More p.0 ps.0, p.1 + ps.1)) kept_part

agree_at : (f g : ℕ → Readers) (t : Lexeme) → ((d : ℕ) → Agrees (f d) (g d)) → Agrees (at_lexeme Glued f t) (at_lexeme apart g t)
agree_at f g t ih = record {
  head = refl;
  expr = λ k. kept_expr f g ih k t;
  more = λ k e n. kept_more f g ih k e n t;
  rest = kept_rest f g ih t;
  list = kept_list (from_here (core_at f t) f) (from_here (core_at g t) g) cores;
}
  where
    cores : (d : ℕ) → AgreeCores (from_here (core_at f t) f d) (from_here (core_at g t) g d)
    cores zero = (refl, (λ k. kept_expr f g ih k t), kept_rest f g ih t)
    cores (suc d) = ((ih d).head, (ih d).expr, (ih d).rest)

agree_after : (ts : List Lexeme) (d : ℕ) → Agrees (after Glued ts d) (after apart ts d)
unfolding after
agree_after [] d = record { head = refl; expr = λ k. refl; more = λ k e n. refl; rest = refl; list = refl }
agree_after (t ∷ ts) zero = agree_at (after Glued ts) (after apart ts) t (agree_after ts)
agree_after (t ∷ ts) (suc d) = agree_after ts d

pub agree : (ts : List Lexeme) → Agrees (reading Glued ts) (reading apart ts)
unfolding reading
agree ts = agree_after ts 0
