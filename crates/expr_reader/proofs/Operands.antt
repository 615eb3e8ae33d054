-- What is spelled is read: expressions by what they begin with, and by their operators.
use Rattle.std.proofs.Common.{◌≡◌, ◌≤◌, ◌<◌, ℕ, ℤ, suc, ◌+◌, List, [], ◌∷◌, ◌++◌, length, length-append, length-drop, drop, Option, Some, None, Bool, true, false, refl, sym, ap, ◌∙◌, subst, arith, append_assoc}
use Rattle.std.specs.Prelude.{◌||◌, is_some, if◌then◌else◌}
use Rattle.std.proofs.lemmas.Bool.{and_from, and_left, cond-false, cond-true, le-leb, lt-leb}
use Rattle.op_tables.specs.declared.op.Op.{Op}
use Rattle.op_tables.specs.declared.op.Op.TheVariants as op
use Rattle.op_tables.specs.Words.{is_reserved, code_in, statement_words, left_out_words, intrinsic_words}
use Rattle.syntax_tree.specs.declared.sign.Sign.TheVariants as sign
use Rattle.syntax_tree.specs.Lexeme.{Lexeme, Word, Integer, Fixed, sign_of}
use Rattle.syntax_tree.specs.Operators.{procedure_at, binary_of, unary_of, operator_lexeme, level, left_place, right_place, intrinsic, intrinsic_word}
use Rattle.syntax_tree.specs.Expression.{Expression, Number, Truth, Name, Element, Call, Unary, Binary, Closed, Glued, Parts}
use Rattle.syntax_tree.specs.Spelling.{binds, spelling, parts_spelling, depth}
use Rattle.expr_reader.specs.Reading.{◌>>=◌, Readers, is_open, is_close, name_with, name_at, arguments_at, call_at, unary_at, operand_at, joined_at, goes_with, more_with, reading, on}
use Rattle.expr_reader.specs.Spelled.{Spelled, Ifs}
use Rattle.expr_reader.proofs.Equations.{core_reading, reading_at_end}
use Rattle.expr_reader.proofs.Sound.{sound, sound_after_lexeme, drop_taken, few_levels}

-- lexemes that an expression which binds at least so tightly does not go on with
abbrev pub Stops : ℕ → List Lexeme → Type 0
Stops k [] = Unit {0}
Stops k (t ∷ ts) = (is_open (sign_of t) ≡ false) × Ifs (binary_of t) (λ o. level o < k)

stops_more : (j k : ℕ) (ts : List Lexeme) → j ≤ k → Stops j ts → Stops k ts
stops_more j k [] le h = tt
stops_more j k (t ∷ ts) le h = (h.0, later (binary_of t) h.1)
  where
    later : (o : Option Op) → Ifs o (λ o. level o < j) → Ifs o (λ o. level o < k)
    later None h = tt
    later (Some o) h = omega arith

-- how tightly what stands last in an expression has to bind
abbrev pub inner : Expression → ℕ
inner (Unary o a) = level o + 1
inner (Binary o a b) = right_place o
inner t = 9

below_power : (o : Op) → left_place o ≤ 8 → level o < 8
below_power op.Pow h = absurd (omega arith)
below_power o h = omega arith

-- operators of one level group to one side
one_side : (o p : Op) → left_place o ≤ level p → level o < right_place p
one_side o op.Pow h = below_power o h
one_side o p h = omega arith

stops_at : (o : Op) (a : Expression) → left_place o ≤ binds a → level o < inner a
stops_at o (Unary p a) h = omega arith
stops_at o (Binary p a b) h = one_side o p h
stops_at o a h = let few = few_levels o in omega (arith, few.0)

inner_binds : (a : Expression) → binds a ≤ inner a
inner_binds (Unary p a) = omega arith
inner_binds a = omega arith

-- an expression doesn't go on with such lexemes
stops : (ts : List Lexeme) (k : ℕ) (e : Expression) (n : ℕ) → Stops k ts → (reading Glued ts).core.more k e n ≡ (e, n)
stops [] k e n h = ap (λ r. r.core.more k e n) (reading_at_end Glued)
stops (t ∷ ts) k e n h = ap (λ c. c.more k e n) (core_reading Glued t ts) ∙ ap (more_with (on Glued ts) k e n) (none (binary_of t) h.1)
  where
    none : (o : Option Op) → Ifs o (λ o. level o < k) → goes_with k e o ≡ None
    none None h = refl
    none (Some o) h = cond-false _ (Some o) None (and_left _ _ (lt-leb k (level o) h))

pub has_depth : (e : Expression) → 1 ≤ depth e
has_depth (Number n) = omega arith
has_depth e = omega arith

-- where the reading of an expression's lexemes comes to, with more lexemes after them
pub record Comes (e : Expression) (us : List Lexeme) : Type 0 where
  pub tree : Expression
  pub rest : List Lexeme
  pub same : spelling e ++ us ≡ spelling tree ++ rest
  pub short : length rest ≤ length us
  pub reads : (k : ℕ) → k ≤ binds e → (reading Glued (spelling e ++ us)).core.expr k ≡ Some ((reading Glued rest).core.more k tree (length (spelling tree)))
  pub exact : Stops (inner e) us → (tree ≡ e) × (rest ≡ us)
  pub deep : depth e ≤ depth tree

-- what is read of an expression's lexemes, with more lexemes after them
pub record Finds (k : ℕ) (e : Expression) (us : List Lexeme) : Type 0 where
  pub found : Expression × ℕ
  pub reads : (reading Glued (spelling e ++ us)).core.expr k ≡ Some found
  pub spelled : Spelled k (spelling e ++ us) found
  pub long : length (spelling e) ≤ found.1
  pub exact : Stops (inner e) us → Stops k us → found ≡ (e, length (spelling e))
  pub deep : depth e ≤ depth found.0

pub finds : (k : ℕ) (e : Expression) (us : List Lexeme) → k ≤ 9 → k ≤ binds e → Comes e us → Finds k e us
finds k e us few le c =
    let x = (reading Glued c.rest).core.more k c.tree (length (spelling c.tree)) in
    let is = c.reads k le in
    let lengths : length (spelling e) + length us ≡ length (spelling c.tree) + length c.rest =
    omega (arith, ap length c.same, length-append (spelling e) us, length-append (spelling c.tree) c.rest) in
    record {
      found = x;
      reads = is;
      spelled = subst (λ o. Ifs o (Spelled k (spelling e ++ us))) is ((sound (spelling e ++ us)).expr k few);
      long = let g = (sound c.rest).grows k c.tree (length (spelling c.tree)) in omega (arith, g, lengths, c.short);
      exact = λ h g. let e = c.exact h in (λ i. (reading Glued (e.1 i)).core.more k (e.0 i) (length (spelling (e.0 i)))) ∙ stops us k _ _ g;
      deep = let d = (sound c.rest).deepens k c.tree (length (spelling c.tree)) in omega (arith, d, c.deep);
    }

-- the same, for an expression whose first lexeme begins its last operand
pub record Starts (e : Expression) (us : List Lexeme) : Type 0 where
  pub first : Lexeme
  pub after : List Lexeme
  pub operand : Expression × ℕ
  pub begins : spelling e ++ us ≡ first ∷ after
  pub reads : (k : ℕ) → k ≤ binds e → operand_at (on Glued after) k first ≡ Some operand
  pub long : length (spelling e) ≤ operand.1 + 1
  pub exact : Stops (inner e) us → operand.0 ≡ e
  pub deep : depth e ≤ depth operand.0

pub comes_from : (e : Expression) (us : List Lexeme) → Starts e us → Comes e us
comes_from e us s =
    let x = s.operand in
    let right = subst (λ o. Ifs o (λ x. Spelled 0 (s.first ∷ s.after) (x.0, x.1 + 1))) (s.reads 0 (omega arith)) (sound_after_lexeme s.first s.after 0 (omega arith)) in
    let z : x.1 + 1 ≡ suc x.1 = omega arith in
    let text : s.first ∷ s.after ≡ spelling x.0 ++ drop x.1 s.after = right.takes.0 ∙ ap (λ m. spelling x.0 ++ drop m (s.first ∷ s.after)) z in
    let count : x.1 + 1 ≡ length (spelling x.0) = right.takes.1 in
    let same : spelling e ++ us ≡ spelling x.0 ++ drop x.1 s.after = s.begins ∙ text in
    record {
      tree = x.0;
      rest = drop x.1 s.after;
      same = same;
      short = omega (arith, ap length same, length-append (spelling e) us, length-append (spelling x.0) (drop x.1 s.after), count, s.long);
      reads = λ k le.
          ap (λ ts. (reading Glued ts).core.expr k) s.begins
          ∙ ap (λ c. c.expr k) (core_reading Glued s.first s.after)
          ∙ ap (λ o. o >>= λ e. Some ((on Glued s.after e.1).core.more k e.0 (e.1 + 1))) (s.reads k le)
          ∙ ap (λ n. Some ((on Glued s.after x.1).core.more k x.0 n)) count;
      exact = λ h.
          let t = s.exact h in
          let same' : spelling x.0 ++ us ≡ spelling x.0 ++ drop x.1 s.after = ap (λ t. spelling t ++ us) t ∙ same in
          (t, sym (sym (drop_taken (spelling x.0) us (x.1 + 1) count) ∙ ap (drop (x.1 + 1)) same' ∙ drop_taken (spelling x.0) (drop x.1 s.after) (x.1 + 1) count));
      deep = s.deep;
    }

-- the operator or delimiter at the front
pub head_reading : (t : Lexeme) (ts : List Lexeme) → (reading Glued (t ∷ ts)).core.head ≡ sign_of t
head_reading t ts = ap (λ c. c.head) (core_reading Glued t ts)

-- what is read after the lexemes that were taken
pub on_taken : (us ts : List Lexeme) → on Glued (us ++ ts) (length us) ≡ reading Glued ts
on_taken us ts = ap (reading Glued) (drop_taken us ts (length us) refl)

pub starts_number : (n : ℤ) (us : List Lexeme) → Starts (Number n) us
starts_number n us = record {
  first = Integer n;
  after = us;
  operand = (Number n, 0);
  begins = refl;
  reads = λ k le. refl;
  long = omega arith;
  exact = λ h. refl;
  deep = omega arith;
}

pub starts_truth : (b : Bool) (us : List Lexeme) → Starts (Truth b) us
starts_truth true us = record {
  first = Fixed sign.True;
  after = us;
  operand = (Truth true, 0);
  begins = refl;
  reads = λ k le. refl;
  long = omega arith;
  exact = λ h. refl;
  deep = omega arith;
}
starts_truth false us = record {
  first = Fixed sign.False;
  after = us;
  operand = (Truth false, 0);
  begins = refl;
  reads = λ k le. refl;
  long = omega arith;
  exact = λ h. refl;
  deep = omega arith;
}

not_opened : (us : List Lexeme) → Stops 9 us → is_open (on Glued us 0).core.head ≡ false
not_opened [] h = ap (λ r. is_open r.core.head) (reading_at_end Glued)
not_opened (t ∷ ts) h = ap is_open (head_reading t ts) ∙ h.0

pub starts_name : (x : List ℕ) (us : List Lexeme) → is_reserved x ≡ false → Starts (Name x) us
starts_name x us free = record {
  first = Word x;
  after = us;
  operand = name_at (on Glued us) x;
  begins = refl;
  reads = λ k le. cond-false (is_reserved x) (call_at (on Glued us) (intrinsic x)) (Some (name_at (on Glued us) x)) free;
  long = omega arith;
  exact = λ h. ap (λ r. r.0) (cond-false _ (name_with x (on Glued us 1).list) (Name x, 0) (not_opened us h));
  deep = has_depth (name_at (on Glued us) x).0;
}

pub starts_element : (x : List ℕ) (ps : Parts) (us : List Lexeme) → is_reserved x ≡ false
    → (reading Glued (parts_spelling ps ++ us)).list ≡ Some (ps, length (parts_spelling ps)) → Starts (Element x ps) us
starts_element x ps us free h =
    let vs = Fixed sign.Open ∷ (parts_spelling ps ++ us) in
    let named : name_at (on Glued vs) x ≡ (Element x ps, length (parts_spelling ps) + 1) =
    cond-true _ (name_with x (on Glued vs 1).list) (Name x, 0) (ap is_open (head_reading (Fixed sign.Open) (parts_spelling ps ++ us)))
    ∙ ap (name_with x) h in
    record {
      first = Word x;
      after = vs;
      operand = (Element x ps, length (parts_spelling ps) + 1);
      begins = refl;
      reads = λ k le. cond-false (is_reserved x) (call_at (on Glued vs) (intrinsic x)) (Some (name_at (on Glued vs) x)) free ∙ ap Some named;
      long = omega arith;
      exact = λ h. refl;
      deep = omega arith;
    }

-- a word that names an intrinsic procedure is no name
is_some_of : (a b : Bool) (code : Option ℕ) (o : Op) → procedure_at code ≡ Some o → (a || b || is_some code) ≡ true
is_some_of true b code o h = refl
is_some_of false true code o h = refl
is_some_of false false (Some code) o h = refl
is_some_of false false None o h = absurd cc

reserved_of_intrinsic : (x : List ℕ) (o : Op) → intrinsic x ≡ Some o → is_reserved x ≡ true
reserved_of_intrinsic x o h = is_some_of (is_some (code_in statement_words x)) (is_some (code_in left_out_words x)) (code_in intrinsic_words x) o h

pub starts_call : (o : Op) (ps : Parts) (us : List Lexeme) → intrinsic (intrinsic_word o) ≡ Some o
    → arguments_at (reading Glued (parts_spelling ps ++ us)) ≡ Some (ps, length (parts_spelling ps)) → Starts (Call o ps) us
starts_call o ps us named h =
    let x = intrinsic_word o in
    let vs = Fixed sign.Open ∷ (parts_spelling ps ++ us) in
    record {
      first = Word x;
      after = vs;
      operand = (Call o ps, length (parts_spelling ps) + 1);
      begins = refl;
      reads = λ k le.
          cond-true (is_reserved x) (call_at (on Glued vs) (intrinsic x)) (Some (name_at (on Glued vs) x)) (reserved_of_intrinsic x o named)
          ∙ ap (call_at (on Glued vs)) named
          ∙ cond-true _ (arguments_at (on Glued vs 1) >>= λ ps. Some (Call o ps.0, ps.1 + 1)) None (ap is_open (head_reading (Fixed sign.Open) (parts_spelling ps ++ us)))
          ∙ ap (λ a. a >>= λ ps. Some (Call o ps.0, ps.1 + 1)) h;
      long = omega arith;
      exact = λ h. refl;
      deep = omega arith;
    }

pub starts_closed : (a : Expression) (us : List Lexeme) → ((us : List Lexeme) → Finds 0 a us) → Starts (Closed a) us
starts_closed a us find =
    let ws = Fixed sign.Close ∷ us in
    let vs = spelling a ++ ws in
    let f = find ws in
    let found : (on Glued vs 0).core.expr 0 ≡ Some (a, length (spelling a)) = f.reads ∙ ap Some (f.exact (refl, tt) (refl, tt)) in
    let head : is_close (on Glued vs (length (spelling a))).core.head ≡ true =
    ap (λ r. is_close r.core.head) (on_taken (spelling a) ws) ∙ ap is_close (head_reading (Fixed sign.Close) us) in
    record {
      first = Fixed sign.Open;
      after = vs;
      operand = (Closed a, length (spelling a) + 1);
      begins = ap (λ l. Fixed sign.Open ∷ l) (append_assoc (spelling a) (Fixed sign.Close ∷ []) us);
      reads =
          λ k le.
          ap (λ o. o >>= λ e. if is_close (on Glued vs e.1).core.head then Some (Closed e.0, e.1 + 1) else None) found
          ∙ cond-true _ (Some (Closed a, length (spelling a) + 1)) None head;
      long = omega (arith, length-append (spelling a) (Fixed sign.Close ∷ []));
      exact = λ h. refl;
      deep = omega arith;
    }

operand_unary : (f : ℕ → Readers) (k : ℕ) (o : Op) → unary_of (operator_lexeme o) ≡ Some o → operand_at f k (operator_lexeme o) ≡ unary_at f k (Some o)
operand_unary f k op.LogNot h = refl
operand_unary f k op.Plus h = refl
operand_unary f k op.Neg h = refl
operand_unary f k o h = absurd cc

pub starts_unary : (o : Op) (a : Expression) (us : List Lexeme) → unary_of (operator_lexeme o) ≡ Some o → level o + 1 ≤ binds a
    → ((us : List Lexeme) → Finds (level o + 1) a us) → Starts (Unary o a) us
starts_unary o a us is le find =
    let vs = spelling a ++ us in
    let f = find us in
    record {
      first = operator_lexeme o;
      after = vs;
      operand = (Unary o f.found.0, f.found.1);
      begins = refl;
      reads = λ k low.
          operand_unary (on Glued vs) k o is
          ∙ cond-true _ ((on Glued vs 0).core.expr (level o + 1) >>= λ a. Some (Unary o a.0, a.1)) None (le-leb k (level o) low)
          ∙ ap (λ r. r >>= λ a. Some (Unary o a.0, a.1)) f.reads;
      long = omega (arith, f.long);
      deep = omega (arith, f.deep);
      exact = λ h. ap (λ x. Unary o x.0) (f.exact (stops_more (level o + 1) (inner a) us (omega (arith, inner_binds a)) h) h);
    }

-- no expression goes on after it with its subscripts or arguments
no_open_after : (t : Lexeme) (o : Op) → binary_of t ≡ Some o → is_open (sign_of t) ≡ false
no_open_after (Fixed sign.Open) o h = absurd cc
no_open_after t o h = refl

pub comes_binary : (o : Op) (a b : Expression) (us : List Lexeme) → binary_of (operator_lexeme o) ≡ Some o → left_place o ≤ binds a
    → right_place o ≤ binds b → ((us : List Lexeme) → Comes a us) → Finds (right_place o) b us → Comes (Binary o a b) us
comes_binary o a b us is left right come f =
    let vs = spelling b ++ us in
    let ts = operator_lexeme o ∷ vs in
    let c = come ts in
    let below : Ifs (binary_of (operator_lexeme o)) (λ p. level p < inner a) = subst (λ r. Ifs r (λ p. level p < inner a)) (sym is) (stops_at o a left) in
    let at = c.exact (no_open_after (operator_lexeme o) o is, below) in
    let x = f.found in
    let n = length (spelling a) in
    let tree = Binary o a x.0 in
    let rest = drop x.1 vs in
    let split : spelling (Binary o a b) ++ us ≡ spelling a ++ ts = append_assoc (spelling a) (operator_lexeme o ∷ spelling b) us in
    let same : spelling (Binary o a b) ++ us ≡ spelling tree ++ rest =
    split ∙ ap (λ l. spelling a ++ (operator_lexeme o ∷ l)) f.spelled.takes.0
    ∙ sym (append_assoc (spelling a) (operator_lexeme o ∷ spelling x.0) rest) in
    let count : n + (x.1 + 1) ≡ length (spelling tree) = omega (arith, length-append (spelling a) (operator_lexeme o ∷ spelling x.0), f.spelled.takes.1) in
    record {
      tree = tree;
      rest = rest;
      same = same;
      short = omega (arith, length-drop x.1 vs, length-append (spelling b) us, f.long);
      reads = λ k le.
          ap (λ ts. (reading Glued ts).core.expr k) split
          ∙ c.reads k (omega arith)
          ∙ (λ i. Some ((reading Glued (at.1 i)).core.more k (at.0 i) (length (spelling (at.0 i)))))
          ∙ ap (λ c. Some (c.more k a n)) (core_reading Glued (operator_lexeme o) vs)
          ∙ ap (λ r. Some (more_with (on Glued vs) k a n (goes_with k a r))) is
          ∙ ap (λ r. Some (more_with (on Glued vs) k a n r)) (cond-true _ (Some o) None (and_from _ _ (le-leb k (level o) le) (le-leb (left_place o) (binds a) left)))
          ∙ ap (λ r. Some (joined_at (on Glued vs) k a n o r)) f.reads
          ∙ ap (λ m. Some ((on Glued vs x.1).core.more k tree m)) count;
      exact = λ h.
          let e = f.exact (stops_more (right_place o) (inner b) us (omega (arith, inner_binds b)) h) h in
          (ap (λ x. Binary o a x.0) e, ap (λ x. drop x.1 vs) e ∙ drop_taken (spelling b) us (length (spelling b)) refl);
      deep = let d = f.deep in omega (arith, d);
    }
