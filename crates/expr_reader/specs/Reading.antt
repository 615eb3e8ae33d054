-- Of a promise.
-- Reading an expression from left to right, as a function on lists of lexemes.
use Rattle.std.specs.Prelude.{ℕ, zero, suc, ◌+◌, List, [], ◌∷◌, drop, Option, Some, None, Bool, true, false, ◌&&◌, nat_le, if◌then◌else◌}
use Rattle.op_tables.specs.declared.op.Op.{Op}
use Rattle.op_tables.specs.Words.{is_reserved}
use Rattle.syntax_tree.specs.declared.sign.Sign.{Sign}
use Rattle.syntax_tree.specs.declared.sign.Sign.TheVariants as sign
use Rattle.syntax_tree.specs.Lexeme.{Lexeme, Word, Integer, Fixed, sign_of}
use Rattle.syntax_tree.specs.Operators.{binary_in, unary_of, level, left_place, right_place, intrinsic}
use Rattle.syntax_tree.specs.Expression.{Expression, Number, Truth, Name, Element, Call, Unary, Binary, Closed, Part, One, Range, Parts, End, More, Maybe, Absent, Present}
use Rattle.syntax_tree.specs.Spelling.{binds}

infixl 10 ◌>>=◌
-- on with the value, if there is one
abbrev pub ◌>>=◌ : {A B : Type 0} → Option A → (A → Option B) → Option B
None >>= f = None
(Some x) >>= f = f x

-- what can be read at a place: each time a value, and how many lexemes it takes
pub record Core : Type 0 where
  -- the operator or delimiter there
  pub head : Option Sign
  -- an expression that binds at least so tightly
  pub expr : ℕ → Option (Expression × ℕ)
  -- what the expression of so many lexemes before the place goes on to be
  pub more : ℕ → Expression → ℕ → Expression × ℕ
  -- the parts of a list after one, and the parenthesis
  pub rest : Option (Parts × ℕ)

pub record Readers : Type 0 where
  pub core : Core
  -- the parts of a list, and the parenthesis
  pub list : Option (Parts × ℕ)

-- which operator or delimiter it is
abbrev pub is_open : Option Sign → Bool
is_open (Some sign.Open) = true
is_open s = false

abbrev pub is_close : Option Sign → Bool
is_close (Some sign.Close) = true
is_close s = false

abbrev pub is_comma : Option Sign → Bool
is_comma (Some sign.Comma) = true
is_comma s = false

abbrev pub is_colon : Option Sign → Bool
is_colon (Some sign.Colon) = true
is_colon s = false

abbrev pub is_colons : Option Sign → Bool
is_colons (Some sign.Colons) = true
is_colons s = false

-- a name with the subscripts after it, and how many lexemes these take
abbrev pub name_with : List ℕ → Option (Parts × ℕ) → Expression × ℕ
name_with x None = (Name x, 0)
name_with x (Some s) = (Element x s.0, s.1 + 1)

abbrev pub name_at : (ℕ → Readers) → List ℕ → Expression × ℕ
name_at f x = if is_open (f 0).core.head then name_with x (f 1).list else (Name x, 0)

-- each part of a list is an expression
abbrev pub are_arguments : Parts → Bool
are_arguments End = true
are_arguments (More (One e) ps) = are_arguments ps
are_arguments (More p ps) = false

abbrev pub if_arguments : Parts × ℕ → Option (Parts × ℕ)
if_arguments ps = if are_arguments ps.0 then Some ps else None

-- the arguments after a parenthesis, and the parenthesis after them
abbrev pub arguments_at : Readers → Option (Parts × ℕ)
arguments_at r = if is_close r.core.head then Some (End, 1) else (r.list >>= if_arguments)

-- an intrinsic procedure with its arguments, and how many lexemes these take
abbrev pub call_at : (ℕ → Readers) → Option Op → Option (Expression × ℕ)
call_at f None = None
call_at f (Some o) = if is_open (f 0).core.head then (arguments_at (f 1) >>= λ ps. Some (Call o ps.0, ps.1 + 1)) else None

abbrev pub word_at : (ℕ → Readers) → List ℕ → Option (Expression × ℕ)
word_at f x = if is_reserved x then call_at f (intrinsic x) else Some (name_at f x)

abbrev pub closed_at : (ℕ → Readers) → Option (Expression × ℕ)
closed_at f = (f 0).core.expr 0 >>= λ e. if is_close (f e.1).core.head then Some (Closed e.0, e.1 + 1) else None

abbrev pub unary_at : (ℕ → Readers) → ℕ → Option Op → Option (Expression × ℕ)
unary_at f k None = None
unary_at f k (Some o) =
    if nat_le k (level o) then ((f 0).core.expr (level o + 1) >>= λ a. Some (Unary o a.0, a.1)) else None

-- an operand that begins with the lexeme, and how many it has after that; f reads at so many lexemes after it
abbrev pub operand_at : (ℕ → Readers) → ℕ → Lexeme → Option (Expression × ℕ)
operand_at f k (Integer n) = Some (Number n, 0)
operand_at f k (Word x) = word_at f x
operand_at f k (Fixed sign.True) = Some (Truth true, 0)
operand_at f k (Fixed sign.False) = Some (Truth false, 0)
operand_at f k (Fixed sign.Open) = closed_at f
operand_at f k t = unary_at f k (unary_of t)

abbrev pub expr_at : (ℕ → Readers) → ℕ → Lexeme → Option (Expression × ℕ)
expr_at f k t = operand_at f k t >>= λ e. Some ((f e.1).core.more k e.0 (e.1 + 1))

abbrev pub joined_at : (ℕ → Readers) → ℕ → Expression → ℕ → Op → Option (Expression × ℕ) → Expression × ℕ
joined_at f k e n o None = (e, n)
joined_at f k e n o (Some b) = (f b.1).core.more k (Binary o e b.0) (n + (b.1 + 1))

-- the operator with which an expression goes on
abbrev pub goes_with : ℕ → Expression → Option Op → Option Op
goes_with k e None = None
goes_with k e (Some o) = if nat_le k (level o) && nat_le (left_place o) (binds e) then Some o else None

abbrev pub goes_on : ℕ → Expression → Option Sign → Option Op
goes_on k e s = goes_with k e (binary_in s)

abbrev pub more_with : (ℕ → Readers) → ℕ → Expression → ℕ → Option Op → Expression × ℕ
more_with f k e n None = (e, n)
more_with f k e n (Some o) = joined_at f k e n o ((f 0).core.expr (right_place o))

abbrev pub more_at : (ℕ → Readers) → ℕ → Expression → ℕ → Lexeme → Expression × ℕ
more_at f k e n t = more_with f k e n (goes_on k e (sign_of t))

abbrev pub rest_at : (ℕ → Readers) → Lexeme → Option (Parts × ℕ)
rest_at f (Fixed sign.Close) = Some (End, 1)
rest_at f (Fixed sign.Comma) = (f 0).list >>= λ s. Some (s.0, s.1 + 1)
rest_at f t = None

abbrev pub core_at : (ℕ → Readers) → Lexeme → Core
core_at f t = record {
  head = sign_of t;
  expr = λ k. expr_at f k t;
  more = λ k e n. more_at f k e n t;
  rest = rest_at f t;
}

abbrev pub core_at_end : Core
core_at_end = record { head = None; expr = λ k. None; more = λ k e n. (e, n); rest = None }

-- from a place on
abbrev pub from_here : Core → (ℕ → Readers) → ℕ → Core
from_here c f zero = c
from_here c f (suc d) = (f d).core

-- an expression that may be there
abbrev pub maybe_at : Option (Expression × ℕ) → Maybe × ℕ
maybe_at None = (Absent, 0)
maybe_at (Some e) = (Present e.0, e.1)

-- the step of a triplet, where its first parts are known
abbrev pub step_at : (ℕ → Core) → Maybe → Maybe → ℕ → Option (Part × ℕ)
step_at g a b n =
    if is_colon (g n).head then ((g (n + 1)).expr 0 >>= λ c. Some (Range a b (Present c.0), n + 1 + c.1)) else Some (Range a b Absent, n)

abbrev pub range_at : (ℕ → Core) → Maybe → ℕ → Option (Part × ℕ)
range_at g a n = let b = maybe_at ((g (n + 1)).expr 0) in step_at g a b.0 (n + 1 + b.1)

-- a part of a list that is no triplet
abbrev pub one_at : Maybe → ℕ → Option (Part × ℕ)
one_at Absent n = None
one_at (Present e) n = Some (One e, n)

-- `glue` makes the triplet whose two colons are one lexeme, of its first part and its step
module _ (glue : Maybe → Expression → Part) where
  abbrev pub glued_at : (ℕ → Core) → Maybe → ℕ → Option (Part × ℕ)
  glued_at g a n = (g (n + 1)).expr 0 >>= λ c. Some (glue a c.0, n + 1 + c.1)

  -- a part that goes on after its first expression
  abbrev pub part_from : (ℕ → Core) → Maybe → ℕ → Option (Part × ℕ)
  part_from g a n = if is_colon (g n).head then range_at g a n else if is_colons (g n).head then glued_at g a n else one_at a n

  abbrev pub part_at : (ℕ → Core) → Option (Part × ℕ)
  part_at g = let a = maybe_at ((g 0).expr 0) in part_from g a.0 a.1

  abbrev pub list_at : (ℕ → Core) → Option (Parts × ℕ)
  list_at g = part_at g >>= λ p. (g p.1).rest >>= λ ps. Some (More p.0 ps.0, p.1 + ps.1)

  abbrev pub at_lexeme : (ℕ → Readers) → Lexeme → Readers
  at_lexeme f t = record { core = core_at f t; list = list_at (from_here (core_at f t) f) }

  abbrev pub at_end : Readers
  at_end = record { core = core_at_end; list = None }

  -- at so many lexemes after the first
  unfoldable pub after : List Lexeme → ℕ → Readers
  after [] d = at_end
  after (t ∷ ts) zero = at_lexeme (after ts) t
  after (t ∷ ts) (suc d) = after ts d

  -- at the first of the lexemes
  unfoldable pub reading : List Lexeme → Readers
  reading ts = after ts 0

  -- the lexemes after so many
  abbrev pub on : List Lexeme → ℕ → Readers
  on ts d = reading (drop d ts)

-- the triplet that a tree keeps of one whose two colons are one lexeme
abbrev pub apart : Maybe → Expression → Part
apart a c = Range a Absent (Present c)
