-- What is spelled is read: the reading of an expression's lexemes goes on from the expression.
use Rattle.std.proofs.Common.{◌≡◌, ◌+◌, List, ◌++◌, length, Some, ap, subst, arith}
use Rattle.syntax_tree.specs.declared.sign.Sign.TheVariants as sign
use Rattle.syntax_tree.specs.Lexeme.{Lexeme, Fixed}
use Rattle.syntax_tree.specs.Operators.{level, right_place}
use Rattle.syntax_tree.specs.Expression.{Expression, Number, Truth, Name, Element, Call, Unary, Binary, Closed, Part, One, Range, Glued, Parts, End, More, Maybe, Absent, Present}
use Rattle.syntax_tree.specs.Spelling.{part_spelling, parts_spelling, rest_spelling, IsFormed, IsPart, IsMaybe, IsList, AreParts, AreArguments}
use Rattle.expr_reader.specs.Reading.{arguments_at, part_at, reading, on}
use Rattle.expr_reader.proofs.Equations.{core_reading}
use Rattle.expr_reader.proofs.Sound.{few_levels}
use Rattle.expr_reader.proofs.Operands.{Comes, Finds, finds, comes_from, starts_number, starts_truth, starts_name, starts_element, starts_call, starts_closed, starts_unary, comes_binary}
use Rattle.expr_reader.proofs.Lists.{AfterPart, finds_one, finds_range, finds_glued, finds_list, finds_rest, empty_arguments, arguments_are_parts, some_arguments}

mutual
  pub comes : (e : Expression) → IsFormed e → (us : List Lexeme) → Comes e us
  comes (Number n) w us = comes_from (Number n) us (starts_number n us)
  comes (Truth b) w us = comes_from (Truth b) us (starts_truth b us)
  comes (Name x) w us = comes_from (Name x) us (starts_name x us w)
  comes (Element x ps) w us = comes_from (Element x ps) us (starts_element x ps us w.0 (comes_list ps w.1 us))
  comes (Call o ps) w us = comes_from (Call o ps) us (starts_call o ps us w.0 (comes_arguments ps w.1 us))
  comes (Unary o a) w us =
      comes_from (Unary o a) us (starts_unary o a us w.0 w.2 (λ vs. finds (level o + 1) a vs (let few = few_levels o in omega (arith, few.0)) w.2 (comes a w.1 vs)))
  comes (Binary o a b) w us =
      comes_binary o a b us w.0 w.2 w.4 (λ vs. comes a w.1 vs) (let few = few_levels o in finds (right_place o) b us few.1 w.4 (comes b w.3 us))
  comes (Closed a) w us = comes_from (Closed a) us (starts_closed a us (λ vs. finds 0 a vs (omega arith) (omega arith) (comes a w vs)))

  comes_list : (ps : Parts) → IsList ps → (us : List Lexeme) → (reading Glued (parts_spelling ps ++ us)).list ≡ Some (ps, length (parts_spelling ps))
  comes_list End w us = absurd w
  comes_list (More p ps) w us = finds_list p ps us (comes_part p w.0) (comes_rest ps w.1 us)

  comes_arguments : (ps : Parts) → AreArguments ps → (us : List Lexeme) → arguments_at (reading Glued (parts_spelling ps ++ us)) ≡ Some (ps, length (parts_spelling ps))
  comes_arguments End w us = empty_arguments us
  comes_arguments (More (One e) ps) w us =
      some_arguments e ps us w.1 (finds 0 e (rest_spelling ps ++ us) (omega arith) (omega arith) (comes e w.0 (rest_spelling ps ++ us)))
      (finds_list (One e) ps us (comes_part (One e) w.0) (comes_rest ps (arguments_are_parts ps w.1) us))
  comes_arguments (More p ps) w us = absurd w

  comes_rest : (ps : Parts) → AreParts ps → (us : List Lexeme) → (reading Glued (rest_spelling ps ++ us)).core.rest ≡ Some (ps, length (rest_spelling ps))
  comes_rest End w us = ap (λ c. c.rest) (core_reading Glued (Fixed sign.Close) us)
  comes_rest (More p ps) w us = finds_rest p ps us (finds_list p ps us (comes_part p w.0) (comes_rest ps w.1 us))

  comes_part : (p : Part) → IsPart p → (vs : List Lexeme) → AfterPart vs → part_at Glued (λ d. (on Glued (part_spelling p ++ vs) d).core) ≡ Some (p, length (part_spelling p))
  comes_part (One e) w vs h = finds_one e vs h (finds 0 e vs (omega arith) (omega arith) (comes e w vs))
  comes_part (Range a b c) w vs h = finds_range a b c vs h (comes_maybe a w.0) (comes_maybe b w.1) (comes_maybe c w.2)
  comes_part (Glued a e) w vs h = finds_glued a e vs h (comes_maybe a w.0) (finds 0 e vs (omega arith) (omega arith) (comes e w.1 vs))

  comes_maybe : (a : Maybe) → IsMaybe a → (e : Expression) (ws : List Lexeme) → a ≡ Present e → Finds 0 e ws
  comes_maybe Absent w e ws is = absurd cc
  comes_maybe (Present x) w e ws is = let same : x ≡ e = cc in subst (λ e. Finds 0 e ws) same (finds 0 x ws (omega arith) (omega arith) (comes x w ws))
