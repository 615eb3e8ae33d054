use Rattle.std.proofs.Common.{◌≡◌, ◌+◌, ◌-◌, drop, refl, sym, ap, ◌∙◌, subst, arith}
use Rattle.syntax_tree.specs.Lexeme.{lexemes}
use Rattle.syntax_tree.specs.Expression.{expression}
use Rattle.syntax_tree.specs.Spelling.{depth}
use Rattle.expr_reader.specs.TokenReading.{viewed}
use Rattle.expr_reader.specs.Longest.{IsLongest, IsRefused}
use Rattle.expr_reader.proofs.Steps.{read_after}
use Rattle.expr_reader.proofs.Theorem.{none_begins, same_depth, too_deep, written}
use Rattle.expr_reader.proofs.reading.read_expr.Goals as goal

pub returns-in_default-clause-refused : goal.returns-in_default-clause-refused
returns-in_default-clause-refused c =
    subst (IsRefused c.args.line c.args.tokens.now c.args.from) (sym c.at.ensures) (
      refl,
      none_begins (drop c.args.from (lexemes c.args.tokens.now))
          (ap (viewed expression) (sym c.in_default.is) ∙ c.in_ok-tree.ensures.value
          ∙ read_after c.args.tokens.now c.skip.result.now c.args.from c.skip.ensures),
    )

pub returns-then-not-fits-clause-refused : goal.returns-then-not-fits-clause-refused
returns-then-not-fits-clause-refused c =
    let e = expression c.in-Some.tree in
    let w =
    written (drop c.args.from (lexemes c.args.tokens.now)) (e, c.in-Some.taken)
    (ap (viewed expression) (sym c.in-Some.is) ∙ c.in_ok-tree.ensures.value
    ∙ read_after c.args.tokens.now c.skip.result.now c.args.from c.skip.ensures) in
    let d : depth e ≡ depth w.written = ap depth (sym w.same) ∙ same_depth w.written in
    subst (IsRefused c.args.line c.args.tokens.now c.args.from) (sym c.at-then-not-fits.ensures)
    (refl, ((w.written, c.in-Some.taken), w.longest, omega (arith, d, too_deep _ (depth e) 200 c.fits.ensures c.if-not-fits.true)))

pub returns-clause-found : goal.returns-clause-found
returns-clause-found c =
    let e = expression c.in-Some.tree in
    let ts = drop c.args.from (lexemes c.args.tokens.now) in
    let w =
    written ts (e, c.in-Some.taken)
    (ap (viewed expression) (sym c.in-Some.is) ∙ c.in_ok-tree.ensures.value
    ∙ read_after c.args.tokens.now c.skip.result.now c.args.from c.skip.ensures) in
    let d : depth e ≡ depth w.written = ap depth (sym w.same) ∙ same_depth w.written in
    let z : c.in-Some.taken ≡ c.args.from + c.in-Some.taken - c.args.from = omega arith in
    record {
      forward = omega arith;
      written = w.written;
      same = w.same;
      longest = subst (λ n. IsLongest ts (w.written, n)) z w.longest;
      shallow = omega (arith, d, c.fits.ensures.0 c.if-not-fits.false);
    }
