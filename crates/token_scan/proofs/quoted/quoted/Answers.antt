use Rattle.std.proofs.Common.{◌≡◌, length, take, subst, sym, arith}
use Rattle.std.proofs.lemmas.List.{length-take}
use Rattle.token_scan.specs.Pieces.{NoneQuoted}
use Rattle.token_scan.proofs.Texts.{quoted-closed, quoted-open}
use Rattle.token_scan.proofs.quoted.quoted.Goals as goal

pub returns-then-len-rest : goal.returns-then-len-rest
returns-then-len-rest c =
    subst (NoneQuoted c.args.delimiter) (sym c.in_ok-first.ensures.cases.0)
    (quoted-open c.args.delimiter c.in_ok-first.first.now c.in_ok-first.rest.now (omega (arith, c.run_len-len.ensures.count, c.if-len-rest.true)))

pub returns : goal.returns
returns c =
    let len = c.run_len-len.result in
    let rest = c.in_ok-first.rest.now in
    let long : length (take len rest) ≡ len = omega (arith, length-take len rest, c.run_len-len.ensures.within) in
    rw (c.in_ok-first.ensures.cases.0, long) (
      omega (arith, c.run_len-len.ensures.within, c.if-len-rest.false),
      quoted-closed c.args.delimiter c.in_ok-first.first.now rest len c.if-first-delimiter.false c.run_len-len.ensures.count
          (omega (arith, c.run_len-len.ensures.within, c.if-len-rest.false)),
    )
