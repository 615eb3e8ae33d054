use Rattle.std.proofs.Common.{◌≡◌, ◌+◌, length, drop, sym, ap, ◌∙◌, arith}
use Rattle.std.proofs.lemmas.Bool.{eqb-false}
use Rattle.std.proofs.lemmas.List.{drop-drop, take_all, drop_all}
use Rattle.hpf_base.proofs.FirstLine.{line_before, line_without}
use Rattle.source_lines.proofs.line_split.first_line.Goals as goal

pub returns-in-Some-clause-lines : goal.returns-in-Some-clause-lines
returns-in-Some-clause-lines c =
    let e : c.split_at-in-Some.result.1.now ≡ drop (c.in-Some.end + 1) c.args.text.now =
    c.split_at-in-Some.ensures.back ∙ ap (drop 1) c.split_at.ensures.back ∙ drop-drop 1 c.in-Some.end c.args.text.now in
    rw (c.split_at.ensures.front, e) (line_before c.args.text.now c.in-Some.end c.in-Some.ensures)

pub returns-in-None-clause-lines : goal.returns-in-None-clause-lines
returns-in-None-clause-lines c =
    rw (
      c.split_at-in-None.ensures.front,
      c.split_at-in-None.ensures.back,
      take_all (length c.args.text.now) c.args.text.now (omega arith),
      drop_all (length c.args.text.now) c.args.text.now (omega arith),
    )
    (line_without c.args.text.now (eqb-false (length c.args.text.now) 0 (sym c.if-is_empty.ensures)) c.in-None.ensures)
