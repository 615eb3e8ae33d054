use Rattle.std.proofs.Common.{◌≡◌, ◌+◌, ◌++◌, ◌∷◌, [], ap, sym, ◌∙◌, rules, drop, true, false}
use Rattle.std.specs.List.{list_all}
use Rattle.source_lines.specs.PhysicalLines.{is_blank}
use Rattle.fixed_lines.specs.FreeText.{contents, with_code, with_codes}
use Rattle.fixed_lines.proofs.ClosedLines.{code_pushed, contents_blank, contents_full}
use Rattle.fixed_lines.proofs.closed_up.push_content.Goals as goal

pub returns-then-all_blank-clause-closed : goal.returns-then-all_blank-clause-closed
returns-then-all_blank-clause-closed c rest =
    let blank : list_all is_blank c.args.line.now.code ≡ true = search rules in
    ap (λ l. c.args.closed.now.items ++ with_codes (drop c.args.place c.args.lines.now) l) (sym (contents_blank c.args.line.now rest blank))

pub returns-clause-closed : goal.returns-clause-closed
returns-clause-closed c rest =
    let lines = c.args.lines.now in
    let line = c.args.line.now in
    let full : list_all is_blank line.code ≡ false = search rules in
    let pushed : c.push.new.self.items ≡ c.args.closed.now.items ++ with_code line.code c.index-lines-place.result ∷ [] = search rules in
    ap (λ l. l ++ with_codes (drop (c.args.place + 1) lines) (contents rest)) pushed
    ∙ code_pushed c.args.closed.now.items lines c.args.place c.index-lines-place.result line.code (contents rest) c.requires c.index-lines-place.is
    ∙ ap (λ l. c.args.closed.now.items ++ with_codes (drop c.args.place lines) l) (sym (contents_full line rest full))
