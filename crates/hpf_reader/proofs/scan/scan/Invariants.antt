use Rattle.std.proofs.Common.{◌≡◌, take, None, map}
use Rattle.hpf_base.specs.FirstBreach.{IsFirstOrNone}
use Rattle.hpf_reader.specs.ProgramText.{TokensBreak, lexeme_line}
use Rattle.hpf_reader.proofs.scan.scan.Given as goal

abbrev pub invariant-loop-line : goal.invariant-loop-line
invariant-loop-line l = IsFirstOrNone (TokensBreak (take l.line-index l.lines)) l.first × (l.first ≡ None → l.scanned.items ≡ map lexeme_line (take l.line-index l.lines))
