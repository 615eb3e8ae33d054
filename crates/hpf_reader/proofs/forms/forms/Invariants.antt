use Rattle.std.proofs.Common.{◌≡◌, take, None}
use Rattle.hpf_base.specs.FirstBreach.{IsFirstOrNone}
use Rattle.construct_rules.specs.ProgramLine.{lines_of}
use Rattle.hpf_reader.specs.ProgramText.{AreLinesOf, FormsBreak}
use Rattle.hpf_reader.proofs.forms.forms.Given as goal

abbrev pub invariant-loop-line : goal.invariant-loop-line
invariant-loop-line l = IsFirstOrNone (FormsBreak (take l.line-index l.lines)) l.first × (l.first ≡ None → AreLinesOf (take l.line-index l.lines) (lines_of l.forms.items))
