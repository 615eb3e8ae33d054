use Rattle.std.proofs.Common.{ℕ}
use Rattle.hpf_base.specs.Refusal.{NoBreach}
use Rattle.construct_rules.specs.Breaches.{IsNestBreach}
use Rattle.construct_rules.specs.ProgramLine.{lines_of}
use Rattle.construct_reader.specs.Progress.{IsProgress}
use Rattle.construct_reader.proofs.progress.read_nest.Given as goal

abbrev pub invariant-loop-line : goal.invariant-loop-line
invariant-loop-line l =
    (last : ℕ) → NoBreach (IsNestBreach last (lines_of l.fn.lines.items))
    → IsProgress (lines_of l.fn.lines.items) last l.so_far (lines_of l.line-iterator.rest.items)
