use Rattle.std.proofs.Common.{◌≡◌, subst, OnOk}
use Rattle.term_values.specs.States.{state_of}
use Rattle.interference.specs.Walks.{walk_of}
use Rattle.interference.proofs.Walked.{element_read, operands_read}
use Rattle.interference.proofs.touches.+read.Goals as goal

pub note_reads-returns-in-Element : goal.note_reads-returns-in-Element
note_reads-returns-in-Element t c =
    subst (λ v. OnOk c.note_element.result (walk_of c.note_element.new.w ≡ v))
    (element_read (walk_of c.args.w.now) (state_of c.args.s.now) c.args.t.now c.in-Element.a c.in-Element.subscripts c.in-Element.is) c.note_element.ensures

pub note_reads-returns-in-Apply : goal.note_reads-returns-in-Apply
note_reads-returns-in-Apply t c =
    subst (λ v. OnOk c.note_all_reads.result (walk_of c.note_all_reads.new.w ≡ v))
    (operands_read (walk_of c.args.w.now) (state_of c.args.s.now) c.args.t.now _ c.in-Apply.operands c.in-Apply.is) c.note_all_reads.ensures
