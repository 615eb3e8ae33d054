use Rattle.std.proofs.Common.{ℕ}
use Rattle.construct_reader.specs.Draft.{IsAppended, IsAfter, end_part, innermost, shape}
use Rattle.construct_reader.specs.NextLine.{statement_line}
use Rattle.construct_reader.proofs.Taken.{around, end_after, inside, on_ok}
use Rattle.construct_reader.proofs.draft_step.close.Goals as goal

pub ended-requires : goal.ended-requires
ended-requires c = record {
  sound = ((inside c.args.draft c.innermost-opens.result.0.items c.innermost-opens.result.1 c.requires.sound c.innermost-opens.ensures).1, c.requires.sound.1);
}

pub appended-requires : goal.appended-requires
appended-requires c = (
  around c.args.draft c.innermost-opens.result.0.items c.innermost-opens.result.1 c.requires.sound c.innermost-opens.ensures,
  (inside c.args.draft c.innermost-opens.result.0.items c.innermost-opens.result.1 c.requires.sound c.innermost-opens.ensures).0,
  c.in_ok-stmt.ensures.sound,
)

pub returns : goal.returns
returns c =
    on_ok
    (IsAppended c.innermost-opens.result.0.items c.innermost-opens.result.1.before.items c.in_ok-stmt.stmt)
    (λ d. (n : ℕ) → IsAfter c.args.draft (statement_line n (end_part (innermost (shape c.args.draft.opens.items)) c.args.glued)) d)
    (λ d a n.
    end_after c.args.draft d n c.args.glued c.innermost-opens.result.0.items c.innermost-opens.result.1 c.in_ok-stmt.stmt c.requires.takes
    c.innermost-opens.ensures c.in_ok-stmt.ensures a)
    c.appended.result
    c.appended.ensures
