-- Of a promise.
-- A list of the messages of a program, against the definitions.
use Rattle.std.specs.Prelude.{◌≡◌, ℕ, List}
use Rattle.syntax_tree.specs.MainProgram.{MainProgram}
use Rattle.array_meaning.specs.Serial.{serial}
use Rattle.serial_run.specs.Outcomes.{end_seen}
use Rattle.distributed_run.specs.ProgramMessages.{messages_text}
use Rattle.distributed_run.specs.declared.listing.MessageList.{MessageList}

-- the text is that of the messages that nodes of the grid send for the program, up to its first fault where it has one; and the end is the
-- program's
pub record IsMessageList (grid : List ℕ) (p : MainProgram) (l : MessageList) : Type 0 where
  pub text : l.text.items ≡ messages_text grid p
  pub end : end_seen l.end ≡ (serial p).end
