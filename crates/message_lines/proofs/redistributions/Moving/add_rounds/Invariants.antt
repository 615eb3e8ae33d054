use Rattle.std.proofs.Common.{◌≡◌, ◌+◌, ◌++◌, drop, map}
use Rattle.message_text.specs.MessageText.{rounds_lines}
use Rattle.message_lines.specs.Settings.{setting_of}
use Rattle.message_lines.proofs.redistributions.Moving.add_rounds.Given as goal

-- what is added, before what is left
abbrev pub invariant-loop-place : goal.invariant-loop-place
invariant-loop-place l =
    let rows = l.self.rows.now in
    let rounds = map (λ v. v.items) l.rounds.list.items in
    l.text.items ++ rounds_lines (setting_of rows) l.line rows.owners.layouts l.self.after.now.layouts (l.place + 1) (drop l.place rounds)
    ≡ l.fn.text.items ++ rounds_lines (setting_of rows) l.line rows.owners.layouts l.self.after.now.layouts 1 rounds
