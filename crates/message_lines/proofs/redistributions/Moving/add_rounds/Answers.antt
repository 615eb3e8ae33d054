use Rattle.std.proofs.Common.{◌≡◌, ℕ, suc, ◌+◌, List, [], ◌∷◌, ◌++◌, Some, All, codes, decimal, drop, map, slice_get, sym, ◌∙◌, ap, append_assoc, arith, subst}
use Rattle.std.proofs.lemmas.List.{drop_more}
use Rattle.std.specs.List.{flat_map}
use Rattle.std.proofs.lemmas.Option.{get_or_from_slice_get, slice_get_within}
use Rattle.letters.specs.declared.pair.Pair.{Pair}
use Rattle.machine_steps.specs.Layout.{Layout}
use Rattle.machine_steps.specs.Message.{remap_message}
use Rattle.redistribute_rounds.specs.Rounds.{IsBetween}
use Rattle.message_text.specs.Parts.{Setting}
use Rattle.message_text.specs.MessageText.{line_head, message_line, round_lines, rounds_lines}
use Rattle.message_lines.specs.Settings.{setting_of}
use Rattle.message_lines.proofs.redistributions.Moving.add_rounds.Goals as goal

-- the lines of those that are left: of the first, and then of the rest
next : (s : Setting) (line : ℕ) (old new : List Layout) (rounds : List (List Pair)) (place : ℕ) (round : List Pair) (text : List ℕ) → slice_get rounds place ≡ Some round
    → (text ++ round_lines s line old new (place + 1) round) ++ rounds_lines s line old new (place + 1 + 1) (drop (place + 1) rounds)
    ≡ text ++ rounds_lines s line old new (place + 1) (drop place rounds)
next s line old new rounds place round text is =
    let after : place + 1 + 1 ≡ suc (place + 1) = omega arith in
    append_assoc text (round_lines s line old new (place + 1) round) (rounds_lines s line old new (place + 1 + 1) (drop (place + 1) rounds))
    ∙ ap (λ n. text ++ (round_lines s line old new (place + 1) round ++ rounds_lines s line old new n (drop (place + 1) rounds))) after
    ∙ ap (λ r. text ++ rounds_lines s line old new (place + 1) (r ∷ drop (place + 1) rounds)) (sym (get_or_from_slice_get rounds place round [] is))
    ∙ ap (λ rs. text ++ rounds_lines s line old new (place + 1) rs) (sym (drop_more rounds place [] (slice_get_within rounds place round is)))

-- those of a round after the words that they begin with
headed : (s : Setting) (line : ℕ) (old new : List Layout) (r : ℕ) (pairs : List Pair) (head : List ℕ) → head ≡ line_head line ++ codes "round " ++ decimal r ++ codes ": "
    → flat_map (λ pair. message_line head pair.from.0 pair.to.0 s old (remap_message s.nodes old new pair.from.0 pair.to.0)) pairs ≡ round_lines s line old new r pairs
headed s line old new r pairs head is =
    ap (λ h. flat_map (λ pair. message_line h pair.from.0 pair.to.0 s old (remap_message s.nodes old new pair.from.0 pair.to.0)) pairs) is

pub add_round-requires : goal.add_round-requires
add_round-requires c =
    let nodes = c.args.self.now.rows.now.owners.nodes in
    let rounds = map (λ v. v.items) c.args.rounds.now.list.items in
    subst (λ (pairs : List Pair). All (IsBetween nodes) pairs) (get_or_from_slice_get rounds c.loop-place.place c.pairs.result.now [] c.pairs.ensures)
    (c.requires c.loop-place.place [] (slice_get_within rounds c.loop-place.place c.pairs.result.now c.pairs.ensures))

pub loop-place-preserved : goal.loop-place-preserved
loop-place-preserved c =
    let rows = c.args.self.now.rows.now in
    let old = rows.owners.layouts in
    let new = c.args.self.now.after.now.layouts in
    let rounds = map (λ v. v.items) c.args.rounds.now.list.items in
    let place = c.loop-place.place in
    let pairs = c.pairs.result.now in
    let head = headed (setting_of rows) c.args.line old new (place + 1) pairs c.deref.result.now (c.deref.ensures.value ∙ c.in_ok-head.ensures) in
    ap (λ t. t ++ rounds_lines (setting_of rows) c.args.line old new (place + 1 + 1) (drop (place + 1) rounds))
    (c.in_ok-add_round.ensures ∙ ap (λ ls. c.loop-place.text.items ++ ls) head)
    ∙ next (setting_of rows) c.args.line old new rounds place pairs c.loop-place.text.items c.pairs.ensures
    ∙ c.loop-place.invariant
