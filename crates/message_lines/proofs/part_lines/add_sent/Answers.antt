use Rattle.std.proofs.Common.{◌≡◌, ℕ, ◌<◌, ◌==◌, ◌&&◌, not, List, [], ◌++◌, map, sym, ◌∙◌, ap, append_assoc, arith}
use Rattle.std.specs.List.{flat_map, range_with_len}
use Rattle.comm_sets.specs.declared.exchanged.Exchange.{Exchange}
use Rattle.storage.specs.Storage.{Spot}
use Rattle.storage.specs.Spots.{spot_of}
use Rattle.machine_steps.specs.Layout.{least_owner_of, owns_spot}
use Rattle.machine_steps.specs.Message.{message, needs}
use Rattle.owner_tables.proofs.Listed.{is-listed, listed-is}
use Rattle.owner_tables.specs.Views.{OwnersView}
use Rattle.message_text.specs.MessageText.{message_line}
use Rattle.part_steps.specs.Exchanged.{IsExchange}
use Rattle.part_steps.specs.Parts.{PartView, part_of}
use Rattle.part_steps.specs.Views.{part_view}
use Rattle.message_lines.specs.Settings.{setting_of}
use Rattle.message_lines.proofs.Inside.{listed-inside, spots-inside}
use Rattle.run_report.proofs.Lines.{lines_more}
use Rattle.message_lines.proofs.part_lines.add_sent.Goals as goal

-- what the node sends over these owners
sent : (v : PartView) (owners : OwnersView) (from : ℕ) (e : Exchange) → ◌≡◌ {A = OwnersView} (record { layouts = v.layouts; nodes = v.nodes }) owners → IsExchange v from e
    → e.outgoing ≡ map (λ to. message owners.nodes owners.layouts (part_of v) from to) (range_with_len 0 owners.nodes)
sent v owners from e over is = is.outgoing ∙ (λ i. map (λ to. message (over i).nodes (over i).layouts (part_of v) from to) (range_with_len 0 (over i).nodes))

pub with-spots-requires : goal.with-spots-requires
with-spots-requires c =
    let owners = c.args.rows.now.owners in
    let v = part_view c.args.part.now in
    let to : ℕ → List Spot = message owners.nodes owners.layouts (part_of v) c.args.from in
    let below : c.loop-to.to < owners.nodes = omega (arith, c.loop-to-test.true, c.nodes-to-end.ensures.value) in
    is-listed c.args.exchange.now.outgoing to owners.nodes (sent v owners c.args.from c.args.exchange.now c.requires.over c.requires.exchange) c.loop-to.to below

pub add_message-requires : goal.add_message-requires
add_message-requires c =
    let owners = c.args.rows.now.owners in
    let v = part_view c.args.part.now in
    let from = c.args.from in
    let to : ℕ → List Spot = message owners.nodes owners.layouts (part_of v) from in
    let q = c.loop-to.to in
    let below : q < owners.nodes = omega (arith, c.loop-to-test.true, c.nodes-to-end.ensures.value) in
    let is : map spot_of c.with-spots.result.now ≡ to q =
    c.with-spots.ensures ∙ listed-is c.args.exchange.now.outgoing to owners.nodes (sent v owners from c.args.exchange.now c.requires.over c.requires.exchange) q below [] in
    listed-inside owners.layouts c.with-spots.result.now (to q) is
    (spots-inside (λ spot. needs (part_of v) q spot && (not (owns_spot owners.layouts q spot) && (least_owner_of owners.nodes owners.layouts spot == from))) owners.layouts)

pub loop-to-preserved : goal.loop-to-preserved
loop-to-preserved c =
    let rows = c.args.rows.now in
    let owners = rows.owners in
    let v = part_view c.args.part.now in
    let from = c.args.from in
    let to : ℕ → List Spot = message owners.nodes owners.layouts (part_of v) from in
    let q = c.loop-to.to in
    let below : q < owners.nodes = omega (arith, c.loop-to-test.true, c.nodes-to-end.ensures.value) in
    let is : map spot_of c.with-spots.result.now ≡ to q =
    c.with-spots.ensures ∙ listed-is c.args.exchange.now.outgoing to owners.nodes (sent v owners from c.args.exchange.now c.requires.over c.requires.exchange) q below [] in
    let line : ℕ → List ℕ = λ k. message_line c.args.head.now from k (setting_of rows) owners.layouts (to k) in
    c.in_ok-add_message.ensures ∙ (λ i. c.loop-to.invariant i ++ message_line c.args.head.now from q (setting_of rows) owners.layouts (is i))
    ∙ append_assoc c.args.text.now.items (flat_map line (range_with_len 0 q)) (line q) ∙ ap (λ ls. c.args.text.now.items ++ ls) (sym (lines_more line q))
