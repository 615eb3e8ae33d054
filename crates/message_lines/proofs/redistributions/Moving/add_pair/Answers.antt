use Rattle.std.proofs.Common.{◌≡◌, ℕ, ◌<◌, ◌==◌, ◌&&◌, not, List, [], ◌++◌, get_or, length, map, ◌∙◌, ap, arith}
use Rattle.std.specs.List.{range_with_len}
use Rattle.storage.specs.Storage.{Spot}
use Rattle.storage.specs.Spots.{spot_of}
use Rattle.machine_steps.specs.Layout.{least_owner_of, owns_spot}
use Rattle.machine_steps.specs.Message.{remap_message}
use Rattle.owner_tables.proofs.Listed.{is-listed, listed-is}
use Rattle.message_text.specs.MessageText.{message_line}
use Rattle.message_lines.specs.Settings.{setting_of}
use Rattle.message_lines.proofs.Inside.{listed-inside, spots-inside}
use Rattle.message_lines.proofs.redistributions.Moving.add_pair.Goals as goal

-- what a node sends to each
module _ (nodes : ℕ) (messages : ℕ → ℕ → List Spot) (all : List (List (List Spot)))
    (are : all ≡ map (λ p. map (messages p) (range_with_len 0 nodes)) (range_with_len 0 nodes)) (from : ℕ) (below : from < nodes) where
  some-sent : from < length all
  some-sent = is-listed all (λ p. map (messages p) (range_with_len 0 nodes)) nodes are from below

  sent-by : (d : List (List Spot)) → get_or all from d ≡ map (messages from) (range_with_len 0 nodes)
  sent-by d = listed-is all (λ p. map (messages p) (range_with_len 0 nodes)) nodes are from below d

pub index-outgoing-requires : goal.index-outgoing-requires
index-outgoing-requires c =
    let rows = c.args.self.now.rows.now in
    let messages : ℕ → ℕ → List Spot = remap_message rows.owners.nodes rows.owners.layouts c.args.self.now.after.now.layouts in
    let inside : c.args.pair.now.from.0 < length c.args.self.now.outgoing.items =
    some-sent rows.owners.nodes messages c.args.self.now.outgoing.items c.args.self.now.sent c.args.pair.now.from.0 c.requires.from in
    omega arith

pub with-spots-requires : goal.with-spots-requires
with-spots-requires c =
    let rows = c.args.self.now.rows.now in
    let from = c.args.pair.now.from.0 in
    let messages : ℕ → ℕ → List Spot = remap_message rows.owners.nodes rows.owners.layouts c.args.self.now.after.now.layouts in
    let sent = c.index-outgoing.result.now in
    is-listed sent (messages from) rows.owners.nodes
    (c.index-outgoing.ensures ∙ sent-by rows.owners.nodes messages c.args.self.now.outgoing.items c.args.self.now.sent from c.requires.from sent)
    c.args.pair.now.to.0 c.requires.to

pub add_message-requires : goal.add_message-requires
add_message-requires c =
    let rows = c.args.self.now.rows.now in
    let from = c.args.pair.now.from.0 in
    let to = c.args.pair.now.to.0 in
    let after = c.args.self.now.after.now.layouts in
    let nodes = rows.owners.nodes in
    let layouts = rows.owners.layouts in
    let messages : ℕ → ℕ → List Spot = remap_message nodes layouts after in
    let sent = c.index-outgoing.result.now in
    let is : map spot_of c.with-spots.result.now ≡ messages from to =
    c.with-spots.ensures
    ∙ listed-is sent (messages from) nodes
    (c.index-outgoing.ensures ∙ sent-by nodes messages c.args.self.now.outgoing.items c.args.self.now.sent from c.requires.from sent) to c.requires.to [] in
    listed-inside layouts c.with-spots.result.now (messages from to) is
    (spots-inside (λ spot. owns_spot after to spot && (not (owns_spot layouts to spot) && (least_owner_of nodes layouts spot == from))) layouts)

pub returns : goal.returns
returns c =
    let rows = c.args.self.now.rows.now in
    let from = c.args.pair.now.from.0 in
    let to = c.args.pair.now.to.0 in
    let nodes = rows.owners.nodes in
    let messages : ℕ → ℕ → List Spot = remap_message nodes rows.owners.layouts c.args.self.now.after.now.layouts in
    let sent = c.index-outgoing.result.now in
    let is : map spot_of c.with-spots.result.now ≡ messages from to =
    c.with-spots.ensures
    ∙ listed-is sent (messages from) nodes
    (c.index-outgoing.ensures ∙ sent-by nodes messages c.args.self.now.outgoing.items c.args.self.now.sent from c.requires.from sent) to c.requires.to [] in
    c.in_ok-add_message.ensures ∙ ap (λ spots. c.args.text.now.items ++ message_line c.args.head.now from to (setting_of rows) rows.owners.layouts spots) is
