use Rattle.std.proofs.Common.{◌≡◌, ℕ, ◌<◌, nat_eq, ◌&&◌, ◌||◌, ◌++◌, [], List, length, map, option_map, filter, get_or, replicate, take, All, sym, subst, ap, ◌∙◌, arith}
use Rattle.std.proofs.lemmas.List.{length-replicate, take_all}
use Rattle.std.specs.List.{list_any, range_with_len}
use Rattle.storage.specs.Storage.{Spot}
use Rattle.machine_steps.specs.Message.{names_spot}
use Rattle.storage.specs.Spots.{spot_of}
use Rattle.message_elements.specs.Elements.{is_sent}
use Rattle.comm_sets.specs.Noted.{Noted}
use Rattle.comm_sets.proofs.Computing.{are-nodes, computes-it}
use Rattle.comm_sets.proofs.Noting.{noted-more}
use Rattle.comm_sets.proofs.Visited.{is_sent_among, visited-from, visited-more}
use Rattle.comm_sets.proofs.visiting.sent_at.Goals as goal

pub send_reads-requires-clause-computing : goal.send_reads-requires-clause-computing
send_reads-requires-clause-computing g c =
    let n = get_or c.args.tuples.now c.loop-tuple.tuple-index 0 in
    let computes = λ (node : ℕ). (g.P.Reads.part c.args.part.now).computes node n in
    let all : List ℕ → Type 0 = λ computing. All (λ node. node < c.args.owners.now.nodes) computing in
    subst all (sym (c.in_ok-computing.ensures ∙ ap (λ o. filter computes (range_with_len 0 o.nodes)) c.requires.owners)) (are-nodes computes c.args.owners.now.nodes)

pub loop-tuple-preserved : goal.loop-tuple-preserved
loop-tuple-preserved g c =
    let part = g.P.Reads.part c.args.part.now in
    let nodes = c.args.owners.now.nodes in
    let layouts = c.args.owners.now.layouts in
    let id = c.args.id in
    let tuples = c.args.tuples.now in
    let i = c.loop-tuple.tuple-index in
    let n = get_or tuples i 0 in
    let none : List Spot = [] in
    let inside : i < length tuples = omega arith in
    let reads : map (option_map spot_of) c.read.new.reads.items ≡ part.reads n = c.in_ok-read.ensures ∙ ap (λ xs. map (option_map spot_of) xs ++ part.reads n) c.clear.ensures.items in
    let sent : map (option_map spot_of) c.as_slice-in-loop-tuple.result.now ≡ part.reads n = ap (map (option_map spot_of)) c.as_slice-in-loop-tuple.ensures.value ∙ reads in
    let computing : (node : ℕ) → node < nodes → list_any (λ other. nat_eq other node) c.in_ok-computing.computing.now ≡ part.computes node n =
    λ node lt. ap (list_any (λ other. nat_eq other node)) (c.in_ok-computing.ensures ∙ ap (λ o. filter (λ other. part.computes other n) (range_with_len 0 o.nodes)) c.requires.owners)
    ∙ computes-it (λ other. part.computes other n) nodes node lt in
    noted-more c.loop-tuple.invariant c.in_ok-send_reads.ensures (λ to lt s.
    let node : to < nodes = omega (arith, lt, length-replicate nodes none) in
    (λ k. ((computing to node k && names_spot (sent k) s) && is_sent nodes layouts id to s) || is_sent_among nodes layouts part (take i tuples) id to s)
    ∙ visited-more nodes layouts part tuples i inside id to s)

pub returns : goal.returns
returns g c =
    let part = g.P.Reads.part c.args.part.now in
    let owners = c.args.owners.now in
    let tuples = c.args.tuples.now in
    let all : take c.loop-tuple.tuple-index tuples ≡ tuples = take_all c.loop-tuple.tuple-index tuples (omega arith) in
    visited-from owners.nodes owners.layouts part tuples c.loop-tuple.messages c.arrange.new.self c.arrange.ensures c.args.id c.requires.tuples
    (subst (λ visited. Noted (replicate owners.nodes []) c.loop-tuple.messages (λ to s. is_sent_among owners.nodes owners.layouts part visited c.args.id to s)) all c.loop-tuple.invariant)
