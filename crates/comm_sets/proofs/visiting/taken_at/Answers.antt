use Rattle.std.proofs.Common.{◌≡◌, ◌<◌, ◌&&◌, ◌||◌, ◌++◌, [], length, map, option_map, get_or, replicate, take, true, sym, subst, ap, ◌∙◌, arith}
use Rattle.std.proofs.lemmas.List.{take_all}
use Rattle.machine_steps.specs.Message.{names_spot}
use Rattle.storage.specs.Spots.{spot_of}
use Rattle.message_elements.specs.Elements.{is_sent}
use Rattle.comm_sets.specs.Noted.{Noted}
use Rattle.comm_sets.proofs.Noting.{noted-more}
use Rattle.comm_sets.proofs.Visited.{is_sent_among, visited-more, visited-to}
use Rattle.comm_sets.proofs.visiting.taken_at.Goals as goal

pub loop-tuple-preserved : goal.loop-tuple-preserved
loop-tuple-preserved g c =
    let part = g.P.Reads.part c.args.part.now in
    let nodes = c.args.owners.now.nodes in
    let layouts = c.args.owners.now.layouts in
    let id = c.args.id in
    let tuples = c.args.tuples.now in
    let i = c.loop-tuple.tuple-index in
    let n = get_or tuples i 0 in
    let inside : i < length tuples = omega arith in
    let reads : map (option_map spot_of) c.read.new.reads.items ≡ part.reads n = c.in_ok-read.ensures ∙ ap (λ xs. map (option_map spot_of) xs ++ part.reads n) c.clear.ensures.items in
    let taken : map (option_map spot_of) c.as_slice.result.now ≡ part.reads n = ap (map (option_map spot_of)) c.as_slice.ensures.value ∙ reads in
    let computes : true ≡ part.computes id n = sym (c.requires.own i 0 inside) in
    noted-more c.loop-tuple.invariant c.in_ok-receive_reads.ensures (λ from lt s.
    (λ k. ((computes k && names_spot (taken k) s) && is_sent nodes layouts from id s) || is_sent_among nodes layouts part (take i tuples) from id s)
    ∙ visited-more nodes layouts part tuples i inside from id s)

pub returns : goal.returns
returns g c =
    let part = g.P.Reads.part c.args.part.now in
    let owners = c.args.owners.now in
    let tuples = c.args.tuples.now in
    let all : take c.loop-tuple.tuple-index tuples ≡ tuples = take_all c.loop-tuple.tuple-index tuples (omega arith) in
    visited-to owners.nodes owners.layouts part tuples c.loop-tuple.messages c.arrange.new.self c.arrange.ensures c.args.id c.requires.tuples
    (subst (λ visited. Noted (replicate owners.nodes []) c.loop-tuple.messages (λ from s. is_sent_among owners.nodes owners.layouts part visited from c.args.id s)) all c.loop-tuple.invariant)
