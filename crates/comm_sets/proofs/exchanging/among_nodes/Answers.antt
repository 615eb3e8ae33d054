use Rattle.std.proofs.Common.{◌≡◌, ℕ, ◌<◌, nat_eq, ◌&&◌, ◌||◌, ◌++◌, [], ◌∷◌, List, map, option_map, filter, All, if◌then◌else◌, sym, subst, ap, ◌∙◌, arith}
use Rattle.std.proofs.lemmas.List.{length-replicate}
use Rattle.std.specs.List.{list_any, range_with_len}
use Rattle.storage.specs.Storage.{Spot}
use Rattle.machine_steps.specs.Message.{names_spot}
use Rattle.storage.specs.Spots.{spot_of}
use Rattle.message_elements.specs.Elements.{is_sent}
use Rattle.comm_sets.proofs.Computing.{are-nodes, computes-it, filter-more}
use Rattle.comm_sets.proofs.Noting.{noted-more}
use Rattle.comm_sets.proofs.Sent.{is_sent_below, messages-from, messages-to, tuples-more}
use Rattle.comm_sets.proofs.exchanging.among_nodes.Goals as goal

pub send_reads-requires-clause-computing : goal.send_reads-requires-clause-computing
send_reads-requires-clause-computing g c =
    let computes = λ (node : ℕ). (g.P.Reads.part c.args.part.now).computes node c.loop-tuple.tuple in
    let all : List ℕ → Type 0 = λ computing. All (λ node. node < c.args.owners.now.nodes) computing in
    subst all (sym (c.in_ok-computing.ensures ∙ ap (λ o. filter computes (range_with_len 0 o.nodes)) c.requires.owners)) (are-nodes computes c.args.owners.now.nodes)

pub loop-tuple-preserved : goal.loop-tuple-preserved
loop-tuple-preserved g c =
    let part = g.P.Reads.part c.args.part.now in
    let nodes = c.args.owners.now.nodes in
    let layouts = c.args.owners.now.layouts in
    let id = c.args.id in
    let n = c.loop-tuple.tuple in
    let none : List Spot = [] in
    let reads : map (option_map spot_of) c.read.new.reads.items ≡ part.reads n = c.in_ok-read.ensures ∙ ap (λ xs. map (option_map spot_of) xs ++ part.reads n) c.clear.ensures.items in
    let sent : map (option_map spot_of) c.as_slice-in-loop-tuple.result.now ≡ part.reads n = ap (map (option_map spot_of)) c.as_slice-in-loop-tuple.ensures.value ∙ reads in
    let taken : map (option_map spot_of) c.as_slice-in-loop-tuple-2.result.now ≡ part.reads n = ap (map (option_map spot_of)) c.as_slice-in-loop-tuple-2.ensures.value ∙ reads in
    let computing : (node : ℕ) → node < nodes → list_any (λ other. nat_eq other node) c.in_ok-computing.computing.now ≡ part.computes node n =
    λ node lt. ap (list_any (λ other. nat_eq other node)) (c.in_ok-computing.ensures ∙ ap (λ o. filter (λ other. part.computes other n) (range_with_len 0 o.nodes)) c.requires.owners)
    ∙ computes-it (λ other. part.computes other n) nodes node lt in
    record {
      outgoing = noted-more c.loop-tuple.invariant.outgoing c.in_ok-send_reads.ensures (λ to lt s.
          let node : to < nodes = omega (arith, length-replicate nodes none) in
          (λ i. ((computing to node i && names_spot (sent i) s) && is_sent nodes layouts id to s) || is_sent_below nodes layouts part n id to s) ∙ tuples-more nodes layouts part n id to s);
      incoming = noted-more c.loop-tuple.invariant.incoming c.in_ok-receive_tuple.ensures.messages (λ from lt s.
          (λ i. ((computing id c.requires.id i && names_spot (taken i) s) && is_sent nodes layouts from id s) || is_sent_below nodes layouts part n from id s)
          ∙ tuples-more nodes layouts part n from id s);
      computed = c.in_ok-receive_tuple.ensures.computed
          ∙ (λ i. c.loop-tuple.invariant.computed i ++ (if computing id c.requires.id i then n ∷ [] else []))
          ∙ sym (filter-more (part.computes id) n);
    }

pub returns : goal.returns
returns g c =
    let part = g.P.Reads.part c.args.part.now in
    let owners = c.args.owners.now in
    let all : c.loop-tuple.tuple ≡ part.tuples = omega (arith, c.tuples-tuple-end.ensures) in
    record {
      outgoing = messages-from owners.nodes owners.layouts part c.loop-tuple.tuple c.loop-tuple.outgoing c.arrange.new.self all c.arrange.ensures c.args.id c.loop-tuple.invariant.outgoing;
      incoming = messages-to owners.nodes owners.layouts part c.loop-tuple.tuple c.loop-tuple.incoming c.arrange-2.new.self all c.arrange-2.ensures c.args.id c.loop-tuple.invariant.incoming;
      computed = c.listed.ensures ∙ c.loop-tuple.invariant.computed ∙ ap (λ count. filter (part.computes c.args.id) (range_with_len 0 count)) all;
    }
