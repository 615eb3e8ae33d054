use Rattle.std.proofs.Common.{◌≡◌, ℕ, ◌<◌, [], List, replicate, true, ◌∙◌, ap, arith}
use Rattle.std.specs.List.{range_with_len}
use Rattle.storage.specs.Storage.{Spot}
use Rattle.comm_sets.proofs.Alone.{none-sent, none-taken}
use Rattle.comm_sets.proofs.Computing.{all-pass}
use Rattle.comm_sets.proofs.exchanging.alone.Goals as goal

pub returns : goal.returns
returns g c =
    let part = g.P.Reads.part c.args.part.now in
    let owners = c.args.owners.now in
    let root : c.args.id ≡ 0 = omega (arith, c.requires.id, c.requires.one) in
    let all : (t : ℕ) → t < part.tuples → part.computes c.args.id t ≡ true = λ t inside. ap (λ id. part.computes id t) root ∙ c.alone.ensures t inside in
    let none : List Spot = [] in
    record {
      outgoing = c.in_ok-outgoing.ensures ∙ ap (λ count. replicate count none) c.nodes.ensures.value ∙ none-sent owners.nodes owners.layouts part c.requires.one c.are_dealt.ensures c.args.id;
      incoming = c.in_ok-incoming.ensures ∙ ap (λ count. replicate count none) c.nodes-2.ensures.value ∙ none-taken owners.nodes owners.layouts part c.requires.one c.are_dealt.ensures c.args.id c.requires.id;
      computed = c.below.ensures ∙ ap (range_with_len 0) c.tuples.ensures ∙ all-pass (part.computes c.args.id) part.tuples all;
    }
