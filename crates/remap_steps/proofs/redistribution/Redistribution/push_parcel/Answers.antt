use Rattle.std.proofs.Common.{◌≡◌, ◌==◌, ◌&&◌, not, Bool, true, if◌then◌else◌, List, ℤ, [], ◌∷◌, ◌++◌, map, ◌∙◌, ap, subst}
use Rattle.std.proofs.lemmas.Bool.{and_parts, eqb-true}
use Rattle.machine_steps.specs.Layout.{AreOwned, least_owner_of, owns_spot}
use Rattle.machine_steps.specs.Node.{local_read, parcel}
use Rattle.owner_tables.proofs.Listed.{is-listed, listed-is}
use Rattle.owner_tables.proofs.Senders.{listed-owned, sent-owned}
use Rattle.remap_steps.specs.Redistributions.{message_between, sends_in}
use Rattle.remap_steps.proofs.Made.{seen}
use Rattle.remap_steps.proofs.redistribution.Redistribution.push_parcel.Goals as goal

pub with-requires : goal.with-requires
with-requires c =
    let v = c.args.self.now in
    let s = seen c.self.inside v c.self.view_is c.self.invariant in
    is-listed c.self.inside.outgoing (message_between v v.id) v.nodes s.outgoing c.args.target c.requires

pub body-requires : goal.body-requires
body-requires c =
    let v = c.args.self.now in
    let s = seen c.self.inside v c.self.view_is c.self.invariant in
    let to = c.args.target in
    listed-owned v.old v.id c.with.result.now (message_between v v.id to)
    (c.with.ensures ∙ listed-is c.self.inside.outgoing (message_between v v.id) v.nodes s.outgoing to c.requires [])
    (sent-owned v.nodes v.old (subst (λ n. AreOwned n v.old) s.nodes (subst (AreOwned c.self.inside.before.nodes) s.old c.are_dealt.ensures))
    (λ spot. owns_spot v.new to spot && (not (owns_spot v.old to spot) && (least_owner_of v.nodes v.old spot == v.id)))
    v.id (λ spot h. eqb-true _ _ (and_parts _ _ (and_parts _ _ h).1).1))

pub returns-in_ok-push_back : goal.returns-in_ok-push_back
returns-in_ok-push_back c =
    let v = c.args.self.now in
    let s = seen c.self.inside v c.self.view_is c.self.invariant in
    let to = c.args.target in
    let old = c.args.outbox.now.items in
    let read = map (local_read v.old v.id c.args.pieces.now) in
    let body : c.in_ok-body.body ≡ read (message_between v v.id to) =
    c.in_ok-body.ensures ∙ ap read (c.with.ensures ∙ listed-is c.self.inside.outgoing (message_between v v.id) v.nodes s.outgoing to c.requires []) in
    let sends : true ≡ sends_in v c.args.round v.id to = c.if-is_in_round.ensures ∙ ap (λ id. sends_in v c.args.round id to) s.id in
    c.in_ok-push_back.ensures.items ∙ ap (λ (values : List ℤ). old ++ record { to = to; body = values } ∷ []) body
    ∙ ap (λ (b : Bool). old ++ map (parcel (λ q. read (message_between v v.id q))) (if b then to ∷ [] else [])) sends
