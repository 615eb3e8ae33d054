use Rattle.std.proofs.Common.{◌≡◌, ℕ, ◌<◌, nat_eq, ◌==◌, ◌&&◌, not, Bool, true, false, List, All, filter, eq-eqb, refl, sym, ◌∙◌, ap, subst, arith}
use Rattle.std.specs.List.{list_any, range_with_len}
use Rattle.storage.specs.Storage.{Spot}
use Rattle.storage.specs.Storage.{is_same_spot}
use Rattle.machine_steps.specs.Layout.{owns_spot, least_owner_of}
use Rattle.storage.specs.Spots.{spot_of}
use Rattle.covering_rounds.specs.Moved.{is_moved}
use Rattle.message_elements.proofs.Ascending.{same-true}
use Rattle.comm_sets.proofs.Computing.{are-nodes, computes-it}
use Rattle.comm_sets.proofs.Noting.{noted-same}
use Rattle.comm_sets.proofs.remapping.move_from.Goals as goal

-- what an element passes, each that is the same passes
at-element : (owned unowned least : Spot → Bool) (spot s : Spot) → least spot ≡ true → (owned spot && (is_same_spot spot s && unowned s)) ≡ (is_same_spot spot s && (owned s && (unowned s && least s)))
at-element owned unowned least spot s passes = by_case (is_same_spot spot s) refl
  where
    with-least : (a b c : Bool) → c ≡ true → (a && (true && b)) ≡ (a && (b && c))
    with-least true true c e = sym e
    with-least true false c e = refl
    with-least false b c e = refl

    neither : (a : Bool) → (a && false) ≡ false
    neither true = refl
    neither false = refl

    by_case : (b : Bool) → is_same_spot spot s ≡ b → (owned spot && (b && unowned s)) ≡ (b && (owned s && (unowned s && least s)))
    by_case true e =
        let same = same-true spot s e in
        ap (λ (t : Spot). owned t && (true && unowned s)) same ∙ with-least (owned s) (unowned s) (least s) (ap least (sym same) ∙ passes)
    by_case false e = neither (owned spot)

pub send-requires-clause-computing : goal.send-requires-clause-computing
send-requires-clause-computing c =
    let owns = λ (node : ℕ). owns_spot c.args.after.now.layouts node (spot_of c.args.spot) in
    let all : List ℕ → Type 0 = λ nodes. All (λ node. node < c.args.before.now.nodes) nodes in
    subst all (sym (c.owners.ensures ∙ ap (λ count. filter owns (range_with_len 0 count)) (sym c.requires.nodes))) (are-nodes owns c.args.before.now.nodes)

pub returns-in_ok-send : goal.returns-in_ok-send
returns-in_ok-send c =
    let old = c.args.before.now in
    let new = c.args.after.now in
    let spot = spot_of c.args.spot in
    let is-least : (least_owner_of old.nodes old.layouts spot == c.args.from) ≡ true = eq-eqb _ c.args.from (sym c.least_owner.ensures.value ∙ c.if-least_owner-from.true) in
    noted-same (λ to s. is_same_spot spot s && is_moved old.nodes old.layouts new.layouts c.args.from to s) (λ to lt s.
    let node : to < new.nodes = omega (arith, c.requires.lists, c.requires.nodes) in
    ap (λ b. b && (is_same_spot spot s && not (owns_spot old.layouts to s)))
    (ap (list_any (λ other. nat_eq other to)) c.owners.ensures ∙ computes-it (λ other. owns_spot new.layouts other spot) new.nodes to node)
    ∙ at-element (owns_spot new.layouts to) (λ t. not (owns_spot old.layouts to t)) (λ t. least_owner_of old.nodes old.layouts t == c.args.from) spot s is-least) c.in_ok-send.ensures
