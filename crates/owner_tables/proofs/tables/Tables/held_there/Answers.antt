use Rattle.std.proofs.Common.{◌≡◌, Some, None, if◌then◌else◌, sym, ◌∙◌, ap, arith, true, false, eq-eqb}
use Rattle.std.proofs.lemmas.Bool.{ne_eqb}
use Rattle.machine_steps.specs.Layout.{count_passing, owned_by}
use Rattle.owner_tables.specs.Alike.{leader}
use Rattle.owner_tables.specs.Numbers.{least_at}
use Rattle.owner_tables.proofs.TableLaws.{seen, seen-by}
use Rattle.owner_tables.proofs.tables.Tables.held_there.Goals as goal

pub overflow_cast-at : goal.overflow_cast-at
overflow_cast-at c =
    let l = seen c.self.inside c.args.self.now c.self.view_is c.self.invariant in omega (arith, l.small, c.requires.at)

pub find_at-found-requires-clause-columns : goal.find_at-found-requires-clause-columns
find_at-found-requires-clause-columns c =
    let l = seen-by c.self.inside c.args.self.now c.self.view_is c.self.invariant c.deref.result.now c.deref.ensures.value in
    (c.args.self.now.nodes, c.requires.node, l.filled c.args.at c.requires.at)

pub find_at-found-requires-clause-parts : goal.find_at-found-requires-clause-parts
find_at-found-requires-clause-parts c =
    let l = seen-by c.self.inside c.args.self.now c.self.view_is c.self.invariant c.deref.result.now c.deref.ensures.value in
    omega (arith, l.least c.args.at c.requires.at, l.below c.args.at c.requires.at, l.few)

pub find_at-found-requires-clause-address : goal.find_at-found-requires-clause-address
find_at-found-requires-clause-address c =
    let l = seen-by c.self.inside c.args.self.now c.self.view_is c.self.invariant c.deref.result.now c.deref.ensures.value in
    omega (arith, l.address-few c.args.node c.args.at c.requires.node c.requires.at, c.requires.at, l.small)

pub overflow_add-self-inside : goal.overflow_add-self-inside
overflow_add-self-inside c =
    let l = seen-by c.self.inside c.args.self.now c.self.view_is c.self.invariant c.deref.result.now c.deref.ensures.value in
    omega (arith, c.find_at-found.ensures.parts, l.least c.args.at c.requires.at, l.below c.args.at c.requires.at, l.few)

pub index-requires : goal.index-requires
index-requires c =
    let l = seen-by c.self.inside c.args.self.now c.self.view_is c.self.invariant c.deref.result.now c.deref.ensures.value in omega (arith, l.leaders, c.requires.node)

pub returns-then-self-found : goal.returns-then-self-found
returns-then-self-found c =
    let l = seen-by c.self.inside c.args.self.now c.self.view_is c.self.invariant c.deref.result.now c.deref.ensures.value in
    let layout = c.args.self.now.layout in
    let node = c.args.node in
    let at = c.args.at in
    let led = c.index.ensures ∙ l.led node c.index.result.now c.requires.node in
    let same : least_at c.args.self.now.nodes layout at ≡ leader layout.mapping c.args.self.now.nodes node =
    omega (arith, c.if-self-found.true, c.find_at-found.ensures.parts, l.least at c.requires.at, led) in
    let owned : owned_by layout node at ≡ true = sym (l.owns node at c.requires.node c.requires.at) ∙ eq-eqb _ _ same in
    ap Some (c.find_at-found.ensures.address ∙ l.address node at c.requires.node c.requires.at owned)
    ∙ sym (ap (λ b. if b then Some (count_passing (owned_by layout node) 0 at) else None) owned)

pub returns-else-self-found : goal.returns-else-self-found
returns-else-self-found c =
    let l = seen-by c.self.inside c.args.self.now c.self.view_is c.self.invariant c.deref.result.now c.deref.ensures.value in
    let layout = c.args.self.now.layout in
    let node = c.args.node in
    let at = c.args.at in
    let led = c.index.ensures ∙ l.led node c.index.result.now c.requires.node in
    let other : least_at c.args.self.now.nodes layout at ≡ leader layout.mapping c.args.self.now.nodes node → ⊥ =
    λ same. c.if-self-found.false (omega (arith, same, c.find_at-found.ensures.parts, l.least at c.requires.at, led)) in
    let owned : owned_by layout node at ≡ false = sym (l.owns node at c.requires.node c.requires.at) ∙ ne_eqb _ _ other in
    sym (ap (λ b. if b then Some (count_passing (owned_by layout node) 0 at) else None) owned)
