use Rattle.std.proofs.Common.{◌≡◌, [], map, ap, ◌∙◌}
use Rattle.std.specs.List.{flat_map}
use Rattle.hpf_base.specs.FirstBreach.{least}
use Rattle.syntax_tree.specs.MainProgram.{declaration}
use Rattle.syntax_tree.specs.Statement.{block_of}
use Rattle.expression_rules.specs.Symbols.{is_among}
use Rattle.statement_walk.specs.Heads.{all_heads}
use Rattle.directive_check.specs.MappedObjects.{dynamic_breaches, dynamic_names, dynamic_objects, how_mapped, mapped_objects, mapped_twice}
use Rattle.directive_check.specs.MappedSteps.{dynamic, mapped}
use Rattle.directive_check.specs.MappingRules.{chain_breaches, declared_breaches, redistribute_breaches_at}
use Rattle.directive_check.proofs.MappingBreaches.{chained, earliest_of_five}
use Rattle.directive_check.proofs.SameMapped.{redistributes_same}
use Rattle.directive_check.proofs.mapping_check.first_breach.Goals as goal

pub returns : goal.returns
returns c =
    let ds = map declaration c.args.tree.now.decls.items in
    let ms = mapped_objects ds in
    let s = c.args.setting.now in
    let hs = all_heads (block_of c.args.tree.now.body.items) in
    let names : dynamic c.in_ok-names.names.items ≡ dynamic_names ds = c.in_ok-names.ensures ∙ ap (λ l. dynamic_names (map declaration l)) c.deref-2.ensures.value in
    earliest_of_five (declared_breaches s ds) (mapped_twice [] ms) (chain_breaches s ms) (dynamic_breaches s [] (dynamic_names ds))
    (flat_map (redistribute_breaches_at s ms (dynamic_objects ds)) hs)
    c.in_ok-declared.declared c.in_ok-twice.twice c.in_ok-chained.chained c.in_ok-named.named c.in_ok-moved.moved
    c.earlier.result c.earlier-after.result c.earlier-2.result c.earlier-3.result
    (c.in_ok-declared.ensures ∙ ap (λ l. least (declared_breaches s (map declaration l))) c.deref.ensures.value)
    (c.in_ok-twice.ensures ∙ ap (λ l. least (mapped_twice [] l)) c.requires.objects)
    (chained s ms (mapped c.args.firsts.now) (mapped c.args.objects.now) c.in_ok-chained.chained c.requires.objects c.requires.firsts c.in_ok-chained.ensures)
    (c.in_ok-named.ensures ∙ ap (λ l. least (dynamic_breaches s [] (dynamic l))) c.deref-3.ensures.value ∙ ap (λ l. least (dynamic_breaches s [] l)) names)
    (c.in_ok-moved.ensures
    ∙ ap (λ l. least (flat_map (redistribute_breaches_at s (mapped c.args.firsts.now) c.deref-5.result.now) (all_heads (block_of l)))) c.deref-6.ensures.value
    ∙ ap least (redistributes_same s (mapped c.args.firsts.now) ms c.deref-5.result.now (dynamic_objects ds)
    (λ x. c.requires.firsts x ∙ ap (λ l. how_mapped l x) c.requires.objects)
    (λ x. ap (is_among x) c.deref-5.ensures.value ∙ c.in_ok-dynamic.ensures x ∙ ap (λ l. is_among x (map (λ d. d.name) (dynamic l))) c.deref-4.ensures.value
    ∙ ap (λ l. is_among x (map (λ d. d.name) l)) names) hs))
    c.earlier.ensures c.earlier-after.ensures c.earlier-2.ensures c.earlier-3.ensures
