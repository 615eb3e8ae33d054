-- The new mapping of each array that a REDISTRIBUTE moves is known, where no rule is broken.
use Rattle.std.proofs.Common.{◌≡◌, ◌+◌, ℕ, suc, Bool, true, false, bytes_eq, List, [], ◌∷◌, ◌++◌, Some, refl, sym, ap, subst, ◌∙◌, arith}
use Rattle.std.specs.Prelude.{◌||◌, slice_get, unwrap_or, if◌then◌else◌}
use Rattle.std.specs.List.{AllByRecursion, flat_map, list_any}
use Rattle.std.proofs.lemmas.Slice.Eq.{bytes_eq-Decides}
use Rattle.hpf_base.specs.declared.refusal.Reason.TheVariants as reason
use Rattle.mappings.specs.declared.mapping.Mapping.{Mapping}
use Rattle.array_maps.specs.declared.maps.NewMap.{NewMap}
use Rattle.array_maps.specs.declared.maps.Redistribution.{Redistribution}
use Rattle.syntax_tree.specs.Directive as directive
use Rattle.expression_rules.specs.Inner.{format_expressions}
use Rattle.expression_rules.specs.Symbols.{Name, is_among}
use Rattle.expression_rules.specs.declared.types.Context.TheVariants.{Directive}
use Rattle.statement_walk.specs.Head.{Head}
use Rattle.statement_walk.specs.Head as head
use Rattle.statement_walk.specs.Heads.{PlacedHead}
use Rattle.name_table.specs.Places.{all_meet, context_of, places}
use Rattle.name_table.specs.RankRules.{rank_breaches_at}
use Rattle.distribution_rules.specs.declared.objects.Object.{Object}
use Rattle.distribution_rules.specs.DistributionRules.{distribute_reasons, distribution_reasons, distribution_values, distributee_reasons}
use Rattle.distribution_rules.specs.Setting.{Setting, object}
use Rattle.directive_check.specs.MappedObjects.{MappedObject}
use Rattle.directive_check.specs.Chains.{root_of}
use Rattle.directive_check.specs.MappingRules.{head_reasons, redistribute_breaches_at, redistributee_reasons}
use Rattle.directive_check.specs.ProgramMaps.{distributed_as, moves_of, new_map, new_maps_from, replicated, with_root}
use Rattle.known_mappings.specs.StartMappings.{IsGiven}
use Rattle.known_mappings.specs.NewMappings.{AreMovesOf, IsNewMapOf, LiesAfter, Redistributed, WithRoot, redistribution_of, redistributions_of}
use Rattle.name_table.proofs.Tests.{all_append, empties, fails, holds, no_reason, no_value}
use Rattle.known_mappings.proofs.Distributions.{IsGivenBy, distribution_given}
use Rattle.known_mappings.proofs.Objects.{IsTyped}
use Rattle.known_mappings.proofs.Programs.{scalars_typed}
use Rattle.known_mappings.proofs.Starts.{Free, IsFine, IsWithRoot, Through, aligned_whole, with_root_known}

-- a REDISTRIBUTE that breaks no rule
record IsGoodMove (s : Setting) (d : directive.Distribution) : Type 0 where
  reasons : distribution_reasons (distribution_values s d) ≡ []
  own : flat_map (λ x. distributee_reasons (distribution_values s d) (object s x)) d.names ≡ []
  types : AllByRecursion (IsTyped s.names) (flat_map format_expressions d.formats)

-- an object of its list breaks none
listed : (s : Setting) (d : directive.Distribution) (xs : List Name) (y : Name) → flat_map (λ x. distributee_reasons (distribution_values s d) (object s x)) xs ≡ [] →
    is_among y xs ≡ true → distributee_reasons (distribution_values s d) (object s y) ≡ []
listed s d [] y none among = absurd (no_value among)
listed s d (x ∷ xs) y none among = by (bytes_eq y x) refl (listed s d xs y each.1) among
  where
    each : (distributee_reasons (distribution_values s d) (object s x) ≡ []) × (flat_map (λ x. distributee_reasons (distribution_values s d) (object s x)) xs ≡ [])
    each = empties (distributee_reasons (distribution_values s d) (object s x)) _ none

    by : (b : Bool) → bytes_eq y x ≡ b → (is_among y xs ≡ true → distributee_reasons (distribution_values s d) (object s y) ≡ []) → (b || list_any (bytes_eq y) xs) ≡ true →
        distributee_reasons (distribution_values s d) (object s y) ≡ []
    by true same others more = subst (λ z. distributee_reasons (distribution_values s d) (object s z) ≡ []) (sym ((bytes_eq-Decides y x).0 same)) each.0
    by false same others more = others more

-- a list goes on as another one
abbrev GoesOn : {X : Type 0} → List X → ℕ → List X → Type 0
GoesOn xs n ys = (j : ℕ) → slice_get xs (n + j) ≡ slice_get ys j

here : {X : Type 0} (xs : List X) (n : ℕ) (y : X) (ys : List X) → GoesOn xs n (y ∷ ys) → slice_get xs n ≡ Some y
here xs n y ys on = let none : n ≡ n + 0 = omega arith in ap (slice_get xs) none ∙ on 0

next : {X : Type 0} (xs : List X) (n : ℕ) (y : X) (ys : List X) → GoesOn xs n (y ∷ ys) → GoesOn xs (suc n) ys
next xs n y ys on j = let same_place : suc n + j ≡ n + suc j = omega arith in ap (slice_get xs) same_place ∙ on (suc j)

from_start : {X : Type 0} (xs : List X) → GoesOn xs 0 xs
from_start xs j = let same_place : 0 + j ≡ j = omega arith in ap (slice_get xs) same_place

module _ (s : Setting) (ms : List MappedObject) (fine : IsFine s ms) where
  -- an array that moves
  moved_lies : (d : directive.Distribution) → IsGoodMove s d → (x : Name) → is_among (root_of s ms x) d.names ≡ true →
      LiesAfter s ms d x (unwrap_or (with_root s ms x (distributed_as s d (root_of s ms x))) (replicated s.grid))
  moved_lies d good x among =
      subst (LiesAfter s ms d x) (sym (ap (λ o. unwrap_or o (replicated s.grid)) whole.1.0)) (by root.0 whole.0 root.1 whole.1.1)
    where
      root : (r : Mapping) × IsGivenBy s d (root_of s ms x) r
      root = distribution_given s fine.known fine.grid fine.right s.names d (root_of s ms x) good.types good.reasons (listed s d d.names (root_of s ms x) good.own among)

      whole : (m : Mapping) × ((with_root s ms x (distributed_as s d (root_of s ms x)) ≡ Some m) × IsWithRoot s ms fine x root.0 m)
      whole = with_root_known s ms fine x (distributed_as s d (root_of s ms x)) root.0 root.1.0

      given : (y : Name) (r : Mapping) → IsGivenBy s d y r → IsGiven s d y r
      given y r is = record { known = is.0; entries = is.1 }

      by : (r m : Mapping) → IsGivenBy s d (root_of s ms x) r → IsWithRoot s ms fine x r m → LiesAfter s ms d x m
      by r m is (Free free itself same) =
          Redistributed free (subst (λ z. is_among z d.names ≡ true) itself among) (subst (IsGiven s d x) same (subst (λ z. IsGiven s d z r) itself (given (root_of s ms x) r is)))
      by r m is (Through es aligned known same) = WithRoot es r aligned among known (aligned_whole s ms fine x es aligned known) (given (root_of s ms x) r is) same

  -- all that move
  news_lie : (d : directive.Distribution) → IsGoodMove s d → (all : List Object) (n : ℕ) (os : List Object) → GoesOn all n os →
      AllByRecursion (IsNewMapOf s ms all d) (new_maps_from s ms d n os)
  news_lie d good all n [] on = tt
  news_lie d good all n (o ∷ os) on =
      all_append (IsNewMapOf s ms all d) (new_map s ms d n o.name) (new_maps_from s ms d (suc n) os) (by (is_among (root_of s ms o.name) d.names) refl)
      (news_lie d good all (suc n) os (next all n o os on))
    where
      to : NewMap
      to = record { array = record { 0 = n }; map = unwrap_or (with_root s ms o.name (distributed_as s d (root_of s ms o.name))) (replicated s.grid) }

      by : (b : Bool) → is_among (root_of s ms o.name) d.names ≡ b → AllByRecursion (IsNewMapOf s ms all d) (if b then to ∷ [] else [])
      by true among = (record { array = o; is = here all n o os on; lies = moved_lies d good o.name among }, tt)
      by false among = tt

  good_move : (dynamic : List Name) (d : directive.Distribution) → head_reasons s ms dynamic (head.Redistribute d) ≡ [] →
      all_meet Directive s.names (places (head.Redistribute d)) ≡ true → IsGoodMove s d
  good_move dynamic d none typed =
      let two = empties (distribute_reasons s d) (flat_map (redistributee_reasons ms dynamic) d.names) none in
      let one = empties (distribution_reasons (distribution_values s d)) _ two.0 in
      record { reasons = one.0; own = one.1; types = scalars_typed s.names (flat_map format_expressions d.formats) typed }

  head_lies : (dynamic : List Name) (os : List Object) (line : ℕ) (h : Head) (ds : List (ℕ × directive.Distribution)) (moves : List Redistribution) → head_reasons s ms dynamic h ≡ [] →
      all_meet (context_of h) s.names (places h) ≡ true → AreMovesOf s ms os ds moves →
      AreMovesOf s ms os (redistribution_of line h ++ ds) (moves_of s ms os line h ++ moves)
  head_lies dynamic os line (head.Redistribute d) ds moves none typed rest = (refl, news_lie d (good_move dynamic d none typed) os 0 os (from_start os), rest)
  head_lies dynamic os line (head.Assignment left right) ds moves none typed rest = rest
  head_lies dynamic os line (head.MaskedAssignment mask left right) ds moves none typed rest = rest
  head_lies dynamic os line (head.ForallAssignment axes left right) ds moves none typed rest = rest
  head_lies dynamic os line (head.Condition c) ds moves none typed rest = rest
  head_lies dynamic os line (head.Independent m) ds moves none typed rest = rest
  head_lies dynamic os line (head.Do m axis) ds moves none typed rest = rest
  head_lies dynamic os line (head.Where mask) ds moves none typed rest = rest
  head_lies dynamic os line (head.Forall axes mask) ds moves none typed rest = rest
  head_lies dynamic os line (head.Print items) ds moves none typed rest = rest
  head_lies dynamic os line head.Transfer ds moves none typed rest = rest

  -- of all REDISTRIBUTEs
  pub moves_lie : (dynamic : List Name) (os : List Object) (hs : List PlacedHead) → flat_map (redistribute_breaches_at s ms dynamic) hs ≡ [] →
      flat_map (rank_breaches_at s.names) hs ≡ [] → AreMovesOf s ms os (redistributions_of hs) (flat_map (λ h. moves_of s ms os h.line h.what) hs)
  moves_lie dynamic os [] none ranks = tt
  moves_lie dynamic os (h ∷ hs) none ranks =
      let two = empties (redistribute_breaches_at s ms dynamic h) _ none in
      let one = empties (rank_breaches_at s.names h) _ ranks in
      head_lies dynamic os h.line h.what (redistributions_of hs) _ (no_reason h.line _ two.0)
      (holds (all_meet (context_of h.what) s.names (places h.what)) (fails _ reason.BadRank (no_reason h.line _ one.0))) (moves_lie dynamic os hs two.1 one.1)
