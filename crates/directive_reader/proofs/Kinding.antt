-- The kind of a line in front of which a directive of a kind stands.
use Rattle.std.proofs.Common.{◌≡◌, ℕ, Bool, true, false, ◌&&◌, List, [], ◌∷◌, ◌++◌, Some, None, refl, sym, ap, ◌∙◌, subst}
use Rattle.std.specs.Prelude.{bytes_eq, codes, not}
use Rattle.std.proofs.Math.Bool.{and-false, or-false}
use Rattle.syntax_tree.specs.Lexeme.{Lexeme, Word}
use Rattle.line_forms.specs.declared.depths.Depths.{Depths}
use Rattle.line_forms.specs.Marks.{starts, key, attribute_key, opening, closing, colons}
use Rattle.line_forms.specs.Reading.{Reading}
use Rattle.line_forms.specs.Grammar.{Grammar, Value, Nothing, Identifier, Prefixed, Suffixed, Sequence, Optional, CommaList}
use Rattle.line_forms.specs.Parts.{enclosed, optional_enclosed}
use Rattle.line_forms.specs.Printed.{printed, IsWell, value_kept}
use Rattle.line_forms.specs.DeepFront.{preceded, deep_front}
use Rattle.line_forms.specs.Ll1.{is_ll1, first_set, Finish, Exactly, AnyName, Begins}
use Rattle.line_forms.proofs.Begins.{disjoint_starts}
use Rattle.line_forms.proofs.Standing.{StandsAs, after_prefix, then_begins, unmapped}
use Rattle.line_forms.proofs.Starting.{starting}
use Rattle.directive_reader.specs.declared.kind.Kind.{Kind}
use Rattle.directive_reader.specs.declared.kind.Kind.TheVariants as kind
use Rattle.directive_reader.specs.Forms.{alignment, aligned_with, arrangement, distribution, listed, grammar, is_passed, source, target}
use Rattle.directive_reader.specs.Reading.{directive_kind, is_alignee, is_many, is_named}

-- nothing is left
abbrev pub Ends : List Lexeme → Type 0
Ends us = us ≡ []

pub ends_begin : (us : List Lexeme) → Ends us → Begins (Finish ∷ []) us
ends_begin us e = subst (Begins (Finish ∷ [])) (sym e) refl

-- a name, and what isn't one
named : (ts : List Lexeme) → Begins (AnyName ∷ []) ts → is_named ts ≡ true
named (Word x ∷ ts) b = refl
named ts b = absurd cc

unnamed : (ts : List Lexeme) → Begins (Exactly opening ∷ Exactly colons ∷ []) ts → is_named ts ≡ false
unnamed [] b = absurd cc
unnamed (Word x ∷ ts) b = absurd cc
unnamed (t ∷ ts) b = refl

module _ (depths : Depths) {A : Type 0} (z : A) where
  -- lexemes in front of which a well-formed part stands, and nothing after it
  abbrev pub Stands : (g : Grammar) → Value g → List Lexeme → Reading A → Type 0
  Stands g v ts r = StandsAs (deep_front depths g v) (printed g v) z Ends ts r

  begins_so : (g : Grammar) (v : Value g) → is_ll1 g (Finish ∷ []) ≡ true → IsWell g v → (ts : List Lexeme) (r : Reading A) → Stands g v ts r
      → Begins (first_set g (Finish ∷ [])) ts
  begins_so g v l w ts r s =
      let u = unmapped (deep_front depths g v) (printed g v) (value_kept g v) (λ x. z) Ends (Begins (Finish ∷ [])) ts r ends_begin s in
      starting depths g (Finish ∷ []) l v w ts u.0 u.1

  after_key : (ks : List Lexeme) (g : Grammar) (v : Value g) (ts : List Lexeme) (r : Reading A)
      → StandsAs (preceded ks (deep_front depths g v)) (ks ++ printed g v) z Ends ts r → (us : List Lexeme) × (ts ≡ ks ++ us) × Stands g v us r
  after_key ks g v ts r s = after_prefix ks (deep_front depths g v) (printed g v) z Ends ts r s

  -- where the names stand in a DISTRIBUTE
  distributed : (many : Bool) (v : Value (distribution many)) → IsWell (distribution many) v → (us : List Lexeme) (r : Reading A)
      → Stands (distribution many) v us r → starts opening us ≡ many
  distributed false v w us r s = disjoint_starts opening (AnyName ∷ []) us refl (begins_so (distribution false) v refl w us r s)
  distributed true v w us r s = sym (or-false (starts opening us)) ∙ begins_so (distribution true) v refl w us r s

  -- after `name` in an ALIGN stands its list, or WITH and a name
  abbrev one_target : Grammar
  one_target = Sequence Identifier (Sequence (optional_enclosed target) Nothing)

  alignee : (v : Value (Sequence (optional_enclosed source) (aligned_with Nothing)))
      → IsWell (Sequence (optional_enclosed source) (aligned_with Nothing)) v → (us : List Lexeme) (r : Reading A)
      → Stands (Sequence (optional_enclosed source) (aligned_with Nothing)) v us r → is_alignee us ≡ true
  alignee (None, v) w us r s =
      then_begins {Q = is_alignee us ≡ true} None [] z (λ l. is_alignee l ≡ true) (deep_front depths (aligned_with Nothing) v)
      (printed (aligned_with Nothing) v) z Ends us r s (λ r' q. ap is_alignee q.2 ∙ q.1)
      (λ l q. let p = after_key (key (codes "WITH")) one_target v l r q in ap is_alignee p.1 ∙ named p.0 (begins_so one_target v refl w.1 p.0 r p.2))
  alignee (Some list, v) w us r s =
      let inner : Grammar = Suffixed (CommaList source) closing in
      then_begins {Q = is_alignee us ≡ true} (deep_front depths (optional_enclosed source) (Some list))
      (printed (optional_enclosed source) (Some list)) z (λ l. Unit {0}) (deep_front depths (aligned_with Nothing) v)
      (printed (aligned_with Nothing) v) z Ends us r s
      (λ r' q. let p = after_prefix opening (deep_front depths inner list) (printed inner list) z (λ l. Unit {0}) us r' q in ap is_alignee p.1) (λ l q. tt)

  -- after WITH stands a name, and no name after that
  abbrev many_targets : Grammar
  many_targets = Sequence (optional_enclosed target) (Prefixed colons (CommaList Identifier))

  with_target : (v : Value (Sequence Identifier many_targets)) → IsWell (Sequence Identifier many_targets) v → (us : List Lexeme) (r : Reading A)
      → Stands (Sequence Identifier many_targets) v us r → is_alignee us ≡ false
  with_target v w us r s =
      then_begins {Q = is_alignee us ≡ false} None (Word v.0 ∷ []) z (λ l. is_named l ≡ false) (deep_front depths many_targets v.1) (printed many_targets v.1) z Ends us r s
      (λ r' q. ap is_alignee q.2 ∙ ap (λ b. (bytes_eq (codes "WITH") v.0 && true) && b) q.1 ∙ and-false (bytes_eq (codes "WITH") v.0 && true))
      (λ l q. unnamed l (begins_so many_targets v.1 refl w.1 l r q))

  -- where the alignees stand in an ALIGN
  aligned : (many : Bool) (v : Value (alignment many)) → IsWell (alignment many) v → (us : List Lexeme) (r : Reading A) → Stands (alignment many) v us r → is_many us ≡ many
  aligned false v w us r s =
      let h : Grammar = Sequence (optional_enclosed source) (aligned_with Nothing) in
      then_begins {Q = is_many us ≡ false} None (Word v.0 ∷ []) z (λ l. is_alignee l ≡ true) (deep_front depths h v.1) (printed h v.1) z Ends us r s
      (λ r' q. ap is_many q.2 ∙ ap (λ b. (bytes_eq (codes "WITH") v.0 && true) && not b) q.1 ∙ and-false (bytes_eq (codes "WITH") v.0 && true))
      (λ l q. alignee v.1 w.1 l r q)
  aligned true (None, v) w us r s =
      let g : Grammar = aligned_with (Prefixed colons (CommaList Identifier)) in
      then_begins {Q = is_many us ≡ true} None [] z (λ l. is_many l ≡ true) (deep_front depths g v) (printed g v) z Ends us r s (λ r' q. ap is_many q.2 ∙ q.1)
      (λ l q. let p = after_key (key (codes "WITH")) (Sequence Identifier many_targets) v l r q in ap is_many p.1 ∙ ap not (with_target v w.1 p.0 r p.2))
  aligned true (Some list, v) w us r s =
      let g : Grammar = aligned_with (Prefixed colons (CommaList Identifier)) in
      let inner : Grammar = Suffixed (CommaList source) closing in
      then_begins {Q = is_many us ≡ true} (deep_front depths (optional_enclosed source) (Some list)) (printed (optional_enclosed source) (Some list))
      z (λ l. Unit {0}) (deep_front depths g v) (printed g v) z Ends us r s
      (λ r' q. let p = after_prefix opening (deep_front depths inner list) (printed inner list) z (λ l. Unit {0}) us r' q in ap is_many p.1) (λ l q. tt)

  -- the grammar of a kind stands in front of lines of that kind, which aren't passed over
  abbrev pub IsOf : Kind → List Lexeme → Type 0
  IsOf k ts = (directive_kind ts ≡ Some k) × (is_passed ts ≡ false)

  keyed : (k : Kind) (word : List ℕ) (g : Grammar) (v : Value g) (ts : List Lexeme) (r : Reading A)
      → StandsAs (preceded (key word) (deep_front depths g v)) (key word ++ printed g v) z Ends ts r
      → ((us : List Lexeme) → Stands g v us r → IsOf k (key word ++ us)) → IsOf k ts
  keyed k word g v ts r s h = let p = after_key (key word) g v ts r s in subst (IsOf k) (sym p.1) (h p.0 p.2)

  abbrev lists : Grammar
  lists = Sequence (Optional (attribute_key (codes "NEW")) (enclosed Identifier)) (Optional (attribute_key (codes "REDUCTION")) (enclosed Identifier))

  pub kind_stands : (k : Kind) (v : Value (grammar k)) → IsWell (grammar k) v → (ts : List Lexeme) (r : Reading A) → Stands (grammar k) v ts r → IsOf k ts
  kind_stands kind.Processors v w ts r s = keyed kind.Processors (codes "PROCESSORS") (listed arrangement) v ts r s (λ us q. (refl, refl))
  kind_stands kind.Template v w ts r s = keyed kind.Template (codes "TEMPLATE") (listed arrangement) v ts r s (λ us q. (refl, refl))
  kind_stands kind.Dynamic v w ts r s = keyed kind.Dynamic (codes "DYNAMIC") (listed Identifier) v ts r s (λ us q. (refl, refl))
  kind_stands (kind.Distribute many) v w ts r s =
      keyed (kind.Distribute many) (codes "DISTRIBUTE") (distribution many) v ts r s (λ us q. (ap (λ b. Some (kind.Distribute b)) (distributed many v w us r q), refl))
  kind_stands (kind.Redistribute many) v w ts r s =
      keyed (kind.Redistribute many) (codes "REDISTRIBUTE") (distribution many) v ts r s (λ us q. (ap (λ b. Some (kind.Redistribute b)) (distributed many v w us r q), refl))
  kind_stands (kind.Align many) v w ts r s =
      keyed (kind.Align many) (codes "ALIGN") (alignment many) v ts r s (λ us q. (ap (λ b. Some (kind.Align b)) (aligned many v w us r q), refl))
  kind_stands kind.Independent v w ts r s = keyed kind.Independent (codes "INDEPENDENT") lists v ts r s (λ us q. (refl, refl))
