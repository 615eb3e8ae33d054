-- The kind of a line in front of which a statement of a kind stands.
use Rattle.std.proofs.Common.{◌≡◌, ℕ, true, false, ◌&&◌, List, [], ◌∷◌, ◌++◌, drop, Some, None, refl, sym, ap, ◌∙◌, subst}
use Rattle.std.specs.Prelude.{codes, bytes_eq, if◌then◌else◌, not}
use Rattle.std.specs.List.{list_all}
use Rattle.std.proofs.lemmas.Slice.Eq.{bytes_eq-Decides}
use Rattle.std.proofs.lemmas.Bool.{and_parts, both_ways, cond-false, false_from_ne_true, not-true}
use Rattle.std.proofs.Math.Bool.{or-false}
use Rattle.op_tables.specs.Words.{is_reserved}
use Rattle.syntax_tree.specs.Lexeme.{Lexeme, Word}
use Rattle.line_forms.specs.declared.depths.Depths.{Depths}
use Rattle.line_forms.specs.Marks.{starts, key}
use Rattle.line_forms.specs.Reading.{Reading}
use Rattle.line_forms.specs.Grammar.{Grammar, Value, Suffixed}
use Rattle.line_forms.specs.Printed.{printed, IsWell, value_kept}
use Rattle.line_forms.specs.DeepFront.{preceded, deep_front}
use Rattle.line_forms.specs.Ll1.{is_ll1, first_set, Finish, Exactly, AnyName, Operand, Begins}
use Rattle.line_forms.proofs.Sound.{starts_split}
use Rattle.line_forms.proofs.Standing.{StandsAs, after_prefix, unmapped}
use Rattle.line_forms.proofs.Starting.{starting}
use Rattle.statement_reader.specs.declared.kind.Kind.{Kind}
use Rattle.statement_reader.specs.declared.kind.Kind.TheVariants as kind
use Rattle.statement_reader.specs.FirstWords.{kind_in, statement_kind, end_words, else_words, unit_words, construct_words, action_words}
use Rattle.statement_reader.specs.Forms.{grammar, assignment, condition, is_action}

-- a grammar of a kind is read without looking back
pub ll1_grammar : (k : Kind) → is_ll1 (grammar k) (Finish ∷ []) ≡ true
ll1_grammar (kind.ElseIf true) = refl
ll1_grammar (kind.ElseIf false) = refl
ll1_grammar (kind.EndIf true) = refl
ll1_grammar (kind.EndIf false) = refl
ll1_grammar (kind.EndDo true) = refl
ll1_grammar (kind.EndDo false) = refl
ll1_grammar (kind.ElseWhere true) = refl
ll1_grammar (kind.ElseWhere false) = refl
ll1_grammar (kind.EndWhere true) = refl
ll1_grammar (kind.EndWhere false) = refl
ll1_grammar (kind.EndForall true) = refl
ll1_grammar (kind.EndForall false) = refl
ll1_grammar k = refl

-- a keyword isn't a name
pub other_word : (w x : List ℕ) → is_reserved w ≡ true → is_reserved x ≡ false → bytes_eq w x ≡ false
other_word w x hw hx =
    false_from_ne_true (bytes_eq w x) (λ h. both_ways (is_reserved x) hx (ap is_reserved (sym ((bytes_eq-Decides w x).0 h)) ∙ hw))

no_key : (w x : List ℕ) (ts : List Lexeme) → is_reserved w ≡ true → is_reserved x ≡ false → starts (key w) (Word x ∷ ts) ≡ false
no_key w x ts hw hx = ap (λ b. b && true) (other_word w x hw hx)

outside : (table : List (List ℕ × Kind)) (k : Kind) (x : List ℕ) (ts : List Lexeme) → list_all (λ row. is_reserved row.0) table ≡ true
    → is_reserved x ≡ false → kind_in table k (Word x ∷ ts) ≡ k
outside [] k x ts h hx = refl
outside (row ∷ table) k x ts h hx =
    let b = and_parts (is_reserved row.0) (list_all (λ row. is_reserved row.0) table) h in
    ap (λ b. if b then row.1 else kind_in table k (Word x ∷ ts)) (no_key row.0 x ts b.0 hx) ∙ outside table k x ts b.1 hx

-- a line that begins with a name is taken for an assignment
pub kind_of_name : (x : List ℕ) (ts : List Lexeme) → is_reserved x ≡ false → statement_kind (Word x ∷ ts) ≡ kind.Assign
kind_of_name x ts hx =
    let all : List Lexeme = Word x ∷ ts in
    let of_action : Kind = kind_in action_words kind.Assign all in
    let of_construct : Kind = kind_in construct_words of_action all in
    let of_unit : Kind = kind_in unit_words of_construct all in
    let of_else : Kind = kind_in else_words kind.Else ts in
    cond-false (starts (key (codes "END")) all) (kind_in end_words kind.End ts) (if starts (key (codes "ELSE")) all then of_else else of_unit) (no_key (codes "END") x ts refl hx)
    ∙ cond-false (starts (key (codes "ELSE")) all) of_else of_unit (no_key (codes "ELSE") x ts refl hx)
    ∙ outside unit_words of_construct x ts refl hx
    ∙ outside construct_words of_action x ts refl hx
    ∙ outside action_words kind.Assign x ts refl hx

-- nothing is left
abbrev pub Ends : List Lexeme → Type 0
Ends us = us ≡ []

pub ends_begin : (us : List Lexeme) → Ends us → Begins (Finish ∷ []) us
ends_begin us e = subst (Begins (Finish ∷ [])) (sym e) refl

-- a name stands in front
pub record Named (ts : List Lexeme) : Type 0 where
  pub name : List ℕ
  pub rest : List Lexeme
  pub free : is_reserved name ≡ false
  pub parts : ts ≡ Word name ∷ rest

named : (ts : List Lexeme) → Begins (AnyName ∷ []) ts → Named ts
named (Word x ∷ ts) b = record { name = x; rest = ts; free = not-true (is_reserved x) (sym (or-false (not (is_reserved x))) ∙ b); parts = refl }
named ts b = absurd cc

module _ (depths : Depths) {A : Type 0} (z : A) where
  -- lexemes in front of which a well-formed part stands, and nothing after it
  abbrev pub Stands : (g : Grammar) → Value g → List Lexeme → Reading A → Type 0
  Stands g v ts r = StandsAs (deep_front depths g v) (printed g v) z Ends ts r

  assigned : (v : Value assignment) → IsWell assignment v → (ts : List Lexeme) (r : Reading A) → Stands assignment v ts r → Named ts
  assigned v w ts r s =
      let u = unmapped (deep_front depths assignment v) (printed assignment v) (value_kept assignment v) (λ x. z) Ends (Begins (Finish ∷ [])) ts r ends_begin s in
      named ts (starting depths assignment (Finish ∷ []) refl v w ts u.0 u.1)

  after_key : (ks : List Lexeme) (g : Grammar) (v : Value g) (ts : List Lexeme) (r : Reading A)
      → StandsAs (preceded ks (deep_front depths g v)) (ks ++ printed g v) z Ends ts r → (us : List Lexeme) × (ts ≡ ks ++ us) × Stands g v us r
  after_key ks g v ts r s = after_prefix ks (deep_front depths g v) (printed g v) z Ends ts r s

  -- a keyword stands in front
  keyed : (k : Kind) (word : List ℕ) (v : Value (grammar k)) → first_set (grammar k) (Finish ∷ []) ≡ Exactly (key word) ∷ [] → IsWell (grammar k) v
      → (ts : List Lexeme) (r : Reading A) → Stands (grammar k) v ts r → ts ≡ key word ++ drop 1 ts
  keyed k word v h w ts r s =
      let u = unmapped (deep_front depths (grammar k) v) (printed (grammar k) v) (value_kept (grammar k) v) (λ x. z) Ends (Begins (Finish ∷ [])) ts r ends_begin s in
      starts_split (key word) ts (sym (or-false (starts (key word) ts)) ∙ (subst (λ fs. Begins fs ts) h (starting depths (grammar k) (Finish ∷ []) (ll1_grammar k) v w ts u.0 u.1)))

  -- a line of words alone
  alone : (k : Kind) (v : Value (grammar k)) → deep_front depths (grammar k) v ≡ None → statement_kind (printed (grammar k) v ++ []) ≡ k
      → (ts : List Lexeme) (r : Reading A) → Stands (grammar k) v ts r → statement_kind ts ≡ k
  alone k v none h ts r s =
      let t = subst (λ o. StandsAs o (printed (grammar k) v) z Ends ts r) none s in
      ap statement_kind (t.2 ∙ ap (λ l. printed (grammar k) v ++ l) t.1) ∙ h

  -- the grammar of a kind stands in front of lines of that kind
  pub kind_stands : (k : Kind) (v : Value (grammar k)) → IsWell (grammar k) v → (ts : List Lexeme) (r : Reading A) → Stands (grammar k) v ts r → statement_kind ts ≡ k
  kind_stands kind.Assign v w ts r s = let n = assigned v w ts r s in ap statement_kind n.parts ∙ kind_of_name n.name n.rest n.free
  kind_stands kind.End None w ts r s = alone kind.End None refl refl ts r s
  kind_stands kind.End (Some None) w ts r s = alone kind.End (Some None) refl refl ts r s
  kind_stands kind.End (Some (Some x)) w ts r s = alone kind.End (Some (Some x)) refl refl ts r s
  kind_stands kind.Program v w ts r s = ap statement_kind (keyed kind.Program (codes "PROGRAM") v refl w ts r s)
  kind_stands kind.ImplicitNone v w ts r s = alone kind.ImplicitNone v refl refl ts r s
  kind_stands kind.Integer v w ts r s = ap statement_kind (keyed kind.Integer (codes "INTEGER") v refl w ts r s)
  kind_stands kind.Parameter v w ts r s = ap statement_kind (keyed kind.Parameter (codes "PARAMETER") v refl w ts r s)
  kind_stands kind.IfThen v w ts r s = ap statement_kind (keyed kind.IfThen (codes "IF") v refl w ts r s)
  kind_stands (kind.ElseIf true) v w ts r s = ap statement_kind (keyed (kind.ElseIf true) (codes "ELSEIF") v refl w ts r s)
  kind_stands (kind.ElseIf false) v w ts r s =
      let inner = Suffixed condition (key (codes "THEN")) in
      let p = after_prefix (key (codes "ELSE")) (preceded (key (codes "IF")) (deep_front depths inner v)) (key (codes "IF") ++ printed inner v) z Ends ts r s in
      let q = after_key (key (codes "IF")) inner v p.0 r p.2 in
      ap statement_kind (p.1 ∙ ap (λ l. key (codes "ELSE") ++ l) q.1)
  kind_stands kind.Else v w ts r s = alone kind.Else v refl refl ts r s
  kind_stands (kind.EndIf true) v w ts r s = alone (kind.EndIf true) v refl refl ts r s
  kind_stands (kind.EndIf false) v w ts r s = alone (kind.EndIf false) v refl refl ts r s
  kind_stands kind.Do v w ts r s = ap statement_kind (keyed kind.Do (codes "DO") v refl w ts r s)
  kind_stands (kind.EndDo true) v w ts r s = alone (kind.EndDo true) v refl refl ts r s
  kind_stands (kind.EndDo false) v w ts r s = alone (kind.EndDo false) v refl refl ts r s
  kind_stands kind.Where v w ts r s = ap statement_kind (keyed kind.Where (codes "WHERE") v refl w ts r s)
  kind_stands (kind.ElseWhere true) v w ts r s = alone (kind.ElseWhere true) v refl refl ts r s
  kind_stands (kind.ElseWhere false) v w ts r s = alone (kind.ElseWhere false) v refl refl ts r s
  kind_stands (kind.EndWhere true) v w ts r s = alone (kind.EndWhere true) v refl refl ts r s
  kind_stands (kind.EndWhere false) v w ts r s = alone (kind.EndWhere false) v refl refl ts r s
  kind_stands kind.Forall v w ts r s = ap statement_kind (keyed kind.Forall (codes "FORALL") v refl w ts r s)
  kind_stands (kind.EndForall true) v w ts r s = alone (kind.EndForall true) v refl refl ts r s
  kind_stands (kind.EndForall false) v w ts r s = alone (kind.EndForall false) v refl refl ts r s
  kind_stands kind.Print v w ts r s = ap statement_kind (keyed kind.Print (codes "PRINT") v refl w ts r s)
  kind_stands kind.Stop v w ts r s = alone kind.Stop v refl refl ts r s
  kind_stands kind.Exit v w ts r s = alone kind.Exit v refl refl ts r s
  kind_stands kind.Cycle v w ts r s = alone kind.Cycle v refl refl ts r s
  kind_stands kind.Continue v w ts r s = alone kind.Continue v refl refl ts r s

  -- an action begins with a word that isn't THEN
  pub record Worded (ts : List Lexeme) : Type 0 where
    pub word : List ℕ
    pub rest : List Lexeme
    pub parts : ts ≡ Word word ∷ rest
    pub other : bytes_eq (codes "THEN") word ≡ false

  pub worded : (k : Kind) (v : Value (grammar k)) → is_action k v ≡ true → IsWell (grammar k) v → (ts : List Lexeme) (r : Reading A) → Stands (grammar k) v ts r → Worded ts
  worded kind.Assign v a w ts r s = let n = assigned v w ts r s in record { word = n.name; rest = n.rest; parts = n.parts; other = other_word (codes "THEN") n.name refl n.free }
  worded kind.Where v a w ts r s = record { word = codes "WHERE"; rest = drop 1 ts; parts = keyed kind.Where (codes "WHERE") v refl w ts r s; other = refl }
  worded kind.Forall v a w ts r s = record { word = codes "FORALL"; rest = drop 1 ts; parts = keyed kind.Forall (codes "FORALL") v refl w ts r s; other = refl }
  worded kind.Print v a w ts r s = record { word = codes "PRINT"; rest = drop 1 ts; parts = keyed kind.Print (codes "PRINT") v refl w ts r s; other = refl }
  worded kind.Stop v a w ts r s = record { word = codes "STOP"; rest = drop 1 ts; parts = keyed kind.Stop (codes "STOP") v refl w ts r s; other = refl }
  worded kind.Exit v a w ts r s = record { word = codes "EXIT"; rest = drop 1 ts; parts = keyed kind.Exit (codes "EXIT") v refl w ts r s; other = refl }
  worded kind.Cycle v a w ts r s = record { word = codes "CYCLE"; rest = drop 1 ts; parts = keyed kind.Cycle (codes "CYCLE") v refl w ts r s; other = refl }
  worded kind.Continue v a w ts r s = record { word = codes "CONTINUE"; rest = drop 1 ts; parts = keyed kind.Continue (codes "CONTINUE") v refl w ts r s; other = refl }
  worded k v a w ts r s = absurd cc

  pub begins_operand : (ts : List Lexeme) → Worded ts → Begins (Operand ∷ []) ts
  begins_operand ts w = subst (Begins (Operand ∷ [])) (sym w.parts) refl

  pub no_then : (ts : List Lexeme) → Worded ts → starts (key (codes "THEN")) ts ≡ false
  no_then ts w = ap (starts (key (codes "THEN"))) w.parts ∙ ap (λ b. b && true) w.other
