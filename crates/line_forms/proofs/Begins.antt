-- How lexemes begin, and what that excludes.
use Rattle.std.proofs.Common.{◌≡◌, ℕ, ◌&&◌, Bool, true, false, List, [], ◌∷◌, ◌++◌, drop, Option, Some, None, ⊎_elim, refl, sym, ap, ◌∙◌, subst, append_assoc}
use Rattle.std.specs.Prelude.{not, is_none, is_some}
use Rattle.std.specs.List.{list_all}
use Rattle.std.proofs.lemmas.Slice.Eq.{bytes_eq-Decides}
use Rattle.std.proofs.lemmas.Bool.{and_parts, and_right, not-true, or_cases, or_left, or_right}
use denote.Enum.Bare.{true_same}
use Rattle.op_tables.specs.declared.op.Op.{Op}
use Rattle.syntax_tree.specs.declared.sign.Sign.TheVariants as sign
use Rattle.syntax_tree.specs.contracts.sign.Sign.{the_type}
use Rattle.syntax_tree.specs.Lexeme.{Lexeme, Word, Integer, Text, Fixed, sign_of}
use Rattle.syntax_tree.specs.Operators.{binary_of, unary_of, operator_lexeme}
use Rattle.syntax_tree.specs.Expression.{Expression, Number, Truth, Name, Element, Call, Unary, Binary, Closed}
use Rattle.syntax_tree.specs.Spelling.{spelling, IsFormed}
use Rattle.expr_reader.specs.Reading.{◌>>=◌, apart as apart_of, expr_at, is_open, is_colon, is_colons, reading}
use Rattle.expr_reader.specs.Front.{Ends, front}
use Rattle.expr_reader.proofs.Equations.{reading_at, reading_at_end}
use Rattle.line_forms.specs.Marks.{same, starts, colon, colons, equals}
use Rattle.line_forms.specs.Read.{is_index}
use Rattle.line_forms.specs.Ll1.{FirstItem, Finish, Exactly, AnyName, Operand, AnyText, is_operand, is_first, begins, Begins, is_mark, are_marks, differ, may_be_name, disjoint_from, disjoint, is_end, is_subscript_end, ends_expression, ends_subscript, is_finish, is_filled}
use Rattle.line_forms.proofs.Sound.{same_is}

pub none_of : {A : Type 0} (o : Option A) → is_none o ≡ true → o ≡ None
none_of None h = refl
none_of (Some x) h = absurd cc

-- from a test that all ways to begin pass
pub each : {Q : Type 0} (p : FirstItem → Bool) (fs : List FirstItem) (ts : List Lexeme) → list_all p fs ≡ true → Begins fs ts
    → ((f : FirstItem) → p f ≡ true → is_first f ts ≡ true → Q) → Q
each p [] ts a b k = absurd cc
each p (f ∷ fs) ts a b k =
    let h = and_parts (p f) (list_all p fs) a in
    ⊎_elim (λ one. k f h.0 one) (λ more. each p fs ts h.1 more k) (or_cases (is_first f ts) (begins fs ts) b)

pub begins_left : (fs gs : List FirstItem) (ts : List Lexeme) → Begins fs ts → Begins (fs ++ gs) ts
begins_left [] gs ts h = absurd cc
begins_left (f ∷ fs) gs ts h =
    ⊎_elim (λ one. or_left (is_first f ts) (begins (fs ++ gs) ts) one)
    (λ more. or_right (is_first f ts) (begins (fs ++ gs) ts) (begins_left fs gs ts more)) (or_cases (is_first f ts) (begins fs ts) h)

pub begins_right : (fs gs : List FirstItem) (ts : List Lexeme) → Begins gs ts → Begins (fs ++ gs) ts
begins_right [] gs ts h = h
begins_right (f ∷ fs) gs ts h = or_right (is_first f ts) (begins (fs ++ gs) ts) (begins_right fs gs ts h)

same_mark : (k : Lexeme) → is_mark k ≡ true → same k k ≡ true
same_mark (Word x) h = (bytes_eq-Decides x x).1 refl
same_mark (Fixed s) h = true_same the_type s s refl
same_mark k h = absurd cc

pub starts_all : (ks us : List Lexeme) → are_marks ks ≡ true → starts ks (ks ++ us) ≡ true
starts_all [] us h = refl
starts_all (k ∷ ks) us h =
    let b = and_parts (is_mark k) (are_marks ks) h in
    (λ i. same_mark k b.0 i && starts ks (ks ++ us)) ∙ starts_all ks us b.1

-- what differs doesn't stand in front
differ_starts : (ks js ts : List Lexeme) → differ ks js ≡ true → starts js ts ≡ true → starts ks ts ≡ false
differ_starts [] js ts d h = absurd cc
differ_starts (k ∷ ks) [] ts d h = absurd cc
differ_starts (k ∷ ks) (j ∷ js) [] d h = refl
differ_starts (k ∷ ks) (j ∷ js) (t ∷ ts) d h =
    let b = and_parts (same j t) (starts js ts) h in
    ⊎_elim
    (λ no. ap (λ b. b && starts ks ts) (ap (same k) (sym (same_is j t b.0)) ∙ not-true (same k j) no))
    (λ more. and_right (same k t) (starts ks ts) (differ_starts ks js ts more b.1))
    (or_cases (not (same k j)) (differ ks js) d)

-- a lexeme that passes a test that another fails is another
other : (p : Lexeme → Bool) (k t : Lexeme) → p k ≡ false → p t ≡ true → same k t ≡ false
other p k t a b = at (same k t) refl
  where
    at : (x : Bool) → same k t ≡ x → x ≡ false
    at true h = let e : p k ≡ p t = ap p (same_is k t h) in absurd cc
    at false h = refl

disjoint_first : (ks : List Lexeme) (f : FirstItem) (ts : List Lexeme) → disjoint_from ks f ≡ true → is_first f ts ≡ true → starts ks ts ≡ false
disjoint_first [] f ts a h = absurd cc
disjoint_first (k ∷ ks) Finish [] a h = refl
disjoint_first (k ∷ ks) (Exactly js) ts a h = differ_starts (k ∷ ks) js ts a h
disjoint_first (k ∷ ks) AnyName (Word x ∷ ts) a h = ap (λ b. b && starts ks ts) (other may_be_name k (Word x) (not-true (may_be_name k) a) h)
disjoint_first (k ∷ ks) Operand (t ∷ ts) a h = ap (λ b. b && starts ks ts) (other is_operand k t (not-true (is_operand k) a) h)
disjoint_first (Word x ∷ ks) AnyText (Text bytes ∷ ts) a h = refl
disjoint_first (Fixed s ∷ ks) AnyText (Text bytes ∷ ts) a h = refl
disjoint_first (k ∷ ks) AnyText (Text bytes ∷ ts) a h = refl
disjoint_first (k ∷ ks) f ts a h = absurd cc

-- fixed lexemes don't stand in front
pub disjoint_starts : (ks : List Lexeme) (fs : List FirstItem) (ts : List Lexeme) → disjoint ks fs ≡ true → Begins fs ts → starts ks ts ≡ false
disjoint_starts ks fs ts a b = each (disjoint_from ks) fs ts a b (λ f p h. disjoint_first ks f ts p h)

end_is : (t : Lexeme) (ts : List Lexeme) → is_end t ≡ true → Ends (t ∷ ts)
end_is t ts h =
    let b = and_parts (not (is_open (sign_of t))) (is_none (binary_of t)) h in
    (not-true (is_open (sign_of t)) b.0, none_of (binary_of t) b.1)

ends_first : (f : FirstItem) (ts : List Lexeme) → ends_expression f ≡ true → is_first f ts ≡ true → Ends ts
ends_first Finish [] a h = tt
ends_first (Exactly (k ∷ ks)) (t ∷ ts) a h = end_is t ts (subst (λ k. is_end k ≡ true) (same_is k t (and_parts (same k t) (starts ks ts) h).0) a)
ends_first AnyName (Word x ∷ ts) a h = (refl, refl)
ends_first AnyText (Text bytes ∷ ts) a h = (refl, refl)
ends_first f ts a h = absurd cc

-- no expression goes on with what is after it
pub ends_all : (fs : List FirstItem) (ts : List Lexeme) → list_all ends_expression fs ≡ true → Begins fs ts → Ends ts
ends_all fs ts a b = each ends_expression fs ts a b (λ f p h. ends_first f ts p h)

-- nothing is left
pub finish_all : (fs : List FirstItem) (ts : List Lexeme) → list_all is_finish fs ≡ true → Begins fs ts → ts ≡ []
finish_all fs ts a b = each is_finish fs ts a b (λ f p h. finish f ts p h)
  where
    finish : (f : FirstItem) (ts : List Lexeme) → is_finish f ≡ true → is_first f ts ≡ true → ts ≡ []
    finish Finish [] p h = refl
    finish f ts p h = absurd cc

-- a lexeme is there
pub filled_all : (fs : List FirstItem) → list_all is_filled fs ≡ true → Begins fs [] → ⊥
filled_all fs a b = each is_filled fs [] a b (λ f p h. filled f p h)
  where
    filled : (f : FirstItem) → is_filled f ≡ true → is_first f [] ≡ true → ⊥
    filled (Exactly (k ∷ ks)) p h = absurd cc
    filled Finish p h = absurd cc
    filled f p h = absurd cc

unary_operand : (t : Lexeme) (o : Op) → unary_of t ≡ Some o → is_operand t ≡ true
unary_operand (Fixed sign.Plus) o h = refl
unary_operand (Fixed sign.Minus) o h = refl
unary_operand (Fixed sign.Not) o h = refl
unary_operand (Fixed s) o h = absurd cc
unary_operand t o h = absurd cc

-- an expression begins with a lexeme with which one may begin
pub operand_first : (e : Expression) (us : List Lexeme) → IsFormed e → is_first Operand (spelling e ++ us) ≡ true
operand_first (Number n) us w = refl
operand_first (Truth true) us w = refl
operand_first (Truth false) us w = refl
operand_first (Name x) us w = refl
operand_first (Element x ps) us w = refl
operand_first (Call o ps) us w = refl
operand_first (Unary o a) us w = unary_operand (operator_lexeme o) o w.0
operand_first (Binary o a b) us w =
    ap (is_first Operand) (append_assoc (spelling a) (operator_lexeme o ∷ spelling b) us)
    ∙ operand_first a (operator_lexeme o ∷ (spelling b ++ us)) w.1
operand_first (Closed a) us w = refl

equals_binary : (t : Lexeme) (ts : List Lexeme) (o : Op) → binary_of t ≡ Some o → starts equals (t ∷ ts) ≡ false
equals_binary t ts o h = ap (λ b. b && true) (other (λ t. is_some (binary_of t)) (Fixed sign.Equals) t refl (ap is_some h))

-- no expression begins with a name and `=`, but for a name before `=`
pub no_index : (e : Expression) (us : List Lexeme) → IsFormed e → ((x : List ℕ) → e ≡ Name x → starts equals us ≡ false) → is_index (spelling e ++ us) ≡ false
no_index (Number n) us w h = refl
no_index (Truth true) us w h = refl
no_index (Truth false) us w h = refl
no_index (Name x) us w h = h x refl
no_index (Element x ps) us w h = refl
no_index (Call o ps) us w h = refl
no_index (Unary o a) us w h = no_sign (operator_lexeme o) o (spelling a ++ us) w.0
  where
    no_sign : (t : Lexeme) (o : Op) (ts : List Lexeme) → unary_of t ≡ Some o → is_index (t ∷ ts) ≡ false
    no_sign (Word x) o ts h = absurd cc
    no_sign t o ts h = refl
no_index (Binary o a b) us w h =
    ap is_index (append_assoc (spelling a) (operator_lexeme o ∷ spelling b) us)
    ∙ no_index a (operator_lexeme o ∷ (spelling b ++ us)) w.1 (λ x is. equals_binary (operator_lexeme o) (spelling b ++ us) o w.0)
no_index (Closed a) us w h = refl

-- nothing is read where no expression may begin
front_none_at : (t : Lexeme) (ts : List Lexeme) → is_operand t ≡ false → (reading apart_of (t ∷ ts)).core.expr 0 ≡ None
front_none_at t ts h = ap (λ r. r.core.expr 0) (reading_at apart_of t ts) ∙ none t h
  where
    none : (t : Lexeme) → is_operand t ≡ false → expr_at (λ d. reading apart_of (drop d ts)) 0 t ≡ None
    none (Word x) h = absurd cc
    none (Integer n) h = absurd cc
    none (Fixed sign.Open) h = absurd cc
    none (Fixed sign.Plus) h = absurd cc
    none (Fixed sign.Minus) h = absurd cc
    none (Fixed sign.Not) h = absurd cc
    none (Fixed sign.True) h = absurd cc
    none (Fixed sign.False) h = absurd cc
    none (Fixed s) h = refl
    none t h = refl

pub front_none : (t : Lexeme) (ts : List Lexeme) → is_operand t ≡ false → front (t ∷ ts) ≡ None
unfolding front
front_none t ts h = ap (λ o. o >>= λ x. Some (x.0, drop x.1 (t ∷ ts))) (front_none_at t ts h)

front_end : front [] ≡ None
unfolding front
front_end = ap (λ r. r.core.expr 0 >>= λ x. Some (x.0, drop x.1 [])) (reading_at_end apart_of)

-- a subscript doesn't go on with what is after it
pub record EndsSubscript (ts : List Lexeme) : Type 0 where
  pub ends : Ends ts
  pub none : front ts ≡ None
  pub no_colon : starts colon ts ≡ false
  pub no_colons : starts colons ts ≡ false

subscript_end : (t : Lexeme) (ts : List Lexeme) → is_subscript_end t ≡ true → EndsSubscript (t ∷ ts)
subscript_end t ts h =
    let a = and_parts (is_end t && not (is_operand t) && not (is_colon (sign_of t))) (not (is_colons (sign_of t))) h in
    let b = and_parts (is_end t && not (is_operand t)) (not (is_colon (sign_of t))) a.0 in
    let c = and_parts (is_end t) (not (is_operand t)) b.0 in
    record {
      ends = end_is t ts c.0;
      none = front_none t ts (not-true (is_operand t) c.1);
      no_colon = ap (λ b. b && true) (other (λ t. not (is_colon (sign_of t))) (Fixed sign.Colon) t refl b.1);
      no_colons = ap (λ b. b && true) (other (λ t. not (is_colons (sign_of t))) (Fixed sign.Colons) t refl a.1);
    }

subscript_first : (f : FirstItem) (ts : List Lexeme) → ends_subscript f ≡ true → is_first f ts ≡ true → EndsSubscript ts
subscript_first Finish [] a h = record { ends = tt; none = front_end; no_colon = refl; no_colons = refl }
subscript_first AnyText (Text bytes ∷ ts) a h = record { ends = (refl, refl); none = front_none (Text bytes) ts refl; no_colon = refl; no_colons = refl }
subscript_first (Exactly (k ∷ ks)) (t ∷ ts) a h = subscript_end t ts (subst (λ k. is_subscript_end k ≡ true) (same_is k t (and_parts (same k t) (starts ks ts) h).0) a)
subscript_first f ts a h = absurd cc

pub subscript_all : (fs : List FirstItem) (ts : List Lexeme) → list_all ends_subscript fs ≡ true → Begins fs ts → EndsSubscript ts
subscript_all fs ts a b = each ends_subscript fs ts a b (λ f p h. subscript_first f ts p h)
