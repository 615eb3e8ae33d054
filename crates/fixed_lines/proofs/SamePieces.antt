-- Closed lines, joined with no line left out, have the logical lines of a text's lines.
use Rattle.std.proofs.Common.{◌≡◌, ◌+◌, Bool, true, false, cond, List, [], ◌∷◌, ◌++◌, take, drop, map, one-add, refl, sym, ap, subst, ◌∙◌}
use Rattle.std.specs.Prelude.{not, filter}
use Rattle.std.specs.List.{flat_map, join_with_byte, prefix_len}
use Rattle.std.proofs.lemmas.Bool.{false≢true, false_from_ne_true}
use Rattle.source_lines.specs.declared.line.LogicalLine.{LogicalLine}
use Rattle.source_lines.proofs.Cuts.{cut-head}
use Rattle.fixed_lines.specs.FixedLines.{FixedLine}
use Rattle.fixed_lines.specs.declared.kind.FixedKind.TheVariants.{Directive}
use Rattle.fixed_lines.specs.FixedBreaches.{continues, is_directive, is_passed, meets, standing}
use Rattle.fixed_lines.specs.FixedLogicalLines.{code, groups, is_blank_directive, lines_in, lines_of_group, lines_of_kind, or_alone, pieces}
use Rattle.fixed_lines.specs.FreeText.{blank_left, continues_directive, first_continues, with_code}
use Rattle.fixed_lines.proofs.ClosedLines.{begins, blank_kind, both-true, closed_blank, closed_lines, closed_other, continued, is_kind, raised, raised_end, raised_next}
use Rattle.fixed_lines.proofs.Groups.{all_joined, lines_joined}
use Rattle.fixed_lines.proofs.Flows.{AreFine, closed_starts, directive_follows, fine_after, none_continues, raised_starts}

abbrev all_lines : List FixedLine → List LogicalLine
all_lines lines = flat_map lines_of_group (groups lines)

-- those of these lines that continue the line before them, and the others
abbrev led : List FixedLine → List FixedLine
led xs = take (prefix_len continues xs) xs

abbrev left : List FixedLine → List FixedLine
left xs = drop (prefix_len continues xs) xs

groups_first : (x : FixedLine) (xs : List FixedLine) → groups (x ∷ xs) ≡ (x ∷ led xs) ∷ groups (left xs)
groups_first x xs = cut-head (λ rest. prefix_len continues (drop 1 rest) + 1) x xs (prefix_len continues xs) refl

led_more : (x : FixedLine) (xs : List FixedLine) → x.continues ≡ true → led (x ∷ xs) ≡ x ∷ led xs
led_more x xs t = ap (λ t. take (cond t (1 + prefix_len continues xs) 0) (x ∷ xs)) t ∙ ap (λ n. take n (x ∷ xs)) (one-add (prefix_len continues xs))

led_none : (x : FixedLine) (xs : List FixedLine) → x.continues ≡ false → led (x ∷ xs) ≡ []
led_none x xs t = ap (λ t. take (cond t (1 + prefix_len continues xs) 0) (x ∷ xs)) t

left_more : (x : FixedLine) (xs : List FixedLine) → x.continues ≡ true → left (x ∷ xs) ≡ left xs
left_more x xs t = ap (λ t. drop (cond t (1 + prefix_len continues xs) 0) (x ∷ xs)) t ∙ ap (λ n. drop n (x ∷ xs)) (one-add (prefix_len continues xs))

left_none : (x : FixedLine) (xs : List FixedLine) → x.continues ≡ false → left (x ∷ xs) ≡ x ∷ xs
left_none x xs t = ap (λ t. drop (cond t (1 + prefix_len continues xs) 0) (x ∷ xs)) t

led_stop : (xs : List FixedLine) → first_continues xs ≡ false → led xs ≡ []
led_stop [] e = refl
led_stop (x ∷ xs) e = led_none x xs e

left_stop : (xs : List FixedLine) → first_continues xs ≡ false → left xs ≡ xs
left_stop [] e = refl
left_stop (x ∷ xs) e = left_none x xs e

standing_passed : (x : FixedLine) (xs : List FixedLine) → is_passed x.kind ≡ true → standing (x ∷ xs) ≡ standing xs
standing_passed x xs p = ap (λ t. cond (not t) (x ∷ standing xs) (standing xs)) p

standing_here : (x : FixedLine) (xs : List FixedLine) → is_passed x.kind ≡ false → standing (x ∷ xs) ≡ x ∷ standing xs
standing_here x xs p = ap (λ t. cond (not t) (x ∷ standing xs) (standing xs)) p

pieces_blank : (x : FixedLine) (xs : List FixedLine) → is_blank_directive x ≡ true → pieces (x ∷ xs) ≡ pieces xs
pieces_blank x xs t = ap (λ t. map code (cond (not t) (x ∷ filter (λ line. not (is_blank_directive line)) xs) (filter (λ line. not (is_blank_directive line)) xs))) t

pieces_full : (x : FixedLine) (xs : List FixedLine) → is_blank_directive x ≡ false → pieces (x ∷ xs) ≡ x.code ∷ pieces xs
pieces_full x xs t = ap (λ t. map code (cond (not t) (x ∷ filter (λ line. not (is_blank_directive line)) xs) (filter (λ line. not (is_blank_directive line)) xs))) t

-- lines that stand give what these give with blank directive lines left out
abbrev AreSame : List FixedLine → List FixedLine → Type 0
AreSame xs ys = (map code (led xs) ≡ pieces (led ys)) × (all_joined (left xs) ≡ all_lines (left ys))

joined_first : (x : FixedLine) (xs : List FixedLine)
    → all_joined (x ∷ xs) ≡ lines_of_kind x.kind x.number (join_with_byte 32 (x.code ∷ map code (led xs))) ++ all_joined (left xs)
joined_first x xs = ap (flat_map lines_joined) (groups_first x xs)

lines_first : (x : FixedLine) (xs : List FixedLine)
    → all_lines (x ∷ xs) ≡ lines_of_kind x.kind x.number (join_with_byte 32 (or_alone x.code (pieces (x ∷ led xs)))) ++ all_lines (left xs)
lines_first x xs = ap (flat_map lines_of_group) (groups_first x xs)

same_front : (x : FixedLine) (xs ys : List FixedLine) → is_blank_directive x ≡ false → AreSame xs ys → AreSame (x ∷ xs) (x ∷ ys)
same_front x xs ys full same = step x.continues refl
  where
    step : (t : Bool) → x.continues ≡ t → AreSame (x ∷ xs) (x ∷ ys)
    step true t = (
      ap (map code) (led_more x xs t) ∙ ap (λ l. x.code ∷ l) same.0 ∙ sym (pieces_full x (led ys) full) ∙ ap pieces (sym (led_more x ys t)),
      ap all_joined (left_more x xs t) ∙ same.1 ∙ ap all_lines (sym (left_more x ys t)),
    )
    step false t = (
      ap (map code) (led_none x xs t) ∙ ap pieces (sym (led_none x ys t)),
      ap all_joined (left_none x xs t) ∙ joined_first x xs
          ∙ (λ i. lines_of_kind x.kind x.number (join_with_byte 32 (or_alone x.code ((ap (λ l. x.code ∷ l) same.0 ∙ sym (pieces_full x (led ys) full)) i))) ++ same.1 i)
          ∙ sym (lines_first x ys) ∙ ap all_lines (sym (left_none x ys t)),
    )

-- a blank directive line that continues adds nothing
raised_goes : (x : FixedLine) (ys : List FixedLine) → x.kind ≡ Directive → x.continues ≡ true
    → (map code (led (standing (raised x ys))) ≡ map code (led (standing ys))) × (left (standing (raised x ys)) ≡ left (standing ys))
raised_goes x [] kind goes =
    (ap (λ t. map code (led (standing (blank_left t x ∷ [])))) goes, ap (λ t. left (standing (blank_left t x ∷ []))) goes)
raised_goes x (y ∷ ys) kind goes = step (continues_directive y) refl (raised_goes y ys)
  where
    step : (t : Bool) → continues_directive y ≡ t
        → (y.kind ≡ Directive → y.continues ≡ true
        → (map code (led (standing (raised y ys))) ≡ map code (led (standing ys))) × (left (standing (raised y ys)) ≡ left (standing ys)))
        → (map code (led (standing (raised x (y ∷ ys)))) ≡ map code (led (standing (y ∷ ys)))) × (left (standing (raised x (y ∷ ys))) ≡ left (standing (y ∷ ys)))
    step true t rest =
        let both = both-true y.continues (is_directive y.kind) t in
        let kind' : y.kind ≡ Directive = is_kind y.kind both.1 in
        let more = rest kind' both.0 in
        let here = ap standing (raised_next x y ys t) ∙ standing_here (with_code y.code x) (raised y ys) (ap is_passed kind) in
        let there = standing_here y ys (ap is_passed kind') in (
          ap (λ l. map code (led l)) here ∙ ap (map code) (led_more (with_code y.code x) (standing (raised y ys)) goes) ∙ ap (λ l. y.code ∷ l) more.0
              ∙ ap (map code) (sym (led_more y (standing ys) both.0)) ∙ ap (λ l. map code (led l)) (sym there),
          ap left here ∙ left_more (with_code y.code x) (standing (raised y ys)) goes ∙ more.1 ∙ sym (left_more y (standing ys) both.0) ∙ ap left (sym there),
        )
    step false t rest =
        let here = ap standing (raised_end x y ys t) ∙ ap (λ t. standing (blank_left t x ∷ y ∷ ys)) goes in
        (ap (λ l. map code (led l)) here, ap left here)

blank_joined : (x : FixedLine) (ys : List FixedLine) → x.kind ≡ Directive → x.continues ≡ false → continued ys ≡ false
    → all_joined (standing (blank_left x.continues x ∷ ys))
    ≡ lines_of_kind x.kind x.number (join_with_byte 32 (or_alone x.code (map code (led (standing ys))))) ++ all_joined (left (standing ys))
blank_joined x ys kind starts next =
    let none = led_stop (standing ys) next in
    ap (λ t. all_joined (standing (blank_left t x ∷ ys))) starts ∙ ap all_joined (standing_here x ys (ap is_passed kind)) ∙ joined_first x (standing ys)
    ∙ ap (λ l. lines_of_kind x.kind x.number (join_with_byte 32 (x.code ∷ map code l)) ++ all_joined (left (standing ys))) none
    ∙ ap (λ l. lines_of_kind x.kind x.number (join_with_byte 32 (or_alone x.code (map code l))) ++ all_joined (left (standing ys))) (sym none)

-- a blank directive line that begins a directive gives it its number
raised_joined : (x : FixedLine) (ys : List FixedLine) → x.kind ≡ Directive → x.continues ≡ false → (begins ys ≡ false → continued ys ≡ false)
    → all_joined (standing (raised x ys)) ≡ lines_of_kind x.kind x.number (join_with_byte 32 (or_alone x.code (map code (led (standing ys))))) ++ all_joined (left (standing ys))
raised_joined x [] kind starts next = blank_joined x [] kind starts refl
raised_joined x (y ∷ ys) kind starts next = step (continues_directive y) refl
  where
    step : (t : Bool) → continues_directive y ≡ t
        → all_joined (standing (raised x (y ∷ ys)))
        ≡ lines_of_kind x.kind x.number (join_with_byte 32 (or_alone x.code (map code (led (standing (y ∷ ys)))))) ++ all_joined (left (standing (y ∷ ys)))
    step true t =
        let both = both-true y.continues (is_directive y.kind) t in
        let kind' : y.kind ≡ Directive = is_kind y.kind both.1 in
        let more = raised_goes y ys kind' both.0 in
        let there = standing_here y ys (ap is_passed kind') in
        let codes : y.code ∷ map code (led (standing (raised y ys))) ≡ map code (led (standing (y ∷ ys))) =
        ap (λ l. y.code ∷ l) more.0 ∙ ap (map code) (sym (led_more y (standing ys) both.0)) ∙ ap (λ l. map code (led l)) (sym there) in
        let others : left (standing (raised y ys)) ≡ left (standing (y ∷ ys)) = more.1 ∙ sym (left_more y (standing ys) both.0) ∙ ap left (sym there) in
        ap (λ l. all_joined (standing l)) (raised_next x y ys t) ∙ ap all_joined (standing_here (with_code y.code x) (raised y ys) (ap is_passed kind))
        ∙ joined_first (with_code y.code x) (standing (raised y ys))
        ∙ (λ i. lines_of_kind x.kind x.number (join_with_byte 32 (or_alone x.code (codes i))) ++ all_joined (others i))
    step false t = ap (λ l. all_joined (standing l)) (raised_end x y ys t) ∙ blank_joined x (y ∷ ys) kind starts (next t)

same_blank : (x : FixedLine) (ys xs : List FixedLine) → is_blank_directive x ≡ true → (begins ys ≡ false → continued ys ≡ false) → AreSame (standing ys) (standing xs)
    → AreSame (standing (raised x ys)) (standing (x ∷ xs))
same_blank x ys xs blank next same = step x.continues refl
  where
    kind : x.kind ≡ Directive
    kind = blank_kind x blank

    here : standing (x ∷ xs) ≡ x ∷ standing xs
    here = standing_here x xs (ap is_passed kind)

    step : (t : Bool) → x.continues ≡ t → AreSame (standing (raised x ys)) (standing (x ∷ xs))
    step true t =
        let more = raised_goes x ys kind t in
        subst (λ l. AreSame (standing (raised x ys)) l) (sym here) (
          more.0 ∙ same.0 ∙ sym (pieces_blank x (led (standing xs)) blank) ∙ ap pieces (sym (led_more x (standing xs) t)),
          ap all_joined more.1 ∙ same.1 ∙ ap all_lines (sym (left_more x (standing xs) t)),
        )
    step false t =
        let stop = raised_starts x ys kind t in
        subst (λ l. AreSame (standing (raised x ys)) l) (sym here) (
          ap (map code) (led_stop (standing (raised x ys)) stop) ∙ ap pieces (sym (led_none x (standing xs) t)),
          ap all_joined (left_stop (standing (raised x ys)) stop) ∙ raised_joined x ys kind t next
              ∙ (λ i. lines_of_kind x.kind x.number (join_with_byte 32 (or_alone x.code ((same.0 ∙ sym (pieces_blank x (led (standing xs)) blank)) i))) ++ same.1 i)
              ∙ sym (lines_first x (standing xs)) ∙ ap all_lines (sym (left_none x (standing xs) t)),
        )

same_lines : (s d : Bool) (xs : List FixedLine) → AreFine s d xs → AreSame (standing (closed_lines xs)) (standing xs)
same_lines s d [] fine = (refl, refl)
same_lines s d (x ∷ xs) fine = step (is_blank_directive x) refl (same_lines (meets x.kind s) (is_directive x.kind) xs fine.2)
  where
    step : (t : Bool) → is_blank_directive x ≡ t → AreSame (standing (closed_lines xs)) (standing xs) → AreSame (standing (closed_lines (x ∷ xs))) (standing (x ∷ xs))
    step true t same =
        let fine' = fine_after Directive s x xs (blank_kind x t) fine.2 in
        let next : begins (closed_lines xs) ≡ false → continued (closed_lines xs) ≡ false =
        λ end. false_from_ne_true (continued (closed_lines xs)) (λ goes. false≢true (sym end ∙ directive_follows xs fine' goes)) in
        subst (λ l. AreSame (standing l) (standing (x ∷ xs))) (sym (closed_blank x xs t)) (same_blank x (closed_lines xs) xs t next same)
    step false t same = subst (λ l. AreSame (standing l) (standing (x ∷ xs))) (sym (closed_other x xs t)) (other (is_passed x.kind) refl)
      where
        other : (p : Bool) → is_passed x.kind ≡ p → AreSame (standing (x ∷ closed_lines xs)) (standing (x ∷ xs))
        other true p =
            subst (λ l. AreSame l (standing (x ∷ xs))) (sym (standing_passed x (closed_lines xs) p))
            (subst (λ l. AreSame (standing (closed_lines xs)) l) (sym (standing_passed x xs p)) same)
        other false p =
            subst (λ l. AreSame l (standing (x ∷ xs))) (sym (standing_here x (closed_lines xs) p))
            (subst (λ l. AreSame (x ∷ standing (closed_lines xs)) l) (sym (standing_here x xs p)) (same_front x (standing (closed_lines xs)) (standing xs) t same))

-- closed lines have the logical lines of the lines that they are made of
pub closed_joined : (xs : List FixedLine) → AreFine false false xs → all_joined (standing (closed_lines xs)) ≡ lines_in xs
closed_joined xs fine =
    let none = none_continues xs fine in
    ap all_joined (sym (left_stop (standing (closed_lines xs)) (closed_starts xs none))) ∙ (same_lines false false xs fine).1
    ∙ ap all_lines (left_stop (standing xs) none)
