-- The code of a WHERE does what it means.
use Rattle.node_code.specs.Instructions.{NewMapping, Instruction, OwnLimits, MakeCopy, ParCopy, Verdict}
use Rattle.code_meaning.specs.Beside.{Anchor}
use Rattle.code_meaning.specs.Instructions.{go_on_if, ArrayTable}
use Rattle.std.proofs.Common.{max, ◌≡◌, ℕ, ◌+◌, ◌≤◌, List, [], ◌∷◌, ◌++◌, length, ℤ, pos, Bool, true, false, Option, Some, None, option_map, Result, Ok, Err, refl, sym, ap, ◌∙◌, subst, arith, length-append, slice_index_or}
use Rattle.machine_steps.specs.Layout.{Layout, size_of}
use Rattle.machine_steps.specs.Space.{space_count}
use Rattle.machine_steps.specs.Instr.{Running}
use Rattle.lowering.proofs.Evaluating.{own-shape, own-limits, own-outcome}
use Rattle.lowering.proofs.Copies.{copy-goes}
use Rattle.program_code.specs.StatementCode.{Masking, where_true, where_beside, assignment_code, masked_slots, masked_code, where_code}
use Rattle.array_meaning.specs.ArrayAssignments.{mask_of, negated_mask, assign_all_where, run_where, assign_elemental}
use Rattle.array_meaning.specs.Elementals.{ArrayValue, Elemental, sections, value_at, first_extents, array_value, values_over}
use Rattle.array_meaning.specs.Expressions.{selections, elemental}
use Rattle.array_meaning.specs.Faults.{Cause, ◌>>=◌}
use Rattle.array_meaning.specs.Runs.{Completion, Normal, Exited, Cycled, Stopped, Run, normal, then_do, one_step, with_value}
use Rattle.array_meaning.specs.Sections.{positions, extents, space_size}
use Rattle.array_meaning.specs.State.{State}
use Rattle.array_meaning.specs.Statements.{SectionAssignment, Where}
use Rattle.array_meaning.specs.Terms.{Term}
use Rattle.hpf_base.specs.ElementOrder.{product}
use Rattle.lowered_expressions.proofs.Goes.{Holds, kept-refl, Goes, Flows, goes-on, goes-at, goes-then-kept, goes-value, value-bind, lands-done, goes-as}
use Rattle.lowering.proofs.Masks.{FirstWithin, first-within, first-kept}
use Rattle.lowering.proofs.Parts.{FormGives, parts-come}
use Rattle.statement_trail.specs.Anchors.{AnchorText, where_anchor}
use Rattle.statement_trail.specs.Trail.{Trail, ValuesCopied, after_value, after_run, reached, elemental_trail, over_own_space, section_trail, where_trail, trail}
use Rattle.lowered_expressions.specs.Anchors.{IsAnchorText, IsForeknown}
use Rattle.lowered_expressions.specs.Passed.{note, IsTrail}
use Rattle.lowered_expressions.proofs.Anchors.{where-anchored, where-foreknown, masked-append}
use Rattle.std.proofs.lemmas.Option.{same_Some}
use Rattle.lowered_expressions.proofs.Reach.{still, HasAt, has-front, has-back, has-drop, same-refl, stands, one, Place}
use Rattle.lowered_expressions.proofs.Scatter.{NamesBelow, space-size, space-counted}
use Rattle.lowering.proofs.Sections.{assignment-goes}
use Rattle.program_code.specs.ExpressionCode.{copied_evaluation, first_subs, or_no_sub, parts_slots, parts_code, form_of, anchor_code}
use Rattle.lowered_expressions.specs.WellFormed.{AreMasked, IsArray}
use Rattle.storage.specs.Storage.{Storage}
use Rattle.node_code.specs.Forms.{Sub}
use Rattle.code_meaning.specs.Forms.{selections_in, elemental_in}
use Rattle.node_code.specs.Parallel.{When, Evaluation}
use Rattle.code_meaning.specs.Parallel.{evaluation_tuples, at_line, evaluation_extents, as_asked}
use Rattle.op_tables.specs.Operators.{is_true}
use Rattle.array_meaning.specs.Runs as runs

pub after-made : {A B : Type 0} (q : Result A Cause) (g : A → B) (F : B → Trail) → after_value (q >>= (λ a. Ok (g a))) F ≡ after_value q (λ a. F (g a))
after-made (Ok a) g F = refl
after-made (Err c) g F = refl

module _ (table : ArrayTable) (row_count : ℕ) (moves : ℕ → List NewMapping) (code : List Instruction) (n many leave again : ℕ) (sized : (layouts : List Layout) (anchor : Option Anchor) (ns : List ℕ) → size_of (table.copies layouts anchor ns) ≡ space_count ns) where
  -- the copy isn't kept any longer
  pub forget : (T : Trail) (copy : Option (List ℤ)) (to b : ℕ) (slots : List ℤ) (m : Place row_count) (r : Run) → Goes table row_count moves code n many copy leave again T to b slots m r
      → Goes table row_count moves code n many None leave again T to b slots m r
  forget T copy to b slots m r h = by_flow r.completion h
    where
      holds' : (s : State) (slots : List ℤ) (rows : Storage) → Holds table row_count moves code n many copy s slots rows → Holds table row_count moves code n many None s slots rows
      holds' s slots rows h = record { scalars = h.scalars; arrays = h.arrays; places = h.places; more_places = h.more_places; wide = h.wide; more_rows = h.more_rows; size = h.size; copied = λ m e. cc }

      by_flow : (flow : Completion) → Flows table row_count moves code n many copy leave again T to b slots m r.state flow → Flows table row_count moves code n many None leave again T to b slots m r.state flow
      by_flow Normal h = (h.0, h.1, h.2, h.3, holds' r.state h.0 h.1 h.4)
      by_flow Exited h = (h.0, h.1, h.2, h.3, holds' r.state h.0 h.1 h.4)
      by_flow Cycled h = (h.0, h.1, h.2, h.3, holds' r.state h.0 h.1 h.4)
      by_flow Stopped h = λ i. let b = h i in (b.0, b.1, b.2, b.3, holds' r.state b.0.control.slots b.0.rows b.4, b.5)
      by_flow (runs.Faulted f) h = h

  -- under a mask whose copy lies beside this
  abbrev masking : Option (List Sub) → Bool → Option AnchorText → Masking
  masking first w beside = record { over = or_no_sub first; when = where_true n w; beside = option_map anchor_code beside }

  -- the assignments of a WHERE, where the copy is as asked
  masked-go : (xs : List SectionAssignment) (b pc : ℕ) (first : Option (List Sub)) (w : Bool) (beside : Option AnchorText) (vs : List ℤ) (ns : List ℕ) (slots : List ℤ) (rows : Storage) (s : State)
      → AreMasked n xs → IsAnchorText n beside → IsForeknown beside → HasAt code pc (masked_code b (masking first w beside) xs) → n ≤ b → b + masked_slots xs ≤ many
      → Holds table row_count moves code n many (Some vs) s slots rows → FirstWithin n b first → extents (selections_in slots (or_no_sub first)) ≡ ns
      → Goes table row_count moves code n many (Some vs) leave again (where_trail ns (λ t. as_asked w (mask_of vs t)) beside xs s) (pc + length (masked_code b (masking first w beside) xs)) b slots (stands table row_count moves code pc slots rows s.printed)
      (assign_all_where ns (λ t. as_asked w (mask_of vs t)) xs s)
  masked-go [] b pc first w beside vs ns slots rows s ok anchored known has le few holds within shape =
      let e : pc ≡ pc + 0 = omega arith in
      goes-at table row_count moves code n many (Some vs) leave again [] pc (pc + 0) b slots (stands table row_count moves code pc slots rows s.printed) (normal s) e
      (lands-done table row_count moves code n many (Some vs) leave again pc b slots rows s holds)
  masked-go (x ∷ xs) b pc first w beside vs ns slots rows s ok anchored known has le few holds within shape =
      let m : Masking = masking first w beside in
      let c = assignment_code x.line b x.array x.subscripts x.right (Some m) in
      let cs = masked_code b m xs in
      let pc1 : ℕ = pc + length c in
      let long : pc1 + length cs ≡ pc + length (c ++ cs) = omega (arith, length-append c cs) in
      let chosen = λ (t : ℕ). as_asked w (mask_of vs t) in
      let now = one_step x.line s (selections [] s x.subscripts >>= (λ ds. elemental [] s x.right >>= (λ r. assign_elemental ns chosen x.array ds r s))) in
      goes-at table row_count moves code n many (Some vs) leave again (where_trail ns chosen beside (x ∷ xs) s) (pc1 + length cs) (pc + length (c ++ cs)) b slots (stands table row_count moves code pc slots rows s.printed)
      (then_do now (assign_all_where ns chosen xs)) long
      (goes-then-kept table row_count moves code n many (Some vs) leave again (section_trail (Some ns) beside x.line x.array x.subscripts x.right s) (where_trail ns chosen beside xs) pc1 (pc1 + length cs) b slots (stands table row_count moves code pc slots rows s.printed) now (assign_all_where ns chosen xs)
      (assignment-goes table row_count moves code n many (Some vs) leave again x.line b pc x.array x.subscripts x.right (Some m) slots rows s (λ ds. ns) chosen (λ w' e. sym (ap (λ (x : When). x.copy) (same_Some (where_true n w) w' e))) beside (refl, anchored) known ok.0 ok.1 ok.2
      (has-front code pc c cs has) le (omega (arith, few)) holds
      (λ later ds same e. sym (first-kept n b first slots later within (λ k from lt. same.1 k lt)) ∙ shape)
      (λ ds u values lt. ap (λ r. as_asked w (is_true (slice_index_or r u (pos 0)))) (holds.copied vs refl)))
      (λ slots1 rows1 s1 kept holds1. masked-go xs b pc1 first w beside vs ns slots1 rows1 s1 ok.3 anchored known (has-back code pc c cs has) le (omega (arith, few)) holds1 within
      (sym (first-kept n b first slots slots1 within kept) ∙ shape)))

  pub where-goes : (line b pc : ℕ) (mask : Term) (body others : List SectionAssignment) (slots : List ℤ) (rows : Storage) (s : State) → IsArray n mask → AreMasked n body
      → AreMasked n others → HasAt code pc (where_code n line b mask body others)
      → n ≤ b → b + (parts_slots mask + max (masked_slots body) (masked_slots others)) ≤ many → Holds table row_count moves code n many None s slots rows
      → Goes table row_count moves code n many None leave again (trail (Where mask body others) line s) (pc + length (where_code n line b mask body others)) b slots (stands table row_count moves code pc slots rows s.printed)
      (run_where line mask body others s)
  where-goes line b pc mask body others slots rows s ok ok1 ok2 has le few holds =
      goes-at table row_count moves code n many None leave again (trail (Where mask body others) line s) to (pc + length (c ++ tail)) b slots (stands table row_count moves code pc slots rows s.printed) (run_where line mask body others s) long
      (subst (Goes table row_count moves code n many None leave again (trail (Where mask body others) line s) to b slots (stands table row_count moves code pc slots rows s.printed)) (sym (value-bind line s (elemental [] s mask) (array_value s) does))
      (goes-value table row_count moves code n many None leave again (elemental_trail line s mask) (λ r. over_own_space line s r (ValuesCopied beside) ++ after_value (array_value s r) does_trail) line pc pc1 to b b1 slots rows s (FormGives n b1 (form_of b mask)) (elemental [] s mask)
      (λ r. with_value line s (array_value s r) does) (omega arith) le holds
      (parts-come table row_count moves code line n s rows s.printed holds.arrays mask pc b slots ok (has-front code pc c tail has) holds.scalars le (omega (arith, few, holds.size)))
      (λ slots1 r e same gives holds1. after slots1 r (gives.0 slots1 (same-refl b1 slots1)) gives.1 holds1)))
    where
      beside : Option AnchorText
      beside = where_anchor (body ++ others)

      anchored : IsAnchorText n beside
      anchored = where-anchored n (body ++ others) (masked-append n body others ok1 ok2)

      known : IsForeknown beside
      known = where-foreknown (body ++ others)

      p : Evaluation
      p = copied_evaluation line (form_of b mask) (where_beside (body ++ others))

      does : ArrayValue → Run
      does m = then_do (assign_all_where m.extents (mask_of m.elements) body s) (assign_all_where m.extents (negated_mask m.elements) others)

      does_trail : ArrayValue → Trail
      does_trail m = where_trail m.extents (mask_of m.elements) beside body s
          ++ after_run (assign_all_where m.extents (mask_of m.elements) body s) (where_trail m.extents (negated_mask m.elements) beside others)

      c : List Instruction
      c = parts_code line b mask

      b1 : ℕ
      b1 = b + parts_slots mask

      first : Option (List Sub)
      first = first_subs (form_of b mask)

      cb : List Instruction
      cb = masked_code b1 (masking first true beside) body

      co : List Instruction
      co = masked_code b1 (masking first false beside) others

      tail : List Instruction
      tail = OwnLimits p ∷ MakeCopy n p ∷ ParCopy n p ∷ Verdict ∷ (cb ++ co)

      pc1 : ℕ
      pc1 = pc + length c

      mid : ℕ
      mid = pc1 + 4 + length cb

      to : ℕ
      to = mid + length co

      long : to ≡ pc + length (c ++ tail)
      long = omega (arith, length-append c tail, length-append cb co)

      at_tail : HasAt code pc1 tail
      at_tail = has-back code pc c tail has

      at_bodies : HasAt code (pc1 + 4) (cb ++ co)
      at_bodies = has-drop code 4 pc1 tail at_tail

      after : (slots1 : List ℤ) (r : Elemental) → elemental_in slots1 (form_of b mask) ≡ r → NamesBelow n r → Holds table row_count moves code n many None s slots1 rows
          → Goes table row_count moves code n many None leave again (over_own_space line s r (ValuesCopied beside) ++ after_value (array_value s r) does_trail) to b1 slots1
          (stands table row_count moves code pc1 slots1 rows s.printed) (with_value line s (array_value s r) does)
      after slots1 r right named holds1 =
          subst (Goes table row_count moves code n many None leave again (over_own_space line s r (ValuesCopied beside) ++ after_value (array_value s r) does_trail) to b1 slots1 (stands table row_count moves code pc1 slots1 rows s.printed))
          (sym (value-bind line s (space_size ns (sections r)) (λ k. values_over s ns r k >>= (λ vs. Ok (valued vs))) does))
          (by_limits (space_size ns (sections r)) refl)
        where
          ns : List ℕ
          ns = first_extents (sections r)

          valued : List ℤ → ArrayValue
          valued vs = record { extents = ns; elements = vs }

          shape : evaluation_extents p slots1 ≡ ns
          shape = own-shape n table.shapes s rows holds1.arrays line (form_of b mask) (where_beside (body ++ others)) slots1 r right named

          count : ℕ
          count = product ns

          entry : Trail
          entry = reached line s (ValuesCopied beside ns r)

          those : IsTrail moves (note (ParCopy n p) slots1) entry
          those = (
            record {
              scalars = λ k lk. holds1.scalars k (omega (arith, lk, holds1.places));
              event = (refl, (beside, rw (shape, right) refl, sym holds1.places, (refl, subst (λ k. IsAnchorText k beside) (sym holds1.places) anchored), known));
            },
            tt,
          )

          m0 : Place row_count
          m0 = stands table row_count moves code (pc1 + 1) slots1 rows s.printed

          at_copy : HasAt code (pc1 + 1) (MakeCopy n p ∷ ParCopy n p ∷ Verdict ∷ [])
          at_copy = (at_tail.1.0, (at_tail.1.1.0, (at_tail.1.1.1.0, tt)))

          bodies : (vs : List ℤ) (rows3 : Storage) → Holds table row_count moves code n many (Some vs) s slots1 rows3 → Goes table row_count moves code n many None leave again (does_trail (valued vs)) to b1 slots1
              (stands table row_count moves code (pc1 + 4) slots1 rows3 s.printed) (does (valued vs))
          bodies vs rows3 holds3 =
              let within : FirstWithin n b1 first = first-within n b b1 mask le (omega arith) in
              forget (does_trail (valued vs)) (Some vs) to b1 slots1 (stands table row_count moves code (pc1 + 4) slots1 rows3 s.printed) (does (valued vs))
              (goes-then-kept table row_count moves code n many (Some vs) leave again (where_trail ns (mask_of vs) beside body s) (where_trail ns (negated_mask vs) beside others) mid to b1 slots1 (stands table row_count moves code (pc1 + 4) slots1 rows3 s.printed)
              (assign_all_where ns (mask_of vs) body s) (assign_all_where ns (negated_mask vs) others)
              (masked-go body b1 (pc1 + 4) first true beside vs ns slots1 rows3 s ok1 anchored known (has-front code (pc1 + 4) cb co at_bodies) (omega (arith, le))
              (omega (arith, few)) holds3 within shape)
              (λ slots4 rows4 s4 kept holds4. masked-go others b1 mid first false beside vs ns slots4 rows4 s4 ok2 anchored known (has-back code (pc1 + 4) cb co at_bodies) (omega (arith, le))
              (omega (arith, few)) holds4 within (sym (first-kept n b1 first slots1 slots4 within kept) ∙ shape)))

          by_values : (k : ℕ) → k ≡ count → space_count ns ≡ count → Goes table row_count moves code n many None leave again (entry ++ after_value (values_over s ns r k >>= (λ vs. Ok (valued vs))) does_trail) to b1 slots1 m0 (with_value line s (values_over s ns r k >>= (λ vs. Ok (valued vs))) does)
          by_values k e all =
              subst (λ k. Goes table row_count moves code n many None leave again (entry ++ after_value (values_over s ns r k >>= (λ vs. Ok (valued vs))) does_trail) to b1 slots1 m0 (with_value line s (values_over s ns r k >>= (λ vs. Ok (valued vs))) does)) (sym e)
              (subst (Goes table row_count moves code n many None leave again (entry ++ after_value (values_over s ns r count >>= (λ vs. Ok (valued vs))) does_trail) to b1 slots1 m0) (sym (value-bind line s (values_over s ns r count) (λ vs. Ok (valued vs)) does))
              (goes-as table row_count moves code n many None leave again (entry ++ after_value (values_over s ns r count) (λ vs. does_trail (valued vs))) (entry ++ after_value (values_over s ns r count >>= (λ vs. Ok (valued vs))) does_trail) to b1 slots1 m0
              (with_value line s (values_over s ns r count) (λ vs. does (valued vs))) (ap (λ T. entry ++ T) (sym (after-made (values_over s ns r count) valued does_trail)))
              (copy-goes table row_count moves code n many leave again sized line b1 (pc1 + 1) to (form_of b mask) p.over (where_beside (body ++ others)) (ParCopy n p) (evaluation_tuples table.shapes p) refl at_copy slots1 rows
              s holds1 ns shape (ap space_count shape ∙ all) all (positions ns) (λ t. value_at s (positions ns t) r)
              (λ rows1 arrays u. own-outcome n table.shapes s rows1 arrays line (form_of b mask) (where_beside (body ++ others)) slots1 r right named u) entry those (λ vs. does_trail (valued vs)) (λ vs. does (valued vs))
              (λ vs rows3 holds3. let e : pc1 + 1 + 3 ≡ pc1 + 4 = omega arith in subst
              (λ at. Goes table row_count moves code n many None leave again (does_trail (valued vs)) to b1 slots1 (stands table row_count moves code at slots1 rows3 s.printed) (does (valued vs))) (sym e)
              (bodies vs rows3 holds3)))))

          by_limits : (q : Result ℕ Cause) → space_size ns (sections r) ≡ q → Goes table row_count moves code n many None leave again
              (after_value q (λ k. entry) ++ after_value (q >>= (λ k. values_over s ns r k >>= (λ vs. Ok (valued vs)))) does_trail) to b1 slots1 (stands table row_count moves code pc1 slots1 rows s.printed)
              (with_value line s q (λ k. with_value line s (values_over s ns r k >>= (λ vs. Ok (valued vs))) does))
          by_limits (Ok k) e =
              goes-on table row_count moves code n many None leave again [] (entry ++ after_value (values_over s ns r k >>= (λ vs. Ok (valued vs))) does_trail) to b1 b1 slots1 slots1 (stands table row_count moves code pc1 slots1 rows s.printed) m0
              (with_value line s (values_over s ns r k >>= (λ vs. Ok (valued vs))) does) (omega arith)
              (λ i. (
                1,
                i,
                one table row_count moves code pc1 slots1 rows s.printed (OwnLimits p) at_tail.0 i
                    ∙ ap (λ q. record (stands table row_count moves code pc1 slots1 rows s.printed i)
                    { control = go_on_if {A = ℕ} (at_line line q) (record { at = pc1; slots = slots1; status = Running }) })
                    (own-limits n table.shapes s rows holds1.arrays line (form_of b mask) (where_beside (body ++ others)) slots1 r right named ∙ e),
                still table row_count moves code pc1 slots1 rows s.printed (OwnLimits p) at_tail.0 refl i,
              ))
              (kept-refl table row_count moves code n many None b1 slots1) (by_values k (space-size ns (sections r) k e) (space-counted ns (sections r) k e))
          by_limits (Err c) e =
              λ i. (
                _,
                (
                  1,
                  one table row_count moves code pc1 slots1 rows s.printed (OwnLimits p) at_tail.0 i
                      ∙ ap (λ q. record (stands table row_count moves code pc1 slots1 rows s.printed i)
                      { control = go_on_if {A = ℕ} (at_line line q) (record { at = pc1; slots = slots1; status = Running }) })
                      (own-limits n table.shapes s rows holds1.arrays line (form_of b mask) (where_beside (body ++ others)) slots1 r right named ∙ e),
                  still table row_count moves code pc1 slots1 rows s.printed (OwnLimits p) at_tail.0 refl i,
                ),
                refl,
                refl,
                refl,
              )
