-- What is passed has the lines of the trail.
use Rattle.std.proofs.Common.{◌≡◌, ℕ, zero, suc, ◌+◌, ◌-◌, ◌<◌, max, List, [], ◌∷◌, ◌++◌, length, map, slice_index_or, ℤ, pos, Option, Some, None, refl, sym, ap, ◌∙◌, subst, arith, ⊎_elim}
use Rattle.std.specs.Prelude.{is_some, codes, decimal}
use Rattle.std.specs.List.{flat_map, range_with_len}
use Rattle.storage.specs.Storage.{Spot}
use Rattle.mappings.specs.declared.mapping.Mapping.{Mapping}
use Rattle.machine_steps.specs.Space.{space_count}
use Rattle.expression_rules.specs.declared.dims.Dim.{Dim}
use Rattle.array_meaning.specs.Forall.{index_extents, indices_at}
use Rattle.array_meaning.specs.Sections.{extents, positions, subscripts_at}
use Rattle.array_meaning.specs.Terms.{Term, Terms}
use Rattle.statement_trail.specs.Anchors.{AnchorText}
use Rattle.statement_trail.specs.Trail.{Event, Trail, SectionAssigned, ValuesCopied, Reduced, ForallMask, ElementsAssigned, CopyAssigned, Redistributed}
use Rattle.array_meaning.specs.declared.sections.Selection.TheVariants.{Along}
use Rattle.array_meaning.specs.declared.sections.Sequence.{Sequence}
use Rattle.machine_steps.specs.Layout.{Layout, in_bounds}
use Rattle.machine_steps.specs.Machine.{remapped, with_mapping}
use Rattle.machine_steps.specs.Message.{Part, message, par_part, computes_left}
use Rattle.code_meaning.specs.Beside.{Anchor}
use Rattle.code_meaning.specs.Anchors.{anchor_in}
use Rattle.code_meaning.specs.Flat.{slot}
use Rattle.code_meaning.specs.Forms.{selections_in, selections_at, elemental_in, elemental_at}
use Rattle.node_code.specs.Instructions as code
use Rattle.node_code.specs.Instructions.{Instruction, NewMapping, Par, ParForall, ParNest, ParCopy, ParForallCopy, Remap}
use Rattle.code_meaning.specs.Instructions.{remappings}
use Rattle.code_meaning.specs.Parallel as parallel
use Rattle.node_code.specs.declared.nest.NestRole.TheVariants.{Assigns}
use Rattle.node_code.specs.Forms.{FlatForm}
use Rattle.node_code.specs.Parallel.{When, Assignment, Evaluation}
use Rattle.code_meaning.specs.Parallel.{reads_at, spot_of, indices_in, evaluation_extents, forall_tuples, forall_spot, forall_mask_tuples, copy_spot}
use Rattle.program_code.specs.ExpressionCode.{index_subs, index_form}
use Rattle.lowered_expressions.specs.Passed.{Passed, IsMaskCopy, AreSameForms, IsNestEvent, IsCopyEvent, IsEvent, IsTrail}
use Rattle.lowered_expressions.specs.WellFormed.{AreSubscripts, IsIndexed}
use Rattle.message_text.specs.Parts.{Setting, subscripts_in, named_in, mask_reads, anchor_over, part_of, with_copy, with_copies, with_copied}
use Rattle.message_text.specs.MessageText.{spot_text, spots_text, message_line, line_head, part_lines, redistribution_lines, event_lines, trail_lines}
use Rattle.passed_states.specs.TrailLayouts as trail
use Rattle.message_text.specs.InstructionLines.{instruction_lines}
use Rattle.messages_lowered.specs.PassedText.{setting_by, passed_text}
use Rattle.machine_steps.specs.Instr.{Remapping}
use Rattle.statement_trail.specs.NestParts.{EnteredNest, NestPart, ScalarPart, ElementPart, ConditionPart}
use Rattle.node_code.specs.NestStatements.{NestStatement, ElementLeft}
use Rattle.code_meaning.specs.NestStatements.{nest_tuples, nest_spot, copies_extents}
use Rattle.lowered_expressions.specs.NestEvents.{IsPart}
use Rattle.message_text.specs.InstructionLines.{rows_after, copy_rows, nest_lines}
use Rattle.messages_lowered.proofs.Anchors.{beside-same, known-same}
use Rattle.messages_lowered.proofs.NestLines.{nest-lines-same}
use Rattle.messages_lowered.proofs.TrailPlaces.{HavePlaces}
use Rattle.lowered_expressions.proofs.Indexed.{axes-extents}
use Rattle.messages_lowered.proofs.NamedElements.{subscripts-same, named-same, indices-same}
use Rattle.passed_states.specs.PassedLayouts.{layouts_after}

masks-same : (scalars : List ℤ) (mask : Option When) → IsMaskCopy (length scalars) mask → (t : ℕ) → parallel.mask_reads mask t ≡ mask_reads scalars (is_some mask) t
masks-same scalars None h t = refl
masks-same scalars (Some w) h t = ap (λ (row : ℕ). Some record { row = row; at = t } ∷ []) (h w refl)

-- ---- entries

-- how the declared names lie after an event
abbrev moved : Setting → ℕ → Event → List Layout → List Layout
moved s line event layouts = trail.layouts_after s.moves line event layouts

-- so many nodes, declared names and mappings of the program, and which arrays the REDISTRIBUTE of a line moves
module _ (nodes : ℕ) (names : List (List ℕ)) (shapes : List (List Dim)) (maps : List Mapping) (moves : ℕ → List NewMapping) where
  abbrev s : Setting
  s = setting_by nodes names shapes maps moves

  module _ (layouts : List Layout) (line : ℕ) (scalars slots : List ℤ)
      (holds : (k : ℕ) → k < length scalars → slot slots k ≡ slice_index_or scalars k (pos 0)) (laid : length layouts ≡ length scalars) where
    par-same : (q : Assignment) (beside : Option AnchorText) → IsMaskCopy (length scalars) q.mask → (ls : List Layout)
        → par_part ls (parallel.assignment_tuples s.shapes q) (parallel.assigned_spot s.shapes q) slots
        ≡ part_of s ls scalars (SectionAssigned (is_some q.mask) beside (extents (selections_in slots q.over)) q.array (selections_in slots q.left) (elemental_in slots q.right))
    par-same q beside masks ls = λ i. record {
      tuples = space_count (extents (selections_in slots q.over));
      reads = λ t. masks-same scalars q.mask masks t i ++ reads_at s.shapes (positions (extents (selections_in slots q.over)) t) (elemental_in slots q.right);
      computes = λ node t. computes_left ls node
          (in_bounds ls (spot_of s.shapes q.array (subscripts_at (selections_in slots q.left) (positions (extents (selections_in slots q.over)) t))));
    }

    copy-same : (copy : ℕ) (q : Evaluation) (beside : Option AnchorText) → copy ≡ length scalars → (ls : List Layout)
        → par_part ls (parallel.evaluation_tuples s.shapes q) (copy_spot copy) slots ≡ part_of s ls scalars (ValuesCopied beside (evaluation_extents q slots) (elemental_in slots q.form))
    copy-same copy q beside e ls = λ i. record {
      tuples = space_count (evaluation_extents q slots);
      reads = λ t. reads_at s.shapes (positions (evaluation_extents q slots) t) (elemental_in slots q.form);
      computes = λ node t. computes_left ls node (in_bounds ls (Some record { row = e i; at = t }));
    }

    forall-same : (q : Assignment) (beside : Option AnchorText) (axes : List Sequence) (ts : Terms) (t : Term) → selections_in slots q.over ≡ map Along axes
        → q.left ≡ index_subs ts → AreSameForms slots q.right (index_form t) → IsMaskCopy (length scalars) q.mask
        → AreSubscripts (length scalars) ts → IsIndexed (length scalars) t → (ls : List Layout)
        → par_part ls (forall_tuples s.shapes q) (forall_spot s.shapes q) slots ≡ part_of s ls scalars (ElementsAssigned (is_some q.mask) beside axes q.array ts t)
    forall-same q beside axes ts t over left right masks oks ok ls = λ i. record {
      tuples = space_count (sizes i);
      reads = λ u. reads-same u i;
      computes = λ node u. computes_left ls node (in_bounds ls (spot-same u i));
    }
      where
        sizes : extents (selections_in slots q.over) ≡ index_extents axes
        sizes = ap extents over ∙ axes-extents axes

        at : ℕ → List ℤ
        at u = indices_in q.over slots u

        reads-same : (u : ℕ) → parallel.mask_reads q.mask u ++ reads_at s.shapes (at u) (elemental_at slots (at u) q.right)
            ≡ mask_reads scalars (is_some q.mask) u ++ named_in s.shapes scalars (indices_at axes u) t
        reads-same u =
            ap (λ l. l ++ reads_at s.shapes (at u) (elemental_at slots (at u) q.right)) (masks-same scalars q.mask masks u)
            ∙ ap (λ r. mask_reads scalars (is_some q.mask) u ++ reads_at s.shapes (at u) r) (right (at u))
            ∙ ap (λ y. mask_reads scalars (is_some q.mask) u ++ reads_at s.shapes y (elemental_at slots y (index_form t))) (indices-same q.over slots axes over u)
            ∙ ap (λ l. mask_reads scalars (is_some q.mask) u ++ l) (named-same s.shapes scalars slots holds (indices_at axes u) t ok)

        spot-same : (u : ℕ) → forall_spot s.shapes q slots u ≡ spot_of s.shapes q.array (subscripts_in scalars (indices_at axes u) ts)
        spot-same u =
            ap (λ f. spot_of s.shapes q.array (subscripts_at (selections_at slots (at u) f) (at u))) left
            ∙ ap (λ y. spot_of s.shapes q.array (subscripts_at (selections_at slots y (index_subs ts)) y)) (indices-same q.over slots axes over u)
            ∙ ap (λ is. spot_of s.shapes q.array is) (subscripts-same s.shapes scalars slots holds (indices_at axes u) ts oks)

    forall-mask-same : (copy : ℕ) (q : Evaluation) (beside : Option AnchorText) (axes : List Sequence) (t : Term) → selections_in slots q.over ≡ map Along axes → q.form ≡ index_form t → copy ≡ length scalars
        → IsIndexed (length scalars) t → (ls : List Layout)
        → par_part ls (forall_mask_tuples s.shapes q) (copy_spot copy) slots ≡ part_of s ls scalars (ForallMask beside axes t)
    forall-mask-same copy q beside axes t over form is ok ls = λ i. record {
      tuples = space_count (sizes i);
      reads = λ u. reads-same u i;
      computes = λ node u. computes_left ls node (in_bounds ls (Some record { row = is i; at = u }));
    }
      where
        sizes : extents (selections_in slots q.over) ≡ index_extents axes
        sizes = ap extents over ∙ axes-extents axes

        at : ℕ → List ℤ
        at u = indices_in q.over slots u

        reads-same : (u : ℕ) → reads_at s.shapes (at u) (elemental_at slots (at u) q.form) ≡ named_in s.shapes scalars (indices_at axes u) t
        reads-same u =
            ap (λ f. reads_at s.shapes (at u) (elemental_at slots (at u) f)) form
            ∙ ap (λ y. reads_at s.shapes y (elemental_at slots y (index_form t))) (indices-same q.over slots axes over u)
            ∙ named-same s.shapes scalars slots holds (indices_at axes u) t ok

    -- a statement that is a part sets no mark
    noted : (q : NestStatement) (N : EnteredNest) (part : NestPart) → IsPart (length scalars) N q part → nest_lines q.role s layouts q slots
        ≡ (let ls = with_copies s layouts (rows_after (length layouts) (copy_rows q)) (anchor_in slots q.over q.beside) (copies_extents q.over slots) in
        part_lines (with_copied s q.copies q.names) ls q.line (par_part ls (nest_tuples s.shapes q) (nest_spot s.shapes q) slots))
    noted q N (ScalarPart k t) h = ap (λ r. nest_lines r s layouts q slots) h.1
    noted q N (ElementPart a ts t) h = ap (λ r. nest_lines r s layouts q slots) h.1
    noted q N (ConditionPart k (Some t)) h = ap (λ r. nest_lines r s layouts q slots) h.1
    noted q N (ConditionPart k None) h = ap (λ r. nest_lines r s layouts q slots) h.1

    abbrev Same : Instruction → Event → Type 0
    Same x event = (instruction_lines maps s layouts x slots ≡ event_lines s layouts line scalars event) × (layouts_after maps x layouts ≡ moved s line event layouts)

    nest-part-same : (q : NestStatement) (event : Event) → q.line ≡ line → IsNestEvent (length scalars) q slots event → Same (ParNest q) event
    nest-part-same q event own h =
        let e = nest-lines-same s layouts line scalars slots holds laid h.0 q h.1 h.2 h.4 h.5 h.6 h.7 h.8 in
        let ls = with_copies s layouts (rows_after (length layouts) (copy_rows q)) (anchor_in slots q.over q.beside) (copies_extents q.over slots) in
        subst (λ ev. (instruction_lines maps s layouts (ParNest q) slots ≡ event_lines s layouts line scalars ev) × (layouts ≡ moved s line ev layouts)) (sym h.3) (
          noted q h.0 h.2 h.7 ∙ ap (λ l. part_lines (with_copied s q.copies q.names) ls l (par_part ls (nest_tuples s.shapes q) (nest_spot s.shapes q) slots)) own ∙ e,
          refl,
        )

    -- a copy without a name is written as any other row that isn't declared
    spots-alike : (copy : ℕ) (ls : List Layout) (spots : List Spot) → spots_text (with_copied s (copy ∷ []) []) ls spots ≡ spots_text s ls spots
    spots-alike copy ls [] = refl
    spots-alike copy ls (x ∷ spots) = ap (λ text. (codes " " ++ spot_text s ls x) ++ text) (spots-alike copy ls spots)

    line-alike : (copy : ℕ) (head : List ℕ) (p q : ℕ) (ls : List Layout) (spots : List Spot)
        → message_line head p q (with_copied s (copy ∷ []) []) ls spots ≡ message_line head p q s ls spots
    line-alike copy head p q ls [] = refl
    line-alike copy head p q ls (x ∷ spots) = ap (λ text. head ++ decimal p ++ codes " -> " ++ decimal q ++ codes ":" ++ text ++ codes "\n") (spots-alike copy ls (x ∷ spots))

    lines-alike : (copy : ℕ) (ls : List Layout) (l : ℕ) (part : Part) → part_lines (with_copied s (copy ∷ []) []) ls l part ≡ part_lines s ls l part
    lines-alike copy ls l part = λ i. flat_map (λ p. flat_map (λ q. line-alike copy (line_head l) p q ls (message s.nodes ls part p q) i) (range_with_len 0 s.nodes)) (range_with_len 0 s.nodes)

    -- the copy stands right after the declared names
    one-row : (k n : ℕ) → k ≡ n → rows_after k (n ∷ []) ≡ 1
    one-row k n e = let one : n + 1 - k ≡ 1 = omega (arith, e) in ap (λ j. max j 0) one

    copied-same : (q : NestStatement) (event : Event) → q.line ≡ line → IsCopyEvent (length scalars) q slots event → Same (ParNest q) event
    copied-same q event own h =
        let axes = h.0 in
        let a = h.1 in
        let ts = h.2 in
        let n : ℕ = length scalars in
        let sizes : extents (selections_in slots q.over) ≡ index_extents axes = ap extents h.5 ∙ axes-extents axes in
        let ls = with_copy s layouts None (index_extents axes) in
        let plain : NestStatement = record q { whens = []; copies = n ∷ []; names = []; left = ElementLeft a (index_subs ts); right = FlatForm h.3; role = Assigns; beside = None } in
        let is : q ≡ plain = λ i. record q { whens = h.8 i; copies = h.9 i; names = h.10 i; left = h.6 i; right = h.7 i; role = h.11 i; beside = h.12 i } in
        let spot-same : (u : ℕ) → nest_spot s.shapes plain slots u ≡ spot_of s.shapes a (subscripts_in scalars (indices_at axes u) ts) = λ u.
        ap (λ y. spot_of s.shapes a (subscripts_at (selections_at slots y (index_subs ts)) y)) (indices-same q.over slots axes h.5 u)
        ∙ ap (λ is. spot_of s.shapes a is) (subscripts-same s.shapes scalars slots holds (indices_at axes u) ts h.13) in
        let part-same : par_part ls (nest_tuples s.shapes plain) (nest_spot s.shapes plain) slots ≡ part_of s ls scalars (CopyAssigned axes a ts) = λ i. record {
          tuples = space_count (sizes i);
          reads = λ u. Some (record { row = n; at = u }) ∷ [];
          computes = λ node u. computes_left ls node (in_bounds ls (spot-same u i));
        } in
        subst (λ ev. (instruction_lines maps s layouts (ParNest q) slots ≡ event_lines s layouts line scalars ev) × (layouts ≡ moved s line ev layouts)) (sym h.4) (
          ap (λ r. instruction_lines maps s layouts (ParNest r) slots) is
              ∙ (λ i. part_lines (with_copied s (n ∷ []) []) (with_copies s layouts (one-row (length layouts) n laid i) None (sizes i)) (own i)
              (par_part (with_copies s layouts (one-row (length layouts) n laid i) None (sizes i)) (nest_tuples s.shapes plain) (nest_spot s.shapes plain) slots))
              ∙ lines-alike n ls line (par_part ls (nest_tuples s.shapes plain) (nest_spot s.shapes plain) slots)
              ∙ ap (part_lines s ls line) part-same,
          refl,
        )

    lines-same : (x : Instruction) (event : Event) → IsEvent moves (length scalars) x slots line event → Same x event
    lines-same (Par q) event h =
        let ns = extents (selections_in slots q.over) in
        let beside = h.1.0 in
        let ls = with_copy s layouts (anchor_over scalars [] beside) ns in
        subst (λ ev. (instruction_lines maps s layouts (Par q) slots ≡ event_lines s layouts line scalars ev) × (layouts ≡ moved s line ev layouts)) (sym h.1.1) (
          ap (λ a. part_lines s (with_copy s layouts a ns) q.line (par_part (with_copy s layouts a ns) (parallel.assignment_tuples s.shapes q) (parallel.assigned_spot s.shapes q) slots))
              (known-same scalars slots holds q.over q.beside beside h.1.3 h.1.4)
              ∙ ap (λ l. part_lines s ls l (par_part ls (parallel.assignment_tuples s.shapes q) (parallel.assigned_spot s.shapes q) slots)) h.0
              ∙ ap (part_lines s ls line) (par-same q beside h.1.2 ls),
          refl,
        )
    lines-same (ParCopy copy q) event h =
        let ns = evaluation_extents q slots in
        let beside = h.1.0 in
        let ls = with_copy s layouts (anchor_over scalars [] beside) ns in
        subst (λ ev. (instruction_lines maps s layouts (ParCopy copy q) slots ≡ event_lines s layouts line scalars ev) × (layouts ≡ moved s line ev layouts)) (sym h.1.1) (
          ap (λ a. part_lines s (with_copy s layouts a ns) q.line (par_part (with_copy s layouts a ns) (parallel.evaluation_tuples s.shapes q) (copy_spot copy) slots))
              (known-same scalars slots holds q.over q.beside beside h.1.3 h.1.4)
              ∙ ap (λ l. part_lines s ls l (par_part ls (parallel.evaluation_tuples s.shapes q) (copy_spot copy) slots)) h.0
              ∙ ap (part_lines s ls line) (copy-same copy q beside h.1.2 ls),
          refl,
        )
    lines-same (code.Reduce q r x) event h =
        let ls = with_copy s layouts None (evaluation_extents q slots) in
        subst (λ ev. (instruction_lines maps s layouts (code.Reduce q r x) slots ≡ event_lines s layouts line scalars ev) × (layouts ≡ moved s line ev layouts)) (sym h.1.1)
        (ap (λ l. part_lines s ls l (part_of s ls scalars (Reduced h.1.0 (evaluation_extents q slots) (elemental_in slots q.form)))) h.0, refl)
    lines-same (ParForall q) event h =
        let beside = h.1.0 in
        let axes = h.1.1 in
        let sizes : extents (selections_in slots q.over) ≡ index_extents axes = ap extents h.1.5 ∙ axes-extents axes in
        let same : anchor_in slots q.over q.beside ≡ anchor_over scalars axes beside = beside-same scalars slots holds q.over axes q.beside beside h.1.5 h.1.11 in
        let lying : Option Anchor → List ℕ → List Layout = with_copy s layouts in
        let ls = with_copy s layouts (anchor_over scalars axes beside) (index_extents axes) in
        subst (λ ev. (instruction_lines maps s layouts (ParForall q) slots ≡ event_lines s layouts line scalars ev) × (layouts ≡ moved s line ev layouts)) (sym h.1.4) (
          (λ i. part_lines s (lying (same i) (sizes i)) q.line (par_part (lying (same i) (sizes i)) (forall_tuples s.shapes q) (forall_spot s.shapes q) slots))
              ∙ ap (λ l. part_lines s ls l (par_part ls (forall_tuples s.shapes q) (forall_spot s.shapes q) slots)) h.0
              ∙ ap (part_lines s ls line) (forall-same q beside axes h.1.2 h.1.3 h.1.5 h.1.6 h.1.7 h.1.8 h.1.9 h.1.10 ls),
          refl,
        )
    lines-same (ParForallCopy copy q) event h =
        let beside = h.1.0 in
        let axes = h.1.1 in
        let sizes : extents (selections_in slots q.over) ≡ index_extents axes = ap extents h.1.4 ∙ axes-extents axes in
        let same : anchor_in slots q.over q.beside ≡ anchor_over scalars axes beside = beside-same scalars slots holds q.over axes q.beside beside h.1.4 h.1.8 in
        let lying : Option Anchor → List ℕ → List Layout = with_copy s layouts in
        let ls = with_copy s layouts (anchor_over scalars axes beside) (index_extents axes) in
        subst (λ ev. (instruction_lines maps s layouts (ParForallCopy copy q) slots ≡ event_lines s layouts line scalars ev) × (layouts ≡ moved s line ev layouts)) (sym h.1.3) (
          (λ i. part_lines s (lying (same i) (sizes i)) q.line (par_part (lying (same i) (sizes i)) (forall_mask_tuples s.shapes q) (copy_spot copy) slots))
              ∙ ap (λ l. part_lines s ls l (par_part ls (forall_mask_tuples s.shapes q) (copy_spot copy) slots)) h.0
              ∙ ap (part_lines s ls line) (forall-mask-same copy q beside axes h.1.2 h.1.4 h.1.5 h.1.6 h.1.7 ls),
          refl,
        )
    lines-same (ParNest q) event h = ⊎_elim (nest-part-same q event h.0) (copied-same q event h.0) h.1
    lines-same (Remap l new) event h =
        subst (λ ev. (instruction_lines maps s layouts (Remap l new) slots ≡ event_lines s layouts line scalars ev)
        × (remapped (remappings maps new) layouts ≡ moved s line ev layouts)) (sym h.1) (
          ap (λ k. redistribution_lines s k layouts (remapped (remappings maps new) layouts)) h.0
              ∙ ap (λ n. redistribution_lines s line layouts (remapped (remappings maps n) layouts)) h.2,
          ap (λ n. remapped (remappings maps n) layouts) h.2,
        )
    lines-same x event h = absurd h

  -- ---- as many names at each entry

  mapping-long : (ls : List Layout) (row : ℕ) (m : Mapping) → length (with_mapping ls row m) ≡ length ls
  mapping-long [] row m = refl
  mapping-long (l ∷ ls) zero m = refl
  mapping-long (l ∷ ls) (suc row) m = ap suc (mapping-long ls row m)

  remapped-long : (new : List Remapping) (ls : List Layout) → length (remapped new ls) ≡ length ls
  remapped-long [] ls = refl
  remapped-long (x ∷ new) ls = remapped-long new (with_mapping ls x.row x.mapping) ∙ mapping-long ls x.row x.mapping

  moved-long : (line : ℕ) (event : Event) (ls : List Layout) → length (moved s line event ls) ≡ length ls
  moved-long line Redistributed ls = remapped-long (s.moves line) ls
  moved-long line event ls = refl

  pub text-same : (n : ℕ) (layouts : List Layout) (ps : List Passed) (T : Trail) → length layouts ≡ n → HavePlaces n T → IsTrail moves ps T
      → passed_text maps s layouts ps ≡ trail_lines s layouts T
  text-same n layouts [] [] laid places h = refl
  text-same n layouts [] (e ∷ T) laid places h = absurd h
  text-same n layouts (p ∷ ps) [] laid places h = absurd h
  text-same n layouts (p ∷ ps) (e ∷ T) laid places h =
      let same = lines-same layouts e.line e.scalars p.slots h.0.scalars (laid ∙ sym places.0) p.instruction e.event h.0.event in
      ap (λ l. l ++ passed_text maps s (layouts_after maps p.instruction layouts) ps) same.0
      ∙ ap (λ ls. event_lines s layouts e.line e.scalars e.event ++ passed_text maps s ls ps) same.1
      ∙ ap (λ l. event_lines s layouts e.line e.scalars e.event ++ l)
      (text-same n (moved s e.line e.event layouts) ps T (moved-long e.line e.event layouts ∙ laid) places.1 h.1)
