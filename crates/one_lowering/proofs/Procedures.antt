-- What a procedure becomes is told by its form.
use Rattle.std.proofs.Common.{◌≡◌, ℕ, zero, suc, ◌+◌, ◌-◌, ◌*◌, ◌<◌, List, [], ◌∷◌, ◌++◌, map, take, length, sum, Bool, true, false, cond, not, ◌&&◌, ◌||◌, Option, Some, None, refl, sym, ap, ap₂, ◌∙◌, slice_get}
use Rattle.std.specs.Prelude.{slice_index_or, sum_by, option_map, if◌then◌else◌}
use Rattle.std.specs.List.{list_any}
use Rattle.std.proofs.lemmas.List.Sums.{sum_by-cons}
use Rattle.ob_types.specs.Forms.{all}
use Rattle.ob_types.specs.Layout.{kind_of, cells}
use Rattle.ob_types.specs.LegalTypes.{formal_legal}
use Rattle.ob_types.specs.Meaning.{procedure_of, locals_of, texts_of, is_value}
use Rattle.ob_types.specs.WellFormed.{well_formed, form_of, fine, answer_fine}
use Rattle.ob_types.specs.declared.types.Formal.{Formal}
use Rattle.ob_types.specs.declared.program.Procedure.{Procedure}
use Rattle.ob_types.specs.declared.program.Program.{Program}
use Rattle.ob_types.proofs.Tests.{and_of, and_from}
use Rattle.block_runs.specs.declared.end.End.TheVariants.{Return}
use Rattle.ssa_lowered.specs.Data.{layout, takes_a_byte, within, rounded}
use Rattle.ssa_lowered.specs.Data
use Rattle.ssa_lowered.specs.Pieces.{give, ◌>>=◌, Mask, rest, blocks_of}
use Rattle.ssa_lowered.specs.Variables
use Rattle.ssa_lowered.specs.Variables.{words_of, words_by, Site, Register, Memory, Variable, is_structured, some_structured, value_parameters, further, zeroing, store_first, stored, first_of, opened}
use Rattle.ssa_lowered.specs.Lowered
use Rattle.ssa_lowered.specs.Lowered.{Here, here_of, lent_in_body, zeroed_bytes, whole, made_of, proc_of, entry, at_entry, deeds_of, answer}
use Rattle.ob_judge.specs.Shapes.{Shape}
use Rattle.ob_judge.specs.Image as I
use Rattle.judged_tree.specs.TypeShapes.{shape_of}
use Rattle.judged_tree.specs.Plain.{plain_formal, plain_program}
use Rattle.one_lowering.specs.Forms.{is_closed, tally, HasClosedTypes, numbered}
use Rattle.one_lowering.proofs.Lists.{map_map, take_map, get_map, sum_map, map_append, map_cond, all_append, all_of_map}
use Rattle.one_lowering.proofs.Sizes.{structured_shape}
use Rattle.one_lowering.proofs.Entries.{same_small, same_structured}
use Rattle.one_lowering.proofs.Parts.{procedures_are_fine}
use Rattle.one_lowering.proofs.Masks.{body_lends, answer_lends}
use Rattle.one_lowering.proofs.Expressions.{Answers}
use Rattle.one_lowering.proofs.Statements.{same_body, same_answer}
use Rattle.one_lowering.proofs.Middle.{low_statements, low_answer}
use Rattle.one_lowering.proofs.Whole
use Rattle.one_lowering.proofs.Whole.{Facts, Slot, no_slot, room, structured_room, placed, scalars_lent, cells_in, local_shapes, word_count, value_slots, store_slot, store_slots, open_slots, lent_in, zeroed, slots, bytes, site_of, asked, enter, low_whole, low_made, low_procedure}
use Rattle.one_lowering.proofs.Data.{facts, of_shapes, level_same, counted_same, cells_same, size_same, whole_bytes_same, place_same, global_same, descriptor_same, use_same, formals_closed, own_closed, locals_closed, local_shapes_same, are_closed}
use Rattle.one_lowering.proofs.Data as D

parameter_alike : (t : _) (o : Option Formal) (w : ℕ) → Lowered.parameter_by o w ≡ Whole.parameter_by (option_map (plain_formal t) o) w
parameter_alike t None w = refl
parameter_alike t (Some x) w = refl

abbrev without_word : ℕ → ℕ × Option ℕ
without_word k = (k, None)

abbrev shape_alone : Shape → Shape × Option ℕ
shape_alone s = (s, None)

module _ (p : Program) (well : well_formed p ≡ true) (sources : List (List ℕ)) (closed : HasClosedTypes (plain_program sources (numbered p))) where
  abbrev x : Facts
  x = facts p well sources closed

  abbrev form : Procedure → I.Procedure
  form q = D.form_of p well sources closed q

  abbrev shape : ℕ → Shape
  shape k = shape_of p.types k

  abbrev uses : List (List ℕ)
  uses = tally 0 (length (texts_of p.procedures))

  room_same : (k : ℕ) → is_closed (shape k) ≡ true → Data.room (layout p.types) k ≡ room x (shape k)
  room_same k h = ap (λ n. rounded n) (size_same p well sources closed k h)

  of_sums : (g : ℕ → ℕ) (h : Shape → ℕ) → ((k : ℕ) → is_closed (shape k) ≡ true → g k ≡ h (shape k)) → (ks : List ℕ) → all is_closed (map shape ks) ≡ true → sum_by g ks ≡ sum_by h (map shape ks)
  of_sums g h e [] c = refl
  of_sums g h e (k ∷ ks) c =
      let b = and_of (is_closed (shape k)) (all is_closed (map shape ks)) c in
      sum_by-cons g k ks ∙ ap₂ (λ m n. m + n) (e k b.0) (of_sums g h e ks b.1) ∙ sym (sum_by-cons h (shape k) (map shape ks))

  structured_any : (ks : List ℕ) → some_structured p.types ks ≡ list_any structured_shape (map shape ks)
  structured_any [] = refl
  structured_any (k ∷ ks) = ap₂ (λ a b. a || b) (same_structured p.types k) (structured_any ks)

  room_or_none : (k : ℕ) → is_closed (shape k) ≡ true → (if is_structured (kind_of p.types k) then Data.room (layout p.types) k else 0) ≡ (if structured_shape (shape k) then room x (shape k) else 0)
  room_or_none k c = ap₂ (λ (b : Bool) (n : ℕ). if b then n else 0) (same_structured p.types k) (room_same k c)

  scalars_same : (lent : Mask) (ks : List ℕ) → Variables.scalars_lent p.types (layout p.types) lent ks ≡ scalars_lent x lent (map shape ks)
  scalars_same lent [] = refl
  scalars_same lent (k ∷ ks) = ap₂ (λ b n. cond (lent 0 && not b) 1 0 + n) (same_structured p.types k) (scalars_same (rest lent) ks)

  -- ---- where variables stand

  abbrev slot_of : Variable → Slot
  slot_of v = record { word = v.word; structured = is_structured (kind_of p.types v.type_number); small = takes_a_byte (kind_of p.types v.type_number); site = v.site }

  abbrev shaped : ℕ × Option ℕ → Shape × Option ℕ
  shaped y = (shape y.0, y.1)

  placed_same : (lent : Mask) (a b : ℕ) (ys : List (ℕ × Option ℕ)) → all (λ (y : ℕ × Option ℕ). is_closed (shape y.0)) ys ≡ true
      → map slot_of (Variables.placed p.types (layout p.types) lent a b ys) ≡ placed x lent a b (map shaped ys)
  placed_same lent a b [] h = refl
  placed_same lent a b (y ∷ ys) h =
      let c = and_of (is_closed (shape y.0)) (all (λ (z : ℕ × Option ℕ). is_closed (shape z.0)) ys) h in
      let there = same_structured p.types y.0 in
      let small = same_small p.types y.0 in
      let bytes = Data.room (layout p.types) y.0 in
      let behind : ℕ → ℕ → List Variable = λ m n. Variables.placed p.types (layout p.types) (rest lent) m n ys in
      let variable : Site → Variable = λ s. record { type_number = y.0; word = y.1; site = s } in
      let first = placed_same (rest lent) (a + bytes) b ys c.1 ∙ ap (λ n. placed x (rest lent) (a + n) b (map shaped ys)) (room_same y.0 c.0) in
      let second = placed_same (rest lent) a (b + 8) ys c.1 in
      let third = placed_same (rest lent) a b ys c.1 in
      map_cond slot_of (is_structured (kind_of p.types y.0)) (variable (Memory a) ∷ behind (a + bytes) b) (cond (lent 0) (variable (Memory b) ∷ behind a (b + 8)) (variable Register ∷ behind a b))
      ∙ ap (λ zs. cond (is_structured (kind_of p.types y.0)) (map slot_of (variable (Memory a) ∷ behind (a + bytes) b)) zs) (map_cond slot_of (lent 0) (variable (Memory b) ∷ behind a (b + 8)) (variable Register ∷ behind a b))
      ∙ (λ k. cond (there k) (record { word = y.1; structured = there k; small = small k; site = Memory a } ∷ first k) (cond (lent 0) (record { word = y.1; structured = there k; small = small k; site = Memory b } ∷ second k) (record { word = y.1; structured = there k; small = small k; site = Register } ∷ third k)))

  values_same : (w : ℕ) (fs : List Formal) → map shaped (value_parameters w fs) ≡ value_slots w (map (plain_formal p.types) fs)
  values_same w [] = refl
  values_same w (y ∷ ys) =
      let more = value_parameters (w + words_by y.mode) ys in
      map_append shaped (if is_value y.mode then (y.type_number, Some w) ∷ [] else []) more
      ∙ ap₂ (λ us vs. us ++ vs) (map_cond shaped (is_value y.mode) ((y.type_number, Some w) ∷ []) []) (values_same (w + words_by y.mode) ys)

  values_closed : (w : ℕ) (fs : List Formal) → all (λ (y : Formal). is_closed (shape y.type_number)) fs ≡ true → all (λ (y : ℕ × Option ℕ). is_closed (shape y.0)) (value_parameters w fs) ≡ true
  values_closed w [] h = refl
  values_closed w (y ∷ ys) h =
      let c = and_of (is_closed (shape y.type_number)) (all (λ (z : Formal). is_closed (shape z.type_number)) ys) h in
      by (is_value y.mode) c.0 (values_closed (w + words_by y.mode) ys c.1)
    where
      more : List (ℕ × Option ℕ)
      more = value_parameters (w + words_by y.mode) ys

      test : ℕ × Option ℕ → Bool
      test z = is_closed (shape z.0)

      by : (b : Bool) → is_closed (shape y.type_number) ≡ true → all (λ (z : ℕ × Option ℕ). is_closed (shape z.0)) more ≡ true → all (λ (z : ℕ × Option ℕ). is_closed (shape z.0)) (cond b ((y.type_number, Some w) ∷ []) [] ++ more) ≡ true
      by true g e = and_from (is_closed (shape y.type_number)) (all (λ (z : ℕ × Option ℕ). is_closed (shape z.0)) more) g e
      by false g e = e

  site_alike : (vs : List Variable) (v : ℕ) → (slice_index_or vs v (record { type_number = 0; word = None; site = Register })).site ≡ (slice_index_or (map slot_of vs) v no_slot).site
  site_alike [] v = refl
  site_alike (u ∷ vs) zero = refl
  site_alike (u ∷ vs) (suc v) = site_alike vs v

  store_alike : (all : ℕ) (v : Variable) (s : Site) → store_first p.types (layout p.types) all v s ≡ store_slot all (slot_of v) s
  store_alike all v Register = refl
  store_alike all v (Memory n) = refl

  stored_alike : (all : ℕ) (vs : List Variable) → stored p.types (layout p.types) all vs ≡ store_slots all (map slot_of vs)
  stored_alike all [] = refl
  stored_alike all (v ∷ vs) = ap₂ (λ a b. a >>= λ _. b) (store_alike all v v.site) (stored_alike all vs)

  opened_alike : (vs : List Variable) → opened vs ≡ open_slots (map slot_of vs)
  opened_alike [] = refl
  opened_alike (v ∷ vs) = ap (λ b. first_of v.word v.site >>= λ u. b >>= λ more. give (u ∷ more)) (opened_alike vs)

  words_same : (fs : List Formal) → words_of fs ≡ word_count (map (plain_formal p.types) fs)
  words_same fs = sym (sum_map (λ (y : I.Formal). words_by y.mode) (plain_formal p.types) fs)

  -- ---- the procedure

  module _ (f : ℕ) (there : f < length p.procedures) where
    abbrev q : Procedure
    q = procedure_of p f

    abbrev here : Here
    here = here_of p (layout p.types) f q

    lent_same : lent_in_body q ≡ lent_in x f (form q)
    lent_same = λ k v. body_lends p.types uses v q.body k || answer_lends p.types uses v q.answer k

    zeroed_same : zeroed_bytes p (layout p.types) q ≡ zeroed x f (form q)
    zeroed_same =
        of_sums (λ k. if is_structured (kind_of p.types k) then Data.room (layout p.types) k else 0) (λ s. if structured_shape s then room x s else 0) room_or_none (locals_of q) (locals_closed p well sources closed f)
        ∙ ap (λ ss. structured_room x ss) (local_shapes_same p well sources closed q)

    bytes_same : here.bytes ≡ bytes x f (form q)
    bytes_same =
        let lent : scalars_lent x (lent_in_body q) (map shape (locals_of q)) ≡ scalars_lent x (lent_in x f (form q)) (local_shapes (form q)) = λ k. scalars_lent x (lent_same k) (local_shapes_same p well sources closed q k) in
        ap₂ (λ m n. m + 8 * n) zeroed_same (scalars_same (lent_in_body q) (locals_of q) ∙ lent)

    slots_same : map slot_of here.variables ≡ slots x f (form q)
    slots_same =
        let own = map without_word q.locals in
        let list = value_parameters 0 q.formals ++ own in
        let shapes : map shaped list ≡ value_slots 0 (form q).formals ++ map shape_alone (form q).locals =
        map_append shaped (value_parameters 0 q.formals) own
        ∙ ap₂ (λ us vs. us ++ vs) (values_same 0 q.formals) (map_map shaped without_word q.locals ∙ sym (map_map shape_alone shape q.locals)) in
        let whole_closed = all_append (λ (y : ℕ × Option ℕ). is_closed (shape y.0)) (value_parameters 0 q.formals) own (values_closed 0 q.formals (formals_closed p well sources closed f))
        (all_of_map (λ (y : ℕ × Option ℕ). is_closed (shape y.0)) without_word q.locals ∙ sym (all_of_map is_closed shape q.locals) ∙ own_closed p well sources closed f) in
        placed_same (lent_in_body q) 0 (zeroed_bytes p (layout p.types) q) list whole_closed
        ∙ (λ k. placed x (lent_same k) 0 (zeroed_same k) (shapes k))

    site_same : (v : ℕ) → (Lowered.variable_of p (layout p.types) here v).site ≡ site_of x f (form q) v
    site_same v = site_alike here.variables v ∙ ap (λ vs. (slice_index_or vs v no_slot).site) slots_same

    local_alike : (s : Site) (v : ℕ) → Lowered.local_by p (layout p.types) here s v ≡ Whole.local_by here.bytes s v
    local_alike Register v = refl
    local_alike (Memory n) v = refl

    register_alike : (s : Site) → Lowered.in_register p (layout p.types) here s ≡ Whole.in_register s
    register_alike Register = refl
    register_alike (Memory n) = refl

    parameter_same : (k : ℕ) → Lowered.parameter p (layout p.types) here k ≡ (asked x f (form q)).parameter k
    parameter_same k =
        let words = words_same (take k q.formals) ∙ ap (λ ys. word_count ys) (sym (take_map (plain_formal p.types) k q.formals)) in
        parameter_alike p.types (slice_get q.formals k) (words_of (take k q.formals))
        ∙ ap₂ (λ o w. Whole.parameter_by o w) (sym (get_map (plain_formal p.types) q.formals k)) words

    answers : Answers p here (asked x f (form q))
    answers = record {
      level = level_same p well sources closed;
      descriptor = λ r. ap (λ n. within n) (descriptor_same p well sources closed r);
      global = global_same p well sources closed;
      text = λ k. ap (λ n. within n) (use_same p well sources closed f k);
      parameter = parameter_same;
      local = λ v. local_alike (Lowered.variable_of p (layout p.types) here v).site v ∙ (λ k. Whole.local_by (bytes_same k) (site_same v k) v);
      register = λ v. register_alike (Lowered.variable_of p (layout p.types) here v).site ∙ ap (λ s. Whole.in_register s) (site_same v);
      size = size_same p well sources closed;
      whole = counted_same p well sources closed;
      whole_bytes = whole_bytes_same p well sources closed;
      place = place_same p well sources closed;
    }

    parts_fine : (all (fine p f) q.body ≡ true) × (answer_fine p f (form_of p q.result) q.answer ≡ true)
    parts_fine =
        let last = answer_fine p f (form_of p q.result) q.answer in
        and_of (all (fine p f) q.body) last (and_of (all (formal_legal p.types) q.formals) (all (fine p f) q.body && last) (procedures_are_fine p well f there)).1

    body_same : deeds_of p (layout p.types) here q.body ≡ low_statements (asked x f (form q)) (form q).body
    body_same = same_body p here (asked x f (form q)) answers (are_closed p well sources closed f) q.body parts_fine.0

    answer_same : answer p (layout p.types) here q.answer ≡ low_answer (asked x f (form q)) (form q).answer
    answer_same = same_answer p here (asked x f (form q)) answers (are_closed p well sources closed f) (form_of p q.result) q.answer parts_fine.1

    whole_same : whole p (layout p.types) here (words_of q.formals) (zeroed_bytes p (layout p.types) q) ≡ low_whole x f (form q) (word_count (form q).formals)
    whole_same =
        let words = words_same q.formals in
        let some = structured_any q.locals in
        let store = stored_alike here.bytes here.variables ∙ (λ k. store_slots (bytes_same k) (slots_same k)) in
        let open_all = opened_alike here.variables ∙ ap (λ vs. open_slots vs) slots_same in
        λ k. further 4 (words k - 4) >>= λ _. zeroing (some k) (bytes_same k) (zeroed_same k) >>= λ _. store k >>= λ _. open_all k >>= λ env. enter env >>= λ _. body_same k >>= λ _. answer_same k

    pub made_same : made_of p (layout p.types) f q ≡ low_made x f (form q)
    made_same = λ k. whole_same k (at_entry (words_same q.formals k))

    pub cells_all : sum (map (λ k. cells p.types k) (locals_of q)) ≡ sum (map (λ s. cells_in x s) (local_shapes (form q)))
    cells_all =
        ap sum (of_shapes p well sources closed (λ k. cells p.types k) (λ s. cells_in x s) (cells_same p well sources closed) (locals_of q) (locals_closed p well sources closed f))
        ∙ ap (λ ss. sum (map (λ s. cells_in x s) ss)) (local_shapes_same p well sources closed q)

    pub procedure_same : proc_of p (layout p.types) f q ≡ low_procedure x f (form q)
    procedure_same = λ k. record {
      blocks = blocks_of (entry (words_same q.formals k)) [] (Return (made_same k).result) (made_same k).pieces;
      values = (made_same k).after.values;
      args = words_same q.formals k;
      counted = not q.is_body;
      local_cells = cells_all k;
      local_bytes = bytes_same k;
    }
