-- Types that are judged are closed, and so are parameters.
use Rattle.std.proofs.Common.{◌≡◌, ℕ, ◌+◌, List, [], ◌∷◌, ◌++◌, length, Bool, true, false, Option, Some, None, refl}
use Rattle.std.specs.Prelude.{slice_set, nat_le, is_some, is_none}
use Rattle.ob_types.specs.Forms.{all}
use Rattle.ob_types.specs.Trees.{rounded_extent}
use Rattle.ob_types.proofs.Tests.{and_from}
use Rattle.ob_syntax.specs.Syntax as S
use Rattle.ob_syntax.specs.declared.names.Identdef.{Identdef}
use Rattle.ob_judge.specs.Judged.{Judged, rule, some}
use Rattle.ob_judge.specs.Shapes.{Shape, Array, Record, Pointer, Procedure, Nothing, Layout, cells}
use Rattle.ob_judge.specs.Scopes.{World, Source, place, spelled}
use Rattle.ob_judge.specs.Names.{member_symbol}
use Rattle.ob_judge.specs.Making.{Making, Part, ◌>>>◌, here, with_known, no_layout, set_base, later, aside}
use Rattle.ob_judge.specs.Parameters.{Listed, no_parameters, listed, opened, mode_of, parameter_variable, next_names, idents_list, type_at, add_parameters, section, next_sections, sections, result_shape, formal_part}
use Rattle.ob_judge.specs.Parameters.{words_of as words_of_shape}
use Rattle.ob_judge.specs.Types.{limit, array_length, array_lengths, arrays, base_layout, record_only, stand_fields, add_fields, among_fields, forward_name, type_part, fields_part, more_part, place_of_type}
use Rattle.judged_well.specs.Gives.{Gives}
use Rattle.judged_well.proofs.Judging.{keeps, and_then, anything, by_rule}
use Rattle.one_lowering.specs.Forms.{is_type, is_closed}
use Rattle.text_laws.proofs.judged_shapes.Closed.{IsWhole, fields_closed, Fine, Kept, kept, Any, s_next, s_look, s_pass, all_set, all_more, fine_declared, s_stand, known_type}

-- ---- what is known of record and pointer types

abbrev with_record : Making → Making
with_record s = with_known (λ k. record k { records = k.records ++ no_layout ∷ [] }) s

fine_with_record : (s : Making) → Fine s → Fine (with_record s)
fine_with_record s h = record { names = h.names; members = h.members; fields = all_more fields_closed s.world.known.records no_layout h.fields refl; variables_ = h.variables_; procedures_ = h.procedures_ }

fine_set_record : (s : Making) (n : ℕ) (l : Layout) → fields_closed l ≡ true → Fine s → Fine (with_known (λ k. record k { records = slice_set k.records n l }) s)
fine_set_record s n l good h = record { names = h.names; members = h.members; fields = all_set fields_closed s.world.known.records n l h.fields good; variables_ = h.variables_; procedures_ = h.procedures_ }

pub fine_bases : (s : Making) (bases : List (Option ℕ)) → Fine s → Fine (with_known (λ k. record k { bases = bases }) s)
fine_bases s bases h = record { names = h.names; members = h.members; fields = h.fields; variables_ = h.variables_; procedures_ = h.procedures_ }

-- ---- parameters

abbrev pub parameters_closed : Listed → Type 0
parameters_closed l = all (λ x. is_closed x.shape) l.parameters ≡ true

module _ (p : Source) where
  opened_closed : (b : Bool) (a : Shape) → IsWhole a → is_closed (opened b a) ≡ true
  opened_closed true a h = and_from (is_type a) (is_closed a) h.0 h.1
  opened_closed false a h = h.1

  one_more : (v : Bool) (a : Shape) (l : Listed) → is_closed a ≡ true → parameters_closed l → parameters_closed (listed v a l)
  one_more v a l good h = all_more (λ x. is_closed x.shape) l.parameters (record { mode = mode_of v a; variable = v; shape = a }) h good

  h_add : (b : Bool) (v : Bool) (a : Shape) → is_closed a ≡ true → (is : List ℕ) (l : Listed) → parameters_closed l → (s : Making) → Fine s → Gives (Kept parameters_closed) (add_parameters p b v a is l s)
  h_add b v a good [] l h s fine = kept parameters_closed l s fine h
  h_add false v a good (i ∷ is) l h s fine =
      s_next (s_pass (rule 40 (place p i) (nat_le (l.words + words_of_shape v a) 24)) s fine) (λ r fine_r _. h_add false v a good is (listed v a l) (one_more v a l good h) r.1 fine_r)
  h_add true v a good (i ∷ is) l h s fine =
      s_next (s_pass (rule 40 (place p i) (nat_le (l.words + words_of_shape v a) 24)) s fine) (λ r fine_r _.
      h_add true v a good is (listed v a l) (one_more v a l good h) _
      (fine_declared (spelled p i) (record { object = parameter_variable v a (r.1).values (length l.parameters) (r.1).world; exported = false }) r.1 tt fine_r))

  h_section : (b : Bool) (x : S.Section) (l : Listed) → parameters_closed l → (s : Making) → Fine s → Gives (Kept parameters_closed) (section p b x l s)
  h_section b x l h s fine =
      s_next (s_stand p (x.first ∷ next_names x.more) s fine) (λ r fine_r _.
      s_next (s_look IsWhole (type_at p 31 x.of (r.1).world) r.1 fine_r (known_type p r.1 fine_r 31 (x.of).name (member_symbol (x.of).member))) (λ a fine_a whole.
      h_add b (is_some x.var_word) (opened (is_some x.open_array) a.0) (opened_closed (is_some x.open_array) a.0 whole) (x.first ∷ next_names x.more) l h a.1 fine_a))

  h_sections : (b : Bool) (xs : List S.NextSection) (l : Listed) → parameters_closed l → (s : Making) → Fine s → Gives (Kept parameters_closed) (next_sections p b xs l s)
  h_sections b [] l h s fine = kept parameters_closed l s fine h
  h_sections b (x ∷ xs) l h s fine = s_next (h_section b x.section l h s fine) (λ r fine_r more. h_sections b xs r.0 more r.1 fine_r)

  h_all : (b : Bool) (x : Option S.Sections) (s : Making) → Fine s → Gives (Kept parameters_closed) (sections p b x s)
  h_all b None s fine = kept parameters_closed no_parameters s fine refl
  h_all b (Some x) s fine = s_next (h_section b x.first no_parameters refl s fine) (λ r fine_r more. h_sections b x.more r.0 more r.1 fine_r)

  -- the parameters of a heading
  abbrev pub heading_closed : Listed × Shape → Type 0
  heading_closed h = parameters_closed h.0

  pub h_formals : (b : Bool) (x : Option S.Formals) (s : Making) → Fine s → Gives (Kept heading_closed) (formal_part p b x s)
  h_formals b None s fine = kept heading_closed (no_parameters, Nothing) s fine refl
  h_formals b (Some x) s fine =
      s_next (h_all b x.sections s fine) (λ r fine_r closed.
      s_next (s_pass (result_shape p x.result (r.1).world) r.1 fine_r) (λ a fine_a _.
      kept heading_closed (r.0, a.0) a.1 fine_a closed))

  -- ---- arrays

  whole_array : (n : ℕ) (a : Shape) → IsWhole a → IsWhole (Array n a)
  whole_array n a h = (refl, and_from (is_type a) (is_closed a) h.0 h.1)

  whole_arrays : (at : ℕ) (ns : List ℕ) (a : Shape) (v : World) → IsWhole a → Gives IsWhole (arrays at ns a v)
  whole_arrays at [] a v h = keeps IsWhole a h
  whole_arrays at (n ∷ ns) a v h = and_then (whole_arrays at ns a v h) (λ inner k. by_rule 35 at (nat_le (cells v.known (Array n inner)) limit) (λ ok. keeps IsWhole (Array n inner) (whole_array n inner k)))

  -- ---- fields

  abbrev layout_closed : Layout → Type 0
  layout_closed g = fields_closed g ≡ true

  s_stand_fields : (xs : List Identdef) (g : Layout) (s : Making) → Fine s → Gives (Kept Any) (stand_fields p xs g s)
  s_stand_fields [] g s fine = kept Any tt s fine tt
  s_stand_fields (x ∷ xs) g s fine =
      s_next (s_pass (rule 36 (place p x.name) (is_none (g.fields (spelled p x.name)))) s fine) (λ r fine_r _.
      s_next (s_stand p (x.name ∷ []) r.1 fine_r) (λ q fine_q _. s_stand_fields xs g q.1 fine_q))

  fields_added : (n : ℕ) (v : World) (a : Shape) → is_closed a ≡ true → (xs : List Identdef) (g : Layout) → layout_closed g → layout_closed (add_fields p n v a xs g)
  fields_added n v a good [] g h = h
  fields_added n v a good (x ∷ xs) g h = fields_added n v a good xs _ (all_more (λ x. is_closed x.shape) g.added (record { name = spelled p x.name; exported = is_some x.star; shape = a }) h good)

  s_among : {A : Type 0} (P : A → Type 0) (m : Part A) (s : Making) → Gives (Kept P) (m (record s { standing = [] })) → Gives (Kept P) (among_fields m s)
  s_among P m s g = s_next g (λ r fine h. kept P r.0 (record (r.1) { standing = s.standing }) fine h)

  -- ---- types

  s_pointed : (s : Making) (n : ℕ) (base : S.TypeTree) (judged : Part Shape) (o : Option ℕ) → Fine s → Gives (Kept IsWhole) (judged s)
      → Gives (Kept Any) (elim o as (λ _. Judged (Unit {0} × Making)) [
        | Some name ↦ later n name s
        | None ↦ (judged >>> λ t. here (λ v. some 31 (place_of_type p base) (record_only t)) >>> λ r. set_base n r) s
      ])
  s_pointed s n base judged (Some name) fine g = kept Any tt (record s { forward = s.forward ++ (n, name) ∷ [] }) fine tt
  s_pointed s n base judged None fine g = s_next g (λ t fine_t whole. s_next (s_pass (some 31 (place_of_type p base) (record_only t.0)) t.1 fine_t) (λ r fine_r _.
      kept Any tt (with_known (λ x. record x { bases = slice_set x.bases n (Some r.0) }) r.1) (fine_bases r.1 (slice_set (r.1).world.known.bases n (Some r.0)) fine_r) tt))

  s_aside : {A : Type 0} (m : Part A) (s : Making) → Fine s → Gives (Kept Any) (aside m s)
  s_aside m s fine = and_then (anything (m (record s { standing = [] }))) (λ r h. kept Any r.0 s fine tt)

  mutual
    pub s_type : (x : S.TypeTree) (s : Making) → Fine s → Gives (Kept IsWhole) (type_part p x s)
    s_type (S.Named q) s fine = s_look IsWhole (type_at p 31 q s.world) s fine (known_type p s fine 31 q.name (member_symbol q.member))
    s_type (S.Array i first more j element) s fine =
        s_next (s_pass (array_length p first s.world) s fine) (λ n fine_n _.
        s_next (s_pass (array_lengths p more (n.1).world) n.1 fine_n) (λ ns fine_ns _.
        s_next (s_type element ns.1 fine_ns) (λ a fine_a whole.
        s_look IsWhole (arrays (place p i) (n.0 ∷ ns.0) a.0 (a.1).world) a.1 fine_a (whole_arrays (place p i) (n.0 ∷ ns.0) a.0 (a.1).world whole))))
    s_type (S.Record i base first more j) s fine =
        let n = length s.world.known.records in
        let begun = with_record s in
        s_next (s_pass (base_layout p base begun.world) begun (fine_with_record s fine)) (λ b fine_b _.
        s_next (s_among layout_closed (fields_part p n first (record (b.0) { added = [] }) >>> λ g. more_part p n more g) b.1
        (s_next (s_fields n first (record (b.0) { added = [] }) refl (record (b.1) { standing = [] }) fine_b) (λ g fine_g closed. s_more n more g.0 closed g.1 fine_g))) (λ g fine_g closed.
        s_next (s_pass (rule 35 (place p i) (nat_le (g.0).cells limit)) g.1 fine_g) (λ u fine_u _.
        let l : Layout = record (g.0) { module_number = (u.1).world.module_number; line = n ∷ (g.0).line; extent = rounded_extent (g.0).extent } in
        kept IsWhole (Record n) (with_known (λ k. record k { records = slice_set k.records n l }) u.1) (fine_set_record u.1 n l closed fine_u) (refl, refl))))
    s_type (S.Pointer i j base) s fine =
        let n = length s.world.known.bases in
        let begun = with_known (λ k. record k { bases = k.bases ++ None ∷ [] }) s in
        let fine_begun = fine_bases s (s.world.known.bases ++ None ∷ []) fine in
        s_next (s_pointed begun n base (type_part p base) (forward_name p begun base) fine_begun (s_type base begun fine_begun)) (λ r fine_r _.
        kept IsWhole (Pointer n) r.1 fine_r (refl, refl))
    s_type (S.Procedure i formals) s fine =
        s_next (s_aside (formal_part p false formals) s fine) (λ r fine_r _. kept IsWhole (Procedure ((r.0).0).formals (r.0).1) r.1 fine_r (refl, refl))

    s_fields : (n : ℕ) (x : S.MaybeFields) (g : Layout) → layout_closed g → (s : Making) → Fine s → Gives (Kept layout_closed) (fields_part p n x g s)
    s_fields n S.no_fields g h s fine = kept layout_closed g s fine h
    s_fields n (S.fields names colon of) g h s fine =
        s_next (s_stand_fields (idents_list names) g s fine) (λ u fine_u _.
        s_next (s_type of u.1 fine_u) (λ a fine_a whole.
        kept layout_closed (add_fields p n (a.1).world a.0 (idents_list names) g) a.1 fine_a (fields_added n (a.1).world a.0 whole.1 (idents_list names) g h)))

    s_more : (n : ℕ) (x : S.NextFields) (g : Layout) → layout_closed g → (s : Making) → Fine s → Gives (Kept layout_closed) (more_part p n x g s)
    s_more n S.no_more_fields g h s fine = kept layout_closed g s fine h
    s_more n (S.next_fields semicolon one rest) g h s fine = s_next (s_fields n one g h s fine) (λ f fine_f closed. s_more n rest f.0 closed f.1 fine_f)
