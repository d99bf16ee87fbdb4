-- Types, variables and procedures: where they end, each pointer type points to a record type, and constants are in range.
use Rattle.std.proofs.Common.{◌≡◌, ℕ, ◌+◌, List, [], ◌∷◌, ◌++◌, length, true, false, ◌&&◌, Option, Some, None, refl, sym, ◌∙◌, subst, Bool, ◌⊎◌, inl, inr}
use Rattle.std.specs.Prelude.{is_none, nat_le, slice_set, is_some, if◌then◌else◌}
use Rattle.ob_types.proofs.Tests.{none_some}
use Rattle.ob_syntax.specs.Syntax as S
use Rattle.ob_syntax.specs.declared.names.Identdef.{Identdef}
use Rattle.ob_types.specs.Trees.{rounded_extent}
use Rattle.ob_judge.specs.Judged.{Judged, Keeps, Breaks, ◌>>=◌, rule, some}
use Rattle.ob_judge.specs.Shapes.{Shape, Record, Pointer, Procedure, Layout}
use Rattle.std.specs.Str.{bytes_eq}
use Rattle.ob_judge.specs.Scopes.{AType, AVariable, Source, no_names, look_up, place, spelled}
use Rattle.ob_judge.specs.Statements.{body_of}
use Rattle.ob_judge.specs.Cases.{entry_object}
use Rattle.ob_judge.specs.Making.{Making, Part, ◌>>>◌, here, last_names, without_last, with_known, no_layout, set_base, later, aside, no_procedure}
use Rattle.ob_judge.specs.Parameters.{type_at, formal_part, idents_list, symbols_of}
use Rattle.ob_judge.specs.Types.{limit, array_length, array_lengths, arrays, base_layout, record_only, record_object, stand_fields, add_fields, among_fields, forward_name, type_part, fields_part, more_part, place_of_type}
use Rattle.ob_judge.specs.Declarations.{each, type_decl_part, forward_base, types_part, variable_part, var_part, home_here, place_here, consts_in, types_in, vars_in, answer, decls_part, procedures_part}
use Rattle.judged_well.specs.Gives.{Gives}
use Rattle.judged_well.specs.Standing.{IsRead}
use Rattle.judged_modules.specs.Agrees.{bases_of}
use Rattle.judged_modules.specs.Sound.{AllNames}
use Rattle.judged_well.proofs.Judging.{keeps, breaks, weaken, and_then, anything}
use Rattle.judged_outlines.specs.ends.Ends.{ObjectInRange, OffersInRange}
use Rattle.judged_outlines.proofs.ends.Onward.{Waits, Unset, set_unset, more_unset, waits_more, waits_last, Onward, OnwardTo, calm, quiet, onward, onward_on, o_next, o_look, o_from, Above, AboveTo, above, above_by, above_on, a_next, a_by, a_look, a_from, names_more, names_fewer}
use Rattle.judged_outlines.proofs.ends.Names.{h_stand, h_declared, h_consts, h_heading}

module _ (p : Source) (read : IsRead p) where
  -- ---- types

  k_stand_fields : (xs : List Identdef) (g : Layout) (s : Making) → Gives (OnwardTo s) (stand_fields p xs g s)
  k_stand_fields [] g s = keeps (OnwardTo s) (tt, s) (onward s)
  k_stand_fields (x ∷ xs) g s = o_next (o_look (rule 36 (place p x.name) (is_none (g.fields (spelled p x.name)))) s) (λ r. o_next (h_stand p read (x.name ∷ []) r.1) (λ q. k_stand_fields xs g q.1))

  k_among : {A : Type 0} (m : Part A) (s : Making) → Gives (OnwardTo (record s { standing = [] })) (m (record s { standing = [] })) → Gives (OnwardTo s) (among_fields m s)
  k_among m s g = and_then g (λ r h. keeps (OnwardTo s) (r.0, record r.1 { standing = s.standing })
      (record { modules = h.modules; part = h.part; waiting = h.waiting; unset = h.unset; names = h.names; objects = h.objects }))

  k_aside : {A : Type 0} (m : Part A) (s : Making) → Gives (OnwardTo s) (aside m s)
  k_aside m s = and_then (anything (m (record s { standing = [] }))) (λ r h. keeps (OnwardTo s) (r.0, s) (onward s))

  abbrev with_record : Making → Making
  with_record s = with_known (λ k. record k { records = k.records ++ no_layout ∷ [] }) s

  abbrev with_pointer : Making → Making
  with_pointer s = with_known (λ k. record k { bases = k.bases ++ None ∷ [] }) s

  -- only in a TYPE part a base may come later
  later_part : (s : Making) (base : S.TypeTree) (name : ℕ) → forward_name p s base ≡ Some name → s.is_type_part ≡ true
  later_part s (S.Named q) name h = by s.is_type_part (is_none q.member) (is_none (look_up (spelled p q.name) s.world.levels)) h
    where
      by : (a b c : Bool) → (if a && b && c then Some q.name else None) ≡ Some name → a ≡ true
      by true b c h = refl
      by false b c h = none_some name h
  later_part s (S.Array i first more j element) name h = none_some name h
  later_part s (S.Record i base first more j) name h = none_some name h
  later_part s (S.Pointer i j base) name h = none_some name h
  later_part s (S.Procedure i formals) name h = none_some name h

  pointer_waits : (s : Making) (name : ℕ) → s.is_type_part ≡ true → Onward s (record (with_pointer s) { forward = s.forward ++ (length s.world.known.bases, name) ∷ [] })
  pointer_waits s name part = record {
    modules = refl;
    part = refl;
    waiting = λ n w. waits_more n s.forward (length s.world.known.bases, name) w;
    unset = λ n h. elim (more_unset s.world.known.bases n h) as (λ _. Unset (bases_of s) n ⊎ ((s.is_type_part ≡ true) × Waits n (s.forward ++ (length s.world.known.bases, name) ∷ []))) [
      | inl k ↦ inl k
      | inr e ↦ inr (part, subst (λ k. Waits k (s.forward ++ (length s.world.known.bases, name) ∷ [])) (sym e) (waits_last (length s.world.known.bases) name s.forward))
    ];
    names = λ r. r.names;
    objects = λ r os. os;
  }

  abbrev based : ℕ → ℕ → Making → Making
  based n r s = with_known (λ k. record k { bases = slice_set k.bases n (Some r) }) s

  pointer_set : (s t : Making) (r : ℕ) → Onward (with_pointer s) t → Onward s (based (length s.world.known.bases) r t)
  pointer_set s t r g = record {
    modules = g.modules;
    part = g.part;
    waiting = g.waiting;
    unset = λ n h.
        let k = set_unset t.world.known.bases (length s.world.known.bases) r n h in
        elim (g.unset n k.0) as (λ _. Unset (bases_of s) n ⊎ ((s.is_type_part ≡ true) × Waits n t.forward)) [
          | inl a ↦ elim (more_unset s.world.known.bases n a) as (λ _. Unset (bases_of s) n ⊎ ((s.is_type_part ≡ true) × Waits n t.forward)) [ inl b ↦ inl b | inr e ↦ absurd (k.1 e) ]
          | inr a ↦ inr a
        ];
    names = λ h. g.names (record { names = h.names; members = h.members });
    objects = λ h os. g.objects (record { names = h.names; members = h.members }) os;
  }

  k_pointed : (s : Making) (base : S.TypeTree) (judged : Part Shape) (o : Option ℕ) → forward_name p (with_pointer s) base ≡ o → Gives (OnwardTo (with_pointer s)) (judged (with_pointer s))
      → Gives (OnwardTo s) (elim o as (λ _. Judged (Unit {0} × Making)) [
        | Some name ↦ later (length s.world.known.bases) name (with_pointer s)
        | None ↦ (judged >>> λ t. here (λ w. some 31 (place_of_type p base) (record_only t)) >>> λ r. set_base (length s.world.known.bases) r) (with_pointer s)
      ])
  k_pointed s base judged (Some name) is g = keeps (OnwardTo s) (tt, record (with_pointer s) { forward = s.forward ++ (length s.world.known.bases, name) ∷ [] }) (pointer_waits s name (later_part (with_pointer s) base name is))
  k_pointed s base judged None is g = and_then g (λ t h. and_then (o_look (some 31 (place_of_type p base) (record_only t.0)) t.1) (λ r k.
      keeps (OnwardTo s) (tt, based (length s.world.known.bases) r.0 r.1) (pointer_set s r.1 r.0 (onward_on (with_pointer s) t.1 r.1 h k))))

  mutual
    k_type : (x : S.TypeTree) (s : Making) → Gives (OnwardTo s) (type_part p x s)
    k_type (S.Named q) s = o_look (type_at p 31 q s.world) s
    k_type (S.Array i first more j element) s = o_next (o_look (array_length p first s.world) s) (λ n. o_next (o_look (array_lengths p more n.1.world) n.1) (λ ns.
        o_next (k_type element ns.1) (λ a. o_look (arrays (place p i) (n.0 ∷ ns.0) a.0 a.1.world) a.1)))
    k_type (S.Record i base first more j) s =
        let n = length s.world.known.records in
        o_from s (with_record s) (quiet s (with_record s) refl refl refl refl refl refl)
        (o_next (o_look (base_layout p base (with_record s).world) (with_record s)) (λ b.
        o_next (k_among (fields_part p n first (record (b.0) { added = [] }) >>> λ g. more_part p n more g) b.1
        (o_next (k_fields n first (record (b.0) { added = [] }) (record (b.1) { standing = [] })) (λ g. k_more n more g.0 g.1))) (λ g.
        o_next (o_look (rule 35 (place p i) (nat_le (g.0).cells limit)) g.1) (λ u.
        keeps (OnwardTo u.1) (Record n, with_known (λ k. record k { records = slice_set k.records n (record (g.0) { module_number = u.1.world.module_number; line = n ∷ (g.0).line; extent = rounded_extent (g.0).extent }) }) u.1) (quiet u.1 _ refl refl refl refl refl refl)))))
    k_type (S.Pointer i j base) s = o_next (k_pointed s base (type_part p base) (forward_name p (with_pointer s) base) refl (k_type base (with_pointer s))) (λ r. keeps (OnwardTo r.1) (Pointer (length s.world.known.bases), r.1) (onward r.1))
    k_type (S.Procedure i formals) s = o_next (k_aside (formal_part p false formals) s) (λ r. keeps (OnwardTo r.1) (Procedure ((r.0).0).formals (r.0).1, r.1) (onward r.1))

    k_fields : (n : ℕ) (x : S.MaybeFields) (g : Layout) (s : Making) → Gives (OnwardTo s) (fields_part p n x g s)
    k_fields n S.no_fields g s = keeps (OnwardTo s) (g, s) (onward s)
    k_fields n (S.fields names colon of) g s = o_next (k_stand_fields (idents_list names) g s) (λ u. o_next (k_type of u.1) (λ a. keeps (OnwardTo a.1) (add_fields p n a.1.world a.0 (idents_list names) g, a.1) (onward a.1)))

    k_more : (n : ℕ) (x : S.NextFields) (g : Layout) (s : Making) → Gives (OnwardTo s) (more_part p n x g s)
    k_more n S.no_more_fields g s = keeps (OnwardTo s) (g, s) (onward s)
    k_more n (S.next_fields semicolon one rest) g s = o_next (k_fields n one g s) (λ h. k_more n rest h.0 h.1)

  -- ---- TYPE and VAR

  k_each : {X : Type 0} (f : X → Part (Unit {0})) → ((x : X) (s : Making) → Gives (OnwardTo s) (f x s)) → (xs : List X) (s : Making) → Gives (OnwardTo s) (each f xs s)
  k_each f g [] s = keeps (OnwardTo s) (tt, s) (onward s)
  k_each f g (x ∷ xs) s = o_next (g x s) (λ r. k_each f g xs r.1)

  k_type_decl : (d : S.TypeDecl) (s : Making) → Gives (OnwardTo s) (type_decl_part p d s)
  k_type_decl d s = o_next (h_stand p read (d.name.name ∷ []) s) (λ r. o_next (k_type d.is r.1) (λ a. h_declared p read d.name (AType a.0) a.1 (λ r. tt)))

  -- the bases at the end of a TYPE part: those that come later are set then
  record Based (fs : List (ℕ × ℕ)) (s t : Making) : Type 0 where
    modules : t.world.modules ≡ s.world.modules
    levels : t.world.levels ≡ s.world.levels
    part : t.is_type_part ≡ s.is_type_part
    objects : t.objects ≡ s.objects
    unset : (n : ℕ) → Unset (bases_of t) n → Unset (bases_of s) n × (Waits n fs → ⊥)

  b_look : {A : Type 0} (m : Judged A) (s : Making) → Gives (λ (r : A × Making). r.1 ≡ s) (m >>= λ a. Keeps (a, s))
  b_look {A = A} (Keeps a) s = keeps (λ (r : A × Making). r.1 ≡ s) (a, s) refl
  b_look {A = A} (Breaks n at) s = breaks (λ (r : A × Making). r.1 ≡ s) n at

  based_one : (k : ℕ × ℕ) (r : ℕ) (s : Making) → Based (k ∷ []) s (based k.0 r s)
  based_one k r s = record {
    modules = refl;
    levels = refl;
    part = refl;
    objects = refl;
    unset = λ n h. let u = set_unset s.world.known.bases k.0 r n h in (u.0, λ w. elim w as (λ _. ⊥) [ inl e ↦ u.1 (sym e) | inr a ↦ absurd a ]);
  }

  based_more : (k : ℕ × ℕ) (ks : List (ℕ × ℕ)) (s t u : Making) → Based (k ∷ []) s t → Based ks t u → Based (k ∷ ks) s u
  based_more k ks s t u g h = record {
    modules = h.modules ∙ g.modules;
    levels = h.levels ∙ g.levels;
    part = h.part ∙ g.part;
    objects = h.objects ∙ g.objects;
    unset = λ n x. let b = h.unset n x in let a = g.unset n b.0 in (a.0, λ w. elim w as (λ _. ⊥) [ inl e ↦ a.1 (inl e) | inr v ↦ b.1 v ]);
  }

  k_forward : (k : ℕ × ℕ) (s : Making) → Gives (λ (r : Unit {0} × Making). Based (k ∷ []) s r.1) (forward_base p k s)
  k_forward k s = and_then (b_look (some 30 (place p k.1) (entry_object (last_names s.world.levels (spelled p k.1)))) s) (λ o a. and_then (b_look (some 31 (place p k.1) (record_object o.0)) o.1) (λ r b.
      keeps (λ (r : Unit {0} × Making). Based (k ∷ []) s r.1) (tt, based k.0 r.0 r.1) (subst (λ u. Based (k ∷ []) s (based k.0 r.0 u)) (sym (b ∙ a)) (based_one k r.0 s))))

  k_forwards : (ks : List (ℕ × ℕ)) (s : Making) → Gives (λ (r : Unit {0} × Making). Based ks s r.1) (each (forward_base p) ks s)
  k_forwards [] s = keeps (λ (r : Unit {0} × Making). Based [] s r.1) (tt, s) (record { modules = refl; levels = refl; part = refl; objects = refl; unset = λ n h. (h, λ w. w) })
  k_forwards (k ∷ ks) s = and_then (k_forward k s) (λ r h. weaken (k_forwards ks r.1) (λ q g. based_more k ks s r.1 q.1 h g))

  abbrev typing : Making → Making
  typing s = record s { is_type_part = true; forward = [] }

  abbrev typed : Making → Making
  typed s = record s { is_type_part = false }

  typed_above : (s t u : Making) → Onward (typing s) t → Based t.forward (typed t) u → Above s u
  typed_above s t u g h = record {
    modules = h.modules ∙ g.modules;
    part = λ e. h.part;
    unset = λ e n x. let b = h.unset n x in elim (g.unset n b.0) as (λ _. Unset (bases_of s) n) [ inl y ↦ y | inr y ↦ absurd (b.1 y.1) ];
    names = λ r. subst (AllNames ObjectInRange) (sym h.levels) (g.names r);
    objects = λ r os. subst OffersInRange (sym h.objects) (g.objects r os);
  }

  pub k_types : (ds : List S.TypeDecl) (s : Making) → Gives (AboveTo s) (types_part p ds s)
  k_types ds s = and_then (k_each (type_decl_part p) k_type_decl ds (typing s)) (λ r h. weaken (k_forwards r.1.forward (typed r.1)) (λ q g. typed_above s r.1 q.1 h g))

  k_variable : (a : Shape) (x : Identdef) (s : Making) → Gives (OnwardTo s) (variable_part p a x s)
  k_variable a x s = o_next (h_declared p read x (AVariable (record { shape = a; place = place_here s.world.procedure s.world.module_number (s.values + length s.variables); home = home_here s.world.procedure; owner = s.world.module_number; procedure = s.world.procedure })) s (λ r. tt))
      (λ r. keeps (OnwardTo r.1) (tt, record r.1 { variables = r.1.variables ++ a ∷ [] }) (quiet r.1 _ refl refl refl refl refl refl))

  k_var : (d : S.VarDecl) (s : Making) → Gives (OnwardTo s) (var_part p d s)
  k_var d s = o_next (h_stand p read (symbols_of (idents_list d.names)) s) (λ r. o_next (k_type d.of r.1) (λ a. k_each (variable_part p a.0) (k_variable a.0) (idents_list d.names) a.1))

  pub k_vars : (ds : List S.VarDecl) (s : Making) → Gives (OnwardTo s) (each (var_part p) ds s)
  k_vars ds s = k_each (var_part p) k_var ds s

  -- ---- procedures, and all declarations of a scope

  abbrev enter : ℕ → Making → Making
  enter f s = record s { world = record s.world { levels = s.world.levels ++ no_names ∷ []; procedure = Some f }; standing = []; values = 0; variables = [] }

  abbrev leave : Making → Making → Making
  leave s t = record s { world = record s.world { levels = without_last t.world.levels; known = t.world.known }; objects = t.objects; procedures = t.procedures }

  abbrev with_heading : Making → Making
  with_heading s = record s { procedures = s.procedures ++ no_procedure ∷ [] }

  enters : (f : ℕ) (s : Making) → Above s (enter f s)
  enters f s = above_by s (enter f s) (calm s (enter f s) refl refl refl refl (λ r. names_more ObjectInRange s.world.levels r.names) (λ r os. os))

  leaves : (s t : Making) → Above s t → Above s (leave s t)
  leaves s t h = record {
    modules = refl;
    part = λ e. e;
    unset = h.unset;
    names = λ r. names_fewer ObjectInRange t.world.levels (h.names r);
    objects = h.objects;
  }

  a_within : (f : ℕ) (s : Making) (m : Judged (Unit {0} × Making)) → Gives (AboveTo (enter f s)) m → Gives (AboveTo s) (m >>= λ q. Keeps (q.0, leave s q.1))
  a_within f s m g = and_then g (λ q h. keeps (AboveTo s) (q.0, leave s q.1) (leaves s q.1 (above_on s (enter f s) q.1 (enters f s) h)))

  mutual
    pub k_decls : (d : S.Decls) (s : Making) → Gives (AboveTo s) (decls_part p d s)
    k_decls (S.decls consts types vars procedures) s =
        a_next (a_by (h_consts p read (consts_in consts) s)) (λ a. a_next (k_types (types_in types) a.1) (λ b. a_next (a_by (k_vars (vars_in vars) b.1)) (λ c. k_procedures procedures c.1)))

    k_procedures : (x : S.Procedures) (s : Making) → Gives (AboveTo s) (procedures_part p x s)
    k_procedures S.no_procedure s = keeps (AboveTo s) (tt, s) (above s)
    k_procedures (S.procedure procedure_word name formals semicolon inner body returned end_word end_name last rest) s =
        a_next (a_by (h_stand p read (name.name ∷ []) s)) (λ r.
        a_from r.1 (with_heading r.1) (above_by r.1 (with_heading r.1) (quiet r.1 (with_heading r.1) refl refl refl refl refl refl))
        (a_next (a_within (length r.1.procedures) (with_heading r.1) _
        (a_next (a_by (h_heading p read (length r.1.procedures) name formals (is_some r.1.world.procedure) (enter (length r.1.procedures) (with_heading r.1)))) (λ h.
        a_next (k_decls inner h.1) (λ d.
        a_next (a_look (body_of p d.1.world body) d.1) (λ b.
        a_next (a_look (answer p (h.0).1 end_word returned b.1.world) b.1) (λ a.
        a_next (a_look (rule 37 (place p end_name) (bytes_eq (spelled p end_name) (spelled p name.name))) a.1) (λ u.
        keeps (AboveTo u.1) (tt, _) (above_by u.1 _ (quiet u.1 _ refl refl refl refl refl refl)))))))))
        (λ e. k_procedures rest e.1)))
