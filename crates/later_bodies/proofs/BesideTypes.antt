-- Types and variables don't read the procedures.
use Rattle.std.proofs.Common.{ℕ, ◌+◌, List, [], ◌∷◌, ◌++◌, length, true, false, Option, Some, None, sym, ap, ◌∙◌}
use Rattle.std.specs.Prelude.{is_none, nat_le, slice_set}
use Rattle.ob_syntax.specs.Syntax as S
use Rattle.ob_syntax.specs.declared.names.Identdef.{Identdef}
use Rattle.ob_types.specs.Trees.{rounded_extent}
use Rattle.ob_judge.specs.Judged.{Judged, Keeps, ◌>>=◌, rule, some}
use Rattle.ob_judge.specs.Shapes.{Shape, Record, Pointer, Layout}
use Rattle.ob_judge.specs.Shapes.{Procedure as ProcedureOf}
use Rattle.ob_judge.specs.Image.{Procedure}
use Rattle.ob_judge.specs.Scopes.{AType, AVariable, Source, place, spelled}
use Rattle.ob_judge.specs.Cases.{entry_object}
use Rattle.ob_judge.specs.Making.{Making, Part, ◌>>>◌, here, last_names, with_known, no_layout, set_base, later, aside}
use Rattle.ob_judge.specs.Parameters.{type_at, formal_part, idents_list, symbols_of}
use Rattle.ob_judge.specs.Types.{limit, array_length, array_lengths, arrays, base_layout, record_only, record_object, stand_fields, add_fields, among_fields, forward_name, type_part, fields_part, more_part, place_of_type}
use Rattle.ob_judge.specs.Declarations.{each, type_decl_part, forward_base, types_part, variable_part, var_part, home_here, place_here}
use Rattle.judged_modules.proofs.steps.Laws.{then_then}
use Rattle.later_bodies.specs.Waiting.{with_procedures}
use Rattle.later_bodies.proofs.Beside.{Beside, b_keeps, b_look, b_next, b_stand, b_declared, b_formals}

module _ (ys : List Procedure) (p : Source) where
  -- ---- types

  b_stand_fields : (xs : List Identdef) (g : Layout) (s : Making) → Beside ys (stand_fields p xs g (with_procedures ys s)) (stand_fields p xs g s)
  b_stand_fields [] g s = b_keeps ys tt s
  b_stand_fields (x ∷ xs) g s = b_next ys (b_look ys (rule 36 (place p x.name) (is_none (g.fields (spelled p x.name)))) s) (λ r. b_next ys (b_stand ys p (x.name ∷ []) r.1) (λ q. b_stand_fields xs g q.1))

  b_among : {A : Type 0} (m : Part A) (s : Making) → Beside ys (m (with_procedures ys (record s { standing = [] }))) (m (record s { standing = [] })) → Beside ys (among_fields m (with_procedures ys s)) (among_fields m s)
  b_among m s g = record {
    by = ap (λ (z : Judged _). z >>= λ r. Keeps (r.0, record r.1 { standing = s.standing })) g.by
        ∙ then_then (m (record s { standing = [] })) (λ r. Keeps (r.0, with_procedures ys r.1)) (λ r. Keeps (r.0, record r.1 { standing = s.standing }))
        ∙ sym (then_then (m (record s { standing = [] })) (λ r. Keeps (r.0, record r.1 { standing = s.standing })) (λ r. Keeps (r.0, with_procedures ys r.1)));
  }

  b_aside : {A : Type 0} (m : Part A) (s : Making) → Beside ys (m (with_procedures ys (record s { standing = [] }))) (m (record s { standing = [] })) → Beside ys (aside m (with_procedures ys s)) (aside m s)
  b_aside m s g = record {
    by = ap (λ (z : Judged _). z >>= λ r. Keeps (r.0, with_procedures ys s)) g.by
        ∙ then_then (m (record s { standing = [] })) (λ r. Keeps (r.0, with_procedures ys r.1)) (λ r. Keeps (r.0, with_procedures ys s))
        ∙ sym (then_then (m (record s { standing = [] })) (λ r. Keeps (r.0, s)) (λ r. Keeps (r.0, with_procedures ys r.1)));
  }

  abbrev with_record : Making → Making
  with_record s = with_known (λ k. record k { records = k.records ++ no_layout ∷ [] }) s

  abbrev with_pointer : Making → Making
  with_pointer s = with_known (λ k. record k { bases = k.bases ++ None ∷ [] }) s

  abbrev pointed_by : (n : ℕ) → S.TypeTree → Part Shape → Option ℕ → Making → Judged (Unit {0} × Making)
  pointed_by n base judged o s = elim o as (λ _. Judged (Unit {0} × Making)) [
    | Some name ↦ later n name s
    | None ↦ (judged >>> λ t. here (λ w. some 31 (place_of_type p base) (record_only t)) >>> λ r. set_base n r) s
  ]

  b_pointed : (n : ℕ) (base : S.TypeTree) (judged : Part Shape) (o : Option ℕ) (s : Making) → Beside ys (judged (with_procedures ys s)) (judged s)
      → Beside ys (pointed_by n base judged o (with_procedures ys s)) (pointed_by n base judged o s)
  b_pointed n base judged (Some name) s g = b_keeps ys tt (record s { forward = s.forward ++ (n, name) ∷ [] })
  b_pointed n base judged None s g = b_next ys g (λ t. b_next ys (b_look ys (some 31 (place_of_type p base) (record_only t.0)) t.1) (λ r.
      b_keeps ys tt (with_known (λ k. record k { bases = slice_set k.bases n (Some r.0) }) r.1)))

  mutual
    pub b_type : (x : S.TypeTree) (s : Making) → Beside ys (type_part p x (with_procedures ys s)) (type_part p x s)
    b_type (S.Named q) s = b_look ys (type_at p 31 q s.world) s
    b_type (S.Array i first more j element) s = b_next ys (b_look ys (array_length p first s.world) s) (λ n. b_next ys (b_look ys (array_lengths p more n.1.world) n.1) (λ ns.
        b_next ys (b_type element ns.1) (λ a. b_look ys (arrays (place p i) (n.0 ∷ ns.0) a.0 a.1.world) a.1)))
    b_type (S.Record i base first more j) s =
        let n = length s.world.known.records in
        b_next ys (b_look ys (base_layout p base (with_record s).world) (with_record s)) (λ b.
        b_next ys (b_among (fields_part p n first (record (b.0) { added = [] }) >>> λ g. more_part p n more g) b.1
        (b_next ys (b_fields n first (record (b.0) { added = [] }) (record (b.1) { standing = [] })) (λ g. b_more n more g.0 g.1))) (λ g.
        b_next ys (b_look ys (rule 35 (place p i) (nat_le (g.0).cells limit)) g.1) (λ u.
        b_keeps ys (Record n) (with_known (λ k. record k { records = slice_set k.records n (record (g.0) { module_number = u.1.world.module_number; line = n ∷ (g.0).line; extent = rounded_extent (g.0).extent }) }) u.1))))
    b_type (S.Pointer i j base) s = b_next ys (b_pointed (length s.world.known.bases) base (type_part p base) (forward_name p (with_pointer s) base) (with_pointer s) (b_type base (with_pointer s))) (λ r. b_keeps ys (Pointer (length s.world.known.bases)) r.1)
    b_type (S.Procedure i formals) s = b_next ys (b_aside (formal_part p false formals) s (b_formals ys p false formals (record s { standing = [] }))) (λ r. b_keeps ys (ProcedureOf ((r.0).0).formals (r.0).1) r.1)

    b_fields : (n : ℕ) (x : S.MaybeFields) (g : Layout) (s : Making) → Beside ys (fields_part p n x g (with_procedures ys s)) (fields_part p n x g s)
    b_fields n S.no_fields g s = b_keeps ys g s
    b_fields n (S.fields names colon of) g s = b_next ys (b_stand_fields (idents_list names) g s) (λ u. b_next ys (b_type of u.1) (λ a. b_keeps ys (add_fields p n a.1.world a.0 (idents_list names) g) a.1))

    b_more : (n : ℕ) (x : S.NextFields) (g : Layout) (s : Making) → Beside ys (more_part p n x g (with_procedures ys s)) (more_part p n x g s)
    b_more n S.no_more_fields g s = b_keeps ys g s
    b_more n (S.next_fields semicolon one rest) g s = b_next ys (b_fields n one g s) (λ h. b_more n rest h.0 h.1)

  -- ---- TYPE and VAR

  b_each : {X : Type 0} (f : X → Part (Unit {0})) → ((x : X) (s : Making) → Beside ys (f x (with_procedures ys s)) (f x s)) → (xs : List X) (s : Making) → Beside ys (each f xs (with_procedures ys s)) (each f xs s)
  b_each f g [] s = b_keeps ys tt s
  b_each f g (x ∷ xs) s = b_next ys (g x s) (λ r. b_each f g xs r.1)

  b_type_decl : (d : S.TypeDecl) (s : Making) → Beside ys (type_decl_part p d (with_procedures ys s)) (type_decl_part p d s)
  b_type_decl d s = b_next ys (b_stand ys p (d.name.name ∷ []) s) (λ r. b_next ys (b_type d.is r.1) (λ a. b_declared ys p d.name (AType a.0) a.1))

  b_forward : (k : ℕ × ℕ) (s : Making) → Beside ys (forward_base p k (with_procedures ys s)) (forward_base p k s)
  b_forward k s = b_next ys (b_look ys (some 30 (place p k.1) (entry_object (last_names s.world.levels (spelled p k.1)))) s) (λ o. b_next ys (b_look ys (some 31 (place p k.1) (record_object o.0)) o.1) (λ r.
      b_keeps ys tt (with_known (λ x. record x { bases = slice_set x.bases k.0 (Some r.0) }) r.1)))

  pub b_types : (ds : List S.TypeDecl) (s : Making) → Beside ys (types_part p ds (with_procedures ys s)) (types_part p ds s)
  b_types ds s = b_next ys (b_each (type_decl_part p) b_type_decl ds (record s { is_type_part = true; forward = [] })) (λ r. b_each (forward_base p) b_forward r.1.forward (record r.1 { is_type_part = false }))

  b_variable : (a : Shape) (x : Identdef) (s : Making) → Beside ys (variable_part p a x (with_procedures ys s)) (variable_part p a x s)
  b_variable a x s = b_next ys (b_declared ys p x (AVariable (record { shape = a; place = place_here s.world.procedure s.world.module_number (s.values + length s.variables); home = home_here s.world.procedure; owner = s.world.module_number; procedure = s.world.procedure })) s)
      (λ r. b_keeps ys tt (record r.1 { variables = r.1.variables ++ a ∷ [] }))

  pub b_var : (d : S.VarDecl) (s : Making) → Beside ys (var_part p d (with_procedures ys s)) (var_part p d s)
  b_var d s = b_next ys (b_stand ys p (symbols_of (idents_list d.names)) s) (λ r. b_next ys (b_type d.of r.1) (λ a. b_each (variable_part p a.0) (b_variable a.0) (idents_list d.names) a.1))

  pub b_vars : (ds : List S.VarDecl) (s : Making) → Beside ys (each (var_part p) ds (with_procedures ys s)) (each (var_part p) ds s)
  b_vars ds s = b_each (var_part p) b_var ds s
