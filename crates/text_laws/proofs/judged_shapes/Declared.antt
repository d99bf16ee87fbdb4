-- Declarations keep shapes closed.
use Rattle.std.proofs.Common.{◌≡◌, ℕ, ◌+◌, List, [], ◌∷◌, ◌++◌, length, Bool, true, false, not, Option, Some, refl}
use Rattle.std.specs.Prelude.{slice_set, is_some}
use Rattle.std.specs.Str.{bytes_eq}
use Rattle.ob_types.specs.Forms.{all}
use Rattle.ob_types.proofs.Tests.{and_from}
use Rattle.ob_syntax.specs.Syntax as S
use Rattle.ob_syntax.specs.declared.names.Identdef.{Identdef}
use Rattle.ob_judge.specs.Judged.{rule, some}
use Rattle.ob_judge.specs.Shapes.{Shape}
use Rattle.ob_judge.specs.Shapes.{Procedure as ProcedureOf}
use Rattle.ob_judge.specs.Image.{Statements, Checked, Procedure}
use Rattle.ob_judge.specs.Texts.{texts_of}
use Rattle.ob_judge.specs.Scopes.{AConstant, AType, AVariable, AProcedure, Variable, Entry, Source, no_names, place, spelled, line}
use Rattle.ob_judge.specs.Expressions.{constant}
use Rattle.ob_judge.specs.Cases.{entry_object}
use Rattle.ob_judge.specs.Statements.{body_of}
use Rattle.ob_judge.specs.Making.{Making, Part, with_known, with_levels, declare_outer, last_names, without_last, offer_if, no_procedure}
use Rattle.ob_judge.specs.Parameters.{Listed, idents_list, symbols_of}
use Rattle.ob_judge.specs.Types.{record_object}
use Rattle.ob_judge.specs.Declarations.{place_here, home_here, each, const_part, type_decl_part, forward_base, types_part, variable_part, var_part, consts_in, types_in, vars_in, answer, decls_part, procedures_part}
use Rattle.judged_well.specs.Gives.{Gives}
use Rattle.judged_well.proofs.Judging.{and_then}
use Rattle.one_lowering.specs.Forms.{is_closed}
use Rattle.text_laws.proofs.judged_shapes.Closed.{IsGood, procedure_closed, Fine, Kept, kept, Any, s_next, s_pass, all_set, all_more, names_more, names_fewer, fine_outer, fine_offered, s_stand, s_declared}
use Rattle.text_laws.proofs.judged_shapes.Types.{fine_bases, heading_closed, h_formals, s_type}

module _ (p : Source) where
  pub s_each : {X : Type 0} (f : X → Part (Unit {0})) → ((x : X) (s : Making) → Fine s → Gives (Kept Any) (f x s)) → (xs : List X) (s : Making) → Fine s → Gives (Kept Any) (each f xs s)
  s_each f g [] s fine = kept Any tt s fine tt
  s_each f g (x ∷ xs) s fine = s_next (g x s fine) (λ r fine_r _. s_each f g xs r.1 fine_r)

  s_const : (d : S.ConstDecl) (s : Making) → Fine s → Gives (Kept Any) (const_part p d s)
  s_const d s fine =
      s_next (s_stand p (d.name.name ∷ []) s fine) (λ r fine_r _.
      s_next (s_pass (constant p (r.1).world d.value) r.1 fine_r) (λ c fine_c _. s_declared p d.name (AConstant c.0) c.1 tt fine_c))

  s_type_decl : (d : S.TypeDecl) (s : Making) → Fine s → Gives (Kept Any) (type_decl_part p d s)
  s_type_decl d s fine =
      s_next (s_stand p (d.name.name ∷ []) s fine) (λ r fine_r _.
      s_next (s_type p d.is r.1 fine_r) (λ a fine_a whole. s_declared p d.name (AType a.0) a.1 whole fine_a))

  s_forward : (k : ℕ × ℕ) (s : Making) → Fine s → Gives (Kept Any) (forward_base p k s)
  s_forward k s fine =
      s_next (s_pass (some 30 (place p k.1) (entry_object (last_names s.world.levels (spelled p k.1)))) s fine) (λ o fine_o _.
      s_next (s_pass (some 31 (place p k.1) (record_object o.0)) o.1 fine_o) (λ r fine_r _.
      kept Any tt (with_known (λ x. record x { bases = slice_set x.bases k.0 (Some r.0) }) r.1) (fine_bases r.1 (slice_set (r.1).world.known.bases k.0 (Some r.0)) fine_r) tt))

  s_types : (ds : List S.TypeDecl) (s : Making) → Fine s → Gives (Kept Any) (types_part p ds s)
  s_types ds s fine =
      s_next (s_each (type_decl_part p) s_type_decl ds (record s { is_type_part = true; forward = [] }) fine) (λ r fine_r _.
      s_each (forward_base p) s_forward (r.1).forward (record (r.1) { is_type_part = false }) fine_r)

  abbrev new_variable : Shape → Making → Variable
  new_variable a s = record { shape = a; place = place_here s.world.procedure s.world.module_number (s.values + length s.variables); home = home_here s.world.procedure; owner = s.world.module_number; procedure = s.world.procedure }

  fine_variable : (s : Making) (a : Shape) → is_closed a ≡ true → Fine s → Fine (record s { variables = s.variables ++ a ∷ [] })
  fine_variable s a good h = record { names = h.names; members = h.members; fields = h.fields; variables_ = all_more is_closed s.variables a h.variables_ good; procedures_ = h.procedures_ }

  s_variable : (a : Shape) → is_closed a ≡ true → (x : Identdef) (s : Making) → Fine s → Gives (Kept Any) (variable_part p a x s)
  s_variable a good x s fine =
      s_next (s_declared p x (AVariable (new_variable a s)) s tt fine) (λ r fine_r _.
      kept Any tt (record (r.1) { variables = (r.1).variables ++ a ∷ [] }) (fine_variable r.1 a good fine_r) tt)

  s_var : (d : S.VarDecl) (s : Making) → Fine s → Gives (Kept Any) (var_part p d s)
  s_var d s fine =
      s_next (s_stand p (symbols_of (idents_list d.names)) s fine) (λ r fine_r _.
      s_next (s_type p d.of r.1 fine_r) (λ a fine_a whole. s_each (variable_part p a.0) (λ x u h. s_variable a.0 whole.1 x u h) (idents_list d.names) a.1 fine_a))

  -- ---- one procedure

  abbrev with_heading : Making → Making
  with_heading s = record s { procedures = s.procedures ++ no_procedure ∷ [] }

  abbrev enter : ℕ → Making → Making
  enter f s = record s { world = record s.world { levels = s.world.levels ++ no_names ∷ []; procedure = Some f }; standing = []; values = 0; variables = [] }

  abbrev leave : Making → Making → Making
  leave s t = record s { world = record s.world { levels = without_last t.world.levels; known = t.world.known }; objects = t.objects; procedures = t.procedures }

  abbrev entry_of : ℕ → Identdef → Bool → Listed × Shape → Entry
  entry_of f name is_local h = record { object = AProcedure f (ProcedureOf (h.0).formals h.1) is_local; exported = is_some name.star }

  abbrev headed : ℕ → Identdef → Bool → (Listed × Shape) × Making → Making
  headed f name is_local h = offer_if (not is_local) (spelled p name.name) (entry_of f name is_local h.0) (with_levels (declare_outer (spelled p name.name) (entry_of f name is_local h.0)) h.1)

  abbrev becomes : (line_ : ℕ) → (Listed × Shape) → Making → Statements → Option Checked → Procedure
  becomes line_ h d b a = record { module_number = d.world.module_number; line = line_; is_body = false; formals = (h.0).parameters; result = h.1; locals = d.variables; texts = texts_of b a; body = b; answer = a }

  pub fine_heading : (s : Making) → Fine s → Fine (with_heading s)
  fine_heading s h = record { names = h.names; members = h.members; fields = h.fields; variables_ = h.variables_; procedures_ = all_more procedure_closed s.procedures no_procedure h.procedures_ refl }

  fine_enter : (f : ℕ) (s : Making) → Fine s → Fine (enter f s)
  fine_enter f s h = record { names = names_more IsGood s.world.levels h.names; members = h.members; fields = h.fields; variables_ = refl; procedures_ = h.procedures_ }

  fine_headed : (f : ℕ) (name : Identdef) (is_local : Bool) (h : (Listed × Shape) × Making) → Fine h.1 → Fine (headed f name is_local h)
  fine_headed f name is_local h fine =
      fine_offered (not is_local) (spelled p name.name) (entry_of f name is_local h.0) (with_levels (declare_outer (spelled p name.name) (entry_of f name is_local h.0)) h.1)
      (fine_outer (spelled p name.name) (entry_of f name is_local h.0) h.1 tt fine)

  -- a procedure is complete
  pub fine_set : (s : Making) (f : ℕ) (q : Procedure) → procedure_closed q ≡ true → Fine s → Fine (record s { procedures = slice_set s.procedures f q })
  fine_set s f q good h = record { names = h.names; members = h.members; fields = h.fields; variables_ = h.variables_; procedures_ = all_set procedure_closed s.procedures f q h.procedures_ good }

  fine_leave : (s t : Making) → Fine s → Fine t → Fine (leave s t)
  fine_leave s t outer inner = record { names = names_fewer IsGood t.world.levels inner.names; members = outer.members; fields = inner.fields; variables_ = outer.variables_; procedures_ = inner.procedures_ }

  mutual
    pub s_decls : (d : S.Decls) (s : Making) → Fine s → Gives (Kept Any) (decls_part p d s)
    s_decls (S.decls consts types vars procedures) s fine =
        s_next (s_each (const_part p) s_const (consts_in consts) s fine) (λ a fine_a _.
        s_next (s_types (types_in types) a.1 fine_a) (λ b fine_b _.
        s_next (s_each (var_part p) s_var (vars_in vars) b.1 fine_b) (λ c fine_c _. s_procedures procedures c.1 fine_c)))

    s_procedures : (x : S.Procedures) (s : Making) → Fine s → Gives (Kept Any) (procedures_part p x s)
    s_procedures S.no_procedure s fine = kept Any tt s fine tt
    s_procedures (S.procedure procedure_word name formals semicolon inner body returned end_word end_name last rest) s fine =
        s_next (s_stand p (name.name ∷ []) s fine) (λ r fine_r _.
        let v = r.1 in
        let f = length v.procedures in
        let is_local = is_some v.world.procedure in
        s_next (and_then (s_next
        (s_next (h_formals p true formals (enter f (with_heading v)) (fine_enter f (with_heading v) (fine_heading v fine_r))) (λ h fine_h closed.
        kept (heading_closed p) h.0 (headed f name is_local h) (fine_headed f name is_local h fine_h) closed)) (λ h fine_h closed.
        s_next (s_decls inner h.1 fine_h) (λ d fine_d _.
        s_next (s_pass (body_of p (d.1).world body) d.1 fine_d) (λ b fine_b _.
        s_next (s_pass (answer p (h.0).1 end_word returned (b.1).world) b.1 fine_b) (λ a fine_a _.
        s_next (s_pass (rule 37 (place p end_name) (bytes_eq (spelled p end_name) (spelled p name.name))) a.1 fine_a) (λ u fine_u _.
        let q = becomes (line p name.name) h.0 u.1 b.0 a.0 in
        kept Any tt (record (u.1) { procedures = slice_set (u.1).procedures f q })
        (fine_set u.1 f q (and_from (all (λ x. is_closed x.shape) ((h.0).0).parameters) (all is_closed (u.1).variables) closed fine_u.variables_) fine_u) tt))))))
        (λ e h. kept Any tt (leave (with_heading v) e.1) (fine_leave (with_heading v) e.1 (fine_heading v fine_r) h.fine) tt))
        (λ t fine_t _. s_procedures rest t.1 fine_t))
