-- Declarations and procedures judged name pointer types that there are.
use Rattle.std.proofs.Common.{ℕ, ◌+◌, ◌≤◌, List, [], ◌∷◌, ◌++◌, length, Bool, true, false, not, Option, Some, None, sym, subst, arith}
use Rattle.std.specs.Prelude.{slice_set, is_some}
use Rattle.ob_syntax.specs.Syntax as S
use Rattle.ob_syntax.specs.declared.names.Identdef.{Identdef}
use Rattle.ob_judge.specs.Judged.{some}
use Rattle.ob_judge.specs.Shapes.{Shape}
use Rattle.ob_judge.specs.Shapes.{Procedure as ProcedureOf}
use Rattle.ob_judge.specs.Scopes.{AConstant, AType, AVariable, AProcedure, Entry, Source, place, spelled}
use Rattle.ob_judge.specs.Expressions.{constant}
use Rattle.ob_judge.specs.Cases.{entry_object}
use Rattle.ob_judge.specs.Making.{Making, Part, with_known, with_levels, declare_outer, last_names, offer_if, no_procedure}
use Rattle.ob_judge.specs.Parameters.{Listed, idents_list, symbols_of}
use Rattle.ob_judge.specs.Types.{record_object}
use Rattle.ob_judge.specs.Declarations.{home_here, place_here, each, const_part, type_decl_part, forward_base, types_part, variable_part, var_part, consts_in, types_in, vars_in, heading, decls_part, procedures_part}
use Rattle.judged_well.specs.Gives.{Gives}
use Rattle.judged_well.proofs.Judging.{keeps, and_then, anything}
use Rattle.judged_modules.specs.Agrees.{bases_of}
use Rattle.judged_modules.proofs.Lists.{set_length}
use Rattle.judged_modules.specs.steps.Frames.{entered, left}
use Rattle.judged_modules.specs.steps.Procedures.{OneProcedure}
use Rattle.judged_modules.specs.steps.Steps.{completed, completes, inside, procedure_part}
use Rattle.judged_modules.proofs.steps.Laws.{procedures_law}
use Rattle.judged_outlines.specs.Among.{ConstantAmong, ObjectAmong, IsDeclaredPlace}
use Rattle.judged_outlines.proofs.Reach.{object_later, narrowed_later}
use Rattle.judged_outlines.proofs.Expressed.{a_constant}
use Rattle.judged_outlines.proofs.Parts.{pointer_count, AmongIn, LeavesAmong, Any, d_next, d_look, d_pass, d_give, d_change, d_from, names_more, names_fewer, names_outer, d_stand, d_declared}
use Rattle.judged_outlines.proofs.Parameters.{FormalsAmong, d_formals}
use Rattle.judged_outlines.proofs.Types.{among_with_bases, d_type}

-- ---- scopes

pub among_entered : (f : ℕ) (s : Making) → AmongIn s → AmongIn (entered f s)
among_entered f s among = record { names = names_more (ObjectAmong (pointer_count s)) s.world.levels among.names; members = among.members; fields = among.fields; narrowed = among.narrowed }

pub among_left : (s t : Making) → pointer_count s ≤ pointer_count t → AmongIn s → AmongIn t → AmongIn (left s t)
among_left s t more outer inner = record {
  names = names_fewer (ObjectAmong (pointer_count t)) t.world.levels inner.names;
  members = λ k m at q x is. object_later (pointer_count s) (pointer_count t) more x.object (outer.members k m at q x is);
  fields = inner.fields;
  narrowed = narrowed_later (pointer_count s) (pointer_count t) more s.world.narrowed outer.narrowed;
}

module _ (p : Source) where
  pub d_each : {X : Type 0} (f : X → Part (Unit {0})) → ((x : X) (s : Making) → AmongIn s → Gives (LeavesAmong Any s) (f x s)) → (xs : List X) (s : Making) → AmongIn s → Gives (LeavesAmong Any s) (each f xs s)
  d_each f g [] s among = d_give Any tt s among tt
  d_each f g (x ∷ xs) s among = d_next (g x s among) (λ r h. d_each f g xs r.1 h.among)

  -- ---- constants and types

  pub d_const : (d : S.ConstDecl) (s : Making) → AmongIn s → Gives (LeavesAmong Any s) (const_part p d s)
  d_const d s among = d_next (d_stand p (d.name.name ∷ []) s among) (λ r h.
      d_next (d_look (λ c t. ConstantAmong (pointer_count t) c) (constant p (r.1).world d.value) r.1 h.among (a_constant (pointer_count r.1) p (r.1).world h.among d.value)) (λ c k.
      d_declared p d.name (AConstant c.0) c.1 k.among k.gives))

  d_type_decl : (d : S.TypeDecl) (s : Making) → AmongIn s → Gives (LeavesAmong Any s) (type_decl_part p d s)
  d_type_decl d s among = d_next (d_stand p (d.name.name ∷ []) s among) (λ r h. d_next (d_type p d.is r.1 h.among) (λ a k. d_declared p d.name (AType a.0) a.1 k.among k.gives))

  d_forward : (k : ℕ × ℕ) (s : Making) → AmongIn s → Gives (LeavesAmong Any s) (forward_base p k s)
  d_forward k s among = d_next (d_pass (some 30 (place p k.1) (entry_object (last_names s.world.levels (spelled p k.1)))) s among) (λ o h. d_next (d_pass (some 31 (place p k.1) (record_object o.0)) o.1 h.among) (λ r j.
      let e = set_length (bases_of r.1) k.0 (Some r.0) in
      d_change r.1 (with_known (λ x. record x { bases = slice_set x.bases k.0 (Some r.0) }) r.1) (omega (arith, e)) (among_with_bases r.1 (slice_set (bases_of r.1) k.0 (Some r.0)) (omega (arith, e)) j.among)))

  pub d_types : (ds : List S.TypeDecl) (s : Making) → AmongIn s → Gives (LeavesAmong Any s) (types_part p ds s)
  d_types ds s among =
      let start = record s { is_type_part = true; forward = [] } in
      d_from s start (omega arith) (d_next (d_each (type_decl_part p) d_type_decl ds start (record { names = among.names; members = among.members; fields = among.fields; narrowed = among.narrowed })) (λ r h.
      let end = record r.1 { is_type_part = false } in
      d_from r.1 end (omega arith) (d_each (forward_base p) d_forward r.1.forward end (record { names = h.among.names; members = h.among.members; fields = h.among.fields; narrowed = h.among.narrowed }))))

  -- ---- variables

  variable_place : (o : Option ℕ) (m k : ℕ) → IsDeclaredPlace (place_here o m k)
  variable_place None m k = tt
  variable_place (Some f) m k = tt

  d_variable : (a : Shape) (x : Identdef) (s : Making) → AmongIn s → ObjectAmong (pointer_count s) (AType a) → Gives (LeavesAmong Any s) (variable_part p a x s)
  d_variable a x s among h =
      d_next (d_declared p x (AVariable (record { shape = a; place = place_here s.world.procedure s.world.module_number (s.values + length s.variables); home = home_here s.world.procedure; owner = s.world.module_number; procedure = s.world.procedure })) s among
      (h, variable_place s.world.procedure s.world.module_number (s.values + length s.variables))) (λ r k.
      d_change r.1 (record r.1 { variables = r.1.variables ++ a ∷ [] }) (omega arith) (record { names = k.among.names; members = k.among.members; fields = k.among.fields; narrowed = k.among.narrowed }))

  d_variables : (a : Shape) (xs : List Identdef) (s : Making) → AmongIn s → ObjectAmong (pointer_count s) (AType a) → Gives (LeavesAmong Any s) (each (variable_part p a) xs s)
  d_variables a [] s among h = d_give Any tt s among tt
  d_variables a (x ∷ xs) s among h = d_next (d_variable a x s among h) (λ r k. d_variables a xs r.1 k.among (object_later (pointer_count s) (pointer_count r.1) k.more (AType a) h))

  pub d_var : (d : S.VarDecl) (s : Making) → AmongIn s → Gives (LeavesAmong Any s) (var_part p d s)
  d_var d s among = d_next (d_stand p (symbols_of (idents_list d.names)) s among) (λ r h. d_next (d_type p d.of r.1 h.among) (λ a k. d_variables a.0 (idents_list d.names) a.1 k.among k.gives))

  -- ---- procedures

  abbrev heading_entry : (f : ℕ) → Identdef → (Listed × Shape) → Bool → Entry
  heading_entry f name h is_local = record { object = AProcedure f (ProcedureOf h.0.formals h.1) is_local; exported = is_some name.star }

  offered : (b : Bool) (name : List ℕ) (e : Entry) (h : Listed × Shape) (s u : Making) → pointer_count s ≤ pointer_count u → AmongIn u → FormalsAmong h u → LeavesAmong FormalsAmong s (h, offer_if b name e u)
  offered true name e h s u more among g = record { more = more; among = among; gives = g }
  offered false name e h s u more among g = record { more = more; among = among; gives = g }

  pub d_heading : (f : ℕ) (name : Identdef) (x : Option S.Formals) (is_local : Bool) (s : Making) → AmongIn s → Gives (LeavesAmong FormalsAmong s) (heading p f name x is_local s)
  d_heading f name x is_local s among = d_next (d_formals p true x s among) (λ h k.
      let e = heading_entry f name h.0 is_local in
      let u = with_levels (declare_outer (spelled p name.name) e) h.1 in
      keeps (LeavesAmong FormalsAmong h.1) (h.0, offer_if (not is_local) (spelled p name.name) e u)
      (offered (not is_local) (spelled p name.name) e h.0 h.1 u (omega arith) (record { names = names_outer (ObjectAmong (pointer_count h.1)) (spelled p name.name) e h.1.world.levels k.gives k.among.names; members = k.among.members; fields = k.among.fields; narrowed = k.among.narrowed }) k.gives))

  pub d_completes : (f : ℕ) (q : OneProcedure) (h : Listed × Shape) (s : Making) → AmongIn s → Gives (LeavesAmong Any s) (completes p f q h s)
  d_completes f q h s among = and_then (anything (completed p q h s)) (λ j z.
      d_change s (record s { procedures = slice_set s.procedures f j }) (omega arith) (record { names = among.names; members = among.members; fields = among.fields; narrowed = among.narrowed }))

  -- where its declarations are such
  abbrev Declares : S.Decls → Type 0
  Declares d = (u : Making) → AmongIn u → Gives (LeavesAmong Any u) (decls_part p d u)

  pub d_inside : (f : ℕ) (is_local : Bool) (q : OneProcedure) → Declares q.decls → (s : Making) → AmongIn s → Gives (LeavesAmong Any s) (inside p f is_local q s)
  d_inside f is_local q decls s among = d_next (d_heading f q.name q.formals is_local s among) (λ h k. d_next (decls h.1 k.among) (λ d l. d_completes f q h.0 d.1 l.among))

  pub d_procedure : (q : OneProcedure) → Declares q.decls → (s : Making) → AmongIn s → Gives (LeavesAmong Any s) (procedure_part p q s)
  d_procedure q decls s among = d_next (d_stand p (q.name.name ∷ []) s among) (λ r h.
      let f = length r.1.procedures in
      let u = record r.1 { procedures = r.1.procedures ++ no_procedure ∷ [] } in
      let open_ : AmongIn u = record { names = h.among.names; members = h.among.members; fields = h.among.fields; narrowed = h.among.narrowed } in
      and_then (d_inside f (is_some r.1.world.procedure) q decls (entered f u) (among_entered f u open_)) (λ e k.
      keeps (LeavesAmong Any r.1) (tt, left u e.1) (record { more = k.more; among = among_left u e.1 k.more open_ k.among; gives = tt })))

  mutual
    pub d_decls : (d : S.Decls) (s : Making) → AmongIn s → Gives (LeavesAmong Any s) (decls_part p d s)
    d_decls (S.decls consts types vars procedures) s among =
        d_next (d_each (const_part p) d_const (consts_in consts) s among) (λ a f. d_next (d_types (types_in types) a.1 f.among) (λ b g.
        d_next (d_each (var_part p) d_var (vars_in vars) b.1 g.among) (λ c h. d_procedures procedures c.1 h.among)))

    pub d_procedures : (x : S.Procedures) (s : Making) → AmongIn s → Gives (LeavesAmong Any s) (procedures_part p x s)
    d_procedures S.no_procedure s among = d_give Any tt s among tt
    d_procedures (S.procedure procedure_word name formals semicolon inner body returned end_word end_name last rest) s among =
        let q : OneProcedure = record { procedure_word = procedure_word; name = name; formals = formals; semicolon = semicolon; decls = inner; body = body; returned = returned; end_word = end_word; end_name = end_name } in
        subst (Gives (LeavesAmong Any s)) (sym (procedures_law p q last rest s)) (d_next (d_procedure q (λ u k. d_decls inner u k) s among) (λ r h. d_procedures rest r.1 h.among))
