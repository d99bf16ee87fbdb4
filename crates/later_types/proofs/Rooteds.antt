-- Each part of the judgement leaves rooted what it is judged in.
use Rattle.std.proofs.Common.{◌≡◌, ℕ, ◌≤◌, List, [], ◌∷◌, ◌++◌, length, Bool, true, refl, ap, sym, ◌∙◌, Option, subst, arith}
use Rattle.std.specs.Prelude.{is_some}
use Rattle.ob_syntax.specs.Syntax as S
use Rattle.ob_syntax.specs.declared.names.Identdef.{Identdef}
use Rattle.ob_judge.specs.Judged.{Keeps}
use Rattle.ob_judge.specs.Shapes.{Shape}
use Rattle.ob_judge.specs.Scopes.{Source}
use Rattle.ob_judge.specs.Making.{Making, ◌>>>◌, ask, new_procedure, no_procedure, within_procedure}
use Rattle.ob_judge.specs.Modules.{SoFar}
use Rattle.ob_judge.specs.Parameters.{Listed, stand}
use Rattle.ob_judge.specs.Types.{type_part}
use Rattle.ob_judge.specs.Declarations.{each, const_part, types_part, var_part, consts_in, types_in, vars_in, heading, decls_part, procedures_part}
use Rattle.judged_modules.specs.Agrees.{bases_of}
use Rattle.judged_modules.proofs.Growing.{kept_same, bound, went}
use Rattle.judged_modules.proofs.Keeping.{given}
use Rattle.judged_modules.specs.steps.Frames.{entered, left}
use Rattle.judged_modules.specs.steps.Procedures.{OneProcedure}
use Rattle.judged_modules.specs.steps.Steps.{completes, inside, procedure_part}
use Rattle.judged_modules.proofs.steps.Laws.{procedures_law}
use Rattle.judged_programs.specs.Tidy.{IsInProcedure}
use Rattle.judged_programs.proofs.ProceduresTidy.{s_decls}
use Rattle.judged_outlines.specs.Among.{PointsAmong}
use Rattle.judged_outlines.specs.Upright.{Upright}
use Rattle.judged_outlines.proofs.Uprights.{numbered_upright, entered_upright, stand_upright, const_upright, consts_upright, types_upright, vars_upright, heading_upright, procedure_upright}
use Rattle.later_types.specs.Later.{IsRooted, Rooted}
use Rattle.later_types.proofs.Parts.{record_count, Leaves, r_stand}
use Rattle.later_types.proofs.Types.{r_type}
use Rattle.later_types.proofs.Declared.{scope_entered, scope_left, r_const, r_types, r_var, r_heading, r_completes}

pub rooted_by : {A : Type 0} {Q : A → Making → Type 0} (s : Making) (r : A × Making) → Leaves Q s r → Rooted r.1
rooted_by s r h = record { scope = h.scope }

pub entered_rooted : (s : Making) (f : ℕ) → Rooted s → Rooted (entered f s)
entered_rooted s f h = record { scope = scope_entered f s h.scope }

pub left_rooted : (s t : Making) → record_count s ≤ record_count t → Rooted s → Rooted t → Rooted (left s t)
left_rooted s t more h k = record { scope = scope_left s t more h.scope k.scope }

pub numbered_rooted : (s t : Making) (f : ℕ) → new_procedure s ≡ Keeps (f, t) → Rooted s → Rooted t
numbered_rooted s t f is h =
    let a = h.scope in
    subst Rooted (ap (λ r. r.1) (kept_same _ (f, t) is)) (record { scope = record { names = a.names; members = a.members; fields = a.fields; narrowed = a.narrowed } })

module _ (p : Source) where
  pub stand_rooted : (xs : List ℕ) (s t : Making) → stand p xs s ≡ Keeps (tt, t) → Rooted s → Rooted t
  stand_rooted xs s t is h = rooted_by s (tt, t) (given (tt, t) (r_stand p xs s h.scope) is)

  pub types_rooted : (ds : List S.TypeDecl) (s t : Making) → types_part p ds s ≡ Keeps (tt, t) → Rooted s → Rooted t
  types_rooted ds s t is h = rooted_by s (tt, t) (given (tt, t) (r_types p ds s h.scope) is)

  pub var_rooted : (d : S.VarDecl) (s t : Making) → var_part p d s ≡ Keeps (tt, t) → Rooted s → Rooted t
  var_rooted d s t is h = rooted_by s (tt, t) (given (tt, t) (r_var p d s h.scope) is)

  pub vars_rooted : (ds : List S.VarDecl) (s t : Making) → each (var_part p) ds s ≡ Keeps (tt, t) → Rooted s → Rooted t
  vars_rooted [] s t is h = subst Rooted (ap (λ r. r.1) (kept_same (tt, s) (tt, t) is)) h
  vars_rooted (d ∷ ds) s t is h = let k = bound (var_part p d s) (λ r. each (var_part p) ds r.1) (tt, t) is in vars_rooted ds (k.0).1 t k.2 (var_rooted d s (k.0).1 k.1 h)

  pub completes_rooted : (f : ℕ) (q : OneProcedure) (x : Listed × Shape) (s t : Making) → completes p f q x s ≡ Keeps (tt, t) → Rooted s → Rooted t
  completes_rooted f q x s t is h = rooted_by s (tt, t) (given (tt, t) (r_completes p f q x s h.scope) is)

  module _ (c : SoFar) where
    pub const_rooted : (d : S.ConstDecl) (s t : Making) → const_part p d s ≡ Keeps (tt, t) → Upright c s → Rooted s → Rooted t
    const_rooted d s t is up h = rooted_by s (tt, t) (given (tt, t) (r_const p d s up.among up.tidy.targets h.scope) is)

    pub consts_rooted : (ds : List S.ConstDecl) (s t : Making) → each (const_part p) ds s ≡ Keeps (tt, t) → Upright c s → Rooted s → Rooted t
    consts_rooted [] s t is up h = subst Rooted (ap (λ r. r.1) (kept_same (tt, s) (tt, t) is)) h
    consts_rooted (d ∷ ds) s t is up h = let k = bound (const_part p d s) (λ r. each (const_part p) ds r.1) (tt, t) is in
        consts_rooted ds (k.0).1 t k.2 (const_upright c p d s (k.0).1 k.1 up) (const_rooted d s (k.0).1 k.1 up h)

    -- a type, which names types that there are then
    pub type_rooted : (x : S.TypeTree) (s t : Making) (a : Shape) → type_part p x s ≡ Keeps (a, t) → PointsAmong (length (bases_of t)) a → Rooted s → Rooted t × IsRooted t a
    type_rooted x s t a is points h = let k = given (a, t) (r_type p x s h.scope) is in (record { scope = k.scope }, record { points = points; records = k.gives })

    -- a heading, and its result's type
    pub heading_rooted : (f : ℕ) (name : Identdef) (x : Option S.Formals) (is_local : Bool) (s t : Making) (l : Listed) (a : Shape) → heading p f name x is_local s ≡ Keeps ((l, a), t)
        → PointsAmong (length (bases_of t)) a → Rooted s → Rooted t × IsRooted t a
    heading_rooted f name x is_local s t l a is points h = let k = given ((l, a), t) (r_heading p f name x is_local s h.scope) is in (record { scope = k.scope }, record { points = points; records = k.gives.1 })

    -- where its declarations leave it so
    abbrev Declares : S.Decls → Type 0
    Declares d = (s t : Making) → decls_part p d s ≡ Keeps (tt, t) → Upright c s → Rooted s → Rooted t

    -- what is made in a procedure's own scope
    inside_rooted : (f : ℕ) (is_local : Bool) (q : OneProcedure) → Declares q.decls → (s e : Making) → inside p f is_local q s ≡ Keeps (tt, e) → IsInProcedure true s → Upright c s → Rooted s → Rooted e × (record_count s ≤ record_count e)
    inside_rooted f is_local q declares s e is inside_ up h =
        let d = went (heading p f q.name q.formals is_local) (λ x. decls_part p q.decls >>> λ _. completes p f q x) s e tt is in
        let g = went (decls_part p q.decls) (λ _. completes p f q d.0) d.1 e tt d.3 in
        let up2 = (heading_upright c p f q.name q.formals is_local s d.1 (d.0).0 (d.0).1 d.2 inside_ up).0 in
        let k = given (d.0, d.1) (r_heading p f q.name q.formals is_local s h.scope) d.2 in
        let h2 = declares d.1 g.1 g.2 up2 (record { scope = k.scope }) in
        let j = given (tt, e) (r_completes p f q d.0 g.1 h2.scope) g.3 in
        let m = k.more in
        let n = (given (tt, g.1) (s_decls 0 p q.decls d.1) g.2).grown.records_more in
        let i = j.more in
        (record { scope = j.scope }, omega (arith, m, n, i))

    -- and the scope round it
    closed_rooted : (u t e : Making) → left u e ≡ t → record_count u ≤ record_count e → Rooted u → Rooted e → Rooted t
    closed_rooted u t e is more outer inner = subst Rooted is (left_rooted u e more outer inner)

    numbered_inside : (f : ℕ) (is_local : Bool) (q : OneProcedure) → Declares q.decls → (u t : Making) → within_procedure f (inside p f is_local q) u ≡ Keeps (tt, t) → Upright c u → Rooted u → Rooted t
    numbered_inside f is_local q declares u t is up h =
        let b = bound (inside p f is_local q (entered f u)) (λ r. Keeps (r.0, left u r.1)) (tt, t) is in
        let k = inside_rooted f is_local q declares (entered f u) (b.0).1 b.1 (λ i. (f, refl)) (entered_upright c u f up).0 (entered_rooted u f h) in
        closed_rooted u t (b.0).1 (ap (λ r. r.1) (kept_same ((b.0).0, left u (b.0).1) (tt, t) b.2)) k.1 h k.0

    one_rooted : (q : OneProcedure) → Declares q.decls → (s t : Making) → procedure_part p q s ≡ Keeps (tt, t) → Upright c s → Rooted s → Rooted t
    one_rooted q declares s t is up h =
        let a = went (stand p (q.name.name ∷ [])) (λ _. ask (λ m. is_some m.world.procedure) >>> λ is_local. new_procedure >>> λ f. within_procedure f (inside p f is_local q)) s t tt is in
        by a.1 a.3 (stand_upright c p (q.name.name ∷ []) s a.1 a.2 up) (stand_rooted (q.name.name ∷ []) s a.1 a.2 h)
      where
        by : (v : Making) → (ask (λ m. is_some m.world.procedure) >>> λ is_local. new_procedure >>> λ f. within_procedure f (inside p f is_local q)) v ≡ Keeps (tt, t) → Upright c v → Rooted v → Rooted t
        by v at up2 h2 = numbered_inside (length v.procedures) (is_some v.world.procedure) q declares (record v { procedures = v.procedures ++ no_procedure ∷ [] }) t at
            (numbered_upright c v (record v { procedures = v.procedures ++ no_procedure ∷ [] }) (length v.procedures) refl up2)
            (numbered_rooted v (record v { procedures = v.procedures ++ no_procedure ∷ [] }) (length v.procedures) refl h2)

    mutual
      pub decls_rooted : (d : S.Decls) (s t : Making) → decls_part p d s ≡ Keeps (tt, t) → Upright c s → Rooted s → Rooted t
      decls_rooted (S.decls consts types vars procedures) s t is up h =
          let a = went (each (const_part p) (consts_in consts)) (λ _. types_part p (types_in types) >>> λ _. each (var_part p) (vars_in vars) >>> λ _. procedures_part p procedures) s t tt is in
          let b = went (types_part p (types_in types)) (λ _. each (var_part p) (vars_in vars) >>> λ _. procedures_part p procedures) a.1 t tt a.3 in
          let d = went (each (var_part p) (vars_in vars)) (λ _. procedures_part p procedures) b.1 t tt b.3 in
          let up1 = consts_upright c p (consts_in consts) s a.1 a.2 up in
          let up2 = types_upright c p (types_in types) a.1 b.1 b.2 up1 in
          let up3 = vars_upright c p (vars_in vars) b.1 d.1 d.2 up2 in
          procedures_rooted procedures d.1 t d.3 up3 (vars_rooted (vars_in vars) b.1 d.1 d.2 (types_rooted (types_in types) a.1 b.1 b.2 (consts_rooted (consts_in consts) s a.1 a.2 up h)))

      pub procedures_rooted : (x : S.Procedures) (s t : Making) → procedures_part p x s ≡ Keeps (tt, t) → Upright c s → Rooted s → Rooted t
      procedures_rooted S.no_procedure s t is up h = subst Rooted (ap (λ r. r.1) (kept_same (tt, s) (tt, t) is)) h
      procedures_rooted (S.procedure procedure_word name formals semicolon inner body returned end_word end_name last rest) s t is up h =
          let q : OneProcedure = record { procedure_word = procedure_word; name = name; formals = formals; semicolon = semicolon; decls = inner; body = body; returned = returned; end_word = end_word; end_name = end_name } in
          let k = bound (procedure_part p q s) (λ r. procedures_part p rest r.1) (tt, t) (sym (procedures_law p q last rest s) ∙ is) in
          procedures_rooted rest (k.0).1 t k.2 (procedure_upright c p q s (k.0).1 k.1 up) (one_rooted q (λ u v j up2 i. decls_rooted inner u v j up2 i) s (k.0).1 k.1 up h)

    pub procedure_rooted : (q : OneProcedure) (s t : Making) → procedure_part p q s ≡ Keeps (tt, t) → Upright c s → Rooted s → Rooted t
    procedure_rooted q s t is up h = one_rooted q (λ u v j up2 i. decls_rooted q.decls u v j up2 i) s t is up h
