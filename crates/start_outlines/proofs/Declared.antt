-- Declarations and procedures that are judged are settled.
use Rattle.std.proofs.Common.{◌≡◌, ℕ, ◌≤◌, List, [], ◌∷◌, ◌++◌, length, Bool, true, false, not, Option, refl, ap₂, sym, ◌∙◌, subst, arith}
use Rattle.std.specs.Prelude.{is_some}
use Rattle.std.specs.Str.{bytes_eq}
use Rattle.ob_syntax.specs.Syntax as S
use Rattle.ob_syntax.specs.declared.names.Identdef.{Identdef}
use Rattle.ob_judge.specs.Judged.{Judged, Keeps, Breaks}
use Rattle.ob_judge.specs.Shapes.{Shape}
use Rattle.ob_judge.specs.Shapes.{Procedure as ProcedureOf}
use Rattle.ob_judge.specs.Image.{Procedure, Statements, Checked}
use Rattle.ob_judge.specs.Scopes.{AProcedure, Entry, Source, place, spelled, line}
use Rattle.ob_judge.specs.Texts.{texts_of}
use Rattle.ob_judge.specs.Statements.{body_of}
use Rattle.ob_judge.specs.Making.{Making, with_levels, declare_outer, offer_if, no_procedure}
use Rattle.ob_judge.specs.Parameters.{Listed, stand}
use Rattle.ob_judge.specs.Declarations.{each, const_part, types_part, var_part, consts_in, types_in, vars_in, heading, decls_part, procedures_part}
use Rattle.judged_tree.specs.Outline.{outlined_procedure, outlined_statements}
use Rattle.judged_well.specs.Gives.{Gives}
use Rattle.judged_well.proofs.Judging.{keeps, breaks, weaken, and_then, by_rule, gives_both}
use Rattle.judged_modules.specs.Agrees.{bases_of}
use Rattle.judged_modules.specs.steps.Frames.{Begins, entered, left}
use Rattle.judged_modules.specs.steps.Procedures.{OneProcedure}
use Rattle.judged_modules.specs.steps.Steps.{completed, inside, procedure_part}
use Rattle.judged_modules.proofs.DeclarationsGrow.{g_const, g_each, g_var, t_typed, typed_grows}
use Rattle.judged_modules.proofs.TypesGrow.{i_stand}
use Rattle.judged_modules.proofs.steps.Frame.{h_consts}
use Rattle.judged_modules.proofs.steps.FrameTypes.{k_types, k_vars}
use Rattle.judged_modules.proofs.steps.Laws.{procedures_law}
use Rattle.judged_programs.proofs.HeadingsTidy.{h_formals}
use Rattle.judged_outlines.proofs.Parts.{AmongIn, d_stand}
use Rattle.judged_outlines.proofs.Stated.{a_body, a_answer}
use Rattle.judged_outlines.proofs.Declared.{among_entered, among_left, d_each, d_const, d_types, d_var, d_heading}
use Rattle.start_outlines.proofs.Settling.{IsSettled, Settles, SettlesTo, begins_same, quiet, grown_quiet, on, with_heading, with_procedure, one_ended}

module _ (p : Source) where
  -- ---- constants, types, variables

  s_consts : (ds : List S.ConstDecl) (s : Making) → AmongIn s → Gives (SettlesTo s) (each (const_part p) ds s)
  s_consts ds s among = weaken (gives_both (gives_both (g_each p (const_part p) (g_const p) ds s) (h_consts p ds s)) (d_each p (const_part p) (d_const p) ds s among))
      (λ r h. grown_quiet s r.1 (h.1).among (h.0).0 ((h.0).1).procedures)

  s_types : (ds : List S.TypeDecl) (s : Making) → AmongIn s → Gives (SettlesTo s) (types_part p ds s)
  s_types ds s among = weaken (gives_both (gives_both (t_typed p ds s) (k_types p ds s)) (d_types p ds s among))
      (λ r h. grown_quiet s r.1 (h.1).among (typed_grows p s r.1 (h.0).0) ((h.0).1).procedures)

  s_vars : (ds : List S.VarDecl) (s : Making) → AmongIn s → Gives (SettlesTo s) (each (var_part p) ds s)
  s_vars ds s among = weaken (gives_both (gives_both (g_each p (var_part p) (g_var p) ds s) (k_vars p ds s)) (d_each p (var_part p) (d_var p) ds s among))
      (λ r h. grown_quiet s r.1 (h.1).among (h.0).0 ((h.0).1).procedures)

  pub s_stand : (i : ℕ) (s : Making) → AmongIn s → Gives (SettlesTo s) (stand p (i ∷ []) s)
  s_stand i s among = weaken (gives_both (i_stand p (i ∷ []) s) (d_stand p (i ∷ []) s among)) (λ r h. grown_quiet s r.1 (h.1).among (h.0).grown (h.0).procedures_same)

  -- ---- headings

  abbrev entry_of : ℕ → Identdef → Bool → Listed × Shape → Entry
  entry_of f name is_local h = record { object = AProcedure f (ProcedureOf (h.0).formals h.1) is_local; exported = is_some name.star }

  abbrev headed : ℕ → Identdef → Bool → (Listed × Shape) × Making → Making
  headed f name is_local h = offer_if (not is_local) (spelled p name.name) (entry_of f name is_local h.0) (with_levels (declare_outer (spelled p name.name) (entry_of f name is_local h.0)) h.1)

  headed_bases : (f : ℕ) (name : Identdef) (b : Bool) (h : (Listed × Shape) × Making) → bases_of (headed f name b h) ≡ bases_of h.1
  headed_bases f name true h = refl
  headed_bases f name false h = refl

  headed_procedures : (f : ℕ) (name : Identdef) (b : Bool) (h : (Listed × Shape) × Making) → (headed f name b h).procedures ≡ (h.1).procedures
  headed_procedures f name true h = refl
  headed_procedures f name false h = refl

  -- what a heading leaves as it was
  record Headed (s : Making) (r : (Listed × Shape) × Making) : Type 0 where
    pub bases : bases_of r.1 ≡ bases_of s
    pub procedures : (r.1).procedures ≡ s.procedures

  s_heading : (f : ℕ) (name : Identdef) (formals : Option S.Formals) (is_local : Bool) (s : Making) → Gives (Headed s) (heading p f name formals is_local s)
  s_heading f name formals is_local s = and_then (h_formals 0 p true formals s) (λ h fh. keeps (Headed s) (h.0, headed f name is_local h) (record {
    bases = headed_bases f name is_local h ∙ (fh.lists).heads.bases;
    procedures = headed_procedures f name is_local h ∙ (fh.lists).heads.procedures;
  }))

  -- ---- what a procedure becomes

  module _ (s : Making) (among : AmongIn s) where
    abbrev became : OneProcedure → Listed × Shape → Statements → Option Checked → Procedure
    became q h b a = record {
      module_number = s.world.module_number;
      line = line p (q.name).name;
      is_body = false;
      formals = (h.0).parameters;
      result = h.1;
      locals = s.variables;
      texts = texts_of b a;
      body = b;
      answer = a;
    }

    completed_by : (q : OneProcedure) (h : Listed × Shape) (later : List (Option ℕ)) → Begins (bases_of s) later
        → Gives (λ j. outlined_procedure later j ≡ outlined_procedure (bases_of s) j) (completed p q h s)
    completed_by q h later begins =
        and_then (a_body (length (bases_of s)) p (bases_of s) later begins.same s.world among q.body) (λ b i.
        and_then (a_answer (length (bases_of s)) p (bases_of s) later begins.same s.world among h.1 q.end_word q.returned) (λ a j.
        by_rule 37 (place p q.end_name) (bytes_eq (spelled p q.end_name) (spelled p (q.name).name)) (λ it.
        keeps (λ j. outlined_procedure later j ≡ outlined_procedure (bases_of s) j) (became q h b a) (ap₂ (λ x y. record (became q h b a) { body = x; answer = y }) i j))))

    all_given : {A : Type 0} (P : List (Option ℕ) → A → Type 0) (m : Judged A) → ((later : List (Option ℕ)) → Begins (bases_of s) later → Gives (P later) m) → Gives (λ j. (later : List (Option ℕ)) → Begins (bases_of s) later → P later j) m
    all_given P (Keeps a) g = keeps (λ j. (later : List (Option ℕ)) → Begins (bases_of s) later → P later j) a (λ later begins. (g later begins).holds)
    all_given P (Breaks number at) g = breaks (λ j. (later : List (Option ℕ)) → Begins (bases_of s) later → P later j) number at

    s_completed : (q : OneProcedure) (h : Listed × Shape) → Gives (IsSettled (bases_of s)) (completed p q h s)
    s_completed q h = weaken (all_given (λ later j. outlined_procedure later j ≡ outlined_procedure (bases_of s) j) (completed p q h s) (completed_by q h)) (λ j g. record { same = g })

    pub s_body : (b : Option S.Body) → Gives (λ xs. (later : List (Option ℕ)) → Begins (bases_of s) later → outlined_statements later xs ≡ outlined_statements (bases_of s) xs) (body_of p s.world b)
    s_body b = all_given (λ later xs. outlined_statements later xs ≡ outlined_statements (bases_of s) xs) (body_of p s.world b) (λ later begins. a_body (length (bases_of s)) p (bases_of s) later begins.same s.world among b)

  -- ---- procedures

  -- where its declarations are such
  abbrev Declares : S.Decls → Type 0
  Declares d = (u : Making) → AmongIn u → Gives (SettlesTo u) (decls_part p d u)

  -- in the scope of a procedure: what was made in it, and what it becomes
  record Ended (s : Making) (r : Unit {0} × Making) : Type 0 where
    pub headed : Making
    pub inner : Making
    pub made : Procedure
    pub is : r.1 ≡ with_procedure inner (length s.procedures) made
    pub begun : Begins (bases_of s) (bases_of headed)
    pub opened : headed.procedures ≡ s.procedures ++ no_procedure ∷ []
    pub settles : Settles headed inner
    pub settled : IsSettled (bases_of inner) made

  s_inside : (is_local : Bool) (q : OneProcedure) → Declares q.decls → (s : Making) → AmongIn s → Gives (Ended s) (inside p (length s.procedures) is_local q (entered (length s.procedures) (with_heading s)))
  s_inside is_local q declares s among =
      let f = length s.procedures in
      let u = entered f (with_heading s) in
      let open_ : AmongIn (with_heading s) = record { names = among.names; members = among.members; fields = among.fields; narrowed = among.narrowed } in
      and_then (gives_both (s_heading f q.name q.formals is_local u) (d_heading p f q.name q.formals is_local u (among_entered f (with_heading s) open_))) (λ h hh.
      and_then (declares h.1 (hh.1).among) (λ d hd.
      and_then (s_completed d.1 hd.among q h.0) (λ j hj.
      keeps (Ended s) (tt, with_procedure d.1 f j) (record {
        headed = h.1;
        inner = d.1;
        made = j;
        is = refl;
        begun = begins_same (bases_of s) (bases_of h.1) (hh.0).bases;
        opened = (hh.0).procedures;
        settles = hd;
        settled = hj;
      }))))

  s_procedure : (q : OneProcedure) → Declares q.decls → (s : Making) → AmongIn s → Gives (SettlesTo s) (procedure_part p q s)
  s_procedure q declares s among = and_then (s_stand (q.name).name s among) (λ r h.
      let v = r.1 in
      let a = h.among in
      let open_ : AmongIn (with_heading v) = record { names = a.names; members = a.members; fields = a.fields; narrowed = a.narrowed } in
      and_then (s_inside (is_some v.world.procedure) q declares v a) (λ e he.
      let k = (he.settles).among in
      let inner : AmongIn (with_procedure he.inner (length v.procedures) he.made) = record { names = k.names; members = k.members; fields = k.fields; narrowed = k.narrowed } in
      let more : length (bases_of v) ≤ length (bases_of he.inner) = let x = he.begun.long in let y = he.settles.begins.long in omega (arith, x, y) in
      let end = one_ended v he.headed he.inner he.made he.begun he.opened he.settles he.settled (among_left (with_heading v) (with_procedure he.inner (length v.procedures) he.made) more open_ inner) in
      keeps (SettlesTo s) (tt, left (with_heading v) e.1) (on s v (left (with_heading v) e.1) h (subst (λ x. Settles v (left (with_heading v) x)) (sym he.is) end))))

  mutual
    pub s_decls : (d : S.Decls) (s : Making) → AmongIn s → Gives (SettlesTo s) (decls_part p d s)
    s_decls (S.decls consts types vars procedures) s among =
        and_then (s_consts (consts_in consts) s among) (λ a ha.
        and_then (s_types (types_in types) a.1 ha.among) (λ b hb.
        and_then (s_vars (vars_in vars) b.1 hb.among) (λ c hc.
        weaken (s_procedures procedures c.1 hc.among) (λ q hq. on s a.1 q.1 ha (on a.1 b.1 q.1 hb (on b.1 c.1 q.1 hc hq))))))

    pub s_procedures : (x : S.Procedures) (s : Making) → AmongIn s → Gives (SettlesTo s) (procedures_part p x s)
    s_procedures S.no_procedure s among = keeps (SettlesTo s) (tt, s) (quiet s s among (begins_same (bases_of s) (bases_of s) refl) refl)
    s_procedures (S.procedure procedure_word name formals semicolon inner body returned end_word end_name last rest) s among =
        let q : OneProcedure = record { procedure_word = procedure_word; name = name; formals = formals; semicolon = semicolon; decls = inner; body = body; returned = returned; end_word = end_word; end_name = end_name } in
        subst (Gives (SettlesTo s)) (sym (procedures_law p q last rest s))
        (and_then (s_procedure q (λ u k. s_decls inner u k) s among) (λ r h. weaken (s_procedures rest r.1 h.among) (λ z k. on s r.1 z.1 h k)))
