-- Declarations leave the scopes round the innermost as they are.
use Rattle.std.proofs.Common.{◌≡◌, ℕ, suc, ◌+◌, ◌≤◌, List, [], ◌∷◌, ◌++◌, length, Bool, true, false, not, Option, Some, refl, ap, sym, ◌∙◌, subst, arith}
use Rattle.std.specs.Prelude.{is_some, slice_set}
use Rattle.ob_syntax.specs.Syntax as S
use Rattle.ob_syntax.specs.declared.names.Identdef.{Identdef}
use Rattle.ob_judge.specs.Judged.{Judged, Keeps, ◌>>=◌, rule, some}
use Rattle.ob_judge.specs.Shapes.{Shape}
use Rattle.ob_judge.specs.Shapes.{Procedure as ProcedureOf}
use Rattle.ob_judge.specs.Scopes.{Object, AConstant, AType, AVariable, AProcedure, Entry, Source, World, declare, no_names, place, spelled}
use Rattle.ob_judge.specs.Expressions.{constant}
use Rattle.ob_judge.specs.Cases.{entry_object}
use Rattle.ob_judge.specs.Making.{Making, Part, with_known, with_levels, declare_outer, last_names, without_last, offer_if, is_among, no_procedure}
use Rattle.ob_judge.specs.Parameters.{Listed, idents_list, symbols_of, stand}
use Rattle.ob_judge.specs.Types.{record_object}
use Rattle.ob_judge.specs.Declarations.{home_here, place_here, each, const_part, type_decl_part, forward_base, types_part, variable_part, var_part, consts_in, types_in, vars_in, heading, decls_part, procedures_part}
use Rattle.judged_well.specs.Gives.{Gives}
use Rattle.judged_well.proofs.Judging.{keeps, breaks, weaken, and_then, anything, gives_both}
use Rattle.judged_modules.proofs.Lists.{append_length, set_length}
use Rattle.judged_modules.proofs.TypesGrow.{joined}
use Rattle.judged_modules.specs.steps.Frames.{entered, left}
use Rattle.judged_modules.specs.steps.Procedures.{OneProcedure}
use Rattle.judged_modules.specs.steps.Steps.{completed, completes, procedure_part}
use Rattle.judged_modules.proofs.steps.Frame.{h_heading}
use Rattle.judged_modules.proofs.steps.Laws.{procedures_law}
use Rattle.judged_programs.proofs.ProceduresTidy.{s_decls}
use Rattle.judged_programs.proofs.Tidy.{offer_same}
use Rattle.later_bodies.specs.Waiting.{put_off}
use Rattle.bodies_in_scope.specs.Below.{IsOfProcedure}
use Rattle.bodies_in_scope.specs.Around.{name_of, OneMore, PutOff}
use Rattle.bodies_in_scope.proofs.Names.{declared_outer, last_gone}
use Rattle.bodies_in_scope.proofs.Types.{t_type}
use Rattle.bodies_in_scope.proofs.Stays.{Sort, GoesOn, Around, IsAround, AroundTo, Same, AllStand, a_look, a_types, a_stand, a_declared, a_formals}

module _ (p : Source) where
  -- ---- constants, types and variables

  module _ (P : Sort) (on : GoesOn P) (round : List (List ℕ → Option Entry)) (v : World) where
    abbrev In : Making → Type 0
    In s = IsAround P on round v s

    abbrev InTo : Unit {0} × Making → Type 0
    InTo r = AroundTo P on round v r

    pub a_each : {X : Type 0} (f : X → Part (Unit {0})) → ((x : X) (s : Making) → In s → Gives InTo (f x s)) → (xs : List X) (s : Making) → In s → Gives InTo (each f xs s)
    a_each f g [] s h = keeps InTo (tt, s) h
    a_each f g (x ∷ xs) s h = and_then (g x s h) (λ r k. a_each f g xs r.1 k)

    pub a_const : (d : S.ConstDecl) (s : Making) → In s → Gives InTo (const_part p d s)
    a_const d s h = and_then (a_stand P on round v p (d.name.name ∷ []) s h) (λ r k.
        and_then (a_look P on round v (constant p (r.1).world d.value) r.1 k.around) (λ c j.
        weaken (a_declared P on round v p d.name (AConstant c.0) c.1 (ap (is_among (spelled p d.name.name)) j.standing ∙ k.stand.0) tt j.around) (λ q l. l.around)))

    a_type_decl : (d : S.TypeDecl) (s : Making) → In s → Gives InTo (type_decl_part p d s)
    a_type_decl d s h = and_then (a_stand P on round v p (d.name.name ∷ []) s h) (λ r k.
        and_then (a_types P on round v _ r.1 k.around (t_type p d.is r.1)) (λ a j.
        weaken (a_declared P on round v p d.name (AType a.0) a.1 (ap (is_among (spelled p d.name.name)) j.standing ∙ k.stand.0) tt j.around) (λ q l. l.around)))

    a_forward : (k : ℕ × ℕ) (s : Making) → In s → Gives InTo (forward_base p k s)
    a_forward k s h = and_then (a_look P on round v (some 30 (place p k.1) (entry_object (last_names s.world.levels (spelled p k.1)))) s h) (λ o i.
        and_then (a_look P on round v (some 31 (place p k.1) (record_object o.0)) o.1 i.around) (λ r j.
        let known = (with_known (λ x. record x { bases = slice_set x.bases k.0 (Some r.0) }) r.1).world.known in
        keeps InTo (tt, with_known (λ x. record x { bases = slice_set x.bases k.0 (Some r.0) }) r.1) (record {
          own = j.around.own;
          world = ap {A = World} {B = World} (λ w. record w { known = known }) j.around.world;
          holds = j.around.holds;
        })))

    pub a_type_section : (ds : List S.TypeDecl) (s : Making) → In s → Gives InTo (types_part p ds s)
    a_type_section ds s h = and_then (a_each (type_decl_part p) a_type_decl ds (record s { is_type_part = true; forward = [] }) h) (λ r k.
        a_each (forward_base p) a_forward r.1.forward (record r.1 { is_type_part = false }) k)

    abbrev variable_object : Shape → Making → Object
    variable_object a s = AVariable (record { shape = a; place = place_here s.world.procedure s.world.module_number (s.values + length s.variables); home = home_here s.world.procedure; owner = s.world.module_number; procedure = s.world.procedure })

    a_variables : (a : Shape) (xs : List Identdef) (s : Making) → AllStand p (symbols_of xs) s.standing → In s → Gives InTo (each (variable_part p a) xs s)
    a_variables a [] s stand h = keeps InTo (tt, s) h
    a_variables a (x ∷ xs) s stand h = and_then (and_then (a_declared P on round v p x (variable_object a s) s stand.0 tt h) (λ r k.
        keeps (λ (q : Unit {0} × Making). Same P on round v s q) (tt, record r.1 { variables = r.1.variables ++ a ∷ [] }) (record { around = k.around; standing = k.standing }))) (λ r k.
        a_variables a xs r.1 (subst (AllStand p (symbols_of xs)) (sym k.standing) stand.1) k.around)

    pub a_var : (d : S.VarDecl) (s : Making) → In s → Gives InTo (var_part p d s)
    a_var d s h = and_then (a_stand P on round v p (symbols_of (idents_list d.names)) s h) (λ r k.
        and_then (a_types P on round v _ r.1 k.around (t_type p d.of r.1)) (λ a j.
        a_variables a.0 (idents_list d.names) a.1 (subst (AllStand p (symbols_of (idents_list d.names))) (sym j.standing) k.stand) j.around))

  -- ---- headings

  -- nothing is claimed of the innermost scope
  abbrev pub Any : Sort
  Any standing k = Unit {0}

  any_on : GoesOn Any
  any_on = record { stands = λ name standing k h. tt; declares = λ name e standing k stands other h. tt }

  abbrev heading_entry : (f : ℕ) → Identdef → (Listed × Shape) → Bool → Entry
  heading_entry f name h is_local = record { object = AProcedure f (ProcedureOf h.0.formals h.1) is_local; exported = is_some name.star }

  entry_of : (f : ℕ) (name : Identdef) (h : Listed × Shape) (is_local : Bool) → IsOfProcedure f (heading_entry f name h is_local)
  entry_of f name h is_local = record { shape = ProcedureOf h.0.formals h.1; is_local = is_local; object = refl }

  -- in the scope round the innermost comes the procedure's name
  pub record Headed (f : ℕ) (name : Identdef) (is_local : Bool) (round : List (List ℕ → Option Entry)) (names : List ℕ → Option Entry) (v : World) (s : Making) (r : (Listed × Shape) × Making) : Type 0 where
    pub around : Around Any (round ++ declare (spelled p name.name) (heading_entry f name r.0 is_local) names ∷ []) v (r.1).standing (r.1).world
    pub procedures : (r.1).procedures ≡ s.procedures

  named_around : (f : ℕ) (name : Identdef) (is_local : Bool) (round : List (List ℕ → Option Entry)) (names : List ℕ → Option Entry) (v : World) (h : Listed × Shape) (t : Making)
      → Around Any (round ++ names ∷ []) v t.standing t.world
      → let e = heading_entry f name h is_local in let u = offer_if (not is_local) (spelled p name.name) e (with_levels (declare_outer (spelled p name.name) e) t) in
      Around Any (round ++ declare (spelled p name.name) e names ∷ []) v u.standing u.world
  named_around f name is_local round names v h t around =
      let e = heading_entry f name h is_local in
      let u = with_levels (declare_outer (spelled p name.name) e) t in
      let one = spelled p name.name in
      let levels : declare_outer one e ((round ++ names ∷ []) ++ around.own ∷ []) ≡ (round ++ declare one e names ∷ []) ++ around.own ∷ [] =
      (ap (declare_outer one e) (joined round (names ∷ []) (around.own ∷ [])) ∙ declared_outer one e round names around.own ∙ sym (joined round (declare one e names ∷ []) (around.own ∷ []))) in
      let world : u.world ≡ record v { known = t.world.known; levels = (round ++ declare one e names ∷ []) ++ around.own ∷ [] } =
      (ap {A = World} {B = World} (λ w. record w { levels = declare_outer one e w.levels }) around.world ∙ ap {B = World} (λ ls. record v { known = t.world.known; levels = ls }) levels) in
      record {
        own = around.own;
        world = offer_same (not is_local) one e u ∙ world ∙ ap {B = World} (λ k. record v { known = k; levels = (round ++ declare one e names ∷ []) ++ around.own ∷ [] }) (sym (ap (λ w. w.known) (offer_same (not is_local) one e u)));
        holds = tt;
      }

  a_heading : (f : ℕ) (name : Identdef) (x : Option S.Formals) (is_local : Bool) (round : List (List ℕ → Option Entry)) (names : List ℕ → Option Entry) (v : World) (s : Making)
      → Around Any (round ++ names ∷ []) v s.standing s.world → Gives (Headed f name is_local round names v s) (heading p f name x is_local s)
  a_heading f name x is_local round names v s around = weaken (gives_both (and_then (a_formals Any any_on (round ++ names ∷ []) v p x s around) (λ h k.
      let e = heading_entry f name h.0 is_local in
      keeps (λ (r : (Listed × Shape) × Making). Around Any (round ++ declare (spelled p name.name) (heading_entry f name r.0 is_local) names ∷ []) v (r.1).standing (r.1).world)
      (h.0, offer_if (not is_local) (spelled p name.name) e (with_levels (declare_outer (spelled p name.name) e) h.1)) (named_around f name is_local round names v h.0 h.1 k))) (h_heading p f name x is_local s)) (λ r h.
      record { around = h.0; procedures = (h.1).procedures })

  -- ---- a procedure

  -- where its declarations leave the scopes round the innermost
  abbrev Declares : S.Decls → Type 0
  Declares d = (round : List (List ℕ → Option Entry)) (v : World) (s : Making) → Around Any round v s.standing s.world → Gives (λ (r : Unit {0} × Making). Around Any round v (r.1).standing (r.1).world) (decls_part p d s)

  -- a name stands that didn't
  stood : {B : Type 0} {Q : B → Type 0} (f : Unit {0} × Making → Judged B) (i : ℕ) (s : Making) → (is_among (spelled p i) s.standing ≡ false → Gives Q (f (tt, record s { standing = spelled p i ∷ s.standing }))) → Gives Q (stand p (i ∷ []) s >>= f)
  stood {B = B} {Q = Q} f i s next = by (is_among (spelled p i) s.standing) next
    where
      by : (b : Bool) → ((b ≡ false) → Gives Q (f (tt, record s { standing = spelled p i ∷ s.standing })))
          → Gives Q (((rule 36 (place p i) (not b) >>= λ a. Keeps (a, s)) >>= λ (r : Unit {0} × Making). Keeps (tt, record r.1 { standing = spelled p i ∷ r.1.standing })) >>= f)
      by false next = next refl
      by true next = breaks Q 36 (place p i)

  module _ (q : OneProcedure) where
    abbrev stands_now : Making → Making
    stands_now s = record s { standing = name_of p q ∷ s.standing }

    abbrev numbered : Making → Making
    numbered s = record (stands_now s) { procedures = s.procedures ++ no_procedure ∷ [] }

    abbrev opened : Making → Making
    opened s = entered (length s.procedures) (numbered s)

    abbrev entry_in : Making → Listed × Shape → Entry
    entry_in s h = heading_entry (length s.procedures) q.name h (is_some s.world.procedure)

    -- what was made in its scope, when its own declarations have been judged
    record Inside (round : List (List ℕ → Option Entry)) (names : List ℕ → Option Entry) (s : Making) (h : Listed × Shape) (d : Making) : Type 0 where
      around : Around Any (round ++ declare (name_of p q) (entry_in s h) names ∷ []) (opened s).world d.standing d.world
      more : suc (length s.procedures) ≤ length d.procedures

    one_longer : (s : Making) → length (numbered s).procedures ≡ suc (length s.procedures)
    one_longer s = let e = append_length s.procedures (no_procedure ∷ []) in omega (arith, e)

    begin : (round : List (List ℕ → Option Entry)) (names : List ℕ → Option Entry) (s : Making) → s.world.levels ≡ round ++ names ∷ [] → Around Any (round ++ names ∷ []) (opened s).world (opened s).standing (opened s).world
    begin round names s levels = record {
      own = no_names;
      world = ap {B = World} (λ ls. record (opened s).world { known = s.world.known; levels = ls ++ no_names ∷ [] }) levels;
      holds = tt;
    }

    was_inside : {B : Type 0} {Q : B → Type 0} (round : List (List ℕ → Option Entry)) (names : List ℕ → Option Entry) (s : Making) (g : Listed × Shape → Making → Judged B) → Declares q.decls → s.world.levels ≡ round ++ names ∷ []
        → ((h : Listed × Shape) (d : Making) → Inside round names s h d → Gives Q (g h d))
        → Gives Q (heading p (length s.procedures) q.name q.formals (is_some s.world.procedure) (opened s) >>= λ h. decls_part p q.decls h.1 >>= λ d. g h.0 d.1)
    was_inside round names s g declares levels next =
        and_then (a_heading (length s.procedures) q.name q.formals (is_some s.world.procedure) round names (opened s).world (opened s) (begin round names s levels)) (λ h k.
        and_then (gives_both (declares (round ++ declare (name_of p q) (entry_in s h.0) names ∷ []) (opened s).world h.1 k.around) (s_decls 0 p q.decls h.1)) (λ d j.
        next h.0 d.1 (record {
          around = j.0;
          more = let a = (j.1).grown.procedures_more in let e = ap length k.procedures in let n = one_longer s in omega (arith, a, e, n);
        })))

    -- the scopes that are left
    closed : (round : List (List ℕ → Option Entry)) (names : List ℕ → Option Entry) (s : Making) (h : Listed × Shape) (d : Making) → Inside round names s h d
        → (left (numbered s) d).world ≡ record s.world { known = d.world.known; levels = round ++ declare (name_of p q) (entry_in s h) names ∷ [] }
    closed round names s h d k = ap {B = World} (λ ls. record s.world { known = d.world.known; levels = ls })
        (ap (λ w. without_last w.levels) k.around.world ∙ last_gone (round ++ declare (name_of p q) (entry_in s h) names ∷ []) k.around.own)

    one_more : (round : List (List ℕ → Option Entry)) (names : List ℕ → Option Entry) (s : Making) → Declares q.decls → s.world.levels ≡ round ++ names ∷ []
        → Gives (λ (r : Unit {0} × Making). OneMore (name_of p q) round names s r.1) (procedure_part p q s)
    one_more round names s declares levels = stood _ q.name.name s (λ new.
        and_then {P = λ (r : Unit {0} × Making). OneMore (name_of p q) round names s (left (numbered s) r.1)} (was_inside round names s (λ h d. completes p (length s.procedures) q h d) declares levels (λ h d k.
        and_then (anything (completed p q h d)) (λ j z.
        keeps (λ (r : Unit {0} × Making). OneMore (name_of p q) round names s (left (numbered s) r.1)) (tt, record d { procedures = slice_set d.procedures (length s.procedures) j }) (record {
          entry = entry_in s h;
          of_procedure = entry_of (length s.procedures) q.name h (is_some s.world.procedure);
          world = closed round names s h d k;
          unique = new;
          standing = refl;
          more = let m = k.more in let e = set_length d.procedures (length s.procedures) j in omega (arith, m, e);
        })))) (λ r k. keeps (λ (t : Unit {0} × Making). OneMore (name_of p q) round names s t.1) (tt, left (numbered s) r.1) k))

    off : (round : List (List ℕ → Option Entry)) (names : List ℕ → Option Entry) (s : Making) → Declares q.decls → s.world.levels ≡ round ++ names ∷ []
        → Gives (PutOff (name_of p q) round names s) (put_off p q s)
    off round names s declares levels = stood _ q.name.name s (λ new.
        was_inside round names s (λ h d. Keeps (record { outer = numbered s; number = length s.procedures; heading = h; inner = d })) declares levels (λ h d k.
        keeps (PutOff (name_of p q) round names s) (record { outer = numbered s; number = length s.procedures; heading = h; inner = d }) (record {
          number = refl;
          entry = entry_in s h;
          of_procedure = entry_of (length s.procedures) q.name h (is_some s.world.procedure);
          own = k.around.own;
          inside = k.around.world ∙ ap {B = World} (λ ls. record s.world { known = d.world.known; levels = ls; procedure = Some (length s.procedures) }) (joined round (declare (name_of p q) (entry_in s h) names ∷ []) (k.around.own ∷ []));
          outside = closed round names s h d k;
          unique = new;
          standing = refl;
          more = k.more;
        })))

    a_procedure : Declares q.decls → (round : List (List ℕ → Option Entry)) (v : World) (s : Making) → Around Any round v s.standing s.world
        → Gives (λ (r : Unit {0} × Making). Around Any round v (r.1).standing (r.1).world) (procedure_part p q s)
    a_procedure declares round v s around = weaken (one_more round around.own s declares (ap (λ w. w.levels) around.world)) (λ r k. record {
      own = declare (name_of p q) k.entry around.own;
      world = k.world ∙ ap {A = World} {B = World} (λ w. record w { known = (r.1).world.known; levels = round ++ declare (name_of p q) k.entry around.own ∷ [] }) around.world;
      holds = tt;
    })

  mutual
    pub a_decls : (d : S.Decls) (round : List (List ℕ → Option Entry)) (v : World) (s : Making) → Around Any round v s.standing s.world → Gives (λ (r : Unit {0} × Making). Around Any round v (r.1).standing (r.1).world) (decls_part p d s)
    a_decls (S.decls consts types vars procedures) round v s around =
        and_then (a_each Any any_on round v (const_part p) (a_const Any any_on round v) (consts_in consts) s around) (λ a f.
        and_then (a_type_section Any any_on round v (types_in types) a.1 f) (λ b g.
        and_then (a_each Any any_on round v (var_part p) (a_var Any any_on round v) (vars_in vars) b.1 g) (λ c h.
        a_procedures procedures round v c.1 h)))

    pub a_procedures : (x : S.Procedures) (round : List (List ℕ → Option Entry)) (v : World) (s : Making) → Around Any round v s.standing s.world → Gives (λ (r : Unit {0} × Making). Around Any round v (r.1).standing (r.1).world) (procedures_part p x s)
    a_procedures S.no_procedure round v s around = keeps (λ (r : Unit {0} × Making). Around Any round v (r.1).standing (r.1).world) (tt, s) around
    a_procedures (S.procedure procedure_word name formals semicolon inner body returned end_word end_name last rest) round v s around =
        let q : OneProcedure = record { procedure_word = procedure_word; name = name; formals = formals; semicolon = semicolon; decls = inner; body = body; returned = returned; end_word = end_word; end_name = end_name } in
        subst (Gives (λ (r : Unit {0} × Making). Around Any round v (r.1).standing (r.1).world)) (sym (procedures_law p q last rest s))
        (and_then (a_procedure q (λ r u t k. a_decls inner r u t k) round v s around) (λ r h. a_procedures rest round v r.1 h))

  pub procedure_comes : (q : OneProcedure) (round : List (List ℕ → Option Entry)) (names : List ℕ → Option Entry) (s : Making) → s.world.levels ≡ round ++ names ∷ []
      → Gives (λ (r : Unit {0} × Making). OneMore (name_of p q) round names s r.1) (procedure_part p q s)
  procedure_comes q round names s levels = one_more q round names s (λ r u t k. a_decls q.decls r u t k) levels

  pub procedure_put_off : (q : OneProcedure) (round : List (List ℕ → Option Entry)) (names : List ℕ → Option Entry) (s : Making) → s.world.levels ≡ round ++ names ∷ []
      → Gives (PutOff (name_of p q) round names s) (put_off p q s)
  procedure_put_off q round names s levels = off q round names s (λ r u t k. a_decls q.decls r u t k) levels
