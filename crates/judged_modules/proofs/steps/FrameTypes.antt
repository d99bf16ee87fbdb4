-- What types, variables and procedures leave as it was: earlier modules, and all but procedures leave the procedures.
use Rattle.std.proofs.Common.{◌≡◌, ℕ, ◌+◌, List, [], ◌∷◌, ◌++◌, length, true, false, Option, Some, None, refl, ap, ◌∙◌, arith, Bool}
use Rattle.std.specs.Prelude.{is_none, nat_le, slice_set, slice_get}
use Rattle.ob_syntax.specs.Syntax as S
use Rattle.ob_syntax.specs.declared.names.Identdef.{Identdef}
use Rattle.ob_types.specs.Trees.{rounded_extent}
use Rattle.ob_judge.specs.Judged.{Judged, Keeps, Breaks, ◌>>=◌, rule, some}
use Rattle.ob_judge.specs.Shapes.{Shape, Record, Pointer, Procedure, Layout}
use Rattle.ob_judge.specs.Scopes.{AType, AVariable, Source, place, spelled}
use Rattle.ob_judge.specs.Cases.{entry_object}
use Rattle.ob_judge.specs.Making.{Making, Part, ◌>>>◌, here, last_names, with_known, no_layout, set_base, later, aside, no_procedure}
use Rattle.ob_judge.specs.Parameters.{Listed, type_at, formal_part, idents_list, symbols_of}
use Rattle.ob_judge.specs.Types.{limit, array_length, array_lengths, arrays, base_layout, record_only, record_object, stand_fields, add_fields, among_fields, forward_name, type_part, fields_part, more_part, place_of_type}
use Rattle.ob_judge.specs.Declarations.{each, const_part, type_decl_part, forward_base, types_part, variable_part, var_part, home_here, place_here, consts_in, types_in, vars_in, decls_part, procedures_part}
use Rattle.judged_well.specs.Gives.{Gives}
use Rattle.judged_well.proofs.Judging.{keeps, breaks, weaken, and_then, anything, gives_both}
use Rattle.judged_modules.proofs.DeclarationsGrow.{g_each, g_var, typed_grows, t_typed}
use Rattle.judged_modules.specs.steps.Procedures.{OneProcedure}
use Rattle.judged_modules.specs.steps.Steps.{completed, completes, inside}
use Rattle.judged_modules.specs.steps.Frames.{Begins, Steady, left}
use Rattle.judged_modules.proofs.steps.Frame.{HeldTo, h_heading, h_stand, h_declared, h_consts}

pub record Kept (s t : Making) : Type 0 where
  pub modules : t.world.modules ≡ s.world.modules
  pub procedures : t.procedures ≡ s.procedures

kept : (s : Making) → Kept s s
kept s = record { modules = refl; procedures = refl }

kept_on : (s t u : Making) → Kept s t → Kept t u → Kept s u
kept_on s t u g h = record { modules = h.modules ∙ g.modules; procedures = h.procedures ∙ g.procedures }

abbrev pub KeptTo : {A : Type 0} → Making → A × Making → Type 0
KeptTo s r = Kept s r.1

k_next : {A B : Type 0} {s : Making} {m : Judged (A × Making)} {f : A × Making → Judged (B × Making)} → Gives (KeptTo s) m → ((r : A × Making) → Gives (KeptTo r.1) (f r)) → Gives (KeptTo s) (m >>= f)
k_next {s = s} g next = and_then g (λ r h. weaken (next r) (λ q k. kept_on s r.1 q.1 h k))

k_look : {A : Type 0} (m : Judged A) (s : Making) → Gives (KeptTo s) (m >>= λ a. Keeps (a, s))
k_look (Keeps a) s = keeps (KeptTo s) (a, s) (kept s)
k_look (Breaks n at) s = breaks (KeptTo s) n at

k_from : {A : Type 0} {m : Judged (A × Making)} (s u : Making) → Kept s u → Gives (KeptTo u) m → Gives (KeptTo s) m
k_from s u h g = weaken g (λ q k. kept_on s u q.1 h k)

k_held : {A : Type 0} {s : Making} {m : Judged (A × Making)} → Gives (HeldTo s) m → Gives (KeptTo s) m
k_held g = weaken g (λ q h. record { modules = h.modules; procedures = h.procedures })

module _ (p : Source) where
  -- ---- types

  k_stand_fields : (xs : List Identdef) (g : Layout) (s : Making) → Gives (KeptTo s) (stand_fields p xs g s)
  k_stand_fields [] g s = keeps (KeptTo s) (tt, s) (kept s)
  k_stand_fields (x ∷ xs) g s = k_next (k_look (rule 36 (place p x.name) (is_none (g.fields (spelled p x.name)))) s) (λ r. k_next (k_held (h_stand p (x.name ∷ []) r.1)) (λ q. k_stand_fields xs g q.1))

  k_among : {A : Type 0} (m : Part A) (s : Making) → Gives (KeptTo (record s { standing = [] })) (m (record s { standing = [] })) → Gives (KeptTo s) (among_fields m s)
  k_among m s g = and_then g (λ r h. keeps (KeptTo s) (r.0, record r.1 { standing = s.standing }) (record { modules = h.modules; procedures = h.procedures }))

  k_aside : {A : Type 0} (m : Part A) (s : Making) → Gives (KeptTo s) (aside m s)
  k_aside m s = and_then (anything (m (record s { standing = [] }))) (λ r h. keeps (KeptTo s) (r.0, s) (kept s))

  abbrev with_record : Making → Making
  with_record s = with_known (λ k. record k { records = k.records ++ no_layout ∷ [] }) s

  abbrev with_pointer : Making → Making
  with_pointer s = with_known (λ k. record k { bases = k.bases ++ None ∷ [] }) s

  k_pointed : (s : Making) (base : S.TypeTree) (judged : Part Shape) (o : Option ℕ) → Gives (KeptTo (with_pointer s)) (judged (with_pointer s))
      → Gives (KeptTo s) (elim o as (λ _. Judged (Unit {0} × Making)) [
        | Some name ↦ later (length s.world.known.bases) name (with_pointer s)
        | None ↦ (judged >>> λ t. here (λ w. some 31 (place_of_type p base) (record_only t)) >>> λ r. set_base (length s.world.known.bases) r) (with_pointer s)
      ])
  k_pointed s base judged (Some name) g = keeps (KeptTo s) (tt, record (with_pointer s) { forward = s.forward ++ (length s.world.known.bases, name) ∷ [] }) (record { modules = refl; procedures = refl })
  k_pointed s base judged None g = k_from s (with_pointer s) (record { modules = refl; procedures = refl }) (k_next g (λ t. k_next (k_look (some 31 (place_of_type p base) (record_only t.0)) t.1) (λ r.
      keeps (KeptTo r.1) (tt, with_known (λ k. record k { bases = slice_set k.bases (length s.world.known.bases) (Some r.0) }) r.1) (record { modules = refl; procedures = refl }))))

  mutual
    k_type : (x : S.TypeTree) (s : Making) → Gives (KeptTo s) (type_part p x s)
    k_type (S.Named q) s = k_look (type_at p 31 q s.world) s
    k_type (S.Array i first more j element) s = k_next (k_look (array_length p first s.world) s) (λ n. k_next (k_look (array_lengths p more n.1.world) n.1) (λ ns.
        k_next (k_type element ns.1) (λ a. k_look (arrays (place p i) (n.0 ∷ ns.0) a.0 a.1.world) a.1)))
    k_type (S.Record i base first more j) s =
        let n = length s.world.known.records in
        k_from s (with_record s) (record { modules = refl; procedures = refl })
        (k_next (k_look (base_layout p base (with_record s).world) (with_record s)) (λ b.
        k_next (k_among (fields_part p n first (record (b.0) { added = [] }) >>> λ g. more_part p n more g) b.1
        (k_next (k_fields n first (record (b.0) { added = [] }) (record (b.1) { standing = [] })) (λ g. k_more n more g.0 g.1))) (λ g.
        k_next (k_look (rule 35 (place p i) (nat_le (g.0).cells limit)) g.1) (λ u.
        keeps (KeptTo u.1) (Record n, with_known (λ k. record k { records = slice_set k.records n (record (g.0) { module_number = u.1.world.module_number; line = n ∷ (g.0).line; extent = rounded_extent (g.0).extent }) }) u.1) (record { modules = refl; procedures = refl })))))
    k_type (S.Pointer i j base) s = k_next (k_pointed s base (type_part p base) (forward_name p (with_pointer s) base) (k_type base (with_pointer s))) (λ r. keeps (KeptTo r.1) (Pointer (length s.world.known.bases), r.1) (kept r.1))
    k_type (S.Procedure i formals) s = k_next (k_aside (formal_part p false formals) s) (λ r. keeps (KeptTo r.1) (Procedure ((r.0).0).formals (r.0).1, r.1) (kept r.1))

    k_fields : (n : ℕ) (x : S.MaybeFields) (g : Layout) (s : Making) → Gives (KeptTo s) (fields_part p n x g s)
    k_fields n S.no_fields g s = keeps (KeptTo s) (g, s) (kept s)
    k_fields n (S.fields names colon of) g s = k_next (k_stand_fields (idents_list names) g s) (λ u. k_next (k_type of u.1) (λ a. keeps (KeptTo a.1) (add_fields p n a.1.world a.0 (idents_list names) g, a.1) (kept a.1)))

    k_more : (n : ℕ) (x : S.NextFields) (g : Layout) (s : Making) → Gives (KeptTo s) (more_part p n x g s)
    k_more n S.no_more_fields g s = keeps (KeptTo s) (g, s) (kept s)
    k_more n (S.next_fields semicolon one rest) g s = k_next (k_fields n one g s) (λ h. k_more n rest h.0 h.1)

  -- ---- TYPE and VAR

  k_each : {X : Type 0} (f : X → Part (Unit {0})) → ((x : X) (s : Making) → Gives (KeptTo s) (f x s)) → (xs : List X) (s : Making) → Gives (KeptTo s) (each f xs s)
  k_each f g [] s = keeps (KeptTo s) (tt, s) (kept s)
  k_each f g (x ∷ xs) s = k_next (g x s) (λ r. k_each f g xs r.1)

  k_type_decl : (d : S.TypeDecl) (s : Making) → Gives (KeptTo s) (type_decl_part p d s)
  k_type_decl d s = k_next (k_held (h_stand p (d.name.name ∷ []) s)) (λ r. k_next (k_type d.is r.1) (λ a. k_held (h_declared p d.name (AType a.0) a.1)))

  k_forward : (k : ℕ × ℕ) (s : Making) → Gives (KeptTo s) (forward_base p k s)
  k_forward k s = k_next (k_look (some 30 (place p k.1) (entry_object (last_names s.world.levels (spelled p k.1)))) s) (λ o. k_next (k_look (some 31 (place p k.1) (record_object o.0)) o.1) (λ r.
      keeps (KeptTo r.1) (tt, with_known (λ x. record x { bases = slice_set x.bases k.0 (Some r.0) }) r.1) (record { modules = refl; procedures = refl })))

  pub k_types : (ds : List S.TypeDecl) (s : Making) → Gives (KeptTo s) (types_part p ds s)
  k_types ds s = k_from s (record s { is_type_part = true; forward = [] }) (record { modules = refl; procedures = refl })
      (k_next (k_each (type_decl_part p) k_type_decl ds (record s { is_type_part = true; forward = [] })) (λ r.
      k_from r.1 (record r.1 { is_type_part = false }) (record { modules = refl; procedures = refl }) (k_each (forward_base p) k_forward r.1.forward (record r.1 { is_type_part = false }))))

  k_variable : (a : Shape) (x : Identdef) (s : Making) → Gives (KeptTo s) (variable_part p a x s)
  k_variable a x s = k_next (k_held (h_declared p x (AVariable (record { shape = a; place = place_here s.world.procedure s.world.module_number (s.values + length s.variables); home = home_here s.world.procedure; owner = s.world.module_number; procedure = s.world.procedure })) s))
      (λ r. keeps (KeptTo r.1) (tt, record r.1 { variables = r.1.variables ++ a ∷ [] }) (record { modules = refl; procedures = refl }))

  k_var : (d : S.VarDecl) (s : Making) → Gives (KeptTo s) (var_part p d s)
  k_var d s = k_next (k_held (h_stand p (symbols_of (idents_list d.names)) s)) (λ r. k_next (k_type d.of r.1) (λ a. k_each (variable_part p a.0) (k_variable a.0) (idents_list d.names) a.1))

  pub k_vars : (ds : List S.VarDecl) (s : Making) → Gives (KeptTo s) (each (var_part p) ds s)
  k_vars ds s = k_each (var_part p) k_var ds s

  -- ---- procedures, and all declarations of a scope

  abbrev SameModules : {A : Type 0} → Making → A × Making → Type 0
  SameModules s r = r.1.world.modules ≡ s.world.modules

  -- what a scope leaves is in the scope round it
  m_within : (s t : Making) → t.world.modules ≡ s.world.modules → (m : Judged (Unit {0} × Making)) → Gives (SameModules s) (m >>= λ q. Keeps (q.0, left t q.1))
  m_within s t h (Keeps q) = keeps (SameModules s) (q.0, left t q.1) h
  m_within s t h (Breaks n at) = breaks (SameModules s) n at

  pub m_procedures : (x : S.Procedures) (s : Making) → Gives (SameModules s) (procedures_part p x s)
  m_procedures S.no_procedure s = keeps (SameModules s) (tt, s) refl
  m_procedures (S.procedure procedure_word name formals semicolon inner body returned end_word end_name last rest) s =
      and_then (h_stand p (name.name ∷ []) s) (λ (r : Unit {0} × Making) h.
      and_then {A = Unit {0} × Making} {P = SameModules s} (m_within s (record (r.1) { procedures = r.1.procedures ++ no_procedure ∷ [] }) h.modules _) (λ e k. weaken (m_procedures rest e.1) (λ q l. l ∙ k)))

  pub m_decls : (d : S.Decls) (s : Making) → Gives (SameModules s) (decls_part p d s)
  m_decls (S.decls consts types vars procedures) s =
      and_then (h_consts p (consts_in consts) s) (λ a f. and_then (k_types (types_in types) a.1) (λ b g. and_then (k_vars (vars_in vars) b.1) (λ c h.
      weaken (m_procedures procedures c.1) (λ q k. k ∙ h.modules ∙ g.modules ∙ f.modules))))

  -- ---- what pointer types point to, too

  abbrev pub SteadyTo : {A : Type 0} → Making → A × Making → Type 0
  SteadyTo s r = Steady s r.1

  begins_same : (as' bs : List (Option ℕ)) → bs ≡ as' → Begins as' bs
  begins_same as' bs e = record { long = (let l = ap (λ xs. length xs) e in omega (arith, l)); same = λ n l. ap (λ xs. slice_get xs n) e }

  pub s_consts : (ds : List S.ConstDecl) (s : Making) → Gives (SteadyTo s) (each (const_part p) ds s)
  s_consts ds s = weaken (h_consts p ds s) (λ r h. record { modules = h.modules; procedures = h.procedures; begins = begins_same s.world.known.bases r.1.world.known.bases h.bases })

  pub s_types : (ds : List S.TypeDecl) (s : Making) → Gives (SteadyTo s) (types_part p ds s)
  s_types ds s = weaken (gives_both (k_types ds s) (t_typed p ds s)) (λ r h. let g = typed_grows p s r.1 h.1 in record { modules = (h.0).modules; procedures = (h.0).procedures; begins = record { long = g.bases_more; same = g.bases } })

  pub s_vars : (ds : List S.VarDecl) (s : Making) → Gives (SteadyTo s) (each (var_part p) ds s)
  s_vars ds s = weaken (gives_both (k_vars ds s) (g_each p (var_part p) (g_var p) ds s)) (λ r h. record { modules = (h.0).modules; procedures = (h.0).procedures; begins = record { long = (h.1).bases_more; same = (h.1).bases } })

  -- ---- a procedure, in its own scope

  pub m_inside : (f : ℕ) (is_local : Bool) (q : OneProcedure) (s : Making) → Gives (SameModules s) (inside p f is_local q s)
  m_inside f is_local q s =
      and_then (h_heading p f q.name q.formals is_local s) (λ (h : (Listed × Shape) × Making) held. and_then (m_decls q.decls h.1) (λ (d : Unit {0} × Making) k.
      weaken (m_completes f q h.0 d.1) (λ e l. l ∙ k ∙ held.modules)))
    where
      m_completes : (f : ℕ) (q : OneProcedure) (h : Listed × Shape) (t : Making) → Gives (SameModules t) (completes p f q h t)
      m_completes f q h t = and_then (anything (completed p q h t)) (λ j a. keeps (SameModules t) (tt, record t { procedures = slice_set t.procedures f j }) refl)
