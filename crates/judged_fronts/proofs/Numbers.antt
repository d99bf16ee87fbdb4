-- The procedures that a module declares are of this module.
use Rattle.std.proofs.Common.{◌≡◌, ℕ, suc, ◌<◌, ◌≤◌, List, [], ◌∷◌, ◌++◌, length, Bool, true, false, not, ◌||◌, Option, Some, None, refl, ap, sym, ◌∙◌, subst, arith, inl, inr, ◌⊎◌}
use Rattle.std.specs.Prelude.{slice_get, slice_set, is_some}
use Rattle.std.specs.Str.{bytes_eq}
use Rattle.ob_types.proofs.Tests.{some_same, less_or_past}
use Rattle.ob_syntax.specs.Syntax as S
use Rattle.ob_syntax.specs.declared.names.Identdef.{Identdef}
use Rattle.ob_syntax.specs.declared.modules.Import.{Import}
use Rattle.ob_judge.specs.Judged.{rule, some}
use Rattle.ob_judge.specs.Shapes.{Shape, Nothing}
use Rattle.ob_judge.specs.Shapes.{Procedure as ProcedureOf}
use Rattle.ob_judge.specs.Image.{Procedure, Statements, Checked}
use Rattle.ob_judge.specs.Image as Tree
use Rattle.ob_judge.specs.Scopes.{AModule, AProcedure, Entry, Source, place, spelled, line}
use Rattle.ob_judge.specs.Texts.{texts_of}
use Rattle.ob_judge.specs.Statements.{body_of}
use Rattle.ob_judge.specs.Making.{Making, with_levels, declare_last, declare_outer, offer_if, no_procedure}
use Rattle.ob_judge.specs.Parameters.{Listed}
use Rattle.ob_judge.specs.Declarations.{each, const_part, types_part, var_part, consts_in, types_in, vars_in, answer, heading, decls_part, procedures_part}
use Rattle.ob_judge.specs.Modules.{imported, is_new, import_list, is_in, origin, import_part, module_part}
use Rattle.judged_well.specs.Gives.{Gives}
use Rattle.judged_well.proofs.Judging.{keeps, weaken, and_then, gives_both}
use Rattle.judged_modules.specs.steps.Frames.{entered, left}
use Rattle.judged_modules.proofs.Lists.{get_append, get_within, set_other, set_here, set_length, append_length}
use Rattle.judged_modules.proofs.Growing.{Grows}
use Rattle.judged_modules.proofs.Parameters.{look_as}
use Rattle.judged_modules.proofs.DeclarationsGrow.{g_const, g_each, g_var, t_typed, typed_grows}
use Rattle.judged_modules.proofs.TypesGrow.{i_stand}
use Rattle.judged_modules.proofs.steps.Frame.{h_consts}
use Rattle.judged_modules.proofs.steps.FrameTypes.{k_types, k_vars}
use Rattle.judged_programs.proofs.HeadingsTidy.{h_formals}

-- what was made stays, and procedures that are made now are of the module that is judged
pub record Numbers (s t : Making) : Type 0 where
  pub module_number : t.world.module_number ≡ s.world.module_number
  pub more : length s.procedures ≤ length t.procedures
  pub kept : (f : ℕ) → f < length s.procedures → slice_get t.procedures f ≡ slice_get s.procedures f
  pub own : (f : ℕ) (q : Procedure) → length s.procedures ≤ f → slice_get t.procedures f ≡ Some q → q.module_number ≡ s.world.module_number

abbrev pub NumbersTo : {A : Type 0} → Making → A × Making → Type 0
NumbersTo s r = Numbers s r.1

-- where no procedure is made
quiet : (s t : Making) → t.world.module_number ≡ s.world.module_number → t.procedures ≡ s.procedures → Numbers s t
quiet s t number same = record {
  module_number = number;
  more = let l = ap length same in omega (arith, l);
  kept = λ f less. ap (λ qs. slice_get qs f) same;
  own = λ f q from at. let l = get_within t.procedures f q at in let e = ap length same in absurd (omega (arith, from, l, e));
}

grown_quiet : (s t : Making) → Grows s t → t.procedures ≡ s.procedures → Numbers s t
grown_quiet s t g same = quiet s t g.module_number same

pub on : (s t u : Making) → Numbers s t → Numbers t u → Numbers s u
on s t u g h = record {
  module_number = h.module_number ∙ g.module_number;
  more = let a = g.more in let b = h.more in omega (arith, a, b);
  kept = λ f less. let a = g.more in h.kept f (omega (arith, less, a)) ∙ g.kept f less;
  own = λ f q from at. elim (less_or_past f (length t.procedures)) as (λ _. q.module_number ≡ s.world.module_number) [
    | inl less ↦ g.own f q from (sym (h.kept f less) ∙ at)
    | inr past ↦ h.own f q past at ∙ g.module_number
  ];
}

-- ---- one procedure

length_more : {A : Type 0} (xs : List A) (y : A) → length (xs ++ y ∷ []) ≡ suc (length xs)
length_more xs y = let h = append_length xs (y ∷ []) in omega (arith, h)

abbrev with_heading : Making → Making
with_heading s = record s { procedures = s.procedures ++ no_procedure ∷ [] }

abbrev ended : Making → Making → Procedure → Making
ended s d q = left (with_heading s) (record d { procedures = slice_set d.procedures (length s.procedures) q })

is_or_past : (f g : ℕ) → f ≤ g → (g ≡ f) ⊎ (suc f ≤ g)
is_or_past f g le = elim (less_or_past f g) as (λ _. (g ≡ f) ⊎ (suc f ≤ g)) [ inl less ↦ inr (omega (arith, less)) | inr past ↦ inl (omega (arith, le, past)) ]

apart : (f g : ℕ) → g < f → g ≡ f → ⊥
apart f g less e = absurd (omega (arith, less, e))

past_apart : (f g : ℕ) → suc f ≤ g → g ≡ f → ⊥
past_apart f g past e = absurd (omega (arith, past, e))

-- what a procedure that is judged becomes, behind what is declared in it
one_ended : (s h d : Making) (q : Procedure) → h.world.module_number ≡ s.world.module_number → h.procedures ≡ s.procedures ++ no_procedure ∷ [] → Numbers h d → q.module_number ≡ d.world.module_number → Numbers s (ended s d q)
one_ended s h d q number opened inner named =
    let f = length s.procedures in
    let l = length_more s.procedures no_procedure in
    let e = ap length opened in
    let m = inner.more in
    let n = set_length d.procedures f q in
    record {
      module_number = refl;
      more = omega (arith, l, e, m, n);
      kept = λ g less.
          set_other d.procedures f g q (apart f g less)
          ∙ inner.kept g (omega (arith, less, l, e))
          ∙ ap (λ qs. slice_get qs g) opened
          ∙ get_append s.procedures (no_procedure ∷ []) g less;
      own = λ g x from at. elim (is_or_past f g from) as (λ _. x.module_number ≡ s.world.module_number) [
        | inl same ↦
            let here : slice_get (slice_set d.procedures f q) f ≡ Some q = set_here d.procedures f q (omega (arith, l, e, m)) in
            let is : q ≡ x = some_same q x (sym here ∙ ap (slice_get (slice_set d.procedures f q)) (sym same) ∙ at) in
            sym (ap (λ y. y.module_number) is) ∙ named ∙ inner.module_number ∙ number
        | inr past ↦ inner.own g x (omega (arith, past, l, e)) (sym (set_other d.procedures f g q (past_apart f g past)) ∙ at) ∙ number
      ];
    }

module _ (p : Source) where
  -- ---- constants, types, variables

  n_consts : (ds : List S.ConstDecl) (s : Making) → Gives (NumbersTo s) (each (const_part p) ds s)
  n_consts ds s = weaken (gives_both (g_each p (const_part p) (g_const p) ds s) (h_consts p ds s)) (λ r h. grown_quiet s r.1 h.0 (h.1).procedures)

  n_types : (ds : List S.TypeDecl) (s : Making) → Gives (NumbersTo s) (types_part p ds s)
  n_types ds s = weaken (gives_both (t_typed p ds s) (k_types p ds s)) (λ r h. grown_quiet s r.1 (typed_grows p s r.1 h.0) (h.1).procedures)

  n_vars : (ds : List S.VarDecl) (s : Making) → Gives (NumbersTo s) (each (var_part p) ds s)
  n_vars ds s = weaken (gives_both (g_each p (var_part p) (g_var p) ds s) (k_vars p ds s)) (λ r h. grown_quiet s r.1 h.0 (h.1).procedures)

  n_stand : (i : ℕ) (s : Making) → Gives (NumbersTo s) (Rattle.ob_judge.specs.Parameters.stand p (i ∷ []) s)
  n_stand i s = weaken (i_stand p (i ∷ []) s) (λ r h. grown_quiet s r.1 h.grown h.procedures_same)

  -- ---- procedures

  abbrev entry_of : ℕ → Identdef → Bool → Listed × Shape → Entry
  entry_of f name is_local h = record { object = AProcedure f (ProcedureOf (h.0).formals h.1) is_local; exported = is_some name.star }

  abbrev headed : ℕ → Identdef → Bool → (Listed × Shape) × Making → Making
  headed f name is_local h = offer_if (not is_local) (spelled p name.name) (entry_of f name is_local h.0) (with_levels (declare_outer (spelled p name.name) (entry_of f name is_local h.0)) h.1)

  headed_number : (f : ℕ) (name : Identdef) (b : Bool) (h : (Listed × Shape) × Making) → (headed f name b h).world.module_number ≡ (h.1).world.module_number
  headed_number f name true h = refl
  headed_number f name false h = refl

  headed_procedures : (f : ℕ) (name : Identdef) (b : Bool) (h : (Listed × Shape) × Making) → (headed f name b h).procedures ≡ (h.1).procedures
  headed_procedures f name true h = refl
  headed_procedures f name false h = refl

  -- what a heading leaves as it was
  record Headed (s : Making) (r : (Listed × Shape) × Making) : Type 0 where
    pub number : (r.1).world.module_number ≡ s.world.module_number
    pub procedures : (r.1).procedures ≡ s.procedures

  n_heading : (f : ℕ) (name : Identdef) (formals : Option S.Formals) (is_local : Bool) (s : Making) → Gives (Headed s) (heading p f name formals is_local s)
  n_heading f name formals is_local s = and_then (h_formals 0 p true formals s) (λ h fh. keeps (Headed s) (h.0, headed f name is_local h) (record {
    number = headed_number f name is_local h ∙ (fh.lists).heads.module_number;
    procedures = headed_procedures f name is_local h ∙ (fh.lists).heads.procedures;
  }))

  abbrev becomes : (line_ : ℕ) → (Listed × Shape) → Making → Statements → Option Checked → Procedure
  becomes line_ h d b a = record { module_number = d.world.module_number; line = line_; is_body = false; formals = (h.0).parameters; result = h.1; locals = d.variables; texts = texts_of b a; body = b; answer = a }

  record Ended (s : Making) (r : Unit {0} × Making) : Type 0 where
    pub inner : Making
    pub made : Procedure
    pub is : r.1 ≡ record inner { procedures = slice_set inner.procedures (length s.procedures) made }
    pub numbers : Numbers s (ended s inner made)

  mutual
    pub n_decls : (d : S.Decls) (s : Making) → Gives (NumbersTo s) (decls_part p d s)
    n_decls (S.decls consts types vars procedures) s =
        and_then (n_consts (consts_in consts) s) (λ a ha.
        and_then (n_types (types_in types) a.1) (λ b hb.
        and_then (n_vars (vars_in vars) b.1) (λ c hc.
        weaken (n_procedures procedures c.1) (λ q hq. on s a.1 q.1 ha (on a.1 b.1 q.1 hb (on b.1 c.1 q.1 hc hq))))))

    pub n_procedures : (x : S.Procedures) (s : Making) → Gives (NumbersTo s) (procedures_part p x s)
    n_procedures S.no_procedure s = keeps (NumbersTo s) (tt, s) (quiet s s refl refl)
    n_procedures (S.procedure procedure_word name formals semicolon inner body returned end_word end_name last rest) s =
        and_then (n_stand name.name s) (λ r hr.
        let v = r.1 in
        let f = length v.procedures in
        let is_local = is_some v.world.procedure in
        and_then (and_then
        (and_then (n_heading f name formals is_local (entered f (with_heading v))) (λ h hh.
        and_then (n_decls inner h.1) (λ d hd.
        and_then (look_as (body_of p (d.1).world body) d.1) (λ b hb.
        and_then (look_as (answer p (h.0).1 end_word returned (b.1).world) b.1) (λ a ha.
        and_then (look_as (rule 37 (place p end_name) (bytes_eq (spelled p end_name) (spelled p name.name))) a.1) (λ u hu.
        let same = hu.0 ∙ ha.0 ∙ hb.0 in
        keeps (Ended v) (tt, record (u.1) { procedures = slice_set (u.1).procedures f (becomes (line p name.name) h.0 u.1 b.0 a.0) }) (record {
          inner = d.1;
          made = becomes (line p name.name) h.0 d.1 b.0 a.0;
          is = ap {A = Making} {B = Making} (λ x. record x { procedures = slice_set x.procedures f (becomes (line p name.name) h.0 x b.0 a.0) }) same;
          numbers = one_ended v h.1 d.1 (becomes (line p name.name) h.0 d.1 b.0 a.0) hh.number hh.procedures hd refl;
        })))))))
        (λ e he. keeps (NumbersTo v) (tt, left (with_heading v) e.1) (subst (λ x. Numbers v (left (with_heading v) x)) (sym he.is) he.numbers)))
        (λ t ht. weaken (n_procedures rest t.1) (λ q hq. on s v q.1 hr (on v t.1 q.1 ht hq))))

  -- ---- a module

  n_import : (x : Import) (s : Making) → Gives (NumbersTo s) (import_part p x s)
  n_import x s = and_then (n_stand x.name s) (λ r h. and_then (look_as (some 38 (place p (origin x)) (imported (r.1).world.modules (spelled p (origin x)))) r.1) (λ m k.
      keeps (NumbersTo s) (tt, with_levels (declare_last (spelled p x.name) (record { object = AModule m.0; exported = false })) (record (m.1) { imports_in = (m.1).imports_in || is_in m.0 }))
      (on s r.1 _ h (subst (λ u. Numbers u (with_levels (declare_last (spelled p x.name) (record { object = AModule m.0; exported = false })) (record (m.1) { imports_in = (m.1).imports_in || is_in m.0 }))) k.0 (quiet m.1 _ refl refl)))))

  n_imports : (xs : List Import) (s : Making) → Gives (NumbersTo s) (each (import_part p) xs s)
  n_imports [] s = keeps (NumbersTo s) (tt, s) (quiet s s refl refl)
  n_imports (x ∷ xs) s = and_then (n_import x s) (λ r h. weaken (n_imports xs r.1) (λ q k. on s r.1 q.1 h k))

  abbrev body_made : Making → Procedure → Making
  body_made d q = record d { procedures = slice_set (d.procedures ++ no_procedure ∷ []) (length d.procedures) q }

  with_body : (d : Making) (q : Procedure) → q.module_number ≡ d.world.module_number → Numbers d (body_made d q)
  with_body d q named = record {
    module_number = refl;
    more = let l = length_more d.procedures no_procedure in let n = set_length (d.procedures ++ no_procedure ∷ []) (length d.procedures) q in omega (arith, l, n);
    kept = λ g less. set_other (d.procedures ++ no_procedure ∷ []) (length d.procedures) g q (apart (length d.procedures) g less) ∙ get_append d.procedures (no_procedure ∷ []) g less;
    own = λ g x from at.
        let f = length d.procedures in
        let l = length_more d.procedures no_procedure in
        let n = set_length (d.procedures ++ no_procedure ∷ []) f q in
        let within = get_within (slice_set (d.procedures ++ no_procedure ∷ []) f q) g x at in
        let same : g ≡ f = omega (arith, from, within, l, n) in
        let here : slice_get (slice_set (d.procedures ++ no_procedure ∷ []) f q) f ≡ Some q = set_here (d.procedures ++ no_procedure ∷ []) f q (omega (arith, l)) in
        sym (ap (λ y. y.module_number) (some_same q x (sym here ∙ ap (slice_get (slice_set (d.procedures ++ no_procedure ∷ []) f q)) (sym same) ∙ at))) ∙ named;
  }

  -- all are of it, and there is one more than before
  pub record ModuleNumbers (s : Making) (r : Tree.Module × Making) : Type 0 where
    pub numbers : Numbers s r.1
    pub more : length s.procedures < length (r.1).procedures

  pub n_module : (m : S.Module) (s : Making) → Gives (ModuleNumbers s) (module_part p m s)
  n_module m s = and_then (look_as (rule 36 (place p m.name) (is_new (imported s.world.modules (spelled p m.name)))) s) (λ a ha.
      and_then (n_imports (import_list m.imports) a.1) (λ i hi.
      and_then (n_decls m.decls i.1) (λ d hd.
      and_then (look_as (body_of p (d.1).world m.body) d.1) (λ b hb.
      and_then (look_as (rule 37 (place p m.end_name) (bytes_eq (spelled p m.end_name) (spelled p m.name))) b.1) (λ u hu.
      let f = length (u.1).procedures in
      let q : Procedure = record { module_number = (u.1).world.module_number; line = line p m.name; is_body = true; formals = []; result = Nothing; locals = []; texts = texts_of b.0 None; body = b.0; answer = None } in
      let to_d : Numbers s d.1 = subst (λ x. Numbers x d.1) ha.0 (on a.1 i.1 d.1 hi hd) in
      let to_u : Numbers s u.1 = subst (Numbers s) (sym (hu.0 ∙ hb.0)) to_d in
      let l = length_more (u.1).procedures no_procedure in
      let n = set_length ((u.1).procedures ++ no_procedure ∷ []) f q in
      let k = to_u.more in
      keeps (ModuleNumbers s) (record { name = spelled p m.name; objects = (u.1).objects; variables = (u.1).variables; body = f }, body_made u.1 q) (record {
        numbers = on s u.1 (body_made u.1 q) to_u (with_body u.1 q refl);
        more = omega (arith, l, n, k);
      }))))))
