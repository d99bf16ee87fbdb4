-- The outlines of modules that are judged, one after the other.
use Rattle.std.proofs.Common.{◌≡◌, ℕ, suc, List, [], ◌∷◌, ◌++◌, length, map, true, false, ◌||◌, Option, Some, None, refl, sym, ap, ap₂, ◌∙◌, subst, arith, inl, inr}
use Rattle.std.specs.Prelude.{slice_get}
use Rattle.std.specs.Str.{bytes_eq}
use Rattle.ob_types.proofs.Tests.{none_some, less_or_past}
use Rattle.ob_syntax.specs.Syntax as S
use Rattle.ob_syntax.specs.declared.modules.Import.{Import}
use Rattle.ob_judge.specs.Judged.{Keeps, rule, some}
use Rattle.ob_judge.specs.Shapes.{Nothing}
use Rattle.ob_judge.specs.Image.{Procedure, Program, Statements}
use Rattle.ob_judge.specs.Scopes.{AModule, Entry, Source, place, spelled, line}
use Rattle.ob_judge.specs.Texts.{texts_of}
use Rattle.ob_judge.specs.Statements.{body_of}
use Rattle.ob_judge.specs.Making.{Making, with_levels, declare_last}
use Rattle.ob_judge.specs.Declarations.{each}
use Rattle.ob_judge.specs.Modules.{SoFar, no_modules, first_making, imported, is_new, import_list, is_in, origin, import_part, module_part, with_module, Parsed, Legal, program_of, checked_after, checked}
use Rattle.judged_tree.specs.Outline.{outlined_procedure, outlined_program, outlined_statements}
use Rattle.judged_well.specs.Gives.{Gives}
use Rattle.judged_well.proofs.Judging.{keeps, weaken, and_then, gives_both}
use Rattle.judged_modules.specs.Agrees.{bases_of}
use Rattle.judged_modules.specs.steps.Frames.{Begins}
use Rattle.judged_modules.proofs.Growing.{bound, kept_same}
use Rattle.judged_modules.proofs.Keeping.{given}
use Rattle.judged_modules.proofs.Lists.{get_append, append_length}
use Rattle.judged_modules.proofs.TypesGrow.{i_stand}
use Rattle.judged_modules.proofs.Parameters.{look_as}
use Rattle.judged_programs.proofs.ModulesTidy.{legal_same, accepted, with_one}
use Rattle.judged_fronts.specs.Fronts.{IsFront, IsStartOf}
use Rattle.judged_fronts.proofs.Lists.{front_map}
use Rattle.judged_fronts.proofs.Modules.{modules_stay}
use Rattle.judged_outlines.specs.Among.{WorldAmong}
use Rattle.judged_outlines.proofs.Parts.{AmongIn}
use Rattle.judged_outlines.proofs.Modules.{first_among, module_among, d_import}
use Rattle.start_outlines.proofs.Settling.{IsSettled, settled_on, Settles, SettlesTo, begins_same, quiet, on, with_heading, with_procedure, last_made}
use Rattle.start_outlines.proofs.Declared.{s_body, s_decls}

module _ (p : Source) where
  -- an import makes no procedure and no pointer type
  record Calm (s : Making) (r : Unit {0} × Making) : Type 0 where
    pub procedures : (r.1).procedures ≡ s.procedures
    pub begins : Begins (bases_of s) (bases_of r.1)

  c_import : (x : Import) (s : Making) → Gives (Calm s) (import_part p x s)
  c_import x s = and_then (i_stand p (x.name ∷ []) s) (λ r h. and_then (look_as (some 38 (place p (origin x)) (imported (r.1).world.modules (spelled p (origin x)))) r.1) (λ m k.
      let e : Entry = record { object = AModule m.0; exported = false } in
      let g = h.grown in
      let begins : Begins (bases_of s) (bases_of r.1) = record { long = g.bases_more; same = g.bases } in
      keeps (Calm s) (tt, with_levels (declare_last (spelled p x.name) e) (record (m.1) { imports_in = (m.1).imports_in || is_in m.0 })) (record {
        procedures = ap (λ u. u.procedures) k.0 ∙ h.procedures_same;
        begins = subst (λ u. Begins (bases_of s) (bases_of u)) (sym k.0) begins;
      })))

  s_import : (x : Import) (s : Making) → AmongIn s → Gives (SettlesTo s) (import_part p x s)
  s_import x s among = weaken (gives_both (c_import x s) (d_import p x s among)) (λ r h. quiet s r.1 (h.1).among (h.0).begins (h.0).procedures)

  s_imports : (xs : List Import) (s : Making) → AmongIn s → Gives (SettlesTo s) (each (import_part p) xs s)
  s_imports [] s among = keeps (SettlesTo s) (tt, s) (quiet s s among (begins_same (bases_of s) (bases_of s) refl) refl)
  s_imports (x ∷ xs) s among = and_then (s_import x s among) (λ r h. weaken (s_imports xs r.1 h.among) (λ q k. on s r.1 q.1 h k))

  -- a module's body, as a procedure
  abbrev body_made : (m : S.Module) → Statements → Making → Procedure
  body_made m b u = record { module_number = u.world.module_number; line = line p m.name; is_body = true; formals = []; result = Nothing; locals = []; texts = texts_of b None; body = b; answer = None }

  abbrev with_body : (m : S.Module) → Statements → Making → Making
  with_body m b u = with_procedure (with_heading u) (length u.procedures) (body_made m b u)

  with_body_settles : (m : S.Module) (b : Statements) (d : Making) → AmongIn d → ((later : List (Option ℕ)) → Begins (bases_of d) later → outlined_statements later b ≡ outlined_statements (bases_of d) b) → Settles d (with_body m b d)
  with_body_settles m b d among g =
      let q = body_made m b d in
      last_made d q among (record { same = λ later begins. ap (λ xs. record q { body = xs }) (g later begins) })
      (record { names = among.names; members = among.members; fields = among.fields; narrowed = among.narrowed })

  -- what a module becomes, behind its imports and declarations
  module_settles : (m : S.Module) (b : Statements) (s a d u : Making) → a ≡ s → u ≡ d → Settles a d
      → ((later : List (Option ℕ)) → Begins (bases_of d) later → outlined_statements later b ≡ outlined_statements (bases_of d) b) → Settles s (with_body m b u)
  module_settles m b s a d u first last h g =
      subst (λ x. Settles s (with_body m b x)) (sym last) (subst (λ x. Settles x (with_body m b d)) first (on a d (with_body m b d) h (with_body_settles m b d h.among g)))

  s_module : (m : S.Module) (s : Making) → AmongIn s → Gives (SettlesTo s) (module_part p m s)
  s_module m s among = and_then (look_as (rule 36 (place p m.name) (is_new (imported s.world.modules (spelled p m.name)))) s) (λ a ha.
      and_then (s_imports (import_list m.imports) a.1 (subst AmongIn (sym ha.0) among)) (λ i hi.
      and_then (s_decls p m.decls i.1 hi.among) (λ d hd.
      and_then (look_as (body_of p (d.1).world m.body) d.1) (λ b hb.
      and_then (look_as (rule 37 (place p m.end_name) (bytes_eq (spelled p m.end_name) (spelled p m.name))) b.1) (λ u hu.
      keeps (SettlesTo s) (record { name = spelled p m.name; objects = (u.1).objects; variables = (u.1).variables; body = length (u.1).procedures }, with_body m b.0 u.1)
      (module_settles m b.0 s a.1 d.1 u.1 ha.0 (hu.0 ∙ hb.0) (on a.1 i.1 d.1 hi hd) (given b.0 (s_body p d.1 hd.among m.body) hb.1)))))))

-- ---- one module after the other

-- each procedure is outlined alike by all later pointer types
record AllSettled (q : Program) : Type 0 where
  pub each : (f : ℕ) (x : Procedure) → slice_get q.procedures f ≡ Some x → IsSettled q.pointers x

record Behind (c : SoFar) : Type 0 where
  pub settled : AllSettled (program_of c)
  pub among : WorldAmong (length c.known.bases) (first_making c).world

next_behind : (m : Parsed) (c d : SoFar) → with_module m.source m.tree c ≡ Keeps d → Behind c → Behind d
next_behind m c d is h =
    let b = bound (module_part m.source m.tree (first_making c)) (λ r. Keeps (with_one m.source m.tree c r)) d is in
    let e = kept_same (with_one m.source m.tree c b.0) d b.2 in
    let k = given b.0 (s_module m.source m.tree (first_making c) h.among) b.1 in
    let settled : AllSettled (program_of (with_one m.source m.tree c b.0)) = record {
      each = λ f x at. elim (less_or_past f (length c.procedures)) as (λ _. IsSettled (bases_of (b.0).1) x) [
        | inl less ↦ settled_on c.known.bases (bases_of (b.0).1) x k.begins (h.settled.each f x (sym (k.kept f less) ∙ at))
        | inr past ↦ k.own f x past at
      ];
    } in
    record { settled = subst (λ x. AllSettled (program_of x)) e settled; among = given d (module_among m.source m.tree c h.among) is }

all_settled : (ms : List Parsed) (c : SoFar) (q : Program) → checked_after c ms ≡ Legal q → Behind c → AllSettled q
all_settled [] c q is h = subst AllSettled (legal_same (program_of c) q is) h.settled
all_settled (m ∷ ms) c q is h =
    let k = accepted (with_module m.source m.tree c) (length c.modules) (λ d. checked_after d ms) q is in
    all_settled ms k.0 q k.2 (next_behind m c k.0 k.1 h)

none_behind : Behind no_modules
none_behind = record { settled = record { each = λ f x at. none_some x at }; among = first_among }

-- ---- outlines

front_begins : (xs ys : List (Option ℕ)) → IsFront xs ys → Begins xs ys
front_begins xs ys h = record {
  long = let l = append_length xs h.rest in let e = ap length h.is in omega (arith, l, e);
  same = λ n less. ap (λ zs. slice_get zs n) h.is ∙ get_append xs h.rest n less;
}

outlined_same : (bases later : List (Option ℕ)) (qs : List Procedure) → Begins bases later → ((f : ℕ) (x : Procedure) → slice_get qs f ≡ Some x → IsSettled bases x)
    → map (outlined_procedure later) qs ≡ map (outlined_procedure bases) qs
outlined_same bases later [] begins h = refl
outlined_same bases later (q ∷ qs) begins h = ap₂ (λ x xs. x ∷ xs) ((h 0 q refl).same later begins) (outlined_same bases later qs begins (λ f x at. h (suc f) x at))

pub outlines_stay : (ms ns : List Parsed) (whole : Program) → checked (ms ++ ns) ≡ Legal whole → (start : Program) × (checked ms ≡ Legal start) × IsStartOf (outlined_program start) (outlined_program whole)
outlines_stay ms ns whole is =
    let b = modules_stay ms ns whole is in
    let start = b.0 in
    let h = b.2 in
    let settled = all_settled ms no_modules start b.1 none_behind in
    let same = outlined_same start.pointers whole.pointers start.procedures (front_begins start.pointers whole.pointers h.pointers) settled.each in
    let mapped = front_map (outlined_procedure whole.pointers) start.procedures whole.procedures h.procedures in (
      start,
      b.1,
      record {
        records = h.records;
        pointers = h.pointers;
        modules = h.modules;
        procedures = subst (λ xs. IsFront xs (map (outlined_procedure whole.pointers) whole.procedures)) same mapped;
      },
    )
