-- Known types stay known: each part of the judgement only adds types.
use Rattle.std.proofs.Common.{◌≡◌, ℕ, length, Bool, true, not, ap, ◌∙◌, arith, Option}
use Rattle.std.specs.Prelude.{slice_get, is_some}
use Rattle.ob_syntax.specs.Syntax as S
use Rattle.ob_syntax.specs.declared.names.Identdef.{Identdef}
use Rattle.ob_judge.specs.Judged.{Judged, Keeps, ◌>>=◌}
use Rattle.ob_judge.specs.Shapes.{Shape, Known}
use Rattle.ob_judge.specs.Shapes.{Procedure as ProcedureOf}
use Rattle.ob_judge.specs.Scopes.{AProcedure, Entry, Source, spelled}
use Rattle.ob_judge.specs.Making.{Making, with_levels, declare_outer, offer_if}
use Rattle.ob_judge.specs.Parameters.{Listed}
use Rattle.ob_judge.specs.Declarations.{heading, decls_part, procedures_part}
use Rattle.judged_well.specs.Gives.{Gives}
use Rattle.judged_well.proofs.Judging.{keeps, and_then}
use Rattle.judged_modules.proofs.Growing.{Grows}
use Rattle.judged_modules.proofs.Keeping.{given}
use Rattle.judged_modules.specs.steps.Procedures.{OneProcedure, with_procedure}
use Rattle.judged_modules.specs.steps.Steps.{procedure_part}
use Rattle.judged_modules.proofs.steps.Laws.{procedures_law}
use Rattle.judged_programs.proofs.HeadingsTidy.{h_formals}
use Rattle.judged_programs.proofs.ProceduresTidy.{s_decls, s_procedures}
use Rattle.judged_programs.proofs.Tidy.{offer_same}
use Rattle.later_types.specs.Later.{StaysKnown}

pub known_same : (a b : Known) → b.records ≡ a.records → b.bases ≡ a.bases → StaysKnown a b
known_same a b r q = record {
  records_more = let l = ap length r in omega (arith, l);
  records = λ k l. ap (λ xs. slice_get xs k) r;
  bases = record { long = let l = ap length q in omega (arith, l); same = λ k l. ap (λ xs. slice_get xs k) q };
}

pub known_on : (a b c : Known) → StaysKnown a b → StaysKnown b c → StaysKnown a c
known_on a b c g h = record {
  records_more = let x = g.records_more in let y = h.records_more in omega (arith, x, y);
  records = λ k l. let x = g.records_more in h.records k (omega (arith, l, x)) ∙ g.records k l;
  bases = record {
    long = let x = g.bases.long in let y = h.bases.long in omega (arith, x, y);
    same = λ k l. let x = g.bases.long in h.bases.same k (omega (arith, l, x)) ∙ g.bases.same k l;
  };
}

known_grows : (s t : Making) → Grows s t → StaysKnown s.world.known t.world.known
known_grows s t g = record { records_more = g.records_more; records = g.records; bases = record { long = g.bases_more; same = g.bases } }

module _ (p : Source) where
  pub decls_known : (d : S.Decls) (s t : Making) → decls_part p d s ≡ Keeps (tt, t) → StaysKnown s.world.known t.world.known
  decls_known d s t is = known_grows s t (given (tt, t) (s_decls 0 p d s) is).grown

  pub procedures_known : (x : S.Procedures) (s t : Making) → procedures_part p x s ≡ Keeps (tt, t) → StaysKnown s.world.known t.world.known
  procedures_known x s t is = known_grows s t (given (tt, t) (s_procedures 0 p x s) is).grown

  pub procedure_known : (q : OneProcedure) (s t : Making) → procedure_part p q s ≡ Keeps (tt, t) → StaysKnown s.world.known t.world.known
  procedure_known q s t is = procedures_known (with_procedure q 0 S.no_procedure) s t (procedures_law p q 0 S.no_procedure s ∙ ap (λ (m : Judged (Unit {0} × Making)). m >>= λ r. procedures_part p S.no_procedure r.1) is)

  h_heading : (f : ℕ) (name : Identdef) (x : Option S.Formals) (is_local : Bool) (s : Making) → Gives (λ (r : (Listed × Shape) × Making). StaysKnown s.world.known (r.1).world.known) (heading p f name x is_local s)
  h_heading f name x is_local s = and_then (h_formals 0 p true x s) (λ h k.
      let e : Entry = record { object = AProcedure f (ProcedureOf (h.0).0.formals (h.0).1) is_local; exported = is_some name.star } in
      let u = with_levels (declare_outer (spelled p name.name) e) h.1 in
      let same = offer_same (not is_local) (spelled p name.name) e u in
      keeps (λ (r : (Listed × Shape) × Making). StaysKnown s.world.known (r.1).world.known) (h.0, offer_if (not is_local) (spelled p name.name) e u)
      (known_same s.world.known (offer_if (not is_local) (spelled p name.name) e u).world.known (ap (λ v. v.known.records) same ∙ k.lists.heads.records) (ap (λ v. v.known.bases) same ∙ k.lists.heads.bases)))

  pub heading_known : (f : ℕ) (name : Identdef) (x : Option S.Formals) (is_local : Bool) (s t : Making) (h : Listed × Shape) → heading p f name x is_local s ≡ Keeps (h, t) → StaysKnown s.world.known t.world.known
  heading_known f name x is_local s t h is = given (h, t) (h_heading f name x is_local s) is
