-- A procedure's scope opened, its declarations judged in it, and its scope closed before its body is judged.
use Rattle.std.proofs.Common.{◌≡◌, ℕ, [], ◌∷◌, ◌++◌, length, Ok, sym, ap, ◌∙◌}
use Rattle.std.specs.Prelude.{is_some}
use Rattle.ob_syntax.specs.Plain.{plain_option, plain_formals, plain_decls}
use Rattle.ob_syntax.specs.declared.declarations.Procedure.{out-Procedure}
use Rattle.ob_syntax.specs.declared.declarations.Procedure.{Procedure as ProcedureTree}
use Rattle.ob_judge.specs.Judged.{Judged, Keeps, ◌>>=◌}
use Rattle.ob_judge.specs.Shapes.{Shape}
use Rattle.ob_judge.specs.Scopes.{Source}
use Rattle.ob_judge.specs.Making.{Making, no_procedure, new_procedure}
use Rattle.ob_judge.specs.Modules.{SoFar}
use Rattle.ob_judge.specs.Parameters.{Listed, stand}
use Rattle.ob_judge.specs.Declarations.{heading, decls_part}
use Rattle.judged_outlines.specs.Upright.{Upright}
use Rattle.judged_modules.specs.steps.Procedures.{OneProcedure, plain_procedure}
use Rattle.judged_modules.specs.steps.Frames.{entered}
use Rattle.judged_modules.proofs.steps.Laws.{then_then, then_same}
use Rattle.judged_modules.proofs.steps.Parts.{procedure_parts}
use Rattle.judged_modules.proofs.steps.FrameTypes.{m_decls}
use Rattle.later_bodies.specs.Waiting.{Waiting, put_off}
use Rattle.table_builder.specs.Builder.{IsBuilt}
use Rattle.table_builder.specs.Growing.{Grows}
use Rattle.check_making.specs.declared.making.Surroundings.{Surroundings}
use Rattle.check_making.specs.declared.scopes.building.Building.{Building}
use Rattle.check_making.specs.scopes.Building.{Represents}
use Rattle.check_making.specs.scopes.Scopes.{deeper}
use Rattle.check_making.proofs.headings.Heads.{by_given as came}
use Rattle.check_procedures.specs.declared.opening.OpenProcedure.{OpenProcedure}
use Rattle.check_procedures.specs.Parts.{JudgedOpen, waiting, next_procedure, opening}
use Rattle.check_procedures.specs.Open.{CanBeClosed, IsOpened}
use Rattle.check_procedures.proofs.Giving.{given_so}
use Rattle.check_procedures.proofs.Forward.{heading_forgets}
use Rattle.check_procedures.proofs.Opens.{still_open}
use Rattle.check_procedures.proofs.Scoped.{Opens, Inner, in_scope, inner_upright}
use Rattle.check_bodies.specs.declared.body.Body.{Body}
use Rattle.check_bodies.specs.PutOff.{waiting_of, IsSetAside, IsPutOff}

module _ (p : Source) (q : OneProcedure) where
  abbrev numbered : Making → Making
  numbered t = record t { procedures = t.procedures ++ no_procedure ∷ [] }

  abbrev head : (f : ℕ) → Making → Making → Judged ((Listed × Shape) × Making)
  head f t u = heading p f q.name q.formals (is_some t.world.procedure) (waiting [] (entered f u))

  abbrev opened : (f : ℕ) → Making → (Listed × Shape) × Making → JudgedOpen
  opened f u h = record { outer = u; number = f; heading = h.0; inner = h.1 }

  abbrev more : JudgedOpen → Judged Waiting
  more j = decls_part p q.decls j.inner >>= λ d. Keeps (waiting_of j d.1)

  abbrev whole : (f : ℕ) → Making → Making → Judged ((Listed × Shape) × Making)
  whole f t u = heading p f q.name q.formals (is_some t.world.procedure) (entered f u)

  scope_is : (f : ℕ) (t u : Making) → (whole f t u >>= λ h. decls_part p q.decls h.1 >>= λ d. Keeps (waiting_of (opened f u h) d.1)) ≡ ((head f t u >>= λ h. Keeps (opened f u h)) >>= more)
  scope_is f t u =
      sym (heading_forgets [] p f q.name q.formals (is_some t.world.procedure) q.decls (entered f u) (λ h d. Keeps (record { outer = u; number = f; heading = h; inner = d.1 })))
      ∙ sym (then_then (head f t u) (λ h. Keeps (opened f u h)) more)

  -- up to the body, by the parts that code goes through
  pub put_off_is : (s : Making) → put_off p q s ≡ (opening p q.name q.formals s >>= more)
  put_off_is s =
      then_same (stand p (q.name.name ∷ []) s) _ _ (λ r. scope_is (length r.1.procedures) r.1 (numbered r.1))
      ∙ sym (then_then (next_procedure p q.name.name s) (λ f. head f.0 f.1 f.1 >>= λ h. Keeps (opened f.0 f.1 h)) more
      ∙ then_then (stand p (q.name.name ∷ []) s) (λ r. new_procedure r.1) (λ f. (head f.0 f.1 f.1 >>= λ h. Keeps (opened f.0 f.1 h)) >>= more))

-- from the fields of its tree
tree_put_off : (p : Source) (tree : ProcedureTree) (s : Making) → put_off p (plain_procedure tree) s
    ≡ (opening p (out-Procedure tree).name (plain_option plain_formals (out-Procedure tree).formals) s >>= λ j. decls_part p (plain_decls (out-Procedure tree).decls) j.inner >>= λ d. Keeps (waiting_of j d.1))
tree_put_off p tree s =
    put_off_is p (plain_procedure tree) s
    ∙ ap (λ (q : OneProcedure). opening p q.name q.formals s >>= λ j. decls_part p q.decls j.inner >>= λ d. Keeps (waiting_of j d.1)) (procedure_parts tree)

module _ (r : Surroundings) (tree : ProcedureTree) (scope : Surroundings) (o : OpenProcedure) (is : scope ≡ deeper r o.outer.depth) (s a : Building) (opens : Opens r tree s a (Ok o))
    (b t : Building) (closable : CanBeClosed r a o) (old : IsBuilt a.declaring.types) (new : IsBuilt b.declaring.types) (grows : Grows a.declaring.types.table b.declaring.types.table)
    (inner : Inner r tree scope o is s a opens b (Ok tt)) where
  pub is_put_off : (body : Body) → body.tree.now ≡ tree → ((j : JudgedOpen) (m : Making) → IsOpened r b o (record j { inner = m }) → IsSetAside r t body j m)
      → (c : SoFar) (m : Making) → Represents r s m → Upright c m → IsPutOff r t body m
  is_put_off body same aside c m represents up =
      came (opening r.source.now (out-Procedure tree).name (plain_option plain_formals (out-Procedure tree).formals) m) (opens m represents) (λ j e stood.
      came (decls_part r.source.now (plain_decls (out-Procedure tree).decls) j.inner) (in_scope r tree scope o is s a opens inner c j.inner stood.represents (inner_upright r tree scope o is s a opens c m j e up)) (λ d k built.
      let left = aside j d.1 (still_open r a b o old new grows j d.1 closable stood (given_so d k (m_decls r.source.now (plain_decls (out-Procedure tree).decls) j.inner)) built.represents) in
      record {
        waiting = waiting_of j d.1;
        keeps = ap (λ (x : ProcedureTree). put_off r.source.now (plain_procedure x) m) same ∙ tree_put_off r.source.now tree m
            ∙ ap (λ (z : Judged JudgedOpen). z >>= λ i. decls_part r.source.now (plain_decls (out-Procedure tree).decls) i.inner >>= λ x. Keeps (waiting_of i x.1)) e
            ∙ ap (λ (z : Judged (Unit {0} × Making)). z >>= λ x. Keeps (waiting_of j x.1)) k;
        represents = left.represents;
        waits = left.waits;
      }))
