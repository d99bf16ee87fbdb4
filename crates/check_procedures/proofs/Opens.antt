-- Procedures whose scopes are open, while the program is built on.
use Rattle.std.proofs.Common.{◌≡◌, ◌≤◌, ℕ, [], Bool, Option, Result, Ok, Err, length, subst, sym, ap, ◌∙◌, arith}
use Rattle.std.specs.Prelude.{is_some, is_none, false}
use Rattle.ob_syntax.specs.Syntax as S
use Rattle.ob_syntax.specs.declared.names.Identdef.{Identdef}
use Rattle.ob_judge.specs.Shapes.{Shape}
use Rattle.ob_judge.specs.Scopes.{Source, World}
use Rattle.ob_judge.specs.Making.{Making}
use Rattle.ob_judge.specs.Modules.{SoFar}
use Rattle.ob_judge.specs.Parameters.{Listed}
use Rattle.ob_judge.specs.Declarations.{heading}
use Rattle.check_types.specs.steps.Answers.{Answers}
use Rattle.check_types.specs.declared.steps.fault.CheckFault.{CheckFault}
use Rattle.check_types.proofs.steps.Answering.{stop}
use Rattle.legal_tables.specs.Promised.{HasLegalTypes}
use Rattle.judged_outlines.specs.Upright.{Upright}
use Rattle.judged_tree.specs.Tables.{are_before}
use Rattle.table_builder.specs.Builder.{IsBuilt}
use Rattle.table_builder.specs.Entries.{IsNumbered}
use Rattle.table_builder.specs.Growing.{Grows}
use Rattle.judged_modules.specs.steps.Frames.{entered}
use Rattle.check_making.specs.declared.making.Surroundings.{Surroundings}
use Rattle.check_making.proofs.Growing.{variables_still}
use Rattle.check_making.specs.Making.{strings_of, AreNumbered, IsSettled}
use Rattle.check_making.specs.declared.parameters.sections.Heading.{Heading}
use Rattle.check_making.specs.parameters.Headings.{IsHeading}
use Rattle.check_making.specs.parameters.Stands.{Stands}
use Rattle.check_making.proofs.headings.Heads.{heading_still}
use Rattle.check_making.proofs.headings.Signing.{heading_meant}
use Rattle.check_making.specs.declared.scopes.building.Building.{Building}
use Rattle.check_making.specs.scopes.Building.{Represents}
use Rattle.check_making.specs.scopes.Built.{BuiltAs, BuildsAs, IsNumber}
use Rattle.check_making.specs.scopes.Scopes.{deeper}
use Rattle.check_procedures.specs.declared.opening.OpenProcedure.{OpenProcedure}
use Rattle.check_procedures.specs.declared.opening.PutAside.{PutAside}
use Rattle.check_procedures.specs.Parts.{JudgedOpen, waiting, next_procedure, opening}
use Rattle.check_procedures.specs.UnderWay.{IsUnderWay}
use Rattle.check_procedures.specs.Open.{CanBeClosed, IsOpened, IsEntered}
use Rattle.check_procedures.proofs.Giving.{then_so, given_so}
use Rattle.check_procedures.proofs.Steadiness.{heading_steady}
use Rattle.check_procedures.proofs.Uprights.{next_upright, entered_upright}
use Rattle.check_procedures.proofs.Outers.{outer_still}
use Rattle.check_making.proofs.headings.Heads.{by_given as came}

module _ (r : Surroundings) (s t : Building) (o : OpenProcedure) (old : IsBuilt s.declaring.types) (new : IsBuilt t.declaring.types) (grows : Grows s.declaring.types.table t.declaring.types.table) where
  pub still_closable : length s.procedures.items ≤ length t.procedures.items → CanBeClosed r s o → CanBeClosed r t o
  still_closable more h =
      let x = heading_meant s.declaring o.heading h.formals h.outcome in
      let k = heading_still s.declaring t.declaring old new grows o.heading x.0 x.1 in
      record {
        deeper = h.deeper;
        number = (let n = h.number in omega (arith, n, more));
        variables = variables_still s.declaring.types.table t.declaring.types.table (strings_of s.declaring) grows o.outer.variables.items h.variables;
        formals = k.listed.before;
        outcome = k.numbered;
      }

  pub still_open : (j : JudgedOpen) (m : Making) → CanBeClosed r s o → IsOpened r s o j → m.world.modules ≡ j.inner.world.modules → Represents (deeper r o.outer.depth) t m → IsOpened r t o (record j { inner = m })
  still_open j m closable h modules represents = record {
    number = h.number;
    heading = heading_still s.declaring t.declaring old new grows o.heading j.heading h.heading;
    outer = outer_still r s.declaring t.declaring o.outer o.forward.items j.outer j.inner m closable.variables grows modules h.outer;
    represents = represents;
  }

-- a heading of a procedure by its number, in its scope
module _ (p : Source) (name : Identdef) (formals : Option S.Formals) {B : Type 0} {R : B → (Listed × Shape) × Making → Type 0} (result : Result B CheckFault) where
  pub heading_by : (f g : ℕ) (k l : Bool) (m : Making) → f ≡ g → k ≡ l → Answers R (heading p f name formals k (waiting [] (entered f m))) result → Answers R (heading p g name formals l (waiting [] (entered g m))) result
  heading_by f g k l m e d h =
      subst (λ n. Answers R (heading p n name formals l (waiting [] (entered n m))) result) e
      (subst (λ b. Answers R (heading p f name formals b (waiting [] (entered f m))) result) d h)

-- ---- a scope that is opened

module _ (r scope : Surroundings) (name : Identdef) (formals : Option S.Formals) (s u v : Building) (number : ℕ) (a : PutAside) (is : scope ≡ deeper r a.outer.depth)
    (next : BuildsAs IsNumber r s u (next_procedure r.source.now name.name) (Ok number)) (entered_so : (m : Making) → Represents r u m → IsEntered r v number a m) where
  -- the state of the judgement in it
  abbrev inside_it : Making → Making
  inside_it m = waiting [] (entered number m)

  represents_in : (m : Making) → Represents r u m → Represents scope v (inside_it m)
  represents_in m h = subst (λ z. Represents z v (inside_it m)) (sym is) (entered_so m h).represents

  pub stands_in : IsUnderWay r s → IsSettled (deeper r a.outer.depth) v.declaring → Stands scope v.declaring
  stands_in old ok = came _ (next old.making old.represents) (λ f e k. record {
    settled = subst (λ z. IsSettled z v.declaring) (sym is) ok;
    making = inside_it f.1;
    makes = (represents_in f.1 k.represents).makes;
  })

  pub procedure_is_open : IsUnderWay r s → is_none v.declaring.procedure ≡ false
  procedure_is_open old = came _ (next old.making old.represents) (λ f e k. ap is_none (sym (ap (λ (w : World). w.procedure) ((represents_in f.1 k.represents).makes).world)))

  pub legal_in : (t : Building) → ((c : SoFar) (m : Making) → Represents scope v m → Upright c m → HasLegalTypes v.declaring.types.table → HasLegalTypes t.declaring.types.table)
      → (c : SoFar) (m : Making) → Represents r s m → Upright c m → HasLegalTypes v.declaring.types.table → HasLegalTypes t.declaring.types.table
  legal_in t h c m represents up = came _ (next m represents) (λ f e k.
      h c (inside_it f.1) (represents_in f.1 k.represents) (entered_upright r.source.now c number f.1 (given_so f e (next_upright r.source.now c name.name m up))))

  -- its heading has types that are there
  pub heading_there : IsUnderWay r s → (t : Building) (head : Heading) (is_local : Bool) → BuildsAs (IsHeading t.declaring) scope v t (heading scope.source.now number name formals is_local) (Ok head)
      → are_before (length t.declaring.types.table.entries.items) head.listed.formals × IsNumbered t.declaring.types.table.entries.items head.outcome
  heading_there old t head is_local h = came _ (next old.making old.represents) (λ f e k. came _ (h (inside_it f.1) (represents_in f.1 k.represents)) (λ g d l. (l.value.listed.before, l.value.numbered)))

  module _ (is_local : a.is_local ≡ is_some u.declaring.procedure) (t : Building) where
    heading_in : (result : Result Heading CheckFault) → BuildsAs (IsHeading t.declaring) scope v t (heading scope.source.now number name formals a.is_local) result
        → (f : ℕ × Making) → number ≡ f.0 → Represents r u f.1
        → Answers (BuiltAs (IsHeading t.declaring) (deeper r a.outer.depth) t) (heading r.source.now f.0 name formals (is_some f.1.world.procedure) (waiting [] (entered f.0 f.1))) result
    heading_in result h f e k =
        heading_by r.source.now name formals result number f.0 a.is_local (is_some f.1.world.procedure) f.1 e (is_local ∙ ap is_some (sym (ap (λ (w : World). w.procedure) (k.makes).world)))
        (subst (λ z. Answers (BuiltAs (IsHeading t.declaring) z t) (heading z.source.now number name formals a.is_local (inside_it f.1)) result) is (h (inside_it f.1) (represents_in f.1 k)))

    pub not_headed : {B : Type 0} {R : B → JudgedOpen → Type 0} {e : CheckFault} → BuildsAs (IsHeading t.declaring) scope v t (heading scope.source.now number name formals a.is_local) (Err e)
        → (m : Making) → Represents r s m → Answers R (opening r.source.now name formals m) (Err e)
    not_headed {e = e} h m represents = then_so _ _ (next m represents) (λ f d k. stop _ _ (heading_in (Err e) h f k.value k.represents))

    pub opened_so : (head : Heading) → AreNumbered v.declaring.types.table.entries.items a.outer.variables.items → Grows v.declaring.types.table t.declaring.types.table
        → BuildsAs (IsHeading t.declaring) scope v t (heading scope.source.now number name formals a.is_local) (Ok head)
        → (m : Making) → Represents r s m → Answers (IsOpened r t) (opening r.source.now name formals m) (Ok (record { number = number; heading = head; forward = a.forward; outer = a.outer }))
    opened_so head numbered grows h m represents =
        then_so _ _ (next m represents) (λ f d k.
        then_so _ _ (heading_in (Ok head) h f k.value k.represents) (λ g e l. record {
          by = record {
            number = k.value;
            heading = l.value;
            outer = outer_still r v.declaring t.declaring a.outer a.forward.items f.1 (inside_it f.1) g.1 numbered grows
                (given_so g e (heading_steady r.source.now f.0 name formals (is_some f.1.world.procedure) (waiting [] (entered f.0 f.1)))).modules
                (entered_so f.1 k.represents).outer;
            represents = l.represents;
          };
        }))
