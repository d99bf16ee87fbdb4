-- The judgement of a procedure is that by its parts.
use Rattle.std.proofs.Common.{◌≡◌, ℕ, [], ◌∷◌, ◌++◌, length, sym, ap, ◌∙◌}
use Rattle.std.specs.Prelude.{is_some}
use Rattle.ob_judge.specs.Judged.{Judged, Keeps, ◌>>=◌}
use Rattle.ob_judge.specs.Shapes.{Shape}
use Rattle.ob_judge.specs.Scopes.{Source}
use Rattle.ob_judge.specs.Making.{Making, no_procedure, new_procedure, within_procedure}
use Rattle.ob_judge.specs.Parameters.{Listed, stand}
use Rattle.ob_judge.specs.Declarations.{heading, decls_part}
use Rattle.ob_syntax.specs.Plain.{plain_option, plain_formals, plain_decls}
use Rattle.ob_syntax.specs.declared.declarations.Procedure.{out-Procedure}
use Rattle.ob_syntax.specs.declared.declarations.Procedure.{Procedure as ProcedureTree}
use Rattle.judged_modules.specs.steps.Procedures.{OneProcedure, plain_procedure}
use Rattle.judged_modules.specs.steps.Steps.{completes, inside, procedure_part}
use Rattle.judged_modules.specs.steps.Frames.{entered, left}
use Rattle.judged_modules.proofs.steps.Laws.{then_then, then_same}
use Rattle.judged_modules.proofs.steps.Parts.{procedure_parts}
use Rattle.check_procedures.specs.Parts.{JudgedOpen, waiting, next_procedure, opening, closing}
use Rattle.check_procedures.proofs.Forward.{heading_forgets}

module _ (p : Source) (q : OneProcedure) where
  abbrev pub numbered : Making → Making
  numbered t = record t { procedures = t.procedures ++ no_procedure ∷ [] }

  abbrev head : (f : ℕ) → Making → Making → Judged ((Listed × Shape) × Making)
  head f t u = heading p f q.name q.formals (is_some t.world.procedure) (waiting [] (entered f u))

  abbrev opened : (f : ℕ) → Making → (Listed × Shape) × Making → JudgedOpen
  opened f u h = record { outer = u; number = f; heading = h.0; inner = h.1 }

  abbrev more : JudgedOpen → Judged (Unit {0} × Making)
  more j = decls_part p q.decls j.inner >>= λ d. closing p q j d.1

  abbrev whole : (f : ℕ) → Making → Making → Judged ((Listed × Shape) × Making)
  whole f t u = heading p f q.name q.formals (is_some t.world.procedure) (entered f u)

  scope_is : (f : ℕ) (t u : Making) → within_procedure f (inside p f (is_some t.world.procedure) q) u ≡ ((head f t u >>= λ h. Keeps (opened f u h)) >>= more)
  scope_is f t u =
      then_then (whole f t u) (λ h. decls_part p q.decls h.1 >>= λ d. completes p f q h.0 d.1) (λ (z : Unit {0} × Making). Keeps (z.0, left u z.1))
      ∙ then_same (whole f t u) _ _ (λ h. then_then (decls_part p q.decls h.1) (λ d. completes p f q h.0 d.1) (λ (z : Unit {0} × Making). Keeps (z.0, left u z.1)))
      ∙ sym (heading_forgets [] p f q.name q.formals (is_some t.world.procedure) q.decls (entered f u) (λ h d. completes p f q h d.1 >>= λ (z : Unit {0} × Making). Keeps (z.0, left u z.1)))
      ∙ sym (then_then (head f t u) (λ h. Keeps (opened f u h)) more)

  pub procedure_is : (s : Making) → procedure_part p q s ≡ (opening p q.name q.formals s >>= λ j. decls_part p q.decls j.inner >>= λ d. closing p q j d.1)
  procedure_is s =
      then_same (stand p (q.name.name ∷ []) s) _ _ (λ r. scope_is (length r.1.procedures) r.1 (numbered r.1))
      ∙ sym (then_then (next_procedure p q.name.name s) (λ f. head f.0 f.1 f.1 >>= λ h. Keeps (opened f.0 f.1 h)) more
      ∙ then_then (stand p (q.name.name ∷ []) s) (λ r. new_procedure r.1) (λ f. (head f.0 f.1 f.1 >>= λ h. Keeps (opened f.0 f.1 h)) >>= more))

-- from the fields of its tree
pub tree_is : (p : Source) (tree : ProcedureTree) (s : Making) → procedure_part p (plain_procedure tree) s
    ≡ (opening p (out-Procedure tree).name (plain_option plain_formals (out-Procedure tree).formals) s >>= λ j. decls_part p (plain_decls (out-Procedure tree).decls) j.inner >>= λ d. closing p (plain_procedure tree) j d.1)
tree_is p tree s =
    procedure_is p (plain_procedure tree) s
    ∙ ap (λ (q : OneProcedure). opening p q.name q.formals s >>= λ j. decls_part p q.decls j.inner >>= λ d. closing p (plain_procedure tree) j d.1) (procedure_parts tree)
