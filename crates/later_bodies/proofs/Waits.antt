-- The judgement of a procedure is that up to its body, and then its body.
use Rattle.std.proofs.Common.{◌≡◌, ℕ, [], ◌∷◌, ◌++◌, length, sym, ◌∙◌}
use Rattle.std.specs.Prelude.{is_some, slice_set}
use Rattle.ob_judge.specs.Judged.{Judged, Keeps, ◌>>=◌}
use Rattle.ob_judge.specs.Shapes.{Shape}
use Rattle.ob_judge.specs.Scopes.{Source}
use Rattle.ob_judge.specs.Making.{Making, no_procedure, within_procedure}
use Rattle.ob_judge.specs.Parameters.{Listed, stand}
use Rattle.ob_judge.specs.Declarations.{heading, decls_part}
use Rattle.judged_modules.specs.steps.Procedures.{OneProcedure}
use Rattle.judged_modules.specs.steps.Steps.{completed, completes, inside, procedure_part}
use Rattle.judged_modules.specs.steps.Frames.{entered, left}
use Rattle.judged_modules.proofs.steps.Laws.{then_then, then_same}
use Rattle.later_bodies.specs.Waiting.{Waiting, with_procedures}
use Rattle.later_bodies.specs.Ended.{ended, put_off_and_ended}

module _ (p : Source) (q : OneProcedure) where
  -- it waits
  abbrev pub waits : (f : ℕ) → Making → (Listed × Shape) → Making → Waiting
  waits f u h t = record { outer = u; number = f; heading = h; inner = t }

  -- with a number more
  abbrev pub numbered : Making → Making
  numbered t = with_procedures (t.procedures ++ no_procedure ∷ []) t

  -- its scope is closed
  abbrev closed : Making → Unit {0} × Making → Judged (Unit {0} × Making)
  closed u z = Keeps (z.0, left u z.1)

  -- its heading, in its own scope
  abbrev pub head : (f : ℕ) → Making → Judged ((Listed × Shape) × Making)
  head f u = heading p f q.name q.formals (is_some u.world.procedure) (entered f u)

  scope_is : (f : ℕ) (u : Making) → within_procedure f (inside p f (is_some u.world.procedure) q) u
      ≡ ((head f u >>= λ h. decls_part p q.decls h.1 >>= λ d. Keeps (waits f u h.0 d.1)) >>= ended p q)
  scope_is f u =
      then_then (head f u) (λ h. decls_part p q.decls h.1 >>= λ d. completes p f q h.0 d.1) (closed u)
      ∙ then_same (head f u) _ _ (λ h. then_then (decls_part p q.decls h.1) (λ d. completes p f q h.0 d.1) (closed u)
      ∙ then_same (decls_part p q.decls h.1) _ _ (λ d. then_then (completed p q h.0 d.1) (λ j. Keeps (tt, record d.1 { procedures = slice_set d.1.procedures f j })) (closed u)))
      ∙ sym (then_then (head f u) (λ h. decls_part p q.decls h.1 >>= λ d. Keeps (waits f u h.0 d.1)) (ended p q)
      ∙ then_same (head f u) _ _ (λ h. then_then (decls_part p q.decls h.1) (λ d. Keeps (waits f u h.0 d.1)) (ended p q)))

  pub put_off_is : (s : Making) → procedure_part p q s ≡ put_off_and_ended p q s
  put_off_is s =
      then_same (stand p (q.name.name ∷ []) s) _ _ (λ r. scope_is (length r.1.procedures) (numbered r.1))
      ∙ sym (then_then (stand p (q.name.name ∷ []) s) (λ r. head (length r.1.procedures) (numbered r.1) >>= λ h. decls_part p q.decls h.1 >>= λ d. Keeps (waits (length r.1.procedures) (numbered r.1) h.0 d.1)) (ended p q))
