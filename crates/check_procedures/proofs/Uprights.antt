-- What parts of the judgement leave upright.
use Rattle.std.proofs.Common.{ℕ, [], ◌∷◌, Option, refl}
use Rattle.std.specs.Prelude.{is_some}
use Rattle.ob_syntax.specs.Syntax as S
use Rattle.ob_syntax.specs.declared.names.Identdef.{Identdef}
use Rattle.ob_judge.specs.Scopes.{Source}
use Rattle.ob_judge.specs.Making.{Making}
use Rattle.ob_judge.specs.Modules.{SoFar}
use Rattle.ob_judge.specs.Parameters.{stand}
use Rattle.ob_judge.specs.Declarations.{heading, consts_in, types_in, vars_in, each, const_part, types_part, var_part}
use Rattle.judged_well.specs.Gives.{Gives}
use Rattle.judged_well.proofs.Judging.{keeps, and_then}
use Rattle.judged_outlines.specs.Upright.{Upright}
use Rattle.judged_outlines.proofs.Uprights.{numbered_upright, stand_upright, consts_upright, types_upright, vars_upright, heading_upright}
use Rattle.judged_outlines.proofs.Uprights.{entered_upright as scope_upright}
use Rattle.judged_modules.specs.steps.Frames.{entered}
use Rattle.check_procedures.specs.Parts.{JudgedOpen, waiting, first_parts, next_procedure, opening}
use Rattle.check_procedures.proofs.Giving.{by_law}

module _ (p : Source) (c : SoFar) where
  abbrev pub UprightTo : {A : Type 0} → A × Making → Type 0
  UprightTo r = Upright c r.1

  pub first_parts_upright : (consts : Option S.Consts) (types : Option S.Types) (vars : Option S.Vars) (m : Making) → Upright c m → Gives UprightTo (first_parts p consts types vars m)
  first_parts_upright consts types vars m u =
      and_then (by_law {P = UprightTo} (each (const_part p) (consts_in consts) m) (λ a e. consts_upright c p (consts_in consts) m a.1 e u)) (λ a h.
      and_then (by_law {P = UprightTo} (types_part p (types_in types) a.1) (λ b e. types_upright c p (types_in types) a.1 b.1 e h)) (λ b k.
      by_law {P = UprightTo} (each (var_part p) (vars_in vars) b.1) (λ d e. vars_upright c p (vars_in vars) b.1 d.1 e k)))

  pub next_upright : (name : ℕ) (m : Making) → Upright c m → Gives UprightTo (next_procedure p name m)
  next_upright name m u =
      and_then (by_law {P = UprightTo} (stand p (name ∷ []) m) (λ a e. stand_upright c p (name ∷ []) m a.1 e u)) (λ a h.
      keeps UprightTo _ (numbered_upright c a.1 _ _ refl h))

  pub entered_upright : (f : ℕ) (m : Making) → Upright c m → Upright c (waiting [] (entered f m))
  entered_upright f m u = let v = (scope_upright c m f u).0 in record { tidy = v.tidy; among = v.among }

  abbrev InnerUpright : JudgedOpen → Type 0
  InnerUpright j = Upright c j.inner

  pub opening_upright : (name : Identdef) (formals : Option S.Formals) (m : Making) → Upright c m → Gives (λ (j : JudgedOpen). Upright c j.inner) (opening p name formals m)
  opening_upright name formals m u =
      and_then (next_upright name.name m u) (λ f h.
      and_then (by_law {P = UprightTo} (heading p f.0 name formals (is_some f.1.world.procedure) (waiting [] (entered f.0 f.1)))
      (λ k e. (heading_upright c p f.0 name formals (is_some f.1.world.procedure) (waiting [] (entered f.0 f.1)) k.1 k.0.0 k.0.1 e (λ is. (f.0, refl)) (entered_upright f.0 f.1 h)).0)) (λ k l.
      keeps InnerUpright _ l))
