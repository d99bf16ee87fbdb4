-- What parts of the judgement leave as it was, put together.
use Rattle.std.proofs.Common.{ℕ, Bool, Option, Result, ap, ◌∙◌, arith, length}
use Rattle.std.specs.Prelude.{slice_get}
use Rattle.ob_syntax.specs.Syntax as S
use Rattle.ob_syntax.specs.declared.names.Identdef.{Identdef}
use Rattle.ob_judge.specs.Judged.{Judged, ◌>>=◌}
use Rattle.ob_judge.specs.Shapes.{Shape}
use Rattle.ob_judge.specs.Scopes.{Source}
use Rattle.ob_judge.specs.Making.{Making}
use Rattle.ob_judge.specs.Parameters.{Listed}
use Rattle.ob_judge.specs.Declarations.{consts_in, types_in, vars_in, heading}
use Rattle.judged_well.specs.Gives.{Gives}
use Rattle.judged_well.proofs.Judging.{weaken, and_then}
use Rattle.check_types.specs.steps.Answers.{Answers}
use Rattle.check_types.specs.declared.steps.fault.CheckFault.{CheckFault}
use Rattle.judged_modules.specs.steps.Frames.{Held, Steady}
use Rattle.judged_modules.proofs.steps.Frame.{h_heading}
use Rattle.judged_modules.proofs.steps.FrameTypes.{s_consts, s_types, s_vars}
use Rattle.check_making.specs.declared.making.Declaring.{Declaring}
use Rattle.check_making.specs.declared.making.Surroundings.{Surroundings}
use Rattle.check_making.specs.Parts.{Made}
use Rattle.check_making.proofs.Typed.{answers_with}
use Rattle.check_making.specs.declared.scopes.building.Building.{Building}
use Rattle.check_making.specs.scopes.Building.{IsLater, Represents}
use Rattle.check_making.specs.scopes.Built.{Built}
use Rattle.check_making.proofs.scopes.Procedures.{begins_on}
use Rattle.check_making.proofs.scopes.Together.{with_declaring, goes_on_to}
use Rattle.check_procedures.specs.Parts.{first_parts}

steady_on : (s t u : Making) → Steady s t → Steady t u → Steady s u
steady_on s t u g h = record {
  modules = h.modules ∙ g.modules;
  procedures = h.procedures ∙ g.procedures;
  begins = begins_on s.world.known.bases t.world.known.bases u.world.known.bases g.begins h.begins;
}

-- what a part leaves
abbrev pub Onward : {A : Type 0} → Making → A × Making → Type 0
Onward s r = Steady s r.1

steady_then : {A B : Type 0} {s : Making} {m : Judged (A × Making)} {f : A × Making → Judged (B × Making)} → Gives (Onward s) m → ((r : A × Making) → Gives (Onward r.1) (f r)) → Gives (Onward s) (m >>= f)
steady_then {s = s} g next = and_then g (λ r h. weaken (next r) (λ q k. steady_on s r.1 q.1 h k))

steady_held : (s t : Making) → Held s t → Steady s t
steady_held s t h = record {
  modules = h.modules;
  procedures = h.procedures;
  begins = record { long = (let l = ap (λ xs. length xs) h.bases in omega (arith, l)); same = λ n l. ap (λ xs. slice_get xs n) h.bases };
}

module _ (p : Source) where
  pub first_parts_steady : (consts : Option S.Consts) (types : Option S.Types) (vars : Option S.Vars) (s : Making) → Gives (Onward s) (first_parts p consts types vars s)
  first_parts_steady consts types vars s =
      steady_then (s_consts p (consts_in consts) s) (λ a. steady_then (s_types p (types_in types) a.1) (λ b. s_vars p (vars_in vars) b.1))

  pub heading_steady : (f : ℕ) (name : Identdef) (x : Option S.Formals) (is_local : Bool) (s : Making) → Gives (λ (left : (Listed × Shape) × Making). Steady s left.1) (heading p f name x is_local s)
  heading_steady f name x is_local s = weaken (h_heading p f name x is_local s) (λ r h. steady_held s r.1 h)

-- a part that leaves procedures as they were, on a program that is being built
pub built_so : (r : Surroundings) (s : Building) (m : Making) (h : Represents r s m) (t : Declaring) (part : Judged (Unit {0} × Making)) → Gives (Onward m) part → IsLater s.declaring.types.table t.types.table → (result : Result (Unit {0}) CheckFault)
    → Answers (Made r t) part result → Answers (Built r (with_declaring r s m h t)) part result
built_so r s m h t part law later result answers =
    answers_with part result answers law (λ b left made steady. record { represents = goes_on_to r s m h t left.1 made.makes steady.procedures later steady.begins })
