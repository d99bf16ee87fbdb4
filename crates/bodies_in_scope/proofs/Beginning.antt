-- The state in which a module begins, and its imports.
use Rattle.std.proofs.Common.{◌≡◌, ℕ, List, [], ◌∷◌, ◌||◌, length, false, Option, refl, ap, ◌∙◌}
use Rattle.ob_syntax.specs.declared.modules.Import.{Import}
use Rattle.ob_judge.specs.Judged.{Keeps, some}
use Rattle.ob_judge.specs.Scopes.{AModule, Entry, Source, World, no_names, place, spelled}
use Rattle.ob_judge.specs.Standards.{predeclared}
use Rattle.ob_judge.specs.Making.{Making, is_among, with_levels, declare_last}
use Rattle.ob_judge.specs.Modules.{SoFar, first_making, imported, is_in, origin, import_part}
use Rattle.ob_judge.specs.Declarations.{each}
use Rattle.judged_well.specs.Gives.{Gives}
use Rattle.judged_well.proofs.Judging.{keeps, weaken, and_then}
use Rattle.judged_modules.proofs.Keeping.{given}
use Rattle.judged_modules.proofs.Parameters.{look_as}
use Rattle.judged_modules.proofs.steps.Frame.{h_stand}
use Rattle.judged_outlines.specs.Upright.{UprightSoFar}
use Rattle.judged_outlines.proofs.Modules.{first_upright}
use Rattle.judged_outlines.proofs.Uprights.{imports_upright}
use Rattle.later_types.specs.Later.{RootedSoFar}
use Rattle.later_types.proofs.Modules.{imports_rooted}
use Rattle.bodies_in_scope.specs.Standing.{AreNamed, Between}
use Rattle.bodies_in_scope.proofs.Names.{none_below}
use Rattle.bodies_in_scope.proofs.Stays.{Sort, GoesOn, IsAround, AroundTo, a_look, a_stand, around_declared}
use Rattle.bodies_in_scope.proofs.Declared.{a_each}
use Rattle.bodies_in_scope.proofs.Standing.{named_on, started, carried}

pub between_first : (c : SoFar) → UprightSoFar c → RootedSoFar c → Between c predeclared no_names (first_making c)
between_first c up root = record {
  levels = refl;
  named = record { below = none_below (length c.procedures); others = λ q i. refl };
  constant = refl;
  narrowed = refl;
  upright = first_upright c up;
  rooted = record { scope = root.scope };
}

module _ (p : Source) where
  a_import : (P : Sort) (on : GoesOn P) (round : List (List ℕ → Option Entry)) (v : World) (x : Import) (s : Making) → IsAround P on round v s → Gives (λ (r : Unit {0} × Making). AroundTo P on round v r) (import_part p x s)
  a_import P on round v x s h = and_then (a_stand P on round v p (x.name ∷ []) s h) (λ r k.
      and_then (a_look P on round v (some 38 (place p (origin x)) (imported (r.1).world.modules (spelled p (origin x)))) r.1 k.around) (λ m j.
      let e : Entry = record { object = AModule m.0; exported = false } in
      let after = record (m.1) { imports_in = (m.1).imports_in || is_in m.0 } in
      keeps (λ (q : Unit {0} × Making). AroundTo P on round v q) (tt, with_levels (declare_last (spelled p x.name) e) after)
      (around_declared P on round v after (spelled p x.name) e (ap (is_among (spelled p x.name)) j.standing ∙ k.stand.0) tt j.around)))

  abbrev SameProcedures : Making → Unit {0} × Making → Type 0
  SameProcedures s r = (r.1).procedures ≡ s.procedures

  import_same : (x : Import) (s : Making) → Gives (SameProcedures s) (import_part p x s)
  import_same x s = and_then (h_stand p (x.name ∷ []) s) (λ (r : Unit {0} × Making) h. and_then (look_as (some 38 (place p (origin x)) (imported (r.1).world.modules (spelled p (origin x)))) r.1) (λ m j.
      let e : Entry = record { object = AModule m.0; exported = false } in
      keeps (SameProcedures s) (tt, with_levels (declare_last (spelled p x.name) e) (record (m.1) { imports_in = (m.1).imports_in || is_in m.0 })) (ap (λ u. u.procedures) j.0 ∙ h.procedures)))

  imports_same : (xs : List Import) (s : Making) → Gives (SameProcedures s) (each (import_part p) xs s)
  imports_same [] s = keeps (SameProcedures s) (tt, s) refl
  imports_same (x ∷ xs) s = and_then (import_same x s) (λ r h. weaken (imports_same xs r.1) (λ q k. k ∙ h))

  pub between_imports : (c : SoFar) (outermost names : List ℕ → Option Entry) (xs : List Import) (s t : Making) → each (import_part p) xs s ≡ Keeps (tt, t) → Between c outermost names s
      → (k : List ℕ → Option Entry) × Between c outermost k t
  between_imports c outermost names xs s t is b =
      let n = length s.procedures in
      carried c outermost names s t (given (tt, t) (imports_same xs s) is) b
      (given (tt, t) (a_each p (AreNamed n) (named_on n) (outermost ∷ []) s.world (import_part p) (a_import (AreNamed n) (named_on n) (outermost ∷ []) s.world) xs s (started c outermost names s b)) is)
      (imports_upright c p xs s t is b.upright) (imports_rooted p xs s t is b.rooted)
