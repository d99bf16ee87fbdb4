-- Imports leave procedures and pointer types as they were.
use Rattle.std.proofs.Common.{List, [], ◌∷◌, refl}
use Rattle.std.specs.Prelude.{◌||◌, false}
use Rattle.ob_syntax.specs.declared.modules.Import.{Import}
use Rattle.ob_judge.specs.Judged.{some}
use Rattle.ob_judge.specs.Scopes.{AModule, Source, place, spelled}
use Rattle.ob_judge.specs.Making.{Making, declare_last, with_levels}
use Rattle.ob_judge.specs.Declarations.{each}
use Rattle.ob_judge.specs.Modules.{imported, import_part, is_in, origin}
use Rattle.judged_well.specs.Gives.{Gives}
use Rattle.judged_well.proofs.Judging.{keeps}
use Rattle.judged_modules.proofs.steps.Frame.{held, HeldTo, h_next, h_look, h_stand}

module _ (p : Source) where
  h_import : (x : Import) (s : Making) → Gives (HeldTo s) (import_part p x s)
  h_import x s = h_next (h_stand p (x.name ∷ []) s) (λ r. h_next (h_look (some 38 (place p (origin x)) (imported r.1.world.modules (spelled p (origin x)))) r.1) (λ m.
      keeps (HeldTo m.1) (tt, with_levels (declare_last (spelled p x.name) (record { object = AModule m.0; exported = false })) (record m.1 { imports_in = m.1.imports_in || is_in m.0 }))
      (record { modules = refl; procedures = refl; bases = refl; forward = refl })))

  pub h_imports : (xs : List Import) (s : Making) → Gives (HeldTo s) (each (import_part p) xs s)
  h_imports [] s = keeps (HeldTo s) (tt, s) (held s)
  h_imports (x ∷ xs) s = h_next (h_import x s) (λ r. h_imports xs r.1)
