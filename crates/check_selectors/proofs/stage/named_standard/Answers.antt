use Rattle.std.proofs.Common.{◌≡◌, None, refl}
use Rattle.ob_judge.specs.Names.{Whole}
use Rattle.check_types.specs.declared.names.scope.Named.{Named}
use Rattle.check_types.specs.declared.names.scope.Named.TheVariants as TheNamed
use Rattle.check_types.specs.declared.names.scope.Standard.{Standard}
use Rattle.check_types.specs.declared.names.scope.Scope.{Scope}
use Rattle.check_types.specs.names.Meaning.{object_of}
use Rattle.check_types.specs.names.Worlds.{table_of, strings_of}
use Rattle.check_selectors.specs.Behind.{standard_in}
use Rattle.check_selectors.proofs.stage.named_standard.Goals as goal

no_standard : (s : Scope) (n : Named) → ((x : Standard) → n ≡ TheNamed.Standard x → ⊥) → standard_in (Whole (object_of (table_of s) (strings_of s) n)) ≡ None
no_standard s (TheNamed.Standard x) h = absurd (h x refl)
no_standard s n h = refl

pub returns-in_default : goal.returns-in_default
returns-in_default c = λ s. no_standard s c.args.named c.in_default.not-Standard
