-- Sections judged one after another.
use Rattle.std.proofs.Common.{◌≡◌, List, ◌∷◌, Bool, refl}
use Rattle.ob_syntax.specs.declared.types.NextSection.{NextSection}
use Rattle.ob_syntax.specs.Plain.{plain_section, plain_next_section, plain_each}
use Rattle.ob_judge.specs.Judged.{Judged, ◌>>=◌}
use Rattle.ob_judge.specs.Scopes.{Source}
use Rattle.ob_judge.specs.Making.{Making}
use Rattle.ob_judge.specs.Parameters.{Listed, section, next_sections}

module _ (p : Source) (known_here : Bool) where
  abbrev pub sections_from : Listed × Making → List NextSection → Judged (Listed × Making)
  sections_from a xs = next_sections p known_here (plain_each plain_next_section xs) a.0 a.1

  abbrev pub section_item : Listed × Making → NextSection → Judged (Listed × Making)
  section_item a x = section p known_here (plain_section x.section) a.0 a.1

  pub sections_law : (a : Listed × Making) (x : NextSection) (xs : List NextSection) → sections_from a (x ∷ xs) ≡ (section_item a x >>= λ z. sections_from z xs)
  sections_law a x xs = refl
