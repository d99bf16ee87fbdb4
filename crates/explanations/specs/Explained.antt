-- The text that explains a topic.
use Rattle.std.specs.Prelude.{ℕ, List, [], ◌∷◌, ◌++◌, Bool, ◌||◌, Option, Some, None, is_some}
use Rattle.explanations.specs.declared.kind.Kind.{Kind}
use Rattle.explanations.specs.declared.kind.Kind.TheVariants.{Fault, Limit, Trap, ImageRule, NotesRule, ObjectRule}
use Rattle.explanations.specs.declared.kind.TheConstants.{PAGES}
use Rattle.explanations.specs.declared.topic.Topic.{Topic}
use Rattle.explanations.specs.declared.topic.Topic.TheVariants.{Pages, Usage, Number}
use Rattle.explanations.specs.Entries.{Entry, heading, page_text}
use Rattle.explanations.specs.Faults.{fault_entry}
use Rattle.explanations.specs.Limits.{limit_entry}
use Rattle.explanations.specs.Traps.{trap_entry}
use Rattle.explanations.specs.ImageRules.{image_rule_entry}
use Rattle.explanations.specs.NotesRules.{notes_rule_entry}
use Rattle.explanations.specs.ObjectRules.{object_rule_entry}
use Rattle.explanations.specs.Usage.{usage}

-- what the page of this kind and number says, where there is one
abbrev pub entry_of : Kind → ℕ → Option Entry
entry_of Fault number = fault_entry number
entry_of Limit number = limit_entry number
entry_of Trap number = trap_entry number
entry_of ImageRule number = image_rule_entry number
entry_of NotesRule number = notes_rule_entry number
entry_of ObjectRule number = object_rule_entry number

-- whether a number has a page
abbrev pub has_page : ℕ → Bool
has_page number =
    is_some (entry_of Fault number) || is_some (entry_of Limit number) || is_some (entry_of Trap number) || is_some (entry_of ImageRule number)
    || is_some (entry_of NotesRule number) || is_some (entry_of ObjectRule number)

-- an empty line behind a text that isn't empty
abbrev pub gap : List ℕ → List ℕ
gap [] = []
gap (c ∷ cs) = 10 ∷ []

-- a text with a page behind it, where there is one
abbrev pub with_entry : Kind → ℕ → List ℕ → Option Entry → List ℕ
with_entry kind number text None = text
with_entry kind number text (Some e) = text ++ gap text ++ page_text kind number e

-- with the page of this kind and number
abbrev pub with_page : ℕ → List ℕ → Kind → List ℕ
with_page number text kind = with_entry kind number text (entry_of kind number)

-- the pages of a number: of a fault, a limit, a trap, a rule of images, of notes, of objects
unfoldable pub number_text : ℕ → List ℕ
number_text number =
    with_page number (with_page number (with_page number (with_page number (with_page number (with_page number [] Fault) Limit) Trap) ImageRule) NotesRule) ObjectRule

-- the first line of a page, where there is one
abbrev pub heading_of : Kind → ℕ → Option Entry → List ℕ
heading_of kind number None = []
heading_of kind number (Some e) = heading kind number e

abbrev pub line_of : Kind → ℕ → List ℕ
line_of kind number = heading_of kind number (entry_of kind number)

-- the first lines of pages
unfoldable pub lines_of : List (Kind × ℕ) → List ℕ
lines_of [] = []
lines_of (page ∷ pages) = line_of page.0 page.1 ++ lines_of pages

-- the text that explains a topic
unfoldable pub explanation : Topic → List ℕ
explanation Pages = lines_of PAGES
explanation Usage = usage
explanation (Number number) = number_text number
