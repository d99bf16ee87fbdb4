-- The page of a program by a choice, and by another policy beside it.
use Rattle.std.specs.Prelude.{◌≡◌, ◌≤◌, ℕ, List, map, length, true, Option, Some, None}
use Rattle.ob_types.specs.WellFormed.{well_formed}
use Rattle.ob_types.specs.declared.program.Program.{Program}
use Rattle.link_blocks.specs.Plans.{placed_in}
use Rattle.shown_program.specs.words.alloc_choice.declared.choice.Choice.{Choice}
use Rattle.shown_program.specs.words.alloc_choice.declared.choice.Policy.{Policy}
use Rattle.shown_program.specs.words.source_program.Texts.{IsProgramOfTexts}
use Rattle.shown_program.specs.Shown.{IsShownProgram}
use Rattle.shown_program.specs.declared.making.ShownProgram.{ShownProgram}
use Rattle.whole_page.specs.Pages.{most_bytes, page_text}
use Rattle.whole_page.specs.Views.{View}

-- what a page shows of a program
abbrev pub program_view : Choice → ShownProgram → View
program_view choice made = record {
  policy = choice.policy;
  registers = choice.regs;
  flows = made.flows.items;
  cuts = map (λ v. v.items) made.cuts.items;
  parents = map (λ v. v.items) made.parents.items;
  outs = map (λ v. v.items) made.outs.items;
  lines = map (λ v. v.items) made.lines.items;
  plans = map placed_in made.plans.items;
  code = made.image.code;
  places = made.image.places;
}

-- the choice with another policy
abbrev pub with_policy : Choice → Policy → Choice
with_policy choice policy = record choice { policy = policy }

-- the program by the other policy, where there is one
abbrev pub IsBeside : Choice → Option Policy → Program → Option ShownProgram → Type 0
IsBeside choice None p None = Unit {0}
IsBeside choice None p (Some made) = ⊥
IsBeside choice (Some policy) p None = ⊥
IsBeside choice (Some policy) p (Some made) = IsShownProgram (with_policy choice policy) p made

-- what a page shows of it
abbrev pub view_beside : Choice → Option Policy → Option ShownProgram → Option View
view_beside choice None made = None
view_beside choice (Some policy) None = None
view_beside choice (Some policy) (Some made) = Some (program_view (with_policy choice policy) made)

-- what is asked of a page: files by their names with these texts, a choice, and another policy
pub record Wish : Type 0 where
  pub names : List (List ℕ)
  pub texts : List (List ℕ)
  pub choice : Choice
  pub policy : Option Policy

abbrev pub wish_of : (names texts : List (List ℕ)) → Choice → Option Policy → Wish
wish_of names texts choice policy = record { names = names; texts = texts; choice = choice; policy = policy }

-- the text of a program's page
pub record IsPageText (wish : Wish) (p : Program) (text : List ℕ) : Type 0 where
  pub own : ShownProgram
  pub own_is : IsShownProgram wish.choice p own
  pub other : Option ShownProgram
  pub beside : IsBeside wish.choice wish.policy p other
  pub is : text ≡ page_text wish.names wish.texts wish.choice wish.policy own.image (program_view wish.choice own)
      (view_beside wish.choice wish.policy other)

-- it isn't too long
pub record IsProgramPage (wish : Wish) (p : Program) (page : List ℕ) : Type 0 where
  pub text : IsPageText wish p page
  pub short : length page ≤ most_bytes

-- the page of a program that the texts are
pub record IsPageOfTexts (wish : Wish) (page : List ℕ) : Type 0 where
  pub program : Program
  pub of_texts : IsProgramOfTexts wish.texts program
  pub well_formed : well_formed program ≡ true
  pub is : IsProgramPage wish program page
