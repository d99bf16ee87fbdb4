-- Each fault tells of the limit that is passed first.
use Rattle.std.proofs.Common.{◌≡◌, ◌<◌, ◌≤◌, ℕ, List, length, Option, Some, None, Ok, Err, refl, sym, subst}
use Rattle.std.specs.Prelude.{Result, IfOk, IfErr, Vec}
use Rattle.std.specs.Global.{Global}
use Rattle.ob_types.specs.declared.program.Program.{Program}
use Rattle.shown_program.specs.words.alloc_choice.Choice.{IsFitChoice}
use Rattle.shown_program.specs.words.alloc_choice.declared.choice.Choice.{Choice}
use Rattle.shown_program.specs.words.alloc_choice.declared.choice.Policy.{Policy}
use Rattle.shown_program.specs.words.program_image.Faults.{Tells, whole_limit}
use Rattle.shown_program.specs.words.program_image.declared.fault.ProgramFault.{ProgramFault}
use Rattle.shown_program.specs.words.program_image.declared.fault.ProgramFault.TheVariants as whole
use Rattle.shown_program.specs.Shown.{IsShownProgram}
use Rattle.shown_program.specs.declared.making.ShownProgram.{ShownProgram}
use Rattle.whole_page.specs.Pages.{most_bytes, page_text}
use Rattle.program_page.specs.Faults.{ForImage, ForOther, ByPage, TellsOfOther, TellsOfPage}
use Rattle.program_page.specs.Pages.{IsBeside, IsPageText, IsProgramPage, Wish, program_view, view_beside, with_policy}

pub fit : (choice : Choice) (policy : Policy) → IsFitChoice choice → IsFitChoice (with_policy choice policy)
fit choice policy h = record { enough = h.enough; few = h.few; some_jobs = h.some_jobs; few_jobs = h.few_jobs }

module _ (wish : Wish) (p : Program) where
  pub own_told : (fault : ProgramFault) → Tells wish.choice p fault → TellsOfPage wish p fault
  own_told (whole.Limit n i) h = ForImage (record { number = n; index = i }) h
  own_told whole.Memory h = tt

  told_beside : (own : ShownProgram) → IsShownProgram wish.choice p own → (policy : Option Policy) → wish.policy ≡ policy → (fault : ProgramFault) → TellsOfOther wish.choice policy p fault → TellsOfPage wish p fault
  told_beside own is None e fault h = absurd h
  told_beside own is (Some policy) e (whole.Limit n i) h = ForOther (record { number = n; index = i }) policy own e is h
  told_beside own is (Some policy) e whole.Memory h = tt

  pub other_told : (own : ShownProgram) → IsShownProgram wish.choice p own → (fault : ProgramFault) → TellsOfOther wish.choice wish.policy p fault → TellsOfPage wish p fault
  other_told own is fault h = told_beside own is wish.policy refl fault h

  pub page_told : (text : List ℕ) → IsPageText wish p text → most_bytes < length text → TellsOfPage wish p (whole.Limit 71 0)
  page_told text is long = ByPage text is long

  -- from the page to what the program comes to
  pub made_page : (own : ShownProgram) → IsShownProgram wish.choice p own → (other : Option ShownProgram) → IsBeside wish.choice wish.policy p other → (r : Result (Vec ℕ Global) ProgramFault)
      → IfOk r (λ page. (page.items ≡ page_text wish.names wish.texts wish.choice wish.policy own.image (program_view wish.choice own) (view_beside wish.choice wish.policy other)) × (length page.items ≤ most_bytes))
      → IfOk r (λ page. IsProgramPage wish p page.items)
  made_page own is other beside (Ok page) h = record { text = record { own = own; own_is = is; other = other; beside = beside; is = h.0 }; short = h.1 }
  made_page own is other beside (Err fault) h = h

  pub no_page : (own : ShownProgram) → IsShownProgram wish.choice p own → (other : Option ShownProgram) → IsBeside wish.choice wish.policy p other → (r : Result (Vec ℕ Global) ProgramFault)
      → IfErr r (λ fault. (fault ≡ whole_limit 71) × (most_bytes < length (page_text wish.names wish.texts wish.choice wish.policy own.image (program_view wish.choice own) (view_beside wish.choice wish.policy other))))
      → IfErr r (TellsOfPage wish p)
  no_page own is other beside (Ok page) h = h
  no_page own is other beside (Err fault) h =
      subst (TellsOfPage wish p) (sym h.0) (page_told _ (record { own = own; own_is = is; other = other; beside = beside; is = refl }) h.1)
