-- What texts come to whose page is written.
use Rattle.std.specs.Prelude.{ℕ, List, Option}
use Rattle.program_page.specs.words.alloc_choice.declared.choice.Choice.{Choice}
use Rattle.program_page.specs.words.alloc_choice.declared.choice.Policy.{Policy}
use Rattle.program_page.specs.words.source_image.Refusals.{IsRefusalOf}
use Rattle.program_page.specs.Faults.{TellsOfPage}
use Rattle.program_page.specs.Pages.{IsPageOfTexts, wish_of}
use Rattle.trc_answers.specs.Verdict.{Verdict, IsWritten}
use Rattle.trc_texts.specs.Texts.{AreRefused}

-- texts of files with these names are refused as for their image by the choice, behind that as for their image by the other policy, and
-- behind that for the length of their page; or the page is written to a file
pub data ShowComesTo (choice : Choice) (against : Option Policy) (out : List ℕ) (names texts : List (List ℕ)) (verdict : Verdict) : Type 0 where
  HaveNoPage : AreRefused (IsRefusalOf (TellsOfPage (wish_of names texts choice against)) texts) verdict → ShowComesTo choice against out names texts verdict
  HavePage : (page : List ℕ) → IsPageOfTexts (wish_of names texts choice against) page → IsWritten out page verdict
      → ShowComesTo choice against out names texts verdict
