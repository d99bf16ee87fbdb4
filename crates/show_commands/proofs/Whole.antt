-- From a page to the whole command.
use Rattle.std.proofs.Common.{◌≡◌, ℕ, List, Option}
use Rattle.outside.specs.Files.{Held}
use Rattle.outside.specs.Sink.{Account}
use Rattle.program_page.specs.words.alloc_choice.declared.choice.Choice.{Choice}
use Rattle.program_page.specs.words.alloc_choice.declared.choice.Policy.{Policy}
use Rattle.program_page.specs.words.source_image.Refusals.{IsRefusalOf}
use Rattle.program_page.specs.Faults.{TellsOfPage}
use Rattle.program_page.specs.Pages.{IsPageOfTexts, wish_of}
use Rattle.trc_answers.specs.Verdict.{IsWritten}
use Rattle.trc_answers.specs.Answers.{Devices, devices, Answers}
use Rattle.trc_answers.specs.declared.causes.Cause.{Cause}
use Rattle.trc_answers.proofs.Answering.{mapped, wrote}
use Rattle.trc_texts.specs.Texts.{IsRefusedAs}
use Rattle.trc_texts.proofs.Refusing.{refused}
use Rattle.show_commands.specs.Shows.{ShowComesTo, HaveNoPage, HavePage}

module _ (choice : Choice) (against : Option Policy) (out : List ℕ) (names texts : List (List ℕ)) where
  -- texts have a page
  pub has_page : (slice page : List ℕ) (old new : Devices) (c : Cause) → slice ≡ page → IsPageOfTexts (wish_of names texts choice against) page
      → Answers (λ _. IsWritten out slice) old new c → Answers (λ _. ShowComesTo choice against out names texts) old new c
  has_page slice page old new c same is answers =
      mapped (λ _. IsWritten out page) (λ _. ShowComesTo choice against out names texts) old new c (λ _ v it. HavePage page is it) (wrote out slice page old new c same answers)

  -- or none
  pub no_page : (c : Cause) → IsRefusedAs (IsRefusalOf (TellsOfPage (wish_of names texts choice against)) texts) c
      → (held : Option Held) (m : ℕ) (left : Option (List ℕ)) (k : ℕ) (output : Account)
      → Answers (λ _. ShowComesTo choice against out names texts) (devices held m left k output) (devices held m left k output) c
  no_page c h = refused (IsRefusalOf (TellsOfPage (wish_of names texts choice against)) texts) (λ _. ShowComesTo choice against out names texts) (λ _ v r. HaveNoPage r) c h
