-- What the texts of some modules come to: the program of the modules that they are read as, or the first rule that is broken.
use Rattle.std.specs.Prelude.{◌≡◌, ◌<◌, ◌≤◌, ℕ, List, [], ◌∷◌, length, take, Some, slice_get}
use Rattle.ob_symbol.specs.declared.symbol.Symbol.{Symbol}
use Rattle.ob_syntax.specs.declared.modules.Module.{Module}
use Rattle.ob_syntax.specs.Plain.{plain_module}
use Rattle.ob_types.specs.Meaning.{texts_of}
use Rattle.ob_types.specs.declared.program.Program.{Program}
use Rattle.ob_judge.specs.Judged.{Judged, Keeps, Breaks, ◌>>=◌}
use Rattle.ob_judge.specs.Modules.{SoFar, Parsed, no_modules, with_module}
use Rattle.judged_programs.specs.ProgramOf.{IsProgramOf}
use Rattle.check_making.specs.scopes.InTurn.{AllUseInTurn}
use Rattle.ob_read.specs.Texts.{IsModuleText, most_bytes}
use Rattle.ob_read.specs.Texts as Read
use Rattle.ob_read.specs.declared.fault.TextFault.TheVariants as OfText
use Rattle.source_program.specs.declared.fault.SourceFault.{SourceFault}
use Rattle.source_program.specs.declared.fault.SourceFault.TheVariants.{TooLong, Fault, Memory}

-- a module's text with its symbols and its tree
abbrev pub parsed : List ℕ → List Symbol → Module → Parsed
parsed bytes symbols tree = record { source = record { bytes = bytes; symbols = symbols }; tree = plain_module tree }

-- a text is read as this module
pub record IsParsed (bytes : List ℕ) (m : Parsed) : Type 0 where
  pub symbols : List Symbol
  pub tree : Module
  pub text : IsModuleText bytes symbols tree
  pub is : m ≡ parsed bytes symbols tree

-- one for one
abbrev pub AreParsed : List (List ℕ) → List Parsed → Type 0
AreParsed [] [] = Unit {0}
AreParsed (t ∷ ts) (m ∷ ms) = IsParsed t m × AreParsed ts ms
AreParsed ts ms = ⊥

-- what the judgement knows behind some modules more, where it accepts them
abbrev pub accepted_after : SoFar → List Parsed → Judged SoFar
accepted_after c [] = Keeps c
accepted_after c (m ∷ ms) = with_module m.source m.tree c >>= λ d. accepted_after d ms

abbrev pub accepted : List Parsed → Judged SoFar
accepted = accepted_after no_modules

-- the texts are read as modules, of which the judgement gives this program, whose constants stand in these texts; its procedures use
-- their strings in turn, and all of these have numbers of 32 bits
pub record IsProgramOfTexts (texts : List (List ℕ)) (p : Program) : Type 0 where
  pub modules : List Parsed
  pub are_parsed : AreParsed texts modules
  pub program : IsProgramOf modules p
  pub own_texts : program.sources ≡ texts
  pub in_turn : AllUseInTurn p.procedures
  pub few_strings : length (texts_of p.procedures) ≤ 4294967295

-- a text breaks this rule at this byte, behind these modules: one of symbols or of the grammar, or one of the language
pub data BreaksBehind (c : SoFar) (bytes : List ℕ) (number at : ℕ) : Type 0 where
  InText : Read.IsFault bytes (OfText.Fault number at) → BreaksBehind c bytes number at
  InModule : (m : Parsed) → IsParsed bytes m → with_module m.source m.tree c ≡ Breaks number at → BreaksBehind c bytes number at

-- this is the first module with such a text: those before are read as modules that the judgement accepts
pub record IsFirst (Wrong : SoFar → List ℕ → Type 0) (texts : List (List ℕ)) (number : ℕ) : Type 0 where
  pub before : List Parsed
  pub are_parsed : AreParsed (take number texts) before
  pub so_far : SoFar
  pub accepts : accepted before ≡ Keeps so_far
  pub bytes : List ℕ
  pub text : slice_get texts number ≡ Some bytes
  pub wrong : Wrong so_far bytes

-- why texts are no program
abbrev pub IsSourceFault : List (List ℕ) → SourceFault → Type 0
IsSourceFault texts (TooLong number) = IsFirst (λ c bytes. most_bytes < length bytes) texts number
IsSourceFault texts (Fault number rule at) = IsFirst (λ c bytes. BreaksBehind c bytes rule at) texts number
IsSourceFault texts Memory = Unit {0}
