-- A request, as what words ask for.
use Rattle.std.specs.Prelude.{◌≡◌, Option, Some, None, Result, Ok, Err}
use Rattle.option_values.specs.Values.{text, texts}
use Rattle.word_requests.specs.Asked.{Asked}
use Rattle.word_requests.specs.Asked as asked
use Rattle.word_requests.specs.declared.request.Request.{Request}
use Rattle.word_requests.specs.declared.request.Request.TheVariants.{Run, Build, Elf, Exec, Traces, Bulk, Audit, Object, Link, Mean, Both, Batch, Check, Explain, Compare, Show, Help}
use Rattle.command_words.specs.declared.fault.WordsFault.{WordsFault}
use Rattle.command_words.specs.declared.fault.WordsFault.TheVariants.{Usage, Memory}

-- what a request asks for
abbrev pub plain : Request → Asked
plain (Run files choice steps) = asked.Run (texts files.items) choice steps
plain (Build out files choice from notes) = asked.Build out.now (texts files.items) choice (text from) (text notes)
plain (Elf out files choice) = asked.Elf out.now (texts files.items) choice
plain (Exec image steps) = asked.Exec image.now steps
plain (Traces files choice) = asked.Traces (texts files.items) choice
plain (Bulk seed size choice steps) = asked.Bulk seed size choice steps
plain (Audit out notes files builder regs) = asked.Audit out.now notes.now (texts files.items) builder regs
plain (Object out files choice) = asked.Object out.now (texts files.items) choice
plain (Link out objects) = asked.Link out.now (texts objects.items)
plain (Mean files turns) = asked.Mean (texts files.items) turns
plain (Both files choice steps turns) = asked.Both (texts files.items) choice steps turns
plain (Batch list choice steps) = asked.Batch list.now choice steps
plain (Check files format) = asked.Check (texts files.items) format
plain (Explain topic) = asked.Explain topic
plain (Compare files jobs steps) = asked.Compare (texts files.items) jobs steps
plain (Show out files choice against) = asked.Show out.now (texts files.items) choice against
plain Help = asked.Help

module _ {A B : Type 0} where
  -- the answer shows what is wanted; it is a refusal exactly where nothing is, want of memory apart
  abbrev pub Shows : (A → B) → Option B → Result A WordsFault → Type 0
  Shows view wanted (Ok a) = wanted ≡ Some (view a)
  Shows view wanted (Err Usage) = wanted ≡ None
  Shows view wanted (Err Memory) = Unit {0}

-- the answer is what the words ask for
abbrev pub Asks : Option Asked → Result Request WordsFault → Type 0
Asks = Shows plain
