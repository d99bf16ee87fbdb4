-- What words ask for, by the rows that a command's matches have.
use Rattle.std.specs.Prelude.{ℕ, List, Option, Some, codes}
use Rattle.clap.specs.Words.{Row, first_of}
use Rattle.alloc_choice.specs.declared.choice.Choice.{Choice}
use Rattle.alloc_choice.specs.declared.choice.Policy.{Policy}
use Rattle.trace_build.specs.declared.builder.Builder.{Builder}
use Rattle.explanations.specs.declared.format.Format.{Format}
use Rattle.explanations.specs.declared.topic.Topic.{Topic}
use Rattle.option_values.specs.Values.{files_in, given, names_in, notes_in}
use Rattle.option_values.specs.Options.{against_in, choice_in, format_in, jobs_in, regs_in, seed_in, shown_choice_in, size_in, steps_in, topic_in, traces_choice_in, traces_in, turns_in}

pub data Asked : Type 0 where
  Run : (files : List (List ℕ)) (choice : Choice) (steps : ℕ) → Asked
  Build : (out : List ℕ) (files : List (List ℕ)) (choice : Choice) (from notes : Option (List ℕ)) → Asked
  Elf : (out : List ℕ) (files : List (List ℕ)) (choice : Choice) → Asked
  Exec : (image : List ℕ) (steps : ℕ) → Asked
  Traces : (files : List (List ℕ)) (choice : Choice) → Asked
  Bulk : (seed size : ℕ) (choice : Choice) (steps : ℕ) → Asked
  Audit : (out notes : List ℕ) (files : List (List ℕ)) (builder : Builder) (regs : ℕ) → Asked
  Object : (out : List ℕ) (files : List (List ℕ)) (choice : Choice) → Asked
  Link : (out : List ℕ) (objects : List (List ℕ)) → Asked
  Mean : (files : List (List ℕ)) (turns : ℕ) → Asked
  Both : (files : List (List ℕ)) (choice : Choice) (steps turns : ℕ) → Asked
  Batch : (list : List ℕ) (choice : Choice) (steps : ℕ) → Asked
  Check : (files : List (List ℕ)) (format : Format) → Asked
  Explain : (topic : Topic) → Asked
  Compare : (files : List (List ℕ)) (jobs steps : ℕ) → Asked
  Show : (out : List ℕ) (files : List (List ℕ)) (choice : Choice) (against : Option Policy) → Asked
  Help : Asked

abbrev pub run_asked : List Row → Option Asked
run_asked rows =
    given (files_in rows) (λ files.
    given (choice_in rows) (λ choice. given (steps_in rows) (λ steps. Some (Run files choice steps))))

abbrev pub build_asked : List Row → Option Asked
build_asked rows =
    given (first_of (codes "OUT") rows) (λ out.
    given (files_in rows) (λ files. given (choice_in rows) (λ choice.
    given (notes_in out rows) (λ notes. Some (Build out files choice (first_of (codes "from") rows) notes)))))

abbrev pub elf_asked : List Row → Option Asked
elf_asked rows =
    given (first_of (codes "OUT") rows) (λ out.
    given (files_in rows) (λ files. given (choice_in rows) (λ choice. Some (Elf out files choice))))

abbrev pub exec_asked : List Row → Option Asked
exec_asked rows =
    given (first_of (codes "IMAGE") rows) (λ image. given (steps_in rows) (λ steps. Some (Exec image steps)))

abbrev pub traces_asked : List Row → Option Asked
traces_asked rows =
    given (files_in rows) (λ files. given (traces_choice_in rows) (λ choice. Some (Traces files choice)))

abbrev pub bulk_asked : List Row → Option Asked
bulk_asked rows =
    given (seed_in rows) (λ seed. given (size_in rows) (λ size.
    given (choice_in rows) (λ choice. given (steps_in rows) (λ steps. Some (Bulk seed size choice steps)))))

abbrev pub audit_asked : List Row → Option Asked
audit_asked rows =
    given (first_of (codes "OUT") rows) (λ out. given (first_of (codes "NOTES") rows) (λ notes.
    given (files_in rows) (λ files.
    given (traces_in rows) (λ builder. given (regs_in rows) (λ regs. Some (Audit out notes files builder regs))))))

abbrev pub object_asked : List Row → Option Asked
object_asked rows =
    given (first_of (codes "OUT") rows) (λ out.
    given (files_in rows) (λ files. given (choice_in rows) (λ choice. Some (Object out files choice))))

abbrev pub link_asked : List Row → Option Asked
link_asked rows =
    given (first_of (codes "OUT") rows) (λ out. given (names_in (codes "OBJECT") rows) (λ objects. Some (Link out objects)))

abbrev pub mean_asked : List Row → Option Asked
mean_asked rows =
    given (files_in rows) (λ files. given (turns_in rows) (λ turns. Some (Mean files turns)))

abbrev pub both_asked : List Row → Option Asked
both_asked rows =
    given (files_in rows) (λ files. given (choice_in rows) (λ choice.
    given (steps_in rows) (λ steps. given (turns_in rows) (λ turns. Some (Both files choice steps turns)))))

abbrev pub batch_asked : List Row → Option Asked
batch_asked rows =
    given (first_of (codes "LIST") rows) (λ list.
    given (choice_in rows) (λ choice. given (steps_in rows) (λ steps. Some (Batch list choice steps))))

abbrev pub check_asked : List Row → Option Asked
check_asked rows =
    given (files_in rows) (λ files. given (format_in rows) (λ format. Some (Check files format)))

abbrev pub explain_asked : List Row → Option Asked
explain_asked rows = given (topic_in rows) (λ topic. Some (Explain topic))

abbrev pub compare_asked : List Row → Option Asked
compare_asked rows =
    given (files_in rows) (λ files.
    given (jobs_in rows) (λ jobs. given (steps_in rows) (λ steps. Some (Compare files jobs steps))))

abbrev pub show_asked : List Row → Option Asked
show_asked rows =
    given (first_of (codes "OUT") rows) (λ out. given (files_in rows) (λ files.
    given (shown_choice_in rows) (λ choice.
    given (against_in rows) (λ against. Some (Show out files choice against)))))

abbrev pub help_asked : List Row → Option Asked
help_asked rows = Some Help
