-- All that matches can ask for fits.
use Rattle.std.proofs.Common.{◌≤◌, List, codes}
use Rattle.clap.specs.Words.{Row, first_of}
use Rattle.alloc_choice.specs.Choice.{IsFitChoice}
use Rattle.option_values.specs.Values.{files_in, names_in, notes_in}
use Rattle.option_values.specs.Options.{against_in, choice_in, format_in, jobs_in, regs_in, seed_in, shown_choice_in, size_in, steps_in, topic_in, traces_choice_in, traces_in, turns_in}
use Rattle.option_values.proofs.Fitting.{Any, Between, Holds, IsFull, choice_holds, files_hold, given_holds, jobs_hold, names_hold, regs_hold, seed_holds, shown_choice_holds, size_holds, some_holds, steps_hold, traces_choice_holds, turns_hold}
use Rattle.word_requests.specs.Asked.{Run, Build, Elf, Exec, Traces, Bulk, Audit, Object, Link, Mean, Both, Batch, Check, Explain, Compare, Show, Help, run_asked, build_asked, elf_asked, exec_asked, traces_asked, bulk_asked, audit_asked, object_asked, link_asked, mean_asked, both_asked, batch_asked, check_asked, explain_asked, compare_asked, show_asked, help_asked}
use Rattle.word_requests.specs.Fitting.{Fits}

pub run_fits : (rows : List Row) → Holds Fits (run_asked rows)
run_fits rows =
    given_holds IsFull Fits (files_in rows) _ (files_hold rows) (λ files f.
    given_holds IsFitChoice Fits (choice_in rows) _ (choice_holds rows) (λ choice c.
    given_holds (λ n. n ≤ 1000000000000000) Fits (steps_in rows) _ (steps_hold rows) (λ steps s.
    some_holds Fits (Run files choice steps) (f, c, s))))

pub build_fits : (rows : List Row) → Holds Fits (build_asked rows)
build_fits rows =
    given_holds Any Fits (first_of (codes "OUT") rows) _ (λ _ _. tt) (λ out _.
    given_holds IsFull Fits (files_in rows) _ (files_hold rows) (λ files f.
    given_holds IsFitChoice Fits (choice_in rows) _ (choice_holds rows) (λ choice c.
    given_holds Any Fits (notes_in out rows) _ (λ _ _. tt) (λ notes _.
    some_holds Fits (Build out files choice (first_of (codes "from") rows) notes) (f, c)))))

pub elf_fits : (rows : List Row) → Holds Fits (elf_asked rows)
elf_fits rows =
    given_holds Any Fits (first_of (codes "OUT") rows) _ (λ _ _. tt) (λ out _.
    given_holds IsFull Fits (files_in rows) _ (files_hold rows) (λ files f.
    given_holds IsFitChoice Fits (choice_in rows) _ (choice_holds rows) (λ choice c.
    some_holds Fits (Elf out files choice) (f, c))))

pub exec_fits : (rows : List Row) → Holds Fits (exec_asked rows)
exec_fits rows =
    given_holds Any Fits (first_of (codes "IMAGE") rows) _ (λ _ _. tt) (λ image _.
    given_holds (λ n. n ≤ 1000000000000000) Fits (steps_in rows) _ (steps_hold rows) (λ steps s.
    some_holds Fits (Exec image steps) s))

pub traces_fits : (rows : List Row) → Holds Fits (traces_asked rows)
traces_fits rows =
    given_holds IsFull Fits (files_in rows) _ (files_hold rows) (λ files f.
    given_holds IsFitChoice Fits (traces_choice_in rows) _ (traces_choice_holds rows) (λ choice c.
    some_holds Fits (Traces files choice) (f, c)))

pub bulk_fits : (rows : List Row) → Holds Fits (bulk_asked rows)
bulk_fits rows =
    given_holds (λ n. n ≤ 9223372036854775807) Fits (seed_in rows) _ (seed_holds rows) (λ seed e.
    given_holds (Between 1 1000) Fits (size_in rows) _ (size_holds rows) (λ size z.
    given_holds IsFitChoice Fits (choice_in rows) _ (choice_holds rows) (λ choice c.
    given_holds (λ n. n ≤ 1000000000000000) Fits (steps_in rows) _ (steps_hold rows) (λ steps s.
    some_holds Fits (Bulk seed size choice steps) (e, z.0, z.1, c, s)))))

pub audit_fits : (rows : List Row) → Holds Fits (audit_asked rows)
audit_fits rows =
    given_holds Any Fits (first_of (codes "OUT") rows) _ (λ _ _. tt) (λ out _.
    given_holds Any Fits (first_of (codes "NOTES") rows) _ (λ _ _. tt) (λ notes _.
    given_holds IsFull Fits (files_in rows) _ (files_hold rows) (λ files f.
    given_holds Any Fits (traces_in rows) _ (λ _ _. tt) (λ builder _.
    given_holds (Between 4 16) Fits (regs_in rows) _ (regs_hold rows) (λ regs r.
    some_holds Fits (Audit out notes files builder regs) (f, r.0, r.1))))))

pub object_fits : (rows : List Row) → Holds Fits (object_asked rows)
object_fits rows =
    given_holds Any Fits (first_of (codes "OUT") rows) _ (λ _ _. tt) (λ out _.
    given_holds IsFull Fits (files_in rows) _ (files_hold rows) (λ files f.
    given_holds IsFitChoice Fits (choice_in rows) _ (choice_holds rows) (λ choice c.
    some_holds Fits (Object out files choice) (f, c))))

pub link_fits : (rows : List Row) → Holds Fits (link_asked rows)
link_fits rows =
    given_holds Any Fits (first_of (codes "OUT") rows) _ (λ _ _. tt) (λ out _.
    given_holds IsFull Fits (names_in (codes "OBJECT") rows) _ (names_hold (codes "OBJECT") rows) (λ objects o.
    some_holds Fits (Link out objects) o))

pub mean_fits : (rows : List Row) → Holds Fits (mean_asked rows)
mean_fits rows =
    given_holds IsFull Fits (files_in rows) _ (files_hold rows) (λ files f.
    given_holds (λ n. n ≤ 1000000000000000) Fits (turns_in rows) _ (turns_hold rows) (λ turns t.
    some_holds Fits (Mean files turns) (f, t)))

pub both_fits : (rows : List Row) → Holds Fits (both_asked rows)
both_fits rows =
    given_holds IsFull Fits (files_in rows) _ (files_hold rows) (λ files f.
    given_holds IsFitChoice Fits (choice_in rows) _ (choice_holds rows) (λ choice c.
    given_holds (λ n. n ≤ 1000000000000000) Fits (steps_in rows) _ (steps_hold rows) (λ steps s.
    given_holds (λ n. n ≤ 1000000000000000) Fits (turns_in rows) _ (turns_hold rows) (λ turns t.
    some_holds Fits (Both files choice steps turns) (f, c, s, t)))))

pub batch_fits : (rows : List Row) → Holds Fits (batch_asked rows)
batch_fits rows =
    given_holds Any Fits (first_of (codes "LIST") rows) _ (λ _ _. tt) (λ list _.
    given_holds IsFitChoice Fits (choice_in rows) _ (choice_holds rows) (λ choice c.
    given_holds (λ n. n ≤ 1000000000000000) Fits (steps_in rows) _ (steps_hold rows) (λ steps s.
    some_holds Fits (Batch list choice steps) (c, s))))

pub check_fits : (rows : List Row) → Holds Fits (check_asked rows)
check_fits rows =
    given_holds IsFull Fits (files_in rows) _ (files_hold rows) (λ files f.
    given_holds Any Fits (format_in rows) _ (λ _ _. tt) (λ format _.
    some_holds Fits (Check files format) f))

pub explain_fits : (rows : List Row) → Holds Fits (explain_asked rows)
explain_fits rows = given_holds Any Fits (topic_in rows) _ (λ _ _. tt) (λ topic _. some_holds Fits (Explain topic) tt)

pub compare_fits : (rows : List Row) → Holds Fits (compare_asked rows)
compare_fits rows =
    given_holds IsFull Fits (files_in rows) _ (files_hold rows) (λ files f.
    given_holds (Between 1 64) Fits (jobs_in rows) _ (jobs_hold rows) (λ jobs j.
    given_holds (λ n. n ≤ 1000000000000000) Fits (steps_in rows) _ (steps_hold rows) (λ steps s.
    some_holds Fits (Compare files jobs steps) (f, j.0, j.1, s))))

pub show_fits : (rows : List Row) → Holds Fits (show_asked rows)
show_fits rows =
    given_holds Any Fits (first_of (codes "OUT") rows) _ (λ _ _. tt) (λ out _.
    given_holds IsFull Fits (files_in rows) _ (files_hold rows) (λ files f.
    given_holds IsFitChoice Fits (shown_choice_in rows) _ (shown_choice_holds rows) (λ choice c.
    given_holds Any Fits (against_in rows) _ (λ _ _. tt) (λ against _.
    some_holds Fits (Show out files choice against) (f, c)))))

pub help_fits : (rows : List Row) → Holds Fits (help_asked rows)
help_fits rows = some_holds Fits Help tt
