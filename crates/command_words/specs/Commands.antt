-- The commands, as `clap` reads them: the arguments that each one wants, and its options of one value.
use Rattle.std.specs.Prelude.{ℕ, List, Some, true, codes}
use Rattle.clap.specs.Lexer.{usize_max}
use Rattle.clap.specs.Words.{App, Rule, new_app, new_rule, with_rule}

-- an argument of one value that has to be there
abbrev pub argument_rule : List ℕ → Rule
argument_rule name = record (new_rule name) { required = true }

-- an argument of one value or more
abbrev pub names_rule : List ℕ → Rule
names_rule name =
    record (argument_rule name) {
      range = Some (record { start_inclusive = 1; end_inclusive = usize_max });
    }

-- an option of one value, by its long name
abbrev pub option_rule : List ℕ → Rule
option_rule name = record (new_rule name) { long = Some name }

unfoldable pub with_argument : App → List ℕ → App
with_argument app name = with_rule app (argument_rule name)

unfoldable pub with_names : App → List ℕ → App
with_names app name = with_rule app (names_rule name)

-- FILE {FILE}
abbrev pub with_files : App → App
with_files app = with_names app (codes "FILE")

unfoldable pub with_option : App → List ℕ → App
with_option app name = with_rule app (option_rule name)

-- [--policy NAME] [--traces NAME]
abbrev pub with_traces : App → App
with_traces app = with_option (with_option app (codes "policy")) (codes "traces")

-- [--policy NAME] [--traces NAME] [--regs N] [--jobs N]
abbrev pub with_choice : App → App
with_choice app = with_option (with_option (with_traces app) (codes "regs")) (codes "jobs")

-- [--policy NAME] [--traces NAME] [--regs N] [--jobs N] [--steps N]
abbrev pub with_run : App → App
with_run app = with_option (with_choice app) (codes "steps")

-- run FILE {FILE} [--policy NAME] [--traces NAME] [--regs N] [--jobs N] [--steps N]
abbrev pub run_command : App
run_command = with_run (with_files (new_app (codes "run")))

-- build OUT FILE {FILE} [--policy NAME] [--traces NAME] [--regs N] [--jobs N] [--from IMAGE] [--notes NAME]
abbrev pub build_command : App
build_command =
    with_option (with_option (with_choice (with_files (with_argument (new_app (codes "build")) (codes "OUT")))) (codes "from")) (codes "notes")

-- elf OUT FILE {FILE} [--policy NAME] [--traces NAME] [--regs N] [--jobs N]
abbrev pub elf_command : App
elf_command = with_choice (with_files (with_argument (new_app (codes "elf")) (codes "OUT")))

-- exec IMAGE [--steps N]
abbrev pub exec_command : App
exec_command = with_option (with_argument (new_app (codes "exec")) (codes "IMAGE")) (codes "steps")

-- traces FILE {FILE} [--policy NAME] [--traces NAME]
abbrev pub traces_command : App
traces_command = with_traces (with_files (new_app (codes "traces")))

-- bulk SEED SIZE [--policy NAME] [--traces NAME] [--regs N] [--jobs N] [--steps N]
abbrev pub bulk_command : App
bulk_command =
    with_run (with_argument (with_argument (new_app (codes "bulk")) (codes "SEED")) (codes "SIZE"))

-- audit OUT NOTES FILE {FILE} [--traces NAME] [--regs N]
abbrev pub audit_command : App
audit_command =
    with_option (with_option (with_files (with_argument (with_argument (new_app (codes "audit")) (codes "OUT")) (codes "NOTES"))) (codes "traces")) (codes "regs")

-- object OUT FILE {FILE} [--policy NAME] [--traces NAME] [--regs N] [--jobs N]
abbrev pub object_command : App
object_command = with_choice (with_files (with_argument (new_app (codes "object")) (codes "OUT")))

-- link OUT OBJECT {OBJECT}
abbrev pub link_command : App
link_command = with_names (with_argument (new_app (codes "link")) (codes "OUT")) (codes "OBJECT")

-- mean FILE {FILE} [--turns N]
abbrev pub mean_command : App
mean_command = with_option (with_files (new_app (codes "mean"))) (codes "turns")

-- both FILE {FILE} [--policy NAME] [--traces NAME] [--regs N] [--jobs N] [--steps N] [--turns N]
abbrev pub both_command : App
both_command = with_option (with_run (with_files (new_app (codes "both")))) (codes "turns")

-- batch LIST [--policy NAME] [--traces NAME] [--regs N] [--jobs N] [--steps N]
abbrev pub batch_command : App
batch_command = with_run (with_argument (new_app (codes "batch")) (codes "LIST"))

-- check FILE {FILE} [--format NAME]
abbrev pub check_command : App
check_command = with_option (with_files (new_app (codes "check"))) (codes "format")

-- explain [TOPIC]
abbrev pub explain_command : App
explain_command = with_rule (new_app (codes "explain")) (new_rule (codes "TOPIC"))

-- compare FILE {FILE} [--jobs N] [--steps N]
abbrev pub compare_command : App
compare_command = with_option (with_option (with_files (new_app (codes "compare"))) (codes "jobs")) (codes "steps")

-- show OUT FILE {FILE} [--policy NAME] [--traces NAME] [--regs N] [--against NAME]
abbrev pub show_command : App
show_command =
    with_option (with_option (with_traces (with_files (with_argument (new_app (codes "show")) (codes "OUT")))) (codes "regs")) (codes "against")

-- help
abbrev pub help_command : App
help_command = new_app (codes "help")
