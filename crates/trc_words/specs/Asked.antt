-- What words ask for.
use Rattle.std.specs.Prelude.{ℕ, List, [], ◌∷◌, Option, None, codes, if◌then◌else◌}
use Rattle.std.specs.Str.{bytes_eq}
use Rattle.clap.specs.Words.{App, Row, fault_of, matches_of}
use Rattle.command_words.specs.Commands.{run_command, build_command, elf_command, exec_command, traces_command, bulk_command, audit_command, object_command, link_command, mean_command, both_command, batch_command, check_command, explain_command, compare_command, show_command, help_command}
use Rattle.command_words.specs.Taking.{is_none}
use Rattle.word_requests.specs.Asked.{Asked, run_asked, build_asked, elf_asked, exec_asked, traces_asked, bulk_asked, audit_asked, object_asked, link_asked, mean_asked, both_asked, batch_asked, check_asked, explain_asked, compare_asked, show_asked, help_asked}

-- where a command takes the words, what its matches lead to
unfoldable pub taken : App → List (List ℕ) → (List Row → Option Asked) → Option Asked
taken app words f = if is_none (fault_of app words) then f (matches_of app words) else None

-- what the words of a command ask for; the command is the first of them
abbrev pub asked_of : List ℕ → List (List ℕ) → Option Asked
asked_of command words =
    if bytes_eq command (codes "run") then taken run_command words run_asked
    else (if bytes_eq command (codes "build") then taken build_command words build_asked
    else (if bytes_eq command (codes "elf") then taken elf_command words elf_asked
    else (if bytes_eq command (codes "exec") then taken exec_command words exec_asked
    else (if bytes_eq command (codes "traces") then taken traces_command words traces_asked
    else (if bytes_eq command (codes "bulk") then taken bulk_command words bulk_asked
    else (if bytes_eq command (codes "audit") then taken audit_command words audit_asked
    else (if bytes_eq command (codes "object") then taken object_command words object_asked
    else (if bytes_eq command (codes "link") then taken link_command words link_asked
    else (if bytes_eq command (codes "mean") then taken mean_command words mean_asked
    else (if bytes_eq command (codes "both") then taken both_command words both_asked
    else (if bytes_eq command (codes "batch") then taken batch_command words batch_asked
    else (if bytes_eq command (codes "check") then taken check_command words check_asked
    else (if bytes_eq command (codes "explain") then taken explain_command words explain_asked
    else (if bytes_eq command (codes "compare") then taken compare_command words compare_asked
    else (if bytes_eq command (codes "show") then taken show_command words show_asked
    else (if bytes_eq command (codes "help") then taken help_command words help_asked
    else None))))))))))))))))

-- what words ask for, or nothing where they are refused
abbrev pub asked : List (List ℕ) → Option Asked
asked [] = None
asked (command ∷ rest) = asked_of command (command ∷ rest)
