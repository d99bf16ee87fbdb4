-- All that words can ask for fits.
use Rattle.std.proofs.Common.{ℕ, List, Option, None, Result, Ok, Err, IfOk, codes}
use Rattle.std.specs.Str.{bytes_eq}
use Rattle.clap.specs.Words.{App, Row, fault_of, matches_of}
use Rattle.command_words.specs.Commands.{run_command, build_command, elf_command, exec_command, traces_command, bulk_command, audit_command, object_command, link_command, mean_command, both_command, batch_command, check_command, explain_command, compare_command, show_command, help_command}
use Rattle.command_words.specs.Taking.{is_none}
use Rattle.command_words.specs.declared.fault.WordsFault.{WordsFault}
use Rattle.option_values.proofs.Fitting.{Holds, cond_holds, none_holds}
use Rattle.word_requests.specs.Asked.{Asked, run_asked, build_asked, elf_asked, exec_asked, traces_asked, bulk_asked, audit_asked, object_asked, link_asked, mean_asked, both_asked, batch_asked, check_asked, explain_asked, compare_asked, show_asked, help_asked}
use Rattle.word_requests.specs.Fitting.{Fits}
use Rattle.word_requests.specs.Requests.{Asks, plain}
use Rattle.word_requests.specs.declared.request.Request.{Request}
use Rattle.word_requests.proofs.Fitting.{run_fits, build_fits, elf_fits, exec_fits, traces_fits, bulk_fits, audit_fits, object_fits, link_fits, mean_fits, both_fits, batch_fits, check_fits, explain_fits, compare_fits, show_fits, help_fits}
use Rattle.trc_words.specs.Asked.{asked_of, taken}

taken_fits : (app : App) (words : List (List ℕ)) (f : List Row → Option Asked) → ((rows : List Row) → Holds Fits (f rows)) → Holds Fits (taken app words f)
unfolding taken
taken_fits app words f h = cond_holds Fits (is_none (fault_of app words)) (f (matches_of app words)) None (h (matches_of app words)) (none_holds Fits)

asked_of_fits : (command : List ℕ) (words : List (List ℕ)) → Holds Fits (asked_of command words)
asked_of_fits command words =
    cond_holds Fits (bytes_eq command (codes "run")) _ _ (taken_fits run_command words run_asked run_fits)
    (cond_holds Fits (bytes_eq command (codes "build")) _ _ (taken_fits build_command words build_asked build_fits)
    (cond_holds Fits (bytes_eq command (codes "elf")) _ _ (taken_fits elf_command words elf_asked elf_fits)
    (cond_holds Fits (bytes_eq command (codes "exec")) _ _ (taken_fits exec_command words exec_asked exec_fits)
    (cond_holds Fits (bytes_eq command (codes "traces")) _ _ (taken_fits traces_command words traces_asked traces_fits)
    (cond_holds Fits (bytes_eq command (codes "bulk")) _ _ (taken_fits bulk_command words bulk_asked bulk_fits)
    (cond_holds Fits (bytes_eq command (codes "audit")) _ _ (taken_fits audit_command words audit_asked audit_fits)
    (cond_holds Fits (bytes_eq command (codes "object")) _ _ (taken_fits object_command words object_asked object_fits)
    (cond_holds Fits (bytes_eq command (codes "link")) _ _ (taken_fits link_command words link_asked link_fits)
    (cond_holds Fits (bytes_eq command (codes "mean")) _ _ (taken_fits mean_command words mean_asked mean_fits)
    (cond_holds Fits (bytes_eq command (codes "both")) _ _ (taken_fits both_command words both_asked both_fits)
    (cond_holds Fits (bytes_eq command (codes "batch")) _ _ (taken_fits batch_command words batch_asked batch_fits)
    (cond_holds Fits (bytes_eq command (codes "check")) _ _ (taken_fits check_command words check_asked check_fits)
    (cond_holds Fits (bytes_eq command (codes "explain")) _ _ (taken_fits explain_command words explain_asked explain_fits)
    (cond_holds Fits (bytes_eq command (codes "compare")) _ _ (taken_fits compare_command words compare_asked compare_fits)
    (cond_holds Fits (bytes_eq command (codes "show")) _ _ (taken_fits show_command words show_asked show_fits)
    (cond_holds Fits (bytes_eq command (codes "help")) _ _ (taken_fits help_command words help_asked help_fits)
    (none_holds Fits)))))))))))))))))

-- a request that words ask for fits
pub fits_of : (command : List ℕ) (words : List (List ℕ)) (r : Result Request WordsFault) → Asks (asked_of command words) r → IfOk r (λ request. Fits (plain request))
fits_of command words (Ok request) e = asked_of_fits command words (plain request) e
fits_of command words (Err fault) e = tt
