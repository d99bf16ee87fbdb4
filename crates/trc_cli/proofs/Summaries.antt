-- What came of the run of a made module.
use Rattle.std.proofs.Common.{◌≡◌, ℕ, List, [], ◌++◌, Option, Some, refl, sym, ap, ◌∙◌}
use Rattle.outside.specs.Files.{Held}
use Rattle.outside.specs.Sink.{Account, TookAll}
use Rattle.run_laws.specs.Runs.{Outcome, Ended, Trapped, Going}
use Rattle.a64_machine.specs.State.{Trap, Broke, Undefined, BadAddress, BadCall}
use Rattle.image_form.specs.declared.image.ProcPlace.{ProcPlace}
use Rattle.memory_devices.specs.MemSink.{Taking, account_of}
use Rattle.object_commands.specs.words.program_image.declared.imaging.Compiled.{Compiled}
use Rattle.trc_answers.specs.declared.causes.Device.{Device}
use Rattle.trc_answers.specs.declared.causes.Device.TheVariants.{Output}
use Rattle.trc_answers.specs.declared.causes.Cause.{Cause}
use Rattle.trc_answers.specs.declared.causes.Cause.TheVariants.{Done, Spent, WriteFault, Memory}
use Rattle.trc_answers.specs.Runs.{cause_of_trap}
use Rattle.trc_answers.specs.Verdict.{Refuses, Prints}
use Rattle.trc_answers.specs.Answers.{devices, Answers, RunAnswers, Ran, RanIntoFault, HadNoRoom}
use Rattle.trc_answers.proofs.Answering.{lacks, refuses}
use Rattle.trc_cli.specs.Commands.{counts_of, summary_of, told_of_run}

not_done : (places : List ProcPlace) (trap : Trap) → Done ≡ cause_of_trap places trap → ⊥
not_done places (Broke kind word) e = cc
not_done places (Undefined word) e = cc
not_done places (BadAddress address) e = cc
not_done places (BadCall number) e = cc

not_spent : Done ≡ Spent → ⊥
not_spent e = cc

not_fault : Done ≡ WriteFault Output → ⊥
not_fault e = cc

not_lacking : Done ≡ Memory → ⊥
not_lacking e = cc

same_some : (xs ys : List ℕ) → Some xs ≡ Some ys → xs ≡ ys
same_some xs ys e = cc

-- what a sink has that had nothing
taken_of : (a b : Taking) (out : List ℕ) → a.taken ≡ [] → TookAll (account_of a) (account_of b) out → out ≡ b.taken
taken_of a b out none took = same_some out b.taken (ap (λ xs. Some (xs ++ out)) (sym none) ∙ sym took.took)

-- a run that ended is told with what it wrote
pub told_when_done : (made : Compiled) (outcome : Outcome Trap) (a b : Taking) → a.taken ≡ [] → RunAnswers made.image.places outcome (account_of a) (account_of b) Done
    → told_of_run made outcome ≡ Prints (summary_of (counts_of made) b.taken)
told_when_done made (Ended out) a b none (Ran e took) = ap (λ w. Prints (summary_of (counts_of made) w)) (taken_of a b out none took)
told_when_done made (Trapped trap out) a b none (Ran e took) = absurd (not_done made.image.places trap e)
told_when_done made (Going out) a b none (Ran e took) = absurd (not_spent e)
told_when_done made outcome a b none (RanIntoFault e took rose) = absurd (not_fault e)
told_when_done made outcome a b none (HadNoRoom e took) = absurd (not_lacking e)

-- of any other run there is the cause
pub stopped : (made : Compiled) (outcome : Outcome Trap) (a b : Account) (cause : Cause) → RunAnswers made.image.places outcome a b cause → (cause ≡ Done → ⊥) → ((device : Device) → cause ≡ WriteFault device → ⊥)
    → (held : Option Held) (m : ℕ) (left : Option (List ℕ)) (k : ℕ) (out : Account) → Answers (λ _ verdict. verdict ≡ told_of_run made outcome) (devices held m left k out) (devices held m left k out) cause
stopped made (Ended written) a b cause (Ran e took) not_ended no_fault held m left k out = absurd (not_ended e)
stopped made (Trapped trap written) a b cause (Ran e took) not_ended no_fault held m left k out = refuses _ held held m m left k out cause refl (ap Refuses e)
stopped made (Going written) a b cause (Ran e took) not_ended no_fault held m left k out = refuses _ held held m m left k out cause refl (ap Refuses e)
stopped made outcome a b cause (RanIntoFault e took rose) not_ended no_fault held m left k out = absurd (no_fault Output e)
stopped made outcome a b cause (HadNoRoom e took) not_ended no_fault held m left k out = lacks (λ _ verdict. verdict ≡ told_of_run made outcome) held held m m left k out cause e refl
