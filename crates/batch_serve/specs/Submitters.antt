-- What is known of a submitter.
use Rattle.std.specs.Prelude.{◌≡◌, ℕ}
use Rattle.batch_serve.specs.Puts.{HasPut}
use Rattle.batch_serve.specs.declared.desk.Desk.{Desk}
use Rattle.batch_serve.specs.declared.submitting.Holder.{Holder}
use Rattle.batch_serve.specs.declared.submitting.Holder.TheVariants.{Thread, Caller}
use Rattle.batch_serve.specs.declared.submitting.Submitter.{Submitter}

-- the holder has the sender of this number, or its thread promises it
abbrev pub HasSender : Desk → ℕ → ℕ → Holder → Type 0
HasSender desk number jobs (Thread handle) = (handle.promise.desk.value ≡ desk) × (handle.promise.number ≡ number) × (handle.promise.jobs ≡ jobs)
HasSender desk number jobs (Caller sender) = HasPut desk sender number jobs

abbrev pub number_of_submitter : Submitter → ℕ
number_of_submitter s = s.number

-- how many jobs it has
abbrev pub jobs_of_submitter : Submitter → ℕ
jobs_of_submitter s = s.jobs

-- the submitter is one of this desk
abbrev pub IsSubmitterOf : Desk → Submitter → Type 0
IsSubmitterOf desk s = HasSender desk s.number s.jobs s.holder
