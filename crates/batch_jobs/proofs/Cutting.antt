-- What a front of an output tells of the whole.
use Rattle.std.proofs.Common.{◌≡◌, ◌<◌, ◌≤◌, ℕ, List, [], ◌++◌, length, take, min, true, false, Bool, cond, Some, refl, sym, ap, ◌∙◌, arith, length-append}
use Rattle.std.specs.Prelude.{nat_le, Result, Ok, Err, IfOk}
use Rattle.std.proofs.lemmas.List.{take-append-le, take_all}
use Rattle.std.proofs.lemmas.Bool.{leb-true, le-leb}
use Rattle.run_laws.specs.Runs.{Outcome, output}
use Rattle.outside.specs.Sink.{TookAll}
use Rattle.a64_machine.specs.State.{Trap}
use Rattle.image_form.specs.declared.image.ProcPlace.{ProcPlace}
use Rattle.memory_devices.specs.MemSink.{Taking, account_of}
use Rattle.trc_answers.specs.Causes.{status_of}
use Rattle.trc_answers.specs.Runs.{cause_of_run}
use Rattle.trc_answers.specs.Answers.{RunAnswers, Ran, RanIntoFault, HadNoRoom}
use Rattle.trc_answers.specs.declared.causes.Cause.{Cause}
use Rattle.trc_answers.specs.declared.causes.Cause.TheVariants.{Memory}
use Rattle.batch_jobs.specs.Jobs.{cut_reply, replied}

same_some : (xs ys : List ℕ) → Some xs ≡ Some ys → xs ≡ ys
same_some xs ys e = cc

-- what a sink has that had nothing
taken_is : (a b : Taking) (out : List ℕ) → a.taken ≡ [] → TookAll (account_of a) (account_of b) out → b.taken ≡ out
taken_is a b out none took = same_some b.taken out (took.took ∙ ap (λ xs. Some (xs ++ out)) none)

-- more than a reply has is cut
pub cut_long : (status : ℕ) (written : List ℕ) → 65536 < length written → cut_reply status written ≡ replied 3 (take 65536 written)
cut_long status written long = by_test (nat_le (length written) 65536) (λ e. let few = leb-true (length written) 65536 e in omega arith) where
  by_test : (b : Bool) → (b ≡ true → ⊥) → cond b (replied status written) (replied 3 (take 65536 written)) ≡ replied 3 (take 65536 written)
  by_test true never = absurd (never refl)
  by_test false never = refl

cut_short : (status : ℕ) (written : List ℕ) → length written ≤ 65536 → cut_reply status written ≡ replied status written
cut_short status written few = by_test (nat_le (length written) 65536) (λ e. let is : nat_le (length written) 65536 ≡ true = le-leb (length written) 65536 few in cc) where
  by_test : (b : Bool) → (b ≡ false → ⊥) → cond b (replied status written) (replied 3 (take 65536 written)) ≡ replied status written
  by_test true never = refl
  by_test false never = absurd (never refl)

-- a front that is shorter than what was written
pub front_of_more : (status kept : ℕ) (written front : List ℕ) → kept ≡ min (length written) 65536 → front ≡ take kept written → kept < length written → replied 3 front ≡ cut_reply status written
front_of_more status kept written front is cut less =
    let most : kept ≡ 65536 = omega arith in
    ap (replied 3) (cut ∙ ap (λ n. take n written) most) ∙ sym (cut_long status written (omega arith))

-- a front that is all that was written
pub front_of_all : (status kept : ℕ) (written front : List ℕ) → kept ≡ min (length written) 65536 → front ≡ take kept written → length written ≤ kept → replied status front ≡ cut_reply status written
front_of_all status kept written front is cut all = ap (replied status) (cut ∙ take_all kept written all) ∙ sym (cut_short status written (omega arith))

-- what holds of a value holds of the answer that has it
pub ok_as : {X Y : Type 0} (r : Result X Y) (P Q : X → Type 0) → ((x : X) → P x → Q x) → IfOk r P → IfOk r Q
ok_as (Ok x) P Q f h = f x h
ok_as (Err y) P Q f h = tt

-- a reply by what a sink took of a run is the reply by the whole
pub cut_same : (places : List ProcPlace) (outcome : Outcome Trap) (a b : Taking) (cause : Cause) → a.taken ≡ [] → (0 < b.calls.faults → length b.taken ≡ 65537) → (cause ≡ Memory → ⊥) → RunAnswers places outcome (account_of a) (account_of b) cause
    → cut_reply (status_of cause) b.taken ≡ cut_reply (status_of (cause_of_run places outcome)) (output outcome)
cut_same places outcome a b cause none full room (Ran is took) = λ i. cut_reply (status_of (is i)) (taken_is a b (output outcome) none took i)
cut_same places outcome a b cause none full room (RanIntoFault is front rose) =
    let front_is : b.taken ≡ front.front = taken_is a b front.front none front.took in
    let many : length b.taken ≡ 65537 = full (omega (arith, rose)) in
    let many_front : length front.front ≡ 65537 = sym (ap length front_is) ∙ many in
    let long : 65536 < length (output outcome) = omega (arith, ap length front.parts, length-append front.front front.rest, many_front) in
    cut_long (status_of cause) b.taken (omega arith)
    ∙ (ap (λ w. replied 3 (take 65536 w)) front_is
    ∙ (ap (λ w. replied 3 w) (sym (take-append-le 65536 front.front front.rest (omega arith)) ∙ ap (take 65536) (sym front.parts))
    ∙ sym (cut_long (status_of (cause_of_run places outcome)) (output outcome) long)))
cut_same places outcome a b cause none full room (HadNoRoom is took) = absurd (room is)
