-- What is given of the input, and what a command answers where nothing is.
use Rattle.std.proofs.Common.{◌≡◌, ◌<◌, ◌≤◌, ◌+◌, ℕ, List, [], length, Bool, true, false, Option, None, ◌⊎◌, inl, inr, refl, sym, ap, ◌∙◌, subst, arith}
use Rattle.outside.specs.Files.{Held}
use Rattle.outside.specs.Source.{Gave, GaveSome, IsAtEnd}
use Rattle.outside.specs.Sink.{Account}
use Rattle.outside.specs.Counts.{Rose}
use Rattle.outside.proofs.Taking.{all_none}
use Rattle.a64_memory.specs.Memory.{AreBytes}
use Rattle.trc_answers.specs.Verdict.{Verdict, Refuses, reads_input}
use Rattle.trc_answers.specs.Answers.{devices, Answers, AsItComes, FailsReadingInput, LacksMemory, InputStays, ReadsInput}
use Rattle.trc_answers.specs.declared.causes.Device.TheVariants.{Input}
use Rattle.trc_answers.specs.declared.causes.Cause.{Cause}
use Rattle.trc_answers.specs.declared.causes.Cause.TheVariants.{InputTooLong, ReadFault}
use Rattle.trc_answers.specs.declared.causes.Cause.TheVariants as cause
use Rattle.trc_answers.proofs.Answering.{long_input, nothing, whole_input}
use Rattle.meaning_commands.specs.Inputs.{most_input, InputComesTo, WantsNone, HasInput, HasTooMuch, InputTold, input_told, IsGiven, WasLeftAlone, WasRead, IsNotGiven, WasTooLong, Failed}
use Rattle.meaning_commands.specs.Inputs as input

---- An input that is read

pub read_whole : (wanted : Bool) (left left' : Option (List ℕ)) (k k' : ℕ) (bytes : List ℕ) → wanted ≡ true → Gave left bytes left' → IsAtEnd left' → AreBytes bytes → length bytes ≤ 1048576
    → IsGiven wanted (input_told left k) (input_told left' k') bytes
read_whole wanted left left' k k' bytes w gave end are few = WasRead w (whole_input left left' bytes gave end) are few

pub left_alone : (wanted : Bool) (left : Option (List ℕ)) (k : ℕ) (bytes : List ℕ) → wanted ≡ false → bytes ≡ [] → IsGiven wanted (input_told left k) (input_told left k) bytes
left_alone wanted left k bytes w none = WasLeftAlone w none refl

pub read_too_much : (wanted : Bool) (left left' : Option (List ℕ)) (k k' : ℕ) → wanted ≡ true → GaveSome left left' (λ n. n ≡ 1048576 + 1)
    → IsNotGiven wanted (input_told left k) (input_told left' k') InputTooLong
read_too_much wanted left left' k k' w gave = let long = long_input left left' 1048576 gave in WasTooLong long.0 w long.1 long.2 refl

---- What it is for a command

no_bytes : AreBytes []
no_bytes i = omega arith

not_both : (b : Bool) → b ≡ true → b ≡ false → ⊥
not_both true w e = cc
not_both false w e = cc

-- on each input the command comes to one verdict, which reads the input where it is wanted
module _ (wanted : Bool) (verdict : List ℕ → Verdict) (reads : (bytes : List ℕ) → reads_input (verdict bytes) ≡ wanted) where
  abbrev pub Comes : Option (List ℕ) → Verdict → Type 0
  Comes left = InputComesTo left wanted (λ bytes v. v ≡ verdict bytes)

  pub reads_it : wanted ≡ true → ReadsInput Comes
  reads_it w = record { verdict = verdict []; comes = HasInput [] w tt no_bytes (omega arith) refl; reads = reads [] ∙ w }

  module _ (left left' : Option (List ℕ)) (k k' : ℕ) where
    pub comes_so : (bytes : List ℕ) → IsGiven wanted (input_told left k) (input_told left' k') bytes → Comes left (verdict bytes)
    comes_so bytes (WasLeftAlone w none same) = WantsNone w (ap verdict none)
    comes_so bytes (WasRead w is are few) = HasInput bytes w is are few refl

    pub stays_so : (held : Option Held) (m : ℕ) (a b : Account) (bytes : List ℕ) → IsGiven wanted (input_told left k) (input_told left' k') bytes → reads_input (verdict bytes) ≡ false
        → InputStays (devices held m left k a) (devices held m left' k' b)
    stays_so held m a b bytes (WasLeftAlone w none same) e = record { left = ap (λ (t : InputTold). t.left) same; faults = ap (λ (t : InputTold). t.faults) same }
    stays_so held m a b bytes (WasRead w is are few) e = absurd (not_both wanted w (sym (reads bytes) ∙ e))

    pub stays_or_reads : (held : Option Held) (m : ℕ) (a b : Account) (bytes : List ℕ) → IsGiven wanted (input_told left k) (input_told left' k') bytes
        → InputStays (devices held m left k a) (devices held m left' k' b) ⊎ ReadsInput Comes
    stays_or_reads held m a b bytes (WasLeftAlone w none same) = inl (record { left = ap (λ (t : InputTold). t.left) same; faults = ap (λ (t : InputTold). t.faults) same })
    stays_or_reads held m a b bytes (WasRead w is are few) = inr (reads_it w)

    -- the input wasn't given
    pub not_given : (ended : Cause) → IsNotGiven wanted (input_told left k) (input_told left' k') ended → (held : Option Held) (m : ℕ) (out : Account)
        → Answers Comes (devices held m left k out) (devices held m left' k' out) ended
    not_given ended (WasTooLong bytes w is many e) held m out =
        AsItComes (Refuses InputTooLong) (HasTooMuch bytes w is many refl) e (record { written = all_none out; files = refl; input = λ x. absurd (not_both true refl x) })
    not_given ended (Failed w rose e) held m out = FailsReadingInput (reads_it w) e rose (record { output = nothing out; files = refl })
    not_given ended (input.LacksMemory w e) held m out = LacksMemory e (record { output = nothing out; files = refl }) (inr (reads_it w))
