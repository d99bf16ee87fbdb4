-- A meaning and a run of its image that are over end alike.
use Rattle.std.proofs.Common.{◌≡◌, ◌+◌, ◌-◌, ◌*◌, ◌≤◌, ℕ, List, [], length, refl, sym, ap, ◌∙◌, subst, arith}
use Rattle.image_form.specs.declared.image.Image.{Image}
use Rattle.a64_memory.specs.Memory.{AreBytes}
use Rattle.a64_machine.specs.State as machine
use Rattle.a64_machine.specs.Machine.{start, step_of, system}
use Rattle.run_laws.specs.Runs.{Outcome, Ended, Trapped, Going, IsOver, Counterpart, InStep, output, run, turns_a_step}
use Rattle.run_laws.proofs.BoundedRuns.{run-longer_to}
use Rattle.ob_types.specs.Store as meant
use Rattle.ob_types.specs.Meaning.{meaning}
use Rattle.ob_types.specs.declared.program.Program.{Program}
use Rattle.linked_flows.specs.Allocations.{Cut}
use Rattle.placed_code.specs.Placed.{Placed}
use Rattle.trc_texts.specs.words.compiled_runs.Compiled.{Means, placed_of, same_break}
use Rattle.trc_texts.specs.words.alloc_choice.declared.choice.Choice.{Choice}
use Rattle.trc_texts.proofs.words.text_laws.no_faults.Never.{are_input}
use Rattle.trc_answers.specs.Runs.{run_of}
use Rattle.meaning_commands.specs.Programs.{IsImageOfProgram}
use Rattle.meaning_commands.specs.Comparisons.{kind_broken, kind_meant, run_summary, summary_lines}
use Rattle.meaning_commands.specs.Agreements.{Suffice, StepsForTurns, TurnsForSteps, TellTheSame}

-- traps that are the same have one kind
one_kind : (p : Program) (ps : List Placed) (image : Image) (trap : meant.Trap) (mine : machine.Trap) → same_break p ps image trap mine → kind_broken mine ≡ kind_meant trap
one_kind p ps image (meant.Kind kind f) (machine.Broke k word) h = sym h.0.0
one_kind p ps image (meant.Kind kind f) (machine.Undefined word) h = absurd h.0
one_kind p ps image (meant.Kind kind f) (machine.BadAddress address) h = absurd h.0
one_kind p ps image (meant.Kind kind f) (machine.BadCall number) h = absurd h.0
one_kind p ps image meant.Senseless mine h = absurd h

-- a run that is the counterpart of a meaning that is over is told as it is
alike : (p : Program) (ps : List Placed) (image : Image) (m : Outcome meant.Trap) (o : Outcome machine.Trap) → IsOver m → Counterpart (same_break p ps image) m o
    → run_summary kind_broken o ≡ run_summary kind_meant m
alike p ps image (Ended out) o over same = ap (run_summary kind_broken) same
alike p ps image (Trapped trap out) o over same =
    ap (run_summary kind_broken) same.2 ∙ ap (λ k. run_summary {T = ℕ} (λ n. n) (Trapped k out)) (one_kind p ps image trap same.0 same.1)
alike p ps image (Going out) o over same = absurd over

over_as : {T : Type 0} (a b : Outcome T) → a ≡ b → IsOver a → IsOver b
over_as a b e over = subst IsOver e over

module _ (stays : (p : Program) (input : List ℕ) (n d : ℕ) → IsOver (meaning p input n) → meaning p input (n + d) ≡ meaning p input n) where
  stays_to : (p : Program) (input : List ℕ) (n m : ℕ) → n ≤ m → IsOver (meaning p input n) → meaning p input m ≡ meaning p input n
  stays_to p input n m l over = let e : m ≡ n + (m - n) = omega (arith, l) in ap (meaning p input) e ∙ stays p input n (m - n) over

  module _ (p : Program) (cuts : List Cut) (image : Image) (steps turns : ℕ) (input : List ℕ) (means : Means p cuts image input) where
    abbrev same_end : Type 0
    same_end = run_summary kind_broken (run_of image input steps) ≡ run_summary kind_meant (meaning p input turns)

    -- by the turns
    forth : IsOver (meaning p input turns) → (turns + 1) * length image.code ≤ steps → same_end
    forth over enough =
        let n = (turns + 1) * length image.code in
        let same : Counterpart (same_break p (placed_of cuts) image) (meaning p input turns) (run_of image input n) = means.steps turns in
        let told = alike p (placed_of cuts) image (meaning p input turns) (run_of image input n) over same in
        ap (run_summary kind_broken) (run-longer_to (step_of image.code) n steps (start image input) [] enough (over_of (meaning p input turns) (run_of image input n) over same)) ∙ told
      where
        over_of : (m : Outcome meant.Trap) (o : Outcome machine.Trap) → IsOver m → Counterpart (same_break p (placed_of cuts) image) m o → IsOver o
        over_of (Ended out) o over same = subst IsOver (sym same) tt
        over_of (Trapped trap out) o over same = subst IsOver (sym same.2) tt
        over_of (Going out) o over same = absurd over

    -- by the steps
    back : (within : ℕ) → IsOver (run_of image input within) → within ≤ steps → turns_a_step * within + turns_a_step ≤ turns → same_end
    back within over l enough =
        let n = turns_a_step * within + turns_a_step in
        let h = means.turns within over in
        let told = alike p (placed_of cuts) image (meaning p input n) (run_of image input within) h.0 h.1 in
        ap (run_summary kind_broken) (run-longer_to (step_of image.code) within steps (start image input) [] l over)
        ∙ told ∙ ap (run_summary kind_meant) (sym (stays_to p input n turns enough h.0))

    told_same : same_end → TellTheSame p image steps turns input
    told_same e = record { summary = run_summary kind_meant (meaning p input turns); lines = ap (summary_lines (run_summary kind_meant (meaning p input turns))) e }

    agree : Suffice p image steps turns input → TellTheSame p image steps turns input
    agree (StepsForTurns over enough) = told_same (forth over enough)
    agree (TurnsForSteps within over l enough) = told_same (back within over l enough)

  pub both_agree : (choice : Choice) (p : Program) (image : Image) (steps turns : ℕ) (input : List ℕ)
      → IsImageOfProgram choice p image → AreBytes input → Suffice p image steps turns input → TellTheSame p image steps turns input
  both_agree choice p image steps turns input is are enough = agree p is.cuts image steps turns input (is.means input (are_input input are)) enough
