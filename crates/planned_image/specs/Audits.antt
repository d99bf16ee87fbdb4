-- Which image a program has from results that come from elsewhere.
use Rattle.std.specs.Prelude.{◌≡◌, ℕ, ◌<◌, ◌^◌, List, Bool, map}
use Rattle.image_form.specs.declared.image.Image.{Image}
use Rattle.ob_types.specs.declared.program.Program.{Program}
use Rattle.lir_core.specs.declared.flow.Trace.{Trace}
use Rattle.lir_core.specs.declared.places.TraceOut.{TraceOut}
use Rattle.trace_build.specs.declared.builder.Builder.{Builder}
use Rattle.image_words.specs.link_plan.Linked.{linked}
use Rattle.alloc_audit.specs.declared.verdict.Verdict.{Verdict}
use Rattle.alloc_audit.specs.declared.verdict.Verdict.TheVariants as verdict
use Rattle.alloc_audit.specs.Verdicts.{verdict_of}
use Rattle.alloc_audit.specs.Results.{AreWalked}
use Rattle.image_words.specs.back_end.Images.{code_length}
use Rattle.image_words.specs.compiled_runs.Compiled.{flows_of, data_of}
use Rattle.image_words.specs.program_image.Images.{DoesAsMeant}
use Rattle.placed_image.specs.Cutting.{AreCutBy}
use Rattle.placed_image.specs.Shares.{cuts_of}
use Rattle.planned_image.specs.declared.planning.ProgramPlan.{ProgramPlan}
use Rattle.planned_image.specs.declared.fault.AuditFault.{AuditFault}
use Rattle.planned_image.specs.declared.fault.AuditFault.TheVariants.{Unsound, Code, Memory}

-- the flows of a program's lowered procedures in the traces of a builder, each with its own of these results, all of which the walk by
-- names accepts over k registers, linked with the program's data; the machine that runs the image is in step with what the program means
pub record IsImageOfResults (builder : Builder) (k : ℕ) (p : Program) (outs : List TraceOut) (image : Image) : Type 0 where
  pub cuts : List (List Trace)
  pub cut : AreCutBy builder (flows_of p) cuts
  pub walked : AreWalked k 0 (flows_of p) cuts outs
  pub is : image ≡ linked (cuts_of (flows_of p) cuts outs) (data_of p)
  pub means : DoesAsMeant p (cuts_of (flows_of p) cuts outs) image

-- the verdict over results for a plan's traces, where `lives` says which values are live into each node of its flows
abbrev pub verdict_on : ℕ → ProgramPlan → List (ℕ → ℕ → Bool) → List TraceOut → Verdict
verdict_on k plan lives outs = verdict_of k plan.flows.items lives (map (λ v. v.items) plan.cuts.items) outs

-- a fault before anything is linked tells the first failure
abbrev pub RefusesBy : Verdict → AuditFault → Type 0
RefusesBy v (Unsound trace node line) = v ≡ verdict.Unsound trace node line
RefusesBy v Code = ⊥
RefusesBy v Memory = Unit {0}

-- a fault tells the first failure, or that there is none and the code is too long; want of memory tells nothing
abbrev pub TellsOfAudit : ℕ → ProgramPlan → List (ℕ → ℕ → Bool) → List TraceOut → AuditFault → Type 0
TellsOfAudit k plan lives outs (Unsound trace node line) = verdict_on k plan lives outs ≡ verdict.Unsound trace node line
TellsOfAudit k plan lives outs Code = (verdict_on k plan lives outs ≡ verdict.Sound) × (2 ^ 18 < code_length (cuts_of plan.flows.items (map (λ v. v.items) plan.cuts.items) outs))
TellsOfAudit k plan lives outs Memory = Unit {0}
