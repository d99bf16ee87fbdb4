-- Notes are read as one list of results; and plans are refused as traces are.
use Rattle.std.proofs.Common.{◌≡◌, ℕ, List, Ok, refl, sym, ap, ◌∙◌}
use Rattle.std.specs.Prelude.{Result}
use Rattle.lir_core.specs.declared.places.TraceOut.{TraceOut}
use Rattle.trace_build.specs.declared.builder.Builder.{Builder}
use Rattle.noted_image.specs.words.alloc_choice.declared.choice.Choice.{Choice}
use Rattle.noted_image.specs.words.alloc_choice.declared.choice.Policy.TheVariants.{Linear}
use Rattle.noted_image.specs.words.source_image.Refusals.{IsRefusalOf, IsRefusalOfTraces}
use Rattle.noted_image.specs.words.source_image.declared.refusal.Refusal.{Refusal}
use Rattle.noted_image.specs.words.source_image.declared.refusal.Refusal.TheVariants.{TooLong, Source, Limit, Memory}
use Rattle.noted_image.specs.planned_image.Plans.{TellsOfPlan}
use Rattle.plain_form.specs.Reading.{Broken}
use Rattle.trace_notes.specs.Notes.{AreNotes, notes, notes_in}
use Rattle.trace_notes.proofs.Notes.{notes_again}

one_ok : (read : Result (List TraceOut) Broken) (xs ys : List TraceOut) → read ≡ Ok xs → read ≡ Ok ys → xs ≡ ys
one_ok read xs ys e f = cc

pub one_reading : (bytes : List ℕ) (outs others : List TraceOut) → AreNotes outs → AreNotes others → bytes ≡ notes outs → bytes ≡ notes others → outs ≡ others
one_reading bytes outs others a b x y = one_ok (notes_in (notes outs)) outs others (notes_again outs a) (ap notes_in (sym x ∙ y) ∙ notes_again others b)

-- some choice with the builder
abbrev pub plainly : Builder → Choice
plainly builder = record { policy = Linear; builder = builder; regs = 16; jobs = 1 }

pub as_traces : (builder : Builder) (texts : List (List ℕ)) (r : Refusal) → IsRefusalOf (TellsOfPlan builder) texts r → IsRefusalOfTraces (plainly builder) texts r
as_traces builder texts (TooLong n) h = h
as_traces builder texts (Source n number at) h = h
as_traces builder texts (Limit number index) h = record { program = h.program; of_texts = h.of_texts; well_formed = h.well_formed; tells = h.tells (plainly builder) refl }
as_traces builder texts Memory h = tt
