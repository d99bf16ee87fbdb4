-- What is read, and read again.
use Rattle.std.proofs.Common.{◌≡◌, ℕ, ◌≤◌, List, length, Result, Ok, Err, arith, All, Vec, length-append}
use Rattle.std.specs.Prelude.{IfOk, slice_index_or}
use Rattle.std.specs.Global.{Global}
use Rattle.lir_core.specs.declared.places.TraceOut.{TraceOut}
use Rattle.plain_form.specs.Spelling.{list, Any, KeepsList}
use Rattle.plain_form.specs.results.Spelling.{result}
use Rattle.plain_form.specs.results.Bounds.{TypedResult, IsNotable, FitsResult}
use Rattle.plain_form.specs.Reading.{list_at}
use Rattle.plain_form.specs.results.Reading.{result_at}
use Rattle.plain_form.specs.Formats.{IsBytes, IsFormat}
use Rattle.plain_form.proofs.Formats.{list_format}
use Rattle.plain_form.proofs.Whole.{whole_takes, whole_again}
use Rattle.plain_form.proofs.ResultFormats.{result_format}
use Rattle.plain_form.proofs.ResultBounds.{results_fit, fits_notable}
use Rattle.trace_notes.specs.declared.fault.NoteFault.{NoteFault}
use Rattle.trace_notes.specs.Notes.{mark, most_bytes, notes, AreNotes, notes_in, Tells}

results_format : (total : ℕ) → IsFormat (list result) (list_at (result_at total) total) AreNotes
results_format total = list_format result (result_at total) FitsResult (result_format total) total

pub notes_take : (bytes : List ℕ) (outs : List TraceOut) → IsBytes bytes → notes_in bytes ≡ Ok outs → AreNotes outs × (bytes ≡ notes outs)
notes_take bytes outs fits e = whole_takes mark (list result) (λ total. list_at (result_at total) total) AreNotes results_format bytes outs fits e

pub notes_again : (outs : List TraceOut) → AreNotes outs → notes_in (notes outs) ≡ Ok outs
notes_again outs fits = whole_again mark (list result) (λ total. list_at (result_at total) total) AreNotes results_format outs fits

pub is_found : (bytes : List ℕ) (r : Result (Vec TraceOut Global) NoteFault) → IsBytes bytes → Tells r (notes_in bytes) → IfOk r (λ outs. AreNotes outs.items × (bytes ≡ notes outs.items))
is_found bytes (Ok v) fits given = notes_take bytes v.items fits given
is_found bytes (Err e) fits given = tt

-- short notes are read again
pub short_fits : (outs : List TraceOut) → KeepsList Any TypedResult outs → All IsNotable outs → length (notes outs) ≤ most_bytes → AreNotes outs
short_fits outs typed given short = results_fit outs typed given (let e = length-append mark (list result outs) in omega (arith, short, e))

pub is_notable : (bytes : List ℕ) (r : Result (Vec TraceOut Global) NoteFault) → IsBytes bytes → Tells r (notes_in bytes) → IfOk r (λ outs. All IsNotable outs.items)
is_notable bytes (Ok v) fits given = let a = (notes_take bytes v.items fits given).0 in λ k d lt. fits_notable (slice_index_or v.items k d) (a.1 k d lt)
is_notable bytes (Err e) fits given = tt
