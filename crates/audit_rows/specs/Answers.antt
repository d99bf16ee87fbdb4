-- What the audit says of results, and what is read in notes.
use Rattle.std.specs.Prelude.{ℕ, List, ◌++◌, map, Bool, get_or, [], Result, Ok, Err}
use Rattle.std.specs.List.{flat_map}
use Rattle.block_runs.specs.Live.{has}
use Rattle.lir_core.specs.declared.flow.Flow.{Flow}
use Rattle.lir_core.specs.declared.flow.Trace.{Trace}
use Rattle.lir_core.specs.declared.places.TraceOut.{TraceOut}
use Rattle.plain_form.specs.Spelling.{number}
use Rattle.trace_notes.specs.Notes.{mark, notes_in, numbered}
use Rattle.alloc_audit.specs.declared.verdict.Verdict.{Verdict}
use Rattle.alloc_audit.specs.Verdicts.{verdict_of}

-- flows, what is live into each node of each, and their traces
pub record Planned : Type 0 where
  pub flows : List Flow
  pub live : List (List (List ℕ))
  pub cuts : List (List Trace)

abbrev pub lives_in : List (List ℕ) → ℕ → ℕ → Bool
lives_in live n v = has (get_or live n []) v

-- the verdict with so many registers
abbrev pub verdict : ℕ → Planned → List TraceOut → Verdict
verdict k p outs = verdict_of k p.flows (map lives_in p.live) p.cuts outs

-- numbers behind the mark, as bytes
abbrev pub bytes_of : List ℕ → List ℕ
bytes_of words = mark ++ flat_map number words

-- the results in bytes, or the number of the first rule that is broken and its place
abbrev pub read : List ℕ → Result (List TraceOut) (ℕ × ℕ)
read bytes = numbered (notes_in bytes)
