-- What is final, and what a hint, of a trace by its number through all flows.
use Rattle.std.specs.Prelude.{◌≡◌, ℕ, ◌+◌, List, [], ◌∷◌, map, length, Option, Some, None, slice_get}
use Rattle.linear_scan.specs.Linear.{Hint}
use Rattle.lir_core.specs.declared.flow.Flow.{Flow}
use Rattle.lir_core.specs.declared.places.TraceOut.{TraceOut}
use Rattle.alloc_choice.specs.declared.choice.Choice.{Choice}
use Rattle.trace_work.specs.declared.planning.TracePlan.{TracePlan}
use Rattle.trace_work.specs.declared.work.Entry.{Entry}
use Rattle.trace_work.specs.declared.work.TraceHint.{TraceHint}
use Rattle.trace_work.specs.Plans.{IsPlan, IsFinal, IsHint}

abbrev pub flows_in : List TracePlan → List Flow
flows_in plans = map (λ (p : TracePlan). p.flow.now) plans

-- the first trace of each has the place behind those before it
abbrev pub AreNumbered : ℕ → List TracePlan → Type 0
AreNumbered n [] = Unit {0}
AreNumbered n (p ∷ ps) = (p.first ≡ n) × AreNumbered (n + length p.traces) ps

-- the number of each one's first trace is its place behind so many
abbrev pub AreBehind : ℕ → List TracePlan → Type 0
AreBehind before plans = (i : ℕ) (p : TracePlan) → slice_get plans i ≡ Some p → p.number ≡ before + p.first

-- of the plan that has the trace, and the trace's number there
abbrev pub OfTrace : List TracePlan → List Entry → ℕ → (TracePlan → ℕ → Type 0) → Type 0
OfTrace plans entries trace holds = (e : Entry) (p : TracePlan) → slice_get entries trace ≡ Some e → slice_get plans e.flow ≡ Some p → holds p e.number

-- a hint without memory
abbrev pub plain_hint : Option TraceHint → Option Hint
plain_hint None = None
plain_hint (Some h) = Some (record { node = h.node; places = h.places })

abbrev pub joined : Option (Option TraceHint) → Option TraceHint
joined None = None
joined (Some hint) = hint

-- of so many registers, if there is one
abbrev pub HasRow : ℕ → Option TraceHint → Type 0
HasRow regs None = Unit {0}
HasRow regs (Some h) = length h.places.regs ≡ regs

-- the final result of a trace of a valid flow
abbrev pub IsFinalOf : Choice → List TracePlan → List Entry → ℕ → TraceOut → Type 0
IsFinalOf choice plans entries trace out = OfTrace plans entries trace (λ p t. IsPlan choice.builder p → IsFinal choice p t out)

-- the hint for a trace of a valid flow, of as many registers as are chosen
abbrev pub IsHintOf : Choice → List TracePlan → List Entry → ℕ → Option TraceHint → Type 0
IsHintOf choice plans entries trace hint = HasRow choice.regs hint × OfTrace plans entries trace (λ p t. IsPlan choice.builder p → IsHint choice p t (plain_hint hint))
