use Rattle.std.proofs.Common.{◌≡◌, ℕ, Bool, List, drop, map}
use Rattle.alloc_audit.specs.Results.{AreLive}
use Rattle.alloc_audit.specs.Parts.{AreKnown}
use Rattle.alloc_audit.specs.Verdicts.{verdict_from, grounds_of_flows, verdict_of}
use Rattle.alloc_audit.proofs.auditing.audit.Given as goal

abbrev pub invariant-loop-at : goal.invariant-loop-at
invariant-loop-at l = record {
  rest : (lives : List (ℕ → ℕ → Bool)) → AreLive l.flows lives
      → verdict_of l.regs l.flows lives (map (λ c. c.items) l.cuts) l.outs ≡ verdict_from l.number (grounds_of_flows l.regs (drop l.at l.flows) (drop l.at lives) (drop l.at (map (λ c. c.items) l.cuts))) (drop l.number l.outs);
  known : AreKnown l.flows l.at;
}
