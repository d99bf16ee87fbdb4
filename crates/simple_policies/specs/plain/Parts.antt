-- What is written for the nodes of a trace so far.
use Rattle.std.specs.Prelude.{◌≡◌, ℕ, [], ◌∷◌, ◌++◌, map, take}
use Rattle.lir_core.specs.declared.places.TraceIn.{TraceIn}
use Rattle.lir_core.specs.Flows.{node_at}
use Rattle.simple_policies.specs.declared.plain.allocating.Parts.{Parts}
use Rattle.simple_policies.specs.plain.Plain.{plain_start, plain_end, node_lines, node_regs}

-- the parts of a node come behind
pub record ArePushed (t : TraceIn) (n : ℕ) (before after : Parts) : Type 0 where
  pub starts : after.starts.items ≡ before.starts.items ++ plain_start t.regs t.flow.now t.live.now n ∷ []
  pub ends : after.ends.items ≡ before.ends.items ++ plain_end t.regs t.flow.now t.live.now n ∷ []
  pub lines : after.lines.items ≡ before.lines.items ++ node_lines (node_at t.flow.now.nodes n) ∷ []
  pub regs : after.regs.items ≡ before.regs.items ++ node_regs (node_at t.flow.now.nodes n) ∷ []

-- the parts of the first i nodes
pub record AreParts (t : TraceIn) (i : ℕ) (p : Parts) : Type 0 where
  pub starts : p.starts.items ≡ map (plain_start t.regs t.flow.now t.live.now) (take i t.trace.now.nodes)
  pub ends : p.ends.items ≡ map (plain_end t.regs t.flow.now t.live.now) (take i t.trace.now.nodes)
  pub lines : p.lines.items ≡ map (λ n. node_lines (node_at t.flow.now.nodes n)) (take i t.trace.now.nodes)
  pub regs : p.regs.items ≡ map (λ n. node_regs (node_at t.flow.now.nodes n)) (take i t.trace.now.nodes)
