use Rattle.std.proofs.Common.{◌≡◌, ℕ, Bool, ◌∙◌, sym, ap, map, filter, arith}
use Rattle.std.proofs.lemmas.Grind.{common_steps}
use Rattle.block_runs.specs.Live.{defs_of}
use Rattle.lir_core.specs.Flows.{operation_of}
use Rattle.lir_core.specs.Rows.{has_bit}
use Rattle.loc_state.specs.Homed.{all_inserted}
use Rattle.bottom_up.proofs.Steps.{passed_append}
use Rattle.bottom_up.proofs.homing.Into.add_made.Goals as goal

pub returns : goal.returns
returns c =
    let node = c.args.node.now in
    let p : ℕ → Bool = has_bit c.args.self.now.live.now c.args.self.now.head in
    let first : c.add_values.new.made ≡ all_inserted (filter p node.params) c.args.made.now = grind (arith, common_steps) in
    let then : c.add_definitions.new.made ≡ all_inserted (filter p (defs_of (map operation_of node.lirs))) c.add_values.new.made = grind (arith, common_steps) in
    then ∙ ap (all_inserted (filter p (defs_of (map operation_of node.lirs)))) first ∙ sym (passed_append p node.params (defs_of (map operation_of node.lirs)) c.args.made.now)
