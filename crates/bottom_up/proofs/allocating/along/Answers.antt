use Rattle.std.proofs.Common.{◌≡◌, ◌∙◌, ◌+◌, ◌-◌, sym, ap, ap₂, take, drop, get_or, arith, refl, Bor}
use Rattle.std.specs.Prelude.{slice_get}
use Rattle.std.specs.Option.{option_map}
use Rattle.lir_core.specs.declared.flow.Node.{Node}
use Rattle.trace_needs.specs.Needs.{last_mention}
use Rattle.linear_scan.specs.Linear.{position_behind}
use Rattle.linear_scan.specs.Inputs.{case_of}
use Rattle.bottom_up.specs.Bottom.{before_it, along, behind_nodes}
use Rattle.bottom_up.proofs.Steps.{behind_next, one_start, along_back}
use Rattle.bottom_up.proofs.allocating.along.Goals as goal

pub loop-left-preserved : goal.loop-left-preserved
loop-left-preserved c =
    let i = c.loop-left.left - 1 in
    let x = case_of c.args.t.now in
    let nodes = c.args.nodes.now in
    let said = last_mention c.args.positions.now in
    let k : c.loop-left.left ≡ i + 1 = omega arith in
    let n = get_or nodes i 0 in
    let o = slice_get x.flow.nodes n in
    let p = c.in_ok-at-2.at in
    let behind : c.loop-left.at ≡ position_behind p o = c.in_ok-at-2.ensures ∙ ap (position_behind p) c.node_at-node.ensures in
    let next : behind_nodes x.flow.nodes 0 (take (i + 1) nodes) ≡ position_behind (behind_nodes x.flow.nodes 0 (take i nodes)) o = behind_next x.flow.nodes nodes i 0 (omega arith) in
    let rest : c.loop-left.b ≡ along x said (position_behind p o) (drop (i + 1) nodes) c.args.b.now = c.loop-left.invariant.step ∙ ap₂ (λ a j. along x said a (drop j nodes) c.args.b.now) behind k in
    record {
      within = omega arith;
      at = one_start o p (behind_nodes x.flow.nodes 0 (take i nodes)) (sym behind ∙ c.loop-left.invariant.at ∙ ap (λ j. behind_nodes x.flow.nodes 0 (take j nodes)) k ∙ next);
      step = c.in_ok-walk.ensures.step
          ∙ ap (λ ps. before_it x (last_mention ps) p (option_map (λ (n : Bor Node). n.now) c.node_at-node.result) c.number_at-next.result c.loop-left.b) c.loop-left.invariant.same
          ∙ ap₂ (λ e g. before_it x said p e c.number_at-next.result g) c.node_at-node.ensures rest
          ∙ along_back x said c.args.b.now nodes i n p c.number_at-next.result (omega arith) refl c.number_at-next.ensures;
      same = c.in_ok-walk.ensures.same ∙ c.loop-left.invariant.same;
      row = c.in_ok-walk.ensures.row ∙ c.loop-left.invariant.row;
    }

pub returns : goal.returns
returns c =
    let x = case_of c.args.t.now in
    let nodes = c.args.nodes.now in
    let said = last_mention c.args.positions.now in
    let none : c.loop-left.left ≡ 0 = omega arith in
    let first : c.loop-left.at ≡ 0 = c.loop-left.invariant.at ∙ ap (λ j. behind_nodes x.flow.nodes 0 (take j nodes)) none in
    c.loop-left.invariant.step ∙ ap₂ (λ a j. along x said a (drop j nodes) c.args.b.now) first none
