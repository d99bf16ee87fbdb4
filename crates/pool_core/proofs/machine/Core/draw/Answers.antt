use Rattle.std.proofs.Common.{◌≡◌, arith, ap, ◌∙◌}
use Rattle.pool_core.specs.declared.model.Event.TheVariants as event
use Rattle.pool_core.proofs.Moves.{within, read_at, head_fits, cells_small, cells_wide, draws_less, drawn_ticket, drawn_none, drew}
use Rattle.pool_core.specs.Events.{drawn_stage, drawn_seen}
use Rattle.pool_core.proofs.machine.Core.draw.Goals.{then-found-len, else-found-len}
use Rattle.pool_core.proofs.machine.Core.draw.Goals as goal

pub index-hand-requires : goal.index-hand-requires
index-hand-requires c = omega (arith, within c.self.inside c.self.invariant c.args.self.now c.self.view_is c.args.worker event.Draw c.requires, c.self.inside.hands.ok)

pub index_mut-requires : goal.index_mut-requires
index_mut-requires c = omega (arith, within c.self.inside c.self.invariant c.args.self.now c.self.view_is c.args.worker event.Draw c.requires, c.self.inside.hands.ok)

pub overflow_add-hand : goal.overflow_add-hand
overflow_add-hand c =
    let at = read_at c.self.inside.hands.items c.args.worker c.index-hand.result.now (within c.self.inside c.self.invariant c.args.self.now c.self.view_is c.args.worker event.Draw c.requires) c.index-hand.ensures in
    omega (arith, draws_less c.self.inside c.self.invariant c.args.self.now c.self.view_is c.args.worker c.index-hand.result.now at c.requires)

pub overflow_cast-stage : goal.overflow_cast-stage
overflow_cast-stage c =
    let at = read_at c.self.inside.hands.items c.args.worker c.index-hand.result.now (within c.self.inside c.self.invariant c.args.self.now c.self.view_is c.args.worker event.Draw c.requires) c.index-hand.ensures in
    omega (arith, c.if-found-len.true, c.len.ensures, c.self.inside.cells.ok, cells_small c.self.inside c.self.invariant c.args.self.now c.self.view_is c.args.worker c.index-hand.result.now at)

pub overflow_cast-stage-then-found-len : goal.overflow_cast-stage-then-found-len
overflow_cast-stage-then-found-len c =
    let at = read_at c.self.inside.hands.items c.args.worker c.index-hand.result.now (within c.self.inside c.self.invariant c.args.self.now c.self.view_is c.args.worker event.Draw c.requires) c.index-hand.ensures in
    omega (arith, c.if-found-len.true, c.len.ensures, c.self.inside.cells.ok, cells_small c.self.inside c.self.invariant c.args.self.now c.self.view_is c.args.worker c.index-hand.result.now at)

pub overflow_add-self : goal.overflow_add-self
overflow_add-self c =
    let at = read_at c.self.inside.hands.items c.args.worker c.index-hand.result.now (within c.self.inside c.self.invariant c.args.self.now c.self.view_is c.args.worker event.Draw c.requires) c.index-hand.ensures in
    omega (arith, head_fits c.self.inside c.self.invariant c.args.self.now c.self.view_is c.args.worker c.index-hand.result.now at)

pub invariant_of-self : goal.invariant_of-self
invariant_of-self c =
    let at = read_at c.self.inside.hands.items c.args.worker c.index-hand.result.now (within c.self.inside c.self.invariant c.args.self.now c.self.view_is c.args.worker event.Draw c.requires) c.index-hand.ensures in
    let wide = cells_wide c.self.inside c.self.invariant c.args.self.now c.self.view_is c.args.worker c.index-hand.result.now at in
    let pair : (c.if-found-len.stage.0 ≡ drawn_stage c.self.inside.children c.self.inside.head) × (c.if-found-len.stage.1 ≡ drawn_seen c.self.inside.children c.self.inside.head) =
    elim c.if-found-len.branch [
      | then-found-len w ↦ let r = drawn_ticket c.self.inside.children c.self.inside.head (omega (arith, w.if-found-len.true, c.len.ensures, c.self.inside.cells.ok, wide)) in (ap (λ p. p.0) w.stage-is ∙ r.0, ap (λ p. p.1) w.stage-is ∙ r.1)
      | else-found-len w ↦ let r = drawn_none c.self.inside.children c.self.inside.head (omega (arith, w.if-found-len.false, c.len.ensures, c.self.inside.cells.ok, wide)) in (ap (λ p. p.0) w.stage-is ∙ r.0, ap (λ p. p.1) w.stage-is ∙ r.1)
    ] in
    (drew c.self.inside c.self.invariant c.args.self.now c.self.view_is c.args.worker c.index-hand.result.now at c.if-found-len.stage.0 c.if-found-len.stage.1 c.requires pair.0 pair.1).kept

pub returns-clause-state : goal.returns-clause-state
returns-clause-state c =
    let at = read_at c.self.inside.hands.items c.args.worker c.index-hand.result.now (within c.self.inside c.self.invariant c.args.self.now c.self.view_is c.args.worker event.Draw c.requires) c.index-hand.ensures in
    let wide = cells_wide c.self.inside c.self.invariant c.args.self.now c.self.view_is c.args.worker c.index-hand.result.now at in
    let pair : (c.if-found-len.stage.0 ≡ drawn_stage c.self.inside.children c.self.inside.head) × (c.if-found-len.stage.1 ≡ drawn_seen c.self.inside.children c.self.inside.head) =
    elim c.if-found-len.branch [
      | then-found-len w ↦ let r = drawn_ticket c.self.inside.children c.self.inside.head (omega (arith, w.if-found-len.true, c.len.ensures, c.self.inside.cells.ok, wide)) in (ap (λ p. p.0) w.stage-is ∙ r.0, ap (λ p. p.1) w.stage-is ∙ r.1)
      | else-found-len w ↦ let r = drawn_none c.self.inside.children c.self.inside.head (omega (arith, w.if-found-len.false, c.len.ensures, c.self.inside.cells.ok, wide)) in (ap (λ p. p.0) w.stage-is ∙ r.0, ap (λ p. p.1) w.stage-is ∙ r.1)
    ] in
    (drew c.self.inside c.self.invariant c.args.self.now c.self.view_is c.args.worker c.index-hand.result.now at c.if-found-len.stage.0 c.if-found-len.stage.1 c.requires pair.0 pair.1).state_is

pub returns-clause-seen : goal.returns-clause-seen
returns-clause-seen c =
    let at = read_at c.self.inside.hands.items c.args.worker c.index-hand.result.now (within c.self.inside c.self.invariant c.args.self.now c.self.view_is c.args.worker event.Draw c.requires) c.index-hand.ensures in
    let wide = cells_wide c.self.inside c.self.invariant c.args.self.now c.self.view_is c.args.worker c.index-hand.result.now at in
    let pair : (c.if-found-len.stage.0 ≡ drawn_stage c.self.inside.children c.self.inside.head) × (c.if-found-len.stage.1 ≡ drawn_seen c.self.inside.children c.self.inside.head) =
    elim c.if-found-len.branch [
      | then-found-len w ↦ let r = drawn_ticket c.self.inside.children c.self.inside.head (omega (arith, w.if-found-len.true, c.len.ensures, c.self.inside.cells.ok, wide)) in (ap (λ p. p.0) w.stage-is ∙ r.0, ap (λ p. p.1) w.stage-is ∙ r.1)
      | else-found-len w ↦ let r = drawn_none c.self.inside.children c.self.inside.head (omega (arith, w.if-found-len.false, c.len.ensures, c.self.inside.cells.ok, wide)) in (ap (λ p. p.0) w.stage-is ∙ r.0, ap (λ p. p.1) w.stage-is ∙ r.1)
    ] in
    (drew c.self.inside c.self.invariant c.args.self.now c.self.view_is c.args.worker c.index-hand.result.now at c.if-found-len.stage.0 c.if-found-len.stage.1 c.requires pair.0 pair.1).seen_is
