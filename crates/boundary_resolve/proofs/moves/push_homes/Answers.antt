use Rattle.std.proofs.Common.{refl, ap, sym, ◌∙◌, ◌∷◌, [], ◌++◌, true, false}
use Rattle.lir_core.specs.declared.places.Place.TheVariants.{Home}
use Rattle.lir_core.specs.declared.places.Move.{Move}
use Rattle.boundary_resolve.specs.Before.{place_before, stays_before}
use Rattle.boundary_resolve.proofs.Sought.{home_step}
use Rattle.boundary_resolve.proofs.moves.push_homes.Goals.{then-not-stays+in_ok-push, else-not-stays}
use Rattle.boundary_resolve.proofs.moves.push_homes.Goals as goal

pub loop-value-preserved : goal.loop-value-preserved
loop-value-preserved c =
    let b = c.args.before.now in
    let found = c.loop-value.invariant.finder in
    record {
      finder = c.stays.ensures.list ∙ found;
      pushed = λ few rises. elim c.if-not-stays.branch [
        | then-not-stays+in_ok-push w ↦ home_step (stays_before b) (place_before b) c.args.homed.now c.loop-value.value-index _ _ c.loop-value.moves.items _ (c.loop-value.invariant.pushed few rises) c.loop-value-test.true refl false (sym (w.if-not-stays.ensures.stays rises found))
            (ap (λ v. v.items) w.moves-is ∙ w.in_ok-push.ensures.items ∙ ap (λ p. c.loop-value.moves.items ++ (let m : Move = record { to = Home _; from = p } in m) ∷ []) (w.place.ensures few))
        | else-not-stays w ↦ home_step (stays_before b) (place_before b) c.args.homed.now c.loop-value.value-index _ _ c.loop-value.moves.items _ (c.loop-value.invariant.pushed few rises) c.loop-value-test.true refl true (sym (w.if-not-stays.ensures.stays rises found)) (ap (λ v. v.items) w.moves-is)
      ];
    }
