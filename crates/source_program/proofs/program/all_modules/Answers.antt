use Rattle.std.proofs.Common.{◌≡◌, ◌+◌, suc, Some, length, refl, sym, subst, arith}
use Rattle.std.specs.Prelude.{slice_get}
use Rattle.std.proofs.lemmas.Option.{slice_get_read}
use Rattle.source_program.specs.Behind.{IsBehind}
use Rattle.source_program.proofs.Behind.{none_behind}
use Rattle.source_program.proofs.program.all_modules.Goals as goal

pub loop-index-init : goal.loop-index-init
loop-index-init c = none_behind c.args.texts.now c.in-Ok.state (c.in-Ok.ensures.settled c.args.texts.now) (c.in-Ok.ensures.stands c.args.texts.now)

pub one_more-requires-clause-own_text : goal.one_more-requires-clause-own_text
one_more-requires-clause-own_text c =
    let T = c.args.texts.now in
    subst (λ b. slice_get T c.loop-index.index ≡ Some b) (sym c.as_slice.ensures)
    (slice_get_read T (length T) c.loop-index.index c.index-texts-index.result refl c.loop-index-test.true c.index-texts-index.is)

pub loop-index-preserved : goal.loop-index-preserved
loop-index-preserved c =
    let e : suc c.loop-index.index ≡ c.loop-index.index + 1 = omega arith in
    subst (λ n. IsBehind c.args.texts.now n c.in_ok-state.state) e c.in_ok-state.ensures.behind
