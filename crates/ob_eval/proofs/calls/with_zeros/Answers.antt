use Rattle.std.proofs.Common.{List, [], ◌∷◌, ◌++◌, sym, ap, ◌∙◌}
use Rattle.std.proofs.lemmas.List.{append-nil}
use Rattle.ob_types.specs.Store.{Cell}
use Rattle.ob_eval.proofs.Invoking.{zeros_more, pushed}
use Rattle.ob_eval.proofs.calls.with_zeros.Goals as goal

pub loop-i-init : goal.loop-i-init
loop-i-init c = sym (append-nil c.args.values.items)

pub loop-i-preserved : goal.loop-i-preserved
loop-i-preserved c =
    let cells = c.loop-i.cells.items in
    let G : Cell → List Cell = λ d. cells ++ d ∷ [] in
    pushed c.push.result c.push.new.self.items (cells ++ c.bits.result ∷ []) cells c.push.ensures.items c.if-is_err.ensures.value
    ∙ ap G c.bits.ensures
    ∙ zeros_more c.args.values.items cells c.loop-i._i c.loop-i.invariant
