use Rattle.std.proofs.Common.{◌≡◌, [], ◌∷◌, sym, ap, ◌∙◌, append_assoc}
use Rattle.std.specs.Prelude.{slice_index}
use Rattle.std.proofs.lemmas.Iterator.Adapters.{YieldsList-from_vec}
use Rattle.std.proofs.lemmas.Iterator.Consumers.{YieldsList-end}
use Rattle.std.proofs.lemmas.List.{append-nil, map-id}
use Rattle.ssa_exprs.specs.Making.{resolved}
use Rattle.ssa_build.specs.Blocks.{finished}
use Rattle.ssa_build.proofs.finish.add_all.Goals as goal

pub loop-piece-preserved : goal.loop-piece-preserved
loop-piece-preserved c = λ rest last.
    c.in_ok-add.ensures (resolved (λ t. slice_index c.args.places.now t) rest) last
    ∙ c.loop-piece.invariant (c.in-Some.piece ∷ rest) last
    ∙ ap (λ ps. finished c.args.blocks last (resolved (λ t. slice_index c.args.places.now t) ps)) (sym (append_assoc c.loop-piece.yielded (c.in-Some.piece ∷ []) rest))

pub returns : goal.returns
returns c = λ last.
    let gives = c.into_iter-piece-iterator.ensures.into_iter_gives in
    let end = YieldsList-end (YieldsList-from_vec {s = c.into_iter-piece-iterator.result} c.args.pieces.items gives.0 (gives.1 ∙ c.args.pieces.ok.0)) c.loop-piece.yielded c.loop-piece.piece-iterator c.loop-piece.yielded_by c.next.result c.next.new.self c.in-None.is c.next.ensures.steps in
    let all : c.loop-piece.yielded ≡ c.args.pieces.items = sym (map-id c.loop-piece.yielded) ∙ end.0 in
    c.loop-piece.invariant [] last
    ∙ ap (λ ps. finished c.args.blocks last (resolved (λ t. slice_index c.args.places.now t) ps)) (append-nil c.loop-piece.yielded ∙ all)
