use Rattle.std.proofs.Common.{◌*◌, [], ◌∷◌, ◌++◌}
use Rattle.a64_instr.specs.declared.instr.Instr.TheVariants.{Ret}
use Rattle.placed_code.specs.Words.{undepth_words, unframe_words, unroom_words, undata_words}
use Rattle.link_words.proofs.Pushed.{then}
use Rattle.link_words.proofs.frames.push_epilogue.Goals as goal

pub returns : goal.returns
returns c =
    let f = c.args.frame in
    let local = then (undata_words f.bytes) (unroom_words f.cells) _ _ _ c.in_ok-push_undata.ensures c.in_ok-push_unroom.ensures in
    let last = then (undepth_words f.counted) (Ret 30 ∷ []) _ _ _ c.in_ok-push_undepth.ensures c.in_ok-push_return.ensures in
    then (unframe_words (8 * f.slots) f.outs) ((undata_words f.bytes ++ unroom_words f.cells) ++ (undepth_words f.counted ++ Ret 30 ∷ [])) _ _ _ c.in_ok-push_unframe.ensures
    (then (undata_words f.bytes ++ unroom_words f.cells) (undepth_words f.counted ++ Ret 30 ∷ []) _ _ _ local last)
