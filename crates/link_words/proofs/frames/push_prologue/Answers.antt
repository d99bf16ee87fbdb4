use Rattle.std.proofs.Common.{◌*◌, ◌++◌}
use Rattle.placed_code.specs.Words.{depth_words, frame_words, room_words, data_words}
use Rattle.link_words.proofs.Pushed.{then}
use Rattle.link_words.proofs.frames.push_prologue.Goals as goal

pub returns : goal.returns
returns c =
    let f = c.args.frame in
    let local = then (room_words f.cells) (data_words f.bytes) _ _ _ c.in_ok-push_room.ensures c.in_ok-push_data.ensures in
    then (depth_words f.counted) (frame_words (8 * f.slots) f.outs ++ (room_words f.cells ++ data_words f.bytes)) _ _ _ c.in_ok-push_depth.ensures
    (then (frame_words (8 * f.slots) f.outs) (room_words f.cells ++ data_words f.bytes) _ _ _ c.in_ok-push_frame.ensures local)
