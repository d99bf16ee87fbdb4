use Rattle.std.proofs.Common.{◌≡◌, ◌+◌, ◌-◌, ◌/◌, ◌%◌, ◌≤◌, take, drop, length, slice_index_or, refl, arith, ap, ◌∙◌}
use Rattle.std.proofs.lemmas.List.{take_all, length-set}
use Rattle.a64_memory.specs.Bytes.{splice, slab}
use Rattle.a64_memory.specs.Chunks.{joined}
use Rattle.a64_memory.proofs.Slabs.{length-slab}
use Rattle.a64_memory.proofs.Joining.{put_joined, splice_more, length-joined}
use Rattle.a64_memory.proofs.chunks.store_across.Goals as goal

pub loop-done-preserved : goal.loop-done-preserved
loop-done-preserved c =
    let cs = c.loop-done.chunks in
    let old = c.args.chunks.now in
    let at = c.args.at in
    let done = c.loop-done.done in
    let count = c.min-count.result in
    let bytes = c.args.bytes.now in
    let same : length cs ≡ length old = c.loop-done.invariant.1.1.0 in
    let room = c.requires.inside in
    let more : done + count ≤ length bytes = omega arith in
    let all : at + length bytes ≤ length (joined old) = omega (arith, length-joined old c.requires.even, room) in
    let part = slab bytes done count in
    let size = length-slab bytes done count more in
    let whole : done + count - done ≡ count = omega arith in
    let chunk = slice_index_or cs ((at + done) / 1048576) c.index-chunks-at.result in
    let stored = c.put.ensures ∙ ap (λ n. splice chunk ((at + done) % 1048576) (take n (drop done bytes))) whole in
    let now = put_joined cs (at + done) part c.put.new.self c.index-chunks-at.result c.loop-done.invariant.1.0 (omega arith) (omega (arith, size)) stored in
    (more, (now.1, (length-set cs ((at + done) / 1048576) c.put.new.self ∙ same, splice_more (joined old) (joined cs) _ at done count bytes part all more c.loop-done.invariant.1.1.1 refl now.0)))

pub returns-clause-bytes : goal.returns-clause-bytes
returns-clause-bytes c = c.loop-done.invariant.1.1.1 ∙ ap (splice (joined c.args.chunks.now) c.args.at) (take_all c.loop-done.done c.args.bytes.now c.loop-done-test.false)
