use Rattle.std.proofs.Common.{◌≡◌, sym, length}
use Rattle.std.proofs.lemmas.List.{length-map}
use Rattle.std.proofs.lemmas.Result.{IfOk-weaker}
use Rattle.ssa_core.specs.Procedures.{code_block, code_blocks}
use Rattle.ssa_valid.proofs.Exploring.{listed, begins_ready}
use Rattle.ssa_valid.proofs.search.is_first_free.Goals as goal

pub returns : goal.returns
returns c =
    let bls = code_blocks c.args.blocks.now in
    let size : length c.args.blocks.now ≡ length bls = sym (length-map c.args.blocks.now code_block) in
    IfOk-weaker c.none_reaches_first.result _ _
    (λ free settles known. settles bls known (listed bls (length c.args.blocks.now) (length c.args.makers.now) c.in_ok-sources.sources c.in_ok-readers.readers size c.in_ok-sources.ensures c.in_ok-readers.ensures) (begins_ready bls (length c.args.blocks.now) _ _ size c.in_ok-new.ensures c.new-2.ensures.items))
    c.none_reaches_first.ensures
