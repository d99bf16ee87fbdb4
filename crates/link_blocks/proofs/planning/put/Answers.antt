use Rattle.std.proofs.Common.{◌≡◌, ◌≢◌, ℕ, ◌<◌, List, length, map, get_or, ap, ◌∙◌, arith}
use Rattle.std.proofs.lemmas.List.{map-set, get_or-set_same, get_or-set_other}
use Rattle.placed_code.specs.Placed.{Block, no_block}
use Rattle.placed_code.proofs.Parts.{length_map}
use Rattle.link_blocks.specs.Plans.{block_in}
use Rattle.link_blocks.proofs.planning.put.Goals as goal

pub returns-then-number-len-clause-here : goal.returns-then-number-len-clause-here
returns-then-number-len-clause-here c l =
    let bls = c.args.blocks.now.items in
    let n = c.args.number in
    let many = length_map block_in bls in
    ap (λ (xs : List Block). get_or xs n no_block) (map-set block_in bls n c.args.block)
    ∙ get_or-set_same (map block_in bls) n (block_in c.args.block) no_block (omega (arith, l, many))

pub returns-then-number-len-clause-others : goal.returns-then-number-len-clause-others
returns-then-number-len-clause-others c m other =
    let bls = c.args.blocks.now.items in
    let n = c.args.number in
    ap (λ (xs : List Block). get_or xs m no_block) (map-set block_in bls n c.args.block)
    ∙ get_or-set_other (map block_in bls) n m (block_in c.args.block) no_block other
