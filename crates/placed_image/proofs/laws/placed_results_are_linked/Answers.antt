use Rattle.std.proofs.lemmas.List.Elements.{recursion_from_All}
use Rattle.placed_image.specs.Shares.{cuts_of}
use Rattle.placed_image.specs.Placing.{IsPlaceable}
use Rattle.placed_image.proofs.Results.{all_linked, linked_at}
use Rattle.placed_image.proofs.laws.placed_results_are_linked.Goals as goal

pub returns-clause-allocated : goal.returns-clause-allocated
returns-clause-allocated c k builder flows cuts outs enough few can cut walked q d rest e =
    (linked_at k (cuts_of flows cuts outs) (all_linked k enough few builder 0 flows cuts outs (recursion_from_All IsPlaceable flows can) cut walked) q d rest e).allocated

pub returns-clause-small : goal.returns-clause-small
returns-clause-small c k builder flows cuts outs enough few can cut walked q d rest e =
    (linked_at k (cuts_of flows cuts outs) (all_linked k enough few builder 0 flows cuts outs (recursion_from_All IsPlaceable flows can) cut walked) q d rest e).fits
