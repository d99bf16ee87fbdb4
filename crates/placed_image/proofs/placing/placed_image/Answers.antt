use Rattle.std.proofs.Common.{map, sym, ◌∙◌}
use Rattle.std.proofs.lemmas.List.{length-map}
use Rattle.placed_image.specs.Shares.{cuts_of}
use Rattle.placed_image.proofs.Results.{each_cut, are_cuts, small, none_far}
use Rattle.placed_image.proofs.placing.placed_image.Goals as goal

pub share_results-requires : goal.share_results-requires
share_results-requires c =
    let can = c.requires.results in
    sym (length-map c.args.cuts.now (λ v. v.items)) ∙ each_cut can.builder c.args.flows.now (map (λ v. v.items) c.args.cuts.now) can.cut

pub link-requires-clause-names : goal.link-requires-clause-names
link-requires-clause-names c some = c.requires.names

pub returns-in-Ok-clause-image : goal.returns-in-Ok-clause-image
returns-in-Ok-clause-image c =
    let can = c.requires.results in
    let flows = c.args.flows.now in
    let lists = map (λ v. v.items) c.args.cuts.now in
    let cuts = cuts_of flows lists c.args.outs.items in
    let there = are_cuts flows lists c.args.outs.items can c.in_ok-parts.field-0 c.in_ok-parts.ensures in
    record {
      is = c.in-Ok.ensures.image can.regs cuts there;
      runs = λ input bytes numbers. c.in-Ok.ensures.runs can.regs cuts input there bytes numbers;
    }

pub returns-in-Err-Limit-clause-code : goal.returns-in-Err-Limit-clause-code
returns-in-Err-Limit-clause-code c e =
    let can = c.requires.results in
    let flows = c.args.flows.now in
    let lists = map (λ v. v.items) c.args.cuts.now in
    c.in-Err-Limit.ensures.limit c.in-Err-Limit.field-0-is can.regs (cuts_of flows lists c.args.outs.items) (are_cuts flows lists c.args.outs.items can c.in_ok-parts.field-0 c.in_ok-parts.ensures)

pub unreachable-requires : goal.unreachable-requires
unreachable-requires c =
    let can = c.requires.results in
    let flows = c.args.flows.now in
    let lists = map (λ v. v.items) c.args.cuts.now in
    let outs = c.args.outs.items in
    none_far flows lists outs can c.args.extra c.requires.names
    (c.in-Err-Misfit.ensures.misfit c.in-Err-Misfit.field-0-is can.regs (cuts_of flows lists outs) (are_cuts flows lists outs can c.in_ok-parts.field-0 c.in_ok-parts.ensures) (small flows lists outs can))
