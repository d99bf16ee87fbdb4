use Rattle.std.proofs.Common.{◌∙◌, map, length, ap, sym, subst}
use Rattle.procedure_code.specs.Views.{piece_in}
use Rattle.link_plan.specs.Linked.{ArePieces, IsUnnamedAndFar, greatest_in}
use Rattle.back_end.proofs.Naming.{piece_for_each, named_or_near}
use Rattle.back_end.proofs.Planning.{all_can, cuts_are, few_traces, some_misfit, pieces_are, too_much}
use Rattle.back_end.proofs.Ready.{all_small}
use Rattle.back_end.proofs.imaging.image_of.Goals as goal

pub returns-then-not-fit-clause-misfit : goal.returns-then-not-fit-clause-misfit
returns-then-not-fit-clause-misfit c choice procs h e = some_misfit choice procs c.args.planned h c.if-not-fit.true

pub returns-then-not-fit-clause-modest : goal.returns-then-not-fit-clause-modest
returns-then-not-fit-clause-modest c choice procs h values e =
    h.are.misfit (all_can choice procs c.args.planned h) c.if-not-fit.true (all_small choice 0 procs h.are.cuts h.ready values h.numbers h.are.flows_are h.are.each)

pub returns-then-not-room-clause-code : goal.returns-then-not-room-clause-code
returns-then-not-room-clause-code c choice procs h e = too_much choice procs c.args.planned h c.if-not-room.true

pub image_of_pieces-requires-clause-names : goal.image_of_pieces-requires-clause-names
image_of_pieces-requires-clause-names c some = c.requires.names c.if-not-fit.false c.if-not-room.false ∙ sym (ap length c.as_slice.ensures.value)

pub returns-in-Ok-clause-image : goal.returns-in-Ok-clause-image
returns-in-Ok-clause-image c choice procs h =
    let there = subst (λ ps. ArePieces choice.regs (map piece_in ps) h.are.cuts) (sym c.as_slice.ensures.value) (pieces_are choice procs c.args.planned h c.if-not-fit.false c.if-not-room.false) in
    record {
      cuts = h.are.cuts;
      are = cuts_are choice procs c.args.planned h;
      few = few_traces choice procs c.args.planned h;
      count = h.are.count;
      is = c.in-Ok.ensures.image choice.regs h.are.cuts there;
      runs = λ input bytes numbers. c.in-Ok.ensures.runs choice.regs h.are.cuts input there bytes numbers;
    }

pub returns-in-Err-clause-code : goal.returns-in-Err-clause-code
returns-in-Err-clause-code c choice procs h e =
    let there = subst (λ ps. ArePieces choice.regs (map piece_in ps) h.are.cuts) (sym c.as_slice.ensures.value) (pieces_are choice procs c.args.planned h c.if-not-fit.false c.if-not-room.false) in (
      h.are.cuts,
      cuts_are choice procs c.args.planned h,
      few_traces choice procs c.args.planned h,
      c.in-Err.ensures.limit (c.fault_of.ensures.code e) choice.regs h.are.cuts there,
    )

pub returns-in-Err-clause-misfit : goal.returns-in-Err-clause-misfit
returns-in-Err-clause-misfit c choice procs h e =
    let there = pieces_are choice procs c.args.planned h c.if-not-fit.false c.if-not-room.false in
    let far = c.in-Err.ensures.misfit (c.fault_of.ensures.misfit e) in
    let count = piece_for_each procs c.args.planned.pieces.items h.are.cuts h.are.flows_are there.pieces_are in
    absurd (named_or_near procs c.args.planned.pieces.items h.are.cuts h.are.flows_are there.pieces_are c.args.extra (c.requires.names c.if-not-fit.false c.if-not-room.false ∙ count) (subst (λ ps. IsUnnamedAndFar c.args.extra (greatest_in (map piece_in ps))) c.as_slice.ensures.value far))

pub returns-in-Err-clause-modest : goal.returns-in-Err-clause-modest
returns-in-Err-clause-modest c choice procs h values e =
    let there = pieces_are choice procs c.args.planned h c.if-not-fit.false c.if-not-room.false in
    let far = c.in-Err.ensures.misfit (c.fault_of.ensures.misfit e) in
    let count = piece_for_each procs c.args.planned.pieces.items h.are.cuts h.are.flows_are there.pieces_are in
    named_or_near procs c.args.planned.pieces.items h.are.cuts h.are.flows_are there.pieces_are c.args.extra (c.requires.names c.if-not-fit.false c.if-not-room.false ∙ count) (subst (λ ps. IsUnnamedAndFar c.args.extra (greatest_in (map piece_in ps))) c.as_slice.ensures.value far)
