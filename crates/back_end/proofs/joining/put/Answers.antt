use Rattle.std.proofs.Common.{refl, arith}
use Rattle.back_end.proofs.Planning.{put_limit, put_misfit, put_piece}
use Rattle.back_end.proofs.joining.put.Goals as goal

pub returns-in_ok-push-in-Piece-clause-more : goal.returns-in_ok-push-in-Piece-clause-more
returns-in_ok-push-in-Piece-clause-more c choice flow h =
    let over = c.if-traces-planned.false in
    let few = c.requires.few in
    put_piece choice flow c.args.made h c.args.planned.now _ (omega (arith, over, few)) refl c.in-Piece.piece c.in-Piece.is refl refl c.in_ok-push-in-Piece.ensures.items

pub returns-in-Misfit-clause-more : goal.returns-in-Misfit-clause-more
returns-in-Misfit-clause-more c choice flow h =
    let over = c.if-traces-planned.false in
    let few = c.requires.few in
    put_misfit choice flow c.args.made h c.args.planned.now _ (omega (arith, over, few)) refl c.in-Misfit.is refl refl

pub returns-in-Limit-clause-more : goal.returns-in-Limit-clause-more
returns-in-Limit-clause-more c choice flow h =
    let over = c.if-traces-planned.false in
    let few = c.requires.few in
    put_limit choice flow c.args.made h c.args.planned.now _ (omega (arith, over, few)) refl c.in-Limit.is refl refl
