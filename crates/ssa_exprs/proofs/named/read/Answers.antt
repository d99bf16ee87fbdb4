use Rattle.std.proofs.Common.{[], ◌∷◌, arith, sym, ap, ◌∙◌}
use Rattle.ssa_lowered.specs.Pieces.{emits}
use Rattle.ssa_exprs.specs.Named.{named_of}
use Rattle.ssa_exprs.proofs.Giving.{gives_as}
use Rattle.ssa_exprs.proofs.Parts.{gives_held, gives_stored}
use Rattle.ssa_exprs.proofs.named.read.Goals as goal

pub returns-in_ok-v-in-Some : goal.returns-in_ok-v-in-Some
returns-in_ok-v-in-Some c = λ v d g. gives_held c.args.small (named_of c.args.h) _ (sym c.held.ensures ∙ c.in-Some.is) g c.in_ok-v-in-Some.ensures

pub returns-in_ok-v-in-None : goal.returns-in_ok-v-in-None
returns-in_ok-v-in-None c = λ v d g. gives_stored c.args.small (named_of c.args.h) (sym c.held.ensures ∙ c.in-None.is) g (c.in_ok-a-in-None.ensures (omega arith)) (gives_as (ap (λ k. emits k (c.in_ok-a-in-None.a ∷ [])) (sym c.load_code.ensures)) c.in_ok-v-in-None.ensures)
