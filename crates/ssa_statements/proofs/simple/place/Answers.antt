use Rattle.std.proofs.Common.{◌≡◌, sym, ap, ◌∙◌}
use Rattle.ssa_lowered.specs.Data.{layout}
use Rattle.ssa_lowered.specs.Values.{home_of}
use Rattle.ssa_exprs.specs.Tables.{small_in, named_in}
use Rattle.ssa_exprs.proofs.Giving.{gives_as}
use Rattle.ssa_exprs.proofs.Parts.{gives_home}
use Rattle.ssa_statements.proofs.simple.place.Goals as goal

pub returns : goal.returns
returns c = λ p here s.
    let narrow : c.takes_a_byte.result ≡ small_in p c.args.d.now = c.takes_a_byte.ensures p.types ∙ ap (layout p.types).is_small c.kind_in.ensures in
    gives_as (ap (home_of (named_in p here c.args.d.now)) (sym narrow)) (gives_home c.takes_a_byte.result (c.in_ok-h.ensures p here s) c.in_ok-r.ensures)
