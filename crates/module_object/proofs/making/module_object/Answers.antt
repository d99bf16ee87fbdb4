use Rattle.std.proofs.Common.{length, sym, ap, subst, arith}
use Rattle.std.specs.Prelude.{All}
use Rattle.plain_form.specs.results.Bounds.{IsNotable}
use Rattle.module_object.proofs.Behind.{short_last}
use Rattle.module_object.proofs.making.module_object.Goals as goal

pub returns-clause-writable : goal.returns-clause-writable
returns-clause-writable g c =
    let of_texts = c.in-Ok.ensures.program in
    let short = short_last c.args.texts.now of_texts.modules of_texts.are_parsed in
    let same = ap length c.in-Ok-last_text.ensures in
    record {
      regs = (c.requires.enough, c.requires.few);
      source = omega (arith, short, same);
      outs = subst (All IsNotable) (sym c.from_vec.ensures) c.in-Ok-own_results.ensures.notable;
    }
