use Rattle.std.proofs.Common.{◌≡◌, ℕ, Option, refl, ◌∙◌, sym, subst}
use Rattle.std.specs.Prelude.{IfSome}
use Rattle.a64_table.specs.Table.{word_of, InRange}
use Rattle.a64_table.specs.Decode.{decode_of}
use Rattle.a64_table.proofs.Laws.{again, only, no_row, that_row, another_row}
use Rattle.a64_table.proofs.decoder.decode.Goals as goal
use Rattle.a64_instr.specs.declared.instr.Instr.{Instr}

found_so : (w : ℕ) (result : Option Instr) → result ≡ decode_of w → IfSome result (λ i. InRange i × (word_of i ≡ w))
found_so w result e = subst (λ r. IfSome r (λ i. InRange i × (word_of i ≡ w))) (sym e) (again w)

pub returns-in_err-instr : goal.returns-in_err-instr
returns-in_err-instr c =
    let same = c.from_residual.ensures ∙ sym (no_row c.args.word (sym c.row.ensures ∙ c.in_err-instr.was)) in
    record { same = same; found = found_so c.args.word _ same; only = λ i h is. same ∙ only c.args.word i h is }

pub returns-then-is_word_of : goal.returns-then-is_word_of
returns-then-is_word_of c =
    let same = sym (that_row c.args.word c.in_ok-instr.instr (sym c.row.ensures ∙ c.in_ok-instr.was) (c.if-is_word_of.ensures.0 refl)) in
    record { same = same; found = found_so c.args.word _ same; only = λ i h is. same ∙ only c.args.word i h is }

pub returns-else-is_word_of : goal.returns-else-is_word_of
returns-else-is_word_of c =
    let same = sym (another_row c.args.word c.in_ok-instr.instr (sym c.row.ensures ∙ c.in_ok-instr.was) (λ is. let false_is_true = c.if-is_word_of.ensures.1 is in cc)) in
    record { same = same; found = found_so c.args.word _ same; only = λ i h is. same ∙ only c.args.word i h is }
