use Rattle.std.proofs.Common.{◌≡◌, ◌∙◌, ap, subst, arith, ℕ, ◌-◌, take, replicate, IfOk, None, Option}
use Rattle.std.proofs.lemmas.List.{take-replicate}
use Rattle.loc_back.proofs.part.empty_registers.Goals as goal

pub returns-in-Some : goal.returns-in-Some
returns-in-Some c =
    let l = c.in-Some.ensures.lookup in
    let count = c.args.count in
    let whole : count - 0 ≡ count = omega arith in
    let row : c.in-Some.row.now ≡ replicate count None =
    l.0.2 ∙ ap (λ n. take n (replicate {A = Option ℕ} 16 None)) whole ∙ take-replicate count 16 None l.0.1 in
    subst (λ xs. IfOk c.from_slice.result (λ regs. regs ≡ xs)) row c.from_slice.ensures
