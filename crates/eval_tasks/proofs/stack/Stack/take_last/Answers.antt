-- The items that are taken are the last ones, and the others stay.
use Rattle.std.proofs.Common.{◌≡◌, ◌-◌, length, take, drop, ap, ◌∙◌, arith}
use Rattle.std.specs.Prelude.{reverse}
use Rattle.eval_tasks.proofs.Ends.{last_of}
use Rattle.eval_tasks.proofs.stack.Stack.take_last.Goals as goal

pub returns-clause-ok : goal.returns-clause-ok
returns-clause-ok g c =
    let xs = c.self.inside.items.items in
    let n = c.args.count in
    let kept : c.saturating_sub-kept.result ≡ length xs - n = omega (arith, c.saturating_sub-kept.ensures, c.len-length.ensures, c.self.inside.items.ok.0) in
    let h = last_of xs n in
    rw (← c.self.view_is) (
      c.from_vec.ensures ∙ c.in_ok-split_off.ensures.tail ∙ ap (λ k. drop k xs) kept ∙ h.0,
      ap reverse (c.in_ok-split_off.ensures.items ∙ ap (λ k. take k xs) kept) ∙ h.1,
    )
