use Rattle.std.proofs.Common.{ℕ, List, ◌++◌, ◌∷◌, [], ◌≡◌, ◌≤◌, ◌+◌, ◌*◌, length, length-append, ap, sym, ◌∙◌, subst, arith}
use Rattle.std.specs.List.{flat_map}
use Rattle.image_file.specs.Spelling.{number, AreWords}
use Rattle.image_file.specs.Rules.{field}
use Rattle.image_file.proofs.Numbers.{AreBytes, numbers_more, number_below, words_more}
use Rattle.image_file.proofs.reading.code_of.Goals as goal

pub loop-i-preserved : goal.loop-i-preserved
loop-i-preserved c =
    let bytes = c.args.bytes.now in
    let from = c.args.from in
    let i = c.loop-i.i in
    let code = c.loop-i.code.items in
    let fits : AreBytes bytes = λ k. omega (arith, c.type_inv.bytes k) in
    let long : (from + 4 * i) + 4 ≤ length bytes = omega (arith, c.requires, c.loop-i-test.true) in
    let now : c.push.new.self.items ≡ code ++ field bytes (from + 4 * i) ∷ [] = c.in_ok-push.ensures.items ∙ ap (λ (x : ℕ). code ++ x ∷ []) c.number_at.ensures in
    record {
      spelled = ap (λ (xs : List ℕ). flat_map number xs) now ∙ numbers_more bytes from code i fits long c.loop-i.invariant.spelled;
      count = ap (λ (xs : List ℕ). length xs) now ∙ length-append code (field bytes (from + 4 * i) ∷ []) ∙ ap (λ (k : ℕ). k + 1) c.loop-i.invariant.count;
      below = subst (λ (xs : List ℕ). AreWords xs) (sym now) (words_more code (field bytes (from + 4 * i)) c.loop-i.invariant.below (number_below bytes (from + 4 * i) fits));
    }
