use Rattle.std.proofs.Common.{◌≡◌, ◌++◌, List, ℕ, sym, ap, ◌∙◌, subst, arith}
use Rattle.std.specs.Prelude.{OnOk}
use Rattle.std.proofs.lemmas.List.{append-nil, length-map}
use Rattle.link_blocks.specs.Plans.{placed_in}
use Rattle.whole_page.specs.Views.{view_of}
use Rattle.whole_page.proofs.Tabled.{image_at, one_at, with_both, without_flow, without_plan}
use Rattle.whole_page.proofs.tables.put_tables_at.Goals as goal

pub returns-then-number-seen : goal.returns-then-number-seen
returns-then-number-seen c =
    sym (append-nil c.args.text.now.items) ∙ sym (ap (λ t. c.args.text.now.items ++ t) (without_flow (view_of c.args.seen.now) c.args.shift c.args.number c.if-number-seen.true))

pub returns-then-number-seen-2 : goal.returns-then-number-seen-2
returns-then-number-seen-2 c =
    let n = length-map c.args.seen.now.plans.now placed_in in
    let l = c.if-number-seen-2.true in
    sym (append-nil c.args.text.now.items) ∙ sym (ap (λ t. c.args.text.now.items ++ t) (without_plan (view_of c.args.seen.now) c.args.shift c.args.number (omega (arith, n, l))))

pub returns : goal.returns
returns c =
    let seen = c.args.seen.now in
    let n = c.args.number in
    subst (λ (t : List ℕ). OnOk c.put_shown.result (c.put_shown.new.text.items ≡ c.args.text.now.items ++ t))
    (sym (with_both (view_of seen) c.args.shift n _ _ (one_at seen.flows.now n c.index-seen-number.result c.if-number-seen.false) (image_at placed_in seen.plans.now n c.index-seen-number-2.result c.if-number-seen-2.false)))
    c.put_shown.ensures
