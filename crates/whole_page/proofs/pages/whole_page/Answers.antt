use Rattle.std.proofs.Common.{◌+◌, ◌++◌, ◌<◌, List, ℕ, length, map, ap, ◌∙◌, subst, arith}
use Rattle.page_rows.specs.declared.row.Row.{Row}
use Rattle.whole_page.specs.Frames.{script}
use Rattle.whole_page.specs.Pages.{back_text, front_text, page_text}
use Rattle.whole_page.specs.Rows.{rows_of}
use Rattle.whole_page.specs.Sections.{sections_text}
use Rattle.whole_page.specs.Views.{maybe_view, view_of}
use Rattle.whole_page.proofs.Lengths.{long_front, whole_text}
use Rattle.whole_page.proofs.pages.whole_page.Goals as goal

pub returns-in-TooLong : goal.returns-in-TooLong
unfolding page_text back_text
returns-in-TooLong c =
    let asked = c.args.asked.now in
    let texts = c.args.sources.now.texts.now in
    let own = view_of c.args.own.now in
    let other = maybe_view c.args.other.now in
    let rows = c.as_slice-rows.ensures.value ∙ c.in_ok-rows.ensures in
    let front = front_text (map (λ name. name.now) asked.names.now) texts asked.choice.now asked.policy c.args.image.now own other in
    let first = c.in_ok-put_front.ensures ∙ ap (λ t. t ++ front) c.new-text.ensures.items in
    let over = c.in_ok-put_sections.ensures.long c.in-TooLong.is in
    long_front front (sections_text texts own other (rows_of own other)) script 67108864
    (subst (λ (rs : List Row). 67108864 < length front + length (sections_text texts own other rs)) rows (subst (λ (t : List ℕ). 67108864 < length t + length (sections_text texts own other c.as_slice-rows.result.now)) first over))

pub returns-then-len-gt-MOST_BYTES : goal.returns-then-len-gt-MOST_BYTES
unfolding page_text back_text
returns-then-len-gt-MOST_BYTES c =
    let asked = c.args.asked.now in
    let texts = c.args.sources.now.texts.now in
    let own = view_of c.args.own.now in
    let other = maybe_view c.args.other.now in
    let rows = c.as_slice-rows.ensures.value ∙ c.in_ok-rows.ensures in
    let front = front_text (map (λ name. name.now) asked.names.now) texts asked.choice.now asked.policy c.args.image.now own other in
    let is = whole_text front (sections_text texts own other (rows_of own other)) script c.put_front.new.text.items c.put_sections.new.text.items c.put_text.new.text.items
    (c.in_ok-put_front.ensures ∙ ap (λ t. t ++ front) c.new-text.ensures.items)
    (c.in_ok-put_sections.ensures.whole c.in-Whole.is ∙ ap (λ rs. c.put_front.new.text.items ++ sections_text texts own other rs) rows)
    (c.in_ok-put_text.ensures ∙ ap (λ t. c.put_sections.new.text.items ++ t) c.script.ensures) in
    let long : 67108864 < length c.put_text.new.text.items = omega (arith, c.len.ensures, c.if-len-gt-MOST_BYTES.true) in
    subst (λ (t : List ℕ). 67108864 < length t) is long

pub returns : goal.returns
unfolding page_text back_text
returns c =
    let asked = c.args.asked.now in
    let texts = c.args.sources.now.texts.now in
    let own = view_of c.args.own.now in
    let other = maybe_view c.args.other.now in
    let rows = c.as_slice-rows.ensures.value ∙ c.in_ok-rows.ensures in
    let front = front_text (map (λ name. name.now) asked.names.now) texts asked.choice.now asked.policy c.args.image.now own other in
    let is = whole_text front (sections_text texts own other (rows_of own other)) script c.put_front.new.text.items c.put_sections.new.text.items c.put_text.new.text.items
    (c.in_ok-put_front.ensures ∙ ap (λ t. t ++ front) c.new-text.ensures.items)
    (c.in_ok-put_sections.ensures.whole c.in-Whole.is ∙ ap (λ rs. c.put_front.new.text.items ++ sections_text texts own other rs) rows)
    (c.in_ok-put_text.ensures ∙ ap (λ t. c.put_sections.new.text.items ++ t) c.script.ensures) in
    (is, omega (arith, c.len.ensures, c.if-len-gt-MOST_BYTES.false))
