use Rattle.std.proofs.Common.{◌≡◌, ◌++◌, ◌∙◌, ap}
use Rattle.explanations.specs.Explained.{lines_of}
use Rattle.explanations.specs.declared.kind.TheConstants.{PAGES}
use Rattle.explanations.proofs.explaining.page_list.Goals as goal

pub returns : goal.returns
returns c =
    let appended : c.put_lines.new.text.items ≡ c.new-text.result.items ++ lines_of PAGES = c.in_ok-put_lines.ensures in
    appended ∙ ap (λ text. text ++ lines_of PAGES) c.new-text.ensures.items
