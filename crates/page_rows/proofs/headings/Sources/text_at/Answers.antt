use Rattle.std.proofs.Common.{◌≡◌, ◌<◌, ℕ, List, [], map, length, get_or, sym, ap, ◌∙◌}
use Rattle.std.proofs.lemmas.List.{get_or-map}
use Rattle.page_parts.specs.Sources.{line_starts}
use Rattle.page_rows.proofs.headings.Sources.text_at.Goals as goal

-- what stands in two lists at a place, which some functions make one
alike : {X Y : Type 0} (f : X → List ℕ) (g : Y → List ℕ) (xs : List X) (ys : List Y) (n : ℕ) (x : X) (y : Y) → map f xs ≡ map g ys → n < length xs → n < length ys → f (get_or xs n x) ≡ g (get_or ys n y)
alike f g xs ys n x y e l m = sym (get_or-map f xs n x [] l) ∙ ap (λ zs. get_or zs n []) e ∙ get_or-map g ys n y [] m

pub new-requires-2 : goal.new-requires-2
new-requires-2 c =
    let sources = c.args.self.now in
    c.as_slice-2.ensures.value
    ∙ alike (λ v. v.items) line_starts sources.starts.now sources.texts.now c.args.number c.index-self-number-2.result c.index-self-number.result sources.are c.if-number-self-2.false c.if-number-self.false
    ∙ sym (ap line_starts c.as_slice.ensures)
