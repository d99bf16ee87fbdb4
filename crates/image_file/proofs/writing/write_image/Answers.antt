use Rattle.std.proofs.Common.{List, ℕ, ◌++◌, subst, ap, ◌∙◌}
use Rattle.std.specs.List.{flat_map}
use Rattle.image_form.specs.declared.image.ProcPlace.{ProcPlace}
use Rattle.image_file.specs.Spelling.{header, number, place_numbers, image_bytes, AreWords}
use Rattle.image_file.proofs.writing.write_image.Goals as goal

pub returns-clause-words : goal.returns-clause-words
returns-clause-words c = record {
  code = subst (λ (xs : List ℕ). AreWords xs) c.as_slice-code.ensures c.in_ok-put_words.ensures.words;
  places = subst (λ (ps : List ProcPlace). AreWords (place_numbers ps)) c.as_slice-places.ensures c.in_ok-put_places.ensures.words;
}

pub returns-clause-bytes : goal.returns-clause-bytes
unfolding image_bytes
returns-clause-bytes c =
    let i = c.args.image.now in
    c.in_ok-put_places.ensures.written
    ∙ ap (λ (ps : List ProcPlace). c.extend_from_slice.new.self.items ++ flat_map number (place_numbers ps)) c.as_slice-places.ensures
    ∙ ap (λ (xs : List ℕ). xs ++ flat_map number (place_numbers i.places)) (c.in_ok-extend_from_slice.ensures.items
    ∙ ap (λ (xs : List ℕ). c.put_words.new.out.items ++ xs) c.as_slice-constants.ensures
    ∙ ap (λ (xs : List ℕ). xs ++ i.constants) (c.in_ok-put_words.ensures.written
    ∙ ap (λ (xs : List ℕ). c.put_header.new.out.items ++ flat_map number xs) c.as_slice-code.ensures
    ∙ ap (λ (xs : List ℕ). xs ++ flat_map number i.code) (c.in_ok-put_header.ensures ∙ ap (λ (xs : List ℕ). xs ++ header i) c.in_ok-out.ensures.items)))
