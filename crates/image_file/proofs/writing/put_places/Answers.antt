use Rattle.std.proofs.Common.{ℕ, List, ◌++◌, get_or, take, sym, ap, ◌∙◌, append_assoc}
use Rattle.std.specs.List.{flat_map}
use Rattle.image_form.specs.declared.image.ProcPlace.{ProcPlace}
use Rattle.image_file.specs.Spelling.{number, numbers_of}
use Rattle.image_file.proofs.Places.{place_bytes, place_bytes_more, numbers_more_read}
use Rattle.image_file.proofs.writing.put_places.Goals as goal

pub loop-place-preserved : goal.loop-place-preserved
loop-place-preserved c =
    let places = c.args.places.now in
    let i = c.loop-place.place-index in
    let d : ProcPlace = record { word = 0; «module» = 0; line = 0 } in
    let p = get_or places i d in
    let out = c.args.out.now.items in
    record {
      written = c.in_ok-put_place.ensures.written ∙ ap (λ (xs : List ℕ). xs ++ flat_map number (numbers_of p)) c.loop-place.invariant.written
          ∙ append_assoc out (place_bytes (take i places)) (flat_map number (numbers_of p)) ∙ ap (λ (xs : List ℕ). out ++ xs) (sym (place_bytes_more places i d c.loop-place-test.true));
      words = numbers_more_read places i d c.loop-place-test.true c.loop-place.invariant.words c.in_ok-put_place.ensures.words;
    }
