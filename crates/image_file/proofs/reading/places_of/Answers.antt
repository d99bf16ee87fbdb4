use Rattle.std.proofs.Common.{List, ◌++◌, ◌∷◌, [], ◌≡◌, ◌+◌, ℕ, length, length-append, ap, sym, ◌∙◌, subst}
use Rattle.image_form.specs.declared.image.ProcPlace.{ProcPlace}
use Rattle.image_file.specs.Spelling.{place_numbers, AreWords}
use Rattle.image_file.proofs.Places.{place_bytes, places_more, numbers_more}
use Rattle.image_file.proofs.reading.places_of.Goals as goal

pub loop-i-preserved : goal.loop-i-preserved
loop-i-preserved c =
    let places = c.loop-i.places.items in
    let p = c.place_at.result in
    let now : c.push.new.self.items ≡ places ++ p ∷ [] = c.in_ok-push.ensures.items in
    record {
      spelled = ap place_bytes now ∙ places_more c.args.bytes.now c.args.from places c.loop-i.i p c.loop-i.invariant.spelled c.place_at.ensures.spelled;
      count = ap (λ (ps : List ProcPlace). length ps) now ∙ length-append places (p ∷ []) ∙ ap (λ (k : ℕ). k + 1) c.loop-i.invariant.count;
      below = subst (λ (ps : List ProcPlace). AreWords (place_numbers ps)) (sym now) (numbers_more places p c.loop-i.invariant.below c.place_at.ensures.below);
    }
