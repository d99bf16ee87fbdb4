use Rattle.std.proofs.Common.{List, ℕ, ◌-◌, ◌*◌, length, take, drop, refl, ap, ap₂, subst, sym, ◌∙◌, arith}
use Rattle.std.specs.List.{flat_map}
use Rattle.image_form.specs.declared.image.ProcPlace.{ProcPlace}
use Rattle.image_file.specs.Spelling.{number, place_numbers, AreWords}
use Rattle.image_file.proofs.Places.{place_bytes}
use Rattle.image_file.proofs.Whole.{Makes, makes}
use Rattle.image_file.proofs.reading.image_of.Goals as goal

made : (c : goal.After-new-3) → Makes c.args.bytes.now (record {
  version = c.in_ok-header.header.version;
  flags = c.in_ok-header.header.flags;
  code = c.new.result;
  globals = c.in_ok-header.header.globals;
  constants = c.new-2.result;
  frame = c.in_ok-header.header.frame;
  places = c.new-3.result;
})
made c =
    let h = c.in_ok-header.header in
    let e = c.in_ok-header.ensures in
    let bytes = c.args.bytes.now in
    makes bytes h _ (λ k. omega (arith, c.type_inv.bytes k)) e.kept e.said e.ended (record {
      version = refl;
      flags = refl;
      count = ap (λ (xs : List ℕ). length xs) c.new.ensures ∙ c.in_ok-code.ensures.count;
      code = ap (λ (xs : List ℕ). flat_map number xs) c.new.ensures ∙ c.in_ok-code.ensures.spelled ∙ ap (λ (n : ℕ). take (4 * h.words) (drop n bytes)) c.header_length.ensures;
      globals = refl;
      constants = c.new-2.ensures ∙ c.in_ok-constants.ensures.items ∙ ap₂ (λ (m n : ℕ). take (m - n) (drop n bytes)) c.first_place-first_place.ensures.is c.first_constant.ensures;
      frame = refl;
      few = ap (λ (ps : List ProcPlace). length ps) c.new-3.ensures ∙ c.in_ok-places.ensures.count;
      places = ap place_bytes c.new-3.ensures ∙ c.in_ok-places.ensures.spelled ∙ ap (λ (n : ℕ). take (12 * h.places) (drop n bytes)) c.first_place-first_place.ensures.is;
      words = subst (λ (ps : List ProcPlace). AreWords (place_numbers ps)) (sym c.new-3.ensures) c.in_ok-places.ensures.below;
    })

pub returns-clause-in_form : goal.returns-clause-in_form
returns-clause-in_form c = (made c).form

pub returns-clause-read : goal.returns-clause-read
returns-clause-read c = (made c).is
