-- An image that is made of parts that fit is in form.
use Rattle.std.proofs.Common.{◌≡◌, ℕ, suc, ◌+◌, ◌<◌, ◌≤◌, ◌%◌, ◌^◌, ◌⊎◌, inl, inr, List, [], ◌∷◌, map, length, refl, arith, sym, ap, ap₂, subst}
use Rattle.image_form.specs.declared.image.Image.{Image}
use Rattle.image_form.specs.declared.image.ProcPlace.{ProcPlace}
use Rattle.image_form.specs.Form.{IsVersionOne, IsVersionTwo, IsInForm}
use Rattle.image_form.specs.Places.{RiseBelow}
use Rattle.placed_code.specs.declared.data.ProcName.{ProcName}
use Rattle.placed_code.specs.declared.data.ImageData.{ImageData}
use Rattle.placed_code.specs.Words.{most_frame}
use Rattle.placed_code.specs.Claims.{places_of, version_of}
use Rattle.procedure_pieces.specs.Pieces.{Piece}
use Rattle.procedure_pieces.specs.Linked.{begins, linked}
use Rattle.procedure_code.specs.declared.pieces.Piece.{Piece as Made}
use Rattle.procedure_code.specs.Parts.{entry_at}
use Rattle.procedure_code.specs.Views.{piece_in}
use Rattle.procedure_code.proofs.Images.{linked_size, begins_next, begins_within}
use Rattle.link_plan.specs.Linked.{DataFits, NameAllOrNone, small_frame}

length_places : (f : ℕ → ℕ) (p : ℕ) (names : List ProcName) → length (places_of f p names) ≡ length names
length_places f p [] = refl
length_places f p (name ∷ names) = ap suc (length_places f (suc p) names)

-- words that rise below a number
rise : (words : ℕ) (f : ℕ → ℕ) (p least : ℕ) (names : List ProcName) → least ≤ f p → ((q : ℕ) → q < p + length names → (f q < words) × (f q < f (suc q))) → RiseBelow words least (places_of f p names)
rise words f p least [] low below = tt
rise words f p least (name ∷ names) low below =
    let here = below p (omega arith) in
    let next = here.1 in
    (low, here.0, rise words f (suc p) (suc (f p)) names (omega (arith, next)) (λ q l. below q (omega (arith, l))))

-- the image of some words with these names
abbrev image_with : ImageData → List ProcName → List ℕ → ℕ → (ℕ → ℕ) → Image
image_with extra names code frame f = record { version = version_of names; flags = extra.flags; code = code; globals = extra.globals; constants = extra.constants; frame = frame; places = places_of f 0 names }

module _ (pieces : List Made) (extra : ImageData) (code : List ℕ) (frame : ℕ) (size : length code ≡ length (linked (map piece_in pieces))) where
  abbrev qs : List Piece
  qs = map piece_in pieces

  version_is : (names : List ProcName) → NameAllOrNone names (length pieces) → length names ≤ 4096 → (names ≡ [] → frame ≤ small_frame) → IsVersionOne (image_with extra names code frame (begins qs)) ⊎ IsVersionTwo (image_with extra names code frame (begins qs))
  version_is [] all few small = let l = small refl in inl (record { version = refl; frame = omega (arith, l); places = refl })
  version_is (name ∷ names) all few small =
      let n = length_places (begins qs) 0 (name ∷ names) in
      let each = all (omega arith) in
      inr (record {
        version = refl;
        some_places = omega arith;
        few_places = omega (arith, n, few);
        places = rise (length code) (begins qs) 0 0 (name ∷ names) (omega arith) (λ q l.
            let known : q < length pieces = omega (arith, l, each) in
            let w = begins_within pieces q known in
            (omega (arith, w, size), begins_next pieces q known));
      })

  form : DataFits extra → NameAllOrNone extra.names (length pieces) → length code ≤ 2 ^ 18 → (extra.names ≡ [] → frame ≤ small_frame) → frame ≤ most_frame → frame % 8 ≡ 0 → IsInForm (image_with extra extra.names code frame (begins qs))
  form fits all long small most whole =
      let a = linked_size qs in
      record {
        version = version_is extra.names all fits.few_names small;
        flags = fits.one_flag;
        some_code = omega (arith, a, size);
        code = omega (arith, long);
        globals = fits.few_globals;
        constants = fits.few_constants;
        frame = omega (arith, most);
        whole_globals = fits.whole_globals;
        whole_constants = fits.whole_constants;
        whole_frame = whole;
      }

-- what is made of parts
abbrev pub made : ImageData → ℕ → List ℕ → ℕ → List ProcPlace → Image
made extra version code frame places = record { version = version; flags = extra.flags; code = code; globals = extra.globals; constants = extra.constants; frame = frame; places = places }

pub form_is : (pieces : List Made) (extra : ImageData) (version : ℕ) (code : List ℕ) (frame : ℕ) (places : List ProcPlace) → code ≡ linked (map piece_in pieces) → DataFits extra → NameAllOrNone extra.names (length pieces) → length (linked (map piece_in pieces)) ≤ 2 ^ 18
    → (extra.names ≡ [] → frame ≤ small_frame) → frame ≤ most_frame → frame % 8 ≡ 0 → version ≡ version_of extra.names → places ≡ places_of (begins (map piece_in pieces)) 0 extra.names → IsInForm (made extra version code frame places)
form_is pieces extra version code frame places is fits all long small most whole v are =
    let size = ap (λ (ws : List ℕ). length ws) is in
    subst IsInForm (sym (ap₂ (λ (n : ℕ) (xs : List ProcPlace). made extra n code frame xs) v are)) (form pieces extra code frame size fits all (omega (arith, long, size)) small most whole)

-- places by the words where all pieces begin
pub placed_at : (qs : List Piece) (entries : List ℕ) (names : List ProcName) → ((p : ℕ) → entry_at entries p ≡ begins qs p) → places_of (entry_at entries) 0 names ≡ places_of (begins qs) 0 names
placed_at qs entries names are = let e : entry_at entries ≡ begins qs = λ i p. are p i in ap (λ (f : ℕ → ℕ). places_of f 0 names) e
