-- What goes by the version.
use Rattle.std.proofs.Common.{◌≡◌, ◌⊎◌, inl, inr, ℕ, ◌+◌, ◌%◌, ◌≤◌, ◌==◌, Bool, true, false, ◌||◌, if◌then◌else◌, List, [], ◌∷◌, ◌++◌, length, drop, refl, sym, ap, subst, ◌∙◌, arith}
use Rattle.std.specs.Prelude.{nat_le}
use Rattle.std.proofs.lemmas.Bool.{eqb-true, eq-eqb, leb-true, le-leb}
use Rattle.image_form.specs.declared.image.Image.{Image}
use Rattle.image_form.specs.declared.image.ProcPlace.{ProcPlace}
use Rattle.image_form.specs.Places.{RiseBelow}
use Rattle.image_form.specs.Form.{IsVersionOne, IsVersionTwo, IsInForm}
use Rattle.image_file.specs.Spelling.{number, places_said}
use Rattle.image_file.specs.Rules.{field, is_version, header_length, most_frame, places_in, is_count, is_whole}
use Rattle.image_file.proofs.Numbers.{AreBytes, number_then}
use Rattle.image_file.proofs.Kept.{both, both_true}

one_true : (a b : Bool) → (a || b) ≡ true → (a ≡ true) ⊎ (b ≡ true)
one_true true b e = inl refl
one_true false b e = inr e

none_of : (places : List ProcPlace) → length places ≡ 0 → places ≡ []
none_of [] e = refl
none_of (p ∷ ps) e = absurd cc

---- The header's end

-- how long a header is
pub said_length : (v : ℕ) (places : List ProcPlace) → 32 + length (places_said v places) ≡ header_length v
said_length v places = by_two (v == 2)
  where
    by_two : (two : Bool) → 32 + length (if two then number (length places) else []) ≡ (if two then 36 else 32)
    by_two true = refl
    by_two false = refl

-- behind the frame stands what the version says, and then what is behind the header
pub tail_of_header : (bytes : List ℕ) (v : ℕ) (places : List ProcPlace) → AreBytes bytes → header_length v ≤ length bytes → length places ≡ places_in v bytes → drop 32 bytes ≡ places_said v places ++ drop (header_length v) bytes
tail_of_header bytes v places fits = by_two (v == 2)
  where
    by_two : (two : Bool) → (if two then 36 else 32) ≤ length bytes → length places ≡ (if two then field bytes 32 else 0) → drop 32 bytes ≡ (if two then number (length places) else []) ++ drop (if two then 36 else 32) bytes
    by_two true long count = number_then bytes 32 fits (omega (arith, long)) ∙ ap (λ (n : ℕ). number n ++ drop 36 bytes) (sym count)
    by_two false long count = refl

pub header_is_short : (v : ℕ) → header_length v ≤ 36
header_is_short v = by_two (v == 2)
  where
    by_two : (two : Bool) → (if two then 36 else 32) ≤ 36
    by_two true = omega arith
    by_two false = omega arith

pub frame_is_low : (v frame : ℕ) → frame ≤ most_frame v → frame ≤ 65536
frame_is_low v frame = by_two (v == 2)
  where
    by_two : (two : Bool) → frame ≤ (if two then 65536 else 32768) → frame ≤ 65536
    by_two true le = le
    by_two false le = omega (arith, le)

---- An image's version, and what its bytes are tested for

pub record IsTested (image : Image) : Type 0 where
  pub version : is_version image.version ≡ true
  pub frame : is_whole (most_frame image.version) image.frame ≡ true
  pub count : is_count image.version (length image.places) ≡ true

pub in_form_is_tested : (image : Image) → IsInForm image → IsTested image
in_form_is_tested image form =
    elim form.version [
      | inl one ↦ record {
        version = ap is_version one.version;
        frame = ap (λ (v : ℕ). is_whole (most_frame v) image.frame) one.version ∙ both (nat_le image.frame 32768) (image.frame % 8 == 0) (le-leb _ _ one.frame) (eq-eqb _ _ form.whole_frame);
        count = ap (λ (v : ℕ). is_count v (length image.places)) one.version ∙ ap (λ (places : List ProcPlace). length places == 0) one.places;
      }
      | inr two ↦ record {
        version = ap is_version two.version;
        frame = ap (λ (v : ℕ). is_whole (most_frame v) image.frame) two.version ∙ both (nat_le image.frame 65536) (image.frame % 8 == 0) (le-leb _ _ form.frame) (eq-eqb _ _ form.whole_frame);
        count = ap (λ (v : ℕ). is_count v (length image.places)) two.version ∙ both (nat_le 1 (length image.places)) (nat_le (length image.places) 4096) (le-leb _ _ two.some_places) (le-leb _ _ two.few_places);
      }
    ]

pub tested_is_version : (image : Image) → IsTested image → RiseBelow (length image.code) 0 image.places → IsVersionOne image ⊎ IsVersionTwo image
tested_is_version image tests rise =
    elim (one_true (image.version == 1) (image.version == 2) tests.version) [
      | inl one ↦ inl (first (eqb-true _ _ one))
      | inr two ↦ inr (second (eqb-true _ _ two))
    ]
  where
    first : image.version ≡ 1 → IsVersionOne image
    first one =
        let frame : is_whole 32768 image.frame ≡ true = subst (λ (v : ℕ). is_whole (most_frame v) image.frame ≡ true) one tests.frame in
        let count : (length image.places == 0) ≡ true = subst (λ (v : ℕ). is_count v (length image.places) ≡ true) one tests.count in
        record { version = one; frame = leb-true _ _ (both_true (nat_le image.frame 32768) (image.frame % 8 == 0) frame).0; places = none_of image.places (eqb-true _ _ count) }

    second : image.version ≡ 2 → IsVersionTwo image
    second two =
        let count : is_count 2 (length image.places) ≡ true = subst (λ (v : ℕ). is_count v (length image.places) ≡ true) two tests.count in
        let tests = both_true (nat_le 1 (length image.places)) (nat_le (length image.places) 4096) count in
        record { version = two; some_places = leb-true _ _ tests.0; few_places = leb-true _ _ tests.1; places = rise }

-- where the version isn't 2 there are no places
pub no_places : (image : Image) → IsInForm image → (image.version == 2) ≡ false → image.places ≡ []
no_places image form other =
    elim form.version [
      | inl one ↦ one.places
      | inr two ↦ absurd (never (eq-eqb image.version 2 two.version))
    ]
  where
    never : (image.version == 2) ≡ true → ⊥
    never e = let both' : true ≡ false = sym e ∙ other in cc
