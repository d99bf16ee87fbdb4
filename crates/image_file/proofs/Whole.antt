-- An image in form and its bytes.
use Rattle.std.proofs.Common.{◌≡◌, inl, inr, ℕ, ◌+◌, ◌-◌, ◌*◌, ◌%◌, ◌^◌, ◌<◌, ◌≤◌, ◌==◌, Bool, true, false, if◌then◌else◌, List, [], ◌++◌, length, take, drop, Option, Some, None, Result, Ok, Err, refl, sym, ap, ap₂, subst, ◌∙◌, append_assoc, length-append, arith}
use Rattle.std.specs.Prelude.{nat_le, IfOk}
use Rattle.std.specs.Result.{IfErr}
use Rattle.std.specs.List.{flat_map}
use Rattle.std.specs.Str.{bytes_eq}
use Rattle.std.proofs.lemmas.Bool.{eqb-true, eq-eqb, leb-true, le-leb}
use Rattle.std.proofs.lemmas.Slice.Eq.{bytes_eq-Decides}
use Rattle.std.proofs.lemmas.List.{take-append-drop, take_at, drop_at, drop-drop, length-drop, length-take-le, take_rest, append-nil}
use Rattle.image_form.specs.declared.image.Image.{Image}
use Rattle.image_form.specs.declared.image.ProcPlace.{ProcPlace}
use Rattle.image_form.specs.Places.{RiseBelow}
use Rattle.image_form.specs.Form.{IsInForm}
use Rattle.image_form.proofs.Formed.{places_rise, few_places}
use Rattle.image_file.specs.Spelling.{mark, number, place_numbers, places_said, image_bytes, AreWords, IsOfWords}
use Rattle.image_file.specs.declared.fault.ImageFault.{ImageFault}
use Rattle.image_file.specs.declared.fault.ImageFault.TheVariants.{Fault, Memory}
use Rattle.image_file.specs.declared.rules.Header.{Header}
use Rattle.image_file.specs.Rules.{Broken, first_of, field, is_version, header_length, most_frame, places_in, is_count, is_whole, said, first_constant, first_place, asked, place_rules, first_fault, Refuses, Gives}
use Rattle.image_file.proofs.Numbers.{AreBytes, number_then, number_again, words_are_same, length_of_words}
use Rattle.image_file.proofs.Kept.{Keeps, keeps_all, no_fault, both, both_true}
use Rattle.image_file.proofs.Places.{place_bytes, length_of_places, places_are_same, rise_keeps, kept_rise}
use Rattle.image_file.proofs.Versions.{said_length, tail_of_header, frame_is_low, IsTested, in_form_is_tested, tested_is_version, no_places}

same_bytes : (xs ys : List ℕ) → bytes_eq xs ys ≡ true → xs ≡ ys
same_bytes xs ys e = (bytes_eq-Decides xs ys).0 e

---- From bytes to an image

-- what the bytes of a header say, with some code, constants and places
abbrev image_at : List ℕ → List ℕ → List ℕ → List ProcPlace → Image
image_at bytes code constants places = record { version = field bytes 8; flags = field bytes 12; code = code; globals = field bytes 20; constants = constants; frame = field bytes 28; places = places }

-- what is read of bytes has the lengths that the header says
record HasLengths (bytes ws cs : List ℕ) (ps : List ProcPlace) : Type 0 where
  code : length ws ≡ field bytes 16
  constants : length cs ≡ field bytes 24
  places : length ps ≡ places_in (field bytes 8) bytes

made_in_form : (bytes code constants : List ℕ) (places : List ProcPlace) → Keeps bytes → HasLengths bytes code constants places → RiseBelow (length code) 0 places → IsInForm (image_at bytes code constants places)
made_in_form bytes code constants places k has rise =
    let c = both_true (nat_le 1 (field bytes 16)) (nat_le (field bytes 16) 262144) k.code in
    let g = both_true (nat_le (field bytes 20) 8388608) (field bytes 20 % 8 == 0) k.globals in
    let d = both_true (nat_le (field bytes 24) 2097152) (field bytes 24 % 8 == 0) k.constants in
    let f = both_true (nat_le (field bytes 28) (most_frame (field bytes 8))) (field bytes 28 % 8 == 0) k.frame in
    let tests : IsTested (image_at bytes code constants places) = record { version = k.version; frame = k.frame; count = ap (λ (n : ℕ). is_count (field bytes 8) n) has.places ∙ k.count } in
    record {
      version = tested_is_version (image_at bytes code constants places) tests rise;
      flags = omega (arith, leb-true _ _ k.flags);
      some_code = omega (arith, has.code, leb-true _ _ c.0);
      code = omega (arith, has.code, leb-true _ _ c.1);
      globals = leb-true _ _ g.0;
      constants = omega (arith, has.constants, leb-true _ _ d.0);
      frame = frame_is_low (field bytes 8) (field bytes 28) (leb-true _ _ f.0);
      whole_globals = eqb-true _ _ g.1;
      whole_constants = ap (λ (n : ℕ). n % 8) has.constants ∙ eqb-true _ _ d.1;
      whole_frame = eqb-true _ _ f.1;
    }

four_parts : (s w c p : List ℕ) → s ++ w ++ c ++ p ≡ s ++ (w ++ c ++ p)
four_parts s w c p = ap (λ (xs : List ℕ). xs ++ p) (append_assoc s w c) ∙ append_assoc s (w ++ c) p

-- what stands behind the header
record Stands (bytes ws cs : List ℕ) (ps : List ProcPlace) : Type 0 where
  code : flat_map number ws ≡ take (4 * field bytes 16) (drop (header_length (field bytes 8)) bytes)
  constants : cs ≡ take (field bytes 24) (drop (first_constant (said bytes)) bytes)
  places : place_bytes ps ≡ drop (first_place (said bytes)) bytes

stands_behind : (bytes code constants : List ℕ) (places : List ProcPlace) → Stands bytes code constants places → drop (header_length (field bytes 8)) bytes ≡ flat_map number code ++ constants ++ place_bytes places
stands_behind bytes code constants places stands =
    let h = header_length (field bytes 8) in
    let n = 4 * field bytes 16 in
    let m = field bytes 24 in
    let others : drop (h + n) bytes ≡ constants ++ place_bytes places =
    sym (take-append-drop m (drop (h + n) bytes)) ∙ ap (λ (xs : List ℕ). xs ++ drop m (drop (h + n) bytes)) (sym stands.constants)
    ∙ ap (λ (xs : List ℕ). constants ++ xs) (drop-drop m (h + n) bytes ∙ sym stands.places) in
    sym (take-append-drop n (drop h bytes)) ∙ ap (λ (xs : List ℕ). xs ++ drop n (drop h bytes)) (sym stands.code)
    ∙ ap (λ (xs : List ℕ). flat_map number code ++ xs) (drop-drop n h bytes ∙ others) ∙ sym (append_assoc (flat_map number code) constants (place_bytes places))

made_spells : (bytes code constants : List ℕ) (places : List ProcPlace) → AreBytes bytes → Keeps bytes → HasLengths bytes code constants places → Stands bytes code constants places → bytes ≡ image_bytes (image_at bytes code constants places)
unfolding image_bytes
made_spells bytes code constants places fits k has stands =
    let version = field bytes 8 in
    let end : List ℕ = places_said version places ++ flat_map number code ++ constants ++ place_bytes places in
    let begins : take 8 bytes ≡ mark = same_bytes (take 8 bytes) mark k.marked in
    let long : 32 ≤ length bytes = leb-true _ _ k.long in
    let tail : drop 32 bytes ≡ end =
    tail_of_header bytes version places fits (leb-true _ _ k.whole) has.places ∙ ap (λ (xs : List ℕ). places_said version places ++ xs) (stands_behind bytes code constants places stands)
    ∙ sym (four_parts (places_said version places) (flat_map number code) constants (place_bytes places)) in
    let numbers : drop 8 bytes ≡ number version ++ (number (field bytes 12) ++ (number (length code) ++ (number (field bytes 20) ++ (number (length constants) ++ (number (field bytes 28) ++ end))))) =
    number_then bytes 8 fits (omega (arith, long))
    ∙ ap (λ (xs : List ℕ). number version ++ xs) (number_then bytes 12 fits (omega (arith, long))
    ∙ ap (λ (xs : List ℕ). number (field bytes 12) ++ xs) (number_then bytes 16 fits (omega (arith, long)) ∙ ap (λ (n : ℕ). number n ++ drop 20 bytes) (sym has.code)
    ∙ ap (λ (xs : List ℕ). number (length code) ++ xs) (number_then bytes 20 fits (omega (arith, long))
    ∙ ap (λ (xs : List ℕ). number (field bytes 20) ++ xs) (number_then bytes 24 fits (omega (arith, long)) ∙ ap (λ (n : ℕ). number n ++ drop 28 bytes) (sym has.constants)
    ∙ ap (λ (xs : List ℕ). number (length constants) ++ xs) (number_then bytes 28 fits (omega (arith, long))
    ∙ ap (λ (xs : List ℕ). number (field bytes 28) ++ xs) tail))))) in
    sym (take-append-drop 8 bytes) ∙ ap (λ (xs : List ℕ). xs ++ drop 8 bytes) begins ∙ ap (λ (xs : List ℕ). mark ++ xs) numbers

---- From an image to bytes

-- what is behind the header
abbrev parts : Image → List ℕ
parts image = flat_map number image.code ++ image.constants ++ place_bytes image.places

-- the bytes, over whether the version is 2
abbrev bytes_if : Image → Bool → List ℕ
bytes_if image two =
    mark ++ number image.version ++ number image.flags ++ number (length image.code) ++ number image.globals ++ number (length image.constants) ++ number image.frame ++ (if two then number (length image.places) else [])
    ++ flat_map number image.code ++ image.constants ++ place_bytes image.places

behind_header : (image : Image) → drop (header_length image.version) (image_bytes image) ≡ parts image
unfolding image_bytes
behind_header image = by_two (image.version == 2)
  where
    by_two : (two : Bool) → drop (if two then 36 else 32) (bytes_if image two) ≡ parts image
    by_two true = refl
    by_two false = refl

behind_code : (image : Image) → drop (header_length image.version + 4 * length image.code) (image_bytes image) ≡ image.constants ++ place_bytes image.places
behind_code image =
    sym (drop-drop (4 * length image.code) (header_length image.version) (image_bytes image))
    ∙ ap (λ (xs : List ℕ). drop (4 * length image.code) xs) (behind_header image ∙ append_assoc (flat_map number image.code) image.constants (place_bytes image.places))
    ∙ drop_at (flat_map number image.code) (image.constants ++ place_bytes image.places) (4 * length image.code) (length_of_words image.code)

behind_constants : (image : Image) → drop (header_length image.version + 4 * length image.code + length image.constants) (image_bytes image) ≡ place_bytes image.places
behind_constants image =
    sym (drop-drop (length image.constants) (header_length image.version + 4 * length image.code) (image_bytes image)) ∙ ap (λ (xs : List ℕ). drop (length image.constants) xs) (behind_code image)
    ∙ drop_at image.constants (place_bytes image.places) (length image.constants) refl

pub length_of_image : (image : Image) → length (image_bytes image) ≡ header_length image.version + 4 * length image.code + length image.constants + 12 * length image.places
unfolding image_bytes
length_of_image image =
    omega (
      arith,
      length-append (places_said image.version image.places ++ flat_map number image.code ++ image.constants) (place_bytes image.places),
      length-append (places_said image.version image.places ++ flat_map number image.code) image.constants,
      length-append (places_said image.version image.places) (flat_map number image.code),
      said_length image.version image.places,
      length_of_words image.code,
      length_of_places image.places,
    )

-- what is read of it at each place
version_again : (image : Image) → image.version < 2 ^ 32 → field (image_bytes image) 8 ≡ image.version
unfolding image_bytes
version_again image lt = number_again image.version lt

flags_again : (image : Image) → image.flags < 2 ^ 32 → field (image_bytes image) 12 ≡ image.flags
unfolding image_bytes
flags_again image lt = number_again image.flags lt

code_again : (image : Image) → length image.code < 2 ^ 32 → field (image_bytes image) 16 ≡ length image.code
unfolding image_bytes
code_again image lt = number_again (length image.code) lt

globals_again : (image : Image) → image.globals < 2 ^ 32 → field (image_bytes image) 20 ≡ image.globals
unfolding image_bytes
globals_again image lt = number_again image.globals lt

constants_again : (image : Image) → length image.constants < 2 ^ 32 → field (image_bytes image) 24 ≡ length image.constants
unfolding image_bytes
constants_again image lt = number_again (length image.constants) lt

frame_again : (image : Image) → image.frame < 2 ^ 32 → field (image_bytes image) 28 ≡ image.frame
unfolding image_bytes
frame_again image lt = number_again image.frame lt

places_again : (image : Image) → IsInForm image → places_in image.version (image_bytes image) ≡ length image.places
unfolding image_bytes
places_again image form = by_two (image.version == 2) (no_places image form)
  where
    by_two : (two : Bool) → (two ≡ false → image.places ≡ []) → (if two then field (bytes_if image two) 32 else 0) ≡ length image.places
    by_two true none = number_again (length image.places) (omega (arith, few_places image form))
    by_two false none = sym (ap (λ (places : List ProcPlace). length places) (none refl))

-- its numbers have 32 bits
record HasNumbers (image : Image) : Type 0 where
  version : field (image_bytes image) 8 ≡ image.version
  flags : field (image_bytes image) 12 ≡ image.flags
  code : field (image_bytes image) 16 ≡ length image.code
  globals : field (image_bytes image) 20 ≡ image.globals
  constants : field (image_bytes image) 24 ≡ length image.constants
  frame : field (image_bytes image) 28 ≡ image.frame
  places : places_in (field (image_bytes image) 8) (image_bytes image) ≡ length image.places

version_is_low : (image : Image) → IsInForm image → image.version ≤ 2
version_is_low image form =
    elim form.version [
      | inl one ↦ omega (arith, one.version)
      | inr two ↦ omega (arith, two.version)
    ]

has_numbers : (image : Image) → IsInForm image → HasNumbers image
has_numbers image form =
    let version = version_again image (omega (arith, version_is_low image form)) in
    record {
      version = version;
      flags = flags_again image (omega (arith, form.flags));
      code = code_again image (omega (arith, form.code));
      globals = globals_again image (omega (arith, form.globals));
      constants = constants_again image (omega (arith, form.constants));
      frame = frame_again image (omega (arith, form.frame));
      places = ap (λ (v : ℕ). places_in v (image_bytes image)) version ∙ places_again image form;
    }

-- what its header says
said_again : (image : Image) → IsInForm image
    → said (image_bytes image) ≡ record { version = image.version; flags = image.flags; words = length image.code; globals = image.globals; constants = length image.constants; frame = image.frame; places = length image.places }
said_again image form = let n = has_numbers image form in λ i. record {
  version = n.version i;
  flags = n.flags i;
  words = n.code i;
  globals = n.globals i;
  constants = n.constants i;
  frame = n.frame i;
  places = n.places i;
}

image_places_keep : (image : Image) → IsInForm image → first_of (place_rules (image_bytes image) (length image.code) (header_length image.version + 4 * length image.code + length image.constants) 0 (length image.places)) ≡ None
image_places_keep image form =
    rise_keeps (image_bytes image) (length image.code) _ 0 image.places [] (omega (arith, form.code)) (behind_constants image ∙ sym (append-nil (place_bytes image.places))) (places_rise image form)

marked_again : (image : Image) → bytes_eq (take 8 (image_bytes image)) mark ≡ true
unfolding image_bytes
marked_again image = refl

pub image_keeps : (image : Image) → IsInForm image → Keeps (image_bytes image)
image_keeps image form =
    let bytes = image_bytes image in
    let n = has_numbers image form in
    let t = in_form_is_tested image form in
    let h = said_again image form in
    let long = length_of_image image in
    let head : header_length (field bytes 8) ≡ header_length image.version = ap header_length n.version in
    let all : length bytes ≡ asked (said bytes) = long ∙ sym (ap asked h) in
    let said_length' = said_length image.version image.places in
    record {
      long = le-leb _ _ (omega (arith, long, said_length'));
      marked = marked_again image;
      version = ap is_version n.version ∙ t.version;
      whole = le-leb _ _ (omega (arith, long, head));
      flags = le-leb _ _ (omega (arith, n.flags, form.flags));
      code = both (nat_le 1 (field bytes 16)) (nat_le (field bytes 16) 262144) (le-leb _ _ (omega (arith, n.code, form.some_code))) (le-leb _ _ (omega (arith, n.code, form.code)));
      globals = both (nat_le (field bytes 20) 8388608) (field bytes 20 % 8 == 0) (le-leb _ _ (omega (arith, n.globals, form.globals))) (eq-eqb _ _ (ap (λ (k : ℕ). k % 8) n.globals ∙ form.whole_globals));
      constants = both (nat_le (field bytes 24) 2097152) (field bytes 24 % 8 == 0) (le-leb _ _ (omega (arith, n.constants, form.constants))) (eq-eqb _ _ (ap (λ (k : ℕ). k % 8) n.constants ∙ form.whole_constants));
      frame = ap₂ (λ (v k : ℕ). is_whole (most_frame v) k) n.version n.frame ∙ t.frame;
      count = ap₂ (λ (v k : ℕ). is_count v k) n.version n.places ∙ t.count;
      enough = le-leb _ _ (omega (arith, all));
      ended = eq-eqb _ _ all;
      places = ap (λ (x : Header). first_of (place_rules bytes x.words (first_place x) 0 x.places)) h ∙ image_places_keep image form;
    }

---- Two images

same_image : (a b : Image) → a.version ≡ b.version → a.flags ≡ b.flags → a.code ≡ b.code → a.globals ≡ b.globals → a.constants ≡ b.constants → a.frame ≡ b.frame → a.places ≡ b.places → a ≡ b
same_image a b version flags code globals constants frame places = λ i. record {
  version = version i;
  flags = flags i;
  code = code i;
  globals = globals i;
  constants = constants i;
  frame = frame i;
  places = places i;
}

-- images in form with the same bytes are the same
pub images_are_same : (a b : Image) → IsInForm a → IsInForm b → IsOfWords a → IsOfWords b → image_bytes a ≡ image_bytes b → a ≡ b
images_are_same a b a_form b_form a_words b_words same =
    let m = has_numbers a a_form in
    let n = has_numbers b b_form in
    let at : (k : ℕ) → field (image_bytes a) k ≡ field (image_bytes b) k = λ k. ap (λ (xs : List ℕ). field xs k) same in
    let version : a.version ≡ b.version = sym m.version ∙ at 8 ∙ n.version in
    let flags : a.flags ≡ b.flags = sym m.flags ∙ at 12 ∙ n.flags in
    let globals : a.globals ≡ b.globals = sym m.globals ∙ at 20 ∙ n.globals in
    let frame : a.frame ≡ b.frame = sym m.frame ∙ at 28 ∙ n.frame in
    let count : length a.code ≡ length b.code = sym m.code ∙ at 16 ∙ n.code in
    let cells : length a.constants ≡ length b.constants = sym m.constants ∙ at 24 ∙ n.constants in
    let head : header_length a.version ≡ header_length b.version = ap header_length version in
    let words : ℕ = 4 * length a.code in
    let behind : flat_map number a.code ++ (a.constants ++ place_bytes a.places) ≡ flat_map number b.code ++ (b.constants ++ place_bytes b.places) =
    sym (behind_header a ∙ append_assoc (flat_map number a.code) a.constants (place_bytes a.places)) ∙ ap₂ (λ (k : ℕ) (xs : List ℕ). drop k xs) head same
    ∙ (behind_header b ∙ append_assoc (flat_map number b.code) b.constants (place_bytes b.places)) in
    let a_long : length (flat_map number a.code) ≡ words = length_of_words a.code in
    let b_long : length (flat_map number b.code) ≡ words = length_of_words b.code ∙ ap (λ (k : ℕ). 4 * k) (sym count) in
    let code : a.code ≡ b.code = words_are_same a.code b.code a_words.code b_words.code
    (sym (take_at (flat_map number a.code) (a.constants ++ place_bytes a.places) words a_long) ∙ ap (λ (xs : List ℕ). take words xs) behind ∙ take_at (flat_map number b.code) (b.constants ++ place_bytes b.places) words b_long) in
    let others : a.constants ++ place_bytes a.places ≡ b.constants ++ place_bytes b.places =
    sym (drop_at (flat_map number a.code) (a.constants ++ place_bytes a.places) words a_long) ∙ ap (λ (xs : List ℕ). drop words xs) behind ∙ drop_at (flat_map number b.code) (b.constants ++ place_bytes b.places) words b_long in
    let constants : a.constants ≡ b.constants =
    sym (take_at a.constants (place_bytes a.places) (length a.constants) refl) ∙ ap (λ (xs : List ℕ). take (length a.constants) xs) others ∙ take_at b.constants (place_bytes b.places) (length a.constants) (sym cells) in
    let last : place_bytes a.places ≡ place_bytes b.places =
    sym (drop_at a.constants (place_bytes a.places) (length a.constants) refl) ∙ ap (λ (xs : List ℕ). drop (length a.constants) xs) others ∙ drop_at b.constants (place_bytes b.places) (length a.constants) (sym cells) in
    let places : a.places ≡ b.places = places_are_same a.places b.places (words_are_same (place_numbers a.places) (place_numbers b.places) a_words.places b_words.places last) in
    same_image a b version flags code globals constants frame places

---- What is read

-- bytes of an image in form break no rule
pub image_has_no_fault : (bytes : List ℕ) (image : Image) → IsInForm image → bytes ≡ image_bytes image → first_fault bytes ≡ None
image_has_no_fault bytes image form is = rw is (no_fault (image_bytes image) (image_keeps image form))

-- so what bytes come to is that image, unless memory ran out
pub gives_image : (bytes : List ℕ) (r : Result Image ImageFault) → IfOk r (λ image. IsInForm image) → IfOk r (λ image. IsOfWords image) → IfOk r (λ image. bytes ≡ image_bytes image) → IfErr r (λ e. Refuses e (first_fault bytes))
    → (image : Image) → IsInForm image → IsOfWords image → bytes ≡ image_bytes image → Gives image r
gives_image bytes (Ok found) in_form words read fault image form also is = images_are_same found image in_form form words also (sym read ∙ is)
gives_image bytes (Err Memory) in_form words read fault image form also is = tt
gives_image bytes (Err (Fault number at)) in_form words read fault image form also is = absurd (not_both (image_has_no_fault bytes image form is) fault)
  where
    not_both : {x : Option Broken} {y : Broken} → x ≡ None → x ≡ Some y → ⊥
    not_both e f = cc

-- an image made of what bytes keep
pub record Makes (bytes : List ℕ) (image : Image) : Type 0 where
  pub form : IsInForm image
  pub is : bytes ≡ image_bytes image

-- what an image made of bytes with a header is to have
pub record Reads (bytes : List ℕ) (h : Header) (image : Image) : Type 0 where
  pub version : image.version ≡ h.version
  pub flags : image.flags ≡ h.flags
  pub count : length image.code ≡ h.words
  pub code : flat_map number image.code ≡ take (4 * h.words) (drop (header_length h.version) bytes)
  pub globals : image.globals ≡ h.globals
  pub constants : image.constants ≡ take (first_place h - first_constant h) (drop (first_constant h) bytes)
  pub frame : image.frame ≡ h.frame
  pub few : length image.places ≡ h.places
  pub places : place_bytes image.places ≡ take (12 * h.places) (drop (first_place h) bytes)
  pub words : AreWords (place_numbers image.places)

made : (bytes : List ℕ) (image : Image) → AreBytes bytes → Keeps bytes → length bytes ≡ asked (said bytes) → Reads bytes (said bytes) image → Makes bytes image
made bytes image fits k ended reads =
    let h = said bytes in
    let between : first_place h - first_constant h ≡ h.constants = omega arith in
    let constants : image.constants ≡ take h.constants (drop (first_constant h) bytes) = reads.constants ∙ ap (λ (n : ℕ). take n (drop (first_constant h) bytes)) between in
    let cells : length image.constants ≡ h.constants =
    ap (λ (xs : List ℕ). length xs) constants ∙ length-take-le h.constants (drop (first_constant h) bytes) (omega (arith, ended, length-drop (first_constant h) bytes)) in
    let left : 12 * h.places ≡ length bytes - first_place h = omega (arith, ended) in
    let places : place_bytes image.places ≡ drop (first_place h) bytes = reads.places ∙ ap (λ (n : ℕ). take n (drop (first_place h) bytes)) left ∙ take_rest bytes (first_place h) in
    let stands : Stands bytes image.code image.constants image.places = record { code = reads.code; constants = constants; places = places } in
    let has : HasLengths bytes image.code image.constants image.places = record { code = reads.count; constants = cells; places = reads.few } in
    let kept : first_of (place_rules bytes h.words (first_place h) 0 (length image.places)) ≡ None = ap (λ (n : ℕ). first_of (place_rules bytes h.words (first_place h) 0 n)) reads.few ∙ k.places in
    let rise : RiseBelow h.words 0 image.places = kept_rise bytes h.words (first_place h) 0 image.places [] reads.words (sym places ∙ sym (append-nil (place_bytes image.places))) kept in
    let rise' : RiseBelow (length image.code) 0 image.places = subst (λ (n : ℕ). RiseBelow n 0 image.places) (sym reads.count) rise in
    let makes' : Makes bytes (image_at bytes image.code image.constants image.places) = record {
      form = made_in_form bytes image.code image.constants image.places k has rise';
      is = made_spells bytes image.code image.constants image.places fits k has stands;
    } in
    subst (λ (i : Image). Makes bytes i) (same_image (image_at bytes image.code image.constants image.places) image (sym reads.version) (sym reads.flags) refl (sym reads.globals) refl (sym reads.frame) refl) makes'

pub makes : (bytes : List ℕ) (h : Header) (image : Image) → AreBytes bytes → first_fault bytes ≡ None → h ≡ said bytes → length bytes ≡ asked h → Reads bytes h image → Makes bytes image
makes bytes h image fits none is ended reads = made bytes image fits (keeps_all bytes none) (ended ∙ ap asked is) (subst (λ (x : Header). Reads bytes x image) is reads)
