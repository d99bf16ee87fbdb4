-- The words of a program, part by part.
use Rattle.std.proofs.Common.{◌≡◌, ℕ, zero, suc, ◌+◌, ◌*◌, ◌≤◌, List, [], ◌∷◌, ◌++◌, length, map, Option, Some, None, refl, sym, ap, ◌∙◌, append_assoc, length-append, arith}
use Rattle.std.specs.Prelude.{slice_get, drop}
use Rattle.std.proofs.lemmas.List.{drop_at}
use Rattle.a64_table.specs.Table.{word_of}
use Rattle.image_form.specs.declared.image.Image.{Image}
use Rattle.image_form.specs.Form.{IsInForm}
use Rattle.elf_file.specs.declared.native.NativeSize.{NativeSize}
use Rattle.elf_file.specs.Runtime.{runtime}
use Rattle.elf_file.specs.Native.{IsSmall, service_of, count_of, stubs_of, stubs_in, native_size, stub_place, runtime_place, native_word, stub_from, stub_words, links, each, all_native, all_stubs, native_words}

---- Lists

-- a list and the word with a number in it
pub record Split (code : List ℕ) (place word : ℕ) : Type 0 where
  pub before : List ℕ
  pub behind : List ℕ
  pub whole : code ≡ before ++ word ∷ behind
  pub count : place ≡ length before

pub split : (code : List ℕ) (place word : ℕ) → slice_get code place ≡ Some word → Split code place word
split [] place word e = absurd cc
split (x ∷ code) zero word e = let same : x ≡ word = cc in record { before = []; behind = code; whole = ap (λ (y : ℕ). y ∷ code) same; count = refl }
split (x ∷ code) (suc place) word e =
    let r : Split code place word = split code place word e in
    record { before = x ∷ r.before; behind = r.behind; whole = ap (λ (l : List ℕ). x ∷ l) r.whole; count = ap (λ (n : ℕ). suc n) r.count }

-- behind some words
pub get_behind : (xs ys : List ℕ) (n j : ℕ) → n ≡ length xs + j → slice_get (xs ++ ys) n ≡ slice_get ys j
get_behind [] ys n j e = ap (λ (k : ℕ). slice_get ys k) (omega arith)
get_behind (x ∷ xs) ys zero j e = absurd (omega arith)
get_behind (x ∷ xs) ys (suc n) j e = get_behind xs ys n j (omega arith)

---- What code words come to one by one

each_at : (f : ℕ → ℕ → ℕ → List ℕ) (p q a b : ℕ) (code : List ℕ) → p ≡ q → a ≡ b → each f p a code ≡ each f q b code
each_at f p q a b code e h = cc

each_append : (f : ℕ → ℕ → ℕ → List ℕ) (place before : ℕ) (xs ys : List ℕ) → each f place before (xs ++ ys) ≡ each f place before xs ++ each f (place + length xs) (before + stubs_in xs) ys
each_append f place before [] ys = each_at f place (place + 0) before (before + 0) ys (omega arith) (omega arith)
each_append f place before (x ∷ xs) ys =
    ap (λ (l : List ℕ). f place before x ++ l) (each_append f (place + 1) (before + stubs_of x) xs ys
    ∙ ap (λ (l : List ℕ). each f (place + 1) (before + stubs_of x) xs ++ l) (each_at f (place + 1 + length xs) (place + suc (length xs)) (before + stubs_of x + stubs_in xs) (before + (stubs_of x + stubs_in xs)) ys (omega arith) (omega arith)))
    ∙ sym (append_assoc (f place before x) (each f (place + 1) (before + stubs_of x) xs) (each f (place + suc (length xs)) (before + (stubs_of x + stubs_in xs)) ys))

-- what the word behind some comes to, and what stands before and behind that
pub each_split : (f : ℕ → ℕ → ℕ → List ℕ) (xs : List ℕ) (word : ℕ) (ys : List ℕ)
    → each f 0 0 (xs ++ word ∷ ys) ≡ each f 0 0 xs ++ (f (0 + length xs) (0 + stubs_in xs) word ++ each f (0 + length xs + 1) (0 + stubs_in xs + stubs_of word) ys)
each_split f xs word ys = each_append f 0 0 xs (word ∷ ys)

pub length_native : (size : NativeSize) (place before : ℕ) (code : List ℕ) → length (each (λ p b word. native_word size p b word ∷ []) place before code) ≡ length code
length_native size place before [] = refl
length_native size place before (x ∷ code) = ap (λ (n : ℕ). suc n) (length_native size (place + 1) (before + stubs_of x) code)

length_stub : (size : NativeSize) (place before : ℕ) (service : Option ℕ) → length (stub_from size place before service) ≡ 4 * count_of service
length_stub size place before None = refl
length_stub size place before (Some service) = refl

pub length_stubs : (size : NativeSize) (place before : ℕ) (code : List ℕ) → length (each (stub_words size) place before code) ≡ 4 * stubs_in code
length_stubs size place before [] = refl
length_stubs size place before (x ∷ code) =
    let here : length (stub_words size place before x) ≡ 4 * stubs_of x = length_stub size place before (service_of x) in
    let rest : length (each (stub_words size) (place + 1) (before + stubs_of x) code) ≡ 4 * stubs_in code = length_stubs size (place + 1) (before + stubs_of x) code in
    omega (arith, here, rest, length-append (stub_words size place before x) (each (stub_words size) (place + 1) (before + stubs_of x) code))

---- Sizes

count_small : (service : Option ℕ) → count_of service ≤ 1
count_small None = omega arith
count_small (Some service) = omega arith

pub stubs_below : (code : List ℕ) → stubs_in code ≤ length code
stubs_below [] = omega arith
stubs_below (x ∷ code) = let here : stubs_of x ≤ 1 = count_small (service_of x) in omega (arith, here, stubs_below code)

pub is_small : (image : Image) → IsInForm image → IsSmall (native_size image.code)
is_small image form = record { words = form.code; stubs = stubs_below image.code }

---- Where the parts stand

pub length_links : (size : NativeSize) (image : Image) → length (map word_of (links size image)) ≡ 10
length_links size image = refl

pub runtime_there : (image : Image) → drop (runtime_place (native_size image.code)) (native_words image) ≡ runtime
unfolding native_words
runtime_there image =
    let size = native_size image.code in
    let a : length (all_native size image.code) ≡ length image.code = length_native size 0 0 image.code in
    let s : length (all_stubs size image.code) ≡ 4 * stubs_in image.code = length_stubs size 0 0 image.code in
    let k : length (map word_of (links size image)) ≡ 10 = length_links size image in
    drop_at (all_native size image.code ++ all_stubs size image.code ++ map word_of (links size image)) runtime (runtime_place size)
    (omega (arith, a, s, k, length-append (all_native size image.code ++ all_stubs size image.code) (map word_of (links size image)), length-append (all_native size image.code) (all_stubs size image.code)))

-- what stands at a code word's number
pub native_there : (image : Image) (xs : List ℕ) (word : ℕ) (ys : List ℕ) → image.code ≡ xs ++ word ∷ ys
    → slice_get (native_words image) (length xs) ≡ Some (native_word (native_size image.code) (0 + length xs) (0 + stubs_in xs) word)
unfolding native_words
native_there image xs word ys is =
    let size = native_size image.code in
    let f : ℕ → ℕ → ℕ → List ℕ = λ p b w. native_word size p b w ∷ [] in
    let rest = each f (0 + length xs + 1) (0 + stubs_in xs + stubs_of word) ys in
    let here = native_word size (0 + length xs) (0 + stubs_in xs) word in
    let a : all_native size image.code ≡ each f 0 0 xs ++ (here ∷ rest) = ap (λ (l : List ℕ). each f 0 0 l) is ∙ each_split f xs word ys in
    let w : native_words image ≡ each f 0 0 xs ++ (here ∷ (rest ++ (all_stubs size image.code ++ (map word_of (links size image) ++ runtime)))) =
    ap (λ (l : List ℕ). l ++ all_stubs size image.code ++ map word_of (links size image) ++ runtime) a ∙ simp append_assoc in
    ap (λ (l : List ℕ). slice_get l (length xs)) w ∙ get_behind (each f 0 0 xs) (here ∷ (rest ++ (all_stubs size image.code ++ (map word_of (links size image) ++ runtime)))) (length xs) 0 (omega (arith, length_native size 0 0 xs))

-- what stands at a stub's
pub record StubThere (image : Image) (xs : List ℕ) (word : ℕ) : Type 0 where
  pub rest : List ℕ
  pub at : (j : ℕ) → slice_get (native_words image) (stub_place (native_size image.code) (stubs_in xs) + j) ≡ slice_get (stub_words (native_size image.code) (0 + length xs) (0 + stubs_in xs) word ++ rest) j

pub stub_there : (image : Image) (xs : List ℕ) (word : ℕ) (ys : List ℕ) → image.code ≡ xs ++ word ∷ ys → StubThere image xs word
unfolding native_words
stub_there image xs word ys is =
    let size = native_size image.code in
    let f = stub_words size in
    let here = stub_words size (0 + length xs) (0 + stubs_in xs) word in
    let rest = each (stub_words size) (0 + length xs + 1) (0 + stubs_in xs + stubs_of word) ys in
    let behind = rest ++ (map word_of (links size image) ++ runtime) in
    let before = all_native size image.code ++ each (stub_words size) 0 0 xs in
    let s : all_stubs size image.code ≡ each (stub_words size) 0 0 xs ++ (here ++ rest) = ap (λ (l : List ℕ). each (stub_words size) 0 0 l) is ∙ each_split (stub_words size) xs word ys in
    let w : native_words image ≡ before ++ (here ++ behind) =
    ap (λ (l : List ℕ). all_native size image.code ++ l ++ map word_of (links size image) ++ runtime) s ∙ simp append_assoc in
    let long : length before ≡ size.words + 4 * stubs_in xs = omega (arith, length-append (all_native size image.code) (each (stub_words size) 0 0 xs), length_native size 0 0 image.code, length_stubs size 0 0 xs) in
    record {
      rest = behind;
      at = λ j. ap (λ (l : List ℕ). slice_get l (stub_place size (stubs_in xs) + j)) w ∙ get_behind before (here ++ behind) (stub_place size (stubs_in xs) + j) j (omega (arith, long));
    }
