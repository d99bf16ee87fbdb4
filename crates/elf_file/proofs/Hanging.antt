-- How the words of a program hang together.
use Rattle.std.proofs.Common.{◌≡◌, ℕ, zero, suc, ◌+◌, ◌^◌, ◌<◌, ◌≤◌, Bool, true, false, List, ◌∷◌, ◌++◌, length, drop, Option, Some, None, if◌then◌else◌, refl, ap, ◌∙◌, length-append, arith}
use Rattle.std.specs.Prelude.{◌==◌, ◌&&◌, nat_lt, slice_get}
use Rattle.std.specs.Option.{option_and_then}
use Rattle.std.proofs.lemmas.Bool.{lt-ltb, ne_eqb}
use Rattle.image_form.specs.declared.image.Image.{Image}
use Rattle.image_form.specs.Form.{IsInForm}
use Rattle.a64_instr.specs.declared.instr.Instr.{Instr}
use Rattle.a64_instr.specs.declared.instr.Instr.TheVariants as i
use Rattle.a64_table.specs.Table.{word_of, InRange}
use Rattle.a64_table.specs.Decode.{decode_of}
use Rattle.a64_table.proofs.Laws.{decodes, found}
use Rattle.elf_file.specs.declared.native.NativeSize.{NativeSize}
use Rattle.elf_file.specs.Runtime.{runtime, service_entry, trap_place}
use Rattle.elf_file.specs.Native.{stub_service, service_of, stubs_in, native_size, stub_place, runtime_place, distance, branch, call, on_frame, native_service, native_trap, native_instr, native_from, native_word, stub_from, stub_words, native_words}
use Rattle.elf_file.specs.Placed.{instr_at, IsOrdinary, Goes, Calls, CallsByStub}
use Rattle.elf_file.proofs.Ranges.{on_frame_fits, branch_decodes, call_decodes, arrives}
use Rattle.elf_file.proofs.Parts.{Split, split, stubs_below, native_there, StubThere, stub_there, runtime_there}

---- A code word and where it stands

-- a word of the table, with what stands before and behind it
record Placed (image : Image) (place : ℕ) (instr : Instr) : Type 0 where
  word : ℕ
  before : List ℕ
  behind : List ℕ
  whole : image.code ≡ before ++ word ∷ behind
  count : place ≡ length before
  is : decode_of word ≡ Some instr

placed_from : (image : Image) (place : ℕ) (instr : Instr) (found : Option ℕ) → slice_get image.code place ≡ found → option_and_then decode_of found ≡ Some instr → Placed image place instr
placed_from image place instr None there e = absurd cc
placed_from image place instr (Some word) there e =
    let s : Split image.code place word = split image.code place word there in
    record { word = word; before = s.before; behind = s.behind; whole = s.whole; count = s.count; is = e }

placed : (image : Image) (place : ℕ) (instr : Instr) → instr_at image.code place ≡ Some instr → Placed image place instr
placed image place instr e = placed_from image place instr (slice_get image.code place) refl e

-- how many stubs are before a word's own, and what its native word is
becomes : (image : Image) (place : ℕ) (instr : Instr) (p : Placed image place instr)
    → slice_get (native_words image) place ≡ Some (word_of (native_instr (native_size image.code) place (stubs_in p.before) instr))
becomes image place instr p =
    let size = native_size image.code in
    let there : slice_get (native_words image) (length p.before) ≡ Some (native_word size (0 + length p.before) (0 + stubs_in p.before) p.word) = native_there image p.before p.word p.behind p.whole in
    let at : 0 + length p.before ≡ place = omega (arith, p.count) in
    let stubs : 0 + stubs_in p.before ≡ stubs_in p.before = omega arith in
    ap (λ (n : ℕ). slice_get (native_words image) n) p.count ∙ there
    ∙ ap (λ (n : ℕ). Some (native_word size n (0 + stubs_in p.before) p.word)) at
    ∙ ap (λ (n : ℕ). Some (native_word size place n p.word)) stubs
    ∙ ap (λ (o : Option Instr). Some (native_from size place (stubs_in p.before) p.word o)) p.is

---- Words that stay

ordinary : (size : NativeSize) (place before : ℕ) (instr : Instr) → IsOrdinary instr → native_instr size place before instr ≡ on_frame instr
ordinary size place before (i.Svc service) h = absurd h
ordinary size place before (i.Brk kind) h = absurd h
ordinary size place before other h = refl

pub stays : (image : Image) (place : ℕ) (instr : Instr) → instr_at image.code place ≡ Some instr → IsOrdinary instr → instr_at (native_words image) place ≡ Some (on_frame instr)
stays image place instr e h =
    let p : Placed image place instr = placed image place instr e in
    let size = native_size image.code in
    let fits : InRange instr = (found p.word instr p.is).0 in
    ap (λ (o : Option ℕ). option_and_then decode_of o) (becomes image place instr p)
    ∙ ap (λ (j : Instr). decode_of (word_of j)) (ordinary size place (stubs_in p.before) instr h)
    ∙ decodes (on_frame instr) (on_frame_fits instr fits)

pub stays_unknown : (image : Image) (place word : ℕ) → slice_get image.code place ≡ Some word → decode_of word ≡ None → slice_get (native_words image) place ≡ Some word
stays_unknown image place word there none =
    let s : Split image.code place word = split image.code place word there in
    let size = native_size image.code in
    ap (λ (n : ℕ). slice_get (native_words image) n) s.count ∙ native_there image s.before word s.behind s.whole
    ∙ ap (λ (o : Option Instr). Some (native_from size (0 + length s.before) (0 + stubs_in s.before) word o)) none

---- Places fit

-- a word's number, its stub's and the runtime's
record Near (image : Image) (place : ℕ) (before : List ℕ) : Type 0 where
  code : place < 262144
  last : runtime_place (native_size image.code) ≤ 1310730
  stub : stub_place (native_size image.code) (stubs_in before) ≤ 1310720

near : (image : Image) → IsInForm image → (place : ℕ) (instr : Instr) (p : Placed image place instr) → Near image place p.before
near image form place instr p =
    let long : length image.code ≡ length p.before + length (p.word ∷ p.behind) = ap (λ (l : List ℕ). length l) p.whole ∙ length-append p.before (p.word ∷ p.behind) in
    let all : stubs_in image.code ≤ length image.code = stubs_below image.code in
    let some : stubs_in p.before ≤ length p.before = stubs_below p.before in
    record {
      code = omega (arith, long, p.count, form.code);
      last = omega (arith, all, form.code);
      stub = omega (arith, long, some, form.code);
    }

goes : (words : List ℕ) (from to : ℕ) → slice_get words from ≡ Some (word_of (branch from to)) → from < 2 ^ 21 → to < 2 ^ 21 → Goes words from to
goes words from to e p q = record {
  field = distance from to;
  is = ap (λ (o : Option ℕ). option_and_then decode_of o) e ∙ branch_decodes from to;
  arrives = arrives from to p q;
}

calls : (words : List ℕ) (from to : ℕ) → slice_get words from ≡ Some (word_of (call from to)) → from < 2 ^ 21 → to < 2 ^ 21 → Calls words from to
calls words from to e p q = record {
  field = distance from to;
  is = ap (λ (o : Option ℕ). option_and_then decode_of o) e ∙ call_decodes from to;
  arrives = arrives from to p q;
}

---- The end and traps

pub ends : (image : Image) → IsInForm image → (place : ℕ) → instr_at image.code place ≡ Some (i.Svc 0) → Goes (native_words image) place (runtime_place (native_size image.code) + service_entry 0)
ends image form place e =
    let p : Placed image place (i.Svc 0) = placed image place (i.Svc 0) e in
    let n : Near image place p.before = near image form place (i.Svc 0) p in
    goes (native_words image) place (runtime_place (native_size image.code) + 163) (becomes image place (i.Svc 0) p) (omega (arith, n.code)) (omega (arith, n.last))

trap_is : (size : NativeSize) (place kind : ℕ) → kind < 16 → native_trap size place kind ≡ call place (runtime_place size + trap_place kind)
trap_is size place kind below = ap (λ (b : Bool). if b then call place (runtime_place size + trap_place kind) else i.Brk kind) (lt-ltb kind 16 below)

pub traps : (image : Image) → IsInForm image → (place kind : ℕ) → instr_at image.code place ≡ Some (i.Brk kind) → kind < 16 → Calls (native_words image) place (runtime_place (native_size image.code) + trap_place kind)
traps image form place kind e below =
    let p : Placed image place (i.Brk kind) = placed image place (i.Brk kind) e in
    let n : Near image place p.before = near image form place (i.Brk kind) p in
    calls (native_words image) place (runtime_place (native_size image.code) + trap_place kind) (becomes image place (i.Brk kind) p ∙ ap (λ (j : Instr). Some (word_of j)) (trap_is (native_size image.code) place kind below)) (omega (arith, n.code)) (omega (arith, n.last, below))

---- Services

service_is : (size : NativeSize) (place before service : ℕ) → 1 ≤ service → service ≤ 4 → native_service size place before service ≡ branch place (stub_place size before)
service_is size place before service low high =
    let some : (service == 0) ≡ false = ne_eqb service 0 (λ e. omega (arith, e)) in
    let few : nat_lt service 5 ≡ true = lt-ltb service 5 (omega arith) in
    let rest : ℕ → Instr = λ k. if nat_lt k 5 then branch place (stub_place size before) else i.Svc k in
    ap (λ (b : Bool). if b then branch place (runtime_place size + service_entry 0) else rest service) some
    ∙ ap (λ (b : Bool). if b then branch place (stub_place size before) else i.Svc service) few

has_stub : (service : ℕ) → 1 ≤ service → service ≤ 4 → stub_service (i.Svc service) ≡ Some service
has_stub service low high =
    let some : nat_lt 0 service ≡ true = lt-ltb 0 service (omega arith) in
    let few : nat_lt service 5 ≡ true = lt-ltb service 5 (omega arith) in
    ap (λ (b : Bool). if b && nat_lt service 5 then Some service else None) some ∙ ap (λ (b : Bool). if true && b then Some service else None) few

entry_small : (service : ℕ) → service_entry service < 250
entry_small zero = omega arith
entry_small (suc zero) = omega arith
entry_small (suc (suc zero)) = omega arith
entry_small (suc (suc (suc zero))) = omega arith
entry_small (suc (suc (suc (suc service)))) = omega arith

pub calls_by_stub : (image : Image) → IsInForm image → (place service : ℕ) → instr_at image.code place ≡ Some (i.Svc service) → 1 ≤ service → service ≤ 4 → CallsByStub image place service
calls_by_stub image form place service e low high =
    let p : Placed image place (i.Svc service) = placed image place (i.Svc service) e in
    let n : Near image place p.before = near image form place (i.Svc service) p in
    let size = native_size image.code in
    let words = native_words image in
    let before = stubs_in p.before in
    let at = stub_place size before in
    let s : StubThere image p.before p.word = stub_there image p.before p.word p.behind p.whole in
    let of : service_of p.word ≡ Some service = ap (λ (o : Option Instr). option_and_then stub_service o) p.is ∙ has_stub service low high in
    let place_is : 0 + length p.before ≡ place = omega (arith, p.count) in
    let before_is : 0 + stubs_in p.before ≡ stubs_in p.before = omega arith in
    let four : stub_words size (0 + length p.before) (0 + stubs_in p.before) p.word ≡ stub_from size place before (Some service) =
    ap (λ (k : ℕ). stub_words size k (0 + stubs_in p.before) p.word) place_is ∙ ap (λ (k : ℕ). stub_words size place k p.word) before_is ∙ ap (λ (o : Option ℕ). stub_from size place before o) of in
    let word_at : (j : ℕ) → slice_get words (at + j) ≡ slice_get (stub_from size place before (Some service) ++ s.rest) j = λ j. s.at j ∙ ap (λ (l : List ℕ). slice_get (l ++ s.rest) j) four in
    let entry_below : service_entry service < 250 = entry_small service in
    let first : slice_get words at ≡ Some (word_of (i.Str 30 31 0)) = ap (λ (k : ℕ). slice_get words k) (omega arith) ∙ word_at 0 in
    record {
      stub = at;
      goes = goes words place at (becomes image place (i.Svc service) p ∙ ap (λ (j : Instr). Some (word_of j)) (service_is size place before service low high)) (omega (arith, n.code)) (omega (arith, n.stub));
      saves = ap (λ (o : Option ℕ). option_and_then decode_of o) first ∙ decodes (i.Str 30 31 0) (omega arith, (omega arith, (omega arith, tt)));
      calls = calls words (at + 1) (runtime_place size + service_entry service) (word_at 1) (omega (arith, n.stub)) (omega (arith, n.last, entry_below));
      restores = ap (λ (o : Option ℕ). option_and_then decode_of o) (word_at 2) ∙ decodes (i.Ldr 30 31 0) (omega arith, (omega arith, (omega arith, tt)));
      returns = goes words (at + 3) (place + 1) (word_at 3) (omega (arith, n.stub)) (omega (arith, n.code));
    }

---- The runtime

pub runtime_stands : (image : Image) → drop (runtime_place (native_size image.code)) (native_words image) ≡ runtime
runtime_stands image = runtime_there image
