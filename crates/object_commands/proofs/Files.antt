-- Files of objects that are read one after the other.
use Rattle.std.proofs.Common.{◌≡◌, ◌<◌, ◌≤◌, ◌+◌, ℕ, zero, suc, List, [], ◌∷◌, ◌++◌, length, map, take, get_or, Option, Some, None, Result, Ok, Err, IfOk, IfErr, refl, sym, ap, ◌∙◌, subst, arith}
use Rattle.std.specs.Prelude.{slice_get}
use Rattle.std.specs.List.{AllByRecursion}
use Rattle.std.specs.Borrow.{Bor}
use Rattle.std.proofs.lemmas.List.{take_more, map-append}
use Rattle.std.proofs.lemmas.List.Elements.{All-from_recursion}
use Rattle.outside.specs.Files.{Held, ToldOfRead}
use Rattle.outside.specs.declared.files.GetFault.TheVariants as get
use Rattle.object_form.specs.declared.object.Object.{Object}
use Rattle.object_form.specs.Objects.{IsObject}
use Rattle.obj_link.specs.Joining.{texts_of}
use Rattle.trc_answers.specs.Verdict.{IsHeld}
use Rattle.trc_answers.specs.Causes.{IsPlain}
use Rattle.trc_answers.specs.declared.causes.Cause.{Cause}
use Rattle.trc_answers.specs.declared.causes.Cause.TheVariants.{NoSuchFile, Memory}
use Rattle.trc_answers.proofs.Answering.{long_bytes}
use Rattle.object_commands.specs.Links.{AreHeld, AreObjectsIn, IsFirstBroken, IsNoObject, IsObjectIn, IsTextOfObject, IsTooLong}
use Rattle.object_commands.specs.Reading.{AreContents, AreContentsHeld, AreFew, AreUnread, IsContent, IsContentHeld, IsTextIn, IsUnreadAt, IsMissing, Failed, LacksMemory, LackOne, OneFailed, LackMemory}
use Rattle.object_commands.specs.declared.reading.Content.{Content}
use Rattle.object_commands.specs.declared.reading.Content.TheVariants.{Broken}
use Rattle.object_commands.specs.declared.reading.Contents.{Contents}
use Rattle.object_commands.specs.declared.reading.Contents.TheVariants.{Objects, NotObject}

---- Lists with one more

take_front : {A : Type 0} (xs ys : List A) → take (length xs) (xs ++ ys) ≡ xs
take_front [] ys = refl
take_front (x ∷ xs) ys = ap (λ zs. x ∷ zs) (take_front xs ys)

at_end : {A : Type 0} (xs : List A) (y : A) → slice_get (xs ++ y ∷ []) (length xs) ≡ Some y
at_end [] y = refl
at_end (x ∷ xs) y = at_end xs y

taken_front : {A : Type 0} (xs ys : List A) (n : ℕ) (x : A) → slice_get xs n ≡ Some x → take n (xs ++ ys) ≡ take n xs
taken_front [] ys zero x e = absurd (let z = e in cc)
taken_front [] ys (suc n) x e = absurd (let z = e in cc)
taken_front (y ∷ xs) ys zero x e = refl
taken_front (y ∷ xs) ys (suc n) x e = ap (λ zs. y ∷ zs) (taken_front xs ys n x e)

there_front : {A : Type 0} (xs ys : List A) (n : ℕ) (x : A) → slice_get xs n ≡ Some x → slice_get (xs ++ ys) n ≡ Some x
there_front [] ys zero x e = absurd (let z = e in cc)
there_front [] ys (suc n) x e = absurd (let z = e in cc)
there_front (y ∷ xs) ys zero x e = e
there_front (y ∷ xs) ys (suc n) x e = there_front xs ys n x e

---- Objects

objects_more : (contents : List (List ℕ)) (objects : List Object) (bytes : List ℕ) (object : Object) → AreObjectsIn contents objects → IsObjectIn bytes object → AreObjectsIn (contents ++ bytes ∷ []) (objects ++ object ∷ [])
objects_more [] [] bytes object h one = (one, tt)
objects_more [] (o ∷ objects) bytes object h one = absurd h
objects_more (b ∷ contents) [] bytes object h one = absurd h
objects_more (b ∷ contents) (o ∷ objects) bytes object h one = (h.0, objects_more contents objects bytes object h.1 one)

pub objects_with : (contents : List (List ℕ)) (objects after : List Object) (bytes : List ℕ) (object : Object) → after ≡ objects ++ object ∷ [] → AreObjectsIn contents objects → IsObjectIn bytes object → AreObjectsIn (contents ++ bytes ∷ []) after
objects_with contents objects after bytes object e h one = subst (AreObjectsIn (contents ++ bytes ∷ [])) (sym e) (objects_more contents objects bytes object h one)

-- the bytes behind objects are none
pub broken_now : (contents : List (List ℕ)) (objects : List Object) (bytes : List ℕ) (word number at : ℕ) → length contents ≡ word → AreObjectsIn contents objects → IsNoObject bytes number at → IsFirstBroken (contents ++ bytes ∷ []) word number at
broken_now contents objects bytes word number at count h broken =
    subst (λ n. IsFirstBroken (contents ++ bytes ∷ []) n number at) count
    (record { objects = objects; before = subst (λ xs. AreObjectsIn xs objects) (sym (take_front contents (bytes ∷ []))) h; bytes = bytes; there = at_end contents bytes; broken = broken })

-- some before them were
pub broken_before : (contents : List (List ℕ)) (bytes : List ℕ) (word number at : ℕ) → IsFirstBroken contents word number at → IsFirstBroken (contents ++ bytes ∷ []) word number at
broken_before contents bytes word number at h = record {
  objects = h.objects;
  before = subst (λ xs. AreObjectsIn xs h.objects) (sym (taken_front contents (bytes ∷ []) word h.bytes h.there)) h.before;
  bytes = h.bytes;
  there = there_front contents (bytes ∷ []) word h.bytes h.there;
  broken = h.broken;
}

-- where there is no memory for one more
pub none_more : (r : Result Contents Cause) (P : Contents → Type 0) → (c : Cause) → r ≡ Err c → IfOk r P
none_more r P c e = subst (λ x. IfOk x P) (sym e) tt

---- One file

pub content_held : (held : Option Held) (name slice bytes : List ℕ) (r : Result Content Cause) → IsHeld held name (Some bytes) → slice ≡ bytes → IfOk r (IsContent slice) → IfOk r (IsContentHeld held name)
content_held held name slice bytes (Ok content) there same is = record { bytes = bytes; is_held = there; is = subst (λ xs. IsContent xs content) same is }
content_held held name slice bytes (Err cause) there same is = tt

pub lacks_content : (held : Option Held) (number : ℕ) (name : List ℕ) (m n : ℕ) (r : Result Content Cause) → IfErr r (λ c. c ≡ Memory) → IfErr r (λ c. IsUnreadAt held number name m n c)
lacks_content held number name m n (Ok content) e = tt
lacks_content held number name m n (Err c) e = LacksMemory e

pub plain_content : (r : Result Content Cause) → IfErr r (λ c. c ≡ Memory) → IfErr r IsPlain
plain_content (Ok content) e = tt
plain_content (Err c) e = subst IsPlain (sym e) tt

pub plain_contents : (r : Result Contents Cause) → IfErr r (λ c. c ≡ Memory) → IfErr r IsPlain
plain_contents (Ok content) e = tt
plain_contents (Err c) e = subst IsPlain (sym e) tt

pub long_content : (held : Option Held) (name : List ℕ) → ToldOfRead held name 67108864 (Err get.TooLong) → IsContentHeld held name (Broken 84 67108864)
long_content held name told = let long = long_bytes held name 67108864 told in record { bytes = long.0; is_held = long.1; is = IsTooLong long.2 refl refl }

pub no_file : (held : Option Held) (number : ℕ) (name : List ℕ) (m n : ℕ) → ToldOfRead held name 67108864 (Err get.NoSuchFile) → IsUnreadAt held number name m n (NoSuchFile number)
no_file None number name m n told = IsMissing tt refl
no_file (Some h) number name m n told = IsMissing told refl

---- Several files

held_more : (held : Option Held) (names contents : List (List ℕ)) (name bytes : List ℕ) → AreHeld held names contents → IsHeld held name (Some bytes) → AreHeld held (names ++ name ∷ []) (contents ++ bytes ∷ [])
held_more held [] [] name bytes h one = (one, tt)
held_more held [] (b ∷ contents) name bytes h one = absurd h
held_more held (n ∷ names) [] name bytes h one = absurd h
held_more held (n ∷ names) (b ∷ contents) name bytes h one = (h.0, held_more held names contents name bytes h.1 one)

as_many : (held : Option Held) (names contents : List (List ℕ)) → AreHeld held names contents → length contents ≡ length names
as_many held [] [] h = refl
as_many held [] (b ∷ contents) h = absurd h
as_many held (n ∷ names) [] h = absurd h
as_many held (n ∷ names) (b ∷ contents) h = ap suc (as_many held names contents h.1)

taken_more : (names : List (Bor (List ℕ))) (i : ℕ) (d : Bor (List ℕ)) → i < length names → map (λ n. n.now) (take (i + 1) names) ≡ map (λ n. n.now) (take i names) ++ (get_or names i d).now ∷ []
taken_more names i d l = ap (λ (ns : List (Bor (List ℕ))). map (λ n. n.now) ns) (take_more names i d l) ∙ map-append (λ (n : Bor (List ℕ)). n.now) (take i names) (get_or names i d ∷ [])

taken_count : (names : List (Bor (List ℕ))) (i : ℕ) → i < length names → length (map (λ n. n.now) (take i names)) ≡ i
taken_count [] i l = absurd (omega (arith, l))
taken_count (n ∷ names) zero l = refl
taken_count (n ∷ names) (suc i) l = ap suc (taken_count names i (omega (arith, l)))

lent_at : (names : List (Bor (List ℕ))) (i : ℕ) (d : Bor (List ℕ)) → i < length names → slice_get (map (λ n. n.now) names) i ≡ Some (get_or names i d).now
lent_at [] i d l = absurd (omega (arith, l))
lent_at (n ∷ names) zero d l = refl
lent_at (n ∷ names) (suc i) d l = lent_at names i d (omega (arith, l))

taken_lent : (names : List (Bor (List ℕ))) (i : ℕ) → map (λ n. n.now) (take i names) ≡ take i (map (λ n. n.now) names)
taken_lent names zero = refl
taken_lent [] (suc i) = refl
taken_lent (n ∷ names) (suc i) = ap (λ ns. n.now ∷ ns) (taken_lent names i)

-- what is known of the contents and one more
abbrev pub Adds : (read : Contents) (word : ℕ) (content : Content) (after : Contents) → Type 0
Adds read word content after = (contents : List (List ℕ)) (bytes : List ℕ) → length contents ≡ word → AreContents contents read → IsContent bytes content → AreContents (contents ++ bytes ∷ []) after

module _ (held : Option Held) (names : List (Bor (List ℕ))) (i : ℕ) (d : Bor (List ℕ)) (within : i < length names) where
  pub read_further : (read after : Contents) (content : Content) → AreContentsHeld held (map (λ n. n.now) (take i names)) read → IsContentHeld held (get_or names i d).now content
      → Adds read i content after → AreContentsHeld held (map (λ n. n.now) (take (i + 1) names)) after
  read_further read after content h one adds =
      let count = as_many held (map (λ (n : Bor (List ℕ)). n.now) (take i names)) h.contents h.are_held ∙ taken_count names i within in
      record {
        contents = h.contents ++ one.bytes ∷ [];
        are_held = subst (λ ns. AreHeld held ns (h.contents ++ one.bytes ∷ [])) (sym (taken_more names i d within)) (held_more held (map (λ (n : Bor (List ℕ)). n.now) (take i names)) h.contents (get_or names i d).now one.bytes h.are_held one.is_held);
        are = adds h.contents one.bytes count h.are one.is;
      }

  pub unread_further : (read : Contents) (old mid new : ℕ) (c : Cause) → AreContentsHeld held (map (λ n. n.now) (take i names)) read → old ≤ mid → IsUnreadAt held i (get_or names i d).now mid new c
      → AreUnread held (map (λ n. n.now) names) old new c
  unread_further read old mid new c h l (IsMissing none e) =
      LackOne i (get_or names i d).now h.contents (subst (λ ns. AreHeld held ns h.contents) (taken_lent names i) h.are_held) (lent_at names i d within) none e
  unread_further read old mid new c h l (Failed rose e) = OneFailed (omega (arith, l, rose)) e
  unread_further read old mid new c h l (LacksMemory e) = LackMemory e

---- What is read of all

as_many_objects : (contents : List (List ℕ)) (objects : List Object) → AreObjectsIn contents objects → length objects ≡ length contents
as_many_objects [] [] h = refl
as_many_objects [] (o ∷ objects) h = absurd h
as_many_objects (b ∷ contents) [] h = absurd h
as_many_objects (b ∷ contents) (o ∷ objects) h = ap suc (as_many_objects contents objects h.1)

each_object : (contents : List (List ℕ)) (objects : List Object) → AreObjectsIn contents objects → AllByRecursion IsObject objects
each_object [] [] h = tt
each_object [] (o ∷ objects) h = absurd h
each_object (b ∷ contents) [] h = absurd h
each_object (b ∷ contents) (o ∷ objects) h = (h.0.object_is, each_object contents objects h.1)

pub few_read : (held : Option Held) (names : List (List ℕ)) (read : Contents) → 1 ≤ length names → length names ≤ 64 → AreContentsHeld held names read → AreFew read
few_read held names (Objects objects) some few h =
    let many = as_many held names h.contents h.are_held in
    let count = as_many_objects h.contents objects.items h.are in
    record { some = omega (arith, many, count, some); few = omega (arith, many, count, few); each = All-from_recursion IsObject objects.items (each_object h.contents objects.items h.are) }
few_read held names (NotObject word number at) some few h = tt

-- the text of an object that was read is that of the one that is held
text_held : (held : Option Held) (names contents : List (List ℕ)) (objects : List Object) (m : ℕ) (text : List ℕ) → AreHeld held names contents → AreObjectsIn contents objects → slice_get (texts_of objects) m ≡ Some text → IsTextOfObject held names m text
text_held held [] [] [] zero text h are e = absurd (let z = e in cc)
text_held held [] [] [] (suc m) text h are e = absurd (let z = e in cc)
text_held held [] [] (o ∷ objects) m text h are e = absurd are
text_held held [] (b ∷ contents) objects m text h are e = absurd h
text_held held (n ∷ names) [] objects m text h are e = absurd h
text_held held (n ∷ names) (b ∷ contents) [] m text h are e = absurd are
text_held held (n ∷ names) (b ∷ contents) (o ∷ objects) zero text h are e =
    let same : o.source ≡ text = cc in
    record { name = n; there = refl; bytes = b; is_held = h.0; object = o; is = are.0; source = same }
text_held held (n ∷ names) (b ∷ contents) (o ∷ objects) (suc m) text h are e =
    let t = text_held held names contents objects m text h.1 are.1 e in
    record { name = t.name; there = t.there; bytes = t.bytes; is_held = t.is_held; object = t.object; is = t.is; source = t.source }

pub text_read : (held : Option Held) (names : List (List ℕ)) (read : Contents) → AreContentsHeld held names read → (m : ℕ) (text : List ℕ) → IsTextIn read m text → IsTextOfObject held names m text
text_read held names (Objects objects) h m text is = text_held held names h.contents objects.items m text h.are_held h.are is
text_read held names (NotObject word number at) h m text is = absurd is
