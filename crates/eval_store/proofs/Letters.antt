-- Texts in arrays, character by character.
use Rattle.std.proofs.Common.{◌≡◌, ◌≢◌, ℕ, zero, suc, ◌+◌, ◌*◌, ◌<◌, ◌≤◌, List, [], ◌∷◌, ◌++◌, length, drop, Bool, true, false, Option, Some, None, refl, sym, ap, ap₂, subst, ◌∙◌, ◌⊎◌, inl, inr, arith, append_assoc}
use Rattle.std.specs.Prelude.{◌==◌, slice_index_or, if◌then◌else◌}
use Rattle.std.proofs.lemmas.Bool.Decides.{nat_tests}
use Rattle.std.proofs.lemmas.List.{append-nil}
use Rattle.run_laws.specs.Turns.{State, Ending, Gives, Fails, Spent, after, ◌>>=◌, give}
use Rattle.ob_types.specs.Store.{Cell, Bits, Pointer, Code, Address, Store, Trap, Senseless, Act, Handed, Span, given, objects, cell_of, past, fetch, bits, bits_in, span_in, spend_all, write}
use Rattle.ob_types.specs.Operators.{truth, related, text_of, text_order, text_common}
use Rattle.ob_types.specs.Expressions.{bits_from, text_in, texts_compared}
use Rattle.ob_types.specs.Statements.{out_string}
use Rattle.ob_types.specs.declared.tree.Relation.{Relation}
use Rattle.eval_store.specs.Cells.{number_of}
use Rattle.eval_store.specs.Characters.{Holds, PartAt, character}
use Rattle.eval_store.specs.Did.{Stopped, Sensible}
use Rattle.eval_store.specs.declared.texts.Parting.{Parting}
use Rattle.eval_store.specs.declared.stop.Stop.{Stop}
use Rattle.eval_store.specs.declared.stop.Stop.TheVariants.{Trapped, TurnsSpent, NoSense, NoMemory}

-- the first cell, and the others
record First (n : ℕ) (a : Address) (s : State Store) (xs : List ℕ) : Type 0 where
  head : ℕ
  tail : List ℕ
  here : bits (fetch a) s ≡ Gives head s
  there : Holds n (past a 1) s tail
  parts : xs ≡ head ∷ tail

behind : (x : ℕ) (xs : List ℕ) (s : State Store) (e : Ending Store Trap (List ℕ)) → after e (λ ys. give (x ∷ ys)) ≡ Gives xs s → (ys : List ℕ) × (e ≡ Gives ys s) × (xs ≡ x ∷ ys)
behind x xs s (Gives ys t) h = (ys, cc, cc)
behind x xs s (Fails t o) h = absurd (cc)
behind x xs s (Spent o) h = absurd (cc)

first_of : (n : ℕ) (a : Address) (s : State Store) (xs : List ℕ) (o : Option Cell) → cell_of (objects a.area s.store) a.object a.cell ≡ o → after (after (given o s) bits_in) (λ x. bits_from n (past a 1) >>= λ ys. give (x ∷ ys)) ≡ Gives xs s → First n a s xs
first_of n a s xs None is h = absurd (cc)
first_of n a s xs (Some (Bits x)) is h =
    let r = behind x xs s (bits_from n (past a 1) s) h in
    record { head = x; tail = r.0; here = ap (λ o. after (given o s) bits_in) is; there = r.1; parts = r.2 }
first_of n a s xs (Some (Pointer o)) is h = absurd (cc)
first_of n a s xs (Some (Code f)) is h = absurd (cc)

first : (n : ℕ) (a : Address) (s : State Store) (xs : List ℕ) → Holds (suc n) a s xs → First n a s xs
first n a s xs h = first_of n a s xs (cell_of (objects a.area s.store) a.object a.cell) refl h

-- a cell that is there is the character
pub held : (n i : ℕ) (a : Address) (s : State Store) (xs : List ℕ) → Holds n a s xs → i < n → bits (fetch (past a i)) s ≡ Gives (character xs i) s
held zero i a s xs h l = absurd (omega (arith, l))
held (suc n) zero a s xs h l =
    let f = first n a s xs h in
    let e : a.cell + 0 ≡ a.cell = omega arith in
    ap (λ c. bits (fetch (record a { cell = c })) s) e ∙ f.here ∙ ap (λ ys. Gives (character ys 0) s) (sym f.parts)
held (suc n) (suc i) a s xs h l =
    let f = first n a s xs h in
    let e : a.cell + suc i ≡ a.cell + 1 + i = omega arith in
    ap (λ c. bits (fetch (record a { cell = c })) s) e ∙ held n i (past a 1) s f.tail f.there (omega (arith, l)) ∙ ap (λ ys. Gives (character ys (suc i)) s) (sym f.parts)

-- behind the end there is 0X
pub past_end : (n i : ℕ) (a : Address) (s : State Store) (xs : List ℕ) → Holds n a s xs → n ≤ i → 0 ≡ character xs i
past_end zero i a s xs h l = by xs (cc)
  where
    by : (xs : List ℕ) → xs ≡ [] → 0 ≡ character xs i
    by xs e = ap (λ ys. character ys i) (sym e)
past_end (suc n) zero a s xs h l = absurd (omega (arith, l))
past_end (suc n) (suc i) a s xs h l = let f = first n a s xs h in past_end n i (past a 1) s f.tail f.there (omega (arith, l)) ∙ ap (λ ys. character ys (suc i)) (sym f.parts)

by_one : (i : ℕ) → i * 1 ≡ i
by_one i = grind arith

number_gives : (c : Cell) (x y : ℕ) (s : State Store) → number_of c ≡ Some x → bits_in c s ≡ Gives y s → x ≡ y
number_gives (Bits n) x y s a b = cc
number_gives (Pointer o) x y s a b = absurd (cc)
number_gives (Code f) x y s a b = absurd (cc)

-- what was read is the character
pub read_is : (n i : ℕ) (a b : Address) (s : State Store) (xs : List ℕ) (c : Cell) (x : ℕ) → i < n → b ≡ past a (i * 1) → fetch b s ≡ Gives c s → number_of c ≡ Some x → Holds n a s xs → x ≡ character xs i
read_is n i a b s xs c x l at did is h =
    number_gives c x (character xs i) s is
    (sym (ap (λ e. after e bits_in) did) ∙ ap (λ k. bits (fetch k) s) (at ∙ ap (past a) (by_one i)) ∙ held n i a s xs h l)

-- nothing else can be read there
pub read_no_number : (n i : ℕ) (a b : Address) (s : State Store) (xs : List ℕ) (c : Cell) → i < n → b ≡ past a (i * 1) → fetch b s ≡ Gives c s → number_of c ≡ None → Holds n a s xs → ⊥
read_no_number n i a b s xs c l at did is h = by c is (sym (ap (λ e. after e bits_in) did) ∙ ap (λ k. bits (fetch k) s) (at ∙ ap (past a) (by_one i)) ∙ held n i a s xs h l)
  where
    by : (c : Cell) → number_of c ≡ None → bits_in c s ≡ Gives (character xs i) s → ⊥
    by (Bits n) e g = absurd (cc)
    by (Pointer o) e g = absurd (cc)
    by (Code f) e g = absurd (cc)

pub read_stops : (n i : ℕ) (a b : Address) (s : State Store) (xs : List ℕ) (stop : Stop) (out : List ℕ) → i < n → b ≡ past a (i * 1) → Stopped (fetch b s) stop out → Holds n a s xs → stop ≡ NoMemory
read_stops n i a b s xs stop out l at did h = by stop did
  where
    there : bits (fetch b) s ≡ Gives (character xs i) s
    there = ap (λ k. bits (fetch k) s) (at ∙ ap (past a) (by_one i)) ∙ held n i a s xs h l

    other : (e : Ending Store Trap Cell) → fetch b s ≡ e → after e bits_in ≡ Gives (character xs i) s
    other e is = sym (ap (λ x. after x bits_in) is) ∙ there

    by : (stop : Stop) → Stopped (fetch b s) stop out → stop ≡ NoMemory
    by (Trapped kind f) e = let g = other _ e in absurd (cc)
    by TurnsSpent e = let g = other _ e in absurd (cc)
    by NoSense e = let g = other _ e in absurd (cc)
    by NoMemory e = refl

-- what is written doesn't change what is held
pub holds_out : (n : ℕ) (a : Address) (s : State Store) (xs out : List ℕ) → Holds n a s xs → Holds n a (record s { out = out }) xs
holds_out zero a s xs out h = ap (λ ys. Gives ys (record s { out = out })) (cc)
holds_out (suc n) a s xs out h =
    let f = first n a s xs h in
    by (cell_of (objects a.area s.store) a.object a.cell) f.here (holds_out n (past a 1) s f.tail out f.there) ∙ ap (λ ys. Gives ys (record s { out = out })) (sym f.parts)
  where
    by : (o : Option Cell) {x : ℕ} {ys : List ℕ} → after (given o s) bits_in ≡ Gives x s → Holds n (past a 1) (record s { out = out }) ys → after (after (given o (record s { out = out })) bits_in) (λ x. bits_from n (past a 1) >>= λ ys. give (x ∷ ys)) ≡ Gives (x ∷ ys) (record s { out = out })
    by None e g = absurd (cc)
    by (Some (Bits y)) {x = x} {ys = ys} e g = let k : y ≡ x = cc in ap (λ e. after e (λ ys. give (y ∷ ys))) g ∙ ap (λ z. Gives (z ∷ ys) (record s { out = out })) k
    by (Some (Pointer o)) e g = absurd (cc)
    by (Some (Code f)) e g = absurd (cc)

-- texts by their first character

abbrev from : ℕ → List ℕ → List ℕ
from zero rest = []
from (suc x) rest = suc x ∷ rest

pub text_at : (xs : List ℕ) (i : ℕ) → text_of (drop i xs) ≡ from (character xs i) (text_of (drop (suc i) xs))
text_at [] zero = refl
text_at [] (suc i) = refl
text_at (zero ∷ xs) zero = refl
text_at (suc x ∷ xs) zero = refl
text_at (x ∷ xs) (suc i) = text_at xs i

-- they agree so far
pub record Agree (xs ys : List ℕ) (i : ℕ) : Type 0 where
  pub common : text_common (text_of xs) (text_of ys) ≡ i + text_common (text_of (drop i xs)) (text_of (drop i ys))
  pub order : (r : ℕ → ℕ → Bool) → text_order r (text_of xs) (text_of ys) ≡ text_order r (text_of (drop i xs)) (text_of (drop i ys))

pub agree_first : (xs ys : List ℕ) → Agree xs ys 0
agree_first xs ys = record { common = omega arith; order = λ r. refl }

same_test : (x : ℕ) → (x == x) ≡ true
same_test x = grind (arith, nat_tests)

other_test : (x y : ℕ) → x ≢ y → (x == y) ≡ false
other_test x y h = grind (arith, nat_tests)

common_more : (x : ℕ) (us vs : List ℕ) → x ≢ 0 → text_common (from x us) (from x vs) ≡ suc (text_common us vs)
common_more zero us vs h = absurd (h refl)
common_more (suc x) us vs h = ap (λ b. if b then suc (text_common us vs) else 0) (same_test (suc x))

order_more : (r : ℕ → ℕ → Bool) (x : ℕ) (us vs : List ℕ) → x ≢ 0 → text_order r (from x us) (from x vs) ≡ text_order r us vs
order_more r zero us vs h = absurd (h refl)
order_more r (suc x) us vs h = ap (λ b. if b then text_order r us vs else r (suc x) (suc x)) (same_test (suc x))

pub agree_more : (xs ys : List ℕ) (i x y : ℕ) → Agree xs ys i → x ≡ character xs i → y ≡ character ys i → x ≡ y → x ≢ 0 → Agree xs ys (i + 1)
agree_more xs ys i x y g a b e some =
    let us = text_of (drop (suc i) xs) in
    let vs = text_of (drop (suc i) ys) in
    let p : text_of (drop i xs) ≡ from x us = text_at xs i ∙ ap (λ k. from k us) (sym a) in
    let q : text_of (drop i ys) ≡ from x vs = text_at ys i ∙ ap (λ k. from k vs) (sym (e ∙ b)) in
    let n : suc i ≡ i + 1 = omega arith in
    let c : text_common (text_of (drop i xs)) (text_of (drop i ys)) ≡ suc (text_common us vs) = ap₂ text_common p q ∙ common_more x us vs some in
    let d = g.common in
    subst (Agree xs ys) n (record { common = omega (arith, c, d); order = λ r. g.order r ∙ ap₂ (text_order r) p q ∙ order_more r x us vs some })

common_end : (x y : ℕ) (us vs : List ℕ) → (x ≢ y) ⊎ (x ≡ 0) → text_common (from x us) (from y vs) ≡ 0
common_end zero y us vs h = refl
common_end (suc x) zero us vs h = refl
common_end (suc x) (suc y) us vs (inl h) = ap (λ b. if b then suc (text_common us vs) else 0) (other_test (suc x) (suc y) h)
common_end (suc x) (suc y) us vs (inr h) = absurd (omega (arith, h))

order_end : (r : ℕ → ℕ → Bool) (x y : ℕ) (us vs : List ℕ) → (x ≢ y) ⊎ (x ≡ 0) → text_order r (from x us) (from y vs) ≡ r x y
order_end r zero zero us vs h = refl
order_end r zero (suc y) us vs h = refl
order_end r (suc x) zero us vs h = refl
order_end r (suc x) (suc y) us vs (inl h) = ap (λ b. if b then text_order r us vs else r (suc x) (suc y)) (other_test (suc x) (suc y) h)
order_end r (suc x) (suc y) us vs (inr h) = absurd (omega (arith, h))

pub agree_end : (xs ys : List ℕ) (i x y : ℕ) → Agree xs ys i → x ≡ character xs i → y ≡ character ys i → (x ≢ y) ⊎ (x ≡ 0) → PartAt xs ys (record { common = i; left = x; right = y })
agree_end xs ys i x y g a b h =
    let us = text_of (drop (suc i) xs) in
    let vs = text_of (drop (suc i) ys) in
    let p : text_of (drop i xs) ≡ from x us = text_at xs i ∙ ap (λ k. from k us) (sym a) in
    let q : text_of (drop i ys) ≡ from y vs = text_at ys i ∙ ap (λ k. from k vs) (sym b) in
    let c : text_common (text_of (drop i xs)) (text_of (drop i ys)) ≡ 0 = ap₂ text_common p q ∙ common_end x y us vs h in
    let d = g.common in
    record { common = omega (arith, c, d); order = λ r. g.order r ∙ ap₂ (text_order r) p q ∙ order_end r x y us vs h }

-- so much of a text was written
pub record Written (xs : List ℕ) (i : ℕ) (old new : State Store) : Type 0 where
  pub front : List ℕ
  pub text : text_of xs ≡ front ++ text_of (drop i xs)
  pub wrote : new ≡ record old { out = old.out ++ front }

pub written_first : (xs : List ℕ) (s : State Store) → Written xs 0 s s
written_first xs s = record { front = []; text = refl; wrote = ap (λ o. record s { out = o }) (sym (append-nil s.out)) }

pub written_more : (xs : List ℕ) (i x : ℕ) (s t u : State Store) → Written xs i s t → x ≡ character xs i → x ≢ 0 → u ≡ record t { out = t.out ++ x ∷ [] } → Written xs (i + 1) s u
written_more xs i x s t u w a some e =
    let n : suc i ≡ i + 1 = omega arith in
    let us = text_of (drop (suc i) xs) in
    subst (λ k. Written xs k s u) n (record {
      front = w.front ++ x ∷ [];
      text = w.text ∙ ap (λ ys. w.front ++ ys) (text_at xs i ∙ ap (λ k. from k us) (sym a) ∙ one x us some) ∙ sym (append_assoc w.front (x ∷ []) us);
      wrote = e ∙ ap (λ (v : State Store). record v { out = v.out ++ x ∷ [] }) w.wrote ∙ ap (λ o. record s { out = o }) (append_assoc s.out w.front (x ∷ []));
    })
  where
    one : (x : ℕ) (us : List ℕ) → x ≢ 0 → from x us ≡ x ∷ us
    one zero us h = absurd (h refl)
    one (suc x) us h = refl

pub written_end : (xs : List ℕ) (i : ℕ) (s t : State Store) → Written xs i s t → 0 ≡ character xs i → t ≡ record s { out = s.out ++ text_of xs }
written_end xs i s t w a =
    w.wrote ∙ ap (λ ys. record s { out = s.out ++ ys }) (sym (w.text ∙ ap (λ ys. w.front ++ ys) (text_at xs i ∙ ap (λ k. from k (text_of (drop (suc i) xs))) (sym a)) ∙ append-nil w.front))

-- either all cells hold numbers, or reading makes no sense
abbrev read_from : ℕ → Address → State Store → Option Cell → Ending Store Trap (List ℕ)
read_from n a s o = after (after (given o s) bits_in) (λ x. bits_from n (past a 1) >>= λ ys. give (x ∷ ys))

read_first : (n : ℕ) (a : Address) (s : State Store) (o : Option Cell) → ((xs : List ℕ) × Holds n (past a 1) s xs) ⊎ (bits_from n (past a 1) s ≡ Fails Senseless s.out) → ((xs : List ℕ) × (read_from n a s o ≡ Gives xs s)) ⊎ (read_from n a s o ≡ Fails Senseless s.out)
read_first n a s None h = inr refl
read_first n a s (Some (Bits x)) (inl h) = inl (x ∷ h.0, ap (λ e. after e (λ ys. give (x ∷ ys))) h.1)
read_first n a s (Some (Bits x)) (inr h) = inr (ap (λ e. after e (λ ys. give (x ∷ ys))) h)
read_first n a s (Some (Pointer o)) h = inr refl
read_first n a s (Some (Code f)) h = inr refl

reads : (n : ℕ) (a : Address) (s : State Store) → ((xs : List ℕ) × Holds n a s xs) ⊎ (bits_from n a s ≡ Fails Senseless s.out)
reads zero a s = inl ([], refl)
reads (suc n) a s = read_first n a s (cell_of (objects a.area s.store) a.object a.cell) (reads n (past a 1) s)

senseless_not : {A : Type 0} (e : Ending Store Trap A) (out : List ℕ) → Sensible e → e ≡ Fails Senseless out → ⊥
senseless_not e out h is = subst Sensible is h

-- what a part that begins with a text comes to, where it makes sense
pub record Shown {A : Type 0} (a : Span) (s : State Store) (go : List ℕ → Act A) : Type 0 where
  pub xs : List ℕ
  pub held : Holds a.length a.at s xs
  pub is : after (text_in a s) go ≡ go (text_of xs) s

pub shown : {A : Type 0} (a : Span) (s : State Store) (go : List ℕ → Act A) → Sensible (after (text_in a s) go) → Shown a s go
shown a s go h = by (reads a.length a.at s)
  where
    by : ((xs : List ℕ) × Holds a.length a.at s xs) ⊎ (bits_from a.length a.at s ≡ Fails Senseless s.out) → Shown a s go
    by (inl r) = record { xs = r.0; held = r.1; is = ap (λ e. after (after e (λ xs. give (text_of xs))) go) r.1 }
    by (inr r) = absurd (senseless_not _ s.out h (ap (λ e. after (after e (λ xs. give (text_of xs))) go) r))

-- the same of two texts
record Both {A : Type 0} (a b : Span) (s : State Store) (two : List ℕ → List ℕ → Act A) : Type 0 where
  xs : List ℕ
  ys : List ℕ
  first : Holds a.length a.at s xs
  second : Holds b.length b.at s ys
  is : after (text_in a s) (λ xs. text_in b >>= two xs) ≡ two (text_of xs) (text_of ys) s

both : {A : Type 0} (a b : Span) (s : State Store) (two : List ℕ → List ℕ → Act A) → Sensible (after (text_in a s) (λ xs. text_in b >>= two xs)) → Both a b s two
both a b s two h =
    let f = shown a s (λ xs. text_in b >>= two xs) h in
    let g = shown b s (two (text_of f.xs)) (subst Sensible f.is h) in
    record { xs = f.xs; ys = g.xs; first = f.held; second = g.held; is = f.is ∙ g.is }

-- a relation of two texts, where it makes sense
abbrev then_related : Relation → List ℕ → List ℕ → Act Cell
then_related r xs ys = spend_all (suc (text_common xs ys)) >>= λ _. give (Bits (truth (text_order (related r) xs ys)))

pub record Related (r : Relation) (d e : Handed) (a b : Span) (s : State Store) : Type 0 where
  pub xs : List ℕ
  pub ys : List ℕ
  pub first : Holds a.length a.at s xs
  pub second : Holds b.length b.at s ys
  pub is : texts_compared r (give d) None (give e) None s ≡ after (spend_all (suc (text_common (text_of xs) (text_of ys))) s) (λ _. give (Bits (truth (text_order (related r) (text_of xs) (text_of ys)))))

starts : (r : Relation) (d e : Handed) (a b : Span) (s : State Store) → span_in d ≡ Some a → span_in e ≡ Some b → texts_compared r (give d) None (give e) None s ≡ after (text_in a s) (λ xs. text_in b >>= then_related r xs)
starts r d e a b s at bt = ap₂ (λ o q. after (given o s) (λ x. given q >>= λ y. text_in x >>= λ xs. text_in y >>= then_related r xs)) at bt

pub related_is : (r : Relation) (d e : Handed) (a b : Span) (s : State Store) → span_in d ≡ Some a → span_in e ≡ Some b → Sensible (texts_compared r (give d) None (give e) None s) → Related r d e a b s
related_is r d e a b s at bt h =
    let w = both a b s (then_related r) (subst Sensible (starts r d e a b s at bt) h) in
    record { xs = w.xs; ys = w.ys; first = w.first; second = w.second; is = starts r d e a b s at bt ∙ w.is }

pub related_stops : (r : Relation) (d e : Handed) (a b : Span) (s : State Store) (w : Related r d e a b s) (q : Parting) (count : ℕ) (stop : Stop) (out : List ℕ) → PartAt w.xs w.ys q → count ≡ q.common + 1 → Stopped (spend_all count s) stop out → Stopped (texts_compared r (give d) None (give e) None s) stop out
related_stops r d e a b s w q count stop out part n did = by stop did
  where
    same : count ≡ suc (text_common (text_of w.xs) (text_of w.ys))
    same = let c = part.common in omega (arith, n, c)

    go : (f : Ending Store Trap (Unit {0})) → spend_all count s ≡ f → texts_compared r (give d) None (give e) None s ≡ after f (λ _. give (Bits (truth (text_order (related r) (text_of w.xs) (text_of w.ys)))))
    go f is = w.is ∙ ap (λ f. after f (λ _. give (Bits (truth (text_order (related r) (text_of w.xs) (text_of w.ys)))))) (ap (λ k. spend_all k s) (sym same) ∙ is)

    by : (stop : Stop) → Stopped (spend_all count s) stop out → Stopped (texts_compared r (give d) None (give e) None s) stop out
    by (Trapped kind f) did = go _ did
    by TurnsSpent did = go _ did
    by NoSense did = go _ did
    by NoMemory did = tt

pub related_gives : (r : Relation) (d e : Handed) (a b : Span) (s t : State Store) (w : Related r d e a b s) (q : Parting) (count : ℕ) → PartAt w.xs w.ys q → count ≡ q.common + 1 → spend_all count s ≡ Gives tt t → texts_compared r (give d) None (give e) None s ≡ Gives (Bits (truth (related r q.left q.right))) t
related_gives r d e a b s t w q count part n did =
    let c = part.common in
    let same : count ≡ suc (text_common (text_of w.xs) (text_of w.ys)) = omega (arith, n, c) in
    w.is
    ∙ ap (λ f. after f (λ _. give (Bits (truth (text_order (related r) (text_of w.xs) (text_of w.ys)))))) (ap (λ k. spend_all k s) (sym same) ∙ did)
    ∙ ap (λ z. Gives (Bits (truth z)) t) (part.order (related r))

-- a text that is written, where that makes sense
pub string_is : (h : Handed) (a : Span) (s : State Store) → span_in h ≡ Some a → Sensible (out_string (give h) None s) → (xs : List ℕ) × Holds a.length a.at s xs × (out_string (give h) None s ≡ write (text_of xs) s)
string_is h a s at sense =
    let start : out_string (give h) None s ≡ after (text_in a s) write = ap (λ o. after (given o s) (λ x. text_in x >>= write)) at in
    let f = shown a s write (subst Sensible start sense) in
    (f.xs, f.held, start ∙ f.is)

-- the array still holds what it held
pub holds_after : (n : ℕ) (a : Address) (s t : State Store) (xs : List ℕ) (i : ℕ) → Written xs i s t → Holds n a s xs → Holds n a t xs
holds_after n a s t xs i w h = subst (λ (u : State Store). Holds n a u xs) (sym w.wrote) (holds_out n a s xs (s.out ++ w.front) h)
