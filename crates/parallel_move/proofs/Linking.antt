-- The table of moves, when no move is made.
use Rattle.std.proofs.Common.{◌≡◌, ℕ, zero, suc, ◌+◌, ◌<◌, ◌≤◌, Bool, true, false, not, cond, List, [], ◌∷◌, ◌++◌, map, length, Option, Some, None, refl, sym, ap, ap₂, ◌∙◌, subst, arith, set}
use Rattle.std.specs.Prelude.{◌==◌, nat_lt, filter}
use Rattle.std.proofs.lemmas.Bool.Decides.{nat_tests}
use Rattle.std.proofs.lemmas.Bool.{eqb-true, ltb-true}
use Rattle.std.proofs.lemmas.List.{length-set, get_or-set_same, get_or-set_other, get_or_append_left, get_or_at, length-append, get_or_past, set_past}
use Rattle.lir_core.specs.declared.places.Place.{Place}
use Rattle.lir_core.specs.declared.places.Move.{Move}
use Rattle.lir_core.specs.Spots.{Spot, saved, same, spot, source}
use Rattle.lir_core.specs.Lines.{IsFree}
use Rattle.lir_core.specs.Lines.{AreDistinct as AreApart}
use Rattle.parallel_move.specs.declared.step.Step.{Step}
use Rattle.parallel_move.specs.declared.entry.Entry.{Entry}
use Rattle.parallel_move.specs.Steps.{CarriesOut}
use Rattle.parallel_move.specs.Order.{Pending, from_spot, is_moving, pending, moving, ordered, order_of}
use Rattle.parallel_move.specs.Entries.{no_entry, entry_at, is_saved, pending_in, slot, in_front, listed, left, one, reads, IsWriter, IsLinked, IsCounted, Ordering, NoneFree, move_at, GoesTo, AreWriters, IsNew, AreNew, AreUnread, is_at, written, AreCounted, with_reader}
use Rattle.parallel_move.specs.Writers.{with_writer}
use Rattle.parallel_move.proofs.Sequence.{at_once, is_end, AreDistinct, same_is, order_right}
use Rattle.parallel_move.proofs.Listed.{Table}
use Rattle.parallel_move.proofs.Table.{same_turned, unequal, reads_by_writer}

---- Writers

pub no_writers : (ms : List Move) → AreWriters ms 0 (λ p. None)
no_writers ms p j lt = absurd (omega (arith, lt))

pub writers_more : (ms : List Move) (k : ℕ) (before after : Place → Option ℕ) (to : Place) → AreWriters ms k before → to ≡ (move_at ms k).to → ((p : Place) → after p ≡ with_writer to k before p) → AreWriters ms (k + 1) after
writers_more ms k before after to w is now p = subst (GoesTo ms (k + 1) p) (sym (now p)) (at_test (same (spot to) (spot p)) refl)
  where
    at_test : (b : Bool) → same (spot to) (spot p) ≡ b → GoesTo ms (k + 1) p (cond b (Some k) (before p))
    at_test true e = (omega arith, ap (λ x. same (spot x) (spot p)) (sym is) ∙ e)
    at_test false e = at_before (before p) (w p)
      where
        at_before : (o : Option ℕ) → GoesTo ms k p o → GoesTo ms (k + 1) p o
        at_before (Some j) h = let a = h.0 in (omega (arith, a), h.1)
        at_before None h = λ j lt. at_last j lt (j == k) refl
          where
            at_last : (j : ℕ) → j < k + 1 → (b : Bool) → (j == k) ≡ b → same (spot (move_at ms j).to) (spot p) ≡ false
            at_last j lt true t = ap (λ x. same (spot (move_at ms x).to) (spot p)) (eqb-true j k t) ∙ ap (λ x. same (spot x) (spot p)) (sym is) ∙ e
            at_last j lt false t = let below : j < k = grind (arith, nat_tests) in h j below

---- Entries

pub no_entries : (ms : List Move) → AreNew ms 0 []
no_entries ms = record { each = refl; entry = λ i lt. absurd (omega (arith, lt)); unread = λ i. refl }

pub new_more : (ms : List Move) (k : ℕ) (es : List Entry) (e : Entry) → AreNew ms k es → IsNew ms (move_at ms k) e → e.readers ≡ 0 → AreNew ms (k + 1) (es ++ e ∷ [])
new_more ms k es e a n r = record {
  each = let long = a.each in let s = length-append es (e ∷ []) in omega (arith, long, s);
  entry = λ i lt. at_entry i lt (i == k) refl;
  unread = λ i. at_read i (i == k) refl;
}
  where
    here : entry_at (es ++ e ∷ []) k ≡ e
    here = get_or_at es e [] no_entry k a.each

    below : (i : ℕ) → i < k → entry_at (es ++ e ∷ []) i ≡ entry_at es i
    below i lt = let long = a.each in get_or_append_left es (e ∷ []) no_entry i (omega (arith, lt, long))

    at_entry : (i : ℕ) → i < k + 1 → (b : Bool) → (i == k) ≡ b → IsNew ms (move_at ms i) (entry_at (es ++ e ∷ []) i)
    at_entry i lt true t = subst (λ j. IsNew ms (move_at ms j) (entry_at (es ++ e ∷ []) j)) (sym (eqb-true i k t)) (subst (IsNew ms (move_at ms k)) (sym here) n)
    at_entry i lt false t = let l : i < k = grind (arith, nat_tests) in subst (IsNew ms (move_at ms i)) (sym (below i l)) (a.entry i l)

    past : (i : ℕ) → k + 1 ≤ i → entry_at (es ++ e ∷ []) i ≡ no_entry
    past i h = let long = a.each in let s = length-append es (e ∷ []) in get_or_past (es ++ e ∷ []) i no_entry (omega (arith, h, long, s))

    at_read : (i : ℕ) (b : Bool) → (i == k) ≡ b → (entry_at (es ++ e ∷ []) i).readers ≡ 0
    at_read i true t = ap (λ j. (entry_at (es ++ e ∷ []) j).readers) (eqb-true i k t) ∙ ap (λ (x : Entry). x.readers) here ∙ r
    at_read i false t = at_side (nat_lt i k) refl
      where
        at_side : (b : Bool) → nat_lt i k ≡ b → (entry_at (es ++ e ∷ []) i).readers ≡ 0
        at_side true l = ap (λ (x : Entry). x.readers) (below i (ltb-true i k l)) ∙ a.unread i
        at_side false l = let h : k + 1 ≤ i = grind (arith, nat_tests) in ap (λ (x : Entry). x.readers) (past i h)

---- Readers

written_more : (es : List Entry) (s k q : ℕ) → written es s (k + 1) q ≡ written es s k q + one (is_at (entry_at es (s + k)).writer q)
written_more es s zero q = let e : s + 0 ≡ s = omega arith in let z = ap (λ n. one (is_at (entry_at es n).writer q)) e in omega (arith, z)
written_more es s (suc k) q =
    let on = written_more es (suc s) k q in
    let e : suc s + k ≡ s + suc k = omega arith in
    let z = ap (λ n. one (is_at (entry_at es n).writer q)) e in
    let u : suc k + 1 ≡ suc (k + 1) = omega arith in
    let v = ap (λ n. written es s n q) u in
    omega (arith, on, z, v)

pub written_few : (es : List Entry) (s k q : ℕ) → written es s k q ≤ k
written_few es s zero q = omega arith
written_few es s (suc k) q = let on = written_few es (suc s) k q in at_test (is_at (entry_at es s).writer q) on
  where
    at_test : (b : Bool) → written es (suc s) k q ≤ k → one b + written es (suc s) k q ≤ suc k
    at_test true h = omega (arith, h)
    at_test false h = omega (arith, h)

pub none_counted : (es : List Entry) → AreUnread es → AreCounted 0 es es
none_counted es u = record { each = refl; entry = λ j lt. ap (λ n. let r : Entry = record (entry_at es j) { readers = n } in r) (u j) }

pub counted_few : (k j : ℕ) (before es : List Entry) → AreCounted k before es → j < length es → (entry_at es j).readers ≤ k
counted_few k j before es c lt =
    let long = c.each in
    let is = ap (λ (e : Entry). e.readers) (c.entry j (omega (arith, lt, long))) in
    let few = written_few before 0 k j in
    omega (arith, is, few)

abbrev pub read_more : Entry → Entry
read_more e = record e { readers = e.readers + 1 }

pub counted_more : (k j : ℕ) (before es : List Entry) → AreCounted k before es → (entry_at before k).writer ≡ Some j → j < length es → AreCounted (k + 1) before (set es j (read_more (entry_at es j)))
counted_more k j before es c w lt = record {
  each = length-set es j (read_more (entry_at es j)) ∙ c.each;
  entry = λ q l. at_test q l (j == q) refl;
}
  where
    count : (q : ℕ) (b : Bool) → (j == q) ≡ b → written before 0 (k + 1) q ≡ written before 0 k q + one b
    count q b t = written_more before 0 k q ∙ ap (λ n. written before 0 k q + one (is_at (entry_at before n).writer q)) (let z : 0 + k ≡ k = omega arith in z) ∙ ap (λ o. written before 0 k q + one (is_at o q)) w ∙ ap (λ x. written before 0 k q + one x) t

    at_test : (q : ℕ) → q < length before → (b : Bool) → (j == q) ≡ b → entry_at (set es j (read_more (entry_at es j))) q ≡ record (entry_at before q) { readers = written before 0 (k + 1) q }
    at_test q l true t =
        ap (entry_at (set es j (read_more (entry_at es j)))) (sym (eqb-true j q t)) ∙ get_or-set_same es j (read_more (entry_at es j)) no_entry lt
        ∙ ap (λ x. read_more (entry_at es x)) (eqb-true j q t) ∙ ap read_more (c.entry q l) ∙ ap (λ n. let r : Entry = record (entry_at before q) { readers = n } in r) (sym (count q true t))
    at_test q l false t =
        get_or-set_other es j q (read_more (entry_at es j)) no_entry (λ e. unequal j q t (sym e)) ∙ c.entry q l
        ∙ ap (λ n. let r : Entry = record (entry_at before q) { readers = n } in r) (let z : written before 0 k q + 0 ≡ written before 0 k q = omega arith in sym (count q false t ∙ z))

pub counted_none : (k : ℕ) (before es : List Entry) → AreCounted k before es → ((q : ℕ) → q < length before → is_at (entry_at before k).writer q ≡ false) → AreCounted (k + 1) before es
counted_none k before es c off = record {
  each = c.each;
  entry = λ q l. c.entry q l ∙ ap (λ n. let r : Entry = record (entry_at before q) { readers = n } in r) (sym (written_more before 0 k q ∙ ap (λ n. written before 0 k q + one (is_at (entry_at before n).writer q)) (let z : 0 + k ≡ k = omega arith in z) ∙ ap (λ x. written before 0 k q + one x) (off q l) ∙ (let z : written before 0 k q + 0 ≡ written before 0 k q = omega arith in z)));
}

pub counted_step : (k : ℕ) (before es es' : List Entry) → AreCounted k before es → k < length es → es' ≡ with_reader es (entry_at es k).writer → AreCounted (k + 1) before es'
counted_step k before es es' c lt is = subst (AreCounted (k + 1) before) (sym is) (at_writer (entry_at es k).writer (sym (ap (λ (e : Entry). e.writer) (c.entry k (let a = c.each in omega (arith, lt, a))))))
  where
    at_length : (j : ℕ) → (entry_at before k).writer ≡ Some j → (b : Bool) → nat_lt j (length es) ≡ b → AreCounted (k + 1) before (set es j (read_more (entry_at es j)))
    at_length j w true l = counted_more k j before es c w (ltb-true j (length es) l)
    at_length j w false l =
        let past : length es ≤ j = grind (arith, nat_tests) in
        let long = c.each in
        subst (AreCounted (k + 1) before) (sym (set_past es j (read_more (entry_at es j)) past)) (counted_none k before es c (λ q h. ap (λ o. is_at o q) w ∙ off j q (omega (arith, past, long, h))))
      where
        off : (j q : ℕ) → q < j → (j == q) ≡ false
        off j q h = grind (arith, nat_tests)

    at_writer : (w : Option ℕ) → (entry_at before k).writer ≡ w → AreCounted (k + 1) before (with_reader es w)
    at_writer None e = counted_none k before es c (λ q h. ap (λ o. is_at o q) e)
    at_writer (Some j) e = at_length j e (nat_lt j (length es)) refl

---- The table

module _ (ks : List Move) (es0 es : List Entry) (new : AreNew ks (length ks) es0) (c : AreCounted (length es0) es0 es) where
  size : length es ≡ length ks
  size = c.each ∙ new.each

  in_new : (i : ℕ) → i < length es → i < length es0
  in_new i h = let a = c.each in omega (arith, h, a)

  in_moves : (i : ℕ) → i < length es → i < length ks
  in_moves i h = let a = size in omega (arith, h, a)

  to_is : (i : ℕ) → i < length es → (entry_at es i).to ≡ (move_at ks i).to
  to_is i h = ap (λ (e : Entry). e.to) (c.entry i (in_new i h)) ∙ (new.entry i (in_moves i h)).to

  from_is : (i : ℕ) → i < length es → (entry_at es i).from ≡ (move_at ks i).from
  from_is i h = ap (λ (e : Entry). e.from) (c.entry i (in_new i h)) ∙ (new.entry i (in_moves i h)).from

  writer_is : (i : ℕ) → i < length es → (entry_at es i).writer ≡ (entry_at es0 i).writer
  writer_is i h = ap (λ (e : Entry). e.writer) (c.entry i (in_new i h))

  writes : (i : ℕ) → i < length es → IsWriter es (entry_at es i).from (entry_at es i).writer
  writes i h = subst (λ w. IsWriter es (entry_at es i).from w) (sym (writer_is i h)) (subst (λ f. IsWriter es f (entry_at es0 i).writer) (sym (from_is i h)) (at_writer (move_at ks i).from (entry_at es0 i).writer (new.entry i (in_moves i h)).writer))
    where
      at_writer : (f : Place) (w : Option ℕ) → GoesTo ks (length ks) f w → IsWriter es f w
      at_writer f None g = λ j lt. ap (λ x. same (spot x) (spot f)) (to_is j lt) ∙ g j (in_moves j lt)
      at_writer f (Some j) g =
          let a = g.0 in
          let b = size in
          let lt : j < length es = omega (arith, a, b) in
          (lt, ap (λ x. same (spot x) (spot f)) (to_is j lt) ∙ g.1)

  unsaved : (i : ℕ) → i < length es → (w : Option ℕ) → IsWriter es (entry_at es i).from w → is_saved es w ≡ false
  unsaved i h None g = refl
  unsaved i h (Some j) g = ap (λ (e : Entry). e.saved) (c.entry j (in_new j g.0)) ∙ (new.entry j (in_moves j g.0)).unsaved

  slot_is : (i : ℕ) → i < length es → slot es i ≡ Some (pending (move_at ks i))
  slot_is i h =
      ap (λ b. cond b None (Some (pending_in es (entry_at es i)))) (ap (λ (e : Entry). e.made) (c.entry i (in_new i h)) ∙ (new.entry i (in_moves i h)).unmade)
      ∙ ap (λ b. Some (let r : Pending = record { to = (entry_at es i).to; from = cond b None (Some (entry_at es i).from) } in r)) (unsaved i h (entry_at es i).writer (writes i h))
      ∙ ap₂ (λ t f. Some (let r : Pending = record { to = t; from = Some f } in r)) (to_is i h) (from_is i h)

  linked : ((i j : ℕ) → i < length ks → j < length ks → same (spot (move_at ks i).to) (spot (move_at ks j).to) ≡ true → i ≡ j) → IsLinked es
  linked d = record {
    distinct = λ i j a b e. d i j (in_moves i a) (in_moves j b) (sym (ap₂ (λ x y. same (spot x) (spot y)) (to_is i a) (to_is j b)) ∙ e);
    writers = writes;
  }

  reads_written : IsLinked es → (q : ℕ) → q < length es → (s k : ℕ) → s + k ≤ length es → reads (listed (slot es) s k) (spot (entry_at es q).to) ≡ written es0 s k q
  reads_written l q h s zero le = refl
  reads_written l q h s (suc k) le =
      let lt : s < length es = omega (arith, le) in
      let here : pending_in es (entry_at es s) ≡ pending (move_at ks s) = ap₂ (λ b f. let r : Pending = record { to = (entry_at es s).to; from = cond b None (Some f) } in r) (unsaved s lt (entry_at es s).writer (writes s lt)) (from_is s lt) ∙ ap (λ t. let r : Pending = record { to = t; from = Some (move_at ks s).from } in r) (to_is s lt) in
      let one_is : same (from_spot (pending (move_at ks s)).from) (spot (entry_at es q).to) ≡ is_at (entry_at es0 s).writer q =
      ap (λ (m : Pending). same (from_spot m.from) (spot (entry_at es q).to)) (sym here)
      ∙ reads_by_writer es (entry_at es s).from (entry_at es s).writer q l (writes s lt) h
      ∙ ap (λ b. cond b false (is_at (entry_at es s).writer q)) (unsaved s lt (entry_at es s).writer (writes s lt))
      ∙ ap (λ w. is_at w q) (writer_is s lt) in
      ap (λ o. reads (in_front o (listed (slot es) (suc s) k)) (spot (entry_at es q).to)) (slot_is s lt)
      ∙ ap₂ (λ b n. one b + n) one_is (reads_written l q h (suc s) k (omega (arith, le)))

  counted : IsLinked es → IsCounted es
  counted l q h =
      ap (λ (e : Entry). e.readers) (c.entry q (in_new q h)) ∙ ap (λ n. written es0 0 n q) (sym c.each) ∙ sym (reads_written l q h 0 (length es) (omega arith))

listed_list : (T : Table) (ks : List Move) (i : ℕ) → ((j : ℕ) → j < length ks → T (i + j) ≡ Some (pending (move_at ks j))) → listed T i (length ks) ≡ map pending ks
listed_list T [] i h = refl
listed_list T (m ∷ ks) i h =
    let e : i + 0 ≡ i = omega arith in
    ap (λ o. in_front o (listed T (suc i) (length ks))) (ap T (sym e) ∙ h 0 (omega arith))
    ∙ ap (λ x. pending m ∷ x) (listed_list T ks (suc i) (λ j lt. ap T (let z : suc i + j ≡ i + suc j = omega arith in z) ∙ h (suc j) (omega (arith, lt))))

---- Moves with distinct destinations

free_filter : (p : Spot) (ms : List Move) → IsFree p ms → IsFree p (filter is_moving ms)
free_filter p [] h = tt
free_filter p (m ∷ ms) h = at_test (is_moving m) (free_filter p ms h.1)
  where
    at_test : (b : Bool) → IsFree p (filter is_moving ms) → IsFree p (cond b (m ∷ filter is_moving ms) (filter is_moving ms))
    at_test true rest = (h.0, rest)
    at_test false rest = rest

pub apart_filter : (ms : List Move) → AreApart ms → AreApart (filter is_moving ms)
apart_filter [] h = tt
apart_filter (m ∷ ms) h = at_test (is_moving m) (apart_filter ms h.1)
  where
    at_test : (b : Bool) → AreApart (filter is_moving ms) → AreApart (cond b (m ∷ filter is_moving ms) (filter is_moving ms))
    at_test true rest = (free_filter (spot m.to) ms h.0, rest)
    at_test false rest = rest

free_at : (p : Spot) (ms : List Move) → IsFree p ms → (j : ℕ) → j < length ms → same p (spot (move_at ms j).to) ≡ false
free_at p [] h j lt = absurd (omega (arith, lt))
free_at p (m ∷ ms) h zero lt = h.0
free_at p (m ∷ ms) h (suc j) lt = free_at p ms h.1 j (omega (arith, lt))

apart_at : (ms : List Move) → AreApart ms → (i j : ℕ) → i < length ms → j < length ms → same (spot (move_at ms i).to) (spot (move_at ms j).to) ≡ true → i ≡ j
apart_at [] h i j a b e = absurd (omega (arith, a))
apart_at (m ∷ ms) h zero zero a b e = refl
apart_at (m ∷ ms) h zero (suc j) a b e = let f = free_at (spot m.to) ms h.0 j (omega (arith, b)) in cc
apart_at (m ∷ ms) h (suc i) zero a b e = let f = same_turned (spot (move_at ms i).to) (spot m.to) ∙ free_at (spot m.to) ms h.0 i (omega (arith, a)) in cc
apart_at (m ∷ ms) h (suc i) (suc j) a b e = ap suc (apart_at ms h.1 i j (omega (arith, a)) (omega (arith, b)) e)

no_end_at : (p : Spot) (ms : List Move) → IsFree p ms → is_end (map pending ms) p ≡ false
no_end_at p [] h = refl
no_end_at p (m ∷ ms) h = ap (λ b. cond b true (is_end (map pending ms) p)) (same_turned (spot m.to) p ∙ h.0) ∙ no_end_at p ms h.1

apart_pending : (ms : List Move) → AreApart ms → AreDistinct (map pending ms)
apart_pending [] h = tt
apart_pending (m ∷ ms) h = (no_end_at (spot m.to) ms h.0, apart_pending ms h.1)

pub stays : (p : Spot) (ms : List Move) → IsFree p ms → source ms p ≡ p
stays p [] h = refl
stays p (m ∷ ms) h = ap (λ b. cond b (spot m.from) (source ms p)) h.0 ∙ stays p ms h.1

at_once_source : (ms : List Move) → AreApart ms → (p : Spot) → at_once (moving ms) p ≡ source ms p
at_once_source [] h p = refl
at_once_source (m ∷ ms) h p = at_test (same (spot m.to) (spot m.from)) refl (at_once_source ms h.1 p)
  where
    at_spot : (b : Bool) → same p (spot m.to) ≡ b → same (spot m.to) (spot m.from) ≡ true → source ms p ≡ cond b (spot m.from) (source ms p)
    at_spot false e f = refl
    at_spot true e f =
        let q : p ≡ spot m.to = same_is p (spot m.to) e in
        stays p ms (subst (λ x. IsFree x ms) (sym q) h.0) ∙ q ∙ same_is (spot m.to) (spot m.from) f

    at_test : (b : Bool) → same (spot m.to) (spot m.from) ≡ b → at_once (moving ms) p ≡ source ms p → at_once (map pending (cond (not b) (m ∷ filter is_moving ms) (filter is_moving ms))) p ≡ cond (same p (spot m.to)) (spot m.from) (source ms p)
    at_test true e rest = rest ∙ at_spot (same p (spot m.to)) refl e
    at_test false e rest = ap (cond (same p (spot m.to)) (spot m.from)) rest

---- What is promised

pub begins : (ms : List Move) (es0 es : List Entry) → AreApart ms → AreNew (filter is_moving ms) (length (filter is_moving ms)) es0 → AreCounted (length es0) es0 es → Ordering (order_of ms) es []
begins ms es0 es d new c =
    let ks = filter is_moving ms in
    let l = linked ks es0 es new c (apart_at ks (apart_filter ms d)) in
    let here : left es ≡ moving ms = ap (listed (slot es) 0) (size ks es0 es new c) ∙ listed_list (slot es) ks 0 (λ j lt. slot_at new c j lt) in
    record { linked = l; counted = counted ks es0 es new c l; sequence = ap (λ x. ordered (length x) x) here }
  where
    slot_at : AreNew (filter is_moving ms) (length (filter is_moving ms)) es0 → AreCounted (length es0) es0 es → (j : ℕ) → j < length (filter is_moving ms) → slot es (0 + j) ≡ Some (pending (move_at (filter is_moving ms) j))
    slot_at new c j lt =
        let e : 0 + j ≡ j = omega arith in
        let s = size (filter is_moving ms) es0 es new c in
        ap (slot es) e ∙ slot_is (filter is_moving ms) es0 es new c j (omega (arith, lt, s))

pub carries : (ms : List Move) → AreApart ms → CarriesOut (order_of ms) ms
carries ms d p off = order_right (length (moving ms)) (moving ms) refl (apart_pending (filter is_moving ms) (apart_filter ms d)) p (λ e. let t : same p saved ≡ true = ap (λ x. same x saved) e in cc) ∙ at_once_source ms d p

pub done : (ms : List Move) → AreApart ms → (es0 es1 es2 es3 : List Entry) (s0 s1 s2 : List Step) → AreNew (filter is_moving ms) (length (filter is_moving ms)) es0 → es1 ≡ es0 → AreCounted (length es1) es1 es2 → s0 ≡ []
    → ((all : List Step) → Ordering all es2 s0 → Ordering all es3 s1 × NoneFree es3 (length es3)) → ((all : List Step) → Ordering all es3 s1 → NoneFree es3 (length es3) → s2 ≡ all) → s2 ≡ order_of ms
done ms d es0 es1 es2 es3 s0 s1 s2 new is c empty frees breaks =
    let first : Ordering (order_of ms) es2 s0 = subst (Ordering (order_of ms) es2) (sym empty) (begins ms es1 es2 d (subst (AreNew (filter is_moving ms) (length (filter is_moving ms))) (sym is) new) c) in
    let mid = frees (order_of ms) first in
    breaks (order_of ms) mid.0 mid.1
