-- Steps on the table of moves keep what it says of the order.
use Rattle.std.proofs.Common.{◌≡◌, ◌≢◌, ℕ, suc, ◌+◌, ◌-◌, ◌<◌, ◌≤◌, ◌⊎◌, inl, inr, Bool, true, false, not, ◌&&◌, cond, List, [], ◌∷◌, ◌++◌, length, Option, Some, None, refl, sym, ap, ap₂, ◌∙◌, subst, arith, set, append_assoc}
use Rattle.std.specs.Prelude.{◌==◌}
use Rattle.std.proofs.lemmas.Bool.{eqb-true, eq-eqb}
use Rattle.std.proofs.lemmas.List.{length-set, get_or-set_same, get_or-set_other, get_or_past, set_past}
use Rattle.lir_core.specs.declared.places.Place.{Place}
use Rattle.lir_core.specs.Spots.{Spot, same, spot}
use Rattle.parallel_move.specs.declared.step.Step.{Step}
use Rattle.parallel_move.specs.declared.entry.Entry.{Entry}
use Rattle.parallel_move.specs.Order.{Pending, from_spot, step_of, is_source, Picked, pick, round, ordered}
use Rattle.parallel_move.specs.Entries.{no_entry, entry_at, is_saved, pending_in, slot, listed, left, one, reads, is_free, unread, released, made_at, IsWriter, IsLinked, IsCounted, Ordering, OnlyFree, StayMade, is_at}
use Rattle.parallel_move.proofs.Sequence.{from_place, same_is, same_self, apart}
use Rattle.parallel_move.proofs.Listed.{listed_same, without, Split, split_at, picks, reads_split, length_split, unread_free, read_blocks}

---- One entry written

pub unequal : (q i : ℕ) → (q == i) ≡ false → q ≢ i
unequal q i e h = let t : (q == i) ≡ true = eq-eqb q i h in cc

pub written_at : (es : List Entry) (i q : ℕ) (e : Entry) → i < length es → entry_at (set es i e) q ≡ cond (q == i) e (entry_at es q)
written_at es i q e h = at_test (q == i) refl
  where
    at_test : (b : Bool) → (q == i) ≡ b → entry_at (set es i e) q ≡ cond b e (entry_at es q)
    at_test true t = ap (entry_at (set es i e)) (eqb-true q i t) ∙ get_or-set_same es i e no_entry h
    at_test false t = get_or-set_other es i q e no_entry (unequal q i t)

unread_at : (es : List Entry) (j q : ℕ) → entry_at (unread es (Some j)) q ≡ record (entry_at es q) { readers = cond (j == q) ((entry_at es q).readers - 1) (entry_at es q).readers }
unread_at es j q = at_test (j == q) refl
  where
    less : Entry
    less = record (entry_at es j) { readers = (entry_at es j).readers - 1 }

    past : length es ≤ j → entry_at (unread es (Some j)) j ≡ less
    past h =
        let z : entry_at es j ≡ no_entry = get_or_past es j no_entry h in
        ap (λ xs. entry_at xs j) (set_past es j (record (entry_at es j) { readers = (entry_at es j).readers - 1 }) h) ∙ z ∙ sym (ap (λ (e : Entry). let r : Entry = record e { readers = e.readers - 1 } in r) z)

    here : (j < length es) ⊎ (length es ≤ j) → entry_at (unread es (Some j)) j ≡ less
    here (inl h) = get_or-set_same es j (record (entry_at es j) { readers = (entry_at es j).readers - 1 }) no_entry h
    here (inr h) = past h

    at_test : (b : Bool) → (j == q) ≡ b → entry_at (unread es (Some j)) q ≡ record (entry_at es q) { readers = cond b ((entry_at es q).readers - 1) (entry_at es q).readers }
    at_test true t = let e = eqb-true j q t in subst (λ x. entry_at (unread es (Some j)) x ≡ record (entry_at es x) { readers = (entry_at es x).readers - 1 }) e (here (grind arith))
    at_test false t = get_or-set_other es j q (record (entry_at es j) { readers = (entry_at es j).readers - 1 }) no_entry (λ h. unequal j q t (sym h))

---- Links

-- links stay where destinations, sources and writers do
pub linked_same : (es es' : List Entry) → length es' ≡ length es → ((q : ℕ) → (entry_at es' q).to ≡ (entry_at es q).to) → ((q : ℕ) → (entry_at es' q).from ≡ (entry_at es q).from) → ((q : ℕ) → (entry_at es' q).writer ≡ (entry_at es q).writer) → IsLinked es → IsLinked es'
linked_same es es' each tos froms writers l = record {
  distinct = λ a b p q e. l.distinct a b (subst (λ n. a < n) each p) (subst (λ n. b < n) each q) (ap₂ (λ x y. same (spot x) (spot y)) (sym (tos a)) (sym (tos b)) ∙ e);
  writers = λ a p. writer_same (entry_at es' a).writer (entry_at es' a).from (subst (λ w. IsWriter es (entry_at es' a).from w) (sym (writers a)) (subst (λ f. IsWriter es f (entry_at es a).writer) (sym (froms a)) (l.writers a (subst (λ n. a < n) each p))));
}
  where
    writer_same : (w : Option ℕ) (f : Place) → IsWriter es f w → IsWriter es' f w
    writer_same None f h = λ j p. ap (λ x. same (spot x) (spot f)) (tos j) ∙ h j (subst (λ n. j < n) each p)
    writer_same (Some j) f h = (subst (λ n. j < n) (sym each) h.0, ap (λ x. same (spot x) (spot f)) (tos j) ∙ h.1)

pub same_turned : (p q : Spot) → same p q ≡ same q p
same_turned p q = at_test (same p q) refl
  where
    at_test : (b : Bool) → same p q ≡ b → b ≡ same q p
    at_test true e = sym (ap (same q) (same_is p q e) ∙ same_self q)
    at_test false e = sym (apart q p (λ h. let t : true ≡ false = sym (same_self p) ∙ ap (same p) (sym h) ∙ e in cc))

-- which move a pending one reads is known by its writer
pub reads_by_writer : (es : List Entry) (f : Place) (w : Option ℕ) (q : ℕ) → IsLinked es → IsWriter es f w → q < length es → same (from_spot (cond (is_saved es w) None (Some f))) (spot (entry_at es q).to) ≡ cond (is_saved es w) false (is_at w q)
reads_by_writer es f w q l h lt = at_test (is_saved es w)
  where
    at_writer : (w : Option ℕ) → IsWriter es f w → same (spot f) (spot (entry_at es q).to) ≡ is_at w q
    at_writer None h = same_turned (spot f) (spot (entry_at es q).to) ∙ h q lt
    at_writer (Some j) h = at_same (same (spot f) (spot (entry_at es q).to)) (j == q) refl refl
      where
        here : spot (entry_at es j).to ≡ spot f
        here = same_is (spot (entry_at es j).to) (spot f) h.1

        at_same : (b c : Bool) → same (spot f) (spot (entry_at es q).to) ≡ b → (j == q) ≡ c → b ≡ c
        at_same true true e t = refl
        at_same false false e t = refl
        at_same true false e t =
            let same_end : same (spot (entry_at es j).to) (spot (entry_at es q).to) ≡ true = ap (λ x. same x (spot (entry_at es q).to)) here ∙ e in
            absurd (unequal j q t (l.distinct j q h.0 lt same_end))
        at_same false true e t =
            let is : j ≡ q = eqb-true j q t in
            let meets : same (spot f) (spot (entry_at es q).to) ≡ true = ap₂ (λ x y. same x (spot (entry_at es y).to)) (sym here) (sym is) ∙ same_self (spot (entry_at es j).to) in
            cc

    at_test : (b : Bool) → same (from_spot (cond b None (Some f))) (spot (entry_at es q).to) ≡ cond b false (is_at w q)
    at_test true = from_place (entry_at es q).to
    at_test false = at_writer w h

---- A move made

-- the move reads the destination of move q
abbrev pub reads_at : List Entry → ℕ → ℕ → Bool
reads_at es i q = cond (is_saved es (entry_at es i).writer) false (is_at (entry_at es i).writer q)

released_at : (es : List Entry) (w : Option ℕ) (q : ℕ) → entry_at (released es w) q ≡ record (entry_at es q) { readers = cond (cond (is_saved es w) false (is_at w q)) ((entry_at es q).readers - 1) (entry_at es q).readers }
released_at es None q = refl
released_at es (Some j) q = at_test (entry_at es j).saved
  where
    at_test : (b : Bool) → entry_at (cond b es (unread es (Some j))) q ≡ record (entry_at es q) { readers = cond (cond b false (j == q)) ((entry_at es q).readers - 1) (entry_at es q).readers }
    at_test true = refl
    at_test false = unread_at es j q

released_length : (es : List Entry) (w : Option ℕ) → length (released es w) ≡ length es
released_length es None = refl
released_length es (Some j) = at_test (entry_at es j).saved
  where
    at_test : (b : Bool) → length (cond b es (unread es (Some j))) ≡ length es
    at_test true = refl
    at_test false = length-set es j (record (entry_at es j) { readers = (entry_at es j).readers - 1 })

pub record Made (es es' : List Entry) (i : ℕ) : Type 0 where
  pub each : length es' ≡ length es
  pub entry : (q : ℕ) → entry_at es' q ≡ record (entry_at es q) { readers = cond (reads_at es i q) ((entry_at es q).readers - 1) (entry_at es q).readers; made = cond (q == i) true (entry_at es q).made }

pub made_is : (es : List Entry) (i : ℕ) → i < length es → Made es (made_at es i) i
made_is es i h =
    let long = released_length es (entry_at es i).writer in
    let mid = released es (entry_at es i).writer in
    record {
      each = length-set mid i (record (entry_at mid i) { made = true }) ∙ long;
      entry = λ q. written_at mid i q (record (entry_at mid i) { made = true }) (omega (arith, long, h)) ∙ at_test q (q == i) refl ∙ ap (λ (e : Entry). let r : Entry = record e { made = cond (q == i) true e.made } in r) (released_at es (entry_at es i).writer q);
    }
  where
    at_test : (q : ℕ) (b : Bool) → (q == i) ≡ b → cond b (record (entry_at (released es (entry_at es i).writer) i) { made = true }) (entry_at (released es (entry_at es i).writer) q) ≡ record (entry_at (released es (entry_at es i).writer) q) { made = cond b true (entry_at (released es (entry_at es i).writer) q).made }
    at_test q true t = ap (λ x. let r : Entry = record (entry_at (released es (entry_at es i).writer) x) { made = true } in r) (sym (eqb-true q i t))
    at_test q false t = refl

---- What the table lists once a move is made

module _ (es es' : List Entry) (i : ℕ) (m : Made es es' i) where
  pub to_same : (q : ℕ) → (entry_at es' q).to ≡ (entry_at es q).to
  to_same q = ap (λ (e : Entry). e.to) (m.entry q)

  pub writer_same : (q : ℕ) → (entry_at es' q).writer ≡ (entry_at es q).writer
  writer_same q = ap (λ (e : Entry). e.writer) (m.entry q)

  pub from_same : (q : ℕ) → (entry_at es' q).from ≡ (entry_at es q).from
  from_same q = ap (λ (e : Entry). e.from) (m.entry q)

  saved_same : (w : Option ℕ) → is_saved es' w ≡ is_saved es w
  saved_same None = refl
  saved_same (Some j) = ap (λ (e : Entry). e.saved) (m.entry j)

  slot_made : (q : ℕ) → slot es' q ≡ without i (slot es) q
  slot_made q =
      ap (λ (e : Entry). cond e.made None (Some (pending_in es' e))) (m.entry q)
      ∙ ap (λ b. cond (cond (q == i) true (entry_at es q).made) None (Some (let r : Pending = record { to = (entry_at es q).to; from = cond b None (Some (entry_at es q).from) } in r))) (saved_same (entry_at es q).writer)
      ∙ at_test (q == i)
    where
      at_test : (b : Bool) → cond (cond b true (entry_at es q).made) None (Some (pending_in es (entry_at es q))) ≡ cond b None (slot es q)
      at_test true = refl
      at_test false = refl

  left_made : left es' ≡ listed (without i (slot es)) 0 (length es)
  left_made = ap (listed (slot es') 0) m.each ∙ listed_same (slot es') (without i (slot es)) 0 (length es) (λ q a b. slot_made q)

-- the move that is made, where it is left
module _ (es es' : List Entry) (i : ℕ) (m : Made es es' i) (h : i < length es) (undone : (entry_at es i).made ≡ false) where
  slot_open : slot es i ≡ Some (pending_in es (entry_at es i))
  slot_open = ap (λ b. cond b None (Some (pending_in es (entry_at es i)))) undone

  split : Split (slot es) i 0 (length es) (pending_in es (entry_at es i))
  split = split_at (slot es) i 0 (length es) (pending_in es (entry_at es i)) (omega arith) (omega (arith, h)) slot_open

  pub fewer : length (left es) ≡ suc (length (left es'))
  fewer = let s = split in ap length s.whole ∙ length_split s.before s.after (pending_in es (entry_at es i)) ∙ ap (λ x. suc (length x)) (sym s.rest ∙ sym (left_made es es' i m))

  reads_made : (p : Spot) → reads (left es) p ≡ one (same (from_spot (pending_in es (entry_at es i)).from) p) + reads (left es') p
  reads_made p = let s = split in ap (λ x. reads x p) s.whole ∙ reads_split s.before s.after (pending_in es (entry_at es i)) p ∙ ap (λ x. one (same (from_spot (pending_in es (entry_at es i)).from) p) + reads x p) (sym s.rest ∙ sym (left_made es es' i m))

  counted_made : IsLinked es → IsCounted es → IsCounted es'
  counted_made l c q lt' =
      let lt : q < length es = subst (λ n. q < n) m.each lt' in
      let meets : same (from_spot (pending_in es (entry_at es i)).from) (spot (entry_at es q).to) ≡ reads_at es i q = reads_by_writer es (entry_at es i).from (entry_at es i).writer q l (l.writers i h) lt in
      let was : (entry_at es q).readers ≡ one (reads_at es i q) + reads (left es') (spot (entry_at es q).to) = c q lt ∙ reads_made (spot (entry_at es q).to) ∙ ap (λ b. one b + reads (left es') (spot (entry_at es q).to)) meets in
      ap (λ (e : Entry). e.readers) (m.entry q) ∙ at_test (reads_at es i q) (entry_at es q).readers (reads (left es') (spot (entry_at es q).to)) was ∙ ap (λ x. reads (left es') (spot x)) (sym (to_same es es' i m q))
    where
      at_test : (b : Bool) (r s : ℕ) → r ≡ one b + s → cond b (r - 1) r ≡ s
      at_test true r s e = omega (arith, e)
      at_test false r s e = omega (arith, e)

---- What blocks

pub blocked_at : (es : List Entry) (j : ℕ) (x : Pending) → IsCounted es → j < length es → is_free (entry_at es j) ≡ false → slot es j ≡ Some x → is_source (left es) (spot x.to) ≡ true
blocked_at es j x c lt f e = at_test (entry_at es j).made refl f e
  where
    at_source : (b : Bool) → is_source (left es) (spot (entry_at es j).to) ≡ b → ((entry_at es j).readers == 0) ≡ false → b ≡ true
    at_source true s f = refl
    at_source false s f =
        let none = c j lt ∙ read_blocks (left es) (spot (entry_at es j).to) s in
        let t : ((entry_at es j).readers == 0) ≡ true = eq-eqb (entry_at es j).readers 0 none in
        cc

    at_test : (b : Bool) → (entry_at es j).made ≡ b → (not b && (entry_at es j).readers == 0) ≡ false → cond b None (Some (pending_in es (entry_at es j))) ≡ Some x → is_source (left es) (spot x.to) ≡ true
    at_test true b f e = cc
    at_test false b f e =
        let is : pending_in es (entry_at es j) ≡ x = cc in
        ap (λ (y : Pending). is_source (left es) (spot y.to)) (sym is) ∙ at_source (is_source (left es) (spot (entry_at es j).to)) refl f

pub free_parts : (e : Entry) → is_free e ≡ true → (e.made ≡ false) × (e.readers ≡ 0)
free_parts e f = at_test e.made refl f
  where
    at_test : (b : Bool) → e.made ≡ b → (not b && e.readers == 0) ≡ true → (e.made ≡ false) × (e.readers ≡ 0)
    at_test true m f = cc
    at_test false m f = (m, eqb-true e.readers 0 f)

---- The step that makes a move

ordered_pick : (ms : List Pending) (x : Picked) → pick ms ms ≡ Some x → length ms ≡ suc (length x.rest) → ordered (length ms) ms ≡ step_of x.move ∷ ordered (length x.rest) x.rest
ordered_pick [] x e n = cc
ordered_pick (m ∷ ms) x e n =
    let k : length ms ≡ length x.rest = omega (arith, n) in
    ap (λ o. round o m ms (ordered (length ms))) e ∙ ap (λ j. step_of x.move ∷ ordered j x.rest) k

pub made_step : (all : List Step) (es es' : List Entry) (steps steps' : List Step) (i : ℕ) → Ordering all es steps → i < length es → is_free (entry_at es i) ≡ true → ((j : ℕ) → j < i → is_free (entry_at es j) ≡ false) → es' ≡ made_at es i → steps' ≡ steps ++ step_of (pending_in es (entry_at es i)) ∷ [] → Ordering all es' steps'
made_step all es es' steps steps' i o h free before is more =
    let m : Made es es' i = subst (λ x. Made es x i) (sym is) (made_is es i h) in
    let parts = free_parts (entry_at es i) free in
    let s = split es es' i m h parts.0 in
    let rest : left es' ≡ s.before ++ s.after = left_made es es' i m ∙ s.rest in
    let none = unread_free (left es) (spot (entry_at es i).to) (sym (o.counted i h) ∙ parts.1) in
    let blocked = s.blocked (left es) (λ j x a b t. blocked_at es j x o.counted (omega (arith, b, h)) (before j b) t) in
    let picked : pick (left es) (left es) ≡ Some (record { move = pending_in es (entry_at es i); rest = left es' }) =
    ap (pick (left es)) s.whole ∙ picks (left es) s.before s.after (pending_in es (entry_at es i)) blocked none ∙ ap (λ r. Some (record { move = pending_in es (entry_at es i); rest = r })) (sym rest) in
    let one_more = ordered_pick (left es) (record { move = pending_in es (entry_at es i); rest = left es' }) picked (fewer es es' i m h parts.0) in
    record {
      linked = linked_same es es' m.each (to_same es es' i m) (from_same es es' i m) (writer_same es es' i m) o.linked;
      counted = counted_made es es' i m h parts.0 o.linked o.counted;
      sequence = ap (λ x. x ++ ordered (length (left es')) (left es')) more ∙ append_assoc steps (step_of (pending_in es (entry_at es i)) ∷ []) (ordered (length (left es')) (left es')) ∙ ap (λ x. steps ++ x) (sym one_more) ∙ o.sequence;
    }

-- only the move that wrote its source may be free then
pub freed : (es es' : List Entry) (i bound : ℕ) → i < length es → es' ≡ made_at es i → OnlyFree es bound (Some i) → OnlyFree es' bound (entry_at es' i).writer
freed es es' i bound h is only j lt f =
    let m : Made es es' i = subst (λ x. Made es x i) (sym is) (made_is es i h) in
    let parts = free_parts (entry_at es' j) f in
    let undone : cond (j == i) true (entry_at es j).made ≡ false = sym (ap (λ (e : Entry). e.made) (m.entry j)) ∙ parts.0 in
    let unread : cond (reads_at es i j) ((entry_at es j).readers - 1) (entry_at es j).readers ≡ 0 = sym (ap (λ (e : Entry). e.readers) (m.entry j)) ∙ parts.1 in
    writer_same es es' i m i ∙ at_reads (j == i) refl (is_saved es (entry_at es i).writer) (entry_at es i).writer refl undone unread
  where
    still : (entry_at es j).made ≡ false → (entry_at es j).readers ≡ 0 → is_free (entry_at es j) ≡ true
    still a b = ap₂ (λ x y. not x && y == 0) a b

    other : (j == i) ≡ false → (entry_at es j).made ≡ false → (entry_at es j).readers ≡ 0 → (w : Option ℕ) → w ≡ Some j
    other t a b w = let s = only j lt (still a b) in let e : i ≡ j = cc in absurd (unequal j i t (sym e))

    at_writer : (w : Option ℕ) (b : Bool) → is_at w j ≡ b → (j == i) ≡ false → (entry_at es j).made ≡ false → cond b ((entry_at es j).readers - 1) (entry_at es j).readers ≡ 0 → w ≡ Some j
    at_writer None true e t u r = cc
    at_writer (Some k) true e t u r = ap Some (eqb-true k j e)
    at_writer w false e t u r = other t u r w

    at_reads : (c : Bool) → (j == i) ≡ c → (b : Bool) (w : Option ℕ) → (entry_at es i).writer ≡ w → cond c true (entry_at es j).made ≡ false → cond (cond b false (is_at w j)) ((entry_at es j).readers - 1) (entry_at es j).readers ≡ 0 → w ≡ Some j
    at_reads true t b w e u r = cc
    at_reads false t true w e u r = other t u r w
    at_reads false t false w e u r = at_writer w (is_at w j) refl t u r

pub stay_made : (es es' : List Entry) (i : ℕ) → i < length es → es' ≡ made_at es i → StayMade es es'
stay_made es es' i h is =
    let m : Made es es' i = subst (λ x. Made es x i) (sym is) (made_is es i h) in
    (m.each, λ j e. ap (λ (x : Entry). x.made) (m.entry j) ∙ ap (λ b. cond (j == i) true b) e ∙ at_test (j == i))
  where
    at_test : (b : Bool) → cond b true true ≡ true
    at_test true = refl
    at_test false = refl

pub now_made : (es es' : List Entry) (i : ℕ) → i < length es → es' ≡ made_at es i → (entry_at es' i).made ≡ true
now_made es es' i h is =
    let m : Made es es' i = subst (λ x. Made es x i) (sym is) (made_is es i h) in
    ap (λ (x : Entry). x.made) (m.entry i) ∙ ap (λ b. cond b true (entry_at es i).made) (eq-eqb i i refl)

pub fewer_left : (es es' : List Entry) (i : ℕ) → i < length es → is_free (entry_at es i) ≡ true → es' ≡ made_at es i → length (left es') < length (left es)
fewer_left es es' i h free is =
    let m : Made es es' i = subst (λ x. Made es x i) (sym is) (made_is es i h) in
    let f = fewer es es' i m h (free_parts (entry_at es i) free).0 in
    omega (arith, f)
