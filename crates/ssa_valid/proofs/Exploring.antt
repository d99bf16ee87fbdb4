-- The search from a value's reads finds exactly the blocks into which it is live.
use Rattle.std.proofs.Common.{◌≡◌, ℕ, ◌+◌, ◌<◌, ◌≤◌, ◌==◌, Bool, true, false, not, cond, List, [], ◌∷◌, ◌++◌, length, refl, sym, ap, ◌∙◌, subst, arith, inl, inr, ◌⊎◌, append_assoc, length-append, Option, Some, None, replicate}
use Rattle.std.proofs.lemmas.List.{length-set, get_or_past, get_or-replicate, length-replicate}
use Rattle.std.specs.Prelude.{nat_lt}
use Rattle.std.specs.List.{sum_by}
use Rattle.std.proofs.lemmas.Bool.{ltb-true, lt-ltb, ne_eqb, cases_eq, cases_lt, and_parts, and_from, not-true}
use Rattle.block_runs.specs.Blocks.{CodeBlock, successors}
use Rattle.block_runs.specs.Live.{has, Live}
use Rattle.global_live.proofs.Lists.{has_head, has_last, has_one, has_back, not_in_front, in_parts, has_turned}
use Rattle.block_runs.specs.Valid.{block_reads}
use Rattle.ssa_valid.specs.Order.{is_last, is_stamped, stamped, is_new}
use Rattle.ssa_valid.specs.Tables.{row_at, noted_from, block_leads}
use Rattle.ssa_valid.specs.Search.{Marks, joins, marked, all_marked, makes, leads, reads_in, IsKnown, IsRight, IsReady, Grows, Explored, IsRead, Found, AreKnown, AreListed}
use Rattle.ssa_valid.proofs.Stamping.{stamp_in, stamp_from, stamp_stays, lacks, lacking_falls}
use Rattle.ssa_valid.proofs.Tables.{noted_is}
use Rattle.ssa_valid.proofs.Reading.{there, live_here, live_before, whole}

---- What is left to do

-- how many blocks don't bear a value
abbrev pub lacking : ℕ → List (Option ℕ) → ℕ
lacking v live = sum_by (lacks v) live

module _ (maker v n : ℕ) (s : Marks) where
  new_of : joins maker v n s.live ≡ true → is_new s.live n v ≡ true
  new_of h = (and_parts (not (maker == n)) _ h).1

  there_of : joins maker v n s.live ≡ true → n < length s.live
  there_of h = ltb-true _ _ (and_parts (nat_lt n (length s.live)) _ (new_of h)).0

  marked_grows : Grows v s.live (marked maker v n s).live
  marked_grows m h = at_test (joins maker v n s.live) refl
    where
      at_test : (b : Bool) → joins maker v n s.live ≡ b → is_stamped (cond b (stamped s.live n v) s.live) m v ≡ true
      at_test true e = stamp_stays s.live n v m (there_of e) h
      at_test false e = h

  marked_counts : lacking v (marked maker v n s).live + length (marked maker v n s).pending ≡ lacking v s.live + length s.pending
  marked_counts = at_test (joins maker v n s.live) refl
    where
      at_test : (b : Bool) → joins maker v n s.live ≡ b → lacking v (cond b (stamped s.live n v) s.live) + length (cond b (s.pending ++ n ∷ []) s.pending) ≡ lacking v s.live + length s.pending
      at_test true e = let a = lacking_falls s.live n v (new_of e) in let l = length-append s.pending (n ∷ []) in omega (arith, a, l)
      at_test false e = refl

all_marked_grows : (maker v : ℕ) (ns : List ℕ) (s : Marks) → Grows v s.live (all_marked maker v ns s).live
all_marked_grows maker v [] s m h = h
all_marked_grows maker v (n ∷ ns) s m h = all_marked_grows maker v ns (marked maker v n s) m (marked_grows maker v n s m h)

all_marked_counts : (maker v : ℕ) (ns : List ℕ) (s : Marks) → lacking v (all_marked maker v ns s).live + length (all_marked maker v ns s).pending ≡ lacking v s.live + length s.pending
all_marked_counts maker v [] s = refl
all_marked_counts maker v (n ∷ ns) s = all_marked_counts maker v ns (marked maker v n s) ∙ marked_counts maker v n s

-- a look at a pending block takes one from what is left to do
pub falls : (maker v m : ℕ) (ns : List ℕ) (old mid new : Marks) → mid.live ≡ old.live → old.pending ≡ mid.pending ++ m ∷ [] → new ≡ all_marked maker v ns mid → lacking v new.live + length new.pending < lacking v old.live + length old.pending
falls maker v m ns old mid new live pending is =
    let a = all_marked_counts maker v ns mid in
    let b : lacking v new.live + length new.pending ≡ lacking v mid.live + length mid.pending = ap (λ (s : Marks). lacking v s.live + length s.pending) is ∙ a in
    let c : length old.pending ≡ length mid.pending + 1 = ap length pending ∙ length-append mid.pending (m ∷ []) in
    let d : lacking v mid.live ≡ lacking v old.live = ap (lacking v) live in
    omega (arith, b, c, d)

---- Right marks

module _ (bls : List CodeBlock) (v : ℕ) where
  -- open blocks in another order
  reopened : (live : List (Option ℕ)) (old new : List ℕ) → ((m : ℕ) → has new m ≡ has old m) → IsRight bls v live old → IsRight bls v live new
  reopened live old new same r = record { size = r.size; earlier = r.earlier; sound = r.sound; had = λ m h. r.had m (sym (same m) ∙ h); closed = λ m n h e u o. r.closed m n h e u (sym (same m) ∙ o) }

  -- a block is done: all before it that don't make the value are marked
  closing : (live : List (Option ℕ)) (m : ℕ) (open_blocks : List ℕ) → IsRight bls v live (m ∷ open_blocks) → ((k : ℕ) → leads bls m k ≡ true → makes bls k v ≡ false → is_stamped live k v ≡ true) → IsRight bls v live open_blocks
  closing live m open_blocks r done = record { size = r.size; earlier = r.earlier; sound = r.sound; had = λ i h. r.had i (still i (m == i) h); closed = λ i k h e u o. by i k h e u o (cases_eq m i) }
    where
      still : (i : ℕ) (b : Bool) → has open_blocks i ≡ true → cond b true (has open_blocks i) ≡ true
      still i true h = refl
      still i false h = h

      by : (i k : ℕ) → is_stamped live i v ≡ true → leads bls i k ≡ true → makes bls k v ≡ false → has open_blocks i ≡ false → ◌⊎◌ (m ≡ i) (m ≡ i → ⊥) → is_stamped live k v ≡ true
      by i k h e u o (inl q) = done k (ap (λ x. leads bls x k) q ∙ e) u
      by i k h e u o (inr d) = r.closed i k h e u (ap (λ b. cond b true (has open_blocks i)) (ne_eqb m i d) ∙ o)

  module _ (maker : ℕ) (made_by : (n : ℕ) → n < length bls → (maker == n) ≡ makes bls n v) where
    marked_in : (n : ℕ) (s : Marks) → n < length bls → length s.live ≡ length bls → makes bls n v ≡ false → is_stamped (marked maker v n s).live n v ≡ true
    marked_in n s there size u = at_test (joins maker v n s.live) refl
      where
        had : (b : Bool) → is_stamped s.live n v ≡ b → joins maker v n s.live ≡ false → is_stamped s.live n v ≡ true
        had true e j = e
        had false e j =
            let t : joins maker v n s.live ≡ true = and_from _ _ (ap not (made_by n there ∙ u)) (and_from _ _ (lt-ltb n (length s.live) (omega (arith, size))) (ap not e)) in
            cc

        at_test : (b : Bool) → joins maker v n s.live ≡ b → is_stamped (cond b (stamped s.live n v) s.live) n v ≡ true
        at_test true e = stamp_in s.live n v (there_of maker v n s e)
        at_test false e = had (is_stamped s.live n v) refl e

    marked_right : (front : List ℕ) (n : ℕ) (s : Marks) → n < length bls → (makes bls n v ≡ false → Live bls v n) → IsRight bls v s.live (front ++ s.pending) → IsRight bls v (marked maker v n s).live (front ++ (marked maker v n s).pending)
    marked_right front n s there live r = at_test (joins maker v n s.live) refl
      where
        unmade : joins maker v n s.live ≡ true → makes bls n v ≡ false
        unmade e = sym (made_by n there) ∙ not-true _ (and_parts (not (maker == n)) _ e).0

        earlier : joins maker v n s.live ≡ true → (m w : ℕ) → ◌⊎◌ (is_stamped s.live m w ≡ true) ((m ≡ n) × (w ≡ v)) → w ≤ v
        earlier e m w (inl h) = r.earlier m w h
        earlier e m w (inr q) = let a = q.1 in omega (arith, a)

        sound : joins maker v n s.live ≡ true → (m : ℕ) → ◌⊎◌ (is_stamped s.live m v ≡ true) ((m ≡ n) × (v ≡ v)) → Live bls v m
        sound e m (inl h) = r.sound m h
        sound e m (inr q) = subst (λ x. Live bls v x) (sym q.0) (live (unmade e))

        had : joins maker v n s.live ≡ true → (m : ℕ) → ◌⊎◌ (has (front ++ s.pending) m ≡ true) (has (n ∷ []) m ≡ true) → is_stamped (stamped s.live n v) m v ≡ true
        had e m (inl h) = stamp_stays s.live n v m (there_of maker v n s e) (r.had m h)
        had e m (inr h) = ap (λ i. is_stamped (stamped s.live n v) i v) (sym (has_one n m h)) ∙ stamp_in s.live n v (there_of maker v n s e)

        closed : joins maker v n s.live ≡ true → (m k : ℕ) → ◌⊎◌ (is_stamped s.live m v ≡ true) ((m ≡ n) × (v ≡ v)) → leads bls m k ≡ true → makes bls k v ≡ false → has (front ++ (s.pending ++ n ∷ [])) m ≡ false → is_stamped (stamped s.live n v) k v ≡ true
        closed e m k (inl h) edge u o = stamp_stays s.live n v k (there_of maker v n s e) (r.closed m k h edge u (not_in_front (front ++ s.pending) (n ∷ []) m (ap (λ xs. has xs m) (append_assoc front s.pending (n ∷ [])) ∙ o)))
        closed e m k (inr q) edge u o =
            let t : has (front ++ (s.pending ++ n ∷ [])) n ≡ true = has_back front (s.pending ++ n ∷ []) n (has_last n s.pending) in
            let z : true ≡ false = sym t ∙ ap (λ x. has (front ++ (s.pending ++ n ∷ [])) x) (sym q.0) ∙ o in
            cc

        at_test : (b : Bool) → joins maker v n s.live ≡ b → IsRight bls v (cond b (stamped s.live n v) s.live) (front ++ cond b (s.pending ++ n ∷ []) s.pending)
        at_test true e = record {
          size = length-set s.live n (Some v) ∙ r.size;
          earlier = λ m w h. earlier e m w (stamp_from s.live n v m w (there_of maker v n s e) h);
          had = λ m h. had e m (in_parts (front ++ s.pending) (n ∷ []) m (ap (λ xs. has xs m) (append_assoc front s.pending (n ∷ [])) ∙ h));
          sound = λ m h. sound e m (stamp_from s.live n v m v (there_of maker v n s e) h);
          closed = λ m k h edge u o. closed e m k (stamp_from s.live n v m v (there_of maker v n s e) h) edge u o;
        }
        at_test false e = r

    -- blocks into which the value is live, unless they make it
    abbrev AreLive : List ℕ → Type 0
    AreLive ns = (n : ℕ) → has ns n ≡ true → (n < length bls) × (makes bls n v ≡ false → Live bls v n)

    all_marked_right : (front ns : List ℕ) (s : Marks) → AreLive ns → IsRight bls v s.live (front ++ s.pending) → IsRight bls v (all_marked maker v ns s).live (front ++ (all_marked maker v ns s).pending)
    all_marked_right front [] s live r = r
    all_marked_right front (n ∷ ns) s live r =
        let a = live n (has_head n ns) in
        all_marked_right front ns (marked maker v n s) (λ m h. live m (has_back (n ∷ []) ns m h)) (marked_right front n s a.0 a.1 r)

    all_marked_in : (front ns : List ℕ) (s : Marks) → AreLive ns → IsRight bls v s.live (front ++ s.pending) → (m : ℕ) → has ns m ≡ true → makes bls m v ≡ false → is_stamped (all_marked maker v ns s).live m v ≡ true
    all_marked_in front [] s live r m h u = cc
    all_marked_in front (n ∷ ns) s live r m h u = by (in_parts (n ∷ []) ns m h) (all_marked_in front ns (marked maker v n s) (λ k g. live k (has_back (n ∷ []) ns k g)) (marked_right front n s (live n (has_head n ns)).0 (live n (has_head n ns)).1 r) m)
      where
        by : ◌⊎◌ (has (n ∷ []) m ≡ true) (has ns m ≡ true) → (has ns m ≡ true → makes bls m v ≡ false → is_stamped (all_marked maker v ns (marked maker v n s)).live m v ≡ true) → is_stamped (all_marked maker v ns (marked maker v n s)).live m v ≡ true
        by (inr t) on = on t u
        by (inl t) on =
            let e : n ≡ m = has_one n m t in
            let a = live n (has_head n ns) in
            let w : is_stamped (marked maker v n s).live n v ≡ true = marked_in n s a.0 r.size (ap (λ k. makes bls k v) e ∙ u) in
            ap (λ k. is_stamped (all_marked maker v ns (marked maker v n s)).live k v) (sym e) ∙ all_marked_grows maker v ns (marked maker v n s) n w

-- what is marked is there
marked_there : (live : List (Option ℕ)) (m v : ℕ) → is_stamped live m v ≡ true → m < length live
marked_there live m v h = by (cases_lt m (length live))
  where
    by : ◌⊎◌ (m < length live) (length live ≤ m) → m < length live
    by (inl lt) = lt
    by (inr le) = let a : is_stamped live m v ≡ false = ap (is_last v) (get_or_past live m None le) in cc

---- The loop

-- while blocks are pending, the marks are right but for these
abbrev pub Exploring : List (List ℕ) → ℕ → ℕ → Marks → Marks → Type 0
Exploring sources maker v old new = (bls : List CodeBlock) → IsKnown bls sources maker v → IsRight bls v old.live old.pending → IsRight bls v new.live new.pending × Grows v old.live new.live

-- the last pending block was looked at
pub exploring_next : (sources : List (List ℕ)) (maker v m : ℕ) (first old mid new : Marks) → Exploring sources maker v first old → mid.live ≡ old.live → old.pending ≡ mid.pending ++ m ∷ [] → new ≡ all_marked maker v (row_at sources m) mid → Exploring sources maker v first new
exploring_next sources maker v m first old mid new e live pending is bls known start = (subst (λ (s : Marks). IsRight bls v s.live s.pending) (sym is) right, λ k h. ap (λ (s : Marks). is_stamped s.live k v) is ∙ all_marked_grows maker v (row_at sources m) mid k (ap (λ l. is_stamped l k v) live ∙ (e bls known start).1 k h))
  where
    before : IsRight bls v mid.live (mid.pending ++ m ∷ [])
    before = subst (λ l. IsRight bls v l (mid.pending ++ m ∷ [])) (sym live) (subst (IsRight bls v old.live) pending (e bls known start).0)

    opened : IsRight bls v mid.live ((m ∷ []) ++ mid.pending)
    opened = reopened bls v mid.live (mid.pending ++ m ∷ []) (m ∷ mid.pending) (λ k. has_turned mid.pending m k) before

    marked_m : is_stamped mid.live m v ≡ true
    marked_m = before.had m (has_last m mid.pending)

    m_there : m < length bls
    m_there = let a = marked_there mid.live m v marked_m in let b = before.size in omega (arith, a, b)

    live_sources : AreLive bls v maker known.made_by (row_at sources m)
    live_sources n h =
        let edge : leads bls m n ≡ true = sym (known.led_by m n m_there) ∙ h in
        (there (λ x. has (successors x.end) m) bls n refl edge, λ u. live_before bls v m n edge u (before.sound m marked_m))

    right : IsRight bls v (all_marked maker v (row_at sources m) mid).live (all_marked maker v (row_at sources m) mid).pending
    right = closing bls v _ m _ (all_marked_right bls v maker known.made_by (m ∷ []) (row_at sources m) mid live_sources opened) (λ k edge u. all_marked_in bls v maker known.made_by (m ∷ []) (row_at sources m) mid live_sources opened k (known.led_by m k m_there ∙ edge) u)

---- One value

pub found_is : (sources : List (List ℕ)) (readers : List ℕ) (maker v : ℕ) (old mid new : Marks) (found : Bool) → mid ≡ all_marked maker v readers old → ((bls : List CodeBlock) → IsKnown bls sources maker v → IsRight bls v mid.live mid.pending → Explored bls v mid new) → found ≡ is_stamped new.live 0 v → (bls : List CodeBlock) → IsKnown bls sources maker v → IsRead bls readers v → IsReady bls v old → Found bls v found new
found_is sources readers maker v old mid new found is explores answer bls known read ready = record {
  answer = (λ h. explored.right.sound 0 (sym answer ∙ h), λ l. answer ∙ all l);
  next = λ w lt. record { size = explored.right.size; none_open = explored.none_open; earlier = λ n x h. let a = explored.right.earlier n x h in omega arith };
}
  where
    start : IsRight bls v old.live ([] ++ old.pending)
    start = record {
      size = ready.size;
      earlier = λ n w h. let a = ready.earlier n w h in omega arith;
      sound = λ n h. let a = ready.earlier n v h in absurd (omega arith);
      had = λ m h. let z : has [] m ≡ true = sym (ap (λ xs. has xs m) ready.none_open) ∙ h in cc;
      closed = λ m n h edge u o. let a = ready.earlier m v h in absurd (omega arith);
    }

    live_readers : AreLive bls v maker known.made_by readers
    live_readers n h =
        let r : reads_in bls n v ≡ true = sym (read.read_by n) ∙ h in
        (there (λ x. has (block_reads x) v) bls n refl r, λ u. live_here bls v n r u)

    right : IsRight bls v mid.live mid.pending
    right = subst (λ (s : Marks). IsRight bls v s.live s.pending) (sym is) (all_marked_right bls v maker known.made_by [] readers old live_readers start)

    explored : Explored bls v mid new
    explored = explores bls known right

    here : (n : ℕ) → reads_in bls n v ≡ true → makes bls n v ≡ false → is_stamped new.live n v ≡ true
    here n r u = explored.grows n (ap (λ (s : Marks). is_stamped s.live n v) is ∙ all_marked_in bls v maker known.made_by [] readers old live_readers start n (read.read_by n ∙ r) u)

    all : {n : ℕ} → Live bls v n → is_stamped new.live n v ≡ true
    all l = whole bls v (λ n. is_stamped new.live n v ≡ true) read.own here (λ m n h edge u. explored.right.closed m n h edge u refl) l

---- All values

-- the first v values are live nowhere into the first block, and the search is ready for the next
abbrev pub Settling : List (List ℕ) → List (List ℕ) → List ℕ → Marks → ℕ → Marks → Type 0
Settling sources readers makers first v s = (bls : List CodeBlock) → AreKnown bls makers → AreListed bls sources readers (length makers) → IsReady bls 0 first → IsReady bls v s × ((w : ℕ) → w < v → Live bls w 0 → ⊥)

---- What the search begins with

pub listed : (bls : List CodeBlock) (count values : ℕ) (sources readers : List (List ℕ)) → count ≡ length bls → sources ≡ noted_from block_leads 0 bls (replicate count []) → readers ≡ noted_from block_reads 0 bls (replicate values []) → AreListed bls sources readers values
listed bls count values sources readers size led read = record {
  led_by = λ m n lt. ap (λ rows. has (row_at rows m) n) led ∙ noted_is block_leads refl bls count m n (omega (arith, size));
  read_by = λ n v lt. ap (λ rows. has (row_at rows v) n) read ∙ noted_is block_reads refl bls values v n lt;
}

pub unstamped : (count n w : ℕ) → is_stamped (replicate count None) n w ≡ false
unstamped count n w = by (cases_lt n count)
  where
    by : ◌⊎◌ (n < count) (count ≤ n) → is_stamped (replicate count None) n w ≡ false
    by (inl lt) = ap (is_last w) (get_or-replicate count n None None lt)
    by (inr le) = ap (is_last w) (get_or_past (replicate count None) n None (subst (λ k. k ≤ n) (sym (length-replicate {A = Option ℕ} count None)) le))

pub begins_ready : (bls : List CodeBlock) (count : ℕ) (live : List (Option ℕ)) (pending : List ℕ) → count ≡ length bls → live ≡ replicate count None → pending ≡ [] → IsReady bls 0 (record { live = live; pending = pending })
begins_ready bls count live pending size none empty = record {
  size = ap length none ∙ length-replicate {A = Option ℕ} count None ∙ size;
  none_open = empty;
  earlier = λ n w h. let z : false ≡ true = sym (unstamped count n w) ∙ ap (λ l. is_stamped l n w) (sym none) ∙ h in cc;
}
