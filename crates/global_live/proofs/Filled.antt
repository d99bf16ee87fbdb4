-- The search fills rows with exactly what is live.
use Rattle.std.proofs.Common.{◌≡◌, ℕ, suc, ◌+◌, ◌<◌, ◌≤◌, ◌/◌, ◌%◌, ◌^◌, ◌==◌, Bool, true, false, cond, List, [], ◌∷◌, ◌++◌, length, get_or, refl, sym, ap, ◌∙◌, subst, arith, inl, inr, ◌⊎◌, Some, append_assoc, take, replicate}
use Rattle.std.specs.Prelude.{slice_get, option_to_list}
use Rattle.std.proofs.lemmas.List.{append-nil, length-map, length-replicate, get_or_past, get_or-map, get_or-replicate, map-append, take_more}
use Rattle.std.proofs.lemmas.Nat.Bits.{bit_at-zero}
use Rattle.std.proofs.lemmas.Option.{get_or_from_slice_get, slice_get-get_or, slice_get_within}
use Rattle.std.proofs.lemmas.Bool.{cases_eq, cases_lt}
use Rattle.block_runs.specs.Blocks.{Operation, block_at, no_block, end_uses, successors}
use Rattle.block_runs.specs.declared.end.End.{End}
use Rattle.block_runs.specs.Live.{has, block_makes, defs_of, reads, Live}
use Rattle.block_runs.specs.Live.Live.{Here, Later}
use Rattle.block_runs.specs.Valid.{uses_of, block_reads}
use Rattle.lir_core.specs.declared.flow.Lir.{Lir}
use Rattle.lir_core.specs.declared.flow.Node.{Node}
use Rattle.lir_core.specs.declared.flow.Flow.{Flow}
use Rattle.lir_core.specs.Flows.{operation_of, code_node, code_nodes, leads, IsValidFlow, no_node}
use Rattle.lir_core.specs.Rows.{is_in, has_bit}
use Rattle.global_live.specs.Reading.{HasLive}
use Rattle.global_live.specs.Search.{Marks, marked, all_marked, operations_of, makes, reads_in, preds_at, IsKnown, HasRows, IsRight, IsFull, Grows, Reached, Reaches, IsFilled, Fills, Explores}
use Rattle.global_live.proofs.Lists.{has_head, has_last, has_one, has_front, has_back, not_in_front, not_in_back, in_parts, has_turned}
use Rattle.global_live.proofs.Tables.{leads_there}
use Rattle.global_live.proofs.Loops.{Exploring}
use Rattle.global_live.proofs.Steps.{marked_grows, all_marked_grows, reopened, closing, marked_in, marked_right}

---- What a block reads

-- what is read and isn't made is read before it is made
pub reads_unmade : (ops : List Operation) (end : End) (v : ℕ) → has (uses_of ops ++ end_uses end) v ≡ true → has (defs_of ops) v ≡ false → reads ops end v ≡ true
reads_unmade [] end v h u = h
reads_unmade (op ∷ ops) end v h u = at_test (has op.uses v) refl (reads_unmade ops end v)
  where
    unmade : has (option_to_list op.def) v ≡ false
    unmade = not_in_front (option_to_list op.def) (defs_of ops) v u

    rest : has op.uses v ≡ false → ◌⊎◌ (has op.uses v ≡ true) (has (uses_of ops ++ end_uses end) v ≡ true) → has (uses_of ops ++ end_uses end) v ≡ true
    rest e (inl t) = let z : true ≡ false = sym t ∙ e in cc
    rest e (inr t) = t

    at_test : (b : Bool) → has op.uses v ≡ b → (has (uses_of ops ++ end_uses end) v ≡ true → has (defs_of ops) v ≡ false → reads ops end v ≡ true) → cond b true (cond (has (option_to_list op.def) v) false (reads ops end v)) ≡ true
    at_test true e on = refl
    at_test false e on =
        ap (λ c. cond c false (reads ops end v)) unmade
        ∙ on (rest e (in_parts op.uses (uses_of ops ++ end_uses end) v (ap (λ xs. has xs v) (sym (append_assoc op.uses (uses_of ops) (end_uses end))) ∙ h))) (not_in_back (option_to_list op.def) (defs_of ops) v u)

-- what is read before it is made is read
pub reads_listed : (ops : List Operation) (end : End) (v : ℕ) → reads ops end v ≡ true → has (uses_of ops ++ end_uses end) v ≡ true
reads_listed [] end v h = h
reads_listed (op ∷ ops) end v h = ap (λ xs. has xs v) (append_assoc op.uses (uses_of ops) (end_uses end)) ∙ at_test (has op.uses v) refl (has (option_to_list op.def) v) (reads_listed ops end v) h
  where
    at_test : (b : Bool) → has op.uses v ≡ b → (c : Bool) → (reads ops end v ≡ true → has (uses_of ops ++ end_uses end) v ≡ true) → cond b true (cond c false (reads ops end v)) ≡ true → has (op.uses ++ (uses_of ops ++ end_uses end)) v ≡ true
    at_test true e c on h = has_front op.uses (uses_of ops ++ end_uses end) v e
    at_test false e true on h = cc
    at_test false e false on h = has_back op.uses (uses_of ops ++ end_uses end) v (on h)

length-code_nodes : (f : Flow) → length (code_nodes f.nodes) ≡ length f.nodes
length-code_nodes f = length-map f.nodes code_node

-- what a node reads and doesn't make is live into it
live_here : (f : Flow) (n v : ℕ) → n < length f.nodes → reads_in f n v ≡ true → makes f n v ≡ false → Live (code_nodes f.nodes) v n
live_here f n v there r u =
    let bl = block_at (code_nodes f.nodes) n in
    let l = length-code_nodes f in
    let there' : n < length (code_nodes f.nodes) = omega arith in
    Here n bl (slice_get-get_or (code_nodes f.nodes) n no_block there') (not_in_front bl.params (defs_of bl.ops) v u) (reads_unmade bl.ops bl.end v r (not_in_back bl.params (defs_of bl.ops) v u))

---- One search

module _ (f : Flow) (v : ℕ) (makers : List ℕ) (known : IsKnown f makers) (below : v < f.values) where
  -- nodes into which the value is live, unless they make it
  abbrev AreLive : List ℕ → Type 0
  AreLive ns = (n : ℕ) → has ns n ≡ true → (n < length f.nodes) × (makes f n v ≡ false → Live (code_nodes f.nodes) v n)

  all_marked_right : (front ns : List ℕ) (s : Marks) → AreLive ns → IsRight f v s.rows (front ++ s.pending) → IsRight f v (all_marked makers v ns s).rows (front ++ (all_marked makers v ns s).pending)
  all_marked_right front [] s live r = r
  all_marked_right front (n ∷ ns) s live r =
      let a = live n (has_head n ns) in
      all_marked_right front ns (marked makers v n s) (λ m h. live m (has_back (n ∷ []) ns m h)) (marked_right f v makers known below front n s a.0 a.1 r)

  all_marked_in : (front ns : List ℕ) (s : Marks) → AreLive ns → IsRight f v s.rows (front ++ s.pending) → (m : ℕ) → has ns m ≡ true → makes f m v ≡ false → has_bit (all_marked makers v ns s).rows m v ≡ true
  all_marked_in front [] s live r m h u = cc
  all_marked_in front (n ∷ ns) s live r m h u = by (in_parts (n ∷ []) ns m h) (all_marked_in front ns (marked makers v n s) (λ k g. live k (has_back (n ∷ []) ns k g)) (marked_right f v makers known below front n s (live n (has_head n ns)).0 (live n (has_head n ns)).1 r) m)
    where
      by : ◌⊎◌ (has (n ∷ []) m ≡ true) (has ns m ≡ true) → (has ns m ≡ true → makes f m v ≡ false → has_bit (all_marked makers v ns (marked makers v n s)).rows m v ≡ true) → has_bit (all_marked makers v ns (marked makers v n s)).rows m v ≡ true
      by (inr t) on = on t u
      by (inl t) on =
          let e : n ≡ m = has_one n m t in
          let a = live n (has_head n ns) in
          let w : has_bit (marked makers v n s).rows n v ≡ true = marked_in f v makers known below [] n s a.0 r.shape (ap (λ k. makes f k v) e ∙ u) in
          ap (λ k. has_bit (all_marked makers v ns (marked makers v n s)).rows k v) (sym e) ∙ all_marked_grows makers v ns (marked makers v n s) n v w

  -- the last pending node was looked at
  pub explored_one : (m : ℕ) (pending : List ℕ) (rows : List (List ℕ)) → m < length f.nodes → IsRight f v rows (pending ++ m ∷ []) → let s : Marks = all_marked makers v (preds_at f m) (record { rows = rows; pending = pending }) in IsRight f v s.rows s.pending
  explored_one m pending rows there r =
      let h : has_bit rows m v ≡ true = r.had m (has_last m pending) in
      let s : Marks = record { rows = rows; pending = pending } in
      let r' : IsRight f v rows ((m ∷ []) ++ pending) = reopened f v rows (pending ++ m ∷ []) (m ∷ pending) (λ k. has_turned pending m k) r in
      let live : AreLive (preds_at f m) = λ n e. from h n (sym (known.preds n m there) ∙ e) in
      let a = all_marked_right (m ∷ []) (preds_at f m) s live r' in
      closing f v _ m _ a (λ k h' edge u. all_marked_in (m ∷ []) (preds_at f m) s live r' k (known.preds k m there ∙ edge) u)
    where
      from : has_bit rows m v ≡ true → (n : ℕ) → leads (code_nodes f.nodes) m n ≡ true → (n < length f.nodes) × (makes f n v ≡ false → Live (code_nodes f.nodes) v n)
      from h n edge =
          let l = length-code_nodes f in
          let lt = leads_there (code_nodes f.nodes) m n edge in
          (omega arith, λ u. Later n m (block_at (code_nodes f.nodes) n) (slice_get-get_or (code_nodes f.nodes) n no_block lt) u edge (r.sound m v h))

  -- a pending node that isn't there
  pub no_such_node : (m : ℕ) (pending : List ℕ) (rows : List (List ℕ)) → length f.nodes ≤ m → IsRight f v rows (pending ++ m ∷ []) → IsRight f v rows pending
  no_such_node m pending rows past r =
      let h : has_bit rows m v ≡ true = r.had m (has_last m pending) in
      let e = r.shape.nodes in
      let z : has_bit rows m v ≡ false = ap (λ row. is_in row v) (get_or_past rows m [] (omega arith)) ∙ ap (λ y. y == 1) (bit_at-zero (v % 64)) in
      cc

  pub explored_next : (m : ℕ) (pending : List ℕ) (rows : List (List ℕ)) → IsRight f v rows (pending ++ m ∷ []) → let s : Marks = all_marked makers v (preds_at f m) (record { rows = rows; pending = pending }) in IsRight f v s.rows s.pending
  explored_next m pending rows r = by (cases_lt m (length f.nodes))
    where
      s : List ℕ → Marks
      s ps = all_marked makers v ps (record { rows = rows; pending = pending })

      by : ◌⊎◌ (m < length f.nodes) (length f.nodes ≤ m) → IsRight f v (s (preds_at f m)).rows (s (preds_at f m)).pending
      by (inl lt) = explored_one m pending rows lt r
      by (inr le) = subst (λ (n : Node). IsRight f v (s n.preds).rows (s n.preds).pending) (sym (get_or_past f.nodes m no_node le)) (no_such_node m pending rows le r)

grows_on : (a b c : List (List ℕ)) → Grows a b → Grows b c → Grows a c
grows_on a b c g h n v e = h n v (g n v e)

pub exploring_next : (f : Flow) (makers : List ℕ) (v m : ℕ) (first old mid new : Marks) → Exploring f makers v first old → mid.rows ≡ old.rows → old.pending ≡ mid.pending ++ m ∷ [] → new ≡ all_marked makers v (preds_at f m) mid → Exploring f makers v first new
exploring_next f makers v m first old mid new so_far rows pending is known below right =
    let x = so_far known below right in
    let r : IsRight f v mid.rows (mid.pending ++ m ∷ []) = subst (λ rs. IsRight f v rs (mid.pending ++ m ∷ [])) (sym rows) (subst (λ ps. IsRight f v old.rows ps) pending x.0) in
    let g : Grows old.rows new.rows = λ k w h. ap (λ (s : Marks). has_bit s.rows k w) is ∙ all_marked_grows makers v (preds_at f m) mid k w (ap (λ rs. has_bit rs k w) rows ∙ h) in
    (subst (λ (s : Marks). IsRight f v s.rows s.pending) (sym is) (explored_next f v makers known below m mid.pending mid.rows r), grows_on first.rows old.rows new.rows x.1 g)

---- All searches

pub reaches_none : (f : Flow) (makers : List ℕ) (n : ℕ) (s : Marks) → Reaches f makers n [] s s
reaches_none f makers n s known there listed full = record { full = full; grows = λ m w h. h; reads = λ w h u. cc }

pub reaches_join : (f : Flow) (makers : List ℕ) (n : ℕ) (vs ws : List ℕ) (a b c : Marks) → Reaches f makers n vs a b → Reaches f makers n ws b c → Reaches f makers n (vs ++ ws) a c
reaches_join f makers n vs ws a b c g h known there listed full =
    let x = g known there (λ v e. listed v (has_front vs ws v e)) full in
    let y = h known there (λ v e. listed v (has_back vs ws v e)) x.full in
    record {
      full = y.full;
      grows = grows_on a.rows b.rows c.rows x.grows y.grows;
      reads = λ v e u. by v u x y (in_parts vs ws v e);
    }
  where
    by : (v : ℕ) → makes f n v ≡ false → Reached f n vs a b → Reached f n ws b c → ◌⊎◌ (has vs v ≡ true) (has ws v ≡ true) → has_bit c.rows n v ≡ true
    by v u x y (inl e) = y.grows n v (x.reads v e u)
    by v u x y (inr e) = y.reads v e u

-- from one read
pub reaches_one : (f : Flow) (makers : List ℕ) (n v : ℕ) (a b c : Marks) → b ≡ marked makers v n a → Explores f makers v b c → Reaches f makers n (v ∷ []) a c
reaches_one f makers n v a b c is explores known there listed full =
    let read : reads_in f n v ≡ true = listed v (has_head v []) in
    let below : v < f.values = known.below n v read in
    let r : IsRight f v a.rows a.pending = subst (λ p. IsRight f v a.rows p) (sym full.none_open) (full.right v) in
    let r' : IsRight f v b.rows b.pending = subst (λ (s : Marks). IsRight f v s.rows s.pending) (sym is) (marked_right f v makers known below [] n a there (live_here f n v there read) r) in
    let x = explores known below r' in
    let g : Grows a.rows b.rows = λ m w h. ap (λ (s : Marks). has_bit s.rows m w) is ∙ marked_grows makers v n a m w h in
    record {
      full = x.0;
      grows = grows_on a.rows b.rows c.rows g x.1;
      reads = λ w e u. by w (has_one v w e) u r.shape below x.1;
    }
  where
    by : (w : ℕ) → v ≡ w → makes f n w ≡ false → HasRows f a.rows → v < f.values → Grows b.rows c.rows → has_bit c.rows n w ≡ true
    by w e u shape below g = g n w (ap (λ (s : Marks). has_bit s.rows n w) is ∙ ap (λ x. has_bit (marked makers v n a).rows n x) (sym e) ∙ marked_in f v makers known below [] n a there shape (ap (makes f n) e ∙ u))

pub follow_more : (f : Flow) (makers : List ℕ) (n : ℕ) (vs : List ℕ) (i : ℕ) (a b b' c : Marks) → i < length vs → Reaches f makers n (take i vs) a b → b' ≡ marked makers (get_or vs i 0) n b → Explores f makers (get_or vs i 0) b' c → Reaches f makers n (take (i + 1) vs) a c
follow_more f makers n vs i a b b' c lt r is e = subst (λ us. Reaches f makers n us a c) (sym (take_more vs i 0 lt)) (reaches_join f makers n (take i vs) (get_or vs i 0 ∷ []) a b c r (reaches_one f makers n (get_or vs i 0) b b' c is e))

uses_of-append : (xs ys : List Operation) → uses_of (xs ++ ys) ≡ uses_of xs ++ uses_of ys
uses_of-append [] ys = refl
uses_of-append (x ∷ xs) ys = ap (λ us. x.uses ++ us) (uses_of-append xs ys) ∙ sym (append_assoc x.uses (uses_of xs) (uses_of ys))

pub operations_more : (f : Flow) (makers : List ℕ) (n : ℕ) (lirs : List Lir) (i : ℕ) (lir : Lir) (us : List ℕ) (a b c : Marks) → i < length lirs → lir ≡ get_or lirs i lir → us ≡ lir.uses → Reaches f makers n (uses_of (operations_of (take i lirs))) a b → Reaches f makers n us b c → Reaches f makers n (uses_of (operations_of (take (i + 1) lirs))) a c
operations_more f makers n lirs i lir us a b c lt is uses r e =
    let t : take (i + 1) lirs ≡ take i lirs ++ lir ∷ [] = take_more lirs i lir lt ∙ ap (λ x. take i lirs ++ x ∷ []) (sym is) in
    let o : uses_of (operations_of (take i lirs ++ lir ∷ [])) ≡ uses_of (operations_of (take i lirs)) ++ us = ap uses_of (map-append operation_of (take i lirs) (lir ∷ [])) ∙ uses_of-append (operations_of (take i lirs)) (operation_of lir ∷ []) ∙ ap (λ xs. uses_of (operations_of (take i lirs)) ++ xs) (append-nil lir.uses ∙ sym uses) in
    subst (λ xs. Reaches f makers n xs a c) (sym (ap (λ xs. uses_of (operations_of xs)) t ∙ o)) (reaches_join f makers n (uses_of (operations_of (take i lirs))) us a b c r e)

---- Nodes

pub fills_none : (f : Flow) (makers : List ℕ) (s : Marks) → Fills f makers 0 s s
fills_none f makers s known full = record { full = full; reads = λ m v lt r u. absurd (omega arith) }

pub fills_one : (f : Flow) (makers : List ℕ) (n : ℕ) (node : Node) (lirs : List Lir) (s a b c : Marks) → slice_get f.nodes n ≡ Some node → lirs ≡ node.lirs → Fills f makers n s a → Reaches f makers n (uses_of (operations_of lirs)) a b → Reaches f makers n (end_uses node.end) b c → Fills f makers (suc n) s c
fills_one f makers n node lirs s a b c at same fills g' h known full =
    let g = subst (λ xs. Reaches f makers n (uses_of (operations_of xs)) a b) same g' in
    let there = slice_get_within f.nodes n node at in
    let x = fills known full in
    let y = reaches_join f makers n (uses_of (operations_of node.lirs)) (end_uses node.end) a b c g h known there (λ v e. ap (λ bl. has (block_reads bl) v) block ∙ e) x.full in
    record { full = y.full; reads = λ m v lt r u. by m v r u x y (cases_eq m n) (omega arith) }
  where
    block : block_at (code_nodes f.nodes) n ≡ code_node node
    block = get_or-map code_node f.nodes n node no_block (slice_get_within f.nodes n node at) ∙ ap code_node (get_or_from_slice_get f.nodes n node node at)

    by : (m v : ℕ) → reads_in f m v ≡ true → makes f m v ≡ false → IsFilled f n a → Reached f n (uses_of (operations_of node.lirs) ++ end_uses node.end) a c → ◌⊎◌ (m ≡ n) (m ≡ n → ⊥) → m ≤ n → has_bit c.rows m v ≡ true
    by m v r u x y (inl e) le =
        let r' : has (uses_of (operations_of node.lirs) ++ end_uses node.end) v ≡ true = sym (ap (λ bl. has (block_reads bl) v) block) ∙ ap (λ i. reads_in f i v) (sym e) ∙ r in
        ap (λ i. has_bit c.rows i v) e ∙ y.reads v r' (ap (λ i. makes f i v) (sym e) ∙ u)
    by m v r u x y (inr d) le = y.grows m v (x.reads m v (omega arith) r u)

-- no value is in rows of zeros
unset : (n k m v : ℕ) → has_bit (replicate n (replicate k 0)) m v ≡ false
unset n k m v = by (cases_lt m n) (cases_lt (v / 64) k)
  where
    zero_bit : (x : ℕ) → x ≡ 0 → (x / 2 ^ (v % 64) % 2 == 1) ≡ false
    zero_bit x e = ap (λ y. y / 2 ^ (v % 64) % 2 == 1) e ∙ ap (λ y. y == 1) (bit_at-zero (v % 64))

    by : ◌⊎◌ (m < n) (n ≤ m) → ◌⊎◌ (v / 64 < k) (k ≤ v / 64) → has_bit (replicate n (replicate k 0)) m v ≡ false
    by (inl a) (inl b) = ap (λ row. is_in row v) (get_or-replicate n m (replicate k 0) [] a) ∙ zero_bit _ (get_or-replicate k (v / 64) 0 0 b)
    by (inl a) (inr b) = ap (λ row. is_in row v) (get_or-replicate n m (replicate k 0) [] a) ∙ zero_bit _ (get_or_past (replicate k 0) (v / 64) 0 (subst (λ l. l ≤ v / 64) (sym (length-replicate k 0)) b))
    by (inr a) b = ap (λ row. is_in row v) (get_or_past (replicate n (replicate k 0)) m [] (subst (λ l. l ≤ m) (sym (length-replicate n (replicate k 0))) a)) ∙ zero_bit _ refl

pub starts_full : (f : Flow) → IsFull f (record { rows = replicate (length f.nodes) (replicate (f.values / 64 + 1) 0); pending = [] })
starts_full f = record {
  none_open = refl;
  right = λ v. record {
    shape = record { nodes = length-replicate (length f.nodes) words; values = λ n w lt b. width n w (subst (λ l. n < l) (length-replicate (length f.nodes) words) lt) b };
    sound = λ n w h. let z : false ≡ true = sym (unset (length f.nodes) (f.values / 64 + 1) n w) ∙ h in cc;
    had = λ m h. cc;
    closed = λ m n w h e u o. let z : false ≡ true = sym (unset (length f.nodes) (f.values / 64 + 1) m w) ∙ h in cc;
  };
}
  where
    words : List ℕ
    words = replicate (f.values / 64 + 1) 0

    width : (n w : ℕ) → n < length f.nodes → w < f.values → w / 64 < length (get_or (replicate (length f.nodes) words) n [])
    width n w lt b =
        let a : length (get_or (replicate (length f.nodes) words) n []) ≡ f.values / 64 + 1 = ap length (get_or-replicate (length f.nodes) n words [] lt) ∙ length-replicate (f.values / 64 + 1) 0 in
        omega (arith, a)

---- What comes out

module _ (f : Flow) (valid : IsValidFlow f) (s : Marks) (filled : IsFilled f (length f.nodes) s) where
  whole : (v : ℕ) {n : ℕ} → Live (code_nodes f.nodes) v n → has_bit s.rows n v ≡ true
  whole v (Here b bl e p r) =
      let at : block_at (code_nodes f.nodes) b ≡ bl = get_or_from_slice_get (code_nodes f.nodes) b bl no_block e in
      let l = length-code_nodes f in
      let lt = slice_get_within (code_nodes f.nodes) b bl e in
      let listed : reads_in f b v ≡ true = ap (λ x. has (block_reads x) v) at ∙ reads_listed bl.ops bl.end v r in
      filled.reads b v (omega arith) listed (unmade (makes f b v) refl at)
    where
      unmade : (m : Bool) → makes f b v ≡ m → block_at (code_nodes f.nodes) b ≡ bl → makes f b v ≡ false
      unmade true m at = absurd (valid.code.placed.own v b bl e (sym (ap (λ x. has (block_makes x) v) at) ∙ m) (Here b bl e p r))
      unmade false m at = m
  whole v (Later b to bl e u edge l) =
      let at : block_at (code_nodes f.nodes) b ≡ bl = get_or_from_slice_get (code_nodes f.nodes) b bl no_block e in
      (filled.full.right v).closed to b v (whole v l) (ap (λ x. has (successors x.end) to) at ∙ edge) (ap (λ x. has (block_makes x) v) at ∙ u) refl

  pub has_live : HasLive f s.rows
  has_live = record { exact = λ n v h. (filled.full.right v).sound n v h; whole = λ n v l. whole v l }
