-- A step of the search keeps the rows right.
use Rattle.std.proofs.Common.{◌≡◌, ℕ, ◌+◌, ◌<◌, ◌/◌, ◌==◌, Bool, true, false, not, ◌&&◌, cond, List, [], ◌∷◌, ◌++◌, length, get_or, map, refl, sym, ap, ◌∙◌, subst, arith, inl, inr, ◌⊎◌, append_assoc, length-append}
use Rattle.std.specs.Prelude.{slice_index, nat_lt}
use Rattle.std.proofs.Math.ListN.{set}
use Rattle.std.proofs.lemmas.List.{get_or-set_same, get_or-set_other, length-set, length-map, map-set, get_or-map}
use Rattle.std.proofs.lemmas.Bool.{eq-eqb, ne_eqb, lt-ltb, cases_eq, and_parts, and_from, and_cases, and_left, and_right, not-true}
use Rattle.block_runs.specs.Live.{has, Live}
use Rattle.lir_core.specs.declared.flow.Flow.{Flow}
use Rattle.lir_core.specs.Flows.{code_nodes, leads}
use Rattle.lir_core.specs.Rows.{has_bit}
use Rattle.global_live.specs.Rows.{row_at, has_room, is_new, with_value, with_bit, inserted}
use Rattle.global_live.specs.Search.{Marks, joins, marked, all_marked, makes, IsKnown, HasRows, IsRight, Grows}
use Rattle.global_live.proofs.Lists.{has_back, has_last, has_one, in_parts, not_in_front}
use Rattle.global_live.proofs.Bits.{bit_in, bit_stays, bit_from, lacking, lacking_falls}

---- The code's rows

-- a row that was written in place
pub written : {X : Type 0} (xs : List X) (view : X → List ℕ) (n v : ℕ) (x d : X) → n < length xs → v / 64 < length (view (get_or xs n d)) → has_bit (map view xs) n v ≡ false → view x ≡ with_value (view (get_or xs n d)) v → (map view (set xs n x) ≡ inserted (map view xs) n v) × (is_new (map view xs) n v ≡ true)
written xs view n v x d there word unset is =
    let l : length (map view xs) ≡ length xs = length-map xs view in
    let r : get_or (map view xs) n [] ≡ view (get_or xs n d) = get_or-map view xs n d [] there in
    let a : nat_lt n (length (map view xs)) ≡ true = lt-ltb _ _ (omega arith) in
    let w : v / 64 < length (row_at (map view xs) n) = subst (λ row. v / 64 < length row) (sym r) word in
    let b : nat_lt (v / 64) (length (row_at (map view xs) n)) ≡ true = lt-ltb _ _ w in
    let new : is_new (map view xs) n v ≡ true = and_from _ _ (and_from _ _ a b) (ap not unset) in
    (map-set view xs n x ∙ ap (set (map view xs) n) (is ∙ ap (λ row. with_value row v) (sym r)) ∙ ap (λ c. cond c (with_bit (map view xs) n v) (map view xs)) (sym new), new)

---- Marks

module _ (makers : List ℕ) (v n : ℕ) (s : Marks) where
  new_of : joins makers v n s.rows ≡ true → is_new s.rows n v ≡ true
  new_of h = (and_parts _ _ (and_parts (nat_lt v (length makers)) _ h).1).1

  room_of : joins makers v n s.rows ≡ true → has_room s.rows n v ≡ true
  room_of h = (and_parts (has_room s.rows n v) _ (new_of h)).0

  pub marked_grows : Grows s.rows (marked makers v n s).rows
  marked_grows m w h = at_test (joins makers v n s.rows) refl
    where
      at_test : (b : Bool) → joins makers v n s.rows ≡ b → has_bit (cond b (with_bit s.rows n v) s.rows) m w ≡ true
      at_test true e = bit_stays s.rows n v (room_of e) m w h
      at_test false e = h

  pub marked_counts : lacking v (marked makers v n s).rows + length (marked makers v n s).pending ≡ lacking v s.rows + length s.pending
  marked_counts = at_test (joins makers v n s.rows) refl
    where
      at_test : (b : Bool) → joins makers v n s.rows ≡ b → lacking v (cond b (with_bit s.rows n v) s.rows) + length (cond b (s.pending ++ n ∷ []) s.pending) ≡ lacking v s.rows + length s.pending
      at_test true e = let a = lacking_falls s.rows n v (new_of e) in let l = length-append s.pending (n ∷ []) in omega (arith, a, l)
      at_test false e = refl

pub all_marked_grows : (makers : List ℕ) (v : ℕ) (ns : List ℕ) (s : Marks) → Grows s.rows (all_marked makers v ns s).rows
all_marked_grows makers v [] s m w h = h
all_marked_grows makers v (n ∷ ns) s m w h = all_marked_grows makers v ns (marked makers v n s) m w (marked_grows makers v n s m w h)

pub all_marked_counts : (makers : List ℕ) (v : ℕ) (ns : List ℕ) (s : Marks) → lacking v (all_marked makers v ns s).rows + length (all_marked makers v ns s).pending ≡ lacking v s.rows + length s.pending
all_marked_counts makers v [] s = refl
all_marked_counts makers v (n ∷ ns) s = all_marked_counts makers v ns (marked makers v n s) ∙ marked_counts makers v n s

-- a look at a pending node takes one from what is left to do
pub falls : (makers : List ℕ) (v m : ℕ) (ns : List ℕ) (old mid new : Marks) → mid.rows ≡ old.rows → old.pending ≡ mid.pending ++ m ∷ [] → new ≡ all_marked makers v ns mid → lacking v new.rows + length new.pending < lacking v old.rows + length old.pending
falls makers v m ns old mid new rows pending is =
    let a = all_marked_counts makers v ns mid in
    let b : lacking v new.rows + length new.pending ≡ lacking v mid.rows + length mid.pending = ap (λ (s : Marks). lacking v s.rows + length s.pending) is ∙ a in
    let c : length old.pending ≡ length mid.pending + 1 = ap length pending ∙ length-append mid.pending (m ∷ []) in
    let d : lacking v mid.rows ≡ lacking v old.rows = ap (lacking v) rows in
    omega (arith, b, c, d)

---- Right rows

module _ (f : Flow) (v : ℕ) where
  -- open nodes in another order
  pub reopened : (rows : List (List ℕ)) (old new : List ℕ) → ((m : ℕ) → has new m ≡ has old m) → IsRight f v rows old → IsRight f v rows new
  reopened rows old new sub r = record { shape = r.shape; sound = r.sound; had = λ m h. r.had m (sym (sub m) ∙ h); closed = λ m k w h e u o. r.closed m k w h e u (by m w (and_cases (has new m) (w == v) o)) }
    where
      by : (m w : ℕ) → ◌⊎◌ (has new m ≡ false) ((w == v) ≡ false) → (has old m && (w == v)) ≡ false
      by m w (inl a) = and_left (has old m) (w == v) (sym (sub m) ∙ a)
      by m w (inr b) = and_right (has old m) (w == v) b

  -- a node is done: what is live into it is live into the nodes before it
  pub closing : (rows : List (List ℕ)) (m : ℕ) (open_nodes : List ℕ) → IsRight f v rows (m ∷ open_nodes) → ((k : ℕ) → has_bit rows m v ≡ true → leads (code_nodes f.nodes) m k ≡ true → makes f k v ≡ false → has_bit rows k v ≡ true) → IsRight f v rows open_nodes
  closing rows m open_nodes r done = record { shape = r.shape; sound = r.sound; had = λ i h. r.had i (still i (m == i) h); closed = λ i k w h e u o. by i k w h e u (and_cases (has open_nodes i) (w == v) o) (cases_eq m i) (cases_eq w v) }
    where
      still : (i : ℕ) (b : Bool) → has open_nodes i ≡ true → cond b true (has open_nodes i) ≡ true
      still i true h = refl
      still i false h = h

      by : (i k w : ℕ) → has_bit rows i w ≡ true → leads (code_nodes f.nodes) i k ≡ true → makes f k w ≡ false → ◌⊎◌ (has open_nodes i ≡ false) ((w == v) ≡ false) → ◌⊎◌ (m ≡ i) (m ≡ i → ⊥) → ◌⊎◌ (w ≡ v) (w ≡ v → ⊥) → has_bit rows k w ≡ true
      by i k w h e u o c (inr d) = r.closed i k w h e u (and_right (has (m ∷ open_nodes) i) (w == v) (ne_eqb w v d))
      by i k w h e u (inr b) c (inl q) = let t = eq-eqb w v q in let z : true ≡ false = sym t ∙ b in cc
      by i k w h e u (inl a) (inr d) (inl q) = r.closed i k w h e u (and_left (has (m ∷ open_nodes) i) (w == v) (ap (λ b. cond b true (has open_nodes i)) (ne_eqb m i d) ∙ a))
      by i k w h e u (inl a) (inl p) (inl q) =
          let h' : has_bit rows m v ≡ true = ap (λ x. has_bit rows x v) p ∙ ap (λ x. has_bit rows i x) (sym q) ∙ h in
          let e' : leads (code_nodes f.nodes) m k ≡ true = ap (λ x. leads (code_nodes f.nodes) x k) p ∙ e in
          let u' : makes f k v ≡ false = ap (λ x. makes f k x) (sym q) ∙ u in
          ap (λ x. has_bit rows k x) q ∙ done k h' e' u'

  module _ (makers : List ℕ) (known : IsKnown f makers) (below : v < f.values) where
    -- a node that doesn't make the value has it behind the step
    pub marked_in : (open_nodes : List ℕ) (n : ℕ) (s : Marks) → n < length f.nodes → HasRows f s.rows → makes f n v ≡ false → has_bit (marked makers v n s).rows n v ≡ true
    marked_in open_nodes n s there shape u = at_test (joins makers v n s.rows) refl
      where
        there' : n < length s.rows
        there' = let e = shape.nodes in omega arith

        inside : nat_lt v (length makers) ≡ true
        inside = let e = known.values in lt-ltb _ _ (omega arith)

        room : has_room s.rows n v ≡ true
        room = and_from _ _ (lt-ltb _ _ there') (lt-ltb _ _ (shape.values n v there' below))

        other : not (slice_index makers v == n) ≡ true
        other = ap not (known.maker n v there below ∙ u)

        had : (b : Bool) → has_bit s.rows n v ≡ b → joins makers v n s.rows ≡ false → has_bit s.rows n v ≡ true
        had true e j = e
        had false e j = let t : joins makers v n s.rows ≡ true = and_from _ _ inside (and_from _ _ other (and_from _ _ room (ap not e))) in cc

        at_test : (b : Bool) → joins makers v n s.rows ≡ b → has_bit (cond b (with_bit s.rows n v) s.rows) n v ≡ true
        at_test true e = bit_in s.rows n v (room_of makers v n s e)
        at_test false e = had (has_bit s.rows n v) refl e

    pub marked_right : (front : List ℕ) (n : ℕ) (s : Marks) → n < length f.nodes → (makes f n v ≡ false → Live (code_nodes f.nodes) v n) → IsRight f v s.rows (front ++ s.pending) → IsRight f v (marked makers v n s).rows (front ++ (marked makers v n s).pending)
    marked_right front n s there live r = at_test (joins makers v n s.rows) refl
      where
        unmade : joins makers v n s.rows ≡ true → makes f n v ≡ false
        unmade e = sym (known.maker n v there below) ∙ not-true _ (and_parts _ _ (and_parts (nat_lt v (length makers)) _ e).1).0

        rows_of_size : joins makers v n s.rows ≡ true → (m w : ℕ) → ◌⊎◌ (m ≡ n) (m ≡ n → ⊥) → m < length s.rows → w < f.values → w / 64 < length (row_at (with_bit s.rows n v) m)
        rows_of_size e m w (inl q) lt wb =
            let lt' : n < length s.rows = omega arith in
            let a : row_at (with_bit s.rows n v) m ≡ with_value (row_at s.rows n) v = ap (λ i. row_at (with_bit s.rows n v) i) q ∙ get_or-set_same s.rows n (with_value (row_at s.rows n) v) [] lt' in
            let b : length (with_value (row_at s.rows n) v) ≡ length (row_at s.rows n) = length-set (row_at s.rows n) _ _ in
            let c = r.shape.values n w lt' wb in
            let d = ap length a in
            omega (arith, b, c, d)
        rows_of_size e m w (inr q) lt wb =
            let a = ap length (get_or-set_other s.rows n m (with_value (row_at s.rows n) v) [] q) in
            let c = r.shape.values m w lt wb in
            omega (arith, a, c)

        shape : joins makers v n s.rows ≡ true → HasRows f (with_bit s.rows n v)
        shape e = record {
          nodes = length-set s.rows n (with_value (row_at s.rows n) v) ∙ r.shape.nodes;
          values = λ m w lt wb. rows_of_size e m w (cases_eq m n) (subst (λ k. m < k) (length-set s.rows n (with_value (row_at s.rows n) v)) lt) wb;
        }

        sound : joins makers v n s.rows ≡ true → (m w : ℕ) → ◌⊎◌ (has_bit s.rows m w ≡ true) ((m ≡ n) × (w ≡ v)) → Live (code_nodes f.nodes) w m
        sound e m w (inl h) = r.sound m w h
        sound e m w (inr q) = subst (λ x. Live (code_nodes f.nodes) x m) (sym q.1) (subst (λ x. Live (code_nodes f.nodes) v x) (sym q.0) (live (unmade e)))

        had : joins makers v n s.rows ≡ true → (m : ℕ) → ◌⊎◌ (has (front ++ s.pending) m ≡ true) (has (n ∷ []) m ≡ true) → has_bit (with_bit s.rows n v) m v ≡ true
        had e m (inl h) = bit_stays s.rows n v (room_of makers v n s e) m v (r.had m h)
        had e m (inr h) = ap (λ i. has_bit (with_bit s.rows n v) i v) (sym (has_one n m h)) ∙ bit_in s.rows n v (room_of makers v n s e)

        old_open : (m : ℕ) → has (front ++ (s.pending ++ n ∷ [])) m ≡ false → has (front ++ s.pending) m ≡ false
        old_open m h = not_in_front (front ++ s.pending) (n ∷ []) m (ap (λ xs. has xs m) (append_assoc front s.pending (n ∷ [])) ∙ h)

        closed : joins makers v n s.rows ≡ true → (m k w : ℕ) → ◌⊎◌ (has_bit s.rows m w ≡ true) ((m ≡ n) × (w ≡ v)) → leads (code_nodes f.nodes) m k ≡ true → makes f k w ≡ false → ◌⊎◌ (has (front ++ (s.pending ++ n ∷ [])) m ≡ false) ((w == v) ≡ false) → has_bit (with_bit s.rows n v) k w ≡ true
        closed e m k w (inl h) edge u (inl o) = bit_stays s.rows n v (room_of makers v n s e) k w (r.closed m k w h edge u (and_left _ _ (old_open m o)))
        closed e m k w (inl h) edge u (inr o) = bit_stays s.rows n v (room_of makers v n s e) k w (r.closed m k w h edge u (and_right (has (front ++ s.pending) m) _ o))
        closed e m k w (inr q) edge u (inl o) =
            let t : has (front ++ (s.pending ++ n ∷ [])) n ≡ true = has_back front (s.pending ++ n ∷ []) n (has_last n s.pending) in
            let z : true ≡ false = sym t ∙ ap (λ x. has (front ++ (s.pending ++ n ∷ [])) x) (sym q.0) ∙ o in
            cc
        closed e m k w (inr q) edge u (inr o) = let t = eq-eqb w v q.1 in let z : true ≡ false = sym t ∙ o in cc

        at_test : (b : Bool) → joins makers v n s.rows ≡ b → IsRight f v (cond b (with_bit s.rows n v) s.rows) (front ++ cond b (s.pending ++ n ∷ []) s.pending)
        at_test true e = record {
          shape = shape e;
          had = λ m h. had e m (in_parts (front ++ s.pending) (n ∷ []) m (ap (λ xs. has xs m) (append_assoc front s.pending (n ∷ [])) ∙ h));
          sound = λ m w h. sound e m w (bit_from s.rows n v (room_of makers v n s e) m w h);
          closed = λ m k w h edge u o. closed e m k w (bit_from s.rows n v (room_of makers v n s e) m w h) edge u (and_cases (has (front ++ (s.pending ++ n ∷ [])) m) (w == v) o);
        }
        at_test false e = r
