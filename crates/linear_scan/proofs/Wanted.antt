-- What lives at a node: by paths, by rows of bits, and along its operations; and that it is needed.
use Rattle.std.proofs.Common.{◌≡◌, ℕ, suc, ◌+◌, ◌<◌, Bool, true, false, ◌||◌, ◌&&◌, cond, List, [], ◌∷◌, ◌++◌, map, length, Option, Some, None, refl, sym, ap, ◌∙◌, subst, arith, ◌⊎◌, inl, inr, ⊎_elim}
use Rattle.std.specs.Prelude.{◌==◌, option_to_list, slice_get}
use Rattle.std.proofs.lemmas.Option.{slice_get-map, get_or_from_slice_get}
use Rattle.run_laws.specs.Layers.{places_from}
use Rattle.block_runs.specs.Blocks.{Operation, CodeBlock, block_at, no_block, end_uses, successors}
use Rattle.block_runs.specs.declared.end.End.{End}
use Rattle.block_runs.specs.Live.{has, defs_of, block_makes, reads, Live, Here, Later, LiveBehind, IsWanted}
use Rattle.block_runs.specs.Valid.{uses_of, block_reads, all_below}
use Rattle.lir_core.specs.declared.flow.Lir.{Lir}
use Rattle.lir_core.specs.declared.flow.Node.{Node}
use Rattle.lir_core.specs.declared.flow.Flow.{Flow}
use Rattle.lir_core.specs.Flows.{operation_of, code_node, code_nodes, IsValidFlow}
use Rattle.lir_core.specs.Rows.{has_bit, live_into}
use Rattle.global_live.specs.Reading.{HasLive}
use Rattle.global_live.proofs.Lists.{has-append, has_front, has_back, has-filter, not_in_front, not_in_back, in_parts, all_below_in}
use Rattle.global_live.proofs.Tables.{at_block, has_places}
use Rattle.trace_needs.specs.Needs.{Position, is_next, live_off, at_operation, at_end}
use Rattle.loc_state.proofs.Numbers.{numbers_same, or_rest}
use Rattle.linear_scan.specs.Policy.{is_needed}
use Rattle.linear_scan.proofs.Needs.{Follows, follows_tail, uses_needed, later_needed, alive}

-- a value is live into one of these nodes, by rows
abbrev pub any_live : List (List ℕ) → List ℕ → ℕ → Bool
any_live rows [] v = false
any_live rows (s ∷ ss) v = cond (has_bit rows s v) true (any_live rows ss v)

-- what an end reads or passes on, or is live behind it
abbrev pub last_live : List (List ℕ) → End → ℕ → Bool
last_live rows end v = cond (has (end_uses end) v) true (any_live rows (successors end) v)

pub any_is : (rows : List (List ℕ)) (ss : List ℕ) (v : ℕ) → any_live rows ss v ≡ true → (s : ℕ) × (has ss s ≡ true) × (has_bit rows s v ≡ true)
any_is rows [] v h = cc
any_is rows (s ∷ ss) v h = by (any_is rows ss v) (has_bit rows s v) refl h
  where
    by : (any_live rows ss v ≡ true → (n : ℕ) × (has ss n ≡ true) × (has_bit rows n v ≡ true)) → (b : Bool) → has_bit rows s v ≡ b → cond b true (any_live rows ss v) ≡ true → (n : ℕ) × (has (s ∷ ss) n ≡ true) × (has_bit rows n v ≡ true)
    by on true e h = (s, Rattle.global_live.proofs.Lists.has_head s ss, e)
    by on false e h = let m = on h in (m.0, or_rest (s == m.0) (has ss m.0) m.1, m.2)

pub is_any : (rows : List (List ℕ)) (ss : List ℕ) (s v : ℕ) → has ss s ≡ true → has_bit rows s v ≡ true → any_live rows ss v ≡ true
is_any rows [] s v h e = cc
is_any rows (m ∷ ss) s v h e = by (λ g. is_any rows ss s v g e) (m == s) refl h
  where
    by : (has ss s ≡ true → any_live rows ss v ≡ true) → (b : Bool) → (m == s) ≡ b → cond b true (has ss s) ≡ true → cond (has_bit rows m v) true (any_live rows ss v) ≡ true
    by on true q h = ap (λ b. cond b true (any_live rows ss v)) (ap (λ y. has_bit rows y v) (numbers_same m s q) ∙ e)
    by on false q h = or_rest (has_bit rows m v) (any_live rows ss v) (on h)

module _ (need : ℕ → ℕ → Option ℕ) where
  -- reading along operations
  reads_alive : (xs : List Lir) (end : End) (last : ℕ → Bool) (v : ℕ) → ((u : ℕ) → has (end_uses end) u ≡ true → last u ≡ true) → reads (map operation_of xs) end v ≡ true → alive need xs last v ≡ true
  reads_alive [] end last v on h = on v h
  reads_alive (x ∷ xs) end last v on h = by (has x.uses v) (has (option_to_list x.def) v) h (reads_alive xs end last v on)
    where
      by : (b c : Bool) → cond b true (cond c false (reads (map operation_of xs) end v)) ≡ true → (reads (map operation_of xs) end v ≡ true → alive need xs last v ≡ true) → cond b true (cond c false (alive need xs last v)) ≡ true
      by true c h go = refl
      by false true h go = h
      by false false h go = go h

  passed_alive : (xs : List Lir) (last : ℕ → Bool) (v : ℕ) → has (defs_of (map operation_of xs)) v ≡ false → last v ≡ true → alive need xs last v ≡ true
  passed_alive [] last v d h = h
  passed_alive (x ∷ xs) last v d h =
      or_rest (has x.uses v) (cond (has (option_to_list x.def) v) false (alive need xs last v))
      (ap (λ b. cond b false (alive need xs last v)) (not_in_front (option_to_list x.def) (defs_of (map operation_of xs)) v d) ∙ passed_alive xs last v (not_in_back (option_to_list x.def) (defs_of (map operation_of xs)) v d) h)

  alive_is : (xs : List Lir) (end : End) (last : ℕ → Bool) (v : ℕ) (P : Type 0) → (last v ≡ true → (has (end_uses end) v ≡ true) ⊎ P) → alive need xs last v ≡ true → (reads (map operation_of xs) end v ≡ true) ⊎ ((has (defs_of (map operation_of xs)) v ≡ false) × P)
  alive_is [] end last v P on h = ⊎_elim inl (λ p. inr (refl, p)) (on h)
  alive_is (x ∷ xs) end last v P on h = by (has x.uses v) (has (option_to_list x.def) v) refl h (alive_is xs end last v P on)
    where
      rest : has (option_to_list x.def) v ≡ false → has (defs_of (map operation_of xs)) v ≡ false → has (option_to_list x.def ++ defs_of (map operation_of xs)) v ≡ false
      rest a b = has-append (option_to_list x.def) (defs_of (map operation_of xs)) v ∙ ap (λ c. c || has (defs_of (map operation_of xs)) v) a ∙ b

      by : (b c : Bool) → has (option_to_list x.def) v ≡ c → cond b true (cond c false (alive need xs last v)) ≡ true → (alive need xs last v ≡ true → (reads (map operation_of xs) end v ≡ true) ⊎ ((has (defs_of (map operation_of xs)) v ≡ false) × P)) → (cond b true (cond c false (reads (map operation_of xs) end v)) ≡ true) ⊎ ((has (option_to_list x.def ++ defs_of (map operation_of xs)) v ≡ false) × P)
      by true c e h go = inl refl
      by false true e h go = cc
      by false false e h go = ⊎_elim inl (λ k. inr (rest e k.0, k.1)) (go h)

  module _ (f : Flow) (rows : List (List ℕ)) (valid : IsValidFlow f) (live : HasLive f rows) where
    abbrev bls : List CodeBlock
    bls = code_nodes f.nodes

    pub at_node : (n : ℕ) (node : Node) → slice_get f.nodes n ≡ Some node → slice_get bls n ≡ Some (code_node node)
    at_node n node e = slice_get-map code_node f.nodes n ∙ ap (Rattle.std.specs.Option.option_map code_node) e

    pub block_is : (n : ℕ) (node : Node) → slice_get f.nodes n ≡ Some node → block_at bls n ≡ code_node node
    block_is n node e = get_or_from_slice_get bls n (code_node node) no_block (at_node n node e)

    -- a live value is one of the flow's
    pub live_below : (v n : ℕ) → Live bls v n → v < f.values
    live_below v n (Here b bl e np r) = all_below_in f.values (block_reads bl) v (ap (λ x. all_below f.values (block_reads x)) (sym (get_or_from_slice_get bls b bl no_block e)) ∙ at_block (λ x. all_below f.values (block_reads x)) bls b valid.code.read_below refl) (read_in bl.ops bl.end r)
      where
        read_in : (os : List Operation) (end : End) → reads os end v ≡ true → has (uses_of os ++ end_uses end) v ≡ true
        read_in [] end h = h
        read_in (o ∷ os) end h = by (has o.uses v) refl (has (option_to_list o.def) v) h (read_in os end)
          where
            append : (a b c : List ℕ) → has ((a ++ b) ++ c) v ≡ (has a v || has (b ++ c) v)
            append a b c = has-append (a ++ b) c v ∙ ap (λ z. z || has c v) (has-append a b v) ∙ assoc (has a v) (has b v) (has c v) ∙ ap (λ z. has a v || z) (sym (has-append b c v))
              where
                assoc : (x y z : Bool) → ((x || y) || z) ≡ (x || (y || z))
                assoc true y z = refl
                assoc false y z = refl

            or_true : (x : Bool) → (x || true) ≡ true
            or_true true = refl
            or_true false = refl

            by : (b : Bool) → has o.uses v ≡ b → (c : Bool) → cond b true (cond c false (reads os end v)) ≡ true → (reads os end v ≡ true → has (uses_of os ++ end_uses end) v ≡ true) → has ((o.uses ++ uses_of os) ++ end_uses end) v ≡ true
            by true e c h go = append o.uses (uses_of os) (end_uses end) ∙ ap (λ z. z || has (uses_of os ++ end_uses end) v) e
            by false e true h go = cc
            by false e false h go = append o.uses (uses_of os) (end_uses end) ∙ ap (λ z. has o.uses v || z) (go h) ∙ or_true (has o.uses v)
    live_below v n (Later b to bl e m s l) = live_below v to l

    module _ (n : ℕ) (node : Node) (here : slice_get f.nodes n ≡ Some node) where
      abbrev last : ℕ → Bool
      last = last_live rows node.end

      pub behind_is : (v : ℕ) → last v ≡ true → (has (end_uses node.end) v ≡ true) ⊎ LiveBehind bls (code_node node) v
      behind_is v h = by (has (end_uses node.end) v) refl h
        where
          by : (b : Bool) → has (end_uses node.end) v ≡ b → cond b true (any_live rows (successors node.end) v) ≡ true → (has (end_uses node.end) v ≡ true) ⊎ LiveBehind bls (code_node node) v
          by true e h = inl e
          by false e h = let m = any_is rows (successors node.end) v h in inr (m.0, m.1, live.exact m.0 v m.2)

      pub is_behind : (v : ℕ) → LiveBehind bls (code_node node) v → last v ≡ true
      is_behind v m = or_rest (has (end_uses node.end) v) (any_live rows (successors node.end) v) (is_any rows (successors node.end) m.0 v m.1 (live.whole m.0 v m.2))

      pub wanted_alive : (v : ℕ) → IsWanted bls (code_node node) (map operation_of node.lirs) v → alive need node.lirs last v ≡ true
      wanted_alive v (inl r) = reads_alive node.lirs node.end last v (λ u h. ap (λ b. cond b true (any_live rows (successors node.end) u)) h) r
      wanted_alive v (inr k) = passed_alive node.lirs last v k.0 (is_behind v k.1)

      pub alive_wanted : (v : ℕ) → alive need node.lirs last v ≡ true → IsWanted bls (code_node node) (map operation_of node.lirs) v
      alive_wanted v h = alive_is node.lirs node.end last v (LiveBehind bls (code_node node) v) (behind_is v) h

      -- what is live into the node lives along its operations
      pub live_alive : (v : ℕ) → Live bls v n → alive need node.lirs last v ≡ true
      live_alive v l = by l refl
        where
          same : (bl : CodeBlock) → slice_get bls n ≡ Some bl → bl ≡ code_node node
          same bl e = let q : Some bl ≡ Some (code_node node) = sym e ∙ at_node n node here in cc

          by : {b : ℕ} → Live bls v b → b ≡ n → alive need node.lirs last v ≡ true
          by (Here b bl e np r) q = let z = same bl (ap (slice_get bls) (sym q) ∙ e) in wanted_alive v (inl (ap (λ x. reads x.ops x.end v) (sym z) ∙ r))
          by (Later b to bl e m s l) q = let z = same bl (ap (slice_get bls) (sym q) ∙ e) in wanted_alive v (inr (not_in_back node.params (defs_of (map operation_of node.lirs)) v (ap (λ x. has (block_makes x) v) (sym z) ∙ m), (to, ap (λ x. has (successors x.end) to) (sym z) ∙ s, l)))

      -- and what lives along them, and is no parameter, is live into the node
      pub alive_live : (v : ℕ) → has node.params v ≡ false → alive need node.lirs last v ≡ true → Live bls v n
      alive_live v np h = by (alive_wanted v h)
        where
          by : IsWanted bls (code_node node) (map operation_of node.lirs) v → Live bls v n
          by (inl r) = Here n (code_node node) (at_node n node here) np r
          by (inr k) = Later n k.1.0 (code_node node) (at_node n node here) (has-append node.params (defs_of (map operation_of node.lirs)) v ∙ ap (λ c. c || has (defs_of (map operation_of node.lirs)) v) np ∙ k.0) k.1.1 k.1.2

    ---- Needs

    pub in_live_into : (v s : ℕ) → Live bls v s → has (live_into f.values rows s) v ≡ true
    in_live_into v s l = has-filter (has_bit rows s) (places_from 0 f.values) v ∙ ap (λ b. b && has_bit rows s v) (has_places 0 f.values v (omega arith) (let lt = live_below v s l in omega (arith, lt))) ∙ live.whole s v l

    in_off : (next : Option ℕ) (ss : List ℕ) (v s : ℕ) → has ss s ≡ true → is_next next s ≡ false → Live bls v s → has (live_off f.values rows next ss) v ≡ true
    in_off next [] v s h ne l = cc
    in_off next (m ∷ ss) v s h ne l = by (m == s) refl h (λ g. in_off next ss v s g ne l)
      where
        by : (b : Bool) → (m == s) ≡ b → cond b true (has ss s) ≡ true → (has ss s ≡ true → has (live_off f.values rows next ss) v ≡ true) → has (cond (is_next next m) [] (live_into f.values rows m) ++ live_off f.values rows next ss) v ≡ true
        by true e h go = has_front (cond (is_next next m) [] (live_into f.values rows m)) (live_off f.values rows next ss) v (ap (λ b. has (cond b [] (live_into f.values rows m)) v) (ap (is_next next) (numbers_same m s e) ∙ ne) ∙ ap (λ y. has (live_into f.values rows y) v) (numbers_same m s e) ∙ in_live_into v s l)
        by false e h go = has_back (cond (is_next next m) [] (live_into f.values rows m)) (live_off f.values rows next ss) v (go h)

    -- what an end reads or passes on is needed from there on
    pub last_needed : (node : Node) (next : Option ℕ) (e : ℕ) (rest : List Position) → Follows need e (at_end f.values rows next node ∷ rest) → ((m v : ℕ) → next ≡ Some m → Live bls v m → is_needed need (e + 1) v ≡ true) → (v : ℕ) → last_live rows node.end v ≡ true → is_needed need e v ≡ true
    last_needed node next e rest fol on v h = by (has (end_uses node.end) v) refl h
      where
        off : (s : ℕ) → has (successors node.end) s ≡ true → has_bit rows s v ≡ true → (b : Bool) → is_next next s ≡ b → is_needed need e v ≡ true
        off s h g true q = later_needed need e (at_end f.values rows next node) rest fol v (on s v (is_it next q) (live.exact s v g))
          where
            is_it : (o : Option ℕ) → is_next o s ≡ true → o ≡ Some s
            is_it None z = cc
            is_it (Some m) z = ap Some (numbers_same m s z)
        off s h g false q = uses_needed need e (at_end f.values rows next node) rest fol v (has_back (end_uses node.end) (live_off f.values rows next (successors node.end)) v (in_off next (successors node.end) v s h q (live.exact s v g)))

        by : (b : Bool) → has (end_uses node.end) v ≡ b → cond b true (any_live rows (successors node.end) v) ≡ true → is_needed need e v ≡ true
        by true q h = uses_needed need e (at_end f.values rows next node) rest fol v (has_front (end_uses node.end) (live_off f.values rows next (successors node.end)) v q)
        by false q h = let m = any_is rows (successors node.end) v h in off m.0 m.1 m.2 (is_next next m.0) refl

    pub end_at : (xs : List Lir) (p : ℕ) (rest : List Position) → Follows need p (map at_operation xs ++ rest) → Follows need (p + length xs) rest
    end_at [] p rest fol = let z : p ≡ p + 0 = omega arith in subst (λ i. Follows need i rest) z fol
    end_at (x ∷ xs) p rest fol = let z : p + 1 + length xs ≡ p + suc (length xs) = omega arith in subst (λ i. Follows need i rest) z (end_at xs (p + 1) rest (follows_tail need p (at_operation x) (map at_operation xs ++ rest) fol))
