-- Nodes as sections: what lives along them is what is live, and each value is made in one place.
use Rattle.std.proofs.Common.{◌≡◌, ◌≢◌, ℕ, zero, suc, ◌+◌, ◌<◌, ◌≤◌, Bool, true, false, cond, List, [], ◌∷◌, ◌++◌, map, take, drop, Option, Some, None, refl, sym, ap, ◌∙◌, arith, ◌⊎◌, inl, inr, ⊎_elim}
use Rattle.std.specs.Prelude.{◌==◌, slice_get, option_to_list}
use Rattle.run_laws.specs.Layers.{places_from}
use Rattle.block_runs.specs.Blocks.{Operation, CodeBlock, block_at, end_uses, successors}
use Rattle.block_runs.specs.Live.{has, defs_of, block_makes, Live, LiveBehind, IsWanted}
use Rattle.block_runs.specs.Valid.{times, made, block_reads, all_below}
use Rattle.lir_core.specs.declared.flow.Lir.{Lir}
use Rattle.lir_core.specs.declared.flow.Node.{Node}
use Rattle.lir_core.specs.declared.flow.Flow.{Flow}
use Rattle.lir_core.specs.Flows.{operation_of, code_node, code_nodes, IsValidFlow}
use Rattle.lir_core.specs.Rows.{has_bit, live_into}
use Rattle.global_live.specs.Reading.{HasLive}
use Rattle.global_live.proofs.Lists.{has_front, has_back, in_parts, not_in_front, not_in_back, times-append, times_of_in, times_of_out, has-filter, all_below_in}
use Rattle.global_live.proofs.Tables.{at_block}
use Rattle.loc_back.specs.Marks.{live_at_each}
use Rattle.loc_back.specs.Served.{Section, lives, lives_from, section_of}
use Rattle.loc_state.proofs.Numbers.{numbers_same, test_same, or_rest}
use Rattle.linear_scan.proofs.Needs.{alive}
use Rattle.linear_scan.proofs.Wanted.{last_live, at_node, block_is, behind_is, is_behind, wanted_alive, live_alive, alive_live, in_live_into}
use Rattle.linear_scan.proofs.Fitting.{made_below, made_once}
use Rattle.bottom_up.specs.Bottom.{made_by, made_along}
use Rattle.linear_scan.proofs.Fitting.{made_at}

abbrev no_need : ℕ → ℕ → Option ℕ
no_need v p = None

---- What lives

lives_alive : (xs : List Lir) (after : List ℕ) (last : ℕ → Bool) (v : ℕ) → (has after v ≡ true → last v ≡ true) → lives (map operation_of xs) after v ≡ true → alive no_need xs last v ≡ true
lives_alive [] after last v on h = on h
lives_alive (x ∷ xs) after last v on h = by (has x.uses v) (has (option_to_list x.def) v) h (lives_alive xs after last v on)
  where
    by : (b c : Bool) → cond b true (cond c false (lives (map operation_of xs) after v)) ≡ true → (lives (map operation_of xs) after v ≡ true → alive no_need xs last v ≡ true) → cond b true (cond c false (alive no_need xs last v)) ≡ true
    by true c h go = refl
    by false true h go = h
    by false false h go = go h

alive_lives : (xs : List Lir) (after : List ℕ) (last : ℕ → Bool) (v : ℕ) → (last v ≡ true → has after v ≡ true) → alive no_need xs last v ≡ true → lives (map operation_of xs) after v ≡ true
alive_lives [] after last v on h = on h
alive_lives (x ∷ xs) after last v on h = by (has x.uses v) (has (option_to_list x.def) v) h (alive_lives xs after last v on)
  where
    by : (b c : Bool) → cond b true (cond c false (alive no_need xs last v)) ≡ true → (alive no_need xs last v ≡ true → lives (map operation_of xs) after v ≡ true) → cond b true (cond c false (lives (map operation_of xs) after v)) ≡ true
    by true c h go = refl
    by false true h go = h
    by false false h go = go h

-- what lives from some operation on, and isn't made before, lives before all
lives_back : (ops : List Operation) (after : List ℕ) (j v : ℕ) → has (defs_of (take j ops)) v ≡ false → lives (drop j ops) after v ≡ true → lives ops after v ≡ true
lives_back [] after zero v e h = h
lives_back [] after (suc j) v e h = h
lives_back (op ∷ ops) after zero v e h = h
lives_back (op ∷ ops) after (suc j) v e h =
    or_rest (has op.uses v) (cond (has (option_to_list op.def) v) false (lives ops after v))
    (ap (λ c. cond c false (lives ops after v)) (not_in_front (option_to_list op.def) (defs_of (take j ops)) v e) ∙ lives_back ops after j v (not_in_back (option_to_list op.def) (defs_of (take j ops)) v e) h)

times_split : (ops : List Operation) (j v : ℕ) → times (defs_of ops) v ≡ times (defs_of (take j ops)) v + times (defs_of (drop j ops)) v
times_split [] zero v = refl
times_split [] (suc j) v = refl
times_split (op ∷ ops) zero v = omega arith
times_split (op ∷ ops) (suc j) v =
    let a = times-append (option_to_list op.def) (defs_of ops) v in
    let b = times-append (option_to_list op.def) (defs_of (take j ops)) v in
    let c = times_split ops j v in
    omega (arith, a, b, c)

in_each : (values : ℕ) (rows : List (List ℕ)) (ss : List ℕ) (v : ℕ) → has (live_at_each values rows ss) v ≡ true → (s : ℕ) × (has ss s ≡ true) × (has_bit rows s v ≡ true)
in_each values rows [] v h = cc
in_each values rows (s ∷ ss) v h = ⊎_elim
    (λ k. (s, ap (λ b. cond b true (has ss s)) (test_same s), (Rattle.std.proofs.lemmas.Bool.and_parts (has (places_from 0 values) v) (has_bit rows s v) (sym (has-filter (has_bit rows s) (places_from 0 values) v) ∙ k)).1))
    (λ k. let m = in_each values rows ss v k in (m.0, or_rest (s == m.0) (has ss m.0) m.1, m.2))
    (in_parts (live_into values rows s) (live_at_each values rows ss) v h)

of_each : (values : ℕ) (rows : List (List ℕ)) (ss : List ℕ) (s v : ℕ) → has ss s ≡ true → has (live_into values rows s) v ≡ true → has (live_at_each values rows ss) v ≡ true
of_each values rows [] s v h e = cc
of_each values rows (m ∷ ss) s v h e = by (m == s) refl h (λ k. of_each values rows ss s v k e)
  where
    by : (b : Bool) → (m == s) ≡ b → cond b true (has ss s) ≡ true → (has ss s ≡ true → has (live_at_each values rows ss) v ≡ true) → has (live_into values rows m ++ live_at_each values rows ss) v ≡ true
    by true q h on = has_front (live_into values rows m) (live_at_each values rows ss) v (ap (λ y. has (live_into values rows y) v) (numbers_same m s q) ∙ e)
    by false q h on = has_back (live_into values rows m) (live_at_each values rows ss) v (on h)

---- Made in one place

made_two : (bls : List CodeBlock) (a b v : ℕ) → a ≢ b → times (block_makes (block_at bls a)) v + times (block_makes (block_at bls b)) v ≤ times (made bls) v
made_two [] a b v ne = omega arith
made_two (bl ∷ bls) zero zero v ne = absurd (ne refl)
made_two (bl ∷ bls) zero (suc b) v ne = let t = times-append (block_makes bl) (made bls) v in let m = made_at bls b v in omega (arith, t, m)
made_two (bl ∷ bls) (suc a) zero v ne = let t = times-append (block_makes bl) (made bls) v in let m = made_at bls a v in omega (arith, t, m)
made_two (bl ∷ bls) (suc a) (suc b) v ne = let t = times-append (block_makes bl) (made bls) v in let m = made_two bls a b v (λ q. ne (ap suc q)) in omega (arith, t, m)

module _ (f : Flow) (rows : List (List ℕ)) (valid : IsValidFlow f) (live : HasLive f rows) where
  abbrev pub bls : List CodeBlock
  bls = code_nodes f.nodes

  module _ (n : ℕ) (node : Node) (here : slice_get f.nodes n ≡ Some node) where
    abbrev pub sec : Section
    sec = section_of f.values rows n (Some node)

    abbrev last : ℕ → Bool
    last = last_live rows node.end

    pub after_is : (v : ℕ) → has sec.after v ≡ true → (has (end_uses node.end) v ≡ true) ⊎ LiveBehind bls (code_node node) v
    after_is v h = ⊎_elim (λ k. let m = in_each f.values rows (successors node.end) v k in inr (m.0, m.1, live.exact m.0 v m.2)) inl (in_parts (live_at_each f.values rows (successors node.end)) (end_uses node.end) v h)

    pub used_after : (v : ℕ) → has (end_uses node.end) v ≡ true → has sec.after v ≡ true
    used_after v h = has_back (live_at_each f.values rows (successors node.end)) (end_uses node.end) v h

    pub live_after : (v : ℕ) → LiveBehind bls (code_node node) v → has sec.after v ≡ true
    live_after v m = has_front (live_at_each f.values rows (successors node.end)) (end_uses node.end) v (of_each f.values rows (successors node.end) m.0 v m.1 (in_live_into no_need f rows valid live v m.0 m.2))

    after_last : (v : ℕ) → has sec.after v ≡ true → last v ≡ true
    after_last v h = ⊎_elim (λ u. ap (λ b. cond b true (Rattle.linear_scan.proofs.Wanted.any_live rows (successors node.end) v)) u) (λ m. is_behind no_need f rows valid live n node here v m) (after_is v h)

    last_after : (v : ℕ) → last v ≡ true → has sec.after v ≡ true
    last_after v h = ⊎_elim (used_after v) (live_after v) (behind_is no_need f rows valid live n node here v h)

    pub live_lives : (v : ℕ) → Live bls v n → lives_from sec 0 v ≡ true
    live_lives v l = alive_lives node.lirs sec.after last v (last_after v) (live_alive no_need f rows valid live n node here v l)

    pub wanted_lives : (v : ℕ) → IsWanted bls (code_node node) (map operation_of node.lirs) v → lives_from sec 0 v ≡ true
    wanted_lives v w = alive_lives node.lirs sec.after last v (last_after v) (wanted_alive no_need f rows valid live n node here v w)

    pub lives_live : (v : ℕ) → has node.params v ≡ false → lives_from sec 0 v ≡ true → Live bls v n
    lives_live v e h = alive_live no_need f rows valid live n node here v e (lives_alive node.lirs sec.after last v (after_last v) h)

    pub starts : (v : ℕ) → lives_from sec 0 v ≡ true → has sec.before v ≡ true
    starts v h = by (has node.params v) refl
      where
        by : (b : Bool) → has node.params v ≡ b → has (live_into f.values rows n ++ node.params) v ≡ true
        by true e = has_back (live_into f.values rows n) node.params v e
        by false e = has_front (live_into f.values rows n) node.params v (in_live_into no_need f rows valid live v n (lives_live v e h))

    pub there : block_at bls n ≡ code_node node
    there = block_is no_need f rows valid live n node here

    pub live_not_made : (v : ℕ) → Live bls v n → has (block_makes (code_node node)) v ≡ false
    live_not_made v l = by (has (block_makes (code_node node)) v) refl
      where
        by : (b : Bool) → has (block_makes (code_node node)) v ≡ b → b ≡ false
        by false e = refl
        by true e = absurd (valid.code.placed.own v n (code_node node) (at_node no_need f rows valid live n node here) e l)

    -- what is read is one of the flow's values
    pub read_below : (v : ℕ) → has (block_reads (code_node node)) v ≡ true → v < f.values
    read_below v h = all_below_in f.values (block_reads (code_node node)) v (ap (λ b. all_below f.values (block_reads b)) (sym there) ∙ at_block (λ b. all_below f.values (block_reads b)) bls n valid.code.read_below refl) h

  -- no two nodes make a value
  pub made_apart : (a b : ℕ) (node other : Node) → slice_get f.nodes a ≡ Some node → slice_get f.nodes b ≡ Some other → a ≢ b → (v : ℕ) → has (block_makes (code_node node)) v ≡ true → has (block_makes (code_node other)) v ≡ true → ⊥
  made_apart a b node other ha hb ne v h k =
      let x = times_of_in (block_makes (code_node node)) v h in
      let y = times_of_in (block_makes (code_node other)) v k in
      let p = ap (λ bl. times (block_makes bl) v) (there a node ha) in
      let q = ap (λ bl. times (block_makes bl) v) (there b other hb) in
      let two = made_two bls a b v ne in
      let once = valid.code.made_once v (made_below f valid a node (there a node ha) v h) in
      absurd (omega (arith, x, y, p, q, two, once))

  -- some node of a list makes what all together make
  pub made_there : (ns : List ℕ) (v : ℕ) → has (made_along f.nodes ns) v ≡ true → (m : ℕ) × (has ns m ≡ true) × ((other : Node) × (slice_get f.nodes m ≡ Some other) × (has (block_makes (code_node other)) v ≡ true))
  made_there [] v h = cc
  made_there (n ∷ ns) v h = ⊎_elim (λ k. by (slice_get f.nodes n) refl k) (λ k. let m = made_there ns v k in (m.0, or_rest (n == m.0) (has ns m.0) m.1, m.2)) (in_parts (made_by (slice_get f.nodes n)) (made_along f.nodes ns) v h)
    where
      by : (o : Option Node) → slice_get f.nodes n ≡ o → has (made_by o) v ≡ true → (m : ℕ) × (has (n ∷ ns) m ≡ true) × ((other : Node) × (slice_get f.nodes m ≡ Some other) × (has (block_makes (code_node other)) v ≡ true))
      by None e k = cc
      by (Some other) e k = (n, ap (λ b. cond b true (has ns n)) (test_same n), (other, e, k))

  module _ (n : ℕ) (node : Node) (here : slice_get f.nodes n ≡ Some node) (ns : List ℕ) (apart : has ns n ≡ false) where
    -- what a node further on makes, this one doesn't
    pub not_here : (v : ℕ) → has (made_along f.nodes ns) v ≡ true → has (block_makes (code_node node)) v ≡ false
    not_here v h = by (has (block_makes (code_node node)) v) refl
      where
        by : (b : Bool) → has (block_makes (code_node node)) v ≡ b → b ≡ false
        by false e = refl
        by true e =
            let m = made_there ns v h in
            absurd (made_apart n m.0 node m.2.0 here m.2.1 (λ q. let z : true ≡ false = sym m.1 ∙ ap (has ns) (sym q) ∙ apart in cc) v e m.2.2)

    -- what lives from the j-th operation on and is made from there on, here or further on, is live into this node
    pub lives_early : (j v : ℕ) → lives_from (sec n node here) j v ≡ true → (has (defs_of (drop j (map operation_of node.lirs))) v ≡ true) ⊎ (has (made_along f.nodes ns) v ≡ true) → Live bls v n × (has (made_along f.nodes (n ∷ ns)) v ≡ true)
    lives_early j v h m = (lives_live n node here v (by m).0 (lives_back ops (sec n node here).after j v (by m).1 h), made_it m)
      where
        ops : List Operation
        ops = map operation_of node.lirs

        none : (xs : List ℕ) → times xs v ≡ 0 → (b : Bool) → has xs v ≡ b → b ≡ false
        none xs z false e = refl
        none xs z true e = let k = times_of_in xs v e in absurd (omega (arith, z, k))

        by : ◌⊎◌ (has (defs_of (drop j ops)) v ≡ true) (has (made_along f.nodes ns) v ≡ true) → (has node.params v ≡ false) × (has (defs_of (take j ops)) v ≡ false)
        by (inl d) =
            let once = made_once f valid n node (there n node here) v in
            let k = times_of_in (defs_of (drop j ops)) v d in
            let t = times_split ops j v in
            (none node.params (omega (arith, once, k, t)) (has node.params v) refl, none (defs_of (take j ops)) (omega (arith, once, k, t)) (has (defs_of (take j ops)) v) refl)
        by (inr k) =
            let e = not_here v k in
            let z = times_of_out (defs_of ops) v (not_in_back node.params (defs_of ops) v e) in
            let t = times_split ops j v in
            (not_in_front node.params (defs_of ops) v e, none (defs_of (take j ops)) (omega (arith, z, t)) (has (defs_of (take j ops)) v) refl)

        in_drop : (xs : List Operation) (i : ℕ) → has (defs_of (drop i xs)) v ≡ true → has (defs_of xs) v ≡ true
        in_drop xs i h = by_has (has (defs_of xs) v) refl
          where
            by_has : (b : Bool) → has (defs_of xs) v ≡ b → b ≡ true
            by_has true e = refl
            by_has false e = let z = times_of_out (defs_of xs) v e in let k = times_of_in (defs_of (drop i xs)) v h in let t = times_split xs i v in absurd (omega (arith, z, k, t))

        made_it : ◌⊎◌ (has (defs_of (drop j ops)) v ≡ true) (has (made_along f.nodes ns) v ≡ true) → has (made_by (slice_get f.nodes n) ++ made_along f.nodes ns) v ≡ true
        made_it (inl d) = has_front (made_by (slice_get f.nodes n)) (made_along f.nodes ns) v (ap (λ o. has (made_by o) v) here ∙ has_back node.params (defs_of ops) v (in_drop ops j d))
        made_it (inr k) = has_back (made_by (slice_get f.nodes n)) (made_along f.nodes ns) v k
