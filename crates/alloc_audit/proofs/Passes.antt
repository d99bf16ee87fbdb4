-- Results that the walk accepts have no failure, and the verdict over them is `Sound`.
use Rattle.std.proofs.Common.{◌≡◌, ℕ, zero, suc, ◌+◌, ◌<◌, ◌≤◌, Bool, true, false, ◌||◌, not, cond, List, [], ◌∷◌, ◌++◌, length, get_or, Option, Some, None, refl, sym, ap, ◌∙◌, append_assoc, arith, inl, inr, ◌⊎◌, ⊎_elim}
use Rattle.std.specs.Prelude.{◌==◌, option_to_list}
use Rattle.std.specs.List.{list_all, list_any}
use Rattle.std.proofs.lemmas.Bool.{and_parts, and_from, eq-eqb, or_cases, or_left, or_right}
use Rattle.run_laws.specs.Layers.{places_from}
use Rattle.block_runs.specs.Blocks.{Operation, CodeBlock, block_at, end_uses, successors}
use Rattle.block_runs.specs.declared.end.End.{End}
use Rattle.block_runs.specs.Live.{has, defs_of, block_makes, reads, Live, IsWanted}
use Rattle.block_runs.specs.Valid.{block_reads, uses_of, made, times}
use Rattle.lir_core.specs.declared.flow.Flow.{Flow}
use Rattle.lir_core.specs.declared.flow.Trace.{Trace}
use Rattle.lir_core.specs.declared.places.Places.{Places}
use Rattle.lir_core.specs.declared.places.Line.{Line}
use Rattle.lir_core.specs.declared.places.TraceOut.{TraceOut}
use Rattle.lir_core.specs.Flows.{code_nodes, IsValidFlow}
use Rattle.lir_core.specs.Spots.{reg, home, in_register, placed, IsSingle, IsRising, IsRow}
use Rattle.lir_core.specs.Lines.{end_reads, Room}
use Rattle.lir_core.specs.Walks.{Walker, begin, walk, Finishes}
use Rattle.lir_core.specs.Sound.{IsStart, IsEnd, no_places, room_of}
use Rattle.global_live.proofs.Lists.{has_front, has_back, has-filter, in_parts, not_in_front, not_in_back, times-append, times_of_in, all_below_in}
use Rattle.walked_results.specs.Walked.{IsWalkedNode, IsWalked}
use Rattle.alloc_audit.specs.declared.verdict.Verdict.TheVariants.{Sound}
use Rattle.alloc_audit.specs.Tests.{is_value, stand, are_below}
use Rattle.alloc_audit.specs.Nodes.{Grounds, is_single, is_rising, live_values, is_wanted, may_name, may_hold, starts_well, are_true, keeps_all, ends_well, ended, lines_failure, node_failure}
use Rattle.alloc_audit.specs.Verdicts.{or_behind, nodes_failure, is_long, result_failure, told, verdict_from, grounds_of, grounds_of_flow, grounds_of_flows}
use Rattle.alloc_audit.specs.Results.{IsLive, AreLive, OwnWalked, AreWalked}
use Rattle.alloc_audit.proofs.Holds.{stand_is, all_below, none_unfit, all_from, registers_true, homes_true, single, rising}

---- What is read

-- what is read, and not made, is read before it is made
reads_of : (ops : List Operation) (end : End) (v : ℕ) → has (defs_of ops) v ≡ false → has (uses_of ops ++ end_uses end) v ≡ true → reads ops end v ≡ true
reads_of [] end v d e = e
reads_of (op ∷ ops) end v d e = by (λ e. reads_of ops end v (not_in_back (option_to_list op.def) (defs_of ops) v d) e) (has op.uses v) refl (in_parts op.uses (uses_of ops ++ end_uses end) v (ap (λ xs. has xs v) (sym (append_assoc op.uses (uses_of ops) (end_uses end))) ∙ e))
  where
    by : (has (uses_of ops ++ end_uses end) v ≡ true → reads ops end v ≡ true) → (b : Bool) → has op.uses v ≡ b → (has op.uses v ≡ true) ⊎ (has (uses_of ops ++ end_uses end) v ≡ true) → cond b true (cond (has (option_to_list op.def) v) false (reads ops end v)) ≡ true
    by on true q s = refl
    by on false q (inl u) = cc
    by on false q (inr r) = ap (λ b. cond b false (reads ops end v)) (not_in_front (option_to_list op.def) (defs_of ops) v d) ∙ on r

some_of : (p : ℕ → Bool) (xs : List ℕ) → list_any p xs ≡ true → (x : ℕ) × (has xs x ≡ true) × (p x ≡ true)
some_of p [] e = cc
some_of p (x ∷ xs) e = by (λ e. some_of p xs e) (or_cases (p x) (list_any p xs) e)
  where
    more : ((y : ℕ) × (has xs y ≡ true) × (p y ≡ true)) → (y : ℕ) × (has (x ∷ xs) y ≡ true) × (p y ≡ true)
    more s = (s.0, has_back (x ∷ []) xs s.0 s.1, s.2)

    by : (list_any p xs ≡ true → (y : ℕ) × (has xs y ≡ true) × (p y ≡ true)) → (p x ≡ true) ⊎ (list_any p xs ≡ true) → (y : ℕ) × (has (x ∷ xs) y ≡ true) × (p y ≡ true)
    by on (inl a) = (x, Rattle.global_live.proofs.Lists.has_head x xs, a)
    by on (inr a) = more (on a)

---- Parameters

made_at : (bls : List CodeBlock) (n v : ℕ) → times (block_makes (block_at bls n)) v ≤ times (made bls) v
made_at [] n v = omega arith
made_at (bl ∷ bls) zero v = let a = times-append (block_makes bl) (made bls) v in omega (arith, a)
made_at (bl ∷ bls) (suc n) v = let a = times-append (block_makes bl) (made bls) v in let b = made_at bls n v in omega (arith, a, b)

pub times_in : (bls : List CodeBlock) (n v : ℕ) → has (block_makes (block_at bls n)) v ≡ true → has (made bls) v ≡ true
times_in [] n v h = h
times_in (bl ∷ bls) zero v h = has_front (block_makes bl) (made bls) v h
times_in (bl ∷ bls) (suc n) v h = has_back (block_makes bl) (made bls) v (times_in bls n v h)

-- no operation makes a parameter anew
unmade : (f : Flow) → IsValidFlow f → (n v : ℕ) → has (block_at (code_nodes f.nodes) n).params v ≡ true → has (defs_of (block_at (code_nodes f.nodes) n).ops) v ≡ false
unmade f valid n v h = by (has (defs_of (block_at (code_nodes f.nodes) n).ops) v) refl
  where
    by : (b : Bool) → has (defs_of (block_at (code_nodes f.nodes) n).ops) v ≡ b → b ≡ false
    by false e = refl
    by true e =
        let bl = block_at (code_nodes f.nodes) n in
        let l = all_below_in f.values (made (code_nodes f.nodes)) v valid.code.made_below (times_in (code_nodes f.nodes) n v (has_front bl.params (defs_of bl.ops) v h)) in
        let one = valid.code.made_once v l in
        let most = made_at (code_nodes f.nodes) n v in
        let both = times-append bl.params (defs_of bl.ops) v in
        let p = times_of_in bl.params v h in
        let d = times_of_in (defs_of bl.ops) v e in
        absurd (omega (arith, one, most, both, p, d))

---- A node

module _ (k : ℕ) (f : Flow) (live : ℕ → ℕ → Bool) (given : IsLive f live) where
  abbrev code : List CodeBlock
  code = code_nodes f.nodes

  abbrev room : Room
  room = room_of k f

  was_live : (n v : ℕ) → has (live_values room.values live n) v ≡ true → Live code v n
  was_live n v h = given.exact n v (and_parts (has (places_from 0 room.values) v) (live n v) (sym (has-filter (live n) (places_from 0 room.values) v) ∙ h)).1

  wanted_is : (n v : ℕ) → has (block_at code n).params v ≡ true → is_wanted live (block_at code n) v ≡ true → IsWanted code (block_at code n) (block_at code n).ops v
  wanted_is n v h e = by (or_cases (has (block_reads (block_at code n)) v) (list_any (λ to. live to v) (successors (block_at code n).end)) e)
    where
      by : (has (block_reads (block_at code n)) v ≡ true) ⊎ (list_any (λ to. live to v) (successors (block_at code n).end) ≡ true) → IsWanted code (block_at code n) (block_at code n).ops v
      by (inl r) = inl (reads_of (block_at code n).ops (block_at code n).end v (unmade f given.valid n v h) r)
      by (inr a) = let s = some_of (λ to. live to v) (successors (block_at code n).end) a in inr (unmade f given.valid n v h, (s.0, s.1, given.exact s.0 v s.2))

  names_well : (n : ℕ) (start : Places) → IsStart code n start → (v : ℕ) → placed start v ≡ true → may_name live (block_at code n) n v ≡ true
  names_well n start s v h = ⊎_elim (λ l. or_left (live n v) (has (block_at code n).params v) (given.whole n v l)) (λ p. or_right (live n v) (has (block_at code n).params v) p) (s.only v h)

  holds_well : (n : ℕ) (regs : List (Option ℕ)) → ((v : ℕ) → in_register regs v ≡ true → may_name live (block_at code n) n v ≡ true) → list_all (may_hold live (block_at code n) n) regs ≡ true
  holds_well n [] h = refl
  holds_well n (None ∷ regs) h = holds_well n regs h
  holds_well n (Some u ∷ regs) h = and_from (may_name live (block_at code n) n u) (list_all (may_hold live (block_at code n) n) regs) (h u (ap (λ b. cond b true (in_register regs u)) (eq-eqb u u refl))) (holds_well n regs (λ v e. h v (behind v (u == v) e)))
    where
      behind : (v : ℕ) (b : Bool) → in_register regs v ≡ true → cond b true (in_register regs v) ≡ true
      behind v true e = refl
      behind v false e = e

  start_passes : (n : ℕ) (start : Places) → IsRow room.regs start → IsRising start.homed → IsStart code n start → starts_well room live (block_at code n) n start ≡ true
  start_passes n start row rises s =
      let bl = block_at code n in
      and_from _ (list_all (λ v. not (is_wanted live bl v) || placed start v) bl.params)
      (and_from _ (list_all (placed start) (live_values room.values live n))
      (and_from _ (list_all (may_name live bl n) start.homed)
      (and_from _ (list_all (may_hold live bl n) start.regs)
      (and_from _ (is_rising start.homed)
      (and_from (length start.regs == room.regs) (is_single start.regs) (eq-eqb _ _ row.registers) (single start.regs row.single))
      (rising start.homed rises))
      (holds_well n start.regs (λ v e. names_well n start s v (or_left (in_register start.regs v) (has start.homed v) e))))
      (all_from (may_name live bl n) start.homed (λ v e. names_well n start s v (or_right (in_register start.regs v) (has start.homed v) e))))
      (all_from (placed start) (live_values room.values live n) (λ v h. s.live v (was_live n v h))))
      (all_from (λ v. not (is_wanted live bl v) || placed start v) bl.params (λ v h. wants v h (is_wanted live bl v) refl))
    where
      wants : (v : ℕ) → has (block_at code n).params v ≡ true → (b : Bool) → is_wanted live (block_at code n) v ≡ b → (not b || placed start v) ≡ true
      wants v h false q = refl
      wants v h true q = s.wanted v h (wanted_is n v h q)

  ends_kept : (n : ℕ) (end : Places) → IsEnd code n end → keeps_all room live (block_at code n) end ≡ true
  ends_kept n end e =
      let bl = block_at code n in
      and_from (list_all (placed end) (end_uses bl.end)) _
      (all_from (placed end) (end_uses bl.end) (λ v h. e.read v h))
      (all_from (λ to. list_all (placed end) (live_values room.values live to)) (successors bl.end) (λ to edge. all_from (placed end) (live_values room.values live to) (λ v h. e.live v (to, edge, was_live to v h))))

  end_passes : (n : ℕ) (end : Places) (w : Walker) → IsSingle end.regs → IsEnd code n end → Finishes room.regs (block_at code n).ops (end_reads (block_at code n).end) end w → ends_well room live (block_at code n) end w ≡ true
  end_passes n end w row e f =
      let bl = block_at code n in
      and_from _ (keeps_all room live bl end)
      (and_from _ (is_single end.regs)
      (and_from _ (list_all (λ v. is_value (w.view (home v)) v) end.homed)
      (and_from _ (are_true w.view 0 end.regs)
      (and_from _ (stand (λ r. w.view (reg r)) w.named (end_reads bl.end))
      (and_from (w.next == length bl.ops) (are_below room.regs w.named) (eq-eqb _ _ f.done) (all_below room.regs w.named f.in_range))
      (stand_is (λ r. w.view (reg r)) w.named (end_reads bl.end) f.uses))
      (registers_true end w.view f.places))
      (homes_true end w.view f.places))
      (single end.regs row))
      (ends_kept n end e)

  node_has_none : (n : ℕ) (start : Places) (lines : List Line) (named : List ℕ) (end : Places) → IsWalkedNode room code n start lines named end → node_failure room code live n start lines named end ≡ None
  node_has_none n start lines named end h =
      let bl = block_at code n in
      let w = walk bl.ops lines (begin start named) in
      ap (λ b. cond b (lines_failure room live bl lines end (begin start named)) (Some 0)) (and_from (length end.regs == room.regs) (starts_well room live bl n start) (eq-eqb _ _ h.row.1.registers) (start_passes n start h.row.0 h.rises h.starts))
      ∙ ap (ended (length lines + 1) (ends_well room live bl end w)) (none_unfit room bl.ops 1 lines (begin start named) h.walks.passes)
      ∙ ap (λ b. cond b None (Some (length lines + 1))) (end_passes n end w h.row.1.single h.ends h.walks.finishes)

  ---- A result

  nodes_have_none : (c : Grounds) → c.room ≡ room → c.code ≡ code → c.live ≡ live → (i : ℕ) (ns : List ℕ) (ss : List Places) (ls : List (List Line)) (gs : List (List ℕ)) (es : List Places)
      → length ss ≡ length ns → length es ≡ length ns → length ls ≡ length ns → length gs ≡ length ns
      → ((j : ℕ) → j < length ns → IsWalkedNode room code (get_or ns j 0) (get_or ss j no_places) (get_or ls j []) (get_or gs j []) (get_or es j no_places))
      → nodes_failure c i ns ss ls gs es ≡ None
  nodes_have_none c r d l i [] ss ls gs es p q s t h = refl
  nodes_have_none c r d l i (n ∷ ns) [] ls gs es p q s t h = cc
  nodes_have_none c r d l i (n ∷ ns) (x ∷ ss) [] gs es p q s t h = cc
  nodes_have_none c r d l i (n ∷ ns) (x ∷ ss) (y ∷ ls) [] es p q s t h = cc
  nodes_have_none c r d l i (n ∷ ns) (x ∷ ss) (y ∷ ls) (g ∷ gs) [] p q s t h = cc
  nodes_have_none c r d l i (n ∷ ns) (x ∷ ss) (y ∷ ls) (g ∷ gs) (e ∷ es) p q s t h =
      let rest = nodes_failure c (suc i) ns ss ls gs es in
      ap (λ o. or_behind i o rest)
      (ap (λ z. node_failure z c.code c.live n x y g e) r ∙ ap (λ z. node_failure room z c.live n x y g e) d ∙ ap (λ z. node_failure room code z n x y g e) l ∙ node_has_none n x y g e (h 0 (omega arith)))
      ∙ nodes_have_none c r d l (suc i) ns ss ls gs es (omega (arith, p)) (omega (arith, q)) (omega (arith, s)) (omega (arith, t)) (λ j lt. h (suc j) (omega (arith, lt)))

  result_has_none : (t : Trace) (n : ℕ) (o : TraceOut) → o.trace ≡ n → IsWalked k f t o → result_failure (grounds_of k f live t) n o ≡ None
  result_has_none t n o e h =
      ap (λ b. cond b (nodes_failure (grounds_of k f live t) 0 t.nodes o.starts o.lines o.regs o.ends) (Some (record { node = 0; line = 0 })))
      (and_from (o.trace == n) (is_long (length t.nodes) o) (eq-eqb _ _ e)
      (and_from _ (length o.regs == length t.nodes) (and_from _ (length o.lines == length t.nodes) (and_from (length o.starts == length t.nodes) (length o.ends == length t.nodes) (eq-eqb _ _ h.counts.0) (eq-eqb _ _ h.counts.1)) (eq-eqb _ _ h.counts.2)) (eq-eqb _ _ h.counts.3)))
      ∙ nodes_have_none (grounds_of k f live t) refl refl refl 0 t.nodes o.starts o.lines o.regs o.ends h.counts.0 h.counts.1 h.counts.2 h.counts.3 h.nodes

  -- a flow's results have no failure, and what is left is audited
  flow_passes : (n : ℕ) (ts : List Trace) (more : List Grounds) (own rest : List TraceOut) → OwnWalked k f n ts own → verdict_from n (grounds_of_flow k f live ts ++ more) (own ++ rest) ≡ verdict_from (n + length ts) more rest
  flow_passes n [] more [] rest h = let z : n ≡ n + 0 = omega arith in ap (λ x. verdict_from x more rest) z
  flow_passes n [] more (o ∷ own) rest h = absurd h
  flow_passes n (t ∷ ts) more [] rest h = absurd h
  flow_passes n (t ∷ ts) more (o ∷ own) rest h =
      let z : suc n + length ts ≡ n + suc (length ts) = omega arith in
      ap (λ x. told n x (verdict_from (suc n) (grounds_of_flow k f live ts ++ more) (own ++ rest))) (result_has_none t n o h.0 h.1)
      ∙ flow_passes (suc n) ts more own rest h.2 ∙ ap (λ x. verdict_from x more rest) z

---- All results

pub node_passes : (k : ℕ) (f : Flow) (live : ℕ → ℕ → Bool) (n : ℕ) (start : Places) (lines : List Line) (named : List ℕ) (end : Places) → IsLive f live → IsWalkedNode (room_of k f) (code_nodes f.nodes) n start lines named end → node_failure (room_of k f) (code_nodes f.nodes) live n start lines named end ≡ None
node_passes k f live n start lines named end given h = node_has_none k f live given n start lines named end h

pub result_passes : (k : ℕ) (f : Flow) (live : ℕ → ℕ → Bool) (t : Trace) (o : TraceOut) → IsLive f live → IsWalked k f t o → result_failure (grounds_of k f live t) o.trace o ≡ None
result_passes k f live t o given h = result_has_none k f live given t o.trace o refl h

pub all_pass : (k n : ℕ) (fs : List Flow) (lives : List (ℕ → ℕ → Bool)) (cuts : List (List Trace)) (outs : List TraceOut) → AreLive fs lives → AreWalked k n fs cuts outs → verdict_from n (grounds_of_flows k fs lives cuts) outs ≡ Sound
all_pass k n [] lives cuts outs given h = ap (verdict_from n []) h
all_pass k n (f ∷ fs) [] cuts outs given h = absurd given
all_pass k n (f ∷ fs) (l ∷ lives) [] outs given h = ap (verdict_from n []) h
all_pass k n (f ∷ fs) (l ∷ lives) (ts ∷ cuts) outs given h =
    ap (verdict_from n (grounds_of_flow k f l ts ++ grounds_of_flows k fs lives cuts)) h.2
    ∙ flow_passes k f l given.0 n ts (grounds_of_flows k fs lives cuts) h.0 h.1 h.3
    ∙ all_pass k (n + length ts) fs lives cuts h.1 given.1 h.4
