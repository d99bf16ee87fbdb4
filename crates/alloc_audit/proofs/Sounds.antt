-- The verdict `Sound` and what it implies.
use Rattle.std.proofs.Common.{◌≡◌, ℕ, zero, suc, ◌+◌, ◌<◌, Bool, true, false, ◌&&◌, ◌||◌, not, cond, List, [], ◌∷◌, ◌++◌, length, get_or, Option, Some, None, refl, sym, ap, ◌∙◌, append_assoc, arith, inl, inr, ◌⊎◌, ⊎_elim}
use Rattle.std.specs.Prelude.{slice_get, ◌==◌, nat_lt, filter, option_to_list}
use Rattle.std.specs.List.{list_all, list_any}
use Rattle.std.proofs.lemmas.Bool.{and_parts, and_from, eqb-true, or_cases, or_left, or_right}
use Rattle.run_laws.specs.Layers.{places_from}
use Rattle.block_runs.specs.Blocks.{Operation, CodeBlock, block_at, end_uses, successors}
use Rattle.block_runs.specs.Live.{has, reads, Live, Here, Later, IsWanted}
use Rattle.block_runs.specs.Valid.{block_reads, uses_of}
use Rattle.lir_core.specs.declared.flow.Flow.{Flow}
use Rattle.lir_core.specs.declared.flow.Trace.{Trace}
use Rattle.lir_core.specs.declared.places.Places.{Places}
use Rattle.lir_core.specs.declared.places.Line.{Line}
use Rattle.lir_core.specs.declared.places.TraceOut.{TraceOut}
use Rattle.lir_core.specs.Flows.{code_nodes}
use Rattle.lir_core.specs.Spots.{reg, home, in_register, placed, IsSingle, IsRising, IsRow}
use Rattle.lir_core.specs.Lines.{end_reads, Room}
use Rattle.lir_core.specs.Walks.{Walker, begin, walk, Finishes}
use Rattle.lir_core.specs.Sound.{IsStart, IsEnd, no_places, room_of}
use Rattle.global_live.proofs.Lists.{has_front, has_back, all_below_in}
use Rattle.global_live.proofs.Tables.{has_places}
use Rattle.alloc_audit.specs.declared.verdict.Verdict.{Verdict}
use Rattle.alloc_audit.specs.declared.verdict.Verdict.TheVariants.{Sound}
use Rattle.alloc_audit.specs.Tests.{is_value, stand, are_below, first_unfit}
use Rattle.alloc_audit.specs.Nodes.{Grounds, is_single, is_rising, live_values, is_wanted, may_name, may_hold, starts_well, are_true, keeps_all, ends_well, ended, lines_failure, node_failure}
use Rattle.alloc_audit.specs.declared.verdict.Failure.{Failure}
use Rattle.alloc_audit.specs.Verdicts.{or_behind, nodes_failure, is_long, result_failure, told, verdict_from, grounds_of, grounds_of_flow, grounds_of_flows, verdict_of}
use Rattle.walked_results.specs.Walked.{IsWalkedNode, IsWalked}
use Rattle.alloc_audit.specs.Results.{OwnWalked, AreWalked, IsLive, AreLive}
use Rattle.alloc_audit.proofs.Accepts.{stand_is, all_below, passes, below, single, rising}

---- Lists

-- what all of a list have, each has
pub all_at : (p : ℕ → Bool) (xs : List ℕ) (v : ℕ) → list_all p xs ≡ true → has xs v ≡ true → p v ≡ true
all_at p [] v e h = cc
all_at p (x ∷ xs) v e h = by (λ e h. all_at p xs v e h) (x == v) refl h
  where
    a : (p x ≡ true) × (list_all p xs ≡ true)
    a = and_parts (p x) (list_all p xs) e

    by : (list_all p xs ≡ true → has xs v ≡ true → p v ≡ true) → (b : Bool) → (x == v) ≡ b → cond b true (has xs v) ≡ true → p v ≡ true
    by on true q h = ap p (sym (eqb-true x v q)) ∙ a.0
    by on false q h = on a.1 h

any_at : (p : ℕ → Bool) (xs : List ℕ) (v : ℕ) → has xs v ≡ true → p v ≡ true → list_any p xs ≡ true
any_at p [] v h e = cc
any_at p (x ∷ xs) v h e = by (λ h. any_at p xs v h e) (x == v) refl h
  where
    by : (has xs v ≡ true → list_any p xs ≡ true) → (b : Bool) → (x == v) ≡ b → cond b true (has xs v) ≡ true → (p x || list_any p xs) ≡ true
    by on true q h = or_left (p x) (list_any p xs) (ap p (eqb-true x v q) ∙ e)
    by on false q h = or_right (p x) (list_any p xs) (on h)

has_filtered : (p : ℕ → Bool) (xs : List ℕ) (v : ℕ) → has xs v ≡ true → p v ≡ true → has (filter p xs) v ≡ true
has_filtered p xs v h e = Rattle.global_live.proofs.Lists.has-filter p xs v ∙ and_from (has xs v) (p v) h e

---- Live values

reads_in : (ops : List Operation) (bl : CodeBlock) (v : ℕ) → reads ops bl.end v ≡ true → has (uses_of ops ++ end_uses bl.end) v ≡ true
reads_in [] bl v e = e
reads_in (op ∷ ops) bl v e = by (λ e. reads_in ops bl v e) (has op.uses v) (has (option_to_list op.def) v) refl e
  where
    by : (reads ops bl.end v ≡ true → has (uses_of ops ++ end_uses bl.end) v ≡ true) → (b c : Bool) → has op.uses v ≡ b → cond b true (cond c false (reads ops bl.end v)) ≡ true → has ((op.uses ++ uses_of ops) ++ end_uses bl.end) v ≡ true
    by on true c q e = has_front (op.uses ++ uses_of ops) (end_uses bl.end) v (has_front op.uses (uses_of ops) v q)
    by on false true q e = cc
    by on false false q e = ap (λ xs. has xs v) (append_assoc op.uses (uses_of ops) (end_uses bl.end)) ∙ has_back op.uses (uses_of ops ++ end_uses bl.end) v (on e)

list_at : (values : ℕ) (xs : List CodeBlock) (i : ℕ) (x : CodeBlock) → list_all (λ bl. list_all (λ x. nat_lt x values) (block_reads bl)) xs ≡ true → slice_get xs i ≡ Some x → list_all (λ x. nat_lt x values) (block_reads x) ≡ true
list_at values [] i x e h = cc
list_at values (y ∷ xs) zero x e h =
    let a = and_parts (list_all (λ x. nat_lt x values) (block_reads y)) (list_all (λ bl. list_all (λ x. nat_lt x values) (block_reads bl)) xs) e in
    let q : y ≡ x = cc in
    ap (λ z. list_all (λ x. nat_lt x values) (block_reads z)) (sym q) ∙ a.0
list_at values (y ∷ xs) (suc i) x e h = list_at values xs i x (and_parts (list_all (λ x. nat_lt x values) (block_reads y)) (list_all (λ bl. list_all (λ x. nat_lt x values) (block_reads bl)) xs) e).1 h

-- a live value is read somewhere, so it is one of the flow's
pub live_below : (values : ℕ) (bls : List CodeBlock) → list_all (λ bl. list_all (λ x. nat_lt x values) (block_reads bl)) bls ≡ true → (v n : ℕ) → Live bls v n → v < values
live_below values bls all v n (Here b bl there p r) = all_below_in values (block_reads bl) v (list_at values bls b bl all there) (reads_in bl.ops bl v r)
live_below values bls all v n (Later b to bl there u s l) = live_below values bls all v to l

---- A node

module _ (room : Room) (code : List CodeBlock) (live : ℕ → ℕ → Bool) (exact : (n v : ℕ) → live n v ≡ true → Live code v n) (whole : (n v : ℕ) → Live code v n → live n v ≡ true) (small : (v n : ℕ) → Live code v n → v < room.values) where
  in_live : (n v : ℕ) → Live code v n → has (live_values room.values live n) v ≡ true
  in_live n v l = let z = small v n l in has_filtered (live n) (places_from 0 room.values) v (has_places 0 room.values v (omega arith) (omega arith)) (whole n v l)

  wanted_is : (bl : CodeBlock) (v : ℕ) → IsWanted code bl bl.ops v → is_wanted live bl v ≡ true
  wanted_is bl v (inl r) = or_left (has (block_reads bl) v) _ (reads_in bl.ops bl v r)
  wanted_is bl v (inr d) = or_right (has (block_reads bl) v) _ (any_at (λ to. live to v) (successors bl.end) d.1.0 d.1.1 (whole d.1.0 v d.1.2))

  held : (bl : CodeBlock) (n : ℕ) (regs : List (Option ℕ)) (v : ℕ) → list_all (may_hold live bl n) regs ≡ true → in_register regs v ≡ true → may_name live bl n v ≡ true
  held bl n [] v e h = cc
  held bl n (None ∷ regs) v e h = held bl n regs v e h
  held bl n (Some u ∷ regs) v e h = by (λ e h. held bl n regs v e h) (u == v) refl h
    where
      a : (may_name live bl n u ≡ true) × (list_all (may_hold live bl n) regs ≡ true)
      a = and_parts (may_name live bl n u) (list_all (may_hold live bl n) regs) e

      by : (list_all (may_hold live bl n) regs ≡ true → in_register regs v ≡ true → may_name live bl n v ≡ true) → (b : Bool) → (u == v) ≡ b → cond b true (in_register regs v) ≡ true → may_name live bl n v ≡ true
      by on true q h = ap (may_name live bl n) (sym (eqb-true u v q)) ∙ a.0
      by on false q h = on a.1 h

  start_is : (n : ℕ) (start : Places) → starts_well room live (block_at code n) n start ≡ true → (IsRow room.regs start × IsRising start.homed) × IsStart code n start
  start_is n start e =
      let bl = block_at code n in
      let a = and_parts _ (list_all (λ v. not (is_wanted live bl v) || placed start v) bl.params) e in
      let b = and_parts _ (list_all (placed start) (live_values room.values live n)) a.0 in
      let c = and_parts _ (list_all (may_name live bl n) start.homed) b.0 in
      let d = and_parts _ (list_all (may_hold live bl n) start.regs) c.0 in
      let f = and_parts _ (is_rising start.homed) d.0 in
      let g = and_parts (length start.regs == room.regs) (is_single start.regs) f.0 in (
        (record { registers = eqb-true _ _ g.0; single = single start.regs g.1 }, rising start.homed f.1),
        record {
          live = λ v l. all_at (placed start) (live_values room.values live n) v b.1 (in_live n v l);
          wanted = λ v h w. wants v (is_wanted live bl v) (wanted_is bl v w) (all_at (λ x. not (is_wanted live bl x) || placed start x) bl.params v a.1 h);
          only = λ v h. ⊎_elim (λ l. inl (exact n v l)) inr (or_cases (live n v) (has bl.params v) (names v (or_cases (in_register start.regs v) (has start.homed v) h) d.1 c.1));
        },
      )
    where
      wants : (v : ℕ) (b : Bool) → b ≡ true → (not b || placed start v) ≡ true → placed start v ≡ true
      wants v true q e = e
      wants v false q e = cc

      names : (v : ℕ) → ((in_register start.regs v ≡ true) ⊎ (has start.homed v ≡ true)) → list_all (may_hold live (block_at code n) n) start.regs ≡ true → list_all (may_name live (block_at code n) n) start.homed ≡ true → may_name live (block_at code n) n v ≡ true
      names v (inl r) x y = held (block_at code n) n start.regs v x r
      names v (inr h) x y = all_at (may_name live (block_at code n) n) start.homed v y h

  finish_is : (bl : CodeBlock) (end : Places) (w : Walker) → ends_well room live bl end w ≡ true
      → Finishes room.regs bl.ops (end_reads bl.end) end w × IsSingle end.regs × (keeps_all room live bl end ≡ true)
  finish_is bl end w e =
      let a = and_parts _ (keeps_all room live bl end) e in
      let b = and_parts _ (is_single end.regs) a.0 in
      let c = and_parts _ (list_all (λ v. is_value (w.view (home v)) v) end.homed) b.0 in
      let d = and_parts _ (are_true w.view 0 end.regs) c.0 in
      let f = and_parts _ (stand (λ r. w.view (reg r)) w.named (end_reads bl.end)) d.0 in
      let g = and_parts (w.next == length bl.ops) (are_below room.regs w.named) f.0 in (
        record { done = eqb-true _ _ g.0; in_range = all_below room.regs w.named g.1; uses = stand_is (λ r. w.view (reg r)) w.named (end_reads bl.end) f.1; places = below end w.view d.1 c.1 },
        single end.regs b.1,
        a.1,
      )

  end_is : (n : ℕ) (end : Places) → keeps_all room live (block_at code n) end ≡ true → IsEnd code n end
  end_is n end e =
      let bl = block_at code n in
      let a = and_parts (list_all (placed end) (end_uses bl.end)) _ e in
      record {
        read = λ v h. all_at (placed end) (end_uses bl.end) v a.0 h;
        live = λ v l. all_at (placed end) (live_values room.values live l.0) v (all_at (λ to. list_all (placed end) (live_values room.values live to)) (successors bl.end) l.0 a.1 l.1) (in_live l.0 v l.2);
      }

  ended_is : (line : ℕ) (b : Bool) (o : Option ℕ) → ended line b o ≡ None → (o ≡ None) × (b ≡ true)
  ended_is line true None e = (refl, refl)
  ended_is line false None e = cc
  ended_is line b (Some n) e = cc

  pub node_is : (n : ℕ) (start : Places) (lines : List Line) (named : List ℕ) (end : Places) → node_failure room code live n start lines named end ≡ None → IsWalkedNode room code n start lines named end
  node_is n start lines named end e = by ((length end.regs == room.regs) && starts_well room live (block_at code n) n start) refl e
    where
      by : (b : Bool) → ((length end.regs == room.regs) && starts_well room live (block_at code n) n start) ≡ b → cond b (lines_failure room live (block_at code n) lines end (begin start named)) (Some 0) ≡ None → IsWalkedNode room code n start lines named end
      by false q e = cc
      by true q e =
          let bl = block_at code n in
          let a = and_parts (length end.regs == room.regs) (starts_well room live bl n start) q in
          let s = start_is n start a.1 in
          let b = ended_is (length lines + 1) (ends_well room live bl end (walk bl.ops lines (begin start named))) (first_unfit room bl.ops 1 lines (begin start named)) e in
          let f = finish_is bl end (walk bl.ops lines (begin start named)) b.1 in
          record {
            row = (s.0.0, record { registers = eqb-true _ _ a.0; single = f.1 });
            rises = s.0.1;
            starts = s.1;
            ends = end_is n end f.2;
            walks = record { passes = passes room bl.ops 1 lines (begin start named) b.0; finishes = f.0 };
          }

  or_behind_is : (i : ℕ) (o : Option ℕ) (b : Option Failure) → or_behind i o b ≡ None → (o ≡ None) × (b ≡ None)
  or_behind_is i None b e = (refl, e)
  or_behind_is i (Some line) b e = cc

  pub nodes_are : (i : ℕ) (ns : List ℕ) (ss : List Places) (ls : List (List Line)) (gs : List (List ℕ)) (es : List Places) (c : Grounds) → c.room ≡ room → c.code ≡ code → c.live ≡ live
      → nodes_failure c i ns ss ls gs es ≡ None
      → (j : ℕ) → j < length ns → IsWalkedNode room code (get_or ns j 0) (get_or ss j no_places) (get_or ls j []) (get_or gs j []) (get_or es j no_places)
  nodes_are i [] ss ls gs es c r d l e j lt = absurd (omega arith)
  nodes_are i (n ∷ ns) [] ls gs es c r d l e j lt = cc
  nodes_are i (n ∷ ns) (s ∷ ss) [] gs es c r d l e j lt = cc
  nodes_are i (n ∷ ns) (s ∷ ss) (x ∷ ls) [] es c r d l e j lt = cc
  nodes_are i (n ∷ ns) (s ∷ ss) (x ∷ ls) (g ∷ gs) [] c r d l e j lt = cc
  nodes_are i (n ∷ ns) (s ∷ ss) (x ∷ ls) (g ∷ gs) (q ∷ es) c r d l e zero lt =
      let a = or_behind_is i (node_failure c.room c.code c.live n s x g q) _ e in
      node_is n s x g q (ap (λ y. node_failure y code live n s x g q) (sym r) ∙ ap (λ y. node_failure c.room y live n s x g q) (sym d) ∙ ap (λ y. node_failure c.room c.code y n s x g q) (sym l) ∙ a.0)
  nodes_are i (n ∷ ns) (s ∷ ss) (x ∷ ls) (g ∷ gs) (q ∷ es) c r d l e (suc j) lt =
      let a = or_behind_is i (node_failure c.room c.code c.live n s x g q) _ e in
      nodes_are (suc i) ns ss ls gs es c r d l a.1 j (omega arith)

---- Results

result_is : (k : ℕ) (f : Flow) (live : ℕ → ℕ → Bool) (t : Trace) (n : ℕ) (o : TraceOut) → IsLive f live → result_failure (grounds_of k f live t) n o ≡ None → (o.trace ≡ n) × IsWalked k f t o
result_is k f live t n o h e = by ((o.trace == n) && is_long (length t.nodes) o) refl e
  where
    small : (v m : ℕ) → Live (code_nodes f.nodes) v m → v < f.values
    small v m l = live_below f.values (code_nodes f.nodes) h.valid.code.read_below v m l

    by : (b : Bool) → ((o.trace == n) && is_long (length t.nodes) o) ≡ b → cond b (nodes_failure (grounds_of k f live t) 0 t.nodes o.starts o.lines o.regs o.ends) (Some (record { node = 0; line = 0 })) ≡ None → (o.trace ≡ n) × IsWalked k f t o
    by false q e = cc
    by true q e =
        let a = and_parts (o.trace == n) (is_long (length t.nodes) o) q in
        let b = and_parts _ (length o.regs == length t.nodes) a.1 in
        let c = and_parts _ (length o.lines == length t.nodes) b.0 in
        let d = and_parts (length o.starts == length t.nodes) (length o.ends == length t.nodes) c.0 in (
          eqb-true _ _ a.0,
          record {
            counts = (eqb-true _ _ d.0, eqb-true _ _ d.1, eqb-true _ _ c.1, eqb-true _ _ b.1);
            nodes = nodes_are (room_of k f) (code_nodes f.nodes) live h.exact h.whole small 0 t.nodes o.starts o.lines o.regs o.ends (grounds_of k f live t) refl refl refl e;
          },
        )

told_is : (t : ℕ) (o : Option Failure) (v : Verdict) → told t o v ≡ Sound → (o ≡ None) × (v ≡ Sound)
told_is t None v e = (refl, e)
told_is t (Some f) v e = cc

-- the results of a flow's traces, and what is left
pub record Split (k : ℕ) (f : Flow) (n : ℕ) (ts : List Trace) (more : List Grounds) (outs : List TraceOut) : Type 0 where
  pub own : List TraceOut
  pub rest : List TraceOut
  pub is : outs ≡ own ++ rest
  pub walked : OwnWalked k f n ts own
  pub others : verdict_from (n + length ts) more rest ≡ Sound

flow_is : (k : ℕ) (f : Flow) (live : ℕ → ℕ → Bool) (n : ℕ) (ts : List Trace) (more : List Grounds) (outs : List TraceOut) → IsLive f live → verdict_from n (grounds_of_flow k f live ts ++ more) outs ≡ Sound → Split k f n ts more outs
flow_is k f live n [] more outs h e = let z : n ≡ n + 0 = omega arith in record { own = []; rest = outs; is = refl; walked = tt; others = ap (λ x. verdict_from x more outs) (sym z) ∙ e }
flow_is k f live n (t ∷ ts) more [] h e = cc
flow_is k f live n (t ∷ ts) more (o ∷ outs) h e =
    let a = told_is n (result_failure (grounds_of k f live t) n o) (verdict_from (suc n) (grounds_of_flow k f live ts ++ more) outs) e in
    let b = result_is k f live t n o h a.0 in
    let r = flow_is k f live (suc n) ts more outs h a.1 in
    let z : suc n + length ts ≡ n + suc (length ts) = omega arith in
    record { own = o ∷ r.own; rest = r.rest; is = ap (λ os. o ∷ os) r.is; walked = (b.0, b.1, r.walked); others = ap (λ x. verdict_from x more r.rest) (sym z) ∙ r.others }

none_left : (n : ℕ) (outs : List TraceOut) → verdict_from n [] outs ≡ Sound → outs ≡ []
none_left n [] e = refl
none_left n (o ∷ outs) e = cc

flows_are : (k n : ℕ) (fs : List Flow) (lives : List (ℕ → ℕ → Bool)) (cuts : List (List Trace)) (outs : List TraceOut) → AreLive fs lives → verdict_from n (grounds_of_flows k fs lives cuts) outs ≡ Sound → AreWalked k n fs cuts outs
flows_are k n [] lives cuts outs h e = none_left n outs e
flows_are k n (f ∷ fs) [] cuts outs h e = absurd h
flows_are k n (f ∷ fs) (l ∷ lives) [] outs h e = none_left n outs e
flows_are k n (f ∷ fs) (l ∷ lives) (ts ∷ cuts) outs h e =
    let s = flow_is k f l n ts (grounds_of_flows k fs lives cuts) outs h.0 e in
    (s.own, s.rest, s.is, s.walked, flows_are k (n + length ts) fs lives cuts s.rest h.1 s.others)

pub all_walked : (k : ℕ) (fs : List Flow) (lives : List (ℕ → ℕ → Bool)) (cuts : List (List Trace)) (outs : List TraceOut) → AreLive fs lives → verdict_of k fs lives cuts outs ≡ Sound → AreWalked k 0 fs cuts outs
all_walked k fs lives cuts outs h e = flows_are k 0 fs lives cuts outs h e

pub node_walked : (k : ℕ) (f : Flow) (live : ℕ → ℕ → Bool) (n : ℕ) (start : Places) (lines : List Line) (named : List ℕ) (end : Places) → IsLive f live → node_failure (room_of k f) (code_nodes f.nodes) live n start lines named end ≡ None → IsWalkedNode (room_of k f) (code_nodes f.nodes) n start lines named end
node_walked k f live n start lines named end h e = node_is (room_of k f) (code_nodes f.nodes) live h.exact h.whole (λ v m l. live_below f.values (code_nodes f.nodes) h.valid.code.read_below v m l) n start lines named end e
