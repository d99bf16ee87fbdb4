-- Results that the walk accepts have notes: registers are few, and values in rows of registers are the flow's.
use Rattle.std.proofs.Common.{◌≡◌, ℕ, zero, suc, ◌+◌, ◌^◌, ◌<◌, ◌≤◌, Bool, true, false, cond, List, [], ◌∷◌, ◌++◌, length, get_or, Option, Some, None, All, refl, sym, ap, subst, ◌∙◌, arith, ◌⊎◌, inl, inr, ⊎_elim}
use Rattle.std.specs.Prelude.{slice_get, ◌==◌, option_to_list}
use Rattle.std.specs.List.{AllByRecursion}
use Rattle.std.proofs.lemmas.Bool.Decides.{nat_tests}
use Rattle.std.proofs.lemmas.List.Elements.{All-from_recursion, All-from_get_or}
use Rattle.block_runs.specs.Blocks.{Operation, CodeBlock, block_at}
use Rattle.block_runs.specs.Live.{has, defs_of, Live}
use Rattle.block_runs.specs.Valid.{is_call}
use Rattle.lir_core.specs.declared.flow.Flow.{Flow}
use Rattle.lir_core.specs.declared.flow.Trace.{Trace}
use Rattle.lir_core.specs.declared.places.Place.{Place}
use Rattle.lir_core.specs.declared.places.Place.TheVariants.{Reg, Home, Out}
use Rattle.lir_core.specs.declared.places.Move.{Move}
use Rattle.lir_core.specs.declared.places.Places.{Places}
use Rattle.lir_core.specs.declared.places.Line.{Line}
use Rattle.lir_core.specs.declared.places.Line.TheVariants.{Store, Load, Moves, Result, Target}
use Rattle.lir_core.specs.declared.places.Line.TheVariants.{Lir as Does}
use Rattle.lir_core.specs.declared.places.TraceOut.{TraceOut}
use Rattle.lir_core.specs.Flows.{code_nodes, IsValidFlow}
use Rattle.lir_core.specs.Spots.{Spot, reg, home, out, target, saved, same, spot, put, get, view_of}
use Rattle.lir_core.specs.Lines.{def_spot, end_reads, line_source, Room, InRange, AllBelow, MovesInRange, LineInRange, LinesInRange}
use Rattle.lir_core.specs.Walks.{Walker, kept, left, without, defined, perform, after, walk, begin}
use Rattle.lir_core.specs.Sound.{IsStart, no_places, room_of}
use Rattle.lir_core.proofs.Views.{is_without}
use Rattle.lir_core.proofs.Walking.{lines_in_range, named_below}
use Rattle.global_live.proofs.Lists.{has_front, has_back, has_head, all_below_in}
use Rattle.loc_state.proofs.Numbers.{in_register_at, in_reg, in_home}
use Rattle.walked_results.specs.Walked.{IsWalkedNode, IsWalked}
use Rattle.alloc_audit.proofs.Sounds.{live_below}
use Rattle.alloc_audit.proofs.Passes.{times_in}
use Rattle.plain_form.specs.Spelling.{IsRegister, Any, KeepsList}
use Rattle.plain_form.specs.results.Bounds.{KeepsHeld, KeepsPlaces, KeepsPlace, KeepsMove, KeepsLine, KeepsResult, IsHeld, IsNotable}

any_list : (xs : List ℕ) → KeepsList Any Any xs
any_list xs = (tt, All-from_recursion Any xs (all xs))
  where
    all : (xs : List ℕ) → AllByRecursion Any xs
    all [] = tt
    all (x ∷ xs) = (tt, all xs)

---- Registers

module _ (room : Room) (few : room.regs ≤ 16) where
  abbrev NotableLine : Line → Type 0
  NotableLine = KeepsLine Any Any IsRegister IsHeld

  place_notable : (p : Place) → InRange room (spot p) → KeepsPlace Any Any IsRegister IsHeld p
  place_notable (Reg r) h = omega (arith, h, few)
  place_notable (Home v) h = tt
  place_notable (Out s) h = tt

  moves_notable : (ms : List Move) → MovesInRange room ms → AllByRecursion (KeepsMove Any Any IsRegister IsHeld) ms
  moves_notable [] h = tt
  moves_notable (m ∷ ms) h = ((place_notable m.to h.0, place_notable m.from h.1), moves_notable ms h.2)

  line_notable : (l : Line) → LineInRange room l → NotableLine l
  line_notable (Does i) h = tt
  line_notable (Store r v) h = (let lt = h.0 in omega (arith, lt, few), tt)
  line_notable (Load r v) h = (let lt = h.0 in omega (arith, lt, few), tt)
  line_notable (Moves ms) h = (tt, All-from_recursion (KeepsMove Any Any IsRegister IsHeld) ms (moves_notable ms h.1))
  line_notable (Result r) h = omega (arith, h, few)
  line_notable (Target p) h = place_notable p h

  lines_notable : (ls : List Line) → LinesInRange room ls → AllByRecursion NotableLine ls
  lines_notable [] h = tt
  lines_notable (l ∷ ls) h = (line_notable l h.0, lines_notable ls h.1)

  named_notable : (rs : List ℕ) → AllBelow room.regs rs → AllByRecursion IsRegister rs
  named_notable [] h = tt
  named_notable (r ∷ rs) h = (let lt = h.0 in omega (arith, lt, few), named_notable rs h.1)

---- Values

row_notable : (n : ℕ) → n < 2 ^ 32 → (regs : List (Option ℕ)) → ((r v : ℕ) → get regs r ≡ Some v → v < n) → AllByRecursion (KeepsHeld Any Any IsRegister IsHeld) regs
row_notable n lt [] h = tt
row_notable n lt (None ∷ regs) h = (tt, row_notable n lt regs (λ r v e. h (suc r) v e))
row_notable n lt (Some v ∷ regs) h = (let l = h 0 v refl in omega (arith, l, lt), row_notable n lt regs (λ r v e. h (suc r) v e))

places_notable : (n : ℕ) → n < 2 ^ 32 → (q : Places) → ((r v : ℕ) → get q.regs r ≡ Some v → v < n) → KeepsPlaces Any Any IsRegister IsHeld q
places_notable n lt q h = ((tt, All-from_recursion (KeepsHeld Any Any IsRegister IsHeld) q.regs (row_notable n lt q.regs h)), any_list q.homed)

-- a view has values below a number alone
abbrev ViewBelow : ℕ → (Spot → Option ℕ) → Type 0
ViewBelow n view = (p : Spot) (v : ℕ) → view p ≡ Some v → v < n

in_defs : (ops : List Operation) (i : ℕ) (op : Operation) (v : ℕ) → slice_get ops i ≡ Some op → op.def ≡ Some v → has (defs_of ops) v ≡ true
in_defs [] i op v e d = cc
in_defs (x ∷ ops) zero op v e d =
    let q : x ≡ op = cc in
    has_front (option_to_list x.def) (defs_of ops) v (ap (λ (y : Operation). has (option_to_list y.def) v) q ∙ ap (λ o. has (option_to_list o) v) d ∙ has_head v [])
in_defs (x ∷ ops) (suc i) op v e d = has_back (option_to_list x.def) (defs_of ops) v (in_defs ops i op v e d)

left_below : (n : ℕ) (call : Bool) (view : Spot → Option ℕ) → ViewBelow n view → ViewBelow n (left call view)
left_below n call view h p v e = by (kept call p) e
  where
    by : (b : Bool) → cond b (view p) None ≡ Some v → v < n
    by true e = h p v e
    by false e = cc

defined_below : (n : ℕ) (o : Option ℕ) (d : Spot) (view : Spot → Option ℕ) → ((u : ℕ) → o ≡ Some u → u < n) → ViewBelow n view → ViewBelow n (defined o d view)
defined_below n None d view made h p v e = h p v e
defined_below n (Some u) d view made h p v e = by (same p d) e
  where
    by : (b : Bool) → cond b (Some u) (without u (view p)) ≡ Some v → v < n
    by true e = made v e
    by false e = h p v (is_without u v (view p) e).0

module _ (n : ℕ) (ops : List Operation) (made : (v : ℕ) → has (defs_of ops) v ≡ true → v < n) where
  performed_below : (i : ℕ) (o : Option Operation) → slice_get ops i ≡ o → (w : Walker) → ViewBelow n w.view → ViewBelow n (perform o w).view
  performed_below i None e w h = h
  performed_below i (Some op) e w h = defined_below n op.def (def_spot op w.named) (left (is_call op.code) w.view) (λ u d. made u (in_defs ops i op u e d)) (left_below n (is_call op.code) w.view h)

  emptied_below : (b : Bool) (o : Option ℕ) (v : ℕ) → (o ≡ Some v → v < n) → cond b None o ≡ Some v → v < n
  emptied_below true o v h e = cc
  emptied_below false o v h e = h e

  after_below : (l : Line) (w : Walker) → ViewBelow n w.view → ViewBelow n (after ops l w).view
  after_below (Does i) w h p v e = performed_below i (slice_get ops i) refl w h p v e
  after_below (Store r u) w h p v e = h (line_source (Store r u) p) v e
  after_below (Load r u) w h p v e = h (line_source (Load r u) p) v e
  after_below (Moves ms) w h p v e = h (line_source (Moves ms) p) v e
  after_below (Result r) w h p v e = emptied_below (same p (reg 0)) (w.view (line_source (Result r) p)) v (λ q. h (line_source (Result r) p) v q) e
  after_below (Target from) w h p v e = h (line_source (Target from) p) v e

  walk_below : (ls : List Line) (w : Walker) → ViewBelow n w.view → ViewBelow n (walk ops ls w).view
  walk_below [] w h = h
  walk_below (l ∷ ls) w h = walk_below ls (after ops l w) (after_below l w h)

---- A result

module _ (k : ℕ) (f : Flow) (valid : IsValidFlow f) (few : k ≤ 16) (small : f.values < 2 ^ 32) where
  abbrev bls : List CodeBlock
  bls = code_nodes f.nodes

  block_made : (n v : ℕ) → has (Rattle.block_runs.specs.Live.block_makes (block_at bls n)) v ≡ true → v < f.values
  block_made n v h = all_below_in f.values (Rattle.block_runs.specs.Valid.made bls) v valid.code.made_below (times_in bls n v h)

  start_below : (n : ℕ) (start : Places) → IsStart bls n start → ViewBelow f.values (view_of start)
  start_below n start s p v e = by p e
    where
      known : Rattle.lir_core.specs.Spots.placed start v ≡ true → v < f.values
      known h = ⊎_elim (λ l. live_below f.values bls valid.code.read_below v n l) (λ q. block_made n v (has_front (block_at bls n).params (defs_of (block_at bls n).ops) v q)) (s.only v h)

      homed : (u : ℕ) (b : Bool) → has start.homed u ≡ b → cond b (Some u) None ≡ Some v → v < f.values
      homed u true q e = let z : u ≡ v = cc in known (in_home start v (ap (has start.homed) (sym z) ∙ q))
      homed u false q e = cc

      by : (p : Spot) → view_of start p ≡ Some v → v < f.values
      by (reg r) e = known (in_reg start v (in_register_at start.regs r v e))
      by (home u) e = homed u (has start.homed u) refl e
      by (out s) e = cc
      by target e = cc
      by saved e = cc

  module _ (t : Trace) (o : TraceOut) (w : IsWalked k f t o) (i : ℕ) (lt : i < length t.nodes) where
    abbrev bl : CodeBlock
    bl = block_at bls (get_or t.nodes i 0)

    abbrev w0 : Walker
    w0 = begin (get_or o.starts i no_places) (get_or o.regs i [])

    begun : ViewBelow f.values w0.view
    begun = start_below (get_or t.nodes i 0) (get_or o.starts i no_places) (w.nodes i lt).starts

    start : KeepsPlaces Any Any IsRegister IsHeld (get_or o.starts i no_places)
    start = places_notable f.values small (get_or o.starts i no_places) (λ r v e. begun (reg r) v e)

    end : KeepsPlaces Any Any IsRegister IsHeld (get_or o.ends i no_places)
    end = places_notable f.values small (get_or o.ends i no_places) (λ r v e.
        walk_below f.values bl.ops (λ u d. block_made (get_or t.nodes i 0) u (has_back bl.params (defs_of bl.ops) u d)) (get_or o.lines i []) w0 begun (reg r) v
        ((w.nodes i lt).walks.finishes.places (reg r) v e))

    lines : KeepsList Any (KeepsLine Any Any IsRegister IsHeld) (get_or o.lines i [])
    lines = (tt, All-from_recursion (KeepsLine Any Any IsRegister IsHeld) (get_or o.lines i []) (lines_notable (room_of k f) few (get_or o.lines i []) (lines_in_range (room_of k f) bl.ops (get_or o.lines i []) w0 (w.nodes i lt).walks.passes)))

    regs : KeepsList Any IsRegister (get_or o.regs i [])
    regs = (tt, All-from_recursion IsRegister (get_or o.regs i []) (named_notable (room_of k f) few (get_or o.regs i []) (named_below (room_of k f) bl.ops (get_or o.lines i []) w0 (w.nodes i lt).walks.passes (w.nodes i lt).walks.finishes.in_range)))

  pub result_notable : (t : Trace) (o : TraceOut) → IsWalked k f t o → IsNotable o
  result_notable t o w = record {
    trace = tt;
    starts = (tt, All-from_get_or (KeepsPlaces Any Any IsRegister IsHeld) o.starts no_places (λ i lt. start t o w i (subst (λ m. i < m) w.counts.0 lt)));
    ends = (tt, All-from_get_or (KeepsPlaces Any Any IsRegister IsHeld) o.ends no_places (λ i lt. end t o w i (subst (λ m. i < m) w.counts.1 lt)));
    lines = (tt, All-from_get_or (KeepsList Any (KeepsLine Any Any IsRegister IsHeld)) o.lines [] (λ i lt. lines t o w i (subst (λ m. i < m) w.counts.2 lt)));
    regs = (tt, All-from_get_or (KeepsList Any IsRegister) o.regs [] (λ i lt. regs t o w i (subst (λ m. i < m) w.counts.3 lt)));
  }
