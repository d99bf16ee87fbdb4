-- Lines that the walk by names accepts are sound.
use Rattle.std.proofs.Common.{◌≡◌, ℕ, zero, suc, Bool, true, false, cond, List, [], ◌∷◌, take, drop, Option, Some, None}
use Rattle.std.specs.Prelude.{slice_get}
use Rattle.block_runs.specs.Blocks.{Operation}
use Rattle.block_runs.specs.Valid.{is_call}
use Rattle.lir_core.specs.declared.places.Move.{Move}
use Rattle.lir_core.specs.declared.places.Places.{Places}
use Rattle.lir_core.specs.declared.places.Line.{Line}
use Rattle.lir_core.specs.declared.places.Line.TheVariants.{Store, Load, Moves, Result, Target}
use Rattle.lir_core.specs.declared.places.Line.TheVariants.{Lir as Does}
use Rattle.lir_core.specs.Spots.{Spot, reg, home, out, target, saved, same, spot, Holds}
use Rattle.lir_core.specs.Lines.{names, def_spot, line_source, Room, InRange, AllBelow, MovesInRange, LinesInRange}
use Rattle.lir_core.specs.Walks.{Walker, left, perform, after, walk, Can, Taken, AllTaken, Passes, begin, Finishes, Walks}
use Rattle.lir_core.specs.Sound.{Running, Performs, Simulates, Ends, AreSoundLines}
use Rattle.lir_core.proofs.Views.{reads, left_holds, defined_holds}

abbrev running : Walker → (ℕ → ℕ) → (Spot → ℕ) → Running
running w V c = record { next = w.next; named = w.named; values = V; content = c }

performs : (k : ℕ) (o : Option Operation) (i : ℕ) (w : Walker) (V : ℕ → ℕ) (c : Spot → ℕ) (goes : Running → Type 0) → Can k o i w → Holds V w.view c → ((V' : ℕ → ℕ) (c' : Spot → ℕ) → Holds V' (perform o w).view c' → goes (running (perform o w) V' c')) → Performs o i (running w V c) goes
performs k None i w V c goes can h on = can
performs k (Some op) i w V c goes can h on = (
  can.0,
  can.1,
  reads (λ p. p) V w.view c h _ _ can.3,
  λ x c' keeps. on _ _ (defined_holds op.def (def_spot op w.named) x V (left (is_call op.code) w.view) c' (left_holds (is_call op.code) V w.view c c' keeps h)),
)

-- X0 has nothing once its result was taken
taken : (V : ℕ → ℕ) (w : Spot → Option ℕ) (c : Spot → ℕ) (b : Bool) (q : Spot) → Holds V w c → (v : ℕ) → cond b None (w q) ≡ Some v → c q ≡ V v
taken V w c true q h v e = cc
taken V w c false q h v e = h q v e

-- the destination of a move that can be made is in range
to_in_range : (room : Room) (to : Spot) (o : Option ℕ) → Taken room to o → InRange room to
to_in_range room (reg r) None t = absurd t
to_in_range room (home v) None t = absurd t
to_in_range room (out s) None t = absurd t
to_in_range room target None t = absurd t
to_in_range room saved None t = absurd t
to_in_range room (reg r) (Some v) t = t
to_in_range room (home u) (Some v) t = t.1
to_in_range room (out s) (Some v) t = t
to_in_range room target (Some v) t = t
to_in_range room saved (Some v) t = t

moves_in_range : (room : Room) (w : Spot → Option ℕ) (ms : List Move) → AllTaken room w ms → MovesInRange room ms
moves_in_range room w [] t = tt
moves_in_range room w (m ∷ ms) t = (to_in_range room (spot m.to) (w (spot m.from)) t.1, t.0, moves_in_range room w ms t.2)

all_below : (k n : ℕ) (xs : List ℕ) → AllBelow k (take n xs) → AllBelow k (drop n xs) → AllBelow k xs
all_below k zero xs a b = b
all_below k (suc n) [] a b = b
all_below k (suc n) (x ∷ xs) a b = (a.0, all_below k n xs a.1 b)

module _ (room : Room) (ops : List Operation) where
  pub lines_in_range : (lines : List Line) (w : Walker) → Passes room ops lines w → LinesInRange room lines
  lines_in_range [] w p = tt
  lines_in_range (Does i ∷ ls) w p = (tt, lines_in_range ls (after ops (Does i) w) p.1)
  lines_in_range (Store r v ∷ ls) w p = ((p.0.0, p.0.1), lines_in_range ls (after ops (Store r v) w) p.1)
  lines_in_range (Load r v ∷ ls) w p = ((p.0.0, p.0.1), lines_in_range ls (after ops (Load r v) w) p.1)
  lines_in_range (Moves ms ∷ ls) w p = ((p.0.0, moves_in_range room w.view ms p.0.1), lines_in_range ls (after ops (Moves ms) w) p.1)
  lines_in_range (Result r ∷ ls) w p = (p.0, lines_in_range ls (after ops (Result r) w) p.1)
  lines_in_range (Target from ∷ ls) w p = (p.0.0, lines_in_range ls (after ops (Target from) w) p.1)

  performed_below : (o : Option Operation) (i : ℕ) (w : Walker) → Can room.regs o i w → AllBelow room.regs (perform o w).named → AllBelow room.regs w.named
  performed_below None i w can b = absurd can
  performed_below (Some op) i w can b = all_below room.regs (names op) w.named can.2 b

  pub named_below : (lines : List Line) (w : Walker) → Passes room ops lines w → AllBelow room.regs (walk ops lines w).named → AllBelow room.regs w.named
  named_below [] w p b = b
  named_below (Does i ∷ ls) w p b = performed_below (slice_get ops i) i w p.0 (named_below ls (after ops (Does i) w) p.1 b)
  named_below (Store r v ∷ ls) w p b = named_below ls (after ops (Store r v) w) p.1 b
  named_below (Load r v ∷ ls) w p b = named_below ls (after ops (Load r v) w) p.1 b
  named_below (Moves ms ∷ ls) w p b = named_below ls (after ops (Moves ms) w) p.1 b
  named_below (Result r ∷ ls) w p b = named_below ls (after ops (Result r) w) p.1 b
  named_below (Target from ∷ ls) w p b = named_below ls (after ops (Target from) w) p.1 b

  module _ (last : List ℕ) (end : Places) where
    pub simulates : (lines : List Line) (w : Walker) (V : ℕ → ℕ) (c : Spot → ℕ) → Holds V w.view c → Passes room ops lines w → Finishes room.regs ops last end (walk ops lines w) → Simulates ops lines (Ends ops last end) (running w V c)
    simulates [] w V c h p f = record { done = f.done; uses = reads reg V w.view c h _ _ f.uses; places = λ q v e. h q v (f.places q v e) }
    simulates (Does i ∷ ls) w V c h p f = performs room.regs (slice_get ops i) i w V c (Simulates ops ls (Ends ops last end)) p.0 h (λ V' c' h'. simulates ls (after ops (Does i) w) V' c' h' p.1 f)
    simulates (Store r v ∷ ls) w V c h p f = simulates ls (after ops (Store r v) w) V _ (λ q u e. h (line_source (Store r v) q) u e) p.1 f
    simulates (Load r v ∷ ls) w V c h p f = simulates ls (after ops (Load r v) w) V _ (λ q u e. h (line_source (Load r v) q) u e) p.1 f
    simulates (Moves ms ∷ ls) w V c h p f = simulates ls (after ops (Moves ms) w) V _ (λ q u e. h (line_source (Moves ms) q) u e) p.1 f
    simulates (Result r ∷ ls) w V c h p f = simulates ls (after ops (Result r) w) V _ (λ q u e. taken V w.view c (same q (reg 0)) (line_source (Result r) q) h u e) p.1 f
    simulates (Target from ∷ ls) w V c h p f = simulates ls (after ops (Target from) w) V _ (λ q u e. h (line_source (Target from) q) u e) p.1 f

pub walked : (room : Room) (ops : List Operation) (last : List ℕ) (start : Places) (lines : List Line) (named : List ℕ) (end : Places) → Walks room ops last start lines named end → AreSoundLines room ops last start lines named end
walked room ops last start lines named end h = record {
  in_range = lines_in_range room ops lines (begin start named) h.passes;
  named_below = named_below room ops lines (begin start named) h.passes h.finishes.in_range;
  simulates = λ V c holds. simulates room ops last end lines (begin start named) V c holds h.passes h.finishes;
}
