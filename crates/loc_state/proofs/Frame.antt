-- A walk with more registers named behind, and one more line.
use Rattle.std.proofs.Common.{◌≡◌, ℕ, suc, ◌+◌, ◌≤◌, Bool, true, false, cond, List, [], ◌∷◌, ◌++◌, map, length, take, drop, get_or, Option, Some, None, refl, sym, ap, ap₂, ◌∙◌, subst, arith, length-append}
use Rattle.std.specs.Prelude.{slice_get}
use Rattle.std.proofs.lemmas.List.{take-append-le, drop-append-le, get_or_append_left}
use Rattle.block_runs.specs.Blocks.{Operation}
use Rattle.block_runs.specs.Valid.{is_call}
use Rattle.lir_core.specs.declared.places.Places.{Places}
use Rattle.lir_core.specs.declared.places.Line.{Line}
use Rattle.lir_core.specs.declared.places.Line.TheVariants.{Store, Load, Moves, Result, Target}
use Rattle.lir_core.specs.declared.places.Line.TheVariants.{Lir as Does}
use Rattle.lir_core.specs.Spots.{Spot, reg, target}
use Rattle.lir_core.specs.Lines.{is_aimed, argument_spots, use_spots, one_def, names, Room, AllBelow}
use Rattle.lir_core.specs.Walks.{Walker, left, defined, perform, after, walk, Can, Fits, Passes, begin}
use Rattle.loc_state.specs.Walked.{Reaches}

abbrev pub extra : Walker → List ℕ → Walker
extra w xs = record { next = w.next; named = w.named ++ xs; view = w.view }

-- what names are read for, where it is known whether an operation is a call
abbrev pub names_if : Bool → Operation → ℕ
names_if call op = cond call 0 (length op.uses + one_def op.def)

abbrev pub uses_if : Bool → Operation → List ℕ → List Spot
uses_if call op named = cond call (cond (is_aimed op.code) (target ∷ argument_spots 0 (drop 1 op.uses)) (argument_spots 0 op.uses)) (map reg (take (length op.uses) named))

abbrev pub def_if : Bool → Operation → List ℕ → Spot
def_if call op named = cond call (reg 0) (reg (get_or named (length op.uses) 0))

uses_more : (call : Bool) (op : Operation) (named xs : List ℕ) → names_if call op ≤ length named → uses_if call op (named ++ xs) ≡ uses_if call op named
uses_more true op named xs h = refl
uses_more false op named xs h = ap (map reg) (take-append-le (length op.uses) named xs (omega (arith, h)))

view_more : (o : Option ℕ) (call : Bool) (op : Operation) (named xs : List ℕ) (w : Spot → Option ℕ) → op.def ≡ o → names_if call op ≤ length named → defined o (def_if call op (named ++ xs)) w ≡ defined o (def_if call op named) w
view_more None call op named xs w e h = refl
view_more (Some v) true op named xs w e h = refl
view_more (Some v) false op named xs w e h =
    let n : one_def op.def ≡ 1 = ap one_def e in
    ap (λ r. defined (Some v) (reg r) w) (get_or_append_left named xs 0 (length op.uses) (omega (arith, h, n)))

can_more : (k : ℕ) (o : Option Operation) (i : ℕ) (w : Walker) (xs : List ℕ) → Can k o i w → Can k o i (extra w xs) × (perform o (extra w xs) ≡ extra (perform o w) xs)
can_more k None i w xs can = absurd can
can_more k (Some op) i w xs can =
    let enough = can.1 in
    let below = subst (AllBelow k) (sym (take-append-le (names op) w.named xs enough)) can.2 in
    let spots : use_spots op (w.named ++ xs) ≡ use_spots op w.named = uses_more (is_call op.code) op w.named xs enough in
    let uses = ap (map w.view) spots ∙ can.3 in
    let n = length-append w.named xs in (
      (can.0, omega (arith, enough, n), below, uses),
      ap₂ (λ (a : List ℕ) (b : Spot → Option ℕ). let z : Walker = record { next = suc w.next; named = a; view = b } in z)
          (drop-append-le (names op) w.named xs enough)
          (view_more op.def (is_call op.code) op w.named xs (left (is_call op.code) w.view) refl enough),
    )

pub more : (room : Room) (ops : List Operation) (lines : List Line) (w : Walker) (xs : List ℕ) → Passes room ops lines w → Passes room ops lines (extra w xs) × (walk ops lines (extra w xs) ≡ extra (walk ops lines w) xs)
more room ops [] w xs p = (tt, refl)
more room ops (Does i ∷ ls) w xs p =
    let one = can_more room.regs (slice_get ops i) i w xs p.0 in
    let rest = more room ops ls (after ops (Does i) w) xs p.1 in
    ((one.0, subst (Passes room ops ls) (sym one.1) rest.0), ap (walk ops ls) one.1 ∙ rest.1)
more room ops (Store r v ∷ ls) w xs p = let rest = more room ops ls (after ops (Store r v) w) xs p.1 in ((p.0, rest.0), rest.1)
more room ops (Load r v ∷ ls) w xs p = let rest = more room ops ls (after ops (Load r v) w) xs p.1 in ((p.0, rest.0), rest.1)
more room ops (Moves ms ∷ ls) w xs p = let rest = more room ops ls (after ops (Moves ms) w) xs p.1 in ((p.0, rest.0), rest.1)
more room ops (Result r ∷ ls) w xs p = let rest = more room ops ls (after ops (Result r) w) xs p.1 in ((p.0, rest.0), rest.1)
more room ops (Target f ∷ ls) w xs p = let rest = more room ops ls (after ops (Target f) w) xs p.1 in ((p.0, rest.0), rest.1)

pub reaches_named : (room : Room) (ops : List Operation) (start : Places) (lines : List Line) (named : List ℕ) (z : Walker) (xs : List ℕ) → Reaches room ops start lines named z → Reaches room ops start lines (named ++ xs) (extra z xs)
reaches_named room ops start lines named z xs h =
    let m = more room ops lines (begin start named) xs h.passes in
    record { passes = m.0; is = m.1 ∙ ap (λ w. extra w xs) h.is }

walk_more : (ops : List Operation) (lines : List Line) (l : Line) (w : Walker) → walk ops (lines ++ l ∷ []) w ≡ after ops l (walk ops lines w)
walk_more ops [] l w = refl
walk_more ops (a ∷ lines) l w = walk_more ops lines l (after ops a w)

passes_more : (room : Room) (ops : List Operation) (lines : List Line) (l : Line) (w : Walker) → Passes room ops lines w → Fits room ops l (walk ops lines w) → Passes room ops (lines ++ l ∷ []) w
passes_more room ops [] l w p f = (f, tt)
passes_more room ops (a ∷ lines) l w p f = (p.0, passes_more room ops lines l (after ops a w) p.1 f)

pub reaches_line : (room : Room) (ops : List Operation) (start : Places) (lines : List Line) (named : List ℕ) (z : Walker) (l : Line) → Reaches room ops start lines named z → Fits room ops l z → Reaches room ops start (lines ++ l ∷ []) named (after ops l z)
reaches_line room ops start lines named z l h f = record {
  passes = passes_more room ops lines l (begin start named) h.passes (subst (Fits room ops l) (sym h.is) f);
  is = walk_more ops lines l (begin start named) ∙ ap (after ops l) h.is;
}
