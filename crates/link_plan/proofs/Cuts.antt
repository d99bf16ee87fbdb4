-- Cuts one by one.
use Rattle.std.proofs.Common.{◌≡◌, ℕ, zero, suc, ◌+◌, ◌<◌, ◌≤◌, List, [], ◌∷◌, ◌++◌, map, length, drop, get_or, Option, Some, Bool, true, refl, arith, sym, ap, ap₂, ◌∙◌, subst, append_assoc}
use Rattle.std.specs.Prelude.{◌&&◌, max}
use Rattle.std.specs.List.{list_all}
use Rattle.std.specs.Option.{option_to_list}
use Rattle.std.proofs.lemmas.List.{append-nil, drop_more, drop_all}
use Rattle.lir_core.specs.declared.flow.Flow.{Flow}
use Rattle.lir_core.specs.declared.places.TraceOut.{TraceOut}
use Rattle.boundary_resolve.specs.declared.code_line.CodeLine.{CodeLine}
use Rattle.boundary_resolve.specs.Placing.{placed_of}
use Rattle.placed_code.specs.Words.{frame_of, most_frame}
use Rattle.placed_code.specs.Results.{placed, all_placed}
use Rattle.linked_flows.specs.Allocations.{Cut, steps_of, allocated, all_allocated}
use Rattle.link_blocks.specs.Fits.{numbers_fit}
use Rattle.link_blocks.specs.Laid.{IsCutOf}
use Rattle.procedure_pieces.specs.Pieces.{Piece, piece_of}
use Rattle.link_plan.specs.Linked.{AllAllocated, AreCuts, greatest_frame, pieces_of}
use Rattle.link_plan.proofs.Low.{proc_low, and_left, and_right}
use Rattle.link_plan.proofs.InTable.{AllLow}

-- the cut of a number
pub record CutAt (k : ℕ) (f : Flow) (lines : List CodeLine) (outs : List TraceOut) (cuts : List Cut) (i : ℕ) : Type 0 where
  pub cut : Cut
  pub rest : List Cut
  pub drops : drop i cuts ≡ cut ∷ rest
  pub is : IsCutOf k f lines outs cut

one_of : (cuts : List Cut) (i : ℕ) → i < length cuts → (c : Cut) × (rest : List Cut) × (drop i cuts ≡ c ∷ rest)
one_of [] i l = absurd (omega (arith, l))
one_of (c ∷ cuts) zero l = (c, cuts, refl)
one_of (c ∷ cuts) (suc i) l = one_of cuts i (omega (arith, l))

mapped_at : {A : Type 0} (g : Cut → A) (cuts : List Cut) (i : ℕ) (c : Cut) (rest : List Cut) (x e : A) → drop i cuts ≡ c ∷ rest → x ≡ get_or (map g cuts) i e → x ≡ g c
mapped_at g [] zero c rest x e d h = cc
mapped_at g [] (suc i) c rest x e d h = cc
mapped_at g (y ∷ cuts) zero c rest x e d h = let same : y ≡ c = cc in h ∙ ap g same
mapped_at g (y ∷ cuts) (suc i) c rest x e d h = mapped_at g cuts i c rest x e d h

map_length : {A : Type 0} (g : Cut → A) (cuts : List Cut) → length (map g cuts) ≡ length cuts
map_length g [] = refl
map_length g (c ∷ cuts) = ap suc (map_length g cuts)

pub cut_at : (k : ℕ) (flows : List Flow) (parts : List (List CodeLine)) (outs : List (List TraceOut)) (cuts : List Cut) → AreCuts k flows parts outs cuts → (i : ℕ) (f : Flow) (lines : List CodeLine) (os : List TraceOut)
    → i < length flows → f ≡ get_or flows i f → lines ≡ get_or parts i [] → os ≡ get_or outs i [] → CutAt k f lines os cuts i
cut_at k flows parts outs cuts are i f lines os l ef el eo =
    let n = ap (λ (xs : List Flow). length xs) are.flows_are ∙ map_length (λ (c : Cut). c.flow) cuts in
    let one = one_of cuts i (omega (arith, l, n)) in
    let c = one.0 in
    let a = are.each i c one.1 one.2 in
    record {
      cut = c;
      rest = one.1;
      drops = one.2;
      is = record {
        flow_is = mapped_at (λ (x : Cut). x.flow) cuts i c one.1 f f one.2 (ef ∙ ap (λ (xs : List Flow). get_or xs i f) are.flows_are);
        outs_are = mapped_at (λ (x : Cut). x.outs) cuts i c one.1 os [] one.2 (eo ∙ ap (λ (xs : List (List TraceOut)). get_or xs i []) are.outs_are);
        lines_are = mapped_at (λ (x : Cut). placed_of x.flow x.traces x.outs) cuts i c one.1 lines [] one.2 (el ∙ ap (λ (xs : List (List CodeLine)). get_or xs i []) are.parts_are);
        sound = a.sound;
        paths = a.paths;
      };
    }

pub drop_next : {A : Type 0} (xs : List A) (i : ℕ) (x : A) (rest : List A) → drop i xs ≡ x ∷ rest → drop (i + 1) xs ≡ rest
drop_next {A} xs i x rest e = let z : i + 1 ≡ suc i = omega arith in ap (λ m. drop m xs) z ∙ on xs i e
  where
    on : (ys : List A) (m : ℕ) → drop m ys ≡ x ∷ rest → drop (suc m) ys ≡ rest
    on [] zero e = cc
    on [] (suc m) e = cc
    on (y ∷ ys) zero e = let others : ys ≡ rest = cc in others
    on (y ∷ ys) (suc m) e = on ys m e

-- one piece more
pub pieces_more : (cuts : List Cut) (i : ℕ) (c : Cut) (rest : List Cut) (old new all : List Piece) → drop i cuts ≡ c ∷ rest → new ≡ old ++ piece_of (placed steps_of (allocated c)) ∷ []
    → old ++ pieces_of (drop i cuts) ≡ all → new ++ pieces_of (drop (i + 1) cuts) ≡ all
pieces_more cuts i c rest old new all d e inv =
    ap₂ (λ (xs : List Piece) (cs : List Cut). xs ++ pieces_of cs) e (drop_next cuts i c rest d)
    ∙ append_assoc old (piece_of (placed steps_of (allocated c)) ∷ []) (pieces_of rest) ∙ sym (ap (λ (cs : List Cut). old ++ pieces_of cs) d) ∙ inv

pub same_lengths : (k : ℕ) (flows : List Flow) (parts : List (List CodeLine)) (outs : List (List TraceOut)) (cuts : List Cut) → AreCuts k flows parts outs cuts → (length parts ≡ length flows) × (length outs ≡ length flows)
same_lengths k flows parts outs cuts are =
    let n = ap (λ (xs : List Flow). length xs) are.flows_are ∙ map_length (λ (c : Cut). c.flow) cuts in (
      ap (λ (xs : List (List CodeLine)). length xs) are.parts_are ∙ map_length (λ (c : Cut). placed_of c.flow c.traces c.outs) cuts ∙ sym n,
      ap (λ (xs : List (List TraceOut)). length xs) are.outs_are ∙ map_length (λ (c : Cut). c.outs) cuts ∙ sym n,
    )

pub cuts_length : (k : ℕ) (flows : List Flow) (parts : List (List CodeLine)) (outs : List (List TraceOut)) (cuts : List Cut) → AreCuts k flows parts outs cuts → length flows ≡ length cuts
cuts_length k flows parts outs cuts are = ap (λ (xs : List Flow). length xs) are.flows_are ∙ map_length (λ (c : Cut). c.flow) cuts

---- All cuts

le_max : (a b : ℕ) → (a ≤ max a b) × (b ≤ max a b)
le_max zero b = (omega arith, omega arith)
le_max (suc a) zero = (omega arith, omega arith)
le_max (suc a) (suc b) = let r = le_max a b in let l = r.0 in let m = r.1 in (omega (arith, l), omega (arith, m))

pub frames_fit : (cuts : List Cut) (q : ℕ) (c : Cut) (rest : List Cut) → drop q cuts ≡ c ∷ rest → frame_of (placed steps_of (allocated c)) ≤ greatest_frame (all_placed steps_of (all_allocated cuts))
frames_fit [] zero c rest e = cc
frames_fit [] (suc q) c rest e = cc
frames_fit (d ∷ cuts) zero c rest e = let same : d ≡ c = cc in let m = (le_max (frame_of (placed steps_of (allocated d))) (greatest_frame (all_placed steps_of (all_allocated cuts)))).0 in subst (λ (x : Cut). frame_of (placed steps_of (allocated x)) ≤ greatest_frame (all_placed steps_of (all_allocated (d ∷ cuts)))) same m
frames_fit (d ∷ cuts) (suc q) c rest e =
    let r = frames_fit cuts q c rest e in
    let m = (le_max (frame_of (placed steps_of (allocated d))) (greatest_frame (all_placed steps_of (all_allocated cuts)))).1 in
    omega (arith, r, m)

pub all_low : (k : ℕ) → k ≤ 16 → (cuts : List Cut) → AllAllocated k cuts → list_all (λ f. numbers_fit f) (map (λ (c : Cut). c.flow) cuts) ≡ true → greatest_frame (all_placed steps_of (all_allocated cuts)) ≤ most_frame
    → AllLow (all_placed steps_of (all_allocated cuts))
all_low k few [] each numbers fits = tt
all_low k few (c ∷ cuts) each numbers fits =
    let m = le_max (frame_of (placed steps_of (allocated c))) (greatest_frame (all_placed steps_of (all_allocated cuts))) in
    let one = m.0 in let more = m.1 in (
      proc_low k few c (each 0 c cuts refl) (and_left (numbers_fit c.flow) (list_all (λ f. numbers_fit f) (map (λ (x : Cut). x.flow) cuts)) numbers) (omega (arith, one, fits)),
      all_low k few cuts (λ q d rest e. each (suc q) d rest e) (and_right (numbers_fit c.flow) (list_all (λ f. numbers_fit f) (map (λ (x : Cut). x.flow) cuts)) numbers) (omega (arith, more, fits)),
    )

---- Lists whose items are taken one by one

-- an item that is taken, and what is left
pub next_is : {V : Type 0} (xs left left' : List V) (i : ℕ) (o : Option V) (v : V) → left ≡ drop i xs → left ≡ option_to_list o ++ left' → o ≡ Some v → drop i xs ≡ v ∷ left'
next_is xs left left' i o v at e is = sym at ∙ e ∙ ap (λ (x : Option _). option_to_list x ++ left') is

-- an item's list
pub item_at : {V A : Type 0} (items : V → List A) (xs : List V) (i : ℕ) (v : V) (rest : List V) → drop i xs ≡ v ∷ rest → items v ≡ get_or (map items xs) i []
item_at items [] zero v rest e = cc
item_at items [] (suc i) v rest e = cc
item_at items (x ∷ xs) zero v rest e = let same : v ≡ x = cc in ap items same
item_at items (x ∷ xs) (suc i) v rest e = item_at items xs i v rest e

-- none is left only behind the last
pub left_none : {V A : Type 0} (items : V → List A) (xs left : List V) (i : ℕ) → left ≡ drop i xs → length left ≡ 0 → length (map items xs) ≤ i
left_none items [] left i at e = omega arith
left_none items (x ∷ xs) left zero at e = absurd (let n : length left ≡ suc (length xs) = ap (λ (ys : List _). length ys) at in omega (arith, n, e))
left_none items (x ∷ xs) left (suc i) at e = let n = left_none items xs left i at e in omega (arith, n)

---- While plans are made

pub fits_more : (flows : List Flow) (i : ℕ) (f : Flow) (all : Bool) → i < length flows → f ≡ get_or flows i f → numbers_fit f ≡ true → all ≡ list_all (λ g. numbers_fit g) (drop i flows) → all ≡ list_all (λ g. numbers_fit g) (drop (i + 1) flows)
fits_more flows i f all l e fits inv =
    inv ∙ ap (list_all (λ g. numbers_fit g)) (drop_more flows i f l ∙ ap (λ (g : Flow). g ∷ drop (i + 1) flows) (sym e)) ∙ ap (λ b. b && list_all (λ g. numbers_fit g) (drop (i + 1) flows)) fits

pub map_last : {A B : Type 0} (f : A → B) (xs : List A) (x : A) → map f (xs ++ x ∷ []) ≡ map f xs ++ f x ∷ []
map_last f [] x = refl
map_last f (y ∷ xs) x = ap (λ ys. f y ∷ ys) (map_last f xs x)

pub pieces_all : (cuts : List Cut) (i : ℕ) (pieces all : List Piece) → length cuts ≤ i → pieces ++ pieces_of (drop i cuts) ≡ all → pieces ≡ all
pieces_all cuts i pieces all l inv = sym (append-nil pieces) ∙ sym (ap (λ (cs : List Cut). pieces ++ pieces_of cs) (drop_all i cuts l)) ∙ inv
