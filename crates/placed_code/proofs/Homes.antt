-- Homes by rank: different values have different ones, and whatever copies store or load has one.
use Rattle.std.proofs.Common.{◌≡◌, ℕ, zero, suc, ◌+◌, ◌<◌, ◌≤◌, ◌==◌, ◌||◌, ⊎_elim, List, [], ◌∷◌, ◌++◌, length, get_or, Bool, true, false, cond, Some, None, refl, arith, sym, ap, ◌∙◌, subst, eq-eqb}
use Rattle.std.specs.Prelude.{if◌then◌else◌, nat_lt}
use Rattle.std.proofs.lemmas.Bool.Decides.{eqb_tells, nat_tests}
use Rattle.block_runs.specs.Live.{has}
use Rattle.lir_core.specs.Spots.{Spot, reg, home, out, target, saved, same}
use Rattle.lir_core.specs.Lines.{Room}
use Rattle.placed_code.specs.Placed.{Copy, Cell, Block, Placed}
use Rattle.placed_code.specs.Words.{InReg, InSlot, slot_of}
use Rattle.placed_code.specs.Layout.{position}
use Rattle.placed_code.specs.Claims.{Named, AllNamed}
use Rattle.placed_code.specs.Results.{insert, with_home, with_copies, with_cells, with_blocks, homes_of, rank_in, SpotFits, CopiesFit}
use Rattle.placed_code.proofs.Contents.{same_is, is_same}

---- What copies store or load

abbrev pub touches : Copy → Spot → Bool
touches m p = same p m.to || same p m.from

abbrev pub touched : List Copy → Spot → Bool
touched [] p = false
touched (m ∷ ms) p = touches m p || touched ms p

abbrev pub touched_cells : List Cell → Spot → Bool
touched_cells [] p = false
touched_cells (cell ∷ cells) p = touched cell.copies p || touched_cells cells p

abbrev pub touched_blocks : List Block → Spot → Bool
touched_blocks [] p = false
touched_blocks (bl ∷ bls) p = touched_cells bl.body p || (touched bl.copies p || touched_blocks bls p)

same_numbers : (m n : ℕ) → (m == n) ≡ true → m ≡ n
same_numbers m n e = ⊎_elim (λ t. t.1) (λ f. let wrong = f.0 in cc) (eqb_tells m n)

---- Ranks

at_rank : (vs : List ℕ) (v : ℕ) → has vs v ≡ true → (position vs v < length vs) × (get_or vs (position vs v) 0 ≡ v)
at_rank [] v h = cc
at_rank (x ∷ vs) v h = by_test (x == v) refl h (at_rank vs v)
  where
    by_test : (b : Bool) → (x == v) ≡ b → cond b true (has vs v) ≡ true → (has vs v ≡ true → (position vs v < length vs) × (get_or vs (position vs v) 0 ≡ v))
        → ((if b then 0 else suc (position vs v)) < suc (length vs)) × (get_or (x ∷ vs) (if b then 0 else suc (position vs v)) 0 ≡ v)
    by_test true e h on = (omega arith, same_numbers x v e)
    by_test false e h on = let r = on h in let l = r.0 in (omega (arith, l), r.1)

ranked : (vs : List ℕ) (v j : ℕ) → rank_in vs v ≡ Some j → (has vs v ≡ true) × (position vs v ≡ j)
ranked vs v j e = by_test (has vs v) refl e
  where
    by_test : (b : Bool) → has vs v ≡ b → cond b (Some (position vs v)) None ≡ Some j → (has vs v ≡ true) × (position vs v ≡ j)
    by_test true h e = (h, cc)
    by_test false h e = cc

pub ranks_differ : (vs : List ℕ) (u v j : ℕ) → rank_in vs u ≡ Some j → rank_in vs v ≡ Some j → u ≡ v
ranks_differ vs u v j e f =
    let a = ranked vs u j e in let b = ranked vs v j f in
    sym (at_rank vs u a.0).1 ∙ ap (λ n. get_or vs n 0) (a.1 ∙ sym b.1) ∙ (at_rank vs v b.0).1

pub ranks_within : (vs : List ℕ) (v j : ℕ) → rank_in vs v ≡ Some j → j < length vs
ranks_within vs v j e = let a = ranked vs v j e in let l = (at_rank vs v a.0).0 in let p = a.1 in omega (arith, l, p)

---- Which values have one

has_inserted : (u v : ℕ) (vs : List ℕ) → has vs v ≡ true → has (insert u vs) v ≡ true
has_inserted u v [] h = cc
has_inserted u v (x ∷ vs) h = by_tests (u == x) (nat_lt u x) h (has_inserted u v vs)
  where
    by_rest : (b : Bool) → cond b true (has vs v) ≡ true → (has vs v ≡ true → has (insert u vs) v ≡ true) → cond b true (has (insert u vs) v) ≡ true
    by_rest true h on = refl
    by_rest false h on = on h

    later : (b : Bool) → cond (x == v) true (has vs v) ≡ true → cond b true (cond (x == v) true (has vs v)) ≡ true
    later true h = refl
    later false h = h

    by_tests : (a b : Bool) → cond (x == v) true (has vs v) ≡ true → (has vs v ≡ true → has (insert u vs) v ≡ true) → has (cond a (x ∷ vs) (cond b (u ∷ (x ∷ vs)) (x ∷ insert u vs))) v ≡ true
    by_tests true b h on = h
    by_tests false true h on = later (u == v) h
    by_tests false false h on = by_rest (x == v) h on

inserted : (v : ℕ) (vs : List ℕ) → has (insert v vs) v ≡ true
inserted v [] = ap (λ b. cond b true false) (eq-eqb v v refl)
inserted v (x ∷ vs) = by_tests (v == x) refl (nat_lt v x) (inserted v vs)
  where
    by_tests : (a : Bool) → (v == x) ≡ a → (b : Bool) → has (insert v vs) v ≡ true → has (cond a (x ∷ vs) (cond b (v ∷ (x ∷ vs)) (x ∷ insert v vs))) v ≡ true
    by_tests true e b r = ap (λ t. cond t true (has vs v)) (eq-eqb x v (sym (same_numbers v x e)))
    by_tests false e true r = ap (λ t. cond t true (has (x ∷ vs) v)) (eq-eqb v v refl)
    by_tests false e false r = in_rest (x == v) r
      where
        in_rest : (t : Bool) → has (insert v vs) v ≡ true → cond t true (has (insert v vs) v) ≡ true
        in_rest true r = refl
        in_rest false r = r

home_stays : (p : Spot) (v : ℕ) (vs : List ℕ) → has vs v ≡ true → has (with_home p vs) v ≡ true
home_stays (reg r) v vs h = h
home_stays (home u) v vs h = has_inserted u v vs h
home_stays (out s) v vs h = h
home_stays target v vs h = h
home_stays saved v vs h = h

copies_stay : (ms : List Copy) (v : ℕ) (vs : List ℕ) → has vs v ≡ true → has (with_copies ms vs) v ≡ true
copies_stay [] v vs h = h
copies_stay (m ∷ ms) v vs h = home_stays m.to v (with_home m.from (with_copies ms vs)) (home_stays m.from v (with_copies ms vs) (copies_stay ms v vs h))

cells_stay : (cells : List Cell) (v : ℕ) (vs : List ℕ) → has vs v ≡ true → has (with_cells cells vs) v ≡ true
cells_stay [] v vs h = h
cells_stay (cell ∷ cells) v vs h = copies_stay cell.copies v (with_cells cells vs) (cells_stay cells v vs h)

copies_have : (ms : List Copy) (v : ℕ) (vs : List ℕ) → touched ms (home v) ≡ true → has (with_copies ms vs) v ≡ true
copies_have [] v vs t = cc
copies_have (m ∷ ms) v vs t = by_to (same (home v) m.to) refl (same (home v) m.from) refl t (copies_have ms v vs)
  where
    by_to : (a : Bool) → same (home v) m.to ≡ a → (b : Bool) → same (home v) m.from ≡ b → (a || b || touched ms (home v)) ≡ true → (touched ms (home v) ≡ true → has (with_copies ms vs) v ≡ true) → has (with_home m.to (with_home m.from (with_copies ms vs))) v ≡ true
    by_to true e b f t on = subst (λ (p : Spot). has (with_home p (with_home m.from (with_copies ms vs))) v ≡ true) (same_is (home v) m.to e) (inserted v (with_home m.from (with_copies ms vs)))
    by_to false e true f t on = home_stays m.to v (with_home m.from (with_copies ms vs)) (subst (λ (p : Spot). has (with_home p (with_copies ms vs)) v ≡ true) (same_is (home v) m.from f) (inserted v (with_copies ms vs)))
    by_to false e false f t on = home_stays m.to v (with_home m.from (with_copies ms vs)) (home_stays m.from v (with_copies ms vs) (on t))

cells_have : (cells : List Cell) (v : ℕ) (vs : List ℕ) → touched_cells cells (home v) ≡ true → has (with_cells cells vs) v ≡ true
cells_have [] v vs t = cc
cells_have (cell ∷ cells) v vs t = by_test (touched cell.copies (home v)) refl t (cells_have cells v vs)
  where
    by_test : (a : Bool) → touched cell.copies (home v) ≡ a → (a || touched_cells cells (home v)) ≡ true → (touched_cells cells (home v) ≡ true → has (with_cells cells vs) v ≡ true) → has (with_copies cell.copies (with_cells cells vs)) v ≡ true
    by_test true e t on = copies_have cell.copies v (with_cells cells vs) e
    by_test false e t on = copies_stay cell.copies v (with_cells cells vs) (on t)

blocks_have : (bls : List Block) (v : ℕ) (vs : List ℕ) → touched_blocks bls (home v) ≡ true → has (with_blocks bls vs) v ≡ true
blocks_have [] v vs t = cc
blocks_have (bl ∷ bls) v vs t = by_test (touched_cells bl.body (home v)) refl (touched bl.copies (home v)) refl t (blocks_have bls v vs)
  where
    by_test : (a : Bool) → touched_cells bl.body (home v) ≡ a → (b : Bool) → touched bl.copies (home v) ≡ b → (a || (b || touched_blocks bls (home v))) ≡ true → (touched_blocks bls (home v) ≡ true → has (with_blocks bls vs) v ≡ true) → has (with_cells bl.body (with_copies bl.copies (with_blocks bls vs))) v ≡ true
    by_test true e b f t on = cells_have bl.body v (with_copies bl.copies (with_blocks bls vs)) e
    by_test false e true f t on = cells_stay bl.body v (with_copies bl.copies (with_blocks bls vs)) (copies_have bl.copies v (with_blocks bls vs) f)
    by_test false e false f t on = cells_stay bl.body v (with_copies bl.copies (with_blocks bls vs)) (copies_stay bl.copies v (with_blocks bls vs) (on t))

-- whatever copies store or load has a home
pub homes_have : (first : List Copy) (blocks : List Block) (v : ℕ) → (touched first (home v) || touched_blocks blocks (home v)) ≡ true → has (homes_of first blocks) v ≡ true
homes_have first blocks v t = by_test (touched first (home v)) refl t
  where
    by_test : (a : Bool) → touched first (home v) ≡ a → (a || touched_blocks blocks (home v)) ≡ true → has (with_copies first (with_blocks blocks [])) v ≡ true
    by_test true e t = copies_have first v (with_blocks blocks []) e
    by_test false e t = copies_stay first v (with_blocks blocks []) (blocks_have blocks v [] t)

---- What is named

pub or_left : (a b : Bool) → a ≡ true → (a || b) ≡ true
or_left true b e = refl
or_left false b e = cc

pub or_right : (a b : Bool) → b ≡ true → (a || b) ≡ true
or_right true b e = refl
or_right false b e = e

module _ (pr : Placed) (room : Room) (few : room.regs ≤ 16) (slots : room.slots ≤ pr.outs) (Touched : Spot → Bool) (ranks : (v : ℕ) → Touched (home v) ≡ true → (j : ℕ) × (pr.rank v ≡ Some j)) where
  names_spot : (p : Spot) → SpotFits room p → Touched p ≡ true → Named pr p
  names_spot (reg r) l t = record { at = InReg r; is = let h : nat_lt r 16 ≡ true = grind (arith, nat_tests, l, few) in ap (λ b. if b then Some (InReg r) else None) h }
  names_spot (home v) l t = let j = ranks v t in record { at = InSlot (pr.outs + suc j.0); is = ap (slot_of pr.outs) j.1 }
  names_spot (out s) l t = record { at = InSlot s; is = let h : nat_lt s pr.outs ≡ true = grind (arith, nat_tests, l, slots) in ap (λ b. if b then Some (InSlot s) else None) h }
  names_spot target l t = record { at = InReg 25; is = refl }
  names_spot saved l t = record { at = InReg 16; is = refl }

  pub all_named : (ms : List Copy) → CopiesFit room ms → ((p : Spot) → touched ms p ≡ true → Touched p ≡ true) → AllNamed pr ms
  all_named [] l t = tt
  all_named (m ∷ ms) l t =
      let here : (p : Spot) → touches m p ≡ true → Touched p ≡ true = λ p e. t p (or_left (touches m p) (touched ms p) e) in
      (names_spot m.to l.0 (here m.to (or_left (same m.to m.to) (same m.to m.from) (is_same m.to))), names_spot m.from l.1 (here m.from (or_right (same m.from m.to) (same m.from m.from) (is_same m.from))), all_named ms l.2 (λ p e. t p (or_right (touches m p) (touched ms p) e)))

---- Parts of all copies

pub touched-append : (ms ns : List Copy) (p : Spot) → touched ms p ≡ true → touched (ms ++ ns) p ≡ true
touched-append [] ns p e = cc
touched-append (m ∷ ms) ns p e = by_test (touches m p) e (touched-append ms ns p)
  where
    by_test : (b : Bool) → (b || touched ms p) ≡ true → (touched ms p ≡ true → touched (ms ++ ns) p ≡ true) → (b || touched (ms ++ ns) p) ≡ true
    by_test true e on = refl
    by_test false e on = on e

pub touched_body : (bls : List Block) (n : ℕ) (d : Block) (p : Spot) → n < length bls → touched_cells (get_or bls n d).body p ≡ true → touched_blocks bls p ≡ true
touched_body [] n d p l e = absurd (omega (arith, l))
touched_body (bl ∷ bls) zero d p l e = or_left (touched_cells bl.body p) (touched bl.copies p || touched_blocks bls p) e
touched_body (bl ∷ bls) (suc n) d p l e = or_right (touched_cells bl.body p) (touched bl.copies p || touched_blocks bls p) (or_right (touched bl.copies p) (touched_blocks bls p) (touched_body bls n d p (omega (arith, l)) e))

pub touched_last : (bls : List Block) (n : ℕ) (d : Block) (p : Spot) → n < length bls → touched (get_or bls n d).copies p ≡ true → touched_blocks bls p ≡ true
touched_last [] n d p l e = absurd (omega (arith, l))
touched_last (bl ∷ bls) zero d p l e = or_right (touched_cells bl.body p) (touched bl.copies p || touched_blocks bls p) (or_left (touched bl.copies p) (touched_blocks bls p) e)
touched_last (bl ∷ bls) (suc n) d p l e = or_right (touched_cells bl.body p) (touched bl.copies p || touched_blocks bls p) (or_right (touched bl.copies p) (touched_blocks bls p) (touched_last bls n d p (omega (arith, l)) e))
