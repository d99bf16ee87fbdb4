-- What stands in the spots of a procedure, and the words of copies between them.
use Rattle.std.proofs.Common.{◌≡◌, ℕ, suc, ◌+◌, ◌*◌, ◌<◌, ◌≤◌, ◌⊎◌, ◌==◌, ⊎_elim, inl, inr, List, [], ◌∷◌, ◌++◌, length, Bool, true, false, cond, Option, Some, None, refl, arith, sym, ap, ap₂, ◌∙◌, subst, eq-eqb, length-append}
use Rattle.std.specs.Prelude.{nat_lt, if◌then◌else◌}
use Rattle.std.proofs.lemmas.Bool.Decides.{nat_tests, eqb_tells}
use Rattle.run_laws.specs.Runs.{Moves}
use Rattle.a64_memory.specs.Memory.{Area}
use Rattle.a64_instr.specs.declared.instr.Instr.{Instr}
use Rattle.a64_machine.specs.State.{State}
use Rattle.a64_machine.specs.Machine.{step_of}
use Rattle.a64_machine.proofs.Steps.{walks-none, StandAll, stand_append}
use Rattle.lir_core.specs.Spots.{Spot, reg, home, saved, out, target, same}
use Rattle.placed_code.specs.Placed.{Copy, copied, all_copied, Placed}
use Rattle.block_runs.specs.States.{World}
use Rattle.placed_code.specs.Words.{Where, InReg, InSlot, slots_of, slot_of, where_is, move, move_between, copy_word, copies_words}
use Rattle.placed_code.proofs.Stack.{held}
use Rattle.placed_code.proofs.Slots.{At, Passed, passed_append}
use Rattle.placed_code.proofs.Copies.{at_where, Ok, same_where, move_does}
use Rattle.a64_machine.proofs.Numbers.{Numbers}
use Rattle.placed_code.specs.Claims.{AllNamed, HomesFit, Named}

abbrev pub from_where : Area → ℕ → (ℕ → ℕ) → Option Where → ℕ
from_where s low r None = 0
from_where s low r (Some x) = at_where s low r x

abbrev pub content : Placed → Area → ℕ → (ℕ → ℕ) → Spot → ℕ
content pr s low r p = from_where s low r (where_is pr p)

-- what a register's spot holds
pub reg_content : (pr : Placed) (s : Area) (low : ℕ) (r : ℕ → ℕ) (n : ℕ) → n < 16 → content pr s low r (reg n) ≡ r n
reg_content pr s low r n small = by_test (nat_lt n 16) (grind (arith, nat_tests, small))
  where
    by_test : (b : Bool) → b ≡ true → from_where s low r (if b then Some (InReg n) else None) ≡ r n
    by_test true e = refl
    by_test false e = cc

same_numbers : (m n : ℕ) → (m == n) ≡ true → m ≡ n
same_numbers m n e = ⊎_elim (λ t. t.1) (λ f. let wrong = f.0 in cc) (eqb_tells m n)

pub same_is : (p q : Spot) → same p q ≡ true → p ≡ q
same_is (reg a) (reg b) e = ap reg (same_numbers a b e)
same_is (reg a) (home b) e = cc
same_is (reg a) saved e = cc
same_is (reg a) (out b) e = cc
same_is (reg a) target e = cc
same_is (home a) (reg b) e = cc
same_is (home a) (home b) e = ap home (same_numbers a b e)
same_is (home a) saved e = cc
same_is (home a) (out b) e = cc
same_is (home a) target e = cc
same_is saved (reg b) e = cc
same_is saved (home b) e = cc
same_is saved saved e = refl
same_is saved (out b) e = cc
same_is saved target e = cc
same_is (out a) (reg b) e = cc
same_is (out a) (home b) e = cc
same_is (out a) saved e = cc
same_is (out a) (out b) e = ap out (same_numbers a b e)
same_is (out a) target e = cc
same_is target (reg b) e = cc
same_is target (home b) e = cc
same_is target saved e = cc
same_is target (out b) e = cc
same_is target target e = refl

pub is_same : (p : Spot) → same p p ≡ true
is_same (reg a) = eq-eqb a a refl
is_same (home a) = eq-eqb a a refl
is_same (out a) = eq-eqb a a refl
is_same saved = refl
is_same target = refl

where_same : (x y : Where) → same_where x y ≡ true → x ≡ y
where_same (InReg a) (InReg b) e = ap InReg (same_numbers a b e)
where_same (InSlot a) (InSlot b) e = ap InSlot (same_numbers a b e)
where_same (InReg a) (InSlot b) e = cc
where_same (InSlot a) (InReg b) e = cc

reg_is : (pr : Placed) (a : ℕ) (x : Where) → where_is pr (reg a) ≡ Some x → (x ≡ InReg a) × (a < 16)
reg_is pr a x e = at (nat_lt a 16) refl e
  where
    at : (b : Bool) → nat_lt a 16 ≡ b → (if b then Some (InReg a) else None) ≡ Some x → (x ≡ InReg a) × (a < 16)
    at true t e = (cc, grind (arith, nat_tests))
    at false t e = cc

out_is : (pr : Placed) (a : ℕ) (x : Where) → where_is pr (out a) ≡ Some x → (x ≡ InSlot a) × (a < pr.outs)
out_is pr a x e = at (nat_lt a pr.outs) refl e
  where
    at : (b : Bool) → nat_lt a pr.outs ≡ b → (if b then Some (InSlot a) else None) ≡ Some x → (x ≡ InSlot a) × (a < pr.outs)
    at true t e = (cc, grind (arith, nat_tests))
    at false t e = cc

some_is : (x y : Where) → Some y ≡ Some x → x ≡ y
some_is x y e = cc

pub record HomeAt (pr : Placed) (v : ℕ) (x : Where) : Type 0 where
  pub rank : ℕ
  pub is : pr.rank v ≡ Some rank
  pub at : x ≡ InSlot (pr.outs + suc rank)

home_is : (pr : Placed) (v : ℕ) (x : Where) → where_is pr (home v) ≡ Some x → HomeAt pr v x
home_is pr v x e = by_rank (pr.rank v) refl e
  where
    by_rank : (o : Option ℕ) → pr.rank v ≡ o → slot_of pr.outs o ≡ Some x → HomeAt pr v x
    by_rank None t e = cc
    by_rank (Some j) t e = record { rank = j; is = t; at = cc }

module _ (pr : Placed) (fits : HomesFit pr) where
  abbrev ok : Where → Type 0
  ok x = Ok (slots_of pr) pr.outs x

  pub ok_of : (p : Spot) (x : Where) → where_is pr p ≡ Some x → Ok (slots_of pr) pr.outs x
  ok_of (reg a) x e = let r = reg_is pr a x e in let l = r.1 in let m : ok (InReg a) = inl (omega (arith, l)) in subst (λ y. ok y) (sym r.0) m
  ok_of (home v) x e =
      let r = home_is pr v x e in
      let l = fits.within v r.rank r.is in
      let m : ok (InSlot (pr.outs + suc r.rank)) = ((λ z. omega (arith, z)), omega (arith, l)) in
      subst (λ y. ok y) (sym r.at) m
  ok_of saved x e = let m : ok (InReg 16) = inl (omega arith) in subst (λ y. ok y) (sym (some_is x (InReg 16) e)) m
  ok_of (out s) x e = let r = out_is pr s x e in let l = r.1 in let m : ok (InSlot s) = ((λ z. omega (arith, z, l)), omega (arith, l)) in subst (λ y. ok y) (sym r.0) m
  ok_of target x e = let m : ok (InReg 25) = inr refl in subst (λ y. ok y) (sym (some_is x (InReg 25) e)) m

  one_spot : (p q : Spot) (x : Where) → where_is pr p ≡ Some x → where_is pr q ≡ Some x → p ≡ q
  one_spot (reg a) (reg b) x e f = let g : InReg a ≡ InReg b = sym (reg_is pr a x e).0 ∙ (reg_is pr b x f).0 in let h : a ≡ b = cc in ap reg h
  one_spot (reg a) (home b) x e f = let g : InReg a ≡ InSlot (pr.outs + suc (home_is pr b x f).rank) = sym (reg_is pr a x e).0 ∙ (home_is pr b x f).at in cc
  one_spot (reg a) saved x e f = let g : InReg a ≡ InReg 16 = sym (reg_is pr a x e).0 ∙ (some_is x (InReg 16) f) in let h : a ≡ 16 = cc in let l = (reg_is pr a x e).1 in absurd (omega (arith, h, l))
  one_spot (reg a) (out b) x e f = let g : InReg a ≡ InSlot b = sym (reg_is pr a x e).0 ∙ (out_is pr b x f).0 in cc
  one_spot (reg a) target x e f = let g : InReg a ≡ InReg 25 = sym (reg_is pr a x e).0 ∙ (some_is x (InReg 25) f) in let h : a ≡ 25 = cc in let l = (reg_is pr a x e).1 in absurd (omega (arith, h, l))
  one_spot (home a) (reg b) x e f = let g : InSlot (pr.outs + suc (home_is pr a x e).rank) ≡ InReg b = sym (home_is pr a x e).at ∙ (reg_is pr b x f).0 in cc
  one_spot (home a) (home b) x e f = let g : InSlot (pr.outs + suc (home_is pr a x e).rank) ≡ InSlot (pr.outs + suc (home_is pr b x f).rank) = sym (home_is pr a x e).at ∙ (home_is pr b x f).at in let h : (pr.outs + suc (home_is pr a x e).rank) ≡ (pr.outs + suc (home_is pr b x f).rank) = cc in let i : (home_is pr a x e).rank ≡ (home_is pr b x f).rank = omega (arith, h) in ap home (fits.ranks a b (home_is pr a x e).rank (home_is pr a x e).is ((home_is pr b x f).is ∙ ap Some (sym i)))
  one_spot (home a) saved x e f = let g : InSlot (pr.outs + suc (home_is pr a x e).rank) ≡ InReg 16 = sym (home_is pr a x e).at ∙ (some_is x (InReg 16) f) in cc
  one_spot (home a) (out b) x e f = let g : InSlot (pr.outs + suc (home_is pr a x e).rank) ≡ InSlot b = sym (home_is pr a x e).at ∙ (out_is pr b x f).0 in let h : (pr.outs + suc (home_is pr a x e).rank) ≡ b = cc in let m = (out_is pr b x f).1 in absurd (omega (arith, h, m))
  one_spot (home a) target x e f = let g : InSlot (pr.outs + suc (home_is pr a x e).rank) ≡ InReg 25 = sym (home_is pr a x e).at ∙ (some_is x (InReg 25) f) in cc
  one_spot saved (reg b) x e f = let g : InReg 16 ≡ InReg b = sym (some_is x (InReg 16) e) ∙ (reg_is pr b x f).0 in let h : 16 ≡ b = cc in let m = (reg_is pr b x f).1 in absurd (omega (arith, h, m))
  one_spot saved (home b) x e f = let g : InReg 16 ≡ InSlot (pr.outs + suc (home_is pr b x f).rank) = sym (some_is x (InReg 16) e) ∙ (home_is pr b x f).at in cc
  one_spot saved saved x e f = refl
  one_spot saved (out b) x e f = let g : InReg 16 ≡ InSlot b = sym (some_is x (InReg 16) e) ∙ (out_is pr b x f).0 in cc
  one_spot saved target x e f = let g : InReg 16 ≡ InReg 25 = sym (some_is x (InReg 16) e) ∙ (some_is x (InReg 25) f) in cc
  one_spot (out a) (reg b) x e f = let g : InSlot a ≡ InReg b = sym (out_is pr a x e).0 ∙ (reg_is pr b x f).0 in cc
  one_spot (out a) (home b) x e f = let g : InSlot a ≡ InSlot (pr.outs + suc (home_is pr b x f).rank) = sym (out_is pr a x e).0 ∙ (home_is pr b x f).at in let h : a ≡ (pr.outs + suc (home_is pr b x f).rank) = cc in let l = (out_is pr a x e).1 in absurd (omega (arith, h, l))
  one_spot (out a) saved x e f = let g : InSlot a ≡ InReg 16 = sym (out_is pr a x e).0 ∙ (some_is x (InReg 16) f) in cc
  one_spot (out a) (out b) x e f = let g : InSlot a ≡ InSlot b = sym (out_is pr a x e).0 ∙ (out_is pr b x f).0 in let h : a ≡ b = cc in ap out h
  one_spot (out a) target x e f = let g : InSlot a ≡ InReg 25 = sym (out_is pr a x e).0 ∙ (some_is x (InReg 25) f) in cc
  one_spot target (reg b) x e f = let g : InReg 25 ≡ InReg b = sym (some_is x (InReg 25) e) ∙ (reg_is pr b x f).0 in let h : 25 ≡ b = cc in let m = (reg_is pr b x f).1 in absurd (omega (arith, h, m))
  one_spot target (home b) x e f = let g : InReg 25 ≡ InSlot (pr.outs + suc (home_is pr b x f).rank) = sym (some_is x (InReg 25) e) ∙ (home_is pr b x f).at in cc
  one_spot target saved x e f = let g : InReg 25 ≡ InReg 16 = sym (some_is x (InReg 25) e) ∙ (some_is x (InReg 16) f) in cc
  one_spot target (out b) x e f = let g : InReg 25 ≡ InSlot b = sym (some_is x (InReg 25) e) ∙ (out_is pr b x f).0 in cc
  one_spot target target x e f = refl

  module _ (code : List ℕ) (keeps_small : (a b : State) (w : List ℕ) → Numbers a → step_of code a ≡ Moves w b → Numbers b) (frame : ℕ) (low : ℕ) (w : World) where
    pub record Copied (k n : ℕ) (s : Area) (a : State) (c : Spot → ℕ) : Type 0 where
      pub after : State
      pub stack : Area
      pub passed : Passed code keeps_small frame low (slots_of pr) k n w stack a after
      pub is : (p : Spot) → content pr stack low after.registers p ≡ c p
      pub outside : (q : ℕ) → (q ≡ low + 8 * pr.outs) ⊎ (low + 8 * slots_of pr ≤ q) → held stack q ≡ held s q

    pub copy_does : (k : ℕ) (s : Area) (a : State) (m : Copy) → Named pr m.to → Named pr m.from → StandAll code k (copy_word pr m) → At code keeps_small frame low (slots_of pr) k w s a → Copied k (length (copy_word pr m)) s a (copied m (content pr s low a.registers))
    copy_does k s a m to from stands at =
        let words : copy_word pr m ≡ move to.at from.at = ap₂ move_between to.is from.is in
        let r = move_does code keeps_small frame low (slots_of pr) pr.outs k w s a to.at from.at (ok_of m.to to.at to.is) (ok_of m.from from.at from.is) (subst (λ (is : List Instr). StandAll code k is) words stands) at in
        record {
          after = r.after;
          stack = r.stack;
          passed = subst (λ (n : ℕ). Passed code keeps_small frame low (slots_of pr) k n w r.stack a r.after) (ap (λ (is : List Instr). length is) (sym words)) r.passed;
          is = λ p. by_same r.stack r.after r.there r.others p (same p m.to) refl;
          outside = r.outside;
        }
      where
        other : (t : Area) (b : State) → ((x : Where) → Ok (slots_of pr) pr.outs x → same_where x to.at ≡ false → at_where t low b.registers x ≡ at_where s low a.registers x) → (p : Spot) → same p m.to ≡ false → (o : Option Where) → where_is pr p ≡ o → from_where t low b.registers o ≡ from_where s low a.registers o
        other t b others p e None i = refl
        other t b others p e (Some x) i = others x (ok_of p x i) (by_place (same_where x to.at) refl)
          where
            by_place : (d : Bool) → same_where x to.at ≡ d → same_where x to.at ≡ false
            by_place false g = g
            by_place true g = let h : p ≡ m.to = one_spot p m.to x i (to.is ∙ ap Some (sym (where_same x to.at g))) in let j : same p m.to ≡ true = ap (λ q. same q m.to) h ∙ is_same m.to in cc

        by_same : (t : Area) (b : State) → at_where t low b.registers to.at ≡ at_where s low a.registers from.at → ((x : Where) → Ok (slots_of pr) pr.outs x → same_where x to.at ≡ false → at_where t low b.registers x ≡ at_where s low a.registers x)
            → (p : Spot) (d : Bool) → same p m.to ≡ d → content pr t low b.registers p ≡ cond (same p m.to) (content pr s low a.registers m.from) (content pr s low a.registers p)
        by_same t b there others p true e =
            ap (λ q. content pr t low b.registers q) (same_is p m.to e) ∙ ap (λ o. from_where t low b.registers o) to.is ∙ there ∙ sym (ap (λ o. from_where s low a.registers o) from.is)
            ∙ sym (ap (λ d. cond d (content pr s low a.registers m.from) (content pr s low a.registers p)) e)
        by_same t b there others p false e =
            other t b others p e (where_is pr p) refl
            ∙ sym (ap (λ d. cond d (content pr s low a.registers m.from) (content pr s low a.registers p)) e)

    pub copies_do : (ms : List Copy) (k : ℕ) (s : Area) (a : State) → AllNamed pr ms → StandAll code k (copies_words pr ms) → At code keeps_small frame low (slots_of pr) k w s a → Copied k (length (copies_words pr ms)) s a (all_copied ms (content pr s low a.registers))
    copies_do [] k s a named stands at =
        let e : k ≡ k + 0 = omega arith in
        record {
          after = a;
          stack = s;
          passed = record { walk = walks-none code a; at = subst (λ (i : ℕ). At code keeps_small frame low (slots_of pr) i w s a) e at };
          is = λ p. refl;
          outside = λ q o. refl;
        }
    copies_do (m ∷ ms) k s a named stands at =
        let parts = stand_append code (copy_word pr m) (copies_words pr ms) k stands in
        let one = copy_does k s a m named.0 named.1 parts.0 at in
        let two = copies_do ms (k + length (copy_word pr m)) one.stack one.after named.2 parts.1 one.passed.at in
        let n : length (copy_word pr m) + length (copies_words pr ms) ≡ length (copy_word pr m ++ copies_words pr ms) = sym (length-append (copy_word pr m) (copies_words pr ms)) in
        let same_content : content pr one.stack low one.after.registers ≡ copied m (content pr s low a.registers) = λ i p. one.is p i in
        record {
          after = two.after;
          stack = two.stack;
          passed = subst (λ (i : ℕ). Passed code keeps_small frame low (slots_of pr) k i w two.stack a two.after) n (passed_append code keeps_small frame low (slots_of pr) k (length (copy_word pr m)) (length (copies_words pr ms)) w one.stack two.stack a one.after two.after one.passed two.passed);
          is = λ p. two.is p ∙ ap (λ (c : Spot → ℕ). all_copied ms c p) same_content;
          outside = λ q o. two.outside q o ∙ one.outside q o;
        }
