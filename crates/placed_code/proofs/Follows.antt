-- Sound lines bring what operations read: for whatever numbers come of them, each operation finds its uses.
use Rattle.std.proofs.Common.{◌≡◌, ℕ, zero, suc, List, [], ◌∷◌, ◌++◌, map, length, take, drop, Bool, true, false, cond, Option, Some, None, refl, sym, ap, ap₂, ◌∙◌, subst, append_assoc}
use Rattle.std.specs.Prelude.{slice_get}
use Rattle.std.proofs.lemmas.List.{append-nil}
use Rattle.block_runs.specs.Blocks.{Operation}
use Rattle.block_runs.specs.Valid.{is_call}
use Rattle.block_runs.specs.Steps.{define}
use Rattle.lir_core.specs.declared.places.Move.{Move}
use Rattle.lir_core.specs.declared.places.Place.{Place}
use Rattle.lir_core.specs.declared.places.Place.TheVariants.{Reg, Home, Out}
use Rattle.lir_core.specs.declared.places.Places.{Places}
use Rattle.lir_core.specs.declared.places.Line.{Line}
use Rattle.lir_core.specs.declared.places.Line.TheVariants.{Store, Load, Moves, Result, Target}
use Rattle.lir_core.specs.declared.places.Line.TheVariants.{Lir as Does}
use Rattle.lir_core.specs.Spots.{Spot, reg, home, out, target, saved, same, spot, view_of, Holds, source}
use Rattle.lir_core.specs.Lines.{is_aimed, argument_spot, argument_spots, use_spots, names, def_spot, line_source, Room, LinesInRange}
use Rattle.lir_core.specs.Walks.{kept}
use Rattle.lir_core.specs.Sound.{Running, gets, Keeps, Performs, Simulates, Ends}
use Rattle.placed_code.specs.Placed.{Copy, Cell, copied, all_copied, def_register}
use Rattle.placed_code.specs.Results.{line_copies, copies_before, lines_behind, cells_from, last_copies, last_named, IsSequence}
use Rattle.placed_code.proofs.Contents.{same_is}
use Rattle.placed_code.proofs.Relation.{Reads, AfterBy, After}

-- the same in all spots but X16
abbrev pub Agree : (Spot → ℕ) → (Spot → ℕ) → Type 0
Agree c d = (p : Spot) → same p saved ≡ false → c p ≡ d p

pub holds_agree : (V : ℕ → ℕ) (q : Places) (c d : Spot → ℕ) → Agree c d → Holds V (view_of q) d → Holds V (view_of q) c
holds_agree V q c d a h (reg r) v e = a (reg r) refl ∙ h (reg r) v e
holds_agree V q c d a h (home u) v e = a (home u) refl ∙ h (home u) v e
holds_agree V q c d a h (out s) v e = cc
holds_agree V q c d a h target v e = cc
holds_agree V q c d a h saved v e = cc

---- Copies

pub all_copied-append : (ms ns : List Copy) (c : Spot → ℕ) → all_copied (ms ++ ns) c ≡ all_copied ns (all_copied ms c)
all_copied-append [] ns c = refl
all_copied-append (m ∷ ms) ns c = all_copied-append ms ns (copied m c)

-- no place is X16
never_saved : (q : Place) → same (spot q) saved ≡ false
never_saved (Reg r) = refl
never_saved (Home v) = refl
never_saved (Out s) = refl

copy_agree : (to from : Spot) (c d : Spot → ℕ) → same from saved ≡ false → Agree c d → Agree (copied (record { to = to; from = from }) c) (λ p. d (cond (same p to) from p))
copy_agree to from c d n a p e = by_test (same p to)
  where
    by_test : (b : Bool) → cond b (c from) (c p) ≡ d (cond b from p)
    by_test true = a from n
    by_test false = a p e

source_agree : (ms : List Move) (c d : Spot → ℕ) → Agree c d → (p : Spot) → same p saved ≡ false → c (source ms p) ≡ d (source ms p)
source_agree [] c d a p e = a p e
source_agree (m ∷ ms) c d a p e = by_test (same p (spot m.to)) (source_agree ms c d a p e)
  where
    by_test : (b : Bool) → c (source ms p) ≡ d (source ms p) → c (cond b (spot m.from) (source ms p)) ≡ d (cond b (spot m.from) (source ms p))
    by_test true r = a (spot m.from) (never_saved m.from)
    by_test false r = r

---- What operations read and leave

reads_regs : (rs : List ℕ) (c d : Spot → ℕ) → Agree c d → map c (map reg rs) ≡ map d (map reg rs)
reads_regs [] c d a = refl
reads_regs (r ∷ rs) c d a = ap₂ (λ (x : ℕ) (xs : List ℕ). x ∷ xs) (a (reg r) refl) (reads_regs rs c d a)

argument_agree : (i : ℕ) (c d : Spot → ℕ) → Agree c d → c (argument_spot i) ≡ d (argument_spot i)
argument_agree zero c d a = a (reg 0) refl
argument_agree (suc zero) c d a = a (reg 1) refl
argument_agree (suc (suc zero)) c d a = a (reg 2) refl
argument_agree (suc (suc (suc zero))) c d a = a (reg 3) refl
argument_agree (suc (suc (suc (suc i)))) c d a = a (out i) refl

reads_arguments : (i : ℕ) (vs : List ℕ) (c d : Spot → ℕ) → Agree c d → map c (argument_spots i vs) ≡ map d (argument_spots i vs)
reads_arguments i [] c d a = refl
reads_arguments i (v ∷ vs) c d a = ap₂ (λ (x : ℕ) (xs : List ℕ). x ∷ xs) (argument_agree i c d a) (reads_arguments (suc i) vs c d a)

reads_agree : (op : Operation) (named : List ℕ) (c d : Spot → ℕ) → Agree c d → map c (use_spots op named) ≡ map d (use_spots op named)
reads_agree op named c d a = by_call (is_call op.code) (is_aimed op.code)
  where
    by_call : (b x : Bool) → map c (cond b (cond x (target ∷ argument_spots 0 (drop 1 op.uses)) (argument_spots 0 op.uses)) (map reg (take (length op.uses) named))) ≡ map d (cond b (cond x (target ∷ argument_spots 0 (drop 1 op.uses)) (argument_spots 0 op.uses)) (map reg (take (length op.uses) named)))
    by_call true true = ap₂ (λ (x : ℕ) (xs : List ℕ). x ∷ xs) (a target refl) (reads_arguments 0 (drop 1 op.uses) c d a)
    by_call true false = reads_arguments 0 op.uses c d a
    by_call false x = reads_regs (take (length op.uses) named) c d a

-- whatever an operation leaves, there are contents that the walk allows and that say the same
record Allows (call : Bool) (def : Option ℕ) (d : Spot) (x : ℕ) (content t : Spot → ℕ) : Type 0 where
  pub after : Spot → ℕ
  pub keeps : Keeps call content after
  pub agree : Agree t (gets def d x after)

home_kept : (p : Spot) (content t : Spot → ℕ) → ((v : ℕ) → t (home v) ≡ content (home v)) → kept true p ≡ true → t p ≡ content p
home_kept (reg r) content t h e = cc
home_kept (home v) content t h e = h v
home_kept (out s) content t h e = cc
home_kept target content t h e = cc
home_kept saved content t h e = cc

other_kept : (p : Spot) → kept false p ≡ true → same p saved ≡ false
other_kept (reg r) e = refl
other_kept (home v) e = refl
other_kept (out s) e = refl
other_kept target e = refl
other_kept saved e = cc

allows : (call : Bool) (def : Option ℕ) (d x : ℕ) (c content t : Spot → ℕ) → Agree c content → AfterBy call def d x c t → Allows call def (cond call (reg 0) (reg d)) x content t
allows true None d x c content t a h = record { after = t; keeps = λ p e. home_kept p content t (λ v. h.0 v ∙ a (home v) refl) e; agree = λ p e. refl }
allows true (Some v) d x c content t a h = record { after = t; keeps = λ p e. home_kept p content t (λ v. h.0 v ∙ a (home v) refl) e; agree = λ p e. by_test p (same p (reg 0)) refl }
  where
    by_test : (p : Spot) (b : Bool) → same p (reg 0) ≡ b → t p ≡ cond b x (t p)
    by_test p true e = ap t (same_is p (reg 0) e) ∙ h.1
    by_test p false e = refl
allows false None d x c content t a h = record { after = t; keeps = λ p e. h p (other_kept p e) ∙ a p (other_kept p e); agree = λ p e. refl }
allows false (Some v) d x c content t a h = record {
  after = λ p. cond (same p (reg d)) (content p) (t p);
  keeps = λ p e. by_place p (other_kept p e) (same p (reg d)) refl;
  agree = λ p e. by_test p (same p (reg d)) refl;
}
  where
    by_place : (p : Spot) → same p saved ≡ false → (b : Bool) → same p (reg d) ≡ b → cond b (content p) (t p) ≡ content p
    by_place p n true e = refl
    by_place p n false e = h.1 p e n ∙ a p n

    by_test : (p : Spot) (b : Bool) → same p (reg d) ≡ b → t p ≡ cond b x (cond b (content p) (t p))
    by_test p true e = ap t (same_is p (reg d) e) ∙ h.0
    by_test p false e = refl

---- A node's lines

-- each operation of the cells finds its uses, whatever they give, and then `goes`
abbrev pub Finds : ((ℕ → ℕ) → (Spot → ℕ) → Type 0) → List Cell → (ℕ → ℕ) → (Spot → ℕ) → Type 0
Finds goes [] V c = goes V c
Finds goes (cell ∷ cells) V c = Reads cell.op cell.named (all_copied cell.copies c) V × ((x : ℕ) (t : Spot → ℕ) → After cell.op (def_register cell.named cell.op) x (all_copied cell.copies c) t → Finds goes cells (define cell.op.def x V) t)

-- behind the last copies the end's uses stand in these registers, and the end places hold
pub record Final (last : List ℕ) (end : Places) (copies : List Copy) (named : List ℕ) (V : ℕ → ℕ) (c : Spot → ℕ) : Type 0 where
  pub content : Spot → ℕ
  pub agree : Agree (all_copied copies c) content
  pub uses : map (λ r. content (reg r)) named ≡ map V last
  pub places : Holds V (view_of end) content

get_drop : {A : Type 0} (xs : List A) (n : ℕ) (x : A) → slice_get xs n ≡ Some x → drop n xs ≡ x ∷ drop (suc n) xs
get_drop [] zero x e = cc
get_drop [] (suc n) x e = cc
get_drop (y ∷ xs) zero x e = let same : y ≡ x = cc in ap (λ z. z ∷ xs) same
get_drop (y ∷ xs) (suc n) x e = get_drop xs n x e

drop_all : {A : Type 0} (xs : List A) → drop (length xs) xs ≡ []
drop_all [] = refl
drop_all (x ∷ xs) = drop_all xs

module _ (steps : List Move → List Copy) (sequence : IsSequence steps) (room : Room) (ops : List Operation) (last : List ℕ) (end : Places) where
  abbrev running : ℕ → List ℕ → (ℕ → ℕ) → (Spot → ℕ) → Running
  running i named V content = record { next = i; named = named; values = V; content = content }

  abbrev Found : List Copy → List ℕ → List Operation → List Line → (ℕ → ℕ) → (Spot → ℕ) → Type 0
  Found front named os lines V c = Finds (Final last end (last_copies steps front os lines) (last_named os named)) (cells_from steps front os named lines) V c

  -- a line that is a copy, in front of the others
  moves_on : (front : List Copy) (named : List ℕ) (os : List Operation) (copies : List Copy) (lines : List Line) (V : ℕ → ℕ) (c : Spot → ℕ) (l : Line) → copies_before steps (l ∷ lines) ≡ copies ++ copies_before steps lines → lines_behind (l ∷ lines) ≡ lines_behind lines
      → Found (front ++ copies) named os lines V c → Found front named os (l ∷ lines) V c
  moves_on front named [] copies lines V c l e f h =
      let same : (front ++ copies) ++ copies_before steps lines ≡ front ++ copies_before steps (l ∷ lines) = append_assoc front copies (copies_before steps lines) ∙ ap (λ (ms : List Copy). front ++ ms) (sym e) in
      subst (λ (ms : List Copy). Final last end ms named V c) same h
  moves_on front named (op ∷ os) copies lines V c l e f h =
      let same : (front ++ copies) ++ copies_before steps lines ≡ front ++ copies_before steps (l ∷ lines) = append_assoc front copies (copies_before steps lines) ∙ ap (λ (ms : List Copy). front ++ ms) (sym e) in
      let one = subst (λ (ms : List Copy). Finds (Final last end (last_copies steps [] os (lines_behind lines)) (last_named os (drop (names op) named))) (record { copies = ms; op = op; named = named } ∷ cells_from steps [] os (drop (names op) named) (lines_behind lines)) V c) same h in
      subst (λ (ls : List Line). Finds (Final last end (last_copies steps [] os ls) (last_named os (drop (names op) named))) (record { copies = front ++ copies_before steps (l ∷ lines); op = op; named = named } ∷ cells_from steps [] os (drop (names op) named) ls) V c) (sym f) one

  -- contents behind a line that is a copy
  behind_copies : (front copies : List Copy) (l : Line) (c content : Spot → ℕ) → Agree (all_copied front c) content → ((d : Spot → ℕ) → Agree d content → Agree (all_copied copies d) (λ p. content (line_source l p))) → Agree (all_copied (front ++ copies) c) (λ p. content (line_source l p))
  behind_copies front copies l c content a on p e = ap (λ (d : Spot → ℕ). d p) (all_copied-append front copies c) ∙ on (all_copied front c) a p e

  abbrev Rec : List Line → Type 0
  Rec lines = (front : List Copy) (named : List ℕ) (i : ℕ) (V : ℕ → ℕ) (c content : Spot → ℕ) (os : List Operation) → drop i ops ≡ os → Agree (all_copied front c) content → Simulates ops lines (Ends ops last end) (running i named V content) → Found front named os lines V c

  -- an operation
  operates : (lines : List Line) → Rec lines → (j : ℕ) → Rec (Does j ∷ lines)
  operates lines rec j front named i V c content os e a sim = by_op (slice_get ops j) refl sim os e
    where
      by_op : (o : Option Operation) → slice_get ops j ≡ o → Performs o j (running i named V content) (Simulates ops lines (Ends ops last end)) → (os : List Operation) → drop i ops ≡ os → Found front named os (Does j ∷ lines) V c
      by_op None g sim os e = absurd sim
      by_op (Some op) g sim [] e = let d = get_drop ops i op (ap (slice_get ops) (sym sim.0) ∙ g) in cc
      by_op (Some op) g sim (o ∷ os) e =
          let d = get_drop ops i op (ap (slice_get ops) (sym sim.0) ∙ g) in
          let both : op ∷ drop (suc i) ops ≡ o ∷ os = sym d ∙ e in
          let same : op ≡ o = cc in
          let rest : drop (suc i) ops ≡ os = cc in
          let none : front ++ [] ≡ front = append-nil front in
          let here : Agree (all_copied (front ++ []) c) content = subst (λ (ms : List Copy). Agree (all_copied ms c) content) (sym none) a in
          subst (λ (x : Operation). Found front named (x ∷ os) (Does j ∷ lines) V c) same (
            reads_agree op named (all_copied (front ++ []) c) content here ∙ sim.2,
            λ x t after.
                let w = allows (is_call op.code) op.def (def_register named op) x (all_copied (front ++ []) c) content t here after in
                rec [] (drop (names op) named) (suc i) (define op.def x V) t (gets op.def (def_spot op named) x w.after) os rest w.agree (sim.3 x w.after w.keeps),
          )

  -- all lines
  pub finds : (lines : List Line) → LinesInRange room lines → Rec lines
  finds [] r front named i V c content [] e a sim =
      let none : front ++ [] ≡ front = append-nil front in
      record { content = content; agree = subst (λ (ms : List Copy). Agree (all_copied ms c) content) (sym none) a; uses = sim.uses; places = sim.places }
  finds [] r front named i V c content (op ∷ os) e a sim = let d = ap (λ n. drop n ops) sim.done ∙ drop_all ops in cc
  finds (Does j ∷ lines) r front named i V c content os e a sim = operates lines (finds lines r.1) j front named i V c content os e a sim
  finds (Store q v ∷ lines) r front named i V c content os e a sim =
      moves_on front named os (line_copies steps (Store q v)) lines V c (Store q v) refl refl
      (finds lines r.1 (front ++ line_copies steps (Store q v)) named i V c (λ p. content (line_source (Store q v) p)) os e (behind_copies front (line_copies steps (Store q v)) (Store q v) c content a (λ d h. copy_agree (home v) (reg q) d content refl h)) sim)
  finds (Load q v ∷ lines) r front named i V c content os e a sim =
      moves_on front named os (line_copies steps (Load q v)) lines V c (Load q v) refl refl
      (finds lines r.1 (front ++ line_copies steps (Load q v)) named i V c (λ p. content (line_source (Load q v) p)) os e (behind_copies front (line_copies steps (Load q v)) (Load q v) c content a (λ d h. copy_agree (reg q) (home v) d content refl h)) sim)
  finds (Moves ms ∷ lines) r front named i V c content os e a sim =
      moves_on front named os (line_copies steps (Moves ms)) lines V c (Moves ms) refl refl
      (finds lines r.1 (front ++ line_copies steps (Moves ms)) named i V c (λ p. content (line_source (Moves ms) p)) os e (behind_copies front (line_copies steps (Moves ms)) (Moves ms) c content a (λ d h p n. sequence.moves ms r.0.0 d p n ∙ source_agree ms d content h p n)) sim)
  finds (Result q ∷ lines) r front named i V c content os e a sim =
      moves_on front named os (line_copies steps (Result q)) lines V c (Result q) refl refl
      (finds lines r.1 (front ++ line_copies steps (Result q)) named i V c (λ p. content (line_source (Result q) p)) os e (behind_copies front (line_copies steps (Result q)) (Result q) c content a (λ d h. copy_agree (reg q) (reg 0) d content refl h)) sim)
  finds (Target from ∷ lines) r front named i V c content os e a sim =
      moves_on front named os (line_copies steps (Target from)) lines V c (Target from) refl refl
      (finds lines r.1 (front ++ line_copies steps (Target from)) named i V c (λ p. content (line_source (Target from) p)) os e (behind_copies front (line_copies steps (Target from)) (Target from) c content a (λ d h. copy_agree target (spot from) d content (never_saved from) h)) sim)
