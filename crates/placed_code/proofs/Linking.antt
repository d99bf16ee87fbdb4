-- The linked code: the words of each point stand at its place, and no word belongs to two points.
use Rattle.std.proofs.Common.{⊎_elim, get_or, map, ◌≡◌, ℕ, zero, suc, ◌+◌, ◌-◌, ◌<◌, ◌≤◌, ◌^◌, ◌==◌, List, [], ◌∷◌, ◌++◌, length, Bool, true, false, Option, Some, None, refl, arith, sym, ap, ap₂, ◌∙◌, subst, length-append, append_assoc}
use Rattle.std.specs.Prelude.{if◌then◌else◌, drop, slice_get, flat_map}
use Rattle.std.proofs.lemmas.List.{append-nil}
use Rattle.std.proofs.lemmas.Bool.Decides.{eqb_tells}
use Rattle.run_laws.specs.Runs.{weigh, Within}
use Rattle.run_laws.specs.Layers.{InRow, places_from, width_before, whole_width, spread, points_of_all}
use Rattle.run_laws.proofs.Weights.{weigh-append, weigh-flat_map}
use Rattle.run_laws.proofs.Layers.{fits_in_row}
use Rattle.run_laws.proofs.Rows.{length-spread}
use Rattle.run_laws.proofs.Rows.{width_before-zero as before_zero, width_before-next as before_next, width_before-all as before_all, InRow-append as row_append, all_in_row as rows}
use Rattle.a64_numbers.specs.Branches.{branch_field}
use Rattle.a64_numbers.specs.Moves.{constant_moves}
use Rattle.a64_numbers.specs.declared.moves.Move.{Move}
use Rattle.a64_instr.specs.declared.instr.Instr.{Instr}
use Rattle.a64_instr.specs.declared.instr.Instr.TheVariants.{Bl, Svc, Ret}
use Rattle.a64_table.specs.Decode.{cond_of}
use Rattle.a64_machine.specs.State.{address_of}
use Rattle.a64_machine.proofs.Steps.{Stands, StandAll, stand_append, AllInRange, stands_all}
use Rattle.a64_runtime.specs.Routines.{routines}
use Rattle.block_runs.specs.declared.code.Code.{Code}
use Rattle.block_runs.specs.declared.code.Code.TheVariants as kinds
use Rattle.block_runs.specs.declared.end.End.{End}
use Rattle.block_runs.specs.declared.end.End.TheVariants.{Return, Jump, Branch, Nonzero, Trap}
use Rattle.block_runs.specs.Blocks as flow
use Rattle.block_runs.specs.Blocks.{Procedure, bodies, bodies_from}
use Rattle.block_runs.specs.States.{Point, Begin, Entry, In, At}
use Rattle.block_runs.specs.Steps.{define, first_values}
use Rattle.block_runs.specs.Points as flows
use Rattle.lir_core.specs.Spots.{Spot, reg}
use Rattle.placed_code.specs.Placed.{all_copied, Cell, Block, Placed, operation, code_block, procedure, procedures, no_procedure, no_block, proc_of, block_of, use_register, def_register}
use Rattle.placed_code.specs.Words.{copies_words, slots_of, move_word, op_words, result_words, nonzero_words, last_words, jump_words, turned, branch_words, prologue, epilogue, frame_of, depth_words, frame_words, local_words, unframe_words, unlocal_words, undepth_words}
use Rattle.placed_code.specs.Layout.{op_width, cell_width, jump_width, last_width, end_width, Placing, first_of, followed, placings, position, follower, block_width, zero_first, front_width, proc_width, routines_at, procedures_at, entry, block_place, place, first_width, width, own_words, cell_words, end_words, block_words, front_words, proc_words, start_words, all_words, code_of}
use Rattle.placed_code.specs.Claims.{AllNamed, HomesFit, EndFits, OpFits, Ordered, Lands, sizes}
use Rattle.placed_code.proofs.Steps.{params_of}
use Rattle.placed_code.proofs.Rest.{drop_next}
use Rattle.placed_code.proofs.Rows.{nth_stands, width_before-le, width_before-whole, width_before-lt, LastIsWide}
use Rattle.placed_code.proofs.Orders.{sum, sum_of, sum_listed, weigh_all}
use Rattle.placed_code.proofs.Slots.{load_size}
use Rattle.placed_code.proofs.Operations.{some_words}
use Rattle.placed_code.proofs.Relation.{Linked, start, Reads, After, Enterable, BodyStands, Standing, Leaves, Ready, part_place, part_width, words}

---- Lists

pub get_of_drop : {A : Type 0} (xs : List A) (n : ℕ) (d x : A) (rest : List A) → drop n xs ≡ x ∷ rest → get_or xs n d ≡ x
get_of_drop [] zero d x rest e = cc
get_of_drop [] (suc n) d x rest e = cc
get_of_drop (y ∷ xs) zero d x rest e = cc
get_of_drop (y ∷ xs) (suc n) d x rest e = get_of_drop xs n d x rest e

pub record Nth {A : Type 0} (xs : List A) (n : ℕ) : Type 0 where
  pub item : A
  pub rest : List A
  pub drops : drop n xs ≡ item ∷ rest

pub nth : {A : Type 0} (xs : List A) (n : ℕ) → n < length xs → Nth xs n
nth [] n l = absurd (omega (arith, l))
nth (x ∷ xs) zero l = record { item = x; rest = xs; drops = refl }
nth (x ∷ xs) (suc n) l = let r = nth xs n (omega (arith, l)) in record { item = r.item; rest = r.rest; drops = r.drops }

---- The order of blocks

pub drop_followed : (none : ℕ) (order : List ℕ) (n b : ℕ) (rest : List ℕ) → drop n order ≡ b ∷ rest → drop n (followed none order) ≡ record { number = b; next = first_of none rest } ∷ followed none rest
drop_followed none [] zero b rest e = cc
drop_followed none [] (suc n) b rest e = cc
drop_followed none (c ∷ cs) zero b rest e = let same : c ≡ b = cc in let others : cs ≡ rest = cc in ap₂ (λ (x : ℕ) (xs : List ℕ). record { number = x; next = first_of none xs } ∷ followed none xs) same others
drop_followed none (c ∷ cs) (suc n) b rest e = drop_followed none cs n b rest e

drop_past : (none : ℕ) (order : List ℕ) (n : ℕ) → drop n order ≡ [] → drop n (followed none order) ≡ []
drop_past none [] zero e = refl
drop_past none [] (suc n) e = refl
drop_past none (c ∷ cs) zero e = cc
drop_past none (c ∷ cs) (suc n) e = drop_past none cs n e

pub length_followed : (none : ℕ) (order : List ℕ) → length (followed none order) ≡ length order
length_followed none [] = refl
length_followed none (c ∷ cs) = ap suc (length_followed none cs)

at_position : (order : List ℕ) (b : ℕ) → position order b < length order → (rest : List ℕ) × (drop (position order b) order ≡ b ∷ rest)
at_position [] b l = absurd (omega (arith, l))
at_position (c ∷ cs) b l = by_test (λ z. at_position cs b z) (c == b) refl l
  where
    same_numbers : (c == b) ≡ true → c ≡ b
    same_numbers h = ⊎_elim (λ t. t.1) (λ f. let wrong = f.0 in cc) (eqb_tells c b)

    by_test : (position cs b < length cs → (rest : List ℕ) × (drop (position cs b) cs ≡ b ∷ rest)) → (t : Bool) → (c == b) ≡ t → (if t then 0 else suc (position cs b)) < suc (length cs) → (rest : List ℕ) × (drop (if t then 0 else suc (position cs b)) (c ∷ cs) ≡ b ∷ rest)
    by_test on true h l = (cs, ap (λ x. x ∷ cs) (same_numbers h))
    by_test on false h l = on (omega (arith, l))

drop_long : {A : Type 0} (xs : List A) (n : ℕ) → length xs ≤ n → drop n xs ≡ []
drop_long [] zero l = refl
drop_long [] (suc n) l = refl
drop_long (x ∷ xs) zero l = absurd (omega (arith, l))
drop_long (x ∷ xs) (suc n) l = drop_long xs n (omega (arith, l))

pub drop_lt : {A : Type 0} (xs : List A) (n : ℕ) (x : A) (rest : List A) → drop n xs ≡ x ∷ rest → n < length xs
drop_lt [] zero x rest e = cc
drop_lt [] (suc n) x rest e = cc
drop_lt (y ∷ ys) zero x rest e = omega arith
drop_lt (y ∷ ys) (suc n) x rest e = let r = drop_lt ys n x rest e in omega (arith, r)

---- Sizes

pub jump_size : (b : Bool) (k t : ℕ) → length (jump_words b k t) ≡ jump_width b
jump_size true k t = refl
jump_size false k t = refl

length_map : (g : Move → Instr) (ms : List Move) → length (map g ms) ≡ length ms
length_map g [] = refl
length_map g (m ∷ ms) = ap suc (length_map g ms)

pub op_size : (e : ℕ → ℕ) (start slots k : ℕ) (code : Code) (a b c d : ℕ) → length (op_words e start slots k code a b c d) ≡ op_width slots code
op_size e start slots k (kinds.Const n) a b c d = length_map (move_word d) (constant_moves n) ∙ sym (length_map (move_word 0) (constant_moves n))
op_size e start slots k (kinds.Arg i) a b c d = load_size d (slots + (i - 4)) ∙ sym (load_size 0 (slots + (i - 4)))
op_size e start slots k code a b c d = refl

branch_size : (b d : Bool) (k : ℕ) (c : _) (one other : ℕ) → length (branch_words b d k c one other) ≡ (if b then 1 else (1 + jump_width d))
branch_size true d k c one other = refl
branch_size false d k c one other = let s = jump_size d (suc k) other in omega (arith, s)

nonzero_size : (b d : Bool) (k a one other : ℕ) → length (nonzero_words b d k a one other) ≡ (if b then 1 else (1 + jump_width d))
nonzero_size true d k a one other = refl
nonzero_size false d k a one other = let s = jump_size d (suc k) other in omega (arith, s)

result_size : (x : Option ℕ) (a : ℕ) → length (result_words x a) ≡ length (result_words x 0)
result_size None a = refl
result_size (Some x) a = refl

pub last_size : (n : ℕ) (g : ℕ → ℕ) (pr : Placed) (k : ℕ) (last : End) (a b : ℕ) → length (last_words n g pr k last a b) ≡ last_width n pr last
last_size n g pr k (Return x) a b = length-append (result_words x a) (epilogue pr) ∙ ap (λ m. m + length (epilogue pr)) (result_size x a)
last_size n g pr k (Jump to args) a b = jump_size (to == n) k (g to)
last_size n g pr k (Branch c x y one other) a b = let s = branch_size (turned n one other) (other == n) (suc k) (cond_of c) (g one) (g other) in omega (arith, s)
last_size n g pr k (Nonzero x one other) a b = nonzero_size (turned n one other) (other == n) k a (g one) (g other)
last_size n g pr k (Trap kind) a b = refl

-- an end that doesn't fall through has a word
last_wide : (n : ℕ) (pr : Placed) (end : End) → Lands n end → 0 < last_width n pr end
last_wide n pr (Return x) lands = let s = length-append (result_words x 0) (epilogue pr) in let t = length-append (unframe_words (frame_of pr) pr.outs) (unlocal_words pr.cells pr.bytes ++ (undepth_words pr.counted ++ Ret 30 ∷ [])) in omega (arith, t)
last_wide n pr (Jump to args) lands = by_test (to == n) refl
  where
    by_test : (b : Bool) → (to == n) ≡ b → 0 < jump_width b
    by_test true e = let same : to ≡ n = ⊎_elim (λ t. t.1) (λ f. let wrong = f.0 in cc) (eqb_tells to n) in absurd (omega (arith, same, lands))
    by_test false e = omega arith
last_wide n pr (Branch c x y one other) lands = omega arith
last_wide n pr (Nonzero x one other) lands = by_test (turned n one other)
  where
    by_test : (b : Bool) → 0 < (if b then 1 else (1 + jump_width (other == n)))
    by_test true = omega arith
    by_test false = omega arith
last_wide n pr (Trap kind) lands = omega arith

-- the blocks of a procedure end in words
last_block_wide : (pr : Placed) → ((b : ℕ) → Lands (length pr.blocks) (block_of pr b).end) → (j : ℕ) (order : List ℕ) → LastIsWide (block_width pr) j (followed (length pr.blocks) order)
last_block_wide pr lands j [] = tt
last_block_wide pr lands j (b ∷ []) = let w = last_wide (length pr.blocks) pr (block_of pr b).end (lands b) in omega (arith, w)
last_block_wide pr lands j (b ∷ (c ∷ cs)) = last_block_wide pr lands (suc j) (c ∷ cs)

---- The modules' bodies

pub length_start : (e : ℕ → ℕ) (k : ℕ) (bs : List ℕ) → length (start_words e k bs) ≡ suc (length bs)
length_start e k [] = refl
length_start e k (b ∷ bs) = ap suc (length_start e (suc k) bs)

record Entered (code : List ℕ) (e : ℕ → ℕ) (k p : ℕ) : Type 0 where
  pub near : k < 2 ^ 18
  pub stands : Stands code k (Bl (branch_field 26 (address_of k) (address_of (e p))))

start_stands : (code : List ℕ) (e : ℕ → ℕ) (k : ℕ) (bs : List ℕ) → StandAll code k (start_words e k bs) → (j p : ℕ) → slice_get bs j ≡ Some p → Entered code e (k + j) p
start_stands code e k [] s j p is = cc
start_stands code e k (b ∷ bs) s zero p is =
    let same : b ≡ p = cc in let z : k ≡ k + 0 = omega arith in
    subst (λ m. Entered code e m p) z (subst (λ q. Entered code e k q) same (record { near = s.0; stands = s.1 }))
start_stands code e k (b ∷ bs) s (suc j) p is = let z : suc k + j ≡ k + suc j = omega arith in subst (λ m. Entered code e m p) z (start_stands code e (suc k) bs s.2 j p is)

last_stands : (code : List ℕ) (e : ℕ → ℕ) (k : ℕ) (bs : List ℕ) → StandAll code k (start_words e k bs) → Stands code (k + length bs) (Svc 0)
last_stands code e k [] s = let z : k ≡ k + 0 = omega arith in subst (λ m. Stands code m (Svc 0)) z s.1
last_stands code e k (b ∷ bs) s = let z : suc k + length bs ≡ k + suc (length bs) = omega arith in subst (λ m. Stands code m (Svc 0)) z (last_stands code e (suc k) bs s.2)

-- a body is a procedure whose calls aren't counted
record IsBody (k p : ℕ) (qs : List Placed) : Type 0 where
  pub low : k ≤ p
  pub high : p < k + length qs
  pub uncounted : (get_or qs (p - k) no_procedure).counted ≡ false

later_body : (k p : ℕ) (q : Placed) (qs : List Placed) → IsBody (suc k) p qs → IsBody k p (q ∷ qs)
later_body k p q qs r =
    let low = r.low in let high = r.high in
    let n : p - k ≡ suc (p - suc k) = omega (arith, low) in
    record { low = omega (arith, low); high = omega (arith, high); uncounted = ap (λ m. (get_or (q ∷ qs) m no_procedure).counted) n ∙ r.uncounted }

body_is : (k : ℕ) (qs : List Placed) (j p : ℕ) → slice_get (bodies_from k (procedures qs)) j ≡ Some p → IsBody k p qs
body_is k [] j p e = cc
body_is k (q ∷ qs) j p e = by_counted (λ i h. body_is (suc k) qs i p h) q.counted refl j e
  where
    by_counted : ((i : ℕ) → slice_get (bodies_from (suc k) (procedures qs)) i ≡ Some p → IsBody (suc k) p qs) → (b : Bool) → q.counted ≡ b → (j : ℕ) → slice_get (if b then bodies_from (suc k) (procedures qs) else (k ∷ bodies_from (suc k) (procedures qs))) j ≡ Some p → IsBody k p (q ∷ qs)
    by_counted on true c j e = later_body k p q qs (on j e)
    by_counted on false c zero e =
        let same : k ≡ p = cc in let n : p - k ≡ 0 = omega (arith, same) in
        record { low = omega (arith, same); high = omega (arith, same); uncounted = ap (λ m. (get_or (q ∷ qs) m no_procedure).counted) n ∙ c }
    by_counted on false c (suc j) e = later_body k p q qs (on j e)

module _ (ps : List Placed) where
  cell_size : (pr : Placed) (j k : ℕ) (cell : Cell) → length (cell_words ps pr j k cell) ≡ cell_width pr j cell
  cell_size pr j k cell = length-append (copies_words pr cell.copies) (own_words (entry ps) (routines_at ps) (slots_of pr) (k + length (copies_words pr cell.copies)) cell.op cell.named) ∙ ap (λ m. length (copies_words pr cell.copies) + m) (op_size (entry ps) (routines_at ps) (slots_of pr) (k + length (copies_words pr cell.copies)) cell.op.code (use_register cell.named 0) (use_register cell.named 1) (use_register cell.named 2) (def_register cell.named cell.op))

  end_size : (p : ℕ) (pr : Placed) (n k : ℕ) (bl : Block) → length (end_words ps p pr n k bl) ≡ end_width pr n bl
  end_size p pr n k bl =
      length-append (copies_words pr bl.copies) (last_words n (λ t. place ps p t 0) pr (k + length (copies_words pr bl.copies)) bl.end bl.a bl.b)
      ∙ ap (λ m. length (copies_words pr bl.copies) + m) (last_size n (λ t. place ps p t 0) pr (k + length (copies_words pr bl.copies)) bl.end bl.a bl.b)

  block_size : (p : ℕ) (pr : Placed) (j k : ℕ) (at : Placing) → length (block_words ps p pr j k at) ≡ block_width pr j at
  block_size p pr j k at =
      let bl = block_of pr at.number in
      length-append (spread (cell_words ps pr) (cell_width pr) 0 k bl.body) (end_words ps p pr at.next (k + whole_width (cell_width pr) 0 bl.body) bl)
      ∙ ap₂ (λ m n. m + n) (length-spread (cell_words ps pr) (cell_width pr) (cell_size pr) 0 k bl.body) (end_size p pr at.next (k + whole_width (cell_width pr) 0 bl.body) bl)

  front_size : (p : ℕ) (pr : Placed) (k : ℕ) → length (front_words ps p pr k) ≡ front_width pr
  front_size p pr k =
      let jump = jump_words (zero_first pr) (k + (length (prologue pr) + length (copies_words pr pr.copies))) (place ps p 0 0) in
      length-append (prologue pr) (copies_words pr pr.copies ++ jump) ∙ ap (λ m. length (prologue pr) + m) (length-append (copies_words pr pr.copies) jump ∙ ap (λ m. length (copies_words pr pr.copies) + m) (jump_size (zero_first pr) (k + (length (prologue pr) + length (copies_words pr pr.copies))) (place ps p 0 0)))

  proc_size : (p k : ℕ) (pr : Placed) → length (proc_words ps p k pr) ≡ proc_width p pr
  proc_size p k pr =
      length-append (front_words ps p pr k) (spread (block_words ps p pr) (block_width pr) 0 (k + front_width pr) (placings pr))
      ∙ ap₂ (λ m n. m + n) (front_size p pr k) (length-spread (block_words ps p pr) (block_width pr) (block_size p pr) 0 (k + front_width pr) (placings pr))

  pub all_size : length (all_words ps) ≡ procedures_at ps + whole_width proc_width 0 ps
  all_size =
      let s = length-spread (proc_words ps) proc_width proc_size 0 (procedures_at ps) ps in
      let t = length-append (start_words (entry ps) 0 (bodies (procedures ps))) (routines ++ spread (proc_words ps) proc_width 0 (procedures_at ps) ps) in
      let u = length_start (entry ps) 0 (bodies (procedures ps)) in
      omega (arith, s, t, u)

  module _ (frame : ℕ) (few : length (all_words ps) ≤ 2 ^ 18) (in_table : AllInRange (all_words ps)) (orders : (q : ℕ) → q < length ps → Ordered (proc_of ps q)) where
    abbrev pub linked : Linked
    linked = record { code = code_of ps; frame = frame; bodies = bodies (procedures ps); procs = ps; entry = entry ps; entry_width = λ p. front_width (proc_of ps p); size = sizes ps; place = place ps; width = width ps; follower = λ p b. follower (proc_of ps p) b }

    all_stand : StandAll (code_of ps) 0 (all_words ps)
    all_stand = stands_all (all_words ps) few in_table

    -- the start, and what stands behind it
    starts : StandAll (code_of ps) 0 (start_words (entry ps) 0 (bodies (procedures ps)))
    starts = (stand_append (code_of ps) (start_words (entry ps) 0 (bodies (procedures ps))) (routines ++ spread (proc_words ps) proc_width 0 (procedures_at ps) ps) 0 all_stand).0

    behind_start : StandAll (code_of ps) (routines_at ps) (routines ++ spread (proc_words ps) proc_width 0 (procedures_at ps) ps)
    behind_start =
        let first = start_words (entry ps) 0 (bodies (procedures ps)) in
        let n = length_start (entry ps) 0 (bodies (procedures ps)) in
        let z : 0 + length first ≡ routines_at ps = omega (arith, n) in
        subst (λ k. StandAll (code_of ps) k (routines ++ spread (proc_words ps) proc_width 0 (procedures_at ps) ps)) z (stand_append (code_of ps) first (routines ++ spread (proc_words ps) proc_width 0 (procedures_at ps) ps) 0 all_stand).1

    both : StandAll (code_of ps) (routines_at ps) routines × StandAll (code_of ps) (procedures_at ps) (spread (proc_words ps) proc_width 0 (procedures_at ps) ps)
    both = stand_append (code_of ps) routines (spread (proc_words ps) proc_width 0 (procedures_at ps) ps) (routines_at ps) behind_start

    entry_low : (p : ℕ) → entry ps p ≤ 2 ^ 18
    entry_low p = let s = all_size in let w = width_before-whole proc_width 0 ps p in omega (arith, s, w, few)

    -- one procedure
    record ProcStands (p : ℕ) : Type 0 where
      pub front : StandAll (code_of ps) (entry ps p) (front_words ps p (proc_of ps p) (entry ps p))
      pub tail : List Instr
      pub blocks : StandAll (code_of ps) (entry ps p + front_width (proc_of ps p)) (spread (block_words ps p (proc_of ps p)) (block_width (proc_of ps p)) 0 (entry ps p + front_width (proc_of ps p)) (placings (proc_of ps p)) ++ tail)
      pub low : entry ps p + proc_width p (proc_of ps p) ≤ 2 ^ 18

    proc_stands : (p : ℕ) → p < length ps → ProcStands p
    proc_stands p l =
        let t = nth ps p l in
        let pr = proc_of ps p in
        let is : pr ≡ t.item = get_of_drop ps p no_procedure t.item t.rest t.drops in
        let tail = spread (proc_words ps) proc_width (suc (0 + p)) (entry ps p + proc_width (0 + p) t.item) t.rest ++ [] in
        let got = nth_stands (code_of ps) (proc_words ps) proc_width proc_size 0 (procedures_at ps) ps [] p t.item t.rest t.drops (subst (λ ws. StandAll (code_of ps) (procedures_at ps) ws) (sym (append-nil (spread (proc_words ps) proc_width 0 (procedures_at ps) ps))) both.1) in
        let z : 0 + p ≡ p = omega arith in
        let got' : StandAll (code_of ps) (entry ps p) (proc_words ps p (entry ps p) pr ++ tail) = subst (λ a. StandAll (code_of ps) (entry ps p) (proc_words ps p (entry ps p) a ++ tail)) (sym is) (subst (λ m. StandAll (code_of ps) (entry ps p) (proc_words ps m (entry ps p) t.item ++ tail)) z got) in
        let blocks = spread (block_words ps p pr) (block_width pr) 0 (entry ps p + front_width pr) (placings pr) in
        let front = front_words ps p pr (entry ps p) in
        let split = stand_append (code_of ps) front (blocks ++ tail) (entry ps p) (subst (λ ws. StandAll (code_of ps) (entry ps p) ws) (append_assoc front blocks tail) got') in
        let size : entry ps p + length front ≡ entry ps p + front_width pr = ap (λ m. entry ps p + m) (front_size p pr (entry ps p)) in
        let bound = width_before-le proc_width 0 ps p t.item t.rest t.drops in
        let w1 = ap₂ (λ m a. proc_width m a) z (sym is) in
        let s = all_size in
        record { front = split.0; tail = tail; blocks = subst (λ m. StandAll (code_of ps) m (blocks ++ tail)) size split.1; low = omega (arith, bound, w1, s, few) }

    -- a block's number with its follower
    abbrev placed : Placed → ℕ → Placing
    placed pr b = record { number = b; next = follower pr b }

    record PlacedAt (pr : Placed) (b : ℕ) : Type 0 where
      pub rest : List Placing
      pub drops : drop (position pr.order b) (placings pr) ≡ placed pr b ∷ rest

    placed_at : (pr : Placed) → Ordered pr → (b : ℕ) → b < length pr.blocks → PlacedAt pr b
    placed_at pr ordered b l =
        let at = at_position pr.order b (ordered.all b l) in
        let d = drop_followed (length pr.blocks) pr.order (position pr.order b) b at.0 at.1 in
        let n : first_of (length pr.blocks) at.0 ≡ follower pr b = ap (λ (xs : List ℕ). first_of (length pr.blocks) xs) (sym (drop_next pr.order (position pr.order b) b at.0 at.1)) in
        record { rest = followed (length pr.blocks) at.0; drops = d ∙ ap (λ m. record { number = b; next = m } ∷ followed (length pr.blocks) at.0) n }

    -- one block of it
    record BlockStands (p b : ℕ) : Type 0 where
      pub tail : List Instr
      pub stands : StandAll (code_of ps) (block_place ps p b) (block_words ps p (proc_of ps p) 0 (block_place ps p b) (placed (proc_of ps p) b) ++ tail)
      pub next : block_place ps p (follower (proc_of ps p) b) ≡ block_place ps p b + block_width (proc_of ps p) 0 (placed (proc_of ps p) b)
      pub low : entry ps p + proc_width p (proc_of ps p) ≤ 2 ^ 18
      pub inside : block_place ps p b + block_width (proc_of ps p) 0 (placed (proc_of ps p) b) ≤ entry ps p + proc_width p (proc_of ps p)

    block_stands : (p b : ℕ) → p < length ps → b < length (proc_of ps p).blocks → BlockStands p b
    block_stands p b l m =
        let whole = proc_stands p l in
        let pr = proc_of ps p in
        let at = position pr.order b in
        let t = placed_at pr (orders p l) b m in
        let got = nth_stands (code_of ps) (block_words ps p pr) (block_width pr) (block_size p pr) 0 (entry ps p + front_width pr) (placings pr) whole.tail at (placed pr b) t.rest t.drops whole.blocks in
        let k = block_place ps p b in
        let tail = spread (block_words ps p pr) (block_width pr) (suc (0 + at)) (k + block_width pr (0 + at) (placed pr b)) t.rest ++ whole.tail in
        let n = before_next (block_width pr) 0 (placings pr) at (placed pr b) t.rest t.drops in
        let bound = width_before-le (block_width pr) 0 (placings pr) at (placed pr b) t.rest t.drops in
        let h = whole.low in
        record {
          tail = tail;
          stands = got;
          next = ap (λ x. entry ps p + front_width pr + x) (next_before pr (orders p l) b m) ∙ omega (arith, n);
          low = h;
          inside = omega (arith, bound);
        }
      where
        -- what stands width_before the follower is what stands width_before the next place in the order
        next_before : (pr : Placed) → Ordered pr → (b : ℕ) → b < length pr.blocks → width_before (block_width pr) 0 (placings pr) (position pr.order (follower pr b)) ≡ width_before (block_width pr) 0 (placings pr) (suc (position pr.order b))
        next_before pr ordered b m = by_rest (drop (suc (position pr.order b)) pr.order) refl
          where
            by_rest : (xs : List ℕ) → drop (suc (position pr.order b)) pr.order ≡ xs → width_before (block_width pr) 0 (placings pr) (position pr.order (first_of (length pr.blocks) xs)) ≡ width_before (block_width pr) 0 (placings pr) (suc (position pr.order b))
            by_rest (x ∷ xs) e = ap (λ i. width_before (block_width pr) 0 (placings pr) i) (ordered.once (suc (position pr.order b)) x xs e)
            by_rest [] e =
                let far = drop_long pr.order (position pr.order (length pr.blocks)) ordered.none in
                before_all (block_width pr) 0 (placings pr) (position pr.order (length pr.blocks)) (drop_past (length pr.blocks) pr.order (position pr.order (length pr.blocks)) far)
                ∙ sym (before_all (block_width pr) 0 (placings pr) (suc (position pr.order b)) (drop_past (length pr.blocks) pr.order (suc (position pr.order b)) e))

    ---- What a Sound placement is

    module _ (Begins : (p b : ℕ) → (ℕ → ℕ) → (Spot → ℕ) → Type 0) where
      -- from these values and contents on, each operation finds what it uses, whatever it gives
      abbrev pub Follows : ℕ → Block → List Cell → (ℕ → ℕ) → (Spot → ℕ) → Type 0
      Follows p bl [] V c = AllNamed (proc_of ps p) bl.copies × EndFits bl.end bl.a bl.b × Leaves linked Begins p bl.end bl.a bl.b V (all_copied bl.copies c)
      Follows p bl (cell ∷ cells) V c = AllNamed (proc_of ps p) cell.copies × ((args : ℕ) × OpFits (proc_of ps p) args cell.op cell.named) × Reads cell.op cell.named (all_copied cell.copies c) V
          × ((x : ℕ) (t : Spot → ℕ) → After cell.op (def_register cell.named cell.op) x (all_copied cell.copies c) t → Follows p bl cells (define cell.op.def x V) t)

      pub record ProcOk (q : ℕ) : Type 0 where
        pub fits : HomesFit (proc_of ps q)
        pub named : AllNamed (proc_of ps q) (proc_of ps q).copies
        pub frame_fits : frame_of (proc_of ps q) ≤ frame
        pub cells : ((proc_of ps q).cells < 2 ^ 64) × ((proc_of ps q).bytes < 2 ^ 24)
        pub begins : (args : List ℕ) (c : Spot → ℕ) → length (params_of (proc_of ps q)) ≤ length args → ((i : ℕ) → i < 4 → i < length args → c (reg i) ≡ get_or args i 0)
            → Begins q 0 (first_values (procedure (proc_of ps q)) args) (all_copied (proc_of ps q).copies c)

      pub record Sound : Type 0 where
        pub procs : (q : ℕ) → q < length ps → ProcOk q
        pub none : (q : ℕ) → q < length ps → (proc_of ps q).counted ≡ false → length (params_of (proc_of ps q)) ≤ 0
        pub lands : (q b : ℕ) → q < length ps → Lands (length (proc_of ps q).blocks) (block_of (proc_of ps q) b).end
        pub blocks : (p b : ℕ) (V : ℕ → ℕ) (c : Spot → ℕ) → Begins p b V c → (p < length ps) × (b < length (proc_of ps p).blocks) × Follows p (block_of (proc_of ps p) b) (block_of (proc_of ps p) b).body V c

      module _ (sound : Sound) where
        first_place : (q : ℕ) → zero_first (proc_of ps q) ≡ true → place ps q 0 0 ≡ entry ps q + (length (prologue (proc_of ps q)) + length (copies_words (proc_of ps q) (proc_of ps q).copies))
        first_place q t = by_order (proc_of ps q).order refl
          where
            by_order : (order : List ℕ) → (proc_of ps q).order ≡ order → place ps q 0 0 ≡ entry ps q + (length (prologue (proc_of ps q)) + length (copies_words (proc_of ps q) (proc_of ps q).copies))
            by_order [] e =
                let pr = proc_of ps q in
                let none : width_before (block_width pr) 0 (placings pr) (position pr.order 0) ≡ 0 = ap (λ (xs : List ℕ). width_before (block_width pr) 0 (followed (length pr.blocks) xs) (position xs 0)) e in
                let z2 = before_zero (cell_width pr) 0 (block_of pr 0).body in
                let j : jump_width (zero_first pr) ≡ 0 = ap jump_width t in
                omega (arith, none, z2, j)
            by_order (c ∷ cs) e =
                let pr = proc_of ps q in
                let here : (c == 0) ≡ true = sym (ap (λ (xs : List ℕ). first_of (length pr.blocks) xs == 0) e) ∙ t in
                let at : position pr.order 0 ≡ 0 = ap (λ (xs : List ℕ). position xs 0) e ∙ ap (λ b. if b then 0 else suc (position cs 0)) here in
                let z1 = before_zero (block_width pr) 0 (placings pr) in
                let z1' = ap (λ i. width_before (block_width pr) 0 (placings pr) i) at in
                let z2 = before_zero (cell_width pr) 0 (block_of pr 0).body in
                let j : jump_width (zero_first pr) ≡ 0 = ap jump_width t in
                omega (arith, z1, z1', z2, j)

        pub enterable : (q : ℕ) → q < length ps → Enterable linked Begins q
        enterable q l =
            let ok = sound.procs q l in
            let st = proc_stands q l in
            let pr = proc_of ps q in
            let h = st.low in
            record {
              known = l;
              fits = ok.fits;
              low = let u = length-append (depth_words pr.counted) (frame_words (frame_of pr) pr.outs ++ local_words pr.cells pr.bytes) in let v = length-append (frame_words (frame_of pr) pr.outs) (local_words pr.cells pr.bytes) in omega (arith, h, u, v);
              falls = zero_first pr;
              stands = st.front;
              width = ap (λ m. length (prologue pr) + (length (copies_words pr pr.copies) + m)) (sym (jump_size (zero_first pr) (entry ps q + (length (prologue pr) + length (copies_words pr pr.copies))) (place ps q 0 0)));
              first = λ t. first_place q t;
              inside = omega arith;
              named = ok.named;
              frame = ok.frame_fits;
              cells = ok.cells;
              begins = ok.begins;
            }

        body_stands : (j p : ℕ) → slice_get (bodies (procedures ps)) j ≡ Some p → BodyStands linked Begins j p
        body_stands j p is =
            let st = start_stands (code_of ps) (entry ps) 0 (bodies (procedures ps)) starts j p is in
            let b = body_is 0 ps j p is in
            let known : p < length ps = (let h = b.high in omega (arith, h)) in
            let z : 0 + j ≡ j = omega arith in
            let y : p - 0 ≡ p = omega arith in
            let counted : (proc_of ps p).counted ≡ false = ap (λ m. (get_or ps m no_procedure).counted) (sym y) ∙ b.uncounted in
            let st' = subst (λ m. Entered (code_of ps) (entry ps) m p) z st in
            record { near = st'.near; stands = st'.stands; known = known; uncounted = counted; none = sound.none p known counted }

        pub standing : Standing linked Begins
        standing = record {
          bodies = body_stands;
          last = let z : 0 + length (bodies (procedures ps)) ≡ length (bodies (procedures ps)) = omega arith in subst (λ m. Stands (code_of ps) m (Svc 0)) z (last_stands (code_of ps) (entry ps) 0 (bodies (procedures ps)) starts);
          entries = entry_low;
          routines_end = let s = all_size in omega (arith, s, few);
          routines = both.0;
          enterable = enterable;
        }

        -- a block stands before the procedure's end
        block_low : (p b : ℕ) → p < length ps → b < length (proc_of ps p).blocks → block_place ps p b < 2 ^ 18
        block_low p b l m =
            let pr = proc_of ps p in
            let wide = last_block_wide pr (λ c. sound.lands p c l) 0 pr.order in
            let at = (orders p l).all b m in
            let n = length_followed (length pr.blocks) pr.order in
            let lt = width_before-lt (block_width pr) 0 (placings pr) (position pr.order b) wide (omega (arith, at, n)) in
            let h = (proc_stands p l).low in
            omega (arith, lt, h)

        -- so does the end of a block
        end_low : (p b : ℕ) → p < length ps → b < length (proc_of ps p).blocks → (st : BlockStands p b) → place ps p b (length (block_of (proc_of ps p) b).body) < 2 ^ 18
        end_low p b l m st =
            let pr = proc_of ps p in
            let bl = block_of pr b in
            let all = before_all (cell_width pr) 0 bl.body (length bl.body) (drop_length bl.body) in
            let ins = st.inside in let h = st.low in
            by_rest (drop (suc (position pr.order b)) pr.order) refl
          where
            drop_length : (xs : List Cell) → drop (length xs) xs ≡ []
            drop_length [] = refl
            drop_length (x ∷ xs) = drop_length xs

            by_rest : (xs : List ℕ) → drop (suc (position (proc_of ps p).order b)) (proc_of ps p).order ≡ xs → place ps p b (length (block_of (proc_of ps p) b).body) < 2 ^ 18
            by_rest [] e =
                let pr = proc_of ps p in let bl = block_of pr b in
                let all = before_all (cell_width pr) 0 bl.body (length bl.body) (drop_length bl.body) in
                let none : follower pr b ≡ length pr.blocks = ap (λ (xs : List ℕ). first_of (length pr.blocks) xs) e in
                let wide = last_wide (length pr.blocks) pr bl.end (sound.lands p b l) in
                let w = ap (λ n. last_width n pr bl.end) none in
                let ins = st.inside in let h = st.low in
                omega (arith, all, ins, h, wide, w)
            by_rest (x ∷ xs) e =
                let pr = proc_of ps p in let bl = block_of pr b in
                let all = before_all (cell_width pr) 0 bl.body (length bl.body) (drop_length bl.body) in
                let n = length_followed (length pr.blocks) pr.order in
                let wide = last_block_wide pr (λ c. sound.lands p c l) 0 pr.order in
                let at = drop_lt pr.order (suc (position pr.order b)) x xs e in
                let lt = width_before-lt (block_width pr) 0 (placings pr) (suc (position pr.order b)) wide (omega (arith, at, n)) in
                let h = (proc_stands p l).low in
                let t = placed_at pr (orders p l) b m in
                let one = before_next (block_width pr) 0 (placings pr) (position pr.order b) (placed pr b) t.rest t.drops in
                omega (arith, all, lt, h, one)

        none_left : (xs : List Cell) → drop (length xs) xs ≡ []
        none_left [] = refl
        none_left (x ∷ xs) = none_left xs

        ready_of : (p b : ℕ) → p < length ps → b < length (proc_of ps p).blocks → BlockStands p b → (cells : List Cell) (i : ℕ) (V : ℕ → ℕ) (c : Spot → ℕ) → drop i (block_of (proc_of ps p) b).body ≡ cells → Follows p (block_of (proc_of ps p) b) cells V c → Ready linked Begins p (block_of (proc_of ps p) b) b i cells V c
        ready_of p b l m st [] i V c e f =
            let pr = proc_of ps p in
            let bl = block_of pr b in
            let k = block_place ps p b in
            let all = before_all (cell_width pr) 0 bl.body i e in
            let at : k + whole_width (cell_width pr) 0 bl.body ≡ place ps p b i = ap (λ m. k + m) (sym all) in
            let cells_size = length-spread (cell_words ps pr) (cell_width pr) (cell_size pr) 0 k bl.body in
            let cs = spread (cell_words ps pr) (cell_width pr) 0 k bl.body in
            let fo = follower pr b in
            let ends = end_words ps p pr fo (k + whole_width (cell_width pr) 0 bl.body) bl in
            let split = stand_append (code_of ps) cs (ends ++ st.tail) k (subst (λ ws. StandAll (code_of ps) k ws) (append_assoc cs ends st.tail) st.stands) in
            let here = stand_append (code_of ps) ends st.tail (k + length cs) split.1 in
            let here' = subst (λ m. StandAll (code_of ps) m ends) (ap (λ m. k + m) cells_size) here.0 in
            let w_is : width ps p b i ≡ end_width pr fo bl = ap (λ xs. first_width pr fo bl xs) e in
            let s = end_size p pr fo (place ps p b i) bl in
            let s' = length-append (copies_words pr bl.copies) (last_words fo (λ t. place ps p t 0) pr (place ps p b i + length (copies_words pr bl.copies)) bl.end bl.a bl.b) in
            let h = st.low in
            let n = st.next in
            let z2 = before_zero (cell_width pr) 0 (block_of pr fo).body in
            let ins = st.inside in
            let before_end = end_low p b l m st in
            let all' = before_all (cell_width pr) 0 bl.body (length bl.body) (none_left bl.body) in
            record {
              low = omega (arith, all, all', before_end);
              inside = record { known = l; from = omega arith; to = omega (arith, ins, all, w_is) };
              stands = subst (λ m. StandAll (code_of ps) m (end_words ps p pr fo m bl)) at here';
              width = w_is ∙ sym s ∙ s';
              named = f.0;
              fits = f.1;
              behind = omega (arith, n, z2, all, w_is);
              leaves = f.2;
            }
        ready_of p b l m st (cell ∷ cells) i V c e f =
            let pr = proc_of ps p in
            let bl = block_of pr b in
            let k = block_place ps p b in
            let cs = spread (cell_words ps pr) (cell_width pr) 0 k bl.body in
            let ends = end_words ps p pr (follower pr b) (k + whole_width (cell_width pr) 0 bl.body) bl in
            let got = nth_stands (code_of ps) (cell_words ps pr) (cell_width pr) (cell_size pr) 0 k bl.body (ends ++ st.tail) i cell cells e (subst (λ ws. StandAll (code_of ps) k ws) (append_assoc cs ends st.tail) st.stands) in
            let here = stand_append (code_of ps) (cell_words ps pr i (place ps p b i) cell) (spread (cell_words ps pr) (cell_width pr) (suc (0 + i)) (place ps p b i + cell_width pr i cell) cells ++ (ends ++ st.tail)) (place ps p b i) got in
            let w_is : width ps p b i ≡ cell_width pr 0 cell = ap (λ xs. first_width pr (follower pr b) bl xs) e in
            let ins = st.inside in
            let n = before_next (cell_width pr) 0 bl.body i cell cells e in
            let bound = width_before-le (cell_width pr) 0 bl.body i cell cells e in
            let h = st.low in
            let some = some_words (entry ps) (routines_at ps) (slots_of pr) (place ps p b i + length (copies_words pr cell.copies)) cell.op.code (use_register cell.named 0) (use_register cell.named 1) (use_register cell.named 2) (def_register cell.named cell.op) in
            let own = op_size (entry ps) (routines_at ps) (slots_of pr) (place ps p b i + length (copies_words pr cell.copies)) cell.op.code (use_register cell.named 0) (use_register cell.named 1) (use_register cell.named 2) (def_register cell.named cell.op) in
            record {
              low = omega (arith, h, bound, ins, w_is, some, own);
              inside = record { known = l; from = omega arith; to = omega (arith, bound, ins, w_is) };
              stands = here.0;
              width = w_is ∙ sym (ap (λ m. length (copies_words pr cell.copies) + m) own);
              behind = omega (arith, n, w_is);
              named = f.0;
              args = f.1.0;
              fits = f.1.1;
              reads = f.2;
              goes = λ x t after. ready_of p b l m st cells (suc i) (define cell.op.def x V) t (drop_next bl.body i cell cells e) (f.3 x t after);
            }

        -- so a block that may begin is ready
        pub opens : (p b : ℕ) (V : ℕ → ℕ) (c : Spot → ℕ) → Begins p b V c → Ready linked Begins p (block_of (proc_of ps p) b) b 0 (block_of (proc_of ps p) b).body V c
        opens p b V c h =
            let s = sound.blocks p b V c h in
            ready_of p b s.0 s.1 (block_stands p b s.0 s.1) (block_of (proc_of ps p) b).body 0 V c refl s.2

      ---- No word belongs to two points

      abbrev at_point : Point → ℕ
      at_point (Begin j) = j
      at_point (Entry p) = entry ps p
      at_point (In p b i) = place ps p b i
      at_point (At q) = part_place (routines_at ps) q

      abbrev of_point : Point → ℕ
      of_point (Begin j) = 1
      of_point (Entry p) = front_width (proc_of ps p)
      of_point (In p b i) = width ps p b i
      of_point (At q) = part_width q

      words_are : (q : Point) → words linked Begins q ≡ places_from (at_point q) (of_point q)
      words_are (Begin j) = refl
      words_are (Entry p) = refl
      words_are (In p b i) = refl
      words_are (At q) = refl

      -- the points in the order of the code
      abbrev placing_points : ℕ → Placed → ℕ → Placing → List Point
      placing_points p pr j at = flows.block_points p at.number (code_block (block_of pr at.number))

      abbrev proc_points : ℕ → Placed → List Point
      proc_points p pr = Entry p ∷ points_of_all (placing_points p pr) 0 (placings pr)

      abbrev code_points : List Point
      code_points = map Begin (places_from 0 (suc (length (bodies (procedures ps))))) ++ (flows.routine_points ++ points_of_all proc_points 0 ps)

      -- the operations of a block, and its end
      abbrev cell_points : ℕ → ℕ → ℕ → Cell → List Point
      cell_points p b i cell = In p b i ∷ []

      block_points_are : (p b j : ℕ) (cells : List Cell) → map (In p b) (places_from j (suc (length (map operation cells)))) ≡ points_of_all (cell_points p b) j cells ++ In p b (j + length cells) ∷ []
      block_points_are p b j [] = let z : j ≡ j + 0 = omega arith in ap (λ m. In p b m ∷ []) z
      block_points_are p b j (cell ∷ cells) =
          let z : suc j + length cells ≡ j + suc (length cells) = omega arith in
          ap (λ (ps : List Point). In p b j ∷ ps) (block_points_are p b (suc j) cells ∙ ap (λ m. points_of_all (cell_points p b) (suc j) cells ++ In p b m ∷ []) z)

      block_row : (p b : ℕ) → InRow at_point of_point (block_place ps p b) (flows.block_points p b (code_block (block_of (proc_of ps p) b))) × (weigh of_point (flows.block_points p b (code_block (block_of (proc_of ps p) b))) ≡ whole_width (cell_width (proc_of ps p)) 0 (block_of (proc_of ps p) b).body + end_width (proc_of ps p) (follower (proc_of ps p) b) (block_of (proc_of ps p) b))
      block_row p b =
          let pr = proc_of ps p in
          let bl = block_of pr b in
          let k = block_place ps p b in
          let cells = rows at_point of_point (cell_width pr) (cell_points p b) 0 k bl.body (λ n cell rest e.
          let z : 0 + n ≡ n = omega arith in
          let w_is : width ps p b n ≡ cell_width pr 0 cell = ap (λ xs. first_width pr (follower pr b) bl xs) e in
          let at' = ap (λ m. place ps p b m) z in
          let w' = ap (λ m. width ps p b m) z in
          ((at', tt), omega (arith, w', w_is))) in
          let last = 0 + length bl.body in
          let zero_more : length bl.body ≡ last = omega arith in
          let none = ap (λ m. drop m bl.body) (sym zero_more) ∙ drop_length bl.body in
          let w_last : width ps p b last ≡ end_width pr (follower pr b) bl = ap (λ xs. first_width pr (follower pr b) bl xs) none in
          let all = before_all (cell_width pr) 0 bl.body last none in
          let s = cells.1 in
          let row : InRow at_point of_point k (points_of_all (cell_points p b) 0 bl.body ++ In p b last ∷ []) = row_append at_point of_point k (points_of_all (cell_points p b) 0 bl.body) (In p b last ∷ []) cells.0 (ap (λ m. k + m) (all ∙ sym s), tt) in
          let size : weigh of_point (points_of_all (cell_points p b) 0 bl.body ++ In p b last ∷ []) ≡ whole_width (cell_width pr) 0 bl.body + end_width pr (follower pr b) bl = (let x = weigh-append of_point (points_of_all (cell_points p b) 0 bl.body) (In p b last ∷ []) in omega (arith, x, s, w_last)) in
          let same = block_points_are p b 0 bl.body in
          (subst (λ (qs : List Point). InRow at_point of_point k qs) (sym same) row, ap (weigh of_point) same ∙ size)
        where
          drop_length : (xs : List Cell) → drop (length xs) xs ≡ []
          drop_length [] = refl
          drop_length (x ∷ xs) = drop_length xs

      proc_row : (p : ℕ) → p < length ps → InRow at_point of_point (entry ps p) (proc_points p (proc_of ps p)) × (weigh of_point (proc_points p (proc_of ps p)) ≡ proc_width p (proc_of ps p))
      proc_row p l =
          let pr = proc_of ps p in
          let k = entry ps p + front_width pr in
          let ordered = orders p l in
          let bs = rows at_point of_point (block_width pr) (placing_points p pr) 0 k (placings pr) (λ n at rest e.
          let o = of_followed (length pr.blocks) pr.order n at rest e in
          let once = ordered.once n at.number o.0 o.1 in
          let r = block_row p at.number in
          let here : block_place ps p at.number ≡ k + width_before (block_width pr) 0 (placings pr) n = ap (λ i. k + width_before (block_width pr) 0 (placings pr) i) once in
          let next_is : follower pr at.number ≡ at.next =
          ap (λ i. first_of (length pr.blocks) (drop (suc i) pr.order)) once ∙ ap (λ (xs : List ℕ). first_of (length pr.blocks) xs) (drop_next pr.order n at.number o.0 o.1) ∙ sym o.2 in
          let wide = ap (λ m. whole_width (cell_width pr) 0 (block_of pr at.number).body + end_width pr m (block_of pr at.number)) next_is in
          (subst (λ m. InRow at_point of_point m (flows.block_points p at.number (code_block (block_of pr at.number)))) here r.0, r.1 ∙ wide)) in
          let s = bs.1 in
          ((refl, bs.0), omega (arith, s))
        where
          of_followed : (none : ℕ) (order : List ℕ) (n : ℕ) (at : Placing) (rest : List Placing) → drop n (followed none order) ≡ at ∷ rest → (bs : List ℕ) × (drop n order ≡ at.number ∷ bs) × (at.next ≡ first_of none bs)
          of_followed none [] zero at rest e = cc
          of_followed none [] (suc n) at rest e = cc
          of_followed none (c ∷ cs) zero at rest e = let same : record { number = c; next = first_of none cs } ≡ at = cc in (cs, ap (λ (x : Placing). x.number ∷ cs) same, sym (ap (λ (x : Placing). x.next) same))
          of_followed none (c ∷ cs) (suc n) at rest e = of_followed none cs n at rest e

      -- one word for each body, and the last
      begins_row : (j n : ℕ) → InRow at_point of_point j (map Begin (places_from j n)) × (weigh of_point (map Begin (places_from j n)) ≡ n)
      begins_row j zero = (tt, refl)
      begins_row j (suc n) = let r = begins_row (suc j) n in let s = r.1 in let z : suc j ≡ j + 1 = omega arith in ((refl, subst (λ m. InRow at_point of_point m (map Begin (places_from (suc j) n))) z r.0), omega (arith, s))

      code_row : InRow at_point of_point 0 code_points × (weigh of_point code_points ≡ length (all_words ps))
      code_row =
          let m = suc (length (bodies (procedures ps))) in
          let first = begins_row 0 m in
          let f = first.1 in
          let procs = rows at_point of_point proc_width proc_points 0 (procedures_at ps) ps (λ p pr rest e.
          let z : 0 + p ≡ p = omega arith in
          let is : proc_of ps p ≡ pr = get_of_drop ps p no_procedure pr rest e in
          let r = proc_row p (drop_lt ps p pr rest e) in
          let r0 = subst (λ (x : Placed). InRow at_point of_point (entry ps p) (proc_points p x)) is r.0 in
          let r1 = subst (λ (x : Placed). weigh of_point (proc_points p x) ≡ proc_width p x) is r.1 in
          (subst (λ m. InRow at_point of_point (entry ps p) (proc_points m pr)) (sym z) r0, subst (λ m. weigh of_point (proc_points m pr) ≡ proc_width m pr) (sym z) r1)) in
          let s = procs.1 in
          let size = all_size in
          let r = routines_at ps in
          let zero_more : r + 0 ≡ 0 + weigh of_point (map Begin (places_from 0 m)) = omega (arith, f) in
          let end : procedures_at ps ≡ 0 + weigh of_point (map Begin (places_from 0 m)) + 1 + 7 + 7 + 1 + 6 + 1 + 15 = omega (arith, f) in
          let rest : InRow at_point of_point (0 + weigh of_point (map Begin (places_from 0 m))) (flows.routine_points ++ points_of_all proc_points 0 ps) =
          (zero_more, (omega (arith, f), (omega (arith, f), (omega (arith, f), (omega (arith, f), (omega (arith, f), (omega (arith, f), subst (λ n. InRow at_point of_point n (points_of_all proc_points 0 ps)) end procs.0))))))) in
          let row = row_append at_point of_point 0 (map Begin (places_from 0 m)) (flows.routine_points ++ points_of_all proc_points 0 ps) first.0 rest in
          let w = weigh-append of_point (map Begin (places_from 0 m)) (flows.routine_points ++ points_of_all proc_points 0 ps) in
          (row, omega (arith, w, f, s, size))

      -- the flows' points, by number, weigh no more than those in the order of the code
      blocks_by_number : (g : Point → ℕ) (p : ℕ) → p < length ps → weigh g (points_of_all (flows.block_points p) 0 (map code_block (proc_of ps p).blocks)) ≤ weigh g (points_of_all (placing_points p (proc_of ps p)) 0 (placings (proc_of ps p)))
      blocks_by_number g p l =
          let pr = proc_of ps p in
          let one : ℕ → ℕ = λ b. weigh g (flows.block_points p b (code_block (block_of pr b))) in
          let numbered = weigh_all g (flows.block_points p) one 0 (map code_block pr.blocks) (λ n x rest e. of_number pr n x rest e) in
          let size = length_mapped code_block pr.blocks in
          let n = ap (λ m. sum one 0 m) size in
          let most = sum_listed one pr.order (length pr.blocks) (orders p l).all in
          let ordered = by_order pr 0 pr.order in
          omega (arith, numbered, n, most, ordered)
        where
          length_mapped : {A B : Type 0} (f : A → B) (xs : List A) → length (map f xs) ≡ length xs
          length_mapped f [] = refl
          length_mapped f (x ∷ xs) = ap suc (length_mapped f xs)

          of_mapped : (bls : List Block) (n : ℕ) (d : Block) (x : flow.CodeBlock) (rest : List flow.CodeBlock) → drop n (map code_block bls) ≡ x ∷ rest → x ≡ code_block (get_or bls n d)
          of_mapped [] zero d x rest e = cc
          of_mapped [] (suc n) d x rest e = cc
          of_mapped (bl ∷ bls) zero d x rest e = cc
          of_mapped (bl ∷ bls) (suc n) d x rest e = of_mapped bls n d x rest e

          of_number : (pr : Placed) (n : ℕ) (x : flow.CodeBlock) (rest : List flow.CodeBlock) → drop n (map code_block pr.blocks) ≡ x ∷ rest → weigh g (flows.block_points p (0 + n) x) ≡ weigh g (flows.block_points p (0 + n) (code_block (block_of pr (0 + n))))
          of_number pr n x rest e = let z : n ≡ 0 + n = omega arith in ap (λ (bl : flow.CodeBlock). weigh g (flows.block_points p (0 + n) bl)) (of_mapped pr.blocks n no_block x rest e ∙ ap (λ m. code_block (block_of pr m)) z)

          by_order : (pr : Placed) (j : ℕ) (order : List ℕ) → sum_of (λ b. weigh g (flows.block_points p b (code_block (block_of pr b)))) order ≡ weigh g (points_of_all (placing_points p pr) j (followed (length pr.blocks) order))
          by_order pr j [] = refl
          by_order pr j (b ∷ bs) =
              let r = by_order pr (suc j) bs in
              let a = weigh-append g (flows.block_points p b (code_block (block_of pr b))) (points_of_all (placing_points p pr) (suc j) (followed (length pr.blocks) bs)) in
              omega (arith, r, a)

      procs_by_number : (g : Point → ℕ) (j : ℕ) (qs : List Placed) → ((n : ℕ) (pr : Placed) (rest : List Placed) → drop n qs ≡ pr ∷ rest → (j + n < length ps) × (proc_of ps (j + n) ≡ pr)) → weigh g (points_of_all flows.procedure_points j (procedures qs)) ≤ weigh g (points_of_all proc_points j qs)
      procs_by_number g j [] each = omega arith
      procs_by_number g j (pr ∷ qs) each =
          let z : j + 0 ≡ j = omega arith in
          let here = each 0 pr qs refl in
          let known : j < length ps = (let h = here.0 in omega (arith, h)) in
          let is : proc_of ps j ≡ pr = ap (λ m. proc_of ps m) (sym z) ∙ here.1 in
          let one = subst (λ (x : Placed). weigh g (points_of_all (flows.block_points j) 0 (map code_block x.blocks)) ≤ weigh g (points_of_all (placing_points j x) 0 (placings x))) is (blocks_by_number g j known) in
          let more = procs_by_number g (suc j) qs (λ n x rest e.
          let i : j + suc n ≡ suc j + n = omega arith in
          let h = each (suc n) x rest e in
          (subst (λ m. m < length ps) i h.0, ap (λ m. proc_of ps m) (sym i) ∙ h.1)) in
          let a = weigh-append g (points_of_all (flows.block_points j) 0 (map code_block pr.blocks)) (points_of_all flows.procedure_points (suc j) (procedures qs)) in
          let b = weigh-append g (points_of_all (placing_points j pr) 0 (placings pr)) (points_of_all proc_points (suc j) qs) in
          omega (arith, one, more, a, b)

      pub fits : Within (places_from 0 (length (all_words ps))) (flat_map (words linked Begins) (flows.all_points (procedures ps)))
      fits =
          let same : words linked Begins ≡ (λ (q : Point). places_from (at_point q) (of_point q)) = λ i q. words_are q i in
          let row = code_row in
          let coded : Within (places_from 0 (length (all_words ps))) (flat_map (words linked Begins) code_points) =
          subst (λ (f : Point → List ℕ). Within (places_from 0 (length (all_words ps))) (flat_map f code_points)) (sym same) (fits_in_row at_point of_point (length (all_words ps)) code_points row.0 row.1) in
          λ h.
          let g : Point → ℕ = λ q. weigh h (words linked Begins q) in
          let c = coded h in
          let w1 = weigh-flat_map h (words linked Begins) code_points in
          let w2 = weigh-flat_map h (words linked Begins) (flows.all_points (procedures ps)) in
          let first = map Begin (places_from 0 (suc (length (bodies (procedures ps))))) in
          let n = procs_by_number g 0 ps (λ n pr rest e. let z : n ≡ 0 + n = omega arith in (subst (λ m. m < length ps) z (drop_lt ps n pr rest e), ap (λ m. proc_of ps m) (sym z) ∙ get_of_drop ps n no_procedure pr rest e)) in
          let a1 = weigh-append g first (flows.routine_points ++ points_of_all proc_points 0 ps) in
          let a2 = weigh-append g first (flows.routine_points ++ points_of_all flows.procedure_points 0 (procedures ps)) in
          omega (arith, c, w1, w2, n, a1, a2)
