-- The code of conditions and of statements with blocks of their own, over the code of their parts.
use Rattle.std.specs.Prelude.{ℕ, zero, suc, ◌*◌, ◌/◌, ◌^◌, min, max, List, [], ◌∷◌, ◌++◌, Some, None}
use Rattle.block_runs.specs.declared.end.End.{End}
use Rattle.block_runs.specs.declared.end.End.TheVariants.{Jump, Branch, Nonzero}
use Rattle.ssa_lowered.specs.Pieces.{Cursor, Piece, Low, give, ◌>>=◌, close, fresh, plain, Mask, picked, join, join_start}
use Rattle.ssa_lowered.specs.Values.{const}

abbrev pub half : ℕ → ℕ
half f = max 1 (f / 2)

-- a loop's blocks
abbrev pub often : ℕ → ℕ
often f = min (8 * f) (2 ^ 50)

-- the same place in a block that runs so often
abbrev pub at_freq : Cursor → ℕ → Cursor
at_freq c f = record c { freq = f }

-- the code of a condition, once the blocks that it leads to have numbers, and the block that begins behind it a frequency
pub record Fork : Type 0 where
  pub pieces : (yes_to no_to freq : ℕ) → List Piece
  pub after : Cursor

abbrev pub Test : Type 0
Test = Cursor → Fork

-- values, and an end that reads them
abbrev pub fork : Low (ℕ → ℕ → End) → Test
fork m c =
    let a = m c in
    record { pieces = λ yes no f. a.pieces ++ (close a.after (a.result yes no) (plain f c.seen) ∷ []); after = record (fresh a.after) { env = c.env; seen = c.seen } }

abbrev pub fork_value : Low ℕ → Test
fork_value x = fork (do
  a ← x
  give (λ yes no. Nonzero a yes no))

abbrev pub fork_branch : ℕ → Low ℕ → Low ℕ → Test
fork_branch cond x y = fork (do
  a ← x
  b ← y
  give (λ yes no. Branch cond a b yes no))

abbrev pub fork_not : Test → Test
fork_not f c =
    let a = f c in
    record { pieces = λ yes no q. a.pieces no yes q; after = a.after }

abbrev pub fork_and : Test → Test → Test
fork_and f g c =
    let a = f c in
    let b = g a.after in
    record { pieces = λ yes no q. a.pieces a.after.block no c.freq ++ b.pieces yes no q; after = b.after }

abbrev pub fork_or : Test → Test → Test
fork_or f g c =
    let a = f c in
    let b = g a.after in
    record { pieces = λ yes no q. a.pieces yes a.after.block c.freq ++ b.pieces yes no q; after = b.after }

-- a condition as a value: a block with 1 and one with 0, which jump to a join with one parameter
abbrev pub flag : Test → Low ℕ
flag test c =
    let t = test c in
    let yes = at_freq t.after (half c.freq) in
    let one = const 1 yes in
    let no = record (fresh one.after) { seen = t.after.seen } in
    let zero = const 0 no in
    let v = zero.after.values in
    let out = record (fresh zero.after) { freq = c.freq; values = suc v; seen = v ∷ t.after.seen } in
    record {
      pieces = t.pieces yes.block no.block yes.freq
          ++ (one.pieces ++ (close one.after (Jump out.block (one.result ∷ [])) (plain no.freq no.seen)
          ∷ (zero.pieces ++ (close zero.after (Jump out.block (zero.result ∷ [])) (record { params = v ∷ []; freq = c.freq; enter = None; seen = t.after.seen })
          ∷ []))));
      result = v;
      after = out;
    }

-- an expression as a value and as a condition
pub record Lowers : Type 0 where
  pub value : Low ℕ
  pub test : Test

abbrev pub valued : Low ℕ → Lowers
valued x = record { value = x; test = fork_value x }

abbrev pub tested : Test → Lowers
tested t = record { value = flag t; test = t }

-- statements

abbrev pub choose : Mask → Test → Low (Unit {0}) → Low (Unit {0}) → Low (Unit {0})
choose mask test f g c =
    let t = test c in
    let one = f (at_freq t.after (half c.freq)) in
    let other = record (fresh one.after) { freq = half c.freq; env = t.after.env; seen = t.after.seen } in
    let two = g other in
    let out = join mask two.after other c.freq in
    record {
      pieces = t.pieces t.after.block other.block (half c.freq)
          ++ (one.pieces ++ (close one.after (Jump out.block (picked mask one.after.env)) (plain other.freq other.seen)
          ∷ (two.pieces ++ (close two.after (Jump out.block (picked mask two.after.env)) (join_start mask two.after other c.freq None)
          ∷ []))));
      result = tt;
      after = out;
    }

-- a guard of WHILE, and what is done where it holds
pub record Round : Type 0 where
  pub test : Test
  pub body : Low (Unit {0})

-- how often the block behind a guard runs: another guard's, or the exit
abbrev pub behind : List Round → ℕ → ℕ → ℕ
behind [] inside outside = outside
behind (r ∷ rs) inside outside = inside

-- the guards with their bodies, which jump back to the header; the last leads to the exit
abbrev pub rounds : Mask → ℕ → ℕ → List Round → Low (Unit {0})
rounds mask head outside [] c = record { pieces = []; result = tt; after = c }
rounds mask head outside (r ∷ rs) c =
    let t = r.test c in
    let one = r.body (at_freq t.after c.freq) in
    let next = record (fresh one.after) { freq = behind rs c.freq outside; env = t.after.env; seen = t.after.seen } in
    let more = rounds mask head outside rs next in
    record {
      pieces = t.pieces t.after.block next.block c.freq
          ++ (one.pieces ++ (close one.after (Jump head (picked mask one.after.env)) (plain next.freq next.seen)
          ∷ more.pieces));
      result = tt;
      after = more.after;
    }

abbrev pub loop : Mask → List Round → Low (Unit {0})
loop mask rs c =
    let head = join mask c c (often c.freq) in
    let all = rounds mask head.block c.freq rs head in
    record {
      pieces = close c (Jump head.block (picked mask c.env)) (join_start mask c c head.freq (Some c.block)) ∷ all.pieces;
      result = tt;
      after = all.after;
    }

abbrev pub repeat : Mask → Low (Unit {0}) → Test → Low (Unit {0})
repeat mask body test c =
    let head = join mask c c (often c.freq) in
    let one = body head in
    let t = test one.after in
    let back = at_freq t.after head.freq in
    let exit = at_freq (fresh back) c.freq in
    record {
      pieces = close c (Jump head.block (picked mask c.env)) (join_start mask c c head.freq (Some c.block))
          ∷ (one.pieces ++ (t.pieces exit.block back.block back.freq
          ++ (close back (Jump head.block (picked mask back.env)) (plain exit.freq exit.seen)
          ∷ [])));
      result = tt;
      after = exit;
    }

-- the limit is one value, made behind the first assignment
abbrev pub for : Mask → ℕ → Low (Unit {0}) → Low ℕ → Low ℕ → Low (Unit {0}) → Low (Unit {0})
for mask cond first limit current body = do
  _ ← first
  l ← limit
  loop mask (record { test = fork_branch cond current (give l); body = body } ∷ [])

-- a test of a CASE, and which part it leads to
pub record Rung : Type 0 where
  pub test : Test
  pub part : ℕ

-- the tests of a CASE, once its parts have numbers; behind them the block without a match
pub record Ladder : Type 0 where
  pub pieces : (ℕ → ℕ) → List Piece
  pub after : Cursor

abbrev pub ladder : ℕ → List Rung → Cursor → Ladder
ladder last [] c = record { pieces = λ to. close c (Jump (suc c.block) []) (plain last c.seen) ∷ []; after = at_freq (fresh c) last }
ladder last (r ∷ []) c =
    let t = r.test c in
    record { pieces = λ to. t.pieces (to r.part) t.after.block last; after = at_freq t.after last }
ladder last (r ∷ s ∷ rs) c =
    let t = r.test c in
    let more = ladder last (s ∷ rs) t.after in
    record { pieces = λ to. t.pieces (to r.part) t.after.block c.freq ++ more.pieces to; after = more.after }

abbrev pub before : ℕ → (ℕ → ℕ) → ℕ → ℕ
before b starts zero = b
before b starts (suc i) = starts i

-- the end of the block before, then each part, which jumps to the join, once this has a number; then the join begins
pub record Limbs : Type 0 where
  pub pieces : ℕ → List Piece
  pub starts : ℕ → ℕ
  pub after : Cursor

abbrev pub limbs : Mask → Cursor → List (Low (Unit {0})) → Cursor → (ℕ → End) → Limbs
limbs mask s [] c end = record { pieces = λ out. close c (end out) (join_start mask c s s.freq None) ∷ []; starts = λ i. 0; after = join mask c s s.freq }
limbs mask s (body ∷ bodies) c end =
    let start = record (fresh c) { freq = half s.freq; env = s.env; seen = s.seen } in
    let one = body start in
    let more = limbs mask s bodies one.after (λ out. Jump out (picked mask one.after.env)) in
    record {
      pieces = λ out. close c (end out) (plain start.freq start.seen) ∷ (one.pieces ++ more.pieces out);
      starts = before start.block more.starts;
      after = more.after;
    }

-- the tests, the parts, and the end of the block without a match, by the join
abbrev pub case : Mask → List Rung → List (Low (Unit {0})) → (ℕ → List ℕ → End) → Low (Unit {0})
case mask rungs bodies unmatched c =
    let t = ladder (half c.freq) rungs c in
    let a = limbs mask c bodies t.after (λ out. unmatched out (picked mask c.env)) in
    record { pieces = t.pieces a.starts ++ a.pieces a.after.block; result = tt; after = a.after }
