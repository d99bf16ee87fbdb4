-- FOR: a variable that goes to a limit.
use Rattle.std.proofs.Common.{◌≡◌, ℕ, [], ◌∷◌, Bool, true, false, cond, refl, sym, ap, ◌∙◌, ℤ, arith}
use Rattle.std.specs.Prelude.{if◌then◌else◌}
use Rattle.run_laws.specs.Runs.{Moves}
use Rattle.run_laws.specs.Turns.{Ending, Gives, Fails, Spent, after, ◌>>=◌, give, repeat}
use Rattle.run_laws.specs.Turns.{State as Moment}
use Rattle.wrapping_numbers.specs.Numbers.{add64, unsigned}
use Rattle.block_runs.specs.declared.end.End.{End}
use Rattle.block_runs.specs.declared.end.End.TheVariants.{Branch}
use Rattle.block_runs.specs.Compares.{compares}
use Rattle.block_runs.specs.States.{Runs}
use Rattle.ob_types.specs.Store.{Cell, Bits, Address, Handed, Act, Trap, fetch, put, place, bits, bits_in}
use Rattle.ob_types.specs.Store.{Store as Objects}
use Rattle.ob_types.specs.Operators.{binary_of}
use Rattle.ob_types.specs.Expressions.{load, two_operands, quotient}
use Rattle.ob_types.specs.Statements.{Deed, assign, at_limit, for, try}
use Rattle.ob_types.specs.declared.tree.Binary.TheVariants.{Add}
use Rattle.ssa_lowered.specs.Pieces.{Low, Mask}
use Rattle.ssa_lowered.specs.Pieces.{give as gives}
use Rattle.ssa_lowered.specs.Control.{fork_branch, loop}
use Rattle.ssa_lowered.specs.Control.{for as lower_for}
use Rattle.lowered_runs.specs.Words.{Whole, Level}
use Rattle.lowered_runs.proofs.Follows.{Fact, And as Both, Steady, steady_and, grows_bind, grows_give, Follows, follows_bind, follows_give, follows_known, follows_mask}
use Rattle.lowered_runs.proofs.Exprs.{CellIs, NumberIs, steady_number, follows_bits}
use Rattle.lowered_runs.proofs.Sets.{follows_same}
use Rattle.lowered_runs.proofs.Forks.{nothing, No_more, after_after, EndIs, Forks, forks_leaf}
use Rattle.lowered_runs.proofs.Structures.{Always, itself, rounds_none, rounds_more, follows_loop}

module _ (w : Whole) (l : Level) where
  -- a place that is the same at each moment
  module _ (a : Address) (d : Act Handed) (is : (s : Moment Objects) → place d s ≡ Gives a s) where
    pub load_is : (s : Moment Objects) → load d s ≡ fetch a s
    load_is s = ap (λ e. after e (λ a. fetch a)) (is s)

    pub assign_is : (x : Act Cell) (s : Moment Objects) → assign d x s ≡ (x >>= λ c. put a c) s
    assign_is x s = ap (λ e. after e (λ a. x >>= λ c. put a c)) (is s)

    pub step_is : (n : ℕ) (s : Moment Objects) → assign d (two_operands l.proc Add (load d) (give (Bits n))) s ≡ (bits (fetch a) >>= λ v. put a (Bits (add64 v n))) s
    step_is n s =
        assign_is (two_operands l.proc Add (load d) (give (Bits n))) s
        ∙ ap (λ e. after (after (after e bits_in) (λ v. quotient l.proc (binary_of Add v n))) (λ c. put a c)) (load_is s)
        ∙ by (bits (fetch a) s)
      where
        by : (e : Ending Objects Trap ℕ) → after (after e (λ v. quotient l.proc (binary_of Add v n))) (λ c. put a c) ≡ after e (λ v. put a (Bits (add64 v n)))
        by (Gives v t) = refl
        by (Fails trap out) = refl
        by (Spent out) = refl

  abbrev branch_to : (r i j : ℕ) → ℕ → ℕ → End
  branch_to r i j yes_to no_to = Branch r i j yes_to no_to

  -- the test of FOR
  pub forks_limit : {fuel : ℕ} {K : Fact} {x : Act Cell} {low : Low ℕ} (r : ℕ) (step : ℤ) (limit i : ℕ) → ((x y : ℕ) → compares r x y ≡ at_limit step x y) → Steady w l K → Follows w l 0 fuel nothing (Both K (NumberIs w l limit i)) (CellIs w l) x low
      → Forks w l itself fuel (Both K (NumberIs w l limit i)) No_more (bits x >>= λ v. give (at_limit step v limit)) (fork_branch r low (gives i))
  forks_limit {K = K} {x = x} {low = low} r step limit i same steady one = forks_leaf w l (follows_bind w l (steady_and w l steady (steady_number w l limit i)) (follows_bits w l (steady_and w l steady (steady_number w l limit i)) one)
      (λ j. grows_bind w l (grows_give w l i) (λ i. grows_give w l (branch_to r j i)))
      (λ v j. follows_give w l (at_limit step v limit) (branch_to r j i) (λ n f s known. (ends v j n f s known, tt))))
    where
      goes_by : (t : Bool) (yes_to no_to : ℕ) → (if t then yes_to else no_to) ≡ cond (itself t) yes_to no_to
      goes_by true yes_to no_to = refl
      goes_by false yes_to no_to = refl

      ends : (v j n : ℕ) (f : ℕ → ℕ) (s : Objects) → Both (Both K (NumberIs w l limit i)) (NumberIs w l v j) n f s → EndIs w l itself (at_limit step v limit) (branch_to r j i) n f s
      ends v j n f s known yes_to no_to = (
        refl,
        λ b2 i2 fs x2. ap (λ t. Moves [] (Runs (record { proc = l.proc; block = t; at = 0; values = f; args = l.args }) fs x2))
            (ap (λ t. if t then yes_to else no_to) (ap (λ y. compares r y (f i)) known.1.1.0 ∙ ap (λ y. compares r v y) known.0.1.1.0 ∙ same v limit) ∙ goes_by (at_limit step v limit) yes_to no_to),
      )

  pub follows_for : {fuel : ℕ} {K : Fact} {y : Act Cell} {limit current : Low ℕ} {first low_body : Low (Unit {0})} (mask inner : Mask) (r : ℕ) (step : ℤ) (x : Act Cell) (body : Deed) (a : Address) (d : Act Handed) → ((s : Moment Objects) → place d s ≡ Gives a s) → ((x y : ℕ) → compares r x y ≡ at_limit step x y) → ((x : ℕ) → mask x ≡ false → inner x ≡ false) → Steady w l K
      → Follows w l 1 fuel mask K Always (x >>= λ c. put a c) first → Follows w l 1 fuel mask K (CellIs w l) y limit → Follows w l 0 fuel nothing K (CellIs w l) (fetch a) current
      → Follows w l 1 fuel inner K Always (body >>= λ _. bits (fetch a) >>= λ v. put a (Bits (add64 v (unsigned step)))) low_body
      → Follows w l 1 fuel mask K Always (for fuel d x y step body) (lower_for inner r first limit current low_body)
  follows_for {fuel} {K} {y} {limit} {current} {first} {low_body} mask inner r step x body a d is same fewer steady one two three four =
      follows_same w l ((x >>= λ c. put a c) >>= λ _. behind) (for fuel d x y step body)
      (λ s. after_after (x s) (λ c. put a c) (λ _. behind) ∙ sym (ap (λ e. after e (λ a. x >>= λ c. put a c >>= λ _. bits y >>= λ limit. rounds a limit)) (is s)))
      (follows_bind w l steady one (λ u. grows_bind w l two.grows (λ i. (turns 0 i).grows))
      (λ u v. follows_known w l (λ n f s k. k.0) (follows_bind w l steady (follows_bits w l steady two) (λ i. (turns 0 i).grows) (λ n i. turns n i))))
    where
      round : Address → ℕ → Act Bool
      round a n = try (bits (fetch a) >>= λ v. give (at_limit step v n)) (body >>= λ _. bits (fetch a) >>= λ v. put a (Bits (add64 v (unsigned step)))) (give false)

      rounds : Address → ℕ → Deed
      rounds a n = repeat fuel (round a n)

      behind : Deed
      behind = bits y >>= λ n. rounds a n

      turns : (n i : ℕ) → Follows w l 1 fuel mask (Both K (NumberIs w l n i)) Always (rounds a n) (loop inner (record { test = fork_branch r current (gives i); body = low_body } ∷ []))
      turns n i =
          let known = steady_and w l steady (steady_number w l n i) in
          follows_mask w l {low_need = 1} {less = inner} (omega arith) fewer
          (follows_loop w l inner (round a n) (record { test = fork_branch r current (gives i); body = low_body } ∷ []) known
          (rounds_more w l inner (bits (fetch a) >>= λ v. give (at_limit step v n)) (give false) (body >>= λ _. bits (fetch a) >>= λ v. put a (Bits (add64 v (unsigned step)))) (record { test = fork_branch r current (gives i); body = low_body }) [] known
          (forks_limit r step n i same steady (follows_known w l (λ n f s k. k.0) three)) (follows_known w l (λ n f s k. k.0) four) (rounds_none w l)))
