-- Modules' bodies: how each is entered, and how it goes on to the next.
use Rattle.std.proofs.Common.{◌≡◌, ℕ, suc, ◌+◌, ◌^◌, ◌<◌, List, [], ◌∷◌, ◌++◌, map, Bool, false, ◌&&◌, ap, ap₂, ◌∙◌, arith, Option, None}
use Rattle.std.specs.Prelude.{◌-◌, if◌then◌else◌, nat_lt, drop, ◌==◌}
use Rattle.std.proofs.lemmas.Bool.Decides.{nat_tests}
use Rattle.run_laws.specs.Runs.{Moves, Traps}
use Rattle.wrapping_numbers.specs.Numbers.{add64, sub64}
use Rattle.block_runs.specs.Blocks.{Procedure, block_at, procedure_of}
use Rattle.block_runs.specs.States.{World, Starts, Runs, Kind}
use Rattle.block_runs.specs.Steps.{enter, first_frame, taken, freed, one_if, goes_back}
use Rattle.ob_types.specs.Layout.{cells}
use Rattle.ob_types.specs.declared.program.Procedure.{Procedure as Declared}
use Rattle.ob_types.specs.declared.program.Program.{Program}
use Rattle.ssa_lowered.specs.Data.{Layout}
use Rattle.ssa_lowered.specs.Pieces.{Piece, Appends, Closes, Low}
use Rattle.ssa_lowered.specs.Pieces.{◌>>=◌ as ◌>>>◌, give as gives}
use Rattle.ssa_lowered.specs.Places.{Stand}
use Rattle.ssa_lowered.specs.Variables.{Variable, words_of, some_structured, further, zeroing, stored, opened, placed, value_parameters}
use Rattle.ssa_lowered.specs.Lowered.{Here, here_of, enters, deeds_of, answer, at_entry, zeroed_bytes, made_of, lent_in_body}
use Rattle.lowered_runs.proofs.Standing.{Standing}

module _ (p : Program) (lay : Layout) where
  -- what stands before a procedure's statements
  abbrev prefix : Here → ℕ → Bool → (all zeroed : ℕ) → List Variable → Low (Option ℕ) → Low (Option ℕ)
  prefix here n b all zeroed vs body = further 4 n >>> λ _. zeroing b all zeroed >>> λ _. stored p.types lay all vs >>> λ _. opened vs >>> λ env. enters p lay here env >>> λ _. body

  -- a procedure without parameters and variables is its statements
  pub plain_body : (f : ℕ) (q : Declared) → q.formals ≡ [] → q.locals ≡ [] → q.answer ≡ None → made_of p lay f q ≡ (deeds_of p lay (here_of p lay f q) q.body >>> λ _. gives None) (record (at_entry 0) { env = [] })
  plain_body f q formals locals result =
      let here = here_of p lay f q in
      let zeroed = zeroed_bytes p lay q in
      let body = deeds_of p lay here q.body >>> λ _. answer p lay here q.answer in
      ap (λ k. prefix here (k - 4) (some_structured p.types q.locals) here.bytes zeroed here.variables body (at_entry k)) (ap words_of formals)
      ∙ ap (λ ks. prefix here 0 (some_structured p.types ks) here.bytes zeroed here.variables body (at_entry 0)) locals
      ∙ ap₂ (λ xs ks. prefix here 0 false here.bytes zeroed (placed p.types lay (lent_in_body q) 0 zeroed (value_parameters 0 xs ++ map (λ k. (k, None)) ks)) body (at_entry 0)) formals locals
      ∙ ap (λ a. prefix here 0 false here.bytes zeroed [] (deeds_of p lay here q.body >>> λ _. answer p lay here a) (at_entry 0)) result

-- pieces stand in the procedure of their number
pub standing_in : (ps : List Procedure) (f : ℕ) (pr : Procedure) (pieces : List Piece) → procedure_of ps f ≡ pr → Stand pr.blocks pieces → Standing ps f pieces
standing_in ps f pr [] is h = tt
standing_in ps f pr (Appends b i op ∷ pieces) is h = ((h.0.0, ap (λ x. drop i (block_at x.blocks b).ops) is ∙ h.0.1), standing_in ps f pr pieces is h.1)
standing_in ps f pr (Closes b i end start ∷ pieces) is h =
    ((ap (λ x. drop i (block_at x.blocks b).ops) is ∙ h.0.0.0, ap (λ x. (block_at x.blocks b).end) is ∙ h.0.0.1, ap (λ x. (block_at x.blocks (suc b)).params) is ∙ h.0.1), standing_in ps f pr pieces is h.1)

-- a body is entered: it takes nothing
pub enters_body : (ps : List Procedure) (f : ℕ) (w : World) (pr : Procedure) → procedure_of ps f ≡ pr → pr.counted ≡ false → pr.cells ≡ 0 → pr.bytes ≡ 0 → w.local < 2 ^ 64 → enter ps f [] [] w ≡ Moves [] (Runs (first_frame pr f []) [] w)
enters_body ps f w pr is counted cells bytes few =
    ap (λ x. if x.counted && w.calls == 0 then Traps (Kind 8 f) else (if nat_lt w.cells x.cells then Traps (Kind 9 f) else Moves [] (Runs (first_frame x f []) [] (taken x w)))) is
    ∙ ap (λ b. if b && w.calls == 0 then Traps (Kind 8 f) else (if nat_lt w.cells pr.cells then Traps (Kind 9 f) else Moves [] (Runs (first_frame pr f []) [] (record w { calls = w.calls - one_if b; cells = w.cells - pr.cells; local = add64 w.local pr.bytes })))) counted
    ∙ ap (λ n. if nat_lt w.cells n then Traps (Kind 9 f) else Moves [] (Runs (first_frame pr f []) [] (record w { calls = w.calls - 0; cells = w.cells - n; local = add64 w.local pr.bytes }))) cells
    ∙ ap (λ b. if b then Traps (Kind 9 f) else Moves [] (Runs (first_frame pr f []) [] (record w { calls = w.calls - 0; cells = w.cells - 0; local = add64 w.local pr.bytes }))) (none w.cells)
    ∙ ap (λ n. Moves [] (Runs (first_frame pr f []) [] (record w { calls = w.calls - 0; cells = w.cells - 0; local = add64 w.local n }))) bytes
    ∙ ap (λ n. Moves [] (Runs (first_frame pr f []) [] (record w { calls = n; cells = w.cells - 0; local = add64 w.local 0 }))) (less w.calls)
    ∙ ap (λ n. Moves [] (Runs (first_frame pr f []) [] (record w { cells = n; local = add64 w.local 0 }))) (less w.cells)
    ∙ ap (λ n. Moves [] (Runs (first_frame pr f []) [] (record w { local = n }))) (same w.local few)
  where
    none : (n : ℕ) → nat_lt n 0 ≡ false
    none n = grind (arith, nat_tests)

    less : (n : ℕ) → n - 0 ≡ n
    less n = omega arith

    same : (n : ℕ) → n < 2 ^ 64 → add64 n 0 ≡ n
    same n lt = omega (arith, lt)

-- and goes on to the next one: it gives nothing back
pub leaves_body : (ps : List Procedure) (f : ℕ) (w : World) (pr : Procedure) → procedure_of ps f ≡ pr → pr.counted ≡ false → pr.cells ≡ 0 → pr.bytes ≡ 0 → w.local < 2 ^ 64 → goes_back ps [] (freed (procedure_of ps f) w) None ≡ Moves [] (Starts (record w { body = suc w.body }))
leaves_body ps f w pr is counted cells bytes few =
    ap (λ x. Moves [] (Starts (record w { body = suc w.body; calls = w.calls + one_if x.counted; cells = w.cells + x.cells; local = sub64 w.local x.bytes }))) is
    ∙ ap (λ b. Moves [] (Starts (record w { body = suc w.body; calls = w.calls + one_if b; cells = w.cells + pr.cells; local = sub64 w.local pr.bytes }))) counted
    ∙ ap (λ n. Moves [] (Starts (record w { body = suc w.body; calls = w.calls + 0; cells = w.cells + n; local = sub64 w.local pr.bytes }))) cells
    ∙ ap (λ n. Moves [] (Starts (record w { body = suc w.body; calls = w.calls + 0; cells = w.cells + 0; local = sub64 w.local n }))) bytes
    ∙ ap (λ n. Moves [] (Starts (record w { body = suc w.body; calls = n; cells = w.cells + 0; local = sub64 w.local 0 }))) (more w.calls)
    ∙ ap (λ n. Moves [] (Starts (record w { body = suc w.body; cells = n; local = sub64 w.local 0 }))) (more w.cells)
    ∙ ap (λ n. Moves [] (Starts (record w { body = suc w.body; local = n }))) (same w.local few)
  where
    more : (n : ℕ) → n + 0 ≡ n
    more n = omega arith

    same : (n : ℕ) → n < 2 ^ 64 → sub64 n 0 ≡ n
    same n lt = omega (arith, lt)
