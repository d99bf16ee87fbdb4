-- What holds of each lowered procedure, whether its program is well-formed or not.
use Rattle.std.proofs.Common.{◌≡◌, ℕ, zero, suc, ◌+◌, ◌≤◌, ◌<◌, min, List, [], ◌∷◌, take, length, true, Option, refl, sym, ap, ◌∙◌, subst, arith}
use Rattle.std.specs.List.{list_all}
use Rattle.ob_types.specs.declared.program.Procedure.{Procedure}
use Rattle.ob_types.specs.declared.program.Program.{Program}
use Rattle.block_runs.specs.Blocks.{CodeBlock, successors}
use Rattle.block_runs.specs.Valid.{IsPlaced, made, all_below, block_reads, condition_fits, arguments_fit, params_of, enter_below}
use Rattle.block_runs.specs.declared.end.End.TheVariants.{Return}
use Rattle.std.proofs.lemmas.List.{length-map}
use Rattle.ssa_core.specs.declared.procedure.Block.{Block}
use Rattle.ssa_core.specs.Procedures.{code_block, code_blocks}
use Rattle.ssa_lowered.specs.Data.{Layout}
use Rattle.ssa_lowered.specs.Pieces.{Start, Made, numbers}
use Rattle.ssa_lowered.specs.Variables.{words_of}
use Rattle.ssa_lowered.specs.Lowered.{Here, here_of, zeroed_bytes, at_entry, entry, lent_in_body, made_of, proc_of, variable_of, in_register}
use Rattle.ssa_lowered.proofs.Linear.{Linear, line_whole}
use Rattle.lowered_valid.proofs.Scoped.{Certificate, Starts, Sound}
use Rattle.lowered_valid.proofs.Tree.{OfAnswer}
use Rattle.lowered_valid.proofs.Whole.{sound_whole}
use Rattle.lowered_valid.proofs.Words.{words_fit, named_given, all_words, variables_first}
use Rattle.lowered_valid.proofs.Numbered.{Under, Numbered, counted_whole}
use Rattle.lowered_valid.proofs.Once.{append_nil, made_in_order, counts_numbers, after_numbers}
use Rattle.lowered_valid.proofs.Blocks.{Every, CleanBlock, Fresh, Between, between_start, starts_of, nth, starts_from, clean_blocks, fresh_blocks, count_blocks, enters_below, placed, read_below, targets, conditions, arguments, params_there}

under_numbers : (i n m : ℕ) → i + n ≤ m → Under m (numbers i n)
under_numbers i zero m p = tt
under_numbers i (suc n) m p = (omega (arith, p), under_numbers (suc i) n m (omega (arith, p)))

numbers_long : (i n : ℕ) → length (numbers i n) ≡ n
numbers_long i zero = refl
numbers_long i (suc n) = ap suc (numbers_long (suc i) n)

module _ (p : Program) (l : Layout) (f : ℕ) (q : Procedure) where
  abbrev words : ℕ
  words = words_of q.formals

  abbrev here : Here
  here = here_of p l f q

  abbrev whole : Made (Option ℕ)
  whole = made_of p l f q

  abbrev code : List CodeBlock
  code = code_blocks (proc_of p l f q).blocks

  abbrev start_at : ℕ → Start
  start_at b = nth (entry words ∷ starts_of whole.pieces) b

  abbrev total : ℕ
  total = suc whole.after.block

  abbrev certificate : Certificate
  certificate = record { start_at = start_at; total = total; given = numbers 0 words; regs = λ x. in_register p l here (variable_of p l here x).site; size = length here.variables }

  line : Linear 0 0 whole.pieces whole.after.block whole.after.op
  line = (line_whole p l here words (zeroed_bytes p l q) (at_entry words)).by

  starts : Starts start_at total whole.pieces
  starts = starts_from start_at (entry words ∷ []) 0 0 whole.after.block whole.after.op whole.pieces line refl (λ k. refl)

  sound : Sound start_at total (numbers 0 (min words 4)) whole.pieces whole.after.seen × OfAnswer whole.result whole.after.seen
  sound = sound_whole certificate p l here (λ x. refl) (λ k x e. named_given certificate.regs x.mode (words_of (take k q.formals)) words (words_fit q.formals k x e)) refl
      (variables_first p.types l (lent_in_body q) 0 (zeroed_bytes p l q) q.formals q.locals) words (zeroed_bytes p l q) (at_entry words) refl (all_words words) starts

  numbered : Numbered (min words 4) whole.pieces whole.after.values
  numbered = (counted_whole p l here words (zeroed_bytes p l q) (at_entry words) (under_numbers 0 (min words 4) (min words 4) (omega arith))).by

  clean : Every (CleanBlock start_at total) 0 code
  clean = clean_blocks start_at total 0 0 whole.after.block whole.after.op (entry words) [] (Return whole.result) whole.pieces (numbers 0 (min words 4)) whole.after.seen refl (append_nil (numbers 0 (min words 4))) line starts sound.0 (sound.1, tt)

  pub in_order : made code ≡ numbers 0 (proc_of p l f q).values
  in_order = made_in_order (entry words) (Return whole.result) whole.pieces (min words 4) whole.after.values refl numbered

  -- the first block makes its parameters
  first : Between start_at total 0 (min words 4) (entry words) []
  first = subst (λ n. Between start_at total 0 n (entry words) []) (after_numbers 0 (min words 4) ∙ omega arith) (between_start start_at total 0 (entry words) (counts_numbers 0 (min words 4)))

  fresh : Every (Fresh start_at total (proc_of p l f q).values) 0 code
  fresh = fresh_blocks start_at total 0 0 whole.after.block whole.after.op (entry words) [] (Return whole.result) whole.pieces 0 (min words 4) whole.after.values refl tt first (omega arith) line starts numbered

  count : length code ≡ total
  count = let e = count_blocks 0 0 whole.after.block whole.after.op (entry words) [] (Return whole.result) whole.pieces line in omega (arith, e)

  pub values_placed : IsPlaced code
  values_placed = placed start_at total (proc_of p l f q).values code clean fresh count refl

  pub values_below : list_all (λ bl. all_below (proc_of p l f q).values (block_reads bl)) code ≡ true
  values_below = read_below start_at total (proc_of p l f q).values code clean fresh count

  pub targets_there : list_all (λ bl. all_below (length code) (successors bl.end)) code ≡ true
  targets_there = targets start_at total (proc_of p l f q).values code clean fresh count

  pub conditions_fit : list_all (λ bl. condition_fits bl.end) code ≡ true
  conditions_fit = conditions start_at total (proc_of p l f q).values code clean fresh count

  pub ends_fit : list_all (λ bl. arguments_fit code bl.end) code ≡ true
  ends_fit = arguments start_at total (proc_of p l f q).values code clean fresh count

  counted : length (proc_of p l f q).blocks ≡ total
  counted = sym (length-map (proc_of p l f q).blocks code_block) ∙ count

  pub enters_there : list_all (λ (b : Block). enter_below (length (proc_of p l f q).blocks) b.enter) (proc_of p l f q).blocks ≡ true
  enters_there = subst (λ n. list_all (λ (b : Block). enter_below n b.enter) (proc_of p l f q).blocks ≡ true) (sym counted)
      (enters_below start_at total (entry words) [] (Return whole.result) whole.pieces (numbers 0 (min words 4)) whole.after.seen tt sound.0)

  pub begins : 0 < length code
  begins = let e = count in omega (arith, e)

  pub first_params : params_of code 0 ≡ min 4 words
  first_params = params_there start_at total (proc_of p l f q).values code clean fresh count 0 (omega arith) ∙ numbers_long 0 (min words 4) ∙ omega arith
