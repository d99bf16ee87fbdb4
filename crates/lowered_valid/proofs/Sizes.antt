-- How many blocks and operations a procedure has at most: sixteen for each part of its tree.
use Rattle.std.proofs.Common.{◌≡◌, ℕ, suc, ◌+◌, ◌*◌, ◌≤◌, List, [], ◌∷◌, ◌++◌, map, length, length-append, Bool, true, false, Option, Some, None, All, refl, ap, arith}
use Rattle.std.specs.Prelude.{if◌then◌else◌}
use Rattle.std.proofs.lemmas.List.{length-map}
use Rattle.std.proofs.lemmas.List.Elements.{All-cons, All-nil, All-head, All-tail}
use Rattle.std.proofs.lemmas.List.Sums.{sum_by-cons}
use Rattle.block_runs.specs.Valid.{size_of}
use Rattle.block_runs.specs.declared.end.End.{End}
use Rattle.block_runs.specs.declared.end.End.TheVariants.{Return}
use Rattle.ssa_core.specs.declared.procedure.Op.{Op}
use Rattle.ssa_core.specs.Procedures.{operation_of, code_blocks}
use Rattle.ob_types.specs.Layout.{kind_of}
use Rattle.ob_types.specs.Meaning.{is_value}
use Rattle.ob_types.specs.Table.{Table}
use Rattle.ob_types.specs.declared.types.Formal.{Formal}
use Rattle.ob_types.specs.declared.types.Mode.{Mode}
use Rattle.ob_types.specs.declared.types.Mode.TheVariants.{Place}
use Rattle.ob_types.specs.declared.types.Mode.TheVariants.{Value as AsValue, Record as AsRecord, Open as AsOpen}
use Rattle.ob_types.specs.declared.program.Procedure.{Procedure}
use Rattle.ob_types.specs.declared.program.Program.{Program}
use Rattle.ssa_lowered.specs.Data.{Layout, room}
use Rattle.ssa_lowered.specs.Pieces.{Start, Mask, rest, Piece, Appends, Closes, blocks_of}
use Rattle.ssa_lowered.specs.Variables.{words_by, words_of, Variable, is_structured, placed, value_parameters}
use Rattle.ssa_lowered.specs.Variables.{Register as InRegister, Memory as InMemory}
use Rattle.ssa_lowered.specs.Lowered.{here_of, zeroed_bytes, lent_in_body, at_entry, entry, made_of, proc_of, procs_from, lowered_by}
use Rattle.lowered_valid.specs.Claims.{code_of, IsShort}
use Rattle.lowered_valid.specs.TreeSizes.{tree_size, IsSmall}
use Rattle.lowered_valid.proofs.CostsTree.{whole_costs}

-- each piece is an operation or a block
size_blocks : (s : Start) (ops : List Op) (last : End) (ps : List Piece) → size_of (code_blocks (blocks_of s ops last ps)) ≡ length ops + suc (length ps)
size_blocks s ops last [] = let a = length-map ops operation_of in omega (arith, a)
size_blocks s ops last (Appends b i op ∷ ps) = let a = size_blocks s (ops ++ op ∷ []) last ps in let e = length-append ops (op ∷ []) in omega (arith, a, e)
size_blocks s ops last (Closes b i end next ∷ ps) = let a = size_blocks next [] last ps in let e = length-map ops operation_of in omega (arith, a, e)

-- variables

length_if : (b : Bool) (n : ℕ) (xs ys : List Variable) → length xs ≡ n → length ys ≡ n → length (if b then xs else ys) ≡ n
length_if true n xs ys p q = p
length_if false n xs ys p q = q

placed_long : (t : Table) (l : Layout) (lent : Mask) (a b : ℕ) (xs : List (ℕ × Option ℕ)) → length (placed t l lent a b xs) ≡ length xs
placed_long t l lent a b [] = refl
placed_long t l lent a b (x ∷ xs) =
    length_if (is_structured (kind_of t x.0)) (suc (length xs)) (record { type_number = x.0; word = x.1; site = InMemory a } ∷ placed t l (rest lent) (a + room l x.0) b xs)
    (if lent 0 then record { type_number = x.0; word = x.1; site = InMemory b } ∷ placed t l (rest lent) a (b + 8) xs else record { type_number = x.0; word = x.1; site = InRegister } ∷ placed t l (rest lent) a b xs)
    (ap suc (placed_long t l (rest lent) (a + room l x.0) b xs))
    (length_if (lent 0) (suc (length xs)) (record { type_number = x.0; word = x.1; site = InMemory b } ∷ placed t l (rest lent) a (b + 8) xs) (record { type_number = x.0; word = x.1; site = InRegister } ∷ placed t l (rest lent) a b xs)
    (ap suc (placed_long t l (rest lent) a (b + 8) xs)) (ap suc (placed_long t l (rest lent) a b xs)))

one_value : (b : Bool) (x : ℕ × Option ℕ) → length (if b then x ∷ [] else []) ≤ 1
one_value true x = omega arith
one_value false x = omega arith

values_few : (w : ℕ) (formals : List Formal) → length (value_parameters w formals) ≤ length formals
values_few w [] = omega arith
values_few w (x ∷ xs) =
    let a = length-append (if is_value x.mode then (x.type_number, Some w) ∷ [] else []) (value_parameters (w + words_by x.mode) xs) in
    let b = one_value (is_value x.mode) (x.type_number, Some w) in
    let c = values_few (w + words_by x.mode) xs in
    omega (arith, a, b, c)

two_words : (m : Mode) → words_by m ≤ 2
two_words AsValue = omega arith
two_words Place = omega arith
two_words AsRecord = omega arith
two_words AsOpen = omega arith

words_twice : (formals : List Formal) → words_of formals ≤ 2 * length formals
words_twice [] = omega arith
words_twice (x ∷ xs) =
    let a = sum_by-cons (λ (x : Formal). words_by x.mode) x xs in
    let b = two_words x.mode in
    let c = words_twice xs in
    omega (arith, a, b, c)

abbrev no_word : Option ℕ
no_word = None

pub size_few : (p : Program) (l : Layout) (f : ℕ) (q : Procedure) → size_of (code_of (proc_of p l f q)) ≤ 16 * tree_size q
size_few p l f q =
    let words = words_of q.formals in
    let here = here_of p l f q in
    let listed = value_parameters 0 q.formals ++ map (λ (k : ℕ). (k, no_word)) q.locals in
    let a = size_blocks (entry words) [] (Return (made_of p l f q).result) (made_of p l f q).pieces in
    let b = (whole_costs p l here words (zeroed_bytes p l q)).by (at_entry words) in
    let c = words_twice q.formals in
    let d = placed_long p.types l (lent_in_body q) 0 (zeroed_bytes p l q) listed in
    let e = length-append (value_parameters 0 q.formals) (map (λ (k : ℕ). (k, no_word)) q.locals) in
    let g = values_few 0 q.formals in
    let h = length-map {B = ℕ × Option ℕ} q.locals (λ (k : ℕ). (k, no_word)) in
    omega (arith, a, b, c, d, e, g, h)

short_from : (p : Program) (l : Layout) (f : ℕ) (qs : List Procedure) → All IsSmall qs → All IsShort (procs_from p l f qs)
short_from p l f [] s = All-nil IsShort
short_from p l f (q ∷ qs) s =
    let a = size_few p l f q in
    let b = All-head IsSmall q qs s in
    All-cons IsShort (proc_of p l f q) (procs_from p l (suc f) qs) (omega (arith, a, b)) (short_from p l (suc f) qs (All-tail IsSmall q qs s))

pub short_all : (p : Program) (l : Layout) → All IsSmall p.procedures → All IsShort (lowered_by l p)
short_all p l s = short_from p l 0 p.procedures s
