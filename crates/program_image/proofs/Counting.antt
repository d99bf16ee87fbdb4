-- While the blocks and operations of procedures are counted.
use Rattle.std.proofs.Common.{◌≡◌, ℕ, suc, ◌+◌, ◌<◌, ◌≤◌, List, ◌∷◌, drop, length, get_or, Bool, true, false, ◌&&◌, sym, ap, ◌∙◌, arith}
use Rattle.std.specs.Prelude.{nat_le}
use Rattle.std.specs.List.{list_all}
use Rattle.std.proofs.lemmas.Bool.Decides.{nat_tests}
use Rattle.std.proofs.lemmas.List.{drop_more, drop_all, length-map}
use Rattle.block_runs.specs.Valid.{size_of}
use Rattle.ssa_core.specs.declared.procedure.Block.{Block}
use Rattle.ssa_core.specs.declared.procedure.Proc.{Proc}
use Rattle.ssa_core.specs.Procedures.{operation_of, code_blocks}
use Rattle.ssa_core.specs.Validity.{most}
use Rattle.program_image.specs.Sizes.{blocks_short, is_short}

-- how large the blocks from a number on are
abbrev ahead : List Block → ℕ → ℕ
ahead bs i = size_of (code_blocks (drop i bs))

one_more : (bs : List Block) (i : ℕ) (b : Block) → i < length bs → b ≡ get_or bs i b → ahead bs i ≡ suc (length b.ops) + ahead bs (i + 1)
one_more bs i b l is =
    ap (λ (ys : List Block). size_of (code_blocks ys)) (drop_more bs i b l ∙ ap (λ y. y ∷ drop (i + 1) bs) (sym is))
    ∙ ap (λ n. suc n + ahead bs (i + 1)) (length-map b.ops operation_of)

none_more : (bs : List Block) (i : ℕ) → length bs ≤ i → ahead bs i ≡ 0
none_more bs i l = ap (λ (ys : List Block). size_of (code_blocks ys)) (drop_all i bs l)

is_false : (a b : ℕ) → suc b ≤ a → nat_le a b ≡ false
is_false a b l = grind (arith, nat_tests, l)

is_true : (a b : ℕ) → a ≤ b → nat_le a b ≡ true
is_true a b l = grind (arith, nat_tests, l)

-- the next block has more than what is left
pub too_long : (bs : List Block) (i left : ℕ) (b : Block) → i < length bs → b ≡ get_or bs i b → left + size_of (code_blocks bs) ≡ most + ahead bs i → left ≤ length b.ops → false ≡ blocks_short bs
too_long bs i left b l is sum over = let a = one_more bs i b l is in sym (is_false (size_of (code_blocks bs)) most (omega (arith, sum, a, over)))

-- or not
pub counted : (bs : List Block) (i left after : ℕ) (b : Block) → i < length bs → b ≡ get_or bs i b → left + size_of (code_blocks bs) ≡ most + ahead bs i → after + suc (length b.ops) ≡ left → after + size_of (code_blocks bs) ≡ most + ahead bs (i + 1)
counted bs i left after b l is sum less = let a = one_more bs i b l is in omega (arith, sum, a, less)

pub short_enough : (bs : List Block) (i left : ℕ) → length bs ≤ i → left + size_of (code_blocks bs) ≡ most + ahead bs i → true ≡ blocks_short bs
short_enough bs i left l sum = let a = none_more bs i l in sym (is_true (size_of (code_blocks bs)) most (omega (arith, sum, a)))

---- Procedures

abbrev all_short : List Proc → Bool
all_short ps = list_all (λ p. is_short p) ps

next : (ps : List Proc) (i : ℕ) (p : Proc) → i < length ps → p ≡ get_or ps i p → all_short (drop i ps) ≡ (is_short p && all_short (drop (i + 1) ps))
next ps i p l is = ap all_short (drop_more ps i p l ∙ ap (λ y. y ∷ drop (i + 1) ps) (sym is))

pub one_short : (ps : List Proc) (i : ℕ) (p : Proc) → i < length ps → p ≡ get_or ps i p → is_short p ≡ true → all_short ps ≡ all_short (drop i ps) → all_short ps ≡ all_short (drop (i + 1) ps)
one_short ps i p l is short so_far = so_far ∙ next ps i p l is ∙ ap (λ b. b && all_short (drop (i + 1) ps)) short

pub one_long : (ps : List Proc) (i : ℕ) (p : Proc) → i < length ps → p ≡ get_or ps i p → is_short p ≡ false → all_short ps ≡ all_short (drop i ps) → false ≡ all_short ps
one_long ps i p l is long so_far = sym (so_far ∙ next ps i p l is ∙ ap (λ b. b && all_short (drop (i + 1) ps)) long)

pub all_are : (ps : List Proc) (i : ℕ) → length ps ≤ i → all_short ps ≡ all_short (drop i ps) → true ≡ all_short ps
all_are ps i l so_far = sym (so_far ∙ ap all_short (drop_all i ps l))
