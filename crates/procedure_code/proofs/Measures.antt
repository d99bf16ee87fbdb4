-- Plans as procedures, while they are measured.
use Rattle.std.proofs.Common.{◌≡◌, ℕ, ◌+◌, ◌<◌, ◌^◌, List, length, drop, get_or, refl, sym, ap, ◌∙◌, subst}
use Rattle.std.specs.Prelude.{◌==◌}
use Rattle.std.proofs.lemmas.List.{drop_more}
use Rattle.run_laws.specs.Layers.{whole_width}
use Rattle.placed_code.specs.Placed.{Placed, block_of}
use Rattle.placed_code.specs.Layout.{jump_width, first_of, followed, block_width}
use Rattle.link_words.specs.declared.frames.Frame.{Frame}
use Rattle.link_words.specs.Frames.{frame_in}
use Rattle.link_layout.specs.Spots.{IsFrameOf}
use Rattle.link_blocks.specs.declared.plans.Plan.{Plan}
use Rattle.link_blocks.specs.Plans.{placed_in}
use Rattle.procedure_code.specs.Measured.{parts_width}
use Rattle.procedure_code.proofs.Rows.{one_over}
use Rattle.boundary_resolve.proofs.Between.{turned as eq_turned}
use Rattle.placed_code.proofs.Linking.{drop_followed}

-- a plan's frame is the placed procedure's
pub frame_is : (plan : Plan) → frame_in (placed_in plan) ≡ plan.frame
frame_is plan = ap (λ n. let f : Frame = record { counted = plan.frame.counted; slots = n; outs = plan.frame.outs; cells = plan.frame.cells; bytes = plan.frame.bytes } in f) (sym plan.slots)

pub is_frame_of : (plan : Plan) → IsFrameOf plan.homes plan.frame.outs (placed_in plan)
is_frame_of plan = record { outs_are = refl; rank_is = refl }

pub jump_turned : (n : ℕ) → jump_width (0 == n) ≡ jump_width (n == 0)
jump_turned n = ap jump_width (sym (eq_turned 0 n (0 == n) refl))

-- a block that is too wide makes all too wide
pub over_block : (pr : Placed) (n : ℕ) (items order : List ℕ) (i next : ℕ) → n ≡ length pr.blocks → items ≡ order → i < length items → next ≡ first_of n (drop (i + 1) order) → 2 ^ 18 < parts_width pr next (block_of pr (get_or items i 0))
    → 2 ^ 18 < whole_width (block_width pr) 0 (followed (length pr.blocks) order)
over_block pr n items order i next many same l is far =
    let l' : i < length order = subst (λ (xs : List ℕ). i < length xs) same l in
    let d = drop_followed (length pr.blocks) order i (get_or order i 0) (drop (i + 1) order) (drop_more order i 0 l') in
    let far' : 2 ^ 18 < block_width pr i (record { number = get_or order i 0; next = first_of (length pr.blocks) (drop (i + 1) order) }) =
    subst (λ (xs : List ℕ). 2 ^ 18 < parts_width pr (first_of (length pr.blocks) (drop (i + 1) order)) (block_of pr (get_or xs i 0))) same
    (subst (λ m. 2 ^ 18 < parts_width pr m (block_of pr (get_or items i 0))) (is ∙ ap (λ m. first_of m (drop (i + 1) order)) many) far) in
    one_over (block_width pr) (followed (length pr.blocks) order) i (record { number = get_or order i 0; next = first_of (length pr.blocks) (drop (i + 1) order) }) (followed (length pr.blocks) (drop (i + 1) order)) d far'
