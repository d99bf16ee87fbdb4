use Rattle.std.proofs.Common.{ℕ, Bool, ◌==◌, ◌&&◌, sym, ap, ap₂, ◌∙◌}
use Rattle.std.specs.Prelude.{nat_lt, is_none}
use Rattle.std.specs.List.{filter, dedup}
use Rattle.std.proofs.lemmas.List.Filters.{dedup_is}
use Rattle.std.proofs.lemmas.Map.Keys.{IsStrictlyIncreasing-dedup}
use Rattle.ssa_lowered.specs.Data.{layout}
use Rattle.ssa_lowered.specs.Lowered.{variable_of, in_register}
use Rattle.ssa_assigned.specs.Registers.{kept, registers_in}
use Rattle.ssa_assigned.proofs.Kept.{chosen_is, has_sorted, in_register_is}
use Rattle.ssa_assigned.proofs.joins.registers.Goals as goal

pub returns : goal.returns
returns c = λ p here s mask m env len.
    let keep = kept c.args.t.now c.args.count in
    let ys = c.sort_unstable.new.self.items in
    let reg : ℕ → Bool = λ x. in_register p (layout p.types) here (variable_of p (layout p.types) here x).site in
    let distinct = dedup_is (λ a b. a == b) ys c.dedup.new.self.items c.dedup.ensures.filtered in
    c.in_ok-list.ensures ∙ ap (filter keep) (c.as_slice.ensures.value ∙ distinct)
    ∙ chosen_is keep reg (registers_in p here mask) env (dedup (λ a b. a == b) ys) (IsStrictlyIncreasing-dedup ys c.sort_unstable.ensures.sorted)
    (λ j. ap (λ b. reg j && b) (sym (has_sorted c.args.found.items ys j c.sort_unstable.ensures.permutation ∙ m j)))
    (λ x. ap₂ (λ n b. nat_lt x n && b) (sym len) (ap is_none (s.local x) ∙ in_register_is p (layout p.types) here here.bytes (variable_of p (layout p.types) here x).site))
