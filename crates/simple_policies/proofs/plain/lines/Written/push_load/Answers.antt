use Rattle.std.proofs.Common.{ℕ, List, ◌≡◌, ◌≢◌, ◌∙◌, ap, arith, length}
use Rattle.std.proofs.lemmas.Grind.{common_steps}
use Rattle.simple_policies.specs.plain.Plain.{index_of}
use Rattle.simple_policies.proofs.plain.Walked.{load_new, loaded_new, load_old, loaded_old}
use Rattle.simple_policies.proofs.plain.lines.Written.push_load.Goals as goal

pub returns-in_ok-push-3-clause-lines : goal.returns-in_ok-push-3-clause-lines
returns-in_ok-push-3-clause-lines c =
    let i : c.index_of-index.result ≡ index_of c.args.self.now.loaded.items c.args.value = c.index_of-index.ensures ∙ ap (λ (x : List ℕ). index_of x c.args.value) c.as_slice.ensures.value in
    let l : c.index_of-index.result ≡ length c.args.self.now.loaded.items = grind (arith, common_steps) in
    let r : c.in-Ok.reg ≡ c.index_of-index.result = grind (arith, common_steps) in
    load_new c.args.self.now.loaded.items c.args.value c.in-Ok.reg c.index_of-index.result c.args.self.now.lines.items c.push-then-index-len.new.self.items i l r c.in_ok-push-2.ensures.items

pub returns-in_ok-push-3-clause-loaded : goal.returns-in_ok-push-3-clause-loaded
returns-in_ok-push-3-clause-loaded c =
    let i : c.index_of-index.result ≡ index_of c.args.self.now.loaded.items c.args.value = c.index_of-index.ensures ∙ ap (λ (x : List ℕ). index_of x c.args.value) c.as_slice.ensures.value in
    let l : c.index_of-index.result ≡ length c.args.self.now.loaded.items = grind (arith, common_steps) in
    loaded_new c.args.self.now.loaded.items c.push-then-index-len-2.new.self.items c.args.value c.index_of-index.result i l c.in_ok-push-3.ensures.items

pub returns-else-index-len-clause-lines : goal.returns-else-index-len-clause-lines
returns-else-index-len-clause-lines c =
    let i : c.index_of-index.result ≡ index_of c.args.self.now.loaded.items c.args.value = c.index_of-index.ensures ∙ ap (λ (x : List ℕ). index_of x c.args.value) c.as_slice.ensures.value in
    let ne : c.index_of-index.result ≢ length c.args.self.now.loaded.items = grind (arith, common_steps) in
    load_old c.args.self.now.loaded.items c.args.value c.index_of-index.result c.args.self.now.lines.items i ne

pub returns-else-index-len-clause-loaded : goal.returns-else-index-len-clause-loaded
returns-else-index-len-clause-loaded c =
    let i : c.index_of-index.result ≡ index_of c.args.self.now.loaded.items c.args.value = c.index_of-index.ensures ∙ ap (λ (x : List ℕ). index_of x c.args.value) c.as_slice.ensures.value in
    let ne : c.index_of-index.result ≢ length c.args.self.now.loaded.items = grind (arith, common_steps) in
    loaded_old c.args.self.now.loaded.items c.args.value c.index_of-index.result i ne
