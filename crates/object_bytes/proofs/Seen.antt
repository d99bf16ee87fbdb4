-- The relation goes by what is seen of the objects.
use Rattle.std.proofs.Common.{◌≡◌, ℕ, ◌+◌, List, sym, ap, ◌∙◌, subst}
use Rattle.a64_memory.specs.Memory.{Area, covers}
use Rattle.object_bytes.specs.Layouts.{Fine}
use Rattle.object_bytes.specs.Objects.{Objects, Placing, Means, load, Clear, Kept}

-- two stores of the same objects with the same cells
pub kept_seen : (o q : Objects) (p : Placing) (m : List Area) → ((k : ℕ) → q.form k ≡ o.form k) → ((k c : ℕ) → q.cell k c ≡ o.cell k c) → Kept o p m → Kept q p m
kept_seen o q p m forms cells h = record {
  holds = λ k a c s at is. subst (λ v. Means p v (load s.small m (a + s.at))) (sym (cells k c)) (h.holds k a c s at (ap (λ b. b.spot c) (sym (forms k)) ∙ is));
  room = λ k a at. ap (λ b. covers m a b.bytes) (forms k) ∙ h.room k a at;
  fine = λ k a at. subst (λ b. Fine b) (sym (forms k)) (h.fine k a at);
  apart = λ j k a b ne u v. subst (λ f. Clear a f.bytes b (q.form k).bytes) (sym (forms j)) (subst (λ f. Clear a (o.form j).bytes b f.bytes) (sym (forms k)) (h.apart j k a b ne u v));
  pointed = h.pointed;
  areas = h.areas;
  bytes = h.bytes;
}
