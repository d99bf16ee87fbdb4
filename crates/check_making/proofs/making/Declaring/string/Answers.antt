use Rattle.check_making.proofs.Growing.{settled_with, makes_with}
use Rattle.std.proofs.Common.{◌≡◌, ℕ, List, ◌∷◌, ◌++◌, [], length, get_or, refl, ap, ◌∙◌, sym}
use Rattle.ob_judge.specs.Image.{Chars}
use Rattle.ob_judge.specs.Scopes.{AConstant}
use Rattle.check_making.proofs.making.Declaring.string.Goals as goal

last_there : (ss : List (List ℕ)) (s : List ℕ) → get_or (ss ++ s ∷ []) (length ss) [] ≡ s
last_there [] s = refl
last_there (x ∷ ss) s = last_there ss s

last_still : (ss more : List (List ℕ)) (s : List ℕ) → get_or ((ss ++ s ∷ []) ++ more) (length ss) [] ≡ s
last_still [] more s = refl
last_still (x ∷ ss) more s = last_still ss more s

is_there : (ss new : List (List ℕ)) (n : ℕ) (s : List ℕ) → n ≡ length ss → new ≡ ss ++ s ∷ [] → get_or new n [] ≡ s
is_there ss new n s at is = ap (λ k. get_or new k []) at ∙ ap (λ xs. get_or xs (length ss) []) is ∙ last_there ss s

still_there : (ss more new : List (List ℕ)) (n : ℕ) (s : List ℕ) → n ≡ length ss → new ≡ ss ++ s ∷ [] → get_or (new ++ more) n [] ≡ s
still_there ss more new n s at is = ap (λ k. get_or (new ++ more) k []) at ∙ ap (λ xs. get_or (xs ++ more) (length ss) []) is ∙ last_still ss more s

pub returns-clause-settled : goal.returns-clause-settled
returns-clause-settled c =
    settled_with c.args.round.now c.args.self.now c.requires.settled c.push.new.self _ c.in_ok-push.ensures.items c.push-2.new.self (c.args.place ∷ []) c.in_ok-push-2.ensures.items
    (c.requires.place, tt)

pub returns-clause-makes : goal.returns-clause-makes
returns-clause-makes c = λ m makes. makes_with c.args.round.now c.args.self.now c.requires.settled c.push.new.self _ c.in_ok-push.ensures.items c.push-2.new.self _ c.in_ok-push-2.ensures.items m makes

pub returns-clause-stays : goal.returns-clause-stays
returns-clause-stays c =
    let ss = c.args.self.now.strings.items in
    let at : c.in_ok-n.n ≡ length ss = c.in_ok-n.ensures.number ∙ ap length c.deref.ensures.value in
    record {
      object = λ u more grows. ap (λ x. AConstant (Chars x))
          (still_there ss more c.push.new.self.items c.in_ok-n.n c.args.characters at c.in_ok-push.ensures.items
          ∙ sym (is_there ss c.push.new.self.items c.in_ok-n.n c.args.characters at c.in_ok-push.ensures.items));
    }

pub returns-clause-means : goal.returns-clause-means
returns-clause-means c =
    let ss = c.args.self.now.strings.items in
    ap (λ x. Chars x)
    (is_there ss c.push.new.self.items c.in_ok-n.n c.args.characters (c.in_ok-n.ensures.number ∙ ap length c.deref.ensures.value) c.in_ok-push.ensures.items)
